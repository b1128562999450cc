-- The listeners of a store, and why one is not taken: Sanity's HTTP documentation, "Listening", in
-- this project's profile.
use Rattle.std.specs.Prelude.{◌≡◌, ◌≤◌, ◌<◌, ℕ, List, [], ◌∷◌, ◌++◌, length, map, filter, Bool, true, false, not, Option, None, option_map, IsSome}
use Rattle.std.specs.List.{list_any}
use Rattle.std.specs.Str.{bytes_eq}
use Rattle.cs_value.specs.Tree.{Pairs}
use Rattle.cs_value.specs.View.{fields}
use Rattle.cs_syntax.specs.Expression.{Expression}
use Rattle.cs_plain.specs.Plain.{listened_filter}
use Rattle.cs_plain.specs.Predicates.{filter as filter_of}
use Rattle.cs_interest.specs.Limits.{most_subscriptions}
use Rattle.cs_listen.specs.Events.{Listener}
use Rattle.cs_listen.specs.declared.listening.Listening.{Listening}
use Rattle.cs_listen.specs.declared.listeners.Listeners.{Listeners}
use Rattle.cs_listen.specs.declared.listeners.ListenFault.{ListenFault}
use Rattle.cs_listen.specs.declared.listeners.ListenFault.TheVariants.{NotListenable, NameUsed, Full, NoMemory}

abbrev pub listener : Listening → Listener
listener l = record {
  name = l.name;
  filter = filter_of l.predicate;
  params = fields l.params;
  with_result = l.include_result;
  with_previous = l.include_previous;
}

-- in the order made
abbrev pub listeners : Listeners → List Listener
listeners ls = map listener ls.made.items

abbrev pub has_name : List ℕ → Listener → Bool
has_name name l = bytes_eq name l.name

-- a listener has the name
abbrev pub is_listening : List ℕ → List Listener → Bool
is_listening name ls = list_any (has_name name) ls

-- the others, in their order
abbrev pub without : List ℕ → List Listener → List Listener
without name ls = filter (λ l. not (has_name name l)) ls

-- the listeners and one more, the last
abbrev pub with_one :
    List ℕ → Expression → Pairs → Bool → Bool → List Listener → List Listener
with_one name f params result previous ls = ls ++ record {
  name = name;
  filter = f;
  params = params;
  with_result = result;
  with_previous = previous;
} ∷ []

-- the same with the filter that a query stands for; none where a listener may not have the query
abbrev pub with_query :
    List ℕ → Expression → Pairs → Bool → Bool → List Listener → Option (List Listener)
with_query name q params result previous ls =
    option_map (λ f. with_one name f params result previous ls) (listened_filter q)

-- the name is free, and there is room
pub record HasRoom (name : List ℕ) (ls : List Listener) : Type 0 where
  pub free : is_listening name ls ≡ false
  pub room : length ls < most_subscriptions

-- what each fault says of the name and the listeners
abbrev pub NotTaken : List ℕ → List Listener → ListenFault → Type 0
NotTaken name ls NotListenable = true ≡ false
NotTaken name ls NameUsed = is_listening name ls ≡ true
NotTaken name ls Full = (is_listening name ls ≡ false) × (most_subscriptions ≤ length ls)
NotTaken name ls NoMemory = HasRoom name ls

-- what each fault says of the query too
abbrev pub NotAdded : List ℕ → Expression → List Listener → ListenFault → Type 0
NotAdded name q ls NotListenable = listened_filter q ≡ None
NotAdded name q ls fault = IsSome (listened_filter q) × NotTaken name ls fault
