-- What the commands of a script's lines say, key by key: this project's profile.
use Rattle.std.specs.Prelude.{ℕ, List, ◌++◌, map, Bool, false, ◌&&◌, Option, Some, None, is_some, option_map, option_and_then, if◌then◌else◌, codes}
use Rattle.std.specs.List.{list_all, list_any}
use Rattle.std.specs.Str.{bytes_eq}
use Rattle.cs_value.specs.Tree.{Tree, Pairs, no_pairs, attributes}
use Rattle.cs_value.specs.Pairs.{find}
use Rattle.cs_value.specs.Words.{as_text, as_boolean, as_object}
use Rattle.cs_value.specs.Id.{is_id}

-- what a command asks for: a text stands as its bytes, and parameters by their names
pub data Request : Type 0 where
  mutate : Tree → Request
  query : List ℕ → Pairs → Request
  live : List ℕ → List ℕ → Pairs → Request
  listen : List ℕ → List ℕ → Pairs → Bool → Bool → Request
  stop : List ℕ → Request
  at : List ℕ → Request

abbrev pub is_among : List ℕ → List (List ℕ) → Bool
is_among k ks = list_any (bytes_eq k) ks

abbrev pub key_names : Pairs → List (List ℕ)
key_names ps = map (λ p. p.0) (attributes ps)

-- every key that must be there is there, and there is no key but these and those that may be
abbrev pub has_keys : (must may : List (List ℕ)) → Pairs → Bool
has_keys must may ps =
    list_all (λ k. is_some (find k ps)) must
    && list_all (λ k. is_among k (must ++ may)) (key_names ps)

abbrev pub text_in : List ℕ → Pairs → Option (List ℕ)
text_in k ps = option_and_then as_text (find k ps)

-- a name has the form of an id
abbrev pub as_name : List ℕ → Option (List ℕ)
as_name s = if is_id s then Some s else None

abbrev pub name_in : List ℕ → Pairs → Option (List ℕ)
name_in k ps = option_and_then as_name (text_in k ps)

-- what an absent key stands for, or how the value of one that is there is read
abbrev pub value_or : {A : Type 0} → A → (Tree → Option A) → Option Tree → Option A
value_or absent read None = Some absent
value_or absent read (Some t) = read t

-- the parameters are an object, and none are given where the key is absent
abbrev pub params_in : Pairs → Option Pairs
params_in ps = value_or no_pairs as_object (find (codes "params") ps)

-- an absent boolean is false
abbrev pub flag_in : List ℕ → Pairs → Option Bool
flag_in k ps = value_or false as_boolean (find k ps)

-- a function of one part more, where the part is there
abbrev pub given : {A B : Type 0} → Option (A → B) → Option A → Option B
given None part = None
given (Some f) part = option_map f part

-- the command of an object's parts, row by row
abbrev pub mutate_of : Pairs → Option Request
mutate_of ps = given (Some (λ body. mutate body)) (find (codes "mutate") ps)

abbrev pub query_of : Pairs → Option Request
query_of ps =
    given (given (Some (λ text params. query text params))
    (text_in (codes "query") ps))
    (params_in ps)

abbrev pub live_of : Pairs → Option Request
live_of ps =
    given (given (given (Some (λ name text params. live name text params))
    (name_in (codes "live") ps))
    (text_in (codes "query") ps))
    (params_in ps)

abbrev pub listen_of : Pairs → Option Request
listen_of ps =
    given (given
    (given (given
    (given (Some (λ name text params result previous. listen name text params result previous))
    (name_in (codes "listen") ps))
    (text_in (codes "query") ps))
    (params_in ps))
    (flag_in (codes "includeResult") ps))
    (flag_in (codes "includePrevious") ps)

abbrev pub stop_of : Pairs → Option Request
stop_of ps = given (Some (λ name. stop name)) (name_in (codes "stop") ps)

abbrev pub at_of : Pairs → Option Request
at_of ps = given (Some (λ moment. at moment)) (text_in (codes "at") ps)
