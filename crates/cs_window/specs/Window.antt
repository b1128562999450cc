-- The window of a query: the first documents in the order that stands behind its filter, which are
-- all that its answer is made of. This project's profile.
use Rattle.std.specs.Prelude.{◌≡◌, ◌≤◌, ℕ, Bool, true, filter, length, List, [], ◌∷◌, map, take, not, Option, Some, None, option_and_then, slice_get, if◌then◌else◌}
use Rattle.std.specs.Option.{option_map, option_map_or}
use Rattle.std.specs.Ordering.{is_gt}
use Rattle.cs_value.specs.Tree.{Tree, null, Pairs}
use Rattle.cs_syntax.specs.Expression.{Expression, pipe, Steps, more_steps, OrderKeys}
use Rattle.cs_plan.specs.Steps.{is_order_name}
use Rattle.cs_plan.specs.Simple.{tail_of, steps_behind}
use Rattle.cs_meaning.specs.Ordered.{Ranked, by_keys, sorted, ranked, directions}
use Rattle.cs_meaning.specs.Values.{keys_values}
use Rattle.cs_order.specs.Asked.{first_asked}

-- The keys of an order, and how many of the first documents in this order are looked at.
pub record Window : Type 0 where
  pub keys : OrderKeys
  pub many : ℕ

-- A piped order, and behind it a step that looks at the first few elements alone.
abbrev pub window_of : Steps → Option Window
window_of (more_steps (pipe name ks) ss) = if is_order_name name
    then option_map (λ n. record { keys = ks; many = n }) (first_asked ss) else None
window_of _ = None

-- The window of a query whose filter such steps stand behind.
abbrev pub window : Expression → Option Window
window e = window_of (tail_of (steps_behind e))

-- What a document is ordered by. No dataset is asked.
abbrev pub order_keys : OrderKeys → Pairs → Tree → List Tree
order_keys ks params d = keys_values [] params ks (d ∷ null ∷ [])

-- The keys of the order that stands first among steps.
abbrev pub order_of : Steps → Option OrderKeys
order_of (more_steps (pipe name ks) ss) = if is_order_name name then Some ks else None
order_of _ = None

-- One with these keys does not stand behind a bound.
abbrev pub not_behind : OrderKeys → List Tree → List Tree → Bool
not_behind ks bound keys = not (is_gt (by_keys (directions ks) keys bound))

-- A document does not stand behind a bound, in the order that stands first behind the filter of a
-- query; where none stands there each document is near.
abbrev pub is_near : Expression → Pairs → List Tree → Tree → Bool
is_near e params bound d =
    option_map_or (λ ks. not_behind ks bound (order_keys ks params d))
    (order_of (tail_of (steps_behind e))) true

-- Documents in an order, each beside what it is ordered by.
abbrev pub by_order : OrderKeys → Pairs → List Tree → List Ranked
by_order ks params ds = sorted (directions ks) (map (ranked (order_keys ks params)) ds)

-- The first documents in the order.
abbrev pub first_in : Window → Pairs → List Tree → List Tree
first_in w params ds = map (λ x. x.item) (take w.many (by_order w.keys params ds))

-- What the document at a place of the order is ordered by, where an order stands first behind the
-- filter of a query.
abbrev pub keys_at : Expression → Pairs → List Tree → ℕ → Option (List Tree)
keys_at e params ds place =
    option_and_then (λ ks. option_map (λ x. x.by) (slice_get (by_order ks params ds) place))
    (order_of (tail_of (steps_behind e)))

-- Of these documents no fewer than the query's window has do not stand behind the bound.
pub record IsBound (e : Expression) (params : Pairs) (bound ds : List Tree) : Type 0 where
  pub within : Window
  pub is : window e ≡ Some within
  pub enough : within.many ≤ length (filter (is_near e params bound) ds)
