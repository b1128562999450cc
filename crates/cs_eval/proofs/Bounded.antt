-- The order and the window of a query by their parts.
use Rattle.std.proofs.Common.{◌≡◌, ◌<◌, ◌≤◌, ◌+◌, ℕ, zero, suc, Bool, true, false, cond, ◌&&◌, List, [], ◌∷◌, take, map, length, get_or, slice_get, option_and_then, arith, refl, sym, ap, ◌∙◌, not, is_gt, Ordering, Option, Some, None}
use Rattle.std.specs.Prelude.{IfSome, IfOk, Result, Ok, Err, filter}
use Rattle.std.specs.Option.{is_some, option_map, option_map_or}
use Rattle.std.proofs.lemmas.Option.{slice_get-get_or}
use Rattle.std.proofs.lemmas.List.{length-map}
use Rattle.cs_value.specs.Tree.{Tree, Pairs, null}
use Rattle.cs_syntax.specs.Expression.{Expression, chain, everything, bracket, attr, deref, each, slice, project, pipe, Step, Steps, no_steps, more_steps, OrderKeys}
use Rattle.cs_plan.specs.Steps.{bracketed, condition, is_order_name}
use Rattle.cs_plan.specs.Simple.{is_condition, is_quiet, quiet_keys, tail_of, steps_behind}
use Rattle.cs_meaning.specs.Ordered.{Ranked, by_keys, ranked, directions}
use Rattle.cs_meaning.specs.Values.{is_pipe, keys_values}
use Rattle.cs_order.specs.Asked.{first_asked}
use Rattle.cs_window.specs.Windowed.{is_windowed}
use Rattle.cs_window.specs.Window.{Window, window, window_of, by_order, is_near, keys_at, not_behind, order_keys, order_of}
use Rattle.cs_window.proofs.Parted.{sorted-many}

pub order_taken : (s : Step) (ss : Steps) (name : List ℕ) (ks : OrderKeys) → s ≡ pipe name ks → is_order_name name ≡ true → order_of (more_steps s ss) ≡ Some ks
order_taken s ss name ks is h = ap (λ (x : Step). order_of (more_steps x ss)) is ∙ ap (λ (b : Bool). cond b (Some ks) None) h

pub order_left : (s : Step) (ss : Steps) (name : List ℕ) (ks : OrderKeys) → s ≡ pipe name ks → is_order_name name ≡ false → order_of (more_steps s ss) ≡ None
order_left s ss name ks is h = ap (λ (x : Step). order_of (more_steps x ss)) is ∙ ap (λ (b : Bool). cond b (Some ks) None) h

pub no_order : (s : Step) (ss : Steps) → is_pipe s ≡ false → order_of (more_steps s ss) ≡ None
no_order (pipe name ks) ss h = cc
no_order (attr x) ss h = refl
no_order deref ss h = refl
no_order each ss h = refl
no_order (slice from to closed) ss h = refl
no_order (bracket e) ss h = refl
no_order (project es) ss h = refl

pub ruleset order = (order_taken, order_left, no_order)

-- an order, and behind it a step that says how many it looks at, are a window
pipe_window : (name : List ℕ) (ks ks' : OrderKeys) (ss : Steps) (b : Bool) (asked : Option ℕ) (k : ℕ) → cond b (Some ks) None ≡ Some ks' → asked ≡ Some k
    → option_map (λ (w : Window). w.many) (cond b (option_map (λ (n : ℕ). let r : Window = record { keys = ks; many = n } in r) asked) None) ≡ Some k
pipe_window name ks ks' ss true asked k h is = ap (λ (o : Option ℕ). option_map (λ (w : Window). w.many) (option_map (λ (n : ℕ). let r : Window = record { keys = ks; many = n } in r) o)) is
pipe_window name ks ks' ss false asked k h is = cc

steps_window : (ss : Steps) (ks : OrderKeys) (k : ℕ) → order_of ss ≡ Some ks → first_asked (tail_of ss) ≡ Some k → option_map (λ (w : Window). w.many) (window_of ss) ≡ Some k
steps_window no_steps ks k h is = cc
steps_window (more_steps (pipe name ks') ss) ks k h is = pipe_window name ks' ks ss (is_order_name name) (first_asked ss) k h is
steps_window (more_steps (attr x) ss) ks k h is = cc
steps_window (more_steps deref ss) ks k h is = cc
steps_window (more_steps each ss) ks k h is = cc
steps_window (more_steps (slice from to closed) ss) ks k h is = cc
steps_window (more_steps (bracket e) ss) ks k h is = cc
steps_window (more_steps (project es) ss) ks k h is = cc

pub query_window : (e f : Expression) (later : Steps) (ks : OrderKeys) (k : ℕ) → e ≡ chain everything (more_steps (bracket f) later) → order_of later ≡ Some ks → first_asked (tail_of later) ≡ Some k
    → option_map (λ (w : Window). w.many) (window e) ≡ Some k
query_window e f later ks k is order asked = ap (λ (x : Expression). option_map (λ (w : Window). w.many) (window x)) is ∙ steps_window later ks k order asked

-- such a query is windowed where what is asked is quiet
pipe_quiet : (name : List ℕ) (ks ks' : OrderKeys) (b : Bool) (asked : Option ℕ) (k : ℕ) → cond b (Some ks) None ≡ Some ks' → asked ≡ Some k → quiet_keys ks' ≡ true
    → option_map_or (λ (w : Window). quiet_keys w.keys) (cond b (option_map (λ (n : ℕ). let r : Window = record { keys = ks; many = n } in r) asked) None) false ≡ true
pipe_quiet name ks ks' true None k h is q = cc
pipe_quiet name ks ks' true (Some n) k h is q = let same : ks ≡ ks' = cc in ap quiet_keys same ∙ q
pipe_quiet name ks ks' false asked k h is q = cc

steps_quiet : (ss : Steps) (ks : OrderKeys) (k : ℕ) → order_of ss ≡ Some ks → first_asked (tail_of ss) ≡ Some k → quiet_keys ks ≡ true → option_map_or (λ (w : Window). quiet_keys w.keys) (window_of ss) false ≡ true
steps_quiet no_steps ks k h is q = cc
steps_quiet (more_steps (pipe name ks') ss) ks k h is q = pipe_quiet name ks' ks (is_order_name name) (first_asked ss) k h is q
steps_quiet (more_steps (attr x) ss) ks k h is q = cc
steps_quiet (more_steps deref ss) ks k h is q = cc
steps_quiet (more_steps each ss) ks k h is q = cc
steps_quiet (more_steps (slice from to closed) ss) ks k h is q = cc
steps_quiet (more_steps (bracket e) ss) ks k h is q = cc
steps_quiet (more_steps (project es) ss) ks k h is q = cc

all-three : (a b c : Bool) → a ≡ true → b ≡ true → c ≡ true → (a && (b && c)) ≡ true
all-three a b c f g h = cc

pub query_windowed : (e f : Expression) (later : Steps) (ks : OrderKeys) (asked : Option ℕ) → e ≡ chain everything (more_steps (bracket f) later) → bracketed f ≡ condition → is_quiet f ≡ true
    → order_of later ≡ Some ks → IfSome asked (λ k. first_asked (tail_of later) ≡ Some k) → is_some asked ≡ true → quiet_keys ks ≡ true → is_windowed e ≡ true
query_windowed e f later ks None is c q order found some quiet = cc
query_windowed e f later ks (Some k) is c q order found some quiet =
    ap is_windowed is
    ∙ all-three (is_condition (bracketed f)) (is_quiet f) (option_map_or (λ (w : Window). quiet_keys w.keys) (window_of later) false) (ap is_condition c) q (steps_quiet later ks k order found quiet)

pub steps_later : (e f : Expression) (later : Steps) → e ≡ chain everything (more_steps (bracket f) later) → tail_of (steps_behind e) ≡ later
steps_later e f later is = ap (λ (x : Expression). tail_of (steps_behind x)) is

-- the last of the first elements stands at the last place
in_first : {A : Type 0} (xs : List A) (n : ℕ) (v : A) → slice_get (take (suc n) xs) n ≡ Some v → slice_get xs n ≡ Some v
in_first [] n v h = h
in_first (x ∷ xs) zero v h = h
in_first (x ∷ xs) (suc n) v h = in_first xs n v h

last_taken : {A : Type 0} (xs ys : List A) (place : ℕ) (d : A) → ys ≡ take (place + 1) xs → place < length ys → slice_get xs place ≡ Some (get_or ys place d)
last_taken xs ys place d is low =
    let next : place + 1 ≡ suc place = omega arith in
    in_first xs place (get_or ys place d)
    (sym (ap (λ us. slice_get us place) (is ∙ ap (λ (k : ℕ). take k xs) next)) ∙ slice_get-get_or ys place d low)

-- what the last of the first of an order is ranked by is what stands at the last place
pub keys_found : (e : Expression) (params : Pairs) (ds : List Tree) (place : ℕ) (ks : OrderKeys) (later : Steps) (rs : List Ranked) (r : Ranked) → tail_of (steps_behind e) ≡ later → order_of later ≡ Some ks
    → rs ≡ take (place + 1) (by_order ks params ds) → place < length rs → get_or rs place r ≡ r → Some r.by ≡ keys_at e params ds place
keys_found e params ds place ks later rs r behind order is low at =
    let sought : OrderKeys → Option (List Tree) = λ (x : OrderKeys). option_map (λ (y : Ranked). y.by) (slice_get (by_order x params ds) place) in
    sym (ap (option_and_then sought) (ap order_of behind ∙ order)
    ∙ ap (option_map (λ (y : Ranked). y.by)) (last_taken (by_order ks params ds) rs place r is low ∙ ap Some at))

-- no fewer than the documents give are the first of an order
taken_many : {A : Type 0} (k : ℕ) (xs : List A) → k ≤ length xs → length (take k xs) ≡ k
taken_many zero xs h = refl
taken_many (suc k) [] h = absurd (omega (arith, h))
taken_many (suc k) (x ∷ xs) h = omega (arith, taken_many k xs (omega (arith, h)))

many_ranked : (f : Tree → List Tree) (ds : List Tree) → length (map (ranked f) ds) ≡ length ds
many_ranked f ds = length-map ds (ranked f)

pub first_many : (ks : OrderKeys) (params : Pairs) (ds : List Tree) (place : ℕ) (rs : List Ranked) → rs ≡ take (place + 1) (by_order ks params ds) → place < length ds → place < length rs
first_many ks params ds place rs is low =
    let f = order_keys ks params in
    let all : length (by_order ks params ds) ≡ length ds = sorted-many (directions ks) (map (ranked f) ds) ∙ many_ranked f ds in
    let some : length (take (place + 1) (by_order ks params ds)) ≡ place + 1 = taken_many (place + 1) (by_order ks params ds) (omega (arith, all, low)) in
    let many : length rs ≡ place + 1 = ap (λ (us : List Ranked). length us) is ∙ some in
    omega (arith, many)

pub if_ok_then : {A E : Type 0} (r : Result A E) {P Q : A → Type 0} → ((x : A) → P x → Q x) → IfOk r P → IfOk r Q
if_ok_then (Ok x) f h = f x h
if_ok_then (Err x) f h = tt

-- the documents near a bound, by the keys of the order that stands there
module _ (e : Expression) (params : Pairs) where
  abbrev near_ones : Option OrderKeys → List Tree → List Tree → List Tree
  near_ones o bound ds = filter (λ d. option_map_or (λ ks. not_behind ks bound (order_keys ks params d)) o true) ds

  pub near_by : (ds : List Tree) (ks : OrderKeys) (were are : List Tree) → order_of (tail_of (steps_behind e)) ≡ Some ks → were ≡ are
      → filter (λ d. not_behind ks were (order_keys ks params d)) ds ≡ filter (is_near e params are) ds
  near_by ds ks were are is same =
      ap (λ (b : List Tree). near_ones (Some ks) b ds) same ∙ sym (ap (λ (o : Option OrderKeys). near_ones o are ds) is)

  pub near_one : (ks : OrderKeys) (were are : List Tree) (this d : Tree) → order_of (tail_of (steps_behind e)) ≡ Some ks → were ≡ are → this ≡ d
      → not_behind ks were (order_keys ks params this) ≡ is_near e params are d
  near_one ks were are this d is same one =
      ap (λ (b : List Tree). not_behind ks b (order_keys ks params this)) same
      ∙ (ap (λ (t : Tree). not_behind ks are (order_keys ks params t)) one
      ∙ sym (ap (λ (o : Option OrderKeys). option_map_or (λ ks. not_behind ks are (order_keys ks params d)) o true) is))

-- a comparison of keys tells whether what has them stands behind a bound
pub by_bound : (params : Pairs) (ks : OrderKeys) (bound : List Tree) (d : Tree) (ds : List Bool) (sc keys : List Tree) (o : Ordering) → ds ≡ directions ks → sc ≡ null ∷ [] → keys ≡ keys_values [] params ks (d ∷ sc)
    → o ≡ by_keys ds keys bound → not (is_gt o) ≡ not_behind ks bound (order_keys ks params d)
by_bound params ks bound d ds sc keys o dirs root found is =
    ap (λ (r : Ordering). not (is_gt r))
    (is ∙ (ap (λ (xs : List Tree). by_keys ds xs bound) (found ∙ ap (λ (s : List Tree). keys_values [] params ks (d ∷ s)) root)
    ∙ ap (λ (x : List Bool). by_keys x (order_keys ks params d) bound) dirs))
