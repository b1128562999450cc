-- The tails of queries with a window.
use Rattle.std.proofs.Common.{◌≡◌, ℕ, suc, ◌+◌, ◌<◌, ◌≤◌, option_and_then, slice_get, Bool, true, false, cond, List, [], ◌∷◌, take, map, length, get_or, arith, refl, sym, ap, subst, ◌∙◌, is_gt, Option, Some, None}
use Rattle.std.specs.Prelude.{filter, not}
use Rattle.std.specs.Option.{option_map, option_map_or}
use Rattle.std.proofs.lemmas.Cmp.{upto}
use Rattle.std.proofs.lemmas.List.{take-map}
use Rattle.std.proofs.lemmas.Option.{get_or_from_slice_get, slice_get_within}
use Rattle.std.proofs.lemmas.Bool.{not-true}
use Rattle.cs_value.specs.Words.{list_of}
use Rattle.cs_value.specs.Tree.{Tree, null, Pairs}
use Rattle.cs_value.proofs.Views.{members-trees}
use Rattle.cs_syntax.specs.Expression.{Expression, attr, deref, each, slice, bracket, project, pipe, Steps, no_steps, more_steps, OrderKeys}
use Rattle.cs_plan.specs.Steps.{is_order_name}
use Rattle.cs_plan.specs.Simple.{tail_of, steps_behind}
use Rattle.cs_ops.proofs.Ranked.{total-laws}
use Rattle.cs_meaning.specs.Hits.{tail}
use Rattle.cs_meaning.specs.Joining.{kind, entrance, entered}
use Rattle.cs_meaning.specs.Ordered.{Ranked, by_keys, ranks, ranked, sorted, in_order, ordered, directions}
use Rattle.cs_meaning.specs.Values.{rest_value, pipes_value}
use Rattle.cs_meaning.proofs.Sorting.{ranks-total}
use Rattle.cs_meaning.proofs.Sound.{filter-within}
use Rattle.cs_order.specs.Asked.{first_asked}
use Rattle.cs_order.specs.First.{first_elements}
use Rattle.cs_order.proofs.Enters.{first_enters, first-of-list}
use Rattle.cs_window.specs.Window.{Window, window, window_of, order_of, order_keys, not_behind, is_near, by_order, first_in, keys_at, IsBound}
use Rattle.cs_window.specs.Laws.{IsClosed}
use Rattle.cs_window.proofs.Parted.{all-pass, first-same, last-passes, not-above, sorted-many}

abbrev entered_rest : Pairs → Steps → Tree → Tree
entered_rest params ss v = entered (entrance (kind ss)) (rest_value [] params ss (null ∷ [])) v

-- the first of a list that is ordered
pub first-ordered : (ds : List Bool) (f : Tree → List Tree) (k : ℕ) (ts : List Tree)
    → first_elements (Some k) (ordered ds f (list_of ts)) ≡ list_of (map (λ (x : Ranked). x.item) (take k (sorted ds (map (ranked f) ts))))
first-ordered ds f k ts =
    ap (λ (us : List Tree). first_elements (Some k) (in_order ds (map (ranked f) us))) (members-trees ts)
    ∙ (first-of-list (Some k) (map (λ (x : Ranked). x.item) (sorted ds (map (ranked f) ts)))
    ∙ ap list_of (take-map (λ (x : Ranked). x.item) k (sorted ds (map (ranked f) ts))))

-- the rest behind an order looks at the first alone
rest-first : (params : Pairs) (ks : OrderKeys) (ss : Steps) (k : ℕ) (ts : List Tree) → first_asked ss ≡ Some k
    → entered_rest params ss (ordered (directions ks) (order_keys ks params) (list_of ts))
    ≡ entered_rest params ss (list_of (first_in (record { keys = ks; many = k }) params ts))
rest-first params ks ss k ts h =
    sym (first_enters [] params ss (null ∷ []) (Some k) (ordered (directions ks) (order_keys ks params) (list_of ts)) h)
    ∙ ap (entered_rest params ss) (first-ordered (directions ks) (order_keys ks params) k ts)

abbrev tail_value : Pairs → Steps → List Tree → Tree
tail_value params ss ts = pipes_value [] params ss (null ∷ []) (entered_rest params ss (list_of ts))

pipe-first : (params : Pairs) (name : List ℕ) (ks : OrderKeys) (ss : Steps) (w : Window) (ts : List Tree) (b : Bool) (asked : Option ℕ) → is_order_name name ≡ b → first_asked ss ≡ asked
    → cond b (option_map (λ (n : ℕ). let r : Window = record { keys = ks; many = n } in r) asked) None ≡ Some w
    → tail_value params (more_steps (pipe name ks) ss) ts ≡ tail_value params ss (first_in w params ts)
pipe-first params name ks ss w ts false asked e k h = cc
pipe-first params name ks ss w ts true None e k h = cc
pipe-first params name ks ss w ts true (Some n) e k h =
    let is : record { keys = ks; many = n } ≡ w = some-is _ w h in
    ap (λ (b : Bool). pipes_value [] params ss (null ∷ []) (entered_rest params ss (cond b (ordered (directions ks) (order_keys ks params) (list_of ts)) null))) e
    ∙ (ap (pipes_value [] params ss (null ∷ [])) (rest-first params ks ss n ts k)
    ∙ ap (λ (v : Window). tail_value params ss (first_in v params ts)) is)
  where
    some-is : (x y : Window) → Some x ≡ Some y → x ≡ y
    some-is x y h = cc

steps-first : (params : Pairs) (ss : Steps) (w : Window) (ts : List Tree) → window_of ss ≡ Some w
    → tail_value params ss ts ≡ tail_value params (tail_of ss) (first_in w params ts)
steps-first params no_steps w ts h = cc
steps-first params (more_steps (pipe name ks) ss) w ts h = pipe-first params name ks ss w ts (is_order_name name) (first_asked ss) refl refl h
steps-first params (more_steps (attr x) ss) w ts h = cc
steps-first params (more_steps deref ss) w ts h = cc
steps-first params (more_steps each ss) w ts h = cc
steps-first params (more_steps (slice from to closed) ss) w ts h = cc
steps-first params (more_steps (bracket e) ss) w ts h = cc
steps-first params (more_steps (project es) ss) w ts h = cc

pub tail-first : (e : Expression) (params : Pairs) (w : Window) (ts : List Tree) → window e ≡ Some w
    → tail e params ts ≡ tail_value params (tail_of (tail_of (steps_behind e))) (first_in w params ts)
tail-first e params w ts h = steps-first params (tail_of (steps_behind e)) w ts h

-- one that is not behind a bound passes with each that does not rank behind it
closed-near : (ks : OrderKeys) (bound : List Tree) → IsClosed (directions ks) (λ x. not_behind ks bound x.by)
closed-near ks bound x y h below =
    let ds = directions ks in
    let last : Ranked = record { by = bound; item = null } in
    ap not (upto (ranks-total total-laws ds) y x last below (not-true (is_gt (ranks ds x last)) h))

abbrev near : OrderKeys → Pairs → List Tree → Tree → Bool
near ks params bound d = not_behind ks bound (order_keys ks params d)

near-ranked : (ks : OrderKeys) (params : Pairs) (bound ts : List Tree)
    → filter (λ x. not_behind ks bound x.by) (map (ranked (order_keys ks params)) ts) ≡ map (ranked (order_keys ks params)) (filter (near ks params bound) ts)
near-ranked ks params bound [] = refl
near-ranked ks params bound (t ∷ ts) = either (near ks params bound t) (near-ranked ks params bound ts)
  where
    either : (b : Bool) → filter (λ x. not_behind ks bound x.by) (map (ranked (order_keys ks params)) ts) ≡ map (ranked (order_keys ks params)) (filter (near ks params bound) ts)
        → cond b (ranked (order_keys ks params) t ∷ filter (λ x. not_behind ks bound x.by) (map (ranked (order_keys ks params)) ts)) (filter (λ x. not_behind ks bound x.by) (map (ranked (order_keys ks params)) ts))
        ≡ map (ranked (order_keys ks params)) (cond b (t ∷ filter (near ks params bound) ts) (filter (near ks params bound) ts))
    either true h = ap (λ (us : List Ranked). ranked (order_keys ks params) t ∷ us) h
    either false h = h

as-many : {X K : Type 0} (f : X → K) (xs : List X) → length (map f xs) ≡ length xs
as-many f [] = refl
as-many f (x ∷ xs) = ap suc (as-many f xs)

near-many : (ks : OrderKeys) (params : Pairs) (bound ts : List Tree)
    → length (filter (λ x. not_behind ks bound x.by) (map (ranked (order_keys ks params)) ts)) ≡ length (filter (near ks params bound) ts)
near-many ks params bound ts = ap (λ (us : List Ranked). length us) (near-ranked ks params bound ts) ∙ as-many (ranked (order_keys ks params)) (filter (near ks params bound) ts)

first-near : (w : Window) (params : Pairs) (bound xs ys : List Tree)
    → filter (near w.keys params bound) xs ≡ filter (near w.keys params bound) ys
    → w.many ≤ length (filter (near w.keys params bound) xs) → first_in w params xs ≡ first_in w params ys
first-near w params bound xs ys same many =
    let key : Tree → Ranked = ranked (order_keys w.keys params) in
    let passes : Ranked → Bool = λ x. not_behind w.keys bound x.by in
    let same' : filter passes (map key xs) ≡ filter passes (map key ys)
    = near-ranked w.keys params bound xs ∙ (ap (map key) same ∙ sym (near-ranked w.keys params bound ys)) in
    let enough : w.many ≤ length (filter passes (map key xs))
    = subst (λ (n : ℕ). w.many ≤ n) (sym (near-many w.keys params bound xs)) many in
    ap (map (λ (x : Ranked). x.item)) (first-same (directions w.keys) passes (closed-near w.keys bound) w.many (map key xs) (map key ys) same' enough)

-- a query with a window has its order
pipe-order : (name : List ℕ) (ks : OrderKeys) (w : Window) (b : Bool) (asked : Option ℕ)
    → cond b (option_map (λ (n : ℕ). let r : Window = record { keys = ks; many = n } in r) asked) None ≡ Some w → cond b (Some ks) None ≡ Some w.keys
pipe-order name ks w false asked h = cc
pipe-order name ks w true None h = cc
pipe-order name ks w true (Some n) h = ap (λ (o : Option Window). option_map (λ (v : Window). v.keys) o) h

window-order : (ss : Steps) (w : Window) → window_of ss ≡ Some w → order_of ss ≡ Some w.keys
window-order no_steps w h = cc
window-order (more_steps (pipe name ks) ss) w h = pipe-order name ks w (is_order_name name) (first_asked ss) h
window-order (more_steps (attr x) ss) w h = cc
window-order (more_steps deref ss) w h = cc
window-order (more_steps each ss) w h = cc
window-order (more_steps (slice from to closed) ss) w h = cc
window-order (more_steps (bracket e) ss) w h = cc
window-order (more_steps (project es) ss) w h = cc

-- what is near by the query is near by the keys of its window
pub near-is : (e : Expression) (params : Pairs) (w : Window) (bound : List Tree) → window e ≡ Some w → is_near e params bound ≡ near w.keys params bound
near-is e params w bound h =
    let test : Option OrderKeys → Tree → Bool = λ o d. option_map_or (λ ks. not_behind ks bound (order_keys ks params d)) o true in
    ap test (window-order (tail_of (steps_behind e)) w h)

-- lists that have the same documents near a bound have the same first documents
pub near-first : (e : Expression) (params : Pairs) (bound xs ys : List Tree) (b : IsBound e params bound xs)
    → filter (is_near e params bound) xs ≡ filter (is_near e params bound) ys → first_in b.within params xs ≡ first_in b.within params ys
near-first e params bound xs ys b same =
    let w = b.within in
    let by = near-is e params w bound b.is in
    first-near w params bound xs ys
    (ap (λ (p : Tree → Bool). filter p xs) (sym by) ∙ (same ∙ ap (λ (p : Tree → Bool). filter p ys) by))
    (subst (λ (p : Tree → Bool). w.many ≤ length (filter p xs)) by b.enough)

pub tail-near : (e : Expression) (params : Pairs) (bound xs ys : List Tree) → IsBound e params bound xs
    → filter (is_near e params bound) xs ≡ filter (is_near e params bound) ys
    → (tail e params xs ≡ tail e params ys) × IsBound e params bound ys
tail-near e params bound xs ys b same =
    let w = b.within in
    let first : first_in w params xs ≡ first_in w params ys = near-first e params bound xs ys b same in (
      tail-first e params w xs b.is
          ∙ (ap (tail_value params (tail_of (tail_of (steps_behind e)))) first
          ∙ sym (tail-first e params w ys b.is)),
      record {
        within = w;
        is = b.is;
        enough = subst (λ (us : List Tree). w.many ≤ length us) same b.enough;
      },
    )

-- one in an order bounds those before it
one-bounds : (e : Expression) (params : Pairs) (w : Window) (ds : List Tree) (i : ℕ) (d : Ranked) → window e ≡ Some w → w.many ≤ i + 1 → i < length ds
    → IsBound e params (get_or (by_order w.keys params ds) i d).by ds
one-bounds e params w ds i d h next many =
    let os = directions w.keys in
    let rs = map (ranked (order_keys w.keys params)) ds in
    let bound = (get_or (sorted os rs) i d).by in
    let enough : w.many ≤ length (filter (λ x. not_behind w.keys bound x.by) rs)
    = last-passes os (λ x. not_behind w.keys bound x.by) (closed-near w.keys bound) rs w.many
    (omega (arith, next, many, as-many (ranked (order_keys w.keys params)) ds))
    (λ j e low. ap not (not-above os rs i j d e (omega (arith, next, low)) (omega (arith, next, many, as-many (ranked (order_keys w.keys params)) ds)))) in
    record {
      within = w;
      is = h;
      enough = subst (λ (p : Tree → Bool). w.many ≤ length (filter p ds)) (sym (near-is e params w bound h))
          (subst (λ (n : ℕ). w.many ≤ n) (near-many w.keys params bound ds) enough);
    }

-- what stands at a place of the order of a list, by its keys
at-order : (ks : OrderKeys) (params : Pairs) (ds : List Tree) (i : ℕ) (bound : List Tree) (found : Option Ranked) → slice_get (by_order ks params ds) i ≡ found
    → option_map (λ (x : Ranked). x.by) found ≡ Some bound
    → (i < length ds) × ((get_or (by_order ks params ds) i (record { by = bound; item = null })).by ≡ bound)
at-order ks params ds i bound None is h = cc
at-order ks params ds i bound (Some x) is h =
    let low : i < length (by_order ks params ds) = slice_get_within (by_order ks params ds) i x is in
    let by : x.by ≡ bound = cc in (
      omega (arith, low, sorted-many (directions ks) (map (ranked (order_keys ks params)) ds), as-many (ranked (order_keys ks params)) ds),
      ap (λ (r : Ranked). r.by) (get_or_from_slice_get (by_order ks params ds) i x (record { by = bound; item = null }) is) ∙ by,
    )

keys-order : (e : Expression) (params : Pairs) (ds : List Tree) (i : ℕ) (ks : OrderKeys) → order_of (tail_of (steps_behind e)) ≡ Some ks
    → keys_at e params ds i ≡ option_map (λ (x : Ranked). x.by) (slice_get (by_order ks params ds) i)
keys-order e params ds i ks h =
    ap (option_and_then (λ (ks' : OrderKeys). option_map (λ (x : Ranked). x.by) (slice_get (by_order ks' params ds) i))) h

pub place-bounds : (e : Expression) (params : Pairs) (w : Window) (ds : List Tree) (place : ℕ) (bound : List Tree) → window e ≡ Some w → w.many ≤ place + 1
    → keys_at e params ds place ≡ Some bound → IsBound e params bound ds
place-bounds e params w ds place bound h many is =
    let order = window-order (tail_of (steps_behind e)) w h in
    let at = at-order w.keys params ds place bound (slice_get (by_order w.keys params ds) place) refl (sym (keys-order e params ds place w.keys order) ∙ is) in
    subst (λ (b : List Tree). IsBound e params b ds) at.1 (one-bounds e params w ds place (record { by = bound; item = null }) h many at.0)

-- what is near by the query is near by the keys of its order
near-order : (e : Expression) (params : Pairs) (ks : OrderKeys) (bound : List Tree) → order_of (tail_of (steps_behind e)) ≡ Some ks → is_near e params bound ≡ near ks params bound
near-order e params ks bound h =
    let test : Option OrderKeys → Tree → Bool = λ o d. option_map_or (λ ks. not_behind ks bound (order_keys ks params d)) o true in
    ap test h

-- one in the order of those near does not stand behind the bound
near-at : (ks : OrderKeys) (params : Pairs) (bound ds : List Tree) (place : ℕ) (nearer : List Tree)
    → option_map (λ (x : Ranked). x.by) (slice_get (by_order ks params (filter (near ks params bound) ds)) place) ≡ Some nearer
    → not_behind ks bound nearer ≡ true
near-at ks params bound ds place nearer is =
    let os = directions ks in
    let rs = map (ranked (order_keys ks params)) ds in
    let passes : Ranked → Bool = λ x. not_behind ks bound x.by in
    let d : Ranked = record { by = nearer; item = null } in
    let at = at-order ks params (filter (near ks params bound) ds) place nearer (slice_get (by_order ks params (filter (near ks params bound) ds)) place) refl is in
    let same : by_order ks params (filter (near ks params bound) ds) ≡ sorted os (filter passes rs) = ap (sorted os) (sym (near-ranked ks params bound ds)) in
    let low : place < length (filter passes rs) = subst (λ (n : ℕ). place < n) (sym (near-many ks params bound ds)) at.0 in
    let all : passes (get_or (sorted os (filter passes rs)) place d) ≡ true = all-pass os passes (closed-near ks bound) rs place d low in
    ap (not_behind ks bound) (sym at.1 ∙ ap (λ (us : List Ranked). (get_or us place d).by) same) ∙ all

nearer-near : (ks : OrderKeys) (params : Pairs) (bound nearer : List Tree) → not_behind ks bound nearer ≡ true
    → (d : Tree) → near ks params nearer d ≡ true → near ks params bound d ≡ true
nearer-near ks params bound nearer h d k =
    closed-near ks bound (record { by = nearer; item = null }) (record { by = order_keys ks params d; item = null }) h
    (not-true (is_gt (by_keys (directions ks) (order_keys ks params d) nearer)) k)

within-order : (e : Expression) (params : Pairs) (bound ds : List Tree) (place : ℕ) (nearer : List Tree) (o : Option OrderKeys) → order_of (tail_of (steps_behind e)) ≡ o
    → keys_at e params (filter (is_near e params bound) ds) place ≡ Some nearer
    → filter (is_near e params nearer) (filter (is_near e params bound) ds) ≡ filter (is_near e params nearer) ds
within-order e params bound ds place nearer None h is =
    absurd (some-none nearer (sym is ∙ ap (option_and_then (λ (ks : OrderKeys). option_map (λ (x : Ranked). x.by) (slice_get (by_order ks params (filter (is_near e params bound) ds)) place))) h))
  where
    some-none : (x : List Tree) → Some x ≡ None → ⊥
    some-none x h = cc
within-order e params bound ds place nearer (Some ks) h is =
    let far = near-order e params ks bound h in
    let close = near-order e params ks nearer h in
    let there : option_map (λ (x : Ranked). x.by) (slice_get (by_order ks params (filter (near ks params bound) ds)) place) ≡ Some nearer
    = ap (λ (p : Tree → Bool). option_map (λ (x : Ranked). x.by) (slice_get (by_order ks params (filter p ds)) place)) (sym far)
    ∙ (sym (keys-order e params (filter (is_near e params bound) ds) place ks h) ∙ is) in
    ap (λ (p : Tree → Bool). filter p (filter (is_near e params bound) ds)) close
    ∙ (ap (λ (p : Tree → Bool). filter (near ks params nearer) (filter p ds)) far
    ∙ (sym (filter-within (near ks params nearer) (near ks params bound) (nearer-near ks params bound nearer (near-at ks params bound ds place nearer there)) ds)
    ∙ ap (λ (p : Tree → Bool). filter p ds) (sym close)))

pub nearer-within : (e : Expression) (params : Pairs) (bound ds : List Tree) (place : ℕ) (nearer : List Tree)
    → keys_at e params (filter (is_near e params bound) ds) place ≡ Some nearer
    → filter (is_near e params nearer) (filter (is_near e params bound) ds) ≡ filter (is_near e params nearer) ds
nearer-within e params bound ds place nearer is = within-order e params bound ds place nearer (order_of (tail_of (steps_behind e))) refl is
