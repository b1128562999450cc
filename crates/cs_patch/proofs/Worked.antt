-- What a patch leaves, operation by operation, and the document that it comes to.
use Rattle.std.proofs.Common.{◌≡◌, ℕ, ℤ, ◌+ℤ◌, ◌-ℤ◌, List, [], ◌∷◌, map, reverse, Bool, true, false, cond, Option, Some, None, refl, subst}
use Rattle.std.specs.List.{list_all}
use Rattle.cs_value.specs.Tree.{Tree}
use Rattle.cs_view.specs.Document.{is_shallow}
use Rattle.cs_view.proofs.Booleans.{and-left, and-right}
use Rattle.cs_jsonmatch.specs.Path.{Step, Path}
use Rattle.cs_jsonmatch.specs.Verdict.{PathReading, spelled, bad_path, IsPathRead, path_verdict}
use Rattle.cs_jsonmatch.specs.declared.places.Part.TheVariants.{Name}
use Rattle.cs_alter.specs.Inserted.{Side, is_misplaced}
use Rattle.cs_alter.specs.Within.{recount}
use Rattle.cs_targets.specs.Targets.{if_some, Target, location, made_targets, place_targets}
use Rattle.cs_patch.specs.Operations.{Refusal, Outcome, document, refused, not_array, too_deep, and_then, first_refusal, fixed_at, or_else, number_refusal, list_refusal, fixed_check, missing_check, number_check, list_check, set_at, set_missing_at, unset_at, count_at, insert_at, each, bounded, at_targets, set_by, set_missing_by, unset_by, count_by, insert_at_parents, insert_last, insert_by, by_reading, along, set_path, set_missing_path, unset_path, inc_path, dec_path, Insertion}
use Rattle.cs_patch.specs.Patched.{Patch, in_turn, maybe_insert, operations}
use Rattle.cs_patch.proofs.Kept.{Keeps, keeps, keeps_on, set-keeps, changed-keeps, removed-keeps, inserted-keeps}
use Rattle.cs_patch.proofs.Below.{starts, is_under, is_placed, spelled-starts, made-below, place-below}

-- An outcome that is a document keeps what the store writes, and is as shallow.
pub record Kept (v w : Tree) : Type 0 where
  pub keeps : Keeps v w
  pub shallow : is_shallow v ≡ true → is_shallow w ≡ true

kept : (v : Tree) → Kept v v
kept v = record { keeps = keeps v; shallow = λ h. h }

kept_on : (u v w : Tree) → Kept u v → Kept v w → Kept u w
kept_on u v w a b = record {
  keeps = keeps_on u v w a.keeps b.keeps;
  shallow = λ h. b.shallow (a.shallow h);
}

-- an operation that keeps what it comes to
abbrev pub IsKeeping : (Tree → Outcome) → Type 0
IsKeeping f = (v w : Tree) → f v ≡ document w → Kept v w

pub then_is : (f : Tree → Outcome) (o : Outcome) (w : Tree) → and_then f o ≡ document w
    → (u : Tree) × (o ≡ document u) × (f u ≡ document w)
then_is f (document u) w h = (u, refl, h)
then_is f (refused r) w h = absurd cc

then-kept : (f g : Tree → Outcome) → IsKeeping f → IsKeeping g → IsKeeping (λ v. and_then f (g v))
then-kept f g kf kg v w h =
    let s = then_is f (g v) w h in kept_on v s.0 w (kg v s.0 s.1) (kf s.0 w s.2)

pub same_document : (v w : Tree) → document v ≡ document w → v ≡ w
same_document v w h = cc

turns-kept : {A : Type 0} (f : A → Tree → Outcome) → ((a : A) → IsKeeping (f a)) → (xs : List A)
    → IsKeeping (in_turn f xs)
turns-kept f k [] v w h = subst (λ u. Kept v u) (same_document v w h) (kept v)
turns-kept f k (a ∷ xs) v w h =
    then-kept (in_turn f xs) (f a) (turns-kept f k xs) (k a) v w h

-- ---- one path
pub refusing : (o : Option Refusal) (x : Outcome) (w : Tree) → if_some refused x o ≡ document w
    → (o ≡ None) × (x ≡ document w)
refusing None x w h = (refl, h)
refusing (Some r) x w h = absurd cc

first_of : (o p : Option Refusal) → if_some Some p o ≡ None → (o ≡ None) × (p ≡ None)
first_of None p h = (refl, h)
first_of (Some r) p h = absurd cc

within : (b : Bool) (v w : Tree) → cond b (document v) (refused too_deep) ≡ document w
    → (b ≡ true) × (v ≡ w)
within true v w h = (refl, same_document v w h)
within false v w h = absurd cc

-- what is done at such a target that is not refused
abbrev AreKept : (Target → Bool) → (Target → Option Refusal) → (Target → Tree → Tree) → Type 0
AreKept ok check f = (t : Target) (v : Tree) → ok t ≡ true → check t ≡ None → Keeps v (f t v)

each-keeps : (ok : Target → Bool) (check : Target → Option Refusal) (f : Target → Tree → Tree)
    → AreKept ok check f → (ts : List Target) (v : Tree) → list_all ok ts ≡ true
    → first_refusal check ts ≡ None → Keeps v (each f ts v)
each-keeps ok check f k [] v u h = keeps v
each-keeps ok check f k (t ∷ ts) v u h =
    let c = first_of (check t) (first_refusal check ts) h in
    keeps_on v (each f ts v) (f t (each f ts v))
    (each-keeps ok check f k ts v (and-right (ok t) (list_all ok ts) u) c.1)
    (k t (each f ts v) (and-left (ok t) (list_all ok ts) u) c.0)

targets-kept : (ok : Target → Bool) (check : Target → Option Refusal) (f : Target → Tree → Tree)
    → AreKept ok check f → (ts : List Target) (v w : Tree) → list_all ok ts ≡ true
    → at_targets check f ts v ≡ document w → Kept v w
targets-kept ok check f k ts v w u h =
    let r = refusing (first_refusal check ts) (bounded (each f ts v)) w h in
    let b = within (is_shallow (each f ts v)) (each f ts v) w r.1 in
    subst (λ x. Kept v x) b.1 (record {
      keeps = each-keeps ok check f k ts v u r.0;
      shallow = λ g. b.0;
    })

-- ---- what is done at the targets of each operation
none_of : (o p : Option Refusal) → or_else o p ≡ None → o ≡ None
none_of None p h = refl
none_of (Some r) p h = absurd cc

set_kept : (new : Tree) → AreKept is_under fixed_check (set_at new)
set_kept new t v u h = set-keeps t.place t.names new v u h

missing_at : (new : Tree) (t : Target) (v : Tree) (o : Option Tree) → is_under t ≡ true
    → if_some (λ x. None) (fixed_at (location t)) o ≡ None
    → Keeps v (if_some (λ x. v) (set_at new t v) o)
missing_at new t v None u h = set_kept new t v u h
missing_at new t v (Some x) u h = keeps v

missing_kept : (new : Tree) → AreKept is_under missing_check (set_missing_at new)
missing_kept new t v u h = missing_at new t v t.value u h

unset_kept : AreKept is_placed fixed_check unset_at
unset_kept t v u h = removed-keeps t.place (map Name t.names) v u h

count_kept : (f : ℤ → ℤ) (path : List ℕ) → AreKept is_placed (number_check path f) (count_at f)
count_kept f path t v u h =
    changed-keeps t.place (map Name t.names) (recount f) v u
    (none_of (fixed_at (location t)) (number_refusal path f t.value) h)

insert_kept : (side : Side) (s : Step) (items : List Tree) (path : List ℕ)
    → AreKept (λ t. true) (list_check path) (insert_at side s items)
insert_kept side s items path t v u h =
    inserted-keeps t.place (map Name t.names) side s items v
    (none_of (fixed_at (location t)) (list_refusal path t.value) h)

-- ---- a path of each operation, as it is read
-- a path of an operation keeps, where it has a step
abbrev IsPathKept : (Path → Tree → Outcome) → Type 0
IsPathKept f = (p : Path) (v w : Tree) → starts p ≡ true → f p v ≡ document w → Kept v w

set_by-kept : (new : Tree) → IsPathKept (set_by new)
set_by-kept new p v w s h =
    targets-kept is_under fixed_check (set_at new) (set_kept new) (made_targets p v) v w
    (made-below p v s) h

missing_by-kept : (new : Tree) → IsPathKept (set_missing_by new)
missing_by-kept new p v w s h =
    targets-kept is_under missing_check (set_missing_at new) (missing_kept new) (made_targets p
    v) v w
    (made-below p v s) h

unset_by-kept : IsPathKept unset_by
unset_by-kept p v w s h =
    targets-kept is_placed fixed_check unset_at unset_kept (place_targets p v) v w
    (place-below p v s) h

count_by-kept : (f : ℤ → ℤ) (path : List ℕ) → IsPathKept (count_by f path)
count_by-kept f path p v w s h =
    targets-kept is_placed (number_check path f) (count_at f) (count_kept f path)
    (place_targets p v) v w (place-below p v s) h

all_true : (ts : List Target) → list_all (λ t. true) ts ≡ true
all_true [] = refl
all_true (t ∷ ts) = all_true ts

misplaced : (b : Bool) (side : Side) (items : List Tree) (path : List ℕ) (s : Step) (ss : Path)
    (v w : Tree)
    → cond b (refused (not_array path)) (insert_at_parents side items path s (reverse ss) v) ≡
    document w
    → Kept v w
misplaced true side items path s ss v w h = absurd cc
misplaced false side items path s ss v w h =
    targets-kept (λ t. true) (list_check path) (insert_at side s items) (insert_kept side s items
    path)
    (place_targets (reverse ss) v) v w (all_true (place_targets (reverse ss) v)) h

last-kept : (side : Side) (items : List Tree) (path : List ℕ) (ss : Path)
    → IsKeeping (insert_last side items path ss)
last-kept side items path [] v w h = absurd cc
last-kept side items path (s ∷ ss) v w h =
    misplaced (is_misplaced s) side items path s ss v w h

insert_by-kept : (side : Side) (items : List Tree) (path : List ℕ)
    → IsPathKept (insert_by side items path)
insert_by-kept side items path p v w s h = last-kept side items path (reverse p) v w h

-- ---- a path as it is written
-- each text is read as its verdict says
abbrev pub AreRead : Type 0
AreRead = (text : List ℕ) → IsPathRead text (path_verdict text)

reading-kept : (path : List ℕ) (f : Path → Tree → Outcome) → IsPathKept f → (r : PathReading)
    → ((p : Path) → r ≡ spelled p → starts p ≡ true) → IsKeeping (by_reading path f r)
reading-kept path f k (spelled p) s v w h = k p v w (s p refl) h
reading-kept path f k (bad_path place) s v w h = absurd cc

along-kept : AreRead → (path : List ℕ) (f : Path → Tree → Outcome) → IsPathKept f
    → IsKeeping (along path f)
along-kept read path f k v w h =
    reading-kept path f k (path_verdict path) (spelled-starts read path) v w h

maybe-kept : AreRead → (o : Option Insertion) → IsKeeping (maybe_insert o)
maybe-kept read None v w h = subst (λ u. Kept v u) (same_document v w h) (kept v)
maybe-kept read (Some i) v w h =
    along-kept read i.path (insert_by i.side i.items i.path)
    (insert_by-kept i.side i.items i.path) v w h

-- the operations of a patch, one after another
abbrev missing_done : Patch → Tree → Outcome
missing_done p v = in_turn set_missing_path p.set_if_missing v

abbrev set_done : Patch → Tree → Outcome
set_done p v = and_then (in_turn set_path p.set) (missing_done p v)

abbrev unset_done : Patch → Tree → Outcome
unset_done p v = and_then (in_turn unset_path p.unset) (set_done p v)

abbrev inc_done : Patch → Tree → Outcome
inc_done p v = and_then (in_turn inc_path p.inc) (unset_done p v)

abbrev dec_done : Patch → Tree → Outcome
dec_done p v = and_then (in_turn dec_path p.dec) (inc_done p v)

counts-kept : AreRead → (f : ℤ → ℤ) (path : List ℕ) → IsKeeping (along path (count_by f path))
counts-kept read f path = along-kept read path (count_by f path) (count_by-kept f path)

pub operations-kept : AreRead → (p : Patch) → IsKeeping (operations p)
operations-kept read p =
    let missing = turns-kept set_missing_path
    (λ e. along-kept read e.0 (set_missing_by e.1) (missing_by-kept e.1)) p.set_if_missing in
    let set = then-kept (in_turn set_path p.set) (missing_done p)
    (turns-kept set_path (λ e. along-kept read e.0 (set_by e.1) (set_by-kept e.1)) p.set)
    missing in
    let unset = then-kept (in_turn unset_path p.unset) (set_done p)
    (turns-kept unset_path (λ path. along-kept read path unset_by unset_by-kept) p.unset)
    set in
    let inc = then-kept (in_turn inc_path p.inc) (unset_done p)
    (turns-kept inc_path (λ e. counts-kept read (λ m. m +ℤ e.1) e.0) p.inc) unset in
    let dec = then-kept (in_turn dec_path p.dec) (inc_done p)
    (turns-kept dec_path (λ e. counts-kept read (λ m. m -ℤ e.1) e.0) p.dec) inc in
    then-kept (maybe_insert p.insert) (dec_done p) (maybe-kept read p.insert) dec
