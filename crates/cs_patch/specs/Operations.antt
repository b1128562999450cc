-- What one path of each operation does to a document, or why it is refused: Sanity's HTTP
-- documentation, "Patches", in this project's profile.
use Rattle.std.specs.Prelude.{ℕ, ℤ, ◌+ℤ◌, ◌-ℤ◌, List, [], ◌∷◌, reverse, cond, Option, Some, None, bytes_eq, codes}
use Rattle.std.specs.List.{list_any}
use Rattle.cs_value.specs.Tree.{Tree, integer, list}
use Rattle.cs_ops.specs.Arithmetic.{is_of_64_bits}
use Rattle.cs_view.specs.Document.{is_shallow}
use Rattle.cs_jsonmatch.specs.Path.{Step, Path}
use Rattle.cs_jsonmatch.specs.Places.{Location}
use Rattle.cs_jsonmatch.specs.Verdict.{PathReading, spelled, bad_path, path_verdict}
use Rattle.cs_jsonmatch.specs.declared.places.Part.TheVariants.{Name}
use Rattle.cs_alter.specs.Within.{changed, removed, given, recount}
use Rattle.cs_targets.specs.Targets.{if_some, Target, location, made_targets, place_targets}
use Rattle.cs_alter.specs.Inserted.{Side, insert_into, is_misplaced}

-- Why a patch is refused: another revision than the expected one, with both; a text that is no
-- path, with the place of its fault; the path or the name concerned; depth.
pub data Refusal : Type 0 where
  revision : List ℕ → List ℕ → Refusal
  no_path : List ℕ → ℕ → Refusal
  not_number : List ℕ → Refusal
  overflow : List ℕ → Refusal
  not_array : List ℕ → Refusal
  immutable : List ℕ → Refusal
  too_deep : Refusal

pub data Outcome : Type 0 where
  document : Tree → Outcome
  refused : Refusal → Outcome

abbrev pub and_then : (Tree → Outcome) → Outcome → Outcome
and_then f (document t) = f t
and_then f (refused r) = refused r

-- the first refusal, at the targets in order
abbrev pub first_refusal : (Target → Option Refusal) → List Target → Option Refusal
first_refusal check [] = None
first_refusal check (t ∷ ts) = if_some Some (first_refusal check ts) (check t)

-- the attributes that only the store writes
abbrev pub fixed : List (List ℕ)
fixed =
    codes "_id" ∷ codes "_type" ∷ codes "_rev" ∷ codes "_createdAt" ∷ codes "_updatedAt" ∷ []

-- a location is, or lies inside, one of them
abbrev pub fixed_at : Location → Option Refusal
fixed_at (Name n ∷ l) = cond (list_any (bytes_eq n) fixed) (Some (immutable n)) None
fixed_at _ = None

abbrev pub or_else : Option Refusal → Option Refusal → Option Refusal
or_else (Some r) q = Some r
or_else None q = q

abbrev pub number_refusal : List ℕ → (ℤ → ℤ) → Option Tree → Option Refusal
number_refusal path f (Some (integer m)) = cond (is_of_64_bits (f m)) None (Some (overflow path))
number_refusal path f _ = Some (not_number path)

abbrev pub list_refusal : List ℕ → Option Tree → Option Refusal
list_refusal path (Some (list ts)) = None
list_refusal path _ = Some (not_array path)

-- What is asked of a target: by `set` and `unset`; by `setIfMissing`, of an absent one alone; by
-- `inc` and `dec`; and of a parent by `insert`.
abbrev pub fixed_check : Target → Option Refusal
fixed_check t = fixed_at (location t)

abbrev pub missing_check : Target → Option Refusal
missing_check t = if_some (λ u. None) (fixed_at (location t)) t.value

abbrev pub number_check : List ℕ → (ℤ → ℤ) → Target → Option Refusal
number_check path f t = or_else (fixed_at (location t)) (number_refusal path f t.value)

abbrev pub list_check : List ℕ → Target → Option Refusal
list_check path t = or_else (fixed_at (location t)) (list_refusal path t.value)

-- What is done at a target. No names lead on from the places of the other operations than `set`
-- and `setIfMissing`.
abbrev pub set_at : Tree → Target → Tree → Tree
set_at new t v = changed t.place (given t.names new) v

abbrev pub set_missing_at : Tree → Target → Tree → Tree
set_missing_at new t v = if_some (λ u. v) (set_at new t v) t.value

abbrev pub unset_at : Target → Tree → Tree
unset_at t v = removed t.place v

abbrev pub count_at : (ℤ → ℤ) → Target → Tree → Tree
count_at f t v = changed t.place (recount f) v

abbrev pub insert_at : Side → Step → List Tree → Target → Tree → Tree
insert_at side s items t v = changed t.place (insert_into side s items) v

-- Each target in turn, from the last to the first, so that the positions in a list stay those
-- before a removal.
abbrev pub each : (Target → Tree → Tree) → List Target → Tree → Tree
each f [] v = v
each f (t ∷ ts) v = f t (each f ts v)

abbrev pub bounded : Tree → Outcome
bounded v = cond (is_shallow v) (document v) (refused too_deep)

-- One path: the first refusal at its targets; else what is done at each, unless that is too deep
-- for a document.
abbrev pub at_targets :
    (Target → Option Refusal) → (Target → Tree → Tree) → List Target → Tree → Outcome
at_targets check f ts v = if_some refused (bounded (each f ts v)) (first_refusal check ts)

-- a path of each operation in a document, as it is read, and for a refusal as it is written
abbrev pub set_by : Tree → Path → Tree → Outcome
set_by new p v = at_targets fixed_check (set_at new) (made_targets p v) v

abbrev pub set_missing_by : Tree → Path → Tree → Outcome
set_missing_by new p v = at_targets missing_check (set_missing_at new) (made_targets p v) v

abbrev pub unset_by : Path → Tree → Outcome
unset_by p v = at_targets fixed_check unset_at (place_targets p v) v

abbrev pub count_by : (ℤ → ℤ) → List ℕ → Path → Tree → Outcome
count_by f path p v = at_targets (number_check path f) (count_at f) (place_targets p v) v

-- the last step matches positions of the lists at the path before it
abbrev pub insert_at_parents : Side → List Tree → List ℕ → Step → Path → Tree → Outcome
insert_at_parents side items path s parents v =
    at_targets (list_check path) (insert_at side s items) (place_targets parents v) v

-- the path is given from its last step to its first
abbrev pub insert_last : Side → List Tree → List ℕ → Path → Tree → Outcome
insert_last side items path [] v = refused (not_array path)
insert_last side items path (s ∷ ss) v =
    cond (is_misplaced s)
    (refused (not_array path))
    (insert_at_parents side items path s (reverse ss) v)

abbrev pub insert_by : Side → List Tree → List ℕ → Path → Tree → Outcome
insert_by side items path p v = insert_last side items path (reverse p) v

-- what a path does that a text is; a text that is none is refused
abbrev pub by_reading : List ℕ → (Path → Tree → Outcome) → PathReading → Tree → Outcome
by_reading path f (spelled p) v = f p v
by_reading path f (bad_path place) v = refused (no_path path place)

abbrev pub along : List ℕ → (Path → Tree → Outcome) → Tree → Outcome
along path f v = by_reading path f (path_verdict path) v

abbrev pub set_path : List ℕ × Tree → Tree → Outcome
set_path e v = along e.0 (set_by e.1) v

abbrev pub set_missing_path : List ℕ × Tree → Tree → Outcome
set_missing_path e v = along e.0 (set_missing_by e.1) v

abbrev pub unset_path : List ℕ → Tree → Outcome
unset_path path v = along path unset_by v

abbrev pub inc_path : List ℕ × ℤ → Tree → Outcome
inc_path e v = along e.0 (count_by (λ m. m +ℤ e.1) e.0) v

abbrev pub dec_path : List ℕ × ℤ → Tree → Outcome
dec_path e v = along e.0 (count_by (λ m. m -ℤ e.1) e.0) v

-- `insert`: the side, the path, and the items
pub record Insertion : Type 0 where
  pub side : Side
  pub path : List ℕ
  pub items : List Tree

abbrev pub insert_path : Insertion → Tree → Outcome
insert_path i v = along i.path (insert_by i.side i.items i.path) v
