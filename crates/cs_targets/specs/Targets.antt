-- What the path of an operation means in a document, its targets: this project's profile of
-- Sanity's HTTP documentation, "Patches".
use Rattle.std.specs.Prelude.{ℕ, List, [], ◌∷◌, ◌++◌, reverse, map, filter, not, cond, Option, Some, None}
use Rattle.std.specs.List.{list_any}
use Rattle.cs_value.specs.Tree.{Tree}
use Rattle.cs_jsonmatch.specs.Path.{Item, named, Step, Path}
use Rattle.cs_jsonmatch.specs.Places.{Location, places}
use Rattle.cs_jsonmatch.specs.declared.places.Part.TheVariants.{Name}
use Rattle.cs_alter.specs.Within.{at, Reach, present, absent, blocked, reach, is_inside}

-- f of what is there, b where nothing is
abbrev pub if_some : {A B : Type 0} → (A → B) → B → Option A → B
if_some f b (Some a) = f a
if_some f b None = b

-- the name of a step that is one name, or a bracket with one quoted name
abbrev pub one_name : List Item → Option (List ℕ)
one_name (named n ∷ []) = Some n
one_name _ = None

-- and of such a step without `..`
abbrev pub plain_name : Step → Option (List ℕ)
plain_name s = cond s.deep None (one_name s.items)

-- A path that is given from its last step to its first is cut behind its longest run of plain
-- names, which stand in the path's order.
abbrev pub cut : List (List ℕ) → Path → List (List ℕ) × Path
cut run [] = (run, [])
cut run (s ∷ ss) = if_some (λ n. cut (n ∷ run) ss) (run, s ∷ ss) (plain_name s)

-- the names of the plain steps that a path ends with
abbrev pub run_of : Path → List (List ℕ)
run_of ss = (cut [] (reverse ss)).0

-- the path before them
abbrev pub prefix_of : Path → Path
prefix_of ss = reverse (cut [] (reverse ss)).1

-- A target: a place, the names that lead on from it, and the value there; none where it is to be
-- made.
pub record Target : Type 0 where
  pub place : Location
  pub names : List (List ℕ)
  pub value : Option Tree

abbrev pub location : Target → Location
location t = t.place ++ map Name t.names

-- what the names reach from a place is a target, unless something is in the way
abbrev pub target_by : Location → List (List ℕ) → Reach → List Target
target_by l ns (present t) = record { place = l; names = ns; value = Some t } ∷ []
target_by l ns absent = record { place = l; names = ns; value = None } ∷ []
target_by l ns blocked = []

-- the names are followed from each place
abbrev pub targets_from : Tree → List (List ℕ) → List Location → List Target
targets_from v ns [] = []
targets_from v ns (l ∷ ls) =
    if_some (λ t. target_by l ns (reach ns t)) [] (at l v) ++ targets_from v ns ls

-- those that are not inside another one
abbrev pub outermost : List Target → List Target
outermost ts = filter (λ t. not (list_any (λ u. is_inside (location t) (location u)) ts)) ts

-- the targets of `set` and `setIfMissing`: where the path's last names lead from the places before
abbrev pub made_targets : Path → Tree → List Target
made_targets ss v = outermost (targets_from v (run_of ss) (places (prefix_of ss) v))

-- the targets of the other operations: the places
abbrev pub place_targets : Path → Tree → List Target
place_targets ss v = outermost (targets_from v [] (places ss v))
