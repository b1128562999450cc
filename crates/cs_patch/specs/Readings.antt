-- What contracts ask of the paths of a patch, and for private clauses, what a path that a text is
-- leads to.
use Rattle.std.specs.Prelude.{ℕ, ℤ, ◌<◌, ◌^◌, pos, List, [], ◌∷◌, map, reverse, length, cond, Option, Some, None, option_map, unwrap_or}
use Rattle.std.specs.List.{AllByRecursion}
use Rattle.std.specs.Option.{option_to_list}
use Rattle.cs_value.specs.Tree.{Tree}
use Rattle.cs_value.specs.Words.{as_integer}
use Rattle.cs_jsonmatch.specs.Path.{Path}
use Rattle.cs_jsonmatch.specs.Places.{Location, places}
use Rattle.cs_jsonmatch.specs.Verdict.{PathReading, spelled, bad_path}
use Rattle.cs_alter.specs.Inserted.{Side, insert_into, is_misplaced}
use Rattle.cs_targets.specs.Targets.{run_of, prefix_of}
use Rattle.cs_patch.specs.Patched.{Patch, paths}
use Rattle.cs_patch.specs.View.{insertion}
use Rattle.cs_patch.specs.declared.patch.Insert.{Insert}

-- each text has fewer than 2^32 bytes, as a text that is read as a path must have
abbrev pub AreShort : List (List ℕ) → Type 0
AreShort ts = AllByRecursion (λ t. length t < 2 ^ 32) ts

abbrev pub ArePathsShort : Patch → Type 0
ArePathsShort p = AreShort (paths p)

abbrev pub names_of : {A : Type 0} → List (List ℕ × A) → List (List ℕ)
names_of es = map (λ e. e.0) es

-- a name with its number, 0 where the value is none
abbrev pub numbered : List ℕ × Tree → List ℕ × ℤ
numbered e = (e.0, unwrap_or (as_integer e.1) (pos 0))

-- the path of what is put into lists, if anything
abbrev pub paths_of : Option Insert → List (List ℕ)
paths_of o = option_to_list (option_map (λ i. i.path) (option_map insertion o))

-- the places of the path that a text is; none where it is no path
abbrev pub places_at : PathReading → Tree → Option (List Location)
places_at (spelled p) v = Some (places p v)
places_at (bad_path at) v = None

-- the places that the last names of the path lead on from, and these names
abbrev pub starts_at : PathReading → Tree → Option (List Location × List (List ℕ))
starts_at (spelled p) v = Some (places (prefix_of p) v, run_of p)
starts_at (bad_path at) v = None

-- The places of the lists that an insertion goes into by a path, which is given from its last step
-- to its first: those of the steps before the last one. None where the last step may not end it.
abbrev pub lists_before : Path → Tree → Option (List Location)
lists_before [] v = None
lists_before (s ∷ ss) v = cond (is_misplaced s) None (Some (places (reverse ss) v))

-- the same of the path that a text is; none where it is no path
abbrev pub lists_at : PathReading → Tree → Option (Option (List Location))
lists_at (spelled p) v = Some (lists_before (reverse p) v)
lists_at (bad_path at) v = None

-- what an insertion by the last step makes of a value; the path is given from that step to its
-- first
abbrev pub put_last : Side → List Tree → Path → Tree → Tree
put_last side items [] t = t
put_last side items (s ∷ ss) t = insert_into side s items t

-- the same of the path that a text is
abbrev pub put_by : Side → List Tree → PathReading → Tree → Tree
put_by side items (spelled p) t = put_last side items (reverse p) t
put_by side items (bad_path at) t = t
