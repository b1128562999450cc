-- How items are put into a list. For private clauses.
use Rattle.std.specs.Prelude.{◌≡◌, ◌<◌, ℕ, zero, pos, negsuc, List, [], ◌∷◌, Bool, true, false, Option, Some, None, length, get_or, nat_eq}
use Rattle.std.specs.List.{list_any}
use Rattle.cs_value.specs.Tree.{Tree}
use Rattle.cs_jsonmatch.specs.Path.{Item, position}
use Rattle.cs_alter.specs.Inserted.{Side, before, after, into_empty, by_matched}

-- whether the side of the item is the end of an empty list
abbrev pub is_end : Side → Item → Bool
is_end after (position (negsuc zero)) = true
is_end before (position (pos zero)) = true
is_end _ _ = false

-- whether an empty list takes items so
abbrev pub takes : Side → Option Item → Bool
takes side None = false
takes side (Some i) = is_end side i

-- the list with the items put in, where these are the positions that the step matches
abbrev pub put_in : Side → List Item → List ℕ → List Tree → List Tree → List Tree
put_in side is ks new [] = into_empty side is new
put_in side is ks new (t ∷ ts) = by_matched ks side new (t ∷ ts)

-- so many marks, each of which says whether its position is among these
pub record Marks (count : ℕ) (ks : List ℕ) (marks : List Bool) : Type 0 where
  pub long : length marks ≡ count
  pub each : (k : ℕ) → k < count → get_or marks k false ≡ list_any (nat_eq k) ks

-- the elements that are not marked
abbrev pub unmarked : {A : Type 0} → List Bool → List A → List A
unmarked ms [] = []
unmarked [] (x ∷ xs) = []
unmarked (true ∷ ms) (x ∷ xs) = unmarked ms xs
unmarked (false ∷ ms) (x ∷ xs) = x ∷ unmarked ms xs
