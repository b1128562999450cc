-- Items put into a list beside the positions that a step matches, or in their stead: Sanity's HTTP
-- documentation, "Patches", `insert`, in this project's profile.
use Rattle.std.specs.Prelude.{ℕ, zero, suc, pos, negsuc, List, [], ◌∷◌, ◌++◌, Bool, true, false, ◌||◌, cond, nat_eq, take, drop}
use Rattle.std.specs.List.{list_any}
use Rattle.cs_value.specs.Tree.{Tree, list, trees, members}
use Rattle.cs_jsonmatch.specs.Path.{Item, position, named, Step}
use Rattle.cs_jsonmatch.specs.Places.{Location, places}
use Rattle.cs_jsonmatch.specs.declared.places.Part.TheVariants.{Pos}

pub data Side : Type 0 where
  before : Side
  after : Side
  replace : Side

-- the positions that locations begin with
abbrev pub positions : List Location → List ℕ
positions [] = []
positions ((Pos k ∷ l) ∷ ls) = k ∷ positions ls
positions (_ ∷ ls) = positions ls

-- the positions of a list that a step matches, ascending
abbrev pub matched : Step → List Tree → List ℕ
matched s ts = positions (places (s ∷ []) (list (trees ts)))

-- the last of k and those after it
abbrev pub last : ℕ → List ℕ → ℕ
last k [] = k
last k (j ∷ js) = last j js

-- the elements whose positions, counted from k, are not among these
abbrev pub unmatched : List ℕ → ℕ → List Tree → List Tree
unmatched ks k [] = []
unmatched ks k (t ∷ ts) =
    cond (list_any (nat_eq k) ks) (unmatched ks (suc k) ts) (t ∷ unmatched ks (suc k) ts)

-- `before` puts the items before the first matched position, `after` after the last one, and
-- `replace` removes the matched ones and puts the items where the first was.
abbrev pub beside : Side → ℕ → List ℕ → List Tree → List Tree → List Tree
beside before k ks new ts = take k ts ++ new ++ drop k ts
beside after k ks new ts = take (suc (last k ks)) ts ++ new ++ drop (suc (last k ks)) ts
beside replace k ks new ts = take k ts ++ new ++ unmatched ks (suc k) (drop (suc k) ts)

-- an empty list takes items `after` the one item `-1`, and `before` the one item `0`
abbrev pub into_empty : Side → List Item → List Tree → List Tree
into_empty after (position (negsuc zero) ∷ []) new = new
into_empty before (position (pos zero) ∷ []) new = new
into_empty _ _ new = []

-- without a match nothing happens
abbrev pub by_matched : List ℕ → Side → List Tree → List Tree → List Tree
by_matched [] side new ts = ts
by_matched (k ∷ ks) side new ts = beside side k ks new ts

abbrev pub inserted : Side → Step → List Tree → List Tree → List Tree
inserted side s new [] = into_empty side s.items new
inserted side s new (t ∷ ts) = by_matched (matched s (t ∷ ts)) side new (t ∷ ts)

-- a list with the items put in; anything else as it is
abbrev pub insert_into : Side → Step → List Tree → Tree → Tree
insert_into side s new (list ts) = list (trees (inserted side s new (members ts)))
insert_into side s new t = t

abbrev pub is_name : Item → Bool
is_name (named n) = true
is_name _ = false

-- whether a step may not end the path of `insert`: it has `..`, or one of its items is a name
abbrev pub is_misplaced : Step → Bool
is_misplaced s = s.deep || list_any is_name s.items
