-- Which places of a value a path selects: this project's profile of the paths of Sanity's patches
-- ("JSONMatch").
use Rattle.std.specs.Prelude.{ℕ, suc, ◌-◌, min, ℤ, pos, negsuc, List, [], ◌∷◌, ◌++◌, map, filter, Bool, true, false, not, ◌&&◌, ◌||◌, Option, Some, None, bytes_eq, nat_le, nat_lt, nat_eq, ◌+◌}
use Rattle.std.specs.List.{list_any}
use Rattle.std.specs.declared.cmp.Ordering.{Ordering}
use Rattle.std.specs.Ordering.{is_lt, is_le, is_gt, is_ge}
use Rattle.cs_value.specs.Tree.{Tree, null, boolean, integer, text, list, object, Trees, no_trees, more_trees, Pairs, no_pairs, more_pairs, trees_len}
use Rattle.cs_value.specs.Words.{followed}
use Rattle.cs_ops.specs.Equal.{equal}
use Rattle.cs_ops.specs.Order.{partial}
use Rattle.cs_jsonmatch.specs.Path.{Item, position, range, every, named, meets, Path}
use Rattle.cs_jsonmatch.specs.declared.path.Comparison.{Comparison}
use Rattle.cs_jsonmatch.specs.declared.path.Comparison.TheVariants.{Equal, NotEqual, Less, AtMost, Greater, AtLeast}
use Rattle.cs_jsonmatch.specs.declared.places.Part.{Part}
use Rattle.cs_jsonmatch.specs.declared.places.Part.TheVariants.{Name, Pos}

-- A location: the names and positions that lead to a place.
abbrev pub Location : Type 0
Location = List Part

-- A trail: a location with the value at each of its parts.
abbrev pub Trail : Type 0
Trail = List (Part × Tree)

abbrev pub parts : Trail → Location
parts l = map (λ e. e.0) l

-- All trails of a value in document order: that of the value itself, then those through its first
-- member, and so on.
abbrev mutual
  pub trails : Tree → List Trail
  trails null = [] ∷ []
  trails (boolean b) = [] ∷ []
  trails (integer n) = [] ∷ []
  trails (text s) = [] ∷ []
  trails (list ts) = [] ∷ item_trails 0 ts
  trails (object ps) = [] ∷ pair_trails ps

  pub item_trails : ℕ → Trees → List Trail
  item_trails k no_trees = []
  item_trails k (more_trees t ts) = map (λ l. (Pos k, t) ∷ l) (trails t) ++ item_trails (suc k) ts

  pub pair_trails : Pairs → List Trail
  pair_trails no_pairs = []
  pair_trails (more_pairs n t ps) = map (λ l. (Name n, t) ∷ l) (trails t) ++ pair_trails ps

-- The number of elements of a list; 0 of anything else.
abbrev pub size : Tree → ℕ
size null = 0
size (boolean b) = 0
size (integer n) = 0
size (text s) = 0
size (list ts) = trees_len ts
size (object ps) = 0

-- Whether an integer means the position k of a list of so many: k itself, or from the end, where -1
-- is the last.
abbrev pub is_at : ℤ → ℕ → ℕ → Bool
is_at (pos n) count k = nat_eq n k
is_at (negsuc n) count k = nat_eq (k + suc n) count

-- An end of a range in a list of so many: a negative one has the length added, and then it is
-- clamped to 0 and the length.
abbrev pub bound_within : ℤ → ℕ → ℕ
bound_within (pos n) count = min n count
bound_within (negsuc n) count = count - suc n

-- An absent first end is 0, an absent second end the length.
abbrev pub from_end : Option ℤ → ℕ → ℕ
from_end None count = 0
from_end (Some n) count = bound_within n count

abbrev pub to_end : Option ℤ → ℕ → ℕ
to_end None count = count
to_end (Some n) count = bound_within n count

-- Whether there is a comparison, and the test holds of it.
abbrev pub holds : (Ordering → Bool) → Option Ordering → Bool
holds test None = false
holds test (Some o) = test o

-- Whether a value stands so to a constant: `==` is equality and `!=` its negation, the others ask
-- for a comparison.
abbrev pub stands : Comparison → Tree → Tree → Bool
stands Equal t u = equal t u
stands NotEqual t u = not (equal t u)
stands Less t u = holds is_lt (partial t u)
stands AtMost t u = holds is_le (partial t u)
stands Greater t u = holds is_gt (partial t u)
stands AtLeast t u = holds is_ge (partial t u)

-- Where the left side is missing nothing is met, not even `!=`.
abbrev pub met : Comparison → Tree → Option Tree → Bool
met c u None = false
met c u (Some t) = stands c t u

-- Whether an item selects this part, with the value t, of a list of so many or of an object.
abbrev pub selects : ℕ → Part → Tree → Item → Bool
selects count (Name m) t (position n) = false
selects count (Name m) t (range a b) = false
selects count (Name m) t every = true
selects count (Name m) t (named n) = bytes_eq n m
selects count (Name m) t (meets ns c u) = false
selects count (Pos k) t (position n) = is_at n count k
selects count (Pos k) t (range a b) = nat_le (from_end a count) k && nat_lt k (to_end b count)
selects count (Pos k) t every = true
selects count (Pos k) t (named n) = false
selects count (Pos k) t (meets ns c u) = met c u (followed ns t)

-- Whether a path leads from v along a trail: no steps lead to v itself; the first step selects the
-- first part, by one of its items, and the others lead on from there; or `..` stands before the
-- first step, and the path leads on from within.
abbrev pub leads : Path → Tree → Trail → Bool
leads [] v [] = true
leads [] v (e ∷ l) = false
leads (s ∷ ss) v [] = false
leads (s ∷ ss) v (e ∷ l) =
    (list_any (selects (size v) e.0 e.1) s.items && leads ss e.1 l)
    || (s.deep && leads (s ∷ ss) e.1 l)

-- The places of a path in a value: the locations that it leads to, in document order, each once.
abbrev pub places : Path → Tree → List Location
places ss v = map parts (filter (leads ss v) (trails v))
