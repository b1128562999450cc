-- What stands at a location of a value, and the value with something else there: this project's
-- profile of Sanity's HTTP documentation, "Patches".
use Rattle.std.specs.Prelude.{ℕ, ℤ, zero, suc, List, [], ◌∷◌, Bool, true, false, ◌&&◌, Option, Some, None, option_and_then, bytes_eq, nat_eq}
use Rattle.std.specs.Ordering.{nat_cmp, match_ordering}
use Rattle.std.specs.Cmp.Lexicographic.{slice_cmp}
use Rattle.cs_value.specs.Tree.{Tree, null, integer, list, object, Trees, no_trees, more_trees, Pairs, no_pairs, more_pairs}
use Rattle.cs_value.specs.Pairs.{attribute, find, put, without}
use Rattle.cs_ops.specs.Arithmetic.{number}
use Rattle.cs_jsonmatch.specs.Places.{Location}
use Rattle.cs_jsonmatch.specs.declared.places.Part.{Part}
use Rattle.cs_jsonmatch.specs.declared.places.Part.TheVariants.{Name, Pos}
use Rattle.cs_value.specs.Words.{field}

-- the element at a position
abbrev pub nth : ℕ → Trees → Option Tree
nth k no_trees = None
nth zero (more_trees t ts) = Some t
nth (suc k) (more_trees t ts) = nth k ts

-- the attribute of a name, or the element at a position
abbrev pub member : Part → Tree → Option Tree
member (Name n) t = attribute n t
member (Pos k) (list ts) = nth k ts
member (Pos k) _ = None

-- the value at a location
abbrev pub at : Location → Tree → Option Tree
at [] t = Some t
at (x ∷ l) t = option_and_then (at l) (member x t)

-- the pairs with f of the value at the name
abbrev pub update_pair : List ℕ → (Tree → Tree) → Pairs → Pairs
update_pair k f no_pairs = no_pairs
update_pair k f (more_pairs l t ps) =
    match_ordering (slice_cmp nat_cmp k l)
    (more_pairs l t (update_pair k f ps))
    (more_pairs l (f t) ps)
    (more_pairs l t (update_pair k f ps))

-- the elements with f of the one at the position
abbrev pub update_item : ℕ → (Tree → Tree) → Trees → Trees
update_item k f no_trees = no_trees
update_item zero f (more_trees t ts) = more_trees (f t) ts
update_item (suc k) f (more_trees t ts) = more_trees t (update_item k f ts)

-- the value with f of the member that the part means
abbrev pub update : Part → (Tree → Tree) → Tree → Tree
update (Name n) f (object ps) = object (update_pair n f ps)
update (Pos k) f (list ts) = list (update_item k f ts)
update _ f t = t

-- the value with f of what stands at the location; unchanged where nothing stands there
abbrev pub changed : Location → (Tree → Tree) → Tree → Tree
changed [] f t = f t
changed (x ∷ l) f t = update x (changed l f) t

-- the elements without the one at the position
abbrev pub drop_item : ℕ → Trees → Trees
drop_item k no_trees = no_trees
drop_item zero (more_trees t ts) = ts
drop_item (suc k) (more_trees t ts) = more_trees t (drop_item k ts)

-- the value without the member that the part means
abbrev pub drop_member : Part → Tree → Tree
drop_member (Name n) (object ps) = object (without n ps)
drop_member (Pos k) (list ts) = list (drop_item k ts)
drop_member _ t = t

-- The value without what stands at the location. Nothing contains the value itself, so that it is
-- null then; no path leads there.
abbrev pub removed : Location → Tree → Tree
removed [] t = null
removed (x ∷ []) t = drop_member x t
removed (x ∷ y ∷ l) t = update x (removed (y ∷ l)) t

-- Where names lead through objects: to a value, to a place where none stands yet, or nowhere, as
-- something on the way is no object.
pub data Reach : Type 0 where
  present : Tree → Reach
  absent : Reach
  blocked : Reach

abbrev pub if_found : (Tree → Reach) → Option Tree → Reach
if_found further (Some t) = further t
if_found further None = absent

abbrev pub reach_by : (Tree → Reach) → List ℕ → Tree → Reach
reach_by further n (object ps) = if_found further (find n ps)
reach_by further n _ = blocked

abbrev pub reach : List (List ℕ) → Tree → Reach
reach [] t = present t
reach (n ∷ ns) t = reach_by (reach ns) n t

-- the attributes of an object; none of anything else
abbrev pub object_pairs : Tree → Pairs
object_pairs (object ps) = ps
object_pairs _ = no_pairs

-- The value with `new` where the names lead from it. Where nothing stands on the way, objects are
-- made.
abbrev pub given : List (List ℕ) → Tree → Tree → Tree
given [] new t = new
given (n ∷ ns) new t = object (put n (given ns new (field n t)) (object_pairs t))

-- a number with f of it, null where that is no whole number of 64 bits; anything else as it is
abbrev pub recount : (ℤ → ℤ) → Tree → Tree
recount f (integer m) = number (f m)
recount f t = t

abbrev pub same_part : Part → Part → Bool
same_part (Name m) (Name n) = bytes_eq m n
same_part (Pos j) (Pos k) = nat_eq j k
same_part _ _ = false

-- whether l is inside m, and not m itself
abbrev pub is_inside : Location → Location → Bool
is_inside [] m = false
is_inside (x ∷ l) [] = true
is_inside (x ∷ l) (y ∷ m) = same_part x y && is_inside l m
