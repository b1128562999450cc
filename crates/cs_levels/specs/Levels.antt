-- Lists whose elements go through a rest of a chain one by one: what is still to be done of them,
-- and what comes of it.
use Rattle.std.specs.Prelude.{◌≡◌, ⊤, Bool, true, false, List, [], ◌∷◌, ◌++◌}
use Rattle.std.specs.Prelude.{map, flat_map, Option, Some, None}
use Rattle.std.specs.Vec.Iter.{into_iter_items}
use Rattle.cs_value.specs.Words.{as_list, list_of}
use Rattle.cs_value.specs.Tree.{Tree}
use Rattle.cs_meaning.specs.declared.join.Entrance.{Entrance}
use Rattle.cs_meaning.specs.declared.join.Entrance.TheVariants as entrance
use Rattle.cs_meaning.specs.declared.join.Entrance.TheVariants.{Mapped, Flat}
use Rattle.cs_meaning.specs.Joining.{mapped, flattened, flat_elements}
use Rattle.cs_parts.specs.Parts.{got, item}
use Rattle.cs_parts.specs.declared.answer.Got.{Got}
use Rattle.cs_levels.specs.declared.levels.Remaining.{Remaining}
use Rattle.cs_levels.specs.declared.levels.Level.{Level}
use Rattle.cs_levels.specs.declared.levels.Reached.{Reached}
use Rattle.cs_levels.specs.declared.levels.Reached.TheVariants.{End, Whole, Each}
use Rattle.cs_levels.specs.declared.levels.Task.{Task}
use Rattle.cs_levels.specs.declared.levels.Task.TheVariants.{Done, Go}

-- what one result adds to those of a list: its elements where lists are joined, else itself
abbrev pub added : Bool → Tree → List Tree
added true v = flat_elements v
added false v = v ∷ []

-- what the elements of a list give one by one
abbrev pub results : Bool → (Tree → Tree) → List Tree → List Tree
results joins rest ts = flat_map (λ x. added joins (rest x)) ts

-- a list whose elements go through a rest one by one
abbrev pub one_by_one : Bool → (Tree → Tree) → Tree → Tree
one_by_one true rest v = flattened rest v
one_by_one false rest v = mapped rest v

-- the list that an open level gives
abbrev pub level_list : (Remaining → Tree → Tree) → Level → Tree
level_list rest l = list_of (map item l.out.items
    ++ results l.joins (rest l.rest) (map item (into_iter_items l.left)))

-- the same where the element in hand gives v
abbrev pub level_given : (Remaining → Tree → Tree) → Level → Tree → Tree
level_given rest l v = list_of (map item l.out.items ++ (added l.joins v
    ++ results l.joins (rest l.rest) (map item (into_iter_items l.left))))

-- what all open levels give, the outermost first, where the element in hand gives v
abbrev pub unwound : (Remaining → Tree → Tree) → List Level → Tree → Tree
unwound rest [] v = v
unwound rest (l ∷ ls) v = level_given rest l (unwound rest ls v)

-- how far a chain has come where a value enters a rest: "Array postfix"
abbrev pub entering : Entrance → Got → Remaining → Reached
entering entrance.Whole g r = Whole g r
entering Mapped g r = Each g false r
entering Flat g r = Each g true r

-- what comes of the place that a chain has reached, and of a task
abbrev pub reached_value : (Remaining → Tree → Tree) → Reached → Tree
reached_value rest (End g) = got g
reached_value rest (Whole g r) = rest r (got g)
reached_value rest (Each g joins r) = one_by_one joins (rest r) (got g)

abbrev pub task_value : (Remaining → Tree → Tree) → Task → Tree
task_value rest (Done g) = got g
task_value rest (Go g r) = rest r (got g)

-- a value that has yet to go through a rest
pub record Waiting : Type 0 where
  pub rest : Remaining
  pub value : Tree

abbrev pub waiting : Remaining → List Tree → List Waiting
waiting r ts = map (λ x. record { rest = r; value = x }) ts

abbrev pub waiting_of : Remaining → Option (List Tree) → List Waiting
waiting_of r None = []
waiting_of r (Some ts) = waiting r ts

-- all that wait, in the order in which they are to be done
abbrev pub levels_waiting : List Level → List Waiting
levels_waiting [] = []
levels_waiting (l ∷ ls) = levels_waiting ls ++ waiting l.rest (map item (into_iter_items l.left))

abbrev pub reached_waiting : Reached → List Waiting
reached_waiting (End g) = []
reached_waiting (Whole g r) = record { rest = r; value = got g } ∷ []
reached_waiting (Each g joins r) = waiting_of r (as_list (got g))

abbrev pub task_waiting : Task → List Waiting
task_waiting (Done g) = []
task_waiting (Go g r) = record { rest = r; value = got g } ∷ []

-- a task that is done leaves no open level
abbrev pub Ended : Task → List Level → Type 0
Ended (Done g) ls = ls ≡ []
Ended (Go g r) ls = ⊤

abbrev pub Kept : Task → List Level → List Level → Type 0
Kept (Done g) before after = after ≡ before
Kept (Go g r) before after = ⊤

-- what is to be done comes to the same value, whatever the rests make of values
abbrev pub SameValue : List Level → ((Remaining → Tree → Tree) → Tree) → List Level
    → ((Remaining → Tree → Tree) → Tree) → Type 0
SameValue before f after g =
    (rest : Remaining → Tree → Tree) → unwound rest after (g rest) ≡ unwound rest before (f rest)
