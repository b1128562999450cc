-- What the code keeps of a target. For private clauses.
use Rattle.std.specs.Prelude.{ℕ, List, [], ◌∷◌, filter, not, Bool, true, false, Option, Some, None, is_some}
use Rattle.std.specs.List.{list_any, list_all}
use Rattle.cs_value.specs.Tree.{Tree, integer, list}
use Rattle.cs_jsonmatch.specs.Places.{Location}
use Rattle.cs_alter.specs.Within.{at, Reach, present, absent, blocked, is_inside}
use Rattle.cs_targets.specs.Targets.{Target as SpecTarget, location}
use Rattle.cs_targets.specs.declared.target.Stands.{Stands}
use Rattle.cs_targets.specs.declared.target.Stands.TheVariants as stands
use Rattle.cs_targets.specs.declared.target.Target.{Target}

abbrev pub stands_of : Tree → Stands
stands_of (integer n) = stands.Number n
stands_of (list ts) = stands.List
stands_of _ = stands.Other

abbrev pub way_of : Reach → Stands
way_of (present t) = stands_of t
way_of absent = stands.Absent
way_of blocked = stands.Blocked

abbrev pub value_of : Option Tree → Stands
value_of (Some t) = stands_of t
value_of None = stands.Absent

-- a target as the code sees it: its place, its names, its location, and what stands there
pub record Seen : Type 0 where
  pub place : Location
  pub names : List (List ℕ)
  pub location : Location
  pub stands : Stands

abbrev pub seen : List (List ℕ) → Target → Seen
seen ns t =
    record { place = t.place.items; names = ns; location = t.location.items; stands = t.stands }

abbrev pub seen_of : SpecTarget → Seen
seen_of t =
    record { place = t.place; names = t.names; location = location t; stands = value_of t.value }

abbrev pub outer_seen : List Seen → List Seen
outer_seen xs = filter (λ x. not (list_any (λ y. is_inside x.location y.location) xs)) xs

-- each target in turn, from the last to the first
abbrev pub each_seen : (Seen → Tree → Tree) → List Seen → Tree → Tree
each_seen f [] v = v
each_seen f (x ∷ xs) v = f x (each_seen f xs v)

-- whether something stands at the place of each
abbrev pub are_standing : Tree → List Seen → Bool
are_standing v xs = list_all (λ x. is_some (at x.place v)) xs

-- whether nothing stands there
abbrev pub is_absent : Stands → Bool
is_absent stands.Absent = true
is_absent _ = false

abbrev pub is_missing : Seen → Bool
is_missing x = is_absent x.stands
