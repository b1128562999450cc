-- What contracts see of a shelf: its documents in the order of their ids, and what stands at a
-- place.
use Rattle.std.specs.Prelude.{◌≡◌, ℕ, List, Option, Some}
use Rattle.std.specs.BTreeMap.{get}
use Rattle.cs_value.specs.Tree.{Tree}
use Rattle.cs_view.specs.Dataset.{id_cmp}
use Rattle.cs_shelf.specs.Places.{tree_at, trees_at, StandIn}
use Rattle.cs_shelf.specs.declared.shelf.Shelf.{Shelf}

abbrev pub documents : Shelf → List Tree
documents s = trees_at s.store s.order.entries

abbrev pub doc_at : Shelf → ℕ → Option Tree
doc_at s p = tree_at s.store p

-- the place of an id
abbrev pub place_at : Shelf → List ℕ → Option ℕ
place_at s x = get id_cmp s.order x

-- what stands in the one shelf stands in the other at the same place
abbrev pub StayIn : Shelf → Shelf → Type 0
StayIn s t = StandIn s.order t.order

-- what stands in both stands in both at the same place
abbrev pub AreSteady : Shelf → Shelf → Type 0
AreSteady s t = (x : List ℕ) (p q : ℕ) → place_at s x ≡ Some p → place_at t x ≡ Some q → p ≡ q
