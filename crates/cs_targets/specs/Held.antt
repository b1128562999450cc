-- Locations that are held in a set. For private clauses.
use Rattle.std.specs.Prelude.{[], ◌∷◌, Bool, false, ◌||◌}
use denote.Ref.{Bor}
use Rattle.std.specs.declared.cmp.Ordering.{Ordering}
use Rattle.std.specs.Ordering.{is_eq}
use Rattle.std.specs.Cmp.Lexicographic.{slice_cmp}
use Rattle.std.specs.BTreeSet.{BTreeSet, contains_by}
use Rattle.cs_jsonmatch.specs.Places.{Location}
use Rattle.cs_jsonmatch.specs.contracts.places.PartOrd.TheImpl as part_order

-- the order of locations, by their first parts that differ
abbrev pub location_cmp : Location → Location → Ordering
location_cmp l m = slice_cmp part_order.ghosts.cmp l m

abbrev pub same_location : Location → Location → Bool
same_location l m = is_eq (location_cmp l m)

abbrev pub is_held : BTreeSet (Bor Location) → Location → Bool
is_held held l = contains_by (λ k. location_cmp l k.now) held

-- whether p holds of a location that is met on the way to this one, before its end
abbrev pub any_before : (Location → Bool) → Location → Bool
any_before p [] = false
any_before p (x ∷ l) = p [] || any_before (λ m. p (x ∷ m)) l
