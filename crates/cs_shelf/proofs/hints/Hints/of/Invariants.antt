use Rattle.std.proofs.Common.{◌≡◌, ℕ, List, None, Some, false}
use Rattle.std.specs.BTreeMap.{get, is_at}
use Rattle.std.specs.Map.{lookup}
use Rattle.cs_view.specs.Dataset.{id_cmp}
use Rattle.cs_shelf.specs.Hinted.{is_blank}
use Rattle.cs_shelf.proofs.hints.Hints.of.Given as goal

abbrev pub invariant-loop-id : goal.invariant-loop-id
invariant-loop-id l =
    (x : List ℕ) (p : ℕ) → lookup (is_at (id_cmp x)) l.id-iterator ≡ None → get id_cmp l.order x ≡ Some p
    → is_blank l.hints.slots.items x ≡ false
