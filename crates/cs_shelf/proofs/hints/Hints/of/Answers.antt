use Rattle.std.proofs.Common.{◌≡◌, ℕ, List, None, Some, false, subst}
use Rattle.std.specs.BTreeMap.{get, is_at}
use Rattle.std.specs.Map.{lookup}
use Rattle.cs_view.specs.Dataset.{id_cmp}
use Rattle.cs_shelf.specs.Hinted.{is_blank}
use Rattle.cs_shelf.proofs.Hinting.{noted_one}
use Rattle.cs_shelf.proofs.Standing.{Entry}
use Rattle.cs_shelf.proofs.hints.Hints.of.Goals as goal

pub loop-id-preserved : goal.loop-id-preserved
loop-id-preserved c =
    let old = c.loop-id.hints.slots.items in
    noted_one old c.note.new.self.slots.items c.args.order.now (c.in-Some.id.now, c.in-Some.place.now) c.next.new.self
    (subst (λ (es : List Entry). (x : List ℕ) (p : ℕ) → lookup (is_at (id_cmp x)) es ≡ None → get id_cmp c.args.order.now x ≡ Some p → is_blank old x ≡ false) c.in-Some.ensures.steps c.loop-id.invariant)
    c.note.ensures.own c.note.ensures.kept
