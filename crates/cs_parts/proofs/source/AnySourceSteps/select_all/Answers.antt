use Rattle.std.proofs.Common.{◌≡◌, ◌∙◌, ap, length, arith}
use Rattle.cs_view.specs.Keys.{selected}
use Rattle.cs_parts.proofs.Places.{some_at, same_items, all_placed, as_long}
use Rattle.cs_parts.proofs.source.AnySourceSteps.select_all.Goals as goal

pub at-requires : goal.at-requires
at-requires g c = some_at (g.V.View.doc_at c.args.self.now) c.deref-place-items.result.now c.loop-place.place-index _ _ c.loop-place-test.true c.loop-place.invariant.0

pub returns-clause-found : goal.returns-clause-found
returns-clause-found g c = same_items _ _ (all_placed (g.V.View.doc_at c.args.self.now) c.deref-place-items.result.now c.loop-place.place-index _ _ c.loop-place-test.false c.loop-place.invariant.0)

pub returns-in_err-push-clause-visits : goal.returns-in_err-push-clause-visits
returns-in_err-push-clause-visits g c =
    let n : length c.deref-place-items.result.now ≡ length (selected c.args.keys.now (g.V.View.docs c.args.self.now)) =
    ap length c.deref-place-items.ensures.value ∙ as_long _ _ _ _ c.in_ok-places.ensures in
    omega (arith, n, c.loop-place.invariant.1, c.at.ensures.visit, c.loop-place-test.true)
