use Rattle.std.proofs.Common.{map, ap, ◌∙◌}
use Rattle.cs_view.specs.Keys.{having}
use Rattle.cs_docs.proofs.Placed.{stands}
use Rattle.cs_index_tests.proofs.tests.selected.Goals as goal

pub at-requires : goal.at-requires
at-requires g c =
    let at = g.V.View.doc_at c.args.view.now in
    let selected = having c.args.key.now (g.V.View.docs c.args.view.now) in
    stands at c.deref-place-items.result.now selected (ap (map at) c.deref-place-items.ensures.value ∙ c.in_ok-places.ensures) c.loop-place.place-index c.loop-place-test.true
