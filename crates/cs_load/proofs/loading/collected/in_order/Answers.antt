use Rattle.std.proofs.Common.{◌≡◌, ◌∙◌, ◌++◌, ap, map, sym}
use Rattle.std.proofs.lemmas.List.{append-nil}
use Rattle.std.specs.Map.{values_of}
use Rattle.cs_view.specs.View.{document_of}
use Rattle.cs_load.proofs.Gathering.{gathered_values}
use Rattle.cs_load.proofs.loading.collected.in_order.Goals as goal

pub returns : goal.returns
returns c =
    let all : values_of c.args.documents.entries ≡ c.loop-document.docs.items = c.loop-document.invariant ∙ ap (λ r. c.loop-document.docs.items ++ r) c.in-None.ensures.steps.0 ∙ append-nil c.loop-document.docs.items in
    ap (map document_of) (sym all) ∙ gathered_values c.args.documents.entries
