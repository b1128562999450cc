use Rattle.std.proofs.Common.{◌∙◌}
use Rattle.std.proofs.lemmas.Option.{IfSome_then}
use Rattle.cs_view.specs.Scopes.{scope_of}
use Rattle.cs_past.proofs.Keyed.{key_at}
use Rattle.cs_past.proofs.past.part_at.Goals as goal

pub returns-then-place-order : goal.returns-then-place-order
returns-then-place-order c =
    let os = c.args.order.now in
    let sc = scope_of c.args.frame.now in
    let key = c.index-order-place.result in
    IfSome_then c.direct_part.result c.direct_part.ensures.value
    (λ v h docs params. h docs params ∙ key_at docs params os sc c.args.place key c.if-place-order.true)
