use Rattle.std.proofs.Common.{◌++◌, sym, ap, ◌∙◌}
use Rattle.cs_value.specs.View.{tree}
use Rattle.cs_jsonmatch.specs.Places.{selects}
use Rattle.cs_jsonmatch.specs.View.{part_of}
use Rattle.cs_jsonmatch.proofs.Walks.{next_done}
use Rattle.cs_jsonmatch.proofs.walk.next.Goals as goal

pub returns : goal.returns
returns c =
    let l = c.loop-waits in
    let p = selects c.args.count (part_of c.args.key) (tree c.args.val.now) in
    c.in_ok-push-2.ensures.items
    ∙ ap (λ r. l.below.items ++ r) (sym (next_done p l.here l.waits-iterator.a l.waits-iterator.b c.in-None.ensures.steps))
    ∙ l.invariant
