use Rattle.std.proofs.Common.{sym, ap, ◌∙◌}
use Rattle.std.specs.List.{list_any}
use Rattle.cs_value.specs.View.{tree}
use Rattle.cs_jsonmatch.specs.Places.{selects}
use Rattle.cs_jsonmatch.specs.View.{part_of}
use Rattle.cs_jsonmatch.proofs.Walks.{next_done, one_flag}
use Rattle.cs_jsonmatch.proofs.walk.some_wait_below.Goals as goal

pub returns : goal.returns
returns c =
    let l = c.loop-waits in
    let p = selects c.args.count (part_of c.args.key) (tree c.args.val.now) in
    sym (one_flag l.selected)
    ∙ ap (list_any (λ b. b)) (sym (next_done p l.selected l.waits-iterator.a l.waits-iterator.b c.in-None.ensures.steps))
    ∙ l.invariant
