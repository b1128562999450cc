use Rattle.std.proofs.Common.{◌∙◌, ◌++◌, ap, arith}
use Rattle.serde_json.specs.Written.{comma_if}
use Rattle.cs_json.proofs.Joined.{joined-more}
use Rattle.cs_json.proofs.list.write_items.Goals as goal

pub loop-value-preserved : goal.loop-value-preserved
loop-value-preserved g c =
    joined-more g.T.HasText.text c.loop-value.out.items c.write_item.new.out.items c.loop-value.later
    c.args.values.now c.loop-value.value-index _ _ (omega arith)
    c.value-item.is (c.in_ok-write_item.ensures ∙ ap (λ t. c.loop-value.out.items ++ (comma_if c.loop-value.later ++ t)) c.text.ensures)
    ∙ c.loop-value.invariant
