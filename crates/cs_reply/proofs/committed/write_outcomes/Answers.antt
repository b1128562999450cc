use Rattle.std.proofs.Common.{◌∙◌, refl, arith}
use Rattle.cs_json.specs.Text.{json_text}
use Rattle.cs_json.proofs.Joined.{joined-more}
use Rattle.cs_reply.specs.Reply.{outcome as outcome_tree}
use Rattle.cs_reply.specs.View.{outcome}
use Rattle.cs_reply.proofs.committed.write_outcomes.Goals as goal

pub loop-changed-preserved : goal.loop-changed-preserved
loop-changed-preserved c =
    joined-more (λ o. json_text (outcome_tree (outcome o))) c.loop-changed.out.items c.write_next.new.out.items c.loop-changed.later
    c.args.outcomes.now c.loop-changed.changed-index _ _ (omega arith)
    refl c.in_ok-write_next.ensures
    ∙ c.loop-changed.invariant
