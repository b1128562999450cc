use Rattle.std.proofs.Common.{◌≡◌, ◌++◌, map, drop, false}
use Rattle.cs_json.specs.Text.{items_joined, json_text}
use Rattle.cs_reply.specs.Reply.{outcome as outcome_tree}
use Rattle.cs_reply.specs.View.{outcome}
use Rattle.cs_reply.proofs.committed.write_outcomes.Given as goal

abbrev pub invariant-loop-changed : goal.invariant-loop-changed
invariant-loop-changed l =
    l.out.items ++ items_joined l.later (map (λ o. json_text (outcome_tree (outcome o))) (drop l.changed-index l.outcomes))
    ≡ l.initial.out.items ++ items_joined false (map (λ o. json_text (outcome_tree (outcome o))) l.outcomes)
