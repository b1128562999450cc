use Rattle.std.proofs.Common.{◌≡◌}
use Rattle.std.specs.Vec.Iter.{into_iter_items}
use Rattle.cs_value.specs.Words.{as_text}
use Rattle.cs_value.specs.View.{list_tree}
use Rattle.cs_body.specs.Body.{all_read}
use Rattle.cs_body.proofs.Lists.{joined}
use Rattle.cs_body.proofs.parts.texts.Given as goal

abbrev pub invariant-loop-member : goal.invariant-loop-member
invariant-loop-member l =
    joined l.texts.items (all_read as_text (list_tree (into_iter_items l.member-iterator))) ≡ all_read as_text (list_tree l.fn.members.items)
