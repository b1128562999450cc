use Rattle.std.proofs.Common.{◌≡◌, map}
use Rattle.std.specs.Vec.Iter.{into_iter_items}
use Rattle.cs_value.specs.View.{list_tree}
use Rattle.cs_body.specs.Body.{all_read}
use Rattle.cs_body.specs.Body as body
use Rattle.cs_body.specs.View.{action, AllAddNumbers}
use Rattle.cs_body.proofs.Lists.{joined}
use Rattle.cs_body.proofs.mutation.mutations.Given as goal

abbrev pub invariant-loop-member : goal.invariant-loop-member
invariant-loop-member l =
    (joined (map action l.mutations.items) (all_read body.action (list_tree (into_iter_items l.member-iterator))) ≡ all_read body.action (list_tree l.fn.members.items))
    × AllAddNumbers l.mutations.items
