use Rattle.std.proofs.Common.{◌≡◌, ◌++◌, map, drop, false}
use Rattle.cs_json.specs.Nodes.{member_pair}
use Rattle.cs_reply.specs.View.{members_joined}
use Rattle.cs_reply.proofs.line.write_members.Given as goal

abbrev pub invariant-loop-member : goal.invariant-loop-member
invariant-loop-member l =
    l.out.items ++ members_joined l.later (map member_pair (drop l.member-index l.members))
    ≡ l.initial.out.items ++ members_joined false (map member_pair l.members)
