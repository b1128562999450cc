use Rattle.std.proofs.Common.{◌∙◌, arith}
use Rattle.cs_json.specs.Nodes.{member_pair}
use Rattle.cs_reply.proofs.Joining.{members-more}
use Rattle.cs_reply.proofs.line.write_members.Goals as goal

pub loop-member-preserved : goal.loop-member-preserved
loop-member-preserved c =
    members-more member_pair c.loop-member.out.items c.write_member.new.out.items c.loop-member.later
    c.args.members.now c.loop-member.member-index c.member-item.result c.member-item.result (omega arith)
    c.member-item.is c.in_ok-write_member.ensures
    ∙ c.loop-member.invariant
