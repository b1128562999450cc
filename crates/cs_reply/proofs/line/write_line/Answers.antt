use Rattle.std.proofs.Common.{◌∙◌, ◌++◌, ◌∷◌, [], List, ℕ, ap, map, false}
use Rattle.cs_json.specs.Nodes.{member_pair}
use Rattle.cs_json.specs.declared.node.Member.{Member}
use Rattle.cs_reply.specs.View.{members_joined}
use Rattle.cs_reply.proofs.Joining.{line-of, object-text}
use Rattle.cs_reply.proofs.line.write_line.Goals as goal

pub returns : goal.returns
returns c =
    let out = c.args.out.now.items in
    let joined = members_joined false (map member_pair c.args.members.items) in
    c.in_ok-push-2.ensures.items
    ∙ ap (λ (l : List ℕ). l ++ 10 ∷ []) (c.in_ok-write_members.ensures ∙ (ap (λ (l : List ℕ). l ++ members_joined false (map member_pair c.deref.result.now)) c.in_ok-push.ensures.items
    ∙ ap (λ (ms : List Member). (out ++ 123 ∷ []) ++ members_joined false (map member_pair ms)) c.deref.ensures.value))
    ∙ line-of out joined
    ∙ ap (λ (l : List ℕ). out ++ (l ++ 10 ∷ [])) (object-text (map member_pair c.args.members.items))
