use Rattle.std.proofs.Common.{◌∙◌, ◌++◌, ◌∷◌, [], ap, sym}
use Rattle.cs_json.specs.Nodes.{node_tree}
use Rattle.cs_json.specs.Text.{json_text}
use Rattle.cs_reply.specs.View.{before_result}
use Rattle.cs_reply.proofs.Living.{line-ends, found-text}
use Rattle.cs_reply.proofs.found.write_found.Goals as goal

pub returns : goal.returns
returns c =
    let out = c.args.out.now.items in
    let t = node_tree c.args.node.now in
    c.in_ok-extend_from_slice.ensures.items
    ∙ ap (λ l. l ++ 125 ∷ 10 ∷ []) (c.in_ok-write_node.ensures.appended ∙ ap (λ l. l ++ json_text t) c.in_ok-write_before_result.ensures)
    ∙ line-ends out (before_result c.args.line) (json_text t)
    ∙ ap (λ l. out ++ (l ++ 10 ∷ [])) (sym (found-text c.args.line t))
