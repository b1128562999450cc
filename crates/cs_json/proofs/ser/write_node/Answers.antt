use Rattle.std.proofs.Common.{◌≡◌, ◌++◌, ◌∙◌, ap, ap₂}
use Rattle.json.specs.Print.{print}
use Rattle.serde_json.proofs.Texts.{print-outline}
use Rattle.cs_json.specs.Nodes.{node_tree}
use Rattle.cs_json.specs.Text.{data_of, json_text}
use Rattle.cs_json.specs.Tokens.{tokens_of}
use Rattle.cs_json.proofs.ser.write_node.Goals as goal

pub returns-in-Ok-clause-appended : goal.returns-in-Ok-clause-appended
unfolding json_text
returns-in-Ok-clause-appended c =
    let t = node_tree c.args.node.now in
    let before : c.print_node-printed.new.out.before ≡ c.args.out.now.items =
    c.print_node-printed.ensures.before ∙ c.new-writer.ensures.before ∙ ap (λ v. v.items) c.replace.ensures.value in
    let tokens : c.print_node-printed.new.out.tokens ≡ tokens_of t =
    c.in-Ok.ensures.tokens ∙ ap (λ ts. ts ++ tokens_of t) c.new-writer.ensures.tokens in
    c.into_inner.ensures.items ∙ ap₂ (λ b ts. b ++ print ts) before tokens
    ∙ ap (λ s. c.args.out.now.items ++ s) (print-outline (data_of t))
