use Rattle.std.proofs.Common.{◌∙◌, ◌++◌, ap, codes, sym}
use Rattle.cs_value.specs.Tree.{text}
use Rattle.cs_json.specs.Text.{json_text}
use Rattle.cs_reply.specs.View.{outcome}
use Rattle.cs_reply.proofs.Committing.{five-parts, outcome-text}
use Rattle.cs_reply.proofs.committed.write_outcome.Goals as goal

pub returns : goal.returns
returns c =
    let out = c.args.out.now.items in let o = outcome c.args.changed.now in
    let a = codes "{\"id\":" in let id = json_text (text o.0) in let b = codes ",\"operation\":\"" in let word = c.as_bytes.result.now in let end = codes "\"}" in
    c.in_ok-extend_from_slice-4.ensures.items
    ∙ ap (λ l. l ++ end) (c.in_ok-extend_from_slice-3.ensures.items ∙ ap (λ l. l ++ word) (c.in_ok-extend_from_slice-2.ensures.items
    ∙ ap (λ l. l ++ b) (c.in_ok-write_text.ensures ∙ ap (λ l. l ++ id) c.in_ok-extend_from_slice.ensures.items)))
    ∙ five-parts out a id b word end
    ∙ ap (λ w. out ++ (a ++ (id ++ (b ++ (w ++ end))))) (c.as_bytes.ensures.value ∙ c.word.ensures)
    ∙ ap (λ l. out ++ l) (sym (outcome-text o.0 o.1))
