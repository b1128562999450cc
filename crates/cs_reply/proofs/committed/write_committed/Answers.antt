use Rattle.std.proofs.Common.{◌∙◌, ◌++◌, ◌∷◌, [], ap, codes, false, map, sym}
use Rattle.cs_value.specs.Tree.{text}
use Rattle.cs_json.specs.Text.{items_joined, json_text}
use Rattle.cs_reply.specs.Fields.{number}
use Rattle.cs_reply.specs.Reply.{outcome as outcome_tree}
use Rattle.cs_reply.specs.View.{outcome}
use Rattle.cs_reply.proofs.Committing.{committed-text, line-ends, map-both}
use Rattle.cs_reply.proofs.committed.write_committed.Goals as goal

pub returns : goal.returns
returns c =
    let out = c.args.out.now.items in let os = c.args.outcomes.now in
    let a = codes "{\"line\":" in let n = json_text (number c.args.line) in let b = codes ",\"results\":[" in
    let all = items_joined false (map (λ o. json_text (outcome_tree (outcome o))) os) in
    let d = codes ",\"transactionId\":" in let tx = json_text (text c.args.tx.now) in
    c.in_ok-extend_from_slice-4.ensures.items
    ∙ ap (λ l. l ++ 125 ∷ 10 ∷ []) (c.in_ok-write_text.ensures ∙ ap (λ l. l ++ tx) (c.in_ok-extend_from_slice-3.ensures.items
    ∙ ap (λ l. l ++ d) (c.in_ok-write_outcomes.ensures ∙ ap (λ l. l ++ all) (c.in_ok-extend_from_slice-2.ensures.items
    ∙ ap (λ l. l ++ b) (c.in_ok-write_number.ensures ∙ (λ i. c.in_ok-extend_from_slice.ensures.items i ++ json_text (number c.args.line)))))))
    ∙ line-ends out a n b all d tx
    ∙ ap (λ ts. out ++ ((a ++ (n ++ (b ++ (items_joined false ts ++ (d ++ (tx ++ 125 ∷ [])))))) ++ 10 ∷ [])) (map-both (λ o. json_text (outcome_tree o)) outcome os)
    ∙ ap (λ l. out ++ (l ++ 10 ∷ [])) (sym (committed-text c.args.line c.args.tx.now (map outcome os)))
