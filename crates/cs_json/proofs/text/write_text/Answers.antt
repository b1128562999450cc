use Rattle.std.proofs.Common.{◌≡◌, ◌∙◌, ◌++◌, ◌∷◌, [], ℕ, List, OnOk, ap, subst, sym}
use Rattle.json.specs.Print.{escape}
use Rattle.cs_json.specs.Text.{json_text}
use Rattle.cs_json.proofs.text.write_text.Goals as goal

pub returns-then-are_plain : goal.returns-then-are_plain
unfolding json_text
returns-then-are_plain c =
    let s = c.args.text.now in
    let plain : escape s ≡ s = ap escape (sym c.as_bytes.ensures.value) ∙ c.are_plain.ensures c.if-are_plain.true ∙ c.as_bytes.ensures.value in
    subst (λ (l : List ℕ). OnOk c.write_between_quotes.result (c.write_between_quotes.new.out.items ≡ c.args.out.now.items ++ l))
    (ap (λ l. 34 ∷ (l ++ 34 ∷ [])) (c.as_bytes-then-are_plain.ensures.value ∙ sym plain))
    c.write_between_quotes.ensures
