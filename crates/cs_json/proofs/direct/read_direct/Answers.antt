use Rattle.std.proofs.Common.{rules, ◌≡◌, [], Some, sym, ap, ◌∙◌}
use Rattle.json.specs.Json.{value}
use Rattle.json.specs.Lex.{tokens}
use Rattle.serde_json.specs.Read.{converted}
use Rattle.cs_value.specs.View.{tree}
use Rattle.cs_json.specs.Direct.{made}
use Rattle.std.specs.Prelude.{IsUtf8}
use Rattle.cs_json.proofs.Tokens.{ok_holds, match_holds}
use Rattle.cs_json.proofs.Made.{made_of_text}
use Rattle.cs_json.proofs.direct.read_direct.Goals as goal

pub returns-clause-value : goal.returns-clause-value
returns-clause-value c =
    let bytes = c.args.bytes.now in
    let val = c.in_ok-val.val in
    let is : (c.in_ok-text.text.now ≡ bytes) × IsUtf8 bytes = match_holds (λ s. (s.now ≡ bytes) × IsUtf8 bytes) _ c.from_utf8.result c.in_ok-text.text c.in_ok-text.ensures.value c.from_utf8.ensures.cases in
    let begun : c.in_ok-reader.reader ≡ tokens c.in_ok-text.text.now = ok_holds (λ r. r ≡ tokens c.in_ok-text.text.now) c.new.result c.in_ok-reader.reader c.in_ok-reader.ensures.value c.new.ensures.ok in
    let none : c.read_value.new.reader ≡ [] = search rules in
    let all = ap (λ ts. converted made (value 127 ts)) (sym (begun ∙ ap tokens is.0)) ∙ c.in_ok-val.ensures.value ∙ ap (λ r. Some (tree val, r)) none in
    (is.1, made_of_text bytes (tree val) all)
