use Rattle.std.proofs.Common.{◌≡◌, ◌+◌, ◌∙◌, ap, refl, rules}
use Rattle.cs_parse.proofs.Counts.{above_more, bit, within_more}
use Rattle.cs_parse.proofs.depth.Depth.count.Goals as goal

pub returns-then-self : goal.returns-then-self
returns-then-self c =
    let opening : c.from.result ≡ bit c.is_opening.result = search rules in
    let closing : c.from-2.result ≡ bit c.is_closing.result = search rules in
    λ text ts h. above_more ts _ c.args.self.now _ h
    (ap (λ n. c.args.self.now.opened + n) (opening ∙ ap bit (c.is_opening.ensures text)))
    (ap (λ n. c.args.self.now.closed + n) (closing ∙ ap bit (c.is_closing.ensures text)))
    c.if-self.true refl

pub returns-else-self : goal.returns-else-self
returns-else-self c =
    let opening : c.from.result ≡ bit c.is_opening.result = search rules in
    let closing : c.from-2.result ≡ bit c.is_closing.result = search rules in
    λ text ts h. within_more ts _ c.args.self.now _ h
    (ap (λ n. c.args.self.now.opened + n) (opening ∙ ap bit (c.is_opening.ensures text)))
    (ap (λ n. c.args.self.now.closed + n) (closing ∙ ap bit (c.is_closing.ensures text)))
    c.if-self.false refl
