use Rattle.std.proofs.Common.{◌≡◌, ◌∙◌, sym, rules}
use denote.Enum.Bare.{differs_false}
use Rattle.cs_jsonmatch.specs.contracts.class.Class.{the_type}
use Rattle.cs_jsonmatch.proofs.Chars.{next_takes}
use Rattle.cs_jsonmatch.proofs.cursor.Cursor.take.Goals as goal

pub returns : goal.returns
returns c =
    let same : c.peek.result ≡ c.args.wanted = differs_false the_type (search rules) _ _ (sym c.ne.ensures ∙ c.if-ne.false) in
    next_takes c.args.wanted c.next.result c.args.self.now.rest.now c.next.new.self.rest.now c.requires (sym c.peek.ensures ∙ same) c.next.ensures
