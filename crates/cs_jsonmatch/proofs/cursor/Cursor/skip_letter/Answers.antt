use Rattle.std.proofs.Common.{◌∙◌, refl, sym}
use Rattle.cs_jsonmatch.proofs.Chars.{other_char}
use Rattle.cs_jsonmatch.proofs.cursor.Cursor.skip_letter.Goals as goal

pub returns-then-c-wanted : goal.returns-then-c-wanted
returns-then-c-wanted c = (refl, other_char c.in-Some.c c.args.wanted _ c.args.self.now.rest.now c.requires c.if-c-wanted.true (sym c.chars-chars.ensures.rest ∙ c.in-Some.ensures.steps.0))
