use Rattle.std.proofs.Common.{◌∙◌}
use Rattle.cs_jsonmatch.proofs.Chars.{class_at}
use Rattle.cs_jsonmatch.proofs.cursor.Cursor.peek.Goals as goal

pub returns-in-Some : goal.returns-in-Some
returns-in-Some c = c.class_of.ensures ∙ class_at c.in-Some.c _ _ c.args.self.now.rest.now c.chars.ensures.rest c.in-Some.ensures.steps.0
