use Rattle.std.proofs.Common.{◌∙◌, ap, sym}
use Rattle.cs_jsonmatch.specs.Reading.{cut}
use Rattle.cs_jsonmatch.proofs.Readings.{no_letter}
use Rattle.cs_jsonmatch.proofs.cursor.Cursor.letter.Goals as goal

pub returns-else-skip_letter-clause-letter : goal.returns-else-skip_letter-clause-letter
returns-else-skip_letter-clause-letter c p d is ns k t left = no_letter p d is ns k t left c.args.self.now.rest.now c.args.wanted c.if-skip_letter.ensures.1 ∙ ap cut (sym c.if-skip_letter.ensures.0)
