use Rattle.std.proofs.Common.{sym, refl}
use Rattle.cs_parse.proofs.Meant.{number_meant}
use Rattle.cs_parse.proofs.lexemes.form.Goals as goal

pub returns-in-Number-clause-meaning : goal.returns-in-Number-clause-meaning
returns-in-Number-clause-meaning c = sym (number_meant _ _ _ c.in-Number.is c.requires.is_meant refl)
