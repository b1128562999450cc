use Rattle.cs_syntax.specs.Lex.{source}
use Rattle.cs_syntax.proofs.Meanings.{word-meaning, number-meaning, text-meaning, sign-meaning}
use Rattle.cs_syntax.proofs.laws.a_token_means_its_source.Goals as goal

pub returns-clause-word : goal.returns-clause-word
returns-clause-word c s t own e = word-meaning t.kind (source s t) e own.is_meant

pub returns-clause-number : goal.returns-clause-number
returns-clause-number c s t own e = number-meaning t.kind (source s t) e own.is_meant

pub returns-clause-text : goal.returns-clause-text
returns-clause-text c s t own e = text-meaning t.kind (source s t) e own.is_meant

pub returns-clause-sign : goal.returns-clause-sign
returns-clause-sign c s t own e = sign-meaning t.kind (source s t) e own.is_meant
