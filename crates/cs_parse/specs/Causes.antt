-- The causes that the steps of reading tell, as causes of a text. For private clauses.
use Rattle.cs_syntax.specs.declared.token.TokenFault.{TokenFault}
use Rattle.cs_syntax.specs.declared.token.TokenFault.TheVariants as token
use Rattle.cs_grammar.specs.declared.fault.GrammarFault.{GrammarFault}
use Rattle.cs_grammar.specs.declared.fault.GrammarFault.TheVariants as grammar
use Rattle.cs_parse.specs.declared.fault.ParseFault.{ParseFault}
use Rattle.cs_parse.specs.declared.fault.ParseFault.TheVariants.{BadToken, Syntax, NoMemory}

abbrev pub of_tokens : TokenFault → ParseFault
of_tokens (token.BadToken at) = BadToken at
of_tokens token.NoMemory = NoMemory

abbrev pub of_grammar : GrammarFault → ParseFault
of_grammar grammar.Syntax = Syntax
of_grammar grammar.NoMemory = NoMemory
