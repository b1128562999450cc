-- What reading a whole list of tokens answers: GROQ-1.revision1 "Syntax", as this project's profile
-- has it.
use Rattle.std.specs.Prelude.{ℕ, ◌≤◌, List, Result, Ok, Err, Box, IsCharBoundary, IsSome, ⊤}
use Rattle.std.specs.declared.alloc.Global.{Global}
use Rattle.cs_syntax.specs.declared.tree.Expr.{Expr}
use Rattle.cs_syntax.specs.Escapes.{decoded}
use Rattle.cs_syntax.specs.Lex.{param_name}
use Rattle.cs_syntax.specs.Expression.{Tok, Expression}
use Rattle.cs_syntax.specs.View.{expression}
use Rattle.cs_grammar.specs.declared.fault.GrammarFault.{GrammarFault}
use Rattle.cs_grammar.specs.declared.fault.GrammarFault.TheVariants.{Syntax, NoMemory}
use Rattle.cs_grammar.specs.declared.lexeme.Form.{Form}
use Rattle.cs_grammar.specs.declared.lexeme.Form.TheVariants as form
use Rattle.cs_grammar.specs.declared.lexeme.Lexeme.{Lexeme}
use Rattle.cs_grammar.specs.declared.look.Seen.{Seen}
use Rattle.cs_grammar.specs.declared.look.Seen.TheVariants as seen_as
use Rattle.cs_grammar.specs.Spells.{Spells}
use Rattle.cs_grammar.specs.View.{source}

-- the source of a token of the form is one, as far as it is still to be read
abbrev pub IsSource : Form → List ℕ → Type 0
IsSource form.Text s = IsSome (decoded s)
IsSource form.Param s = IsSome (param_name s)
IsSource _ s = ⊤

-- the token stands in the text between two of its characters, and its source can be read
pub record IsLexemeOf (text : List ℕ) (l : Lexeme) : Type 0 where
  pub in_order : l.from ≤ l.to
  pub begins : IsCharBoundary text l.from
  pub ends : IsCharBoundary text l.to
  pub is_source : IsSource l.form (source text l)

-- for private clauses: the source of a text token that is seen is one
abbrev pub IsReadable : Seen → Type 0
IsReadable (seen_as.Text s) = IsSome (decoded s.now)
IsReadable _ = ⊤

-- the expression that the tokens spell; Syntax where they spell none; want of memory at any time
abbrev pub Parses : List Tok → Result (Box Expr Global) GrammarFault → Type 0
Parses ts (Ok e) = Spells ts (expression e.value)
Parses ts (Err Syntax) = (e : Expression) → ¬ (Spells ts e)
Parses ts (Err NoMemory) = ⊤
