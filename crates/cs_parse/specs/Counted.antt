-- What is counted and kept of a text's tokens as they are found. For private clauses.
use Rattle.std.specs.Prelude.{◌≡◌, ◌↔◌, ◌<◌, ℕ, List, IsTrue, map}
use Rattle.cs_syntax.specs.declared.token.Token.{Token}
use Rattle.cs_syntax.specs.Expression.{Tok}
use Rattle.cs_syntax.specs.Lex.{IsTokens, Reads, meanings}
use Rattle.cs_grammar.specs.declared.lexeme.Lexeme.{Lexeme}
use Rattle.cs_grammar.specs.View.{tok}
use Rattle.cs_parse.specs.declared.depth.Depth.{Depth}
use Rattle.cs_parse.specs.Depth.{opens, closes, count_of, IsTooDeep}

-- the brackets of these tokens are counted
pub record IsDepthOf (ts : List Tok) (d : Depth) : Type 0 where
  pub opened : d.opened ≡ count_of opens ts
  pub closed : d.closed ≡ count_of closes ts
  pub exceeded : IsTrue d.exceeded ↔ IsTooDeep ts

-- fewer brackets than n are counted, of those that open and of those that close
abbrev pub FewerThan : ℕ → Depth → Type 0
FewerThan n d = (d.opened < n) × (d.closed < n)

-- up to `end` the text has these tokens
pub record AreLexemesUpTo (text : List ℕ) (end : ℕ) (ls : List Lexeme) : Type 0 where
  pub tokens : List Token
  pub reads : Reads text 0 tokens end
  pub meant : map (tok text) ls ≡ meanings text tokens

-- the whole text has these tokens, and their brackets are not too deep
pub record AreLexemesOf (text : List ℕ) (ls : List Lexeme) : Type 0 where
  pub tokens : List Token
  pub are : IsTokens text 0 tokens
  pub meant : map (tok text) ls ≡ meanings text tokens
  pub shallow : ¬ (IsTooDeep (map (tok text) ls))
