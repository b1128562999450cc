-- What a token of the code stands for.
use Rattle.std.specs.Prelude.{ℕ, ◌-◌, List, [], ◌∷◌, take, drop, Option, Some, None, unwrap_or, ⊤}
use Rattle.cs_syntax.specs.declared.sign.Sign.{Sign}
use Rattle.cs_syntax.specs.Escapes.{decoded}
use Rattle.cs_syntax.specs.Lex.{param_name}
use Rattle.cs_syntax.specs.Expression.{Tok, number_tok, text_tok, param_tok, word_tok, sign_tok}
use Rattle.cs_grammar.specs.declared.lexeme.Form.{Form}
use Rattle.cs_grammar.specs.declared.lexeme.Form.TheVariants as form
use Rattle.cs_grammar.specs.declared.lexeme.Lexeme.{Lexeme}
use Rattle.cs_grammar.specs.declared.look.Seen.{Seen}
use Rattle.cs_grammar.specs.declared.look.Seen.TheVariants as seen_as

-- what the source of a text token means
abbrev pub text_of : List ℕ → List ℕ
text_of source = unwrap_or (decoded source) []

-- the name of a parameter, of which `$` stands in front
abbrev pub name_of : List ℕ → List ℕ
name_of source = unwrap_or (param_name source) []

-- the bytes of its text that are the token's
abbrev pub source : List ℕ → Lexeme → List ℕ
source text l = take (l.to - l.from) (drop l.from text)

-- what a token of the form means by its source
abbrev pub formed : Form → List ℕ → Tok
formed form.Number s = number_tok s
formed form.Text s = text_tok (text_of s)
formed form.Param s = param_tok (name_of s)
formed form.Word s = word_tok s
formed (form.Sign s) written = sign_tok s

abbrev pub tok : List ℕ → Lexeme → Tok
tok text l = formed l.form (source text l)

-- for private clauses: what is seen of a token
abbrev pub seen : Seen → Tok
seen (seen_as.Number s) = number_tok s.now
seen (seen_as.Text s) = text_tok (text_of s.now)
seen (seen_as.Param s) = param_tok s.now
seen (seen_as.Word s) = word_tok s.now
seen (seen_as.Sign s) = sign_tok s

-- for private clauses: the sign that a form is
abbrev pub sign_in : Form → Option Sign
sign_in (form.Sign s) = Some s
sign_in _ = None

-- for private clauses: no sign stands first
abbrev pub IsNoSign : List Tok → Type 0
IsNoSign [] = ⊤
IsNoSign (number_tok n ∷ r) = ⊤
IsNoSign (text_tok t ∷ r) = ⊤
IsNoSign (param_tok p ∷ r) = ⊤
IsNoSign (word_tok w ∷ r) = ⊤
IsNoSign (sign_tok s ∷ r) = ⊥

-- the tokens from an index on
unfoldable pub left : List Tok → ℕ → List Tok
left ts i = drop i ts
