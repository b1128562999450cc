-- Each text is read as its verdict says.
use Rattle.std.proofs.Common.{◌≡◌, ℕ, suc, List, Bool, true, false, Option, Some, None, refl, sym, ◌∙◌, arith, length, true≢false}
use Rattle.std.specs.Prelude.{if◌then◌else◌}
use Rattle.cs_syntax.specs.declared.token.Token.{Token}
use Rattle.cs_syntax.specs.Expression.{Expression}
use Rattle.cs_syntax.specs.Faults.{Fault, fault}
use Rattle.cs_syntax.specs.Lex.{IsTokens, meanings}
use Rattle.cs_parse.specs.Depth.{IsTooDeep, is_deep}
use Rattle.cs_parse.specs.Spelling.{expression_in, IsSpelling}
use Rattle.cs_parse.specs.Tokens.{Lexing, lexed, no_token_at, lexing, IsLexing}
use Rattle.cs_parse.specs.Verdict.{too_deep, IsRead, by_fault, by_expression, by_lexing, verdict}
use Rattle.cs_parse.proofs.Spelled.{is_spelling}
use Rattle.cs_parse.proofs.Tokens.{is_lexing}
use Rattle.cs_parse.proofs.Deep.{to_deep, from_deep}

pub lexing_is : (text : List ℕ) → IsLexing text 0 (lexing text)
lexing_is text = is_lexing (suc (length text)) text 0 (omega arith) (omega arith)

module _ (text : List ℕ) (ts : List Token) (tokens : IsTokens text 0 ts) where
  faults : (shallow : ¬ (IsTooDeep (meanings text ts))) (e : Expression) →
      IsSpelling (meanings text ts) (Some e) → (o : Option Fault) → fault e ≡ o →
      IsRead text (by_fault e o)
  faults shallow e h None is = (ts, tokens, (shallow, e, h, (refl, is)))
  faults shallow e h (Some f) is = (ts, tokens, (shallow, e, h, is))

  spelled : (shallow : ¬ (IsTooDeep (meanings text ts))) (o : Option Expression) →
      IsSpelling (meanings text ts) o → IsRead text (by_expression o)
  spelled shallow None h = (ts, tokens, (shallow, h))
  spelled shallow (Some e) h = faults shallow e h (fault e) refl

  by_depth : (b : Bool) → is_deep (meanings text ts) ≡ b →
      IsRead text (if b then too_deep else by_expression (expression_in (meanings text ts)))
  by_depth true e = (ts, tokens, to_deep (meanings text ts) e)
  by_depth false e =
      spelled (λ d. true≢false (sym (from_deep (meanings text ts) d)
      ∙ e)) (expression_in (meanings text ts)) (is_spelling (meanings text ts))

read_lexing : (text : List ℕ) (l : Lexing) → IsLexing text 0 l → IsRead text (by_lexing text l)
read_lexing text (lexed ts) h = by_depth text ts h (is_deep (meanings text ts)) refl
read_lexing text (no_token_at at) h = h

pub is_read : (text : List ℕ) → IsRead text (verdict text)
unfolding verdict
is_read text = read_lexing text (lexing text) (lexing_is text)
