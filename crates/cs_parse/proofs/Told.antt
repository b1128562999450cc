-- What is told of a text that has tokens within the depth.
use Rattle.std.proofs.Common.{◌≡◌, sym, subst, ℕ, List, None, Some, Result, Ok, Err, IfSome}
use Rattle.std.specs.Prelude.{IfErr, IsErrAnd}
use Rattle.std.proofs.lemmas.Option.{IfSome_then}
use Rattle.cs_syntax.specs.declared.token.Token.{Token}
use Rattle.cs_syntax.specs.declared.token.TokenFault.{TokenFault}
use Rattle.cs_syntax.specs.declared.token.TokenFault.TheVariants as token
use Rattle.cs_syntax.specs.declared.query.Query.{Query}
use Rattle.cs_syntax.specs.Expression.{Tok, Expression}
use Rattle.cs_syntax.specs.Faults.{Fault, fault}
use Rattle.cs_syntax.specs.Lex.{IsNext, IsTokens, Reads, meanings}
use Rattle.cs_syntax.specs.Queries.{expression_of}
use Rattle.cs_grammar.specs.declared.fault.GrammarFault.{GrammarFault}
use Rattle.cs_grammar.specs.declared.fault.GrammarFault.TheVariants as grammar
use Rattle.cs_grammar.specs.Parsing.{Parses}
use Rattle.cs_grammar.specs.Spells.{Spells}
use Rattle.cs_parse.specs.declared.fault.ParseFault.{ParseFault}
use Rattle.cs_parse.specs.Causes.{of_grammar, of_tokens}
use Rattle.cs_parse.specs.Depth.{IsTooDeep}
use Rattle.cs_parse.specs.Verdict.{faulty, query, IsRead, reading, reading_of}

module _ (text : List ℕ) (ts : List Token) (ms : List Tok) (tokens : IsTokens text 0 ts)
    (meant : ms ≡ meanings text ts) (shallow : ¬ (IsTooDeep ms)) where
  of_text : (φ : List Tok → Type 0) → φ ms → φ (meanings text ts)
  of_text φ h = subst φ meant h

  -- where the tokens spell nothing
  unread : (f : GrammarFault) → Parses ms (Err f) →
      IfSome (reading_of (of_grammar f)) (IsRead text)
  unread grammar.Syntax none = (
    ts,
    tokens,
    (
      of_text (λ xs. ¬ (IsTooDeep xs)) shallow,
      of_text (λ xs. (e : Expression) →
          ¬ (Spells xs e)) none,
    ),
  )
  unread grammar.NoMemory none = tt

  pub passed : (f : GrammarFault) → Parses ms (Err f) → (r : Result Query ParseFault) →
      IsErrAnd r (λ y. y ≡ of_grammar f) → IfSome (reading r) (IsRead text)
  passed f none (Ok q) is = absurd is
  passed f none (Err y) is =
      subst (λ z. IfSome (reading_of z) (IsRead text)) (sym is) (unread f none)

  -- where what they spell has a fault
  pub faulted : (e : Expression) (f : Fault) (p : ParseFault) → Spells ms e → fault e ≡ Some f →
      IfSome (reading_of p) (λ r. r ≡ faulty f) → IfSome (reading_of p) (IsRead text)
  faulted e f p spells is told =
      IfSome_then (reading_of p) told
      (λ r same. subst (IsRead text) (sym same) (
        ts,
        tokens,
        (
          of_text (λ xs. ¬ (IsTooDeep xs)) shallow,
          e,
          of_text (λ xs. Spells xs e)
              spells,
          is,
        ),
      ))

  -- where what they spell has none
  pub passing : (e : Expression) (q : Query) → Spells ms e → e ≡ expression_of q → fault e ≡ None
      → IsRead text (query (expression_of q))
  passing e q spells same none = (
    ts,
    tokens,
    (
      of_text (λ xs. ¬ (IsTooDeep xs)) shallow,
      e,
      of_text (λ xs. Spells xs e) spells,
      (same, none),
    ),
  )

-- where no token begins behind those that were found
module _ (text : List ℕ) (end : ℕ) (ts : List Token) (reads : Reads text 0 ts end) where
  bad_place : (f : TokenFault) → IsNext text end (Err f) →
      IfSome (reading_of (of_tokens f)) (IsRead text)
  bad_place (token.BadToken at) bad =
      record {
        tokens = ts;
        end = end;
        reads = reads;
        place = bad.0;
        more = bad.1;
        no_token = bad.2;
      }
  bad_place token.NoMemory bad = absurd bad

  pub bad_read : {X : Type 0} (f : TokenFault) → IsNext text end (Err f) →
      (r : Result X ParseFault) → IsErrAnd r (λ y. y ≡ of_tokens f) →
      IfErr r (λ p. IfSome (reading_of p) (IsRead text))
  bad_read f bad (Ok x) is = absurd is
  bad_read f bad (Err p) is =
      subst (λ z. IfSome (reading_of z) (IsRead text)) (sym is) (bad_place f bad)
