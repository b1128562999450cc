-- What a text is as a query: GROQ-1.revision1 "Syntax", as this project's profile has it. The
-- causes for which a text is none come in an order: a place without a token, brackets too deep,
-- tokens that spell nothing, and then the first fault in the order of the text. Each text has one
-- reading: `IsRead` says which by tokens, depth, grammar and faults, and `verdict` computes it.
use Rattle.std.specs.Prelude.{◌≡◌, ℕ, List, if◌then◌else◌, Option, Some, None, Result, Ok, Err}
use Rattle.cs_syntax.specs.declared.token.Token.{Token}
use Rattle.cs_syntax.specs.declared.query.Query.{Query}
use Rattle.cs_syntax.specs.Expression.{Tok, Expression}
use Rattle.cs_syntax.specs.Faults.{Fault, fault, unsupported, unknown_function, arity, no_key}
use Rattle.cs_syntax.specs.Lex.{IsTokens, IsBadAt, meanings}
use Rattle.cs_syntax.specs.Queries.{expression_of}
use Rattle.cs_grammar.specs.Spells.{Spells}
use Rattle.cs_parse.specs.Depth.{IsTooDeep, is_deep}
use Rattle.cs_parse.specs.Spelling.{expression_in}
use Rattle.cs_parse.specs.Tokens.{Lexing, lexed, no_token_at, lexing}
use Rattle.cs_parse.specs.declared.fault.ParseFault.{ParseFault}
use Rattle.cs_parse.specs.declared.fault.ParseFault.TheVariants as cause

-- the query that a text is, or why it is none
pub data Reading : Type 0 where
  query : Expression → Reading
  bad_token : ℕ → Reading
  too_deep : Reading
  no_syntax : Reading
  faulty : Fault → Reading

-- the text has tokens, and what they mean is as said
abbrev pub Lexed : List ℕ → (List Tok → Type 0) → Type 0
Lexed text φ = (ts : List Token) × IsTokens text 0 ts × φ (meanings text ts)

-- the text has tokens within the depth, which spell an expression that is as said
abbrev pub Spelled : List ℕ → (Expression → Type 0) → Type 0
Spelled text φ = Lexed text (λ ts. ¬ (IsTooDeep ts) × (e : Expression) × Spells ts e × φ e)

-- the text is read so
abbrev pub IsRead : List ℕ → Reading → Type 0
IsRead text (query e) = Spelled text (λ f. (f ≡ e) × (fault f ≡ None))
IsRead text (bad_token at) = IsBadAt text 0 at
IsRead text too_deep = Lexed text IsTooDeep
IsRead text no_syntax = Lexed text (λ ts. ¬ (IsTooDeep ts) × ((e : Expression) → ¬ (Spells ts e)))
IsRead text (faulty f) = Spelled text (λ e. fault e ≡ Some f)

-- the reading of tokens that spell the expression, by its first fault
abbrev pub by_fault : Expression → Option Fault → Reading
by_fault e None = query e
by_fault e (Some f) = faulty f

abbrev pub by_expression : Option Expression → Reading
by_expression None = no_syntax
by_expression (Some e) = by_fault e (fault e)

abbrev pub by_tokens : List Tok → Reading
by_tokens ts = if is_deep ts then too_deep else by_expression (expression_in ts)

abbrev pub by_lexing : List ℕ → Lexing → Reading
by_lexing text (lexed ts) = by_tokens (meanings text ts)
by_lexing text (no_token_at at) = bad_token at

-- what the text is
unfoldable pub verdict : List ℕ → Reading
verdict text = by_lexing text (lexing text)

-- the reading that a cause tells: none where memory was wanted
abbrev pub reading_of : ParseFault → Option Reading
reading_of (cause.BadToken at) = Some (bad_token at)
reading_of cause.TooDeep = Some too_deep
reading_of cause.Syntax = Some no_syntax
reading_of (cause.Unsupported name) = Some (faulty (unsupported name))
reading_of (cause.UnknownFunction name) = Some (faulty (unknown_function name))
reading_of (cause.Arity name) = Some (faulty (arity name))
reading_of cause.NoKey = Some (faulty no_key)
reading_of cause.NoMemory = None

abbrev pub reading : Result Query ParseFault → Option Reading
reading (Ok q) = Some (query (expression_of q))
reading (Err f) = reading_of f
