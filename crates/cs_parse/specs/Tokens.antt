-- The tokens of a text as a function: past blanks the longest token at each place, up to the end of
-- the text or to a place where none begins.
use Rattle.std.specs.Prelude.{ℕ, zero, suc, nat_lt, if◌then◌else◌, List, [], ◌∷◌, length, Option, Some, None, slice_index}
use Rattle.cs_syntax.specs.declared.token.Kind.{Kind}
use Rattle.cs_syntax.specs.declared.token.Token.{Token}
use Rattle.cs_syntax.specs.Lex.{past_blank, IsTokens, IsBadAt}
use Rattle.cs_syntax.specs.Ends.{kind_of, token_end}

-- the tokens, or the place where none begins
pub data Lexing : Type 0 where
  lexed : List Token → Lexing
  no_token_at : ℕ → Lexing

-- this token, and then the others
abbrev pub token_then : Token → Lexing → Lexing
token_then t (lexed ts) = lexed (t ∷ ts)
token_then t (no_token_at at) = no_token_at at

-- the tokens from a place on, by the kind and the end of the token there: no end where none begins
abbrev pub by_end : (ℕ → Lexing) → ℕ → Kind → Option ℕ → Lexing
by_end rest from k None = no_token_at from
by_end rest from k (Some to) = token_then (record { kind = k; from = from; to = to }) (rest to)

-- the tokens from a place past blanks, given those from each place behind it
abbrev pub tokens_at : (ℕ → Lexing) → List ℕ → ℕ → Lexing
tokens_at rest s from =
    if nat_lt from (length s)
    then by_end rest from (kind_of (slice_index s from))
    (token_end s from (kind_of (slice_index s from)))
    else lexed []

-- the tokens from a place on, where they are fewer than n
unfoldable pub tokens_from : ℕ → List ℕ → ℕ → Lexing
tokens_from zero s at = lexed []
tokens_from (suc n) s at = tokens_at (tokens_from n s) s (past_blank s at)

-- the tokens of the whole text: each has a byte at least
abbrev pub lexing : List ℕ → Lexing
lexing s = tokens_from (suc (length s)) s 0

-- from `at` on the text has these tokens, or `bad` is its first place without one
abbrev pub IsLexing : List ℕ → ℕ → Lexing → Type 0
IsLexing s at (lexed ts) = IsTokens s at ts
IsLexing s at (no_token_at bad) = IsBadAt s at bad
