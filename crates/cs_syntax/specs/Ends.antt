-- For private clauses: how far each kind of token reaches from a place of a text. Past the end
-- of the text the byte is 0, which is in no token but a text.
use Prim.Native.Char.{code}
use Rattle.std.specs.Prelude.{ℕ, zero, suc, ◌+◌, ◌*◌, Bool, not, ◌&&◌, ◌||◌, ◌==◌, nat_lt, if◌then◌else◌, List, [], ◌∷◌, drop, Option, Some, None, option_map, option_and_then, find, slice_index}
use Rattle.std.specs.List.{prefix_len, list_any}
use Rattle.std.specs.Char.{is_ascii_digit, digit_value, is_digit}
use Rattle.std.specs.Char.Utf16.{is_high_surrogate, is_low_surrogate, surrogate_pair_char}
use Rattle.cs_syntax.specs.declared.token.Kind.{Kind}
use Rattle.cs_syntax.specs.declared.token.Kind.TheVariants as kind
use Rattle.cs_syntax.specs.declared.sign.Sign.{Sign}
use Rattle.cs_syntax.specs.declared.sign.Sign.TheVariants as sign
use Rattle.cs_syntax.specs.Escapes.{is_quote, letter, braced, piece}
use Rattle.cs_syntax.specs.Lex.{is_letter, is_word_byte}

abbrev pub past_digits : List ℕ → ℕ → ℕ
past_digits s at = at + prefix_len is_ascii_digit (drop at s)

abbrev pub past_word : List ℕ → ℕ → ℕ
past_word s at = at + prefix_len is_word_byte (drop at s)

-- a byte of a text that is neither its quote nor a `\`
abbrev pub is_plain : ℕ → ℕ → Bool
is_plain q b = not (b == q) && not (b == code "\\")

abbrev pub past_plain : List ℕ → ℕ → ℕ → ℕ
past_plain s q at = at + prefix_len (is_plain q) (drop at s)

abbrev pub past_sign : List ℕ → ℕ → ℕ
past_sign s at = if slice_index s at == code "+" || slice_index s at == code "-" then at + 1 else at

-- the end of digits from `from` on, or `at` where none stand there
abbrev pub end_or : List ℕ → ℕ → ℕ → ℕ
end_or s at from = if nat_lt from (past_digits s from) then past_digits s from else at

-- the end of an exponent, or `at` where none stands there
abbrev pub exponent_end : List ℕ → ℕ → ℕ
exponent_end s at = if slice_index s at == code "e" || slice_index s at == code "E"
    then end_or s at (past_sign s (at + 1)) else at

-- the end of a fraction and an exponent, of one of them, or `at`
abbrev pub fraction_end : List ℕ → ℕ → ℕ
fraction_end s at =
    if slice_index s at == code "."
    then (if nat_lt (at + 1) (past_digits s (at + 1))
    then exponent_end s (past_digits s (at + 1)) else at)
    else exponent_end s at

-- the end of the number whose first digit is at `at`
abbrev pub number_end : List ℕ → ℕ → ℕ
number_end s at = fraction_end s (if slice_index s at == code "0" then at + 1 else past_digits s at)

-- the end of the text whose quote q is open at the front: how many bytes up to and with the quote
abbrev pub quoted : ℕ → ℕ → List ℕ → Option ℕ
quoted q taken [] = None
quoted q (suc taken) (b ∷ bs) = option_map suc (quoted q taken bs)
quoted q zero (b ∷ bs) =
    if b == q then Some 1 else option_and_then (λ p. option_map suc (quoted q p.1 bs)) (piece b bs)

abbrev pub text_end : List ℕ → ℕ → ℕ → Option ℕ
text_end s q at = option_map (λ n. at + n) (quoted q 0 (drop at s))

-- a reading of an escape, with the place behind it in place of how many bytes it has
abbrev pub placed : ℕ → Option (ℕ × ℕ) → Option (ℕ × ℕ)
placed at e = option_map (λ x. (x.0, at + x.1)) e

abbrev pub hex : ℕ → Option ℕ
hex b = if is_digit b 16 then Some (digit_value b) else None

-- the number of the four hexadecimal digits at `at`
abbrev pub four_at : List ℕ → ℕ → Option ℕ
four_at s at =
    if is_digit (slice_index s at) 16 && is_digit (slice_index s (at + 1)) 16
    && is_digit (slice_index s (at + 2)) 16 && is_digit (slice_index s (at + 3)) 16
    then Some (digit_value (slice_index s at) * 4096 + digit_value (slice_index s (at + 1)) * 256
    + digit_value (slice_index s (at + 2)) * 16 + digit_value (slice_index s (at + 3)))
    else None

abbrev pub unit_at : List ℕ → ℕ → Option ℕ
unit_at s at =
    if slice_index s at == code "\\" && slice_index s (at + 1) == code "u" then four_at s (at + 2)
    else None

-- `\uXXXX` of the number u that ends at `at`, with the low surrogate behind it where it wants one
abbrev pub by_unit_at : List ℕ → ℕ → ℕ → Option (ℕ × ℕ)
by_unit_at s at u =
    if is_high_surrogate u
    then option_and_then (λ v. if is_low_surrogate v then Some (surrogate_pair_char u v, at + 6)
    else None) (unit_at s at)
    else (if is_low_surrogate u then None else Some (u, at))

-- `\u{H}` whose `u` stands at `at`
abbrev pub braced_at : List ℕ → ℕ → Option (ℕ × ℕ)
braced_at s at = placed at (braced 0 0 (drop (at + 2) s))

-- the escape whose `u` stands at `at`
abbrev pub unicode_at : List ℕ → ℕ → Option (ℕ × ℕ)
unicode_at s at = if slice_index s (at + 1) == code "{" then braced_at s at
    else option_and_then (by_unit_at s (at + 5)) (four_at s (at + 1))

-- the escape whose `\` stands before `at`
abbrev pub escape_at : List ℕ → ℕ → Option (ℕ × ℕ)
escape_at s at = if slice_index s at == code "u" then unicode_at s at
    else option_map (λ c. (c, at + 1)) (letter (slice_index s at))

-- the place behind the byte or the escape at `at`
abbrev pub piece_end : List ℕ → ℕ → Option ℕ
piece_end s at = if slice_index s at == code "\\" then option_map (λ e. e.1) (escape_at s (at + 1))
    else Some (at + 1)

-- above each number of d hexadecimal digits
abbrev pub above : ℕ → ℕ
above zero = 1
above (suc d) = 16 * above d

-- the signs of one and of two bytes
abbrev pub ones : List (ℕ × Sign)
ones = (code "!", sign.Not) ∷ (code "%", sign.Percent) ∷ (code "(", sign.OpenParen)
    ∷ (code ")", sign.CloseParen) ∷ (code "*", sign.Star) ∷ (code "+", sign.Plus)
    ∷ (code ",", sign.Comma) ∷ (code "-", sign.Minus) ∷ (code ".", sign.Dot)
    ∷ (code "/", sign.Slash) ∷ (code ":", sign.Colon) ∷ (code "<", sign.Lt) ∷ (code ">", sign.Gt)
    ∷ (code "@", sign.At) ∷ (code "[", sign.OpenBracket) ∷ (code "]", sign.CloseBracket)
    ∷ (code "^", sign.Caret) ∷ (code "{", sign.OpenBrace) ∷ (code "|", sign.Pipe)
    ∷ (code "}", sign.CloseBrace) ∷ []

abbrev pub twos : List ((ℕ × ℕ) × Sign)
twos = ((code "!", code "="), sign.Ne) ∷ ((code "&", code "&"), sign.AndAnd)
    ∷ ((code "*", code "*"), sign.StarStar) ∷ ((code "-", code ">"), sign.Arrow)
    ∷ ((code ".", code "."), sign.DotDot) ∷ ((code ":", code ":"), sign.ColonColon)
    ∷ ((code "<", code "="), sign.Le) ∷ ((code "=", code "="), sign.EqEq)
    ∷ ((code "=", code ">"), sign.FatArrow) ∷ ((code ">", code "="), sign.Ge)
    ∷ ((code "|", code "|"), sign.OrOr) ∷ []

abbrev pub one_of : ℕ → Option Sign
one_of a = option_map (λ row. row.1) (find (λ row. row.0 == a) ones)

abbrev pub two_of : ℕ → ℕ → Option Sign
two_of a b = option_map (λ row. row.1) (find (λ row. row.0.0 == a && row.0.1 == b) twos)

abbrev pub is_one : ℕ → Bool
is_one a = list_any (λ row. row.0 == a) ones

abbrev pub is_two : ℕ → ℕ → Bool
is_two a b = list_any (λ row. row.0.0 == a && row.0.1 == b) twos

abbrev pub is_three : ℕ → ℕ → ℕ → Bool
is_three a b c = code "." == a && code "." == b && code "." == c

abbrev pub three_of : ℕ → ℕ → ℕ → Option Sign
three_of a b c = if is_three a b c then Some sign.DotDotDot else None

-- how many bytes the sign at the front has, 0 where none stands there
abbrev pub sign_len : ℕ → ℕ → ℕ → ℕ
sign_len a b c =
    if is_three a b c then 3 else (if is_two a b then 2 else (if is_one a then 1 else 0))

abbrev pub sign_end : List ℕ → ℕ → Option ℕ
sign_end s at =
    if sign_len (slice_index s at) (slice_index s (at + 1)) (slice_index s (at + 2)) == 0 then None
    else Some (at + sign_len (slice_index s at) (slice_index s (at + 1)) (slice_index s (at + 2)))

abbrev pub param_end : List ℕ → ℕ → Option ℕ
param_end s at = if is_letter (slice_index s (at + 1)) then Some (past_word s (at + 2)) else None

-- the kind of a token is known by its first byte
abbrev pub kind_of : ℕ → Kind
kind_of b =
    if is_letter b then kind.Word else (if is_ascii_digit b then kind.Number
    else (if is_quote b then kind.Text else (if b == code "$" then kind.Param else kind.Sign)))

-- the end of the longest token of the kind at `at`, whose first byte is the kind's
abbrev pub token_end : List ℕ → ℕ → Kind → Option ℕ
token_end s at kind.Word = Some (past_word s (at + 1))
token_end s at kind.Number = Some (number_end s at)
token_end s at kind.Text = text_end s (slice_index s at) (at + 1)
token_end s at kind.Param = param_end s at
token_end s at kind.Sign = sign_end s at
