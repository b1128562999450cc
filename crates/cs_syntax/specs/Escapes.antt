-- What a text token means: GROQ-1.revision1 "String", as this project's profile has it. A text
-- stands between two `"` or two `'`, and holds any character but that quote and `\`, and
-- escapes.
use Prim.Native.Char.{code}
use Rattle.std.specs.Prelude.{ℕ, zero, suc, ◌+◌, ◌*◌, Bool, ◌&&◌, ◌||◌, ◌==◌, nat_lt, if◌then◌else◌, List, [], ◌∷◌, ◌++◌, drop, Option, Some, None, option_map, option_and_then, find, encode_utf8}
use Rattle.std.specs.Char.{digit_value, is_digit}
use Rattle.std.specs.Char.Utf16.{is_high_surrogate, is_low_surrogate, surrogate_pair_char}
use lib.Utf8.{scalar}

-- `"` and `'`
abbrev pub is_quote : ℕ → Bool
is_quote b = b == code "\"" || b == code "'"

-- the escapes of one letter, with their characters: `"` `'` `\` `/` as themselves, and `b` `f`
-- `n` `r` `t`
abbrev pub letters : List (ℕ × ℕ)
letters = (code "\"", code "\"") ∷ (code "'", code "'") ∷ (code "\\", code "\\")
    ∷ (code "/", code "/") ∷ (code "b", 8) ∷ (code "f", 12) ∷ (code "n", code "\n")
    ∷ (code "r", code "\r") ∷ (code "t", code "\t") ∷ []

abbrev pub letter : ℕ → Option ℕ
letter b = option_map (λ row. row.1) (find (λ row. row.0 == b) letters)

-- the number of four hexadecimal digits at the front
abbrev pub four_digits : List ℕ → Option ℕ
four_digits (a ∷ b ∷ c ∷ d ∷ bs) =
    if is_digit a 16 && is_digit b 16 && is_digit c 16 && is_digit d 16
    then Some (digit_value a * 4096 + digit_value b * 256 + digit_value c * 16 + digit_value d)
    else None
four_digits bs = None

-- the number of a `\uXXXX` at the front
abbrev pub unit : List ℕ → Option ℕ
unit (a ∷ b ∷ bs) = if a == code "\\" && b == code "u" then four_digits bs else None
unit bs = None

-- A reading of an escape is its character, and how many bytes behind its `\` it has.

-- `\uXXXX` of the number u, before the bytes `more`: a high surrogate wants a low one behind
-- it, and a low one alone is no escape
abbrev pub by_unit : ℕ → List ℕ → Option (ℕ × ℕ)
by_unit u more =
    if is_high_surrogate u
    then option_and_then (λ v. if is_low_surrogate v then Some (surrogate_pair_char u v, 11)
    else None) (unit more)
    else (if is_low_surrogate u then None else Some (u, 5))

-- behind `\u{` and d digits of the number n: digits up to six in all, and `}`, of a scalar value
abbrev pub braced : ℕ → ℕ → List ℕ → Option (ℕ × ℕ)
braced n d [] = None
braced n d (b ∷ bs) =
    if b == code "}" then (if nat_lt 0 d && scalar n then Some (n, d + 3) else None)
    else (if is_digit b 16 && nat_lt d 6 then braced (n * 16 + digit_value b) (d + 1) bs else None)

-- behind `\u`
abbrev pub unicode : List ℕ → Option (ℕ × ℕ)
unicode [] = None
unicode (b ∷ bs) =
    if b == code "{" then braced 0 0 bs
    else option_and_then (λ u. by_unit u (drop 4 (b ∷ bs))) (four_digits (b ∷ bs))

-- behind `\`
abbrev pub escape : List ℕ → Option (ℕ × ℕ)
escape [] = None
escape (b ∷ bs) = if b == code "u" then unicode bs else option_map (λ c. (c, 1)) (letter b)

-- what the byte b stands for, or the escape that begins with it, and how many of the bytes
-- behind it belong to it
abbrev pub piece : ℕ → List ℕ → Option (List ℕ × ℕ)
piece b bs = if b == code "\\" then option_map (λ e. (encode_utf8 e.0, e.1)) (escape bs)
    else Some (b ∷ [], 0)

-- where the quote ends the source, nothing follows it
abbrev pub ended : List ℕ → Option (List ℕ)
ended [] = Some []
ended (b ∷ bs) = None

-- the text that a quote q ends, where `taken` bytes at the front belong to an escape that was read
abbrev pub content : ℕ → ℕ → List ℕ → Option (List ℕ)
content q taken [] = None
content q (suc taken) (b ∷ bs) = content q taken bs
content q zero (b ∷ bs) =
    if b == q then ended bs
    else option_and_then (λ p. option_map (λ text. p.0 ++ text) (content q p.1 bs)) (piece b bs)

-- what the source of a text token, with its quotes, means: none where it is no text token
abbrev pub decoded : List ℕ → Option (List ℕ)
decoded [] = None
decoded (q ∷ bs) = if is_quote q then content q 0 bs else None
