-- The tokens of a text: GROQ-1.revision1 "Syntax", as this project's profile has it. A text is
-- the list of its bytes. Between tokens stand blanks and comments, and each token is the
-- longest at its place.
use Prim.Native.Char.{code}
use Rattle.std.specs.Prelude.{◌≡◌, ℕ, suc, ◌+◌, ◌-◌, ◌<◌, ◌≤◌, Bool, true, false, not, ◌&&◌, ◌||◌, ◌==◌, if◌then◌else◌, List, [], ◌∷◌, length, take, drop, filter_map, Option, Some, None, option_map, IsSome, Result, Ok, Err, slice_index, IsCharBoundary, ⊤}
use Rattle.std.specs.List.{list_all}
use Rattle.std.specs.Char.{is_ascii_digit, is_ascii_alphabetic}
use Rattle.cs_syntax.specs.declared.sign.Sign.{Sign}
use Rattle.cs_syntax.specs.declared.token.Kind.{Kind}
use Rattle.cs_syntax.specs.declared.token.Kind.TheVariants as kind
use Rattle.cs_syntax.specs.declared.token.Token.{Token}
use Rattle.cs_syntax.specs.declared.token.TokenFault.{TokenFault}
use Rattle.cs_syntax.specs.declared.token.TokenFault.TheVariants.{BadToken, NoMemory}
use Rattle.cs_syntax.specs.Expression.{Tok, number_tok, text_tok, param_tok, word_tok, sign_tok}
use Rattle.cs_syntax.specs.Escapes.{decoded}
use Rattle.cs_syntax.specs.Signs.{sign_of}

-- a letter or `_`
abbrev pub is_letter : ℕ → Bool
is_letter b = is_ascii_alphabetic b || b == code "_"

abbrev pub is_word_byte : ℕ → Bool
is_word_byte b = is_letter b || is_ascii_digit b

-- a letter or `_`, then letters, digits and `_`
abbrev pub is_word : List ℕ → Bool
is_word [] = false
is_word (b ∷ bs) = is_letter b && list_all is_word_byte bs

-- digits, and what follows them passes
abbrev pub digits_then : (List ℕ → Bool) → List ℕ → Bool
digits_then passes [] = passes []
digits_then passes (b ∷ bs) = if is_ascii_digit b then digits_then passes bs else passes (b ∷ bs)

-- at least one digit, and what follows the digits passes
abbrev pub some_digits_then : (List ℕ → Bool) → List ℕ → Bool
some_digits_then passes [] = false
some_digits_then passes (b ∷ bs) = is_ascii_digit b && digits_then passes bs

abbrev pub is_end : List ℕ → Bool
is_end [] = true
is_end (b ∷ bs) = false

-- what follows a `+` or `-` at the front, or all where none stands there
abbrev pub unsigned : List ℕ → List ℕ
unsigned [] = []
unsigned (b ∷ bs) = if b == code "+" || b == code "-" then bs else b ∷ bs

-- nothing, or `e` or `E`, a sign or none, and digits
abbrev pub ends_number : List ℕ → Bool
ends_number [] = true
ends_number (b ∷ bs) = (b == code "e" || b == code "E") && some_digits_then is_end (unsigned bs)

-- `.` and digits or neither, and then the end of a number
abbrev pub follows_whole : List ℕ → Bool
follows_whole [] = true
follows_whole (b ∷ bs) =
    if b == code "." then some_digits_then ends_number bs else ends_number (b ∷ bs)

-- `0`, or a digit from 1 to 9 and digits; and what may follow them
abbrev pub is_number : List ℕ → Bool
is_number [] = false
is_number (b ∷ bs) = if b == code "0" then follows_whole bs else is_ascii_digit b
    && digits_then follows_whole bs

-- the name behind a `$`
abbrev pub param_name : List ℕ → Option (List ℕ)
param_name [] = None
param_name (b ∷ bs) = if b == code "$" && is_word bs then Some bs else None

-- what the source of a token of the kind means: none where it is no token of the kind
abbrev pub meaning : Kind → List ℕ → Option Tok
meaning kind.Word source = if is_word source then Some (word_tok source) else None
meaning kind.Number source = if is_number source then Some (number_tok source) else None
meaning kind.Text source = option_map text_tok (decoded source)
meaning kind.Param source = option_map param_tok (param_name source)
meaning kind.Sign source = option_map sign_tok (sign_of source)

-- the sign that a token is
abbrev pub sign_in : Tok → Option Sign
sign_in (sign_tok s) = Some s
sign_in (number_tok n) = None
sign_in (text_tok s) = None
sign_in (param_tok p) = None
sign_in (word_tok w) = None

-- a space, a tab, a newline or a carriage return
abbrev pub is_blank : ℕ → Bool
is_blank b = b == code " " || b == code "\t" || b == code "\n" || b == code "\r"

-- `//` stands at the front
abbrev pub opens_comment : List ℕ → Bool
opens_comment s = slice_index s 0 == code "/" && slice_index s 1 == code "/"

-- how many bytes of blanks and comments stand at the front, where a comment is open or not: a
-- comment is open from its `//` up to a newline
abbrev pub blank_from : Bool → List ℕ → ℕ
blank_from open_comment [] = 0
blank_from open_comment (b ∷ bs) =
    if is_blank b || open_comment || opens_comment (b ∷ bs)
    then suc (blank_from (not (b == code "\n") && (open_comment || opens_comment (b ∷ bs))) bs)
    else 0

abbrev pub blank : List ℕ → ℕ
blank = blank_from false

-- the first place from `at` on that is not between tokens
abbrev pub past_blank : List ℕ → ℕ → ℕ
past_blank s at = at + blank (drop at s)

-- the longest token at the front of s is of the kind and has n bytes
pub record IsLongest (s : List ℕ) (kind : Kind) (n : ℕ) : Type 0 where
  pub within : n ≤ length s
  pub is_token : IsSome (meaning kind (take n s))
  pub no_longer : (other : Kind) (m : ℕ) → n < m → m ≤ length s → meaning other (take m s) ≡ None

-- no token begins s
abbrev pub NoToken : List ℕ → Type 0
NoToken s = (kind : Kind) (n : ℕ) → meaning kind (take n s) ≡ None

-- read from `at` on, the tokens are these, and the last ends at `end`
abbrev pub Reads : List ℕ → ℕ → List Token → ℕ → Type 0
Reads s at [] end = at ≡ end
Reads s at (t ∷ ts) end =
    (t.from ≡ past_blank s at) × IsLongest (drop t.from s) t.kind (t.to - t.from)
    × Reads s t.to ts end

-- from `at` on the text is these tokens, and nothing but blanks follows
pub record IsTokens (s : List ℕ) (at : ℕ) (ts : List Token) : Type 0 where
  pub end : ℕ
  pub reads : Reads s at ts end
  pub no_more : past_blank s end ≡ length s

-- after some tokens, read from `at` on, and after blanks, no token begins at `bad` and the text
-- has not ended
pub record IsBadAt (s : List ℕ) (at bad : ℕ) : Type 0 where
  pub tokens : List Token
  pub end : ℕ
  pub reads : Reads s at tokens end
  pub place : past_blank s end ≡ bad
  pub more : bad < length s
  pub no_token : NoToken (drop bad s)

-- what stands next from `at` on, past blanks: a token, the end of the text, or the place where no
-- token begins
abbrev pub IsNext : List ℕ → ℕ → Result (Option Token) TokenFault → Type 0
IsNext s at (Ok (Some t)) =
    (t.from ≡ past_blank s at) × IsLongest (drop t.from s) t.kind (t.to - t.from)
IsNext s at (Ok None) = past_blank s at ≡ length s
IsNext s at (Err (BadToken bad)) =
    (past_blank s at ≡ bad) × (bad < length s) × NoToken (drop bad s)
IsNext s at (Err NoMemory) = ⊥

-- the slice of the text that is the token
abbrev pub source : List ℕ → Token → List ℕ
source s t = take (t.to - t.from) (drop t.from s)

-- the token has bytes, its ends stand between characters of the text, and its source means
-- something
pub record IsTokenOf (s : List ℕ) (t : Token) : Type 0 where
  pub not_empty : t.from < t.to
  pub begins : IsCharBoundary s t.from
  pub ends : IsCharBoundary s t.to
  pub is_meant : IsSome (meaning t.kind (source s t))

-- no token ends behind the beginning of the next
abbrev pub Ascend : List Token → Type 0
Ascend [] = ⊤
Ascend (t ∷ []) = ⊤
Ascend (t ∷ u ∷ ts) = (t.to ≤ u.from) × Ascend (u ∷ ts)

-- the fault is the text's: for want of memory alone nothing is said
abbrev pub IsFaultOf : List ℕ → TokenFault → Type 0
IsFaultOf s (BadToken at) = IsBadAt s 0 at
IsFaultOf s NoMemory = ⊤

-- what the tokens of the text mean
abbrev pub meanings : List ℕ → List Token → List Tok
meanings s ts = filter_map (λ t. meaning t.kind (source s t)) ts
