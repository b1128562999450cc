-- How deep the brackets of a text nest: this project's profile. All three kinds count together.
use Rattle.std.specs.Prelude.{ℕ, zero, suc, ◌+◌, ◌<◌, nat_lt, List, [], ◌∷◌, length, Bool, true, false, ◌||◌, take, if◌then◌else◌}
use Rattle.cs_syntax.specs.declared.sign.Sign.{Sign}
use Rattle.cs_syntax.specs.declared.sign.Sign.TheVariants as sign
use Rattle.cs_syntax.specs.Expression.{Tok, sign_tok}

abbrev pub opens : Sign → Bool
opens sign.OpenParen = true
opens sign.OpenBracket = true
opens sign.OpenBrace = true
opens _ = false

abbrev pub closes : Sign → Bool
closes sign.CloseParen = true
closes sign.CloseBracket = true
closes sign.CloseBrace = true
closes _ = false

-- whether the token is a sign of the kind
abbrev pub is_sign_that : (Sign → Bool) → Tok → Bool
is_sign_that φ (sign_tok s) = φ s
is_sign_that φ _ = false

-- how many of the tokens are signs of the kind
abbrev pub count_of : (Sign → Bool) → List Tok → ℕ
count_of φ [] = 0
count_of φ (t ∷ ts) = (if is_sign_that φ t then 1 else 0) + count_of φ ts

-- at some token the brackets opened so far are more than 48 above those closed so far
abbrev pub IsTooDeep : List Tok → Type 0
IsTooDeep ts = (n : ℕ) × (count_of closes (take n ts) + 48 < count_of opens (take n ts))

-- whether that is so behind fewer than n tokens
abbrev pub is_deep_within : ℕ → List Tok → Bool
is_deep_within zero ts = false
is_deep_within (suc n) ts = nat_lt (count_of closes (take n ts) + 48) (count_of opens (take n ts))
    || is_deep_within n ts

abbrev pub is_deep : List Tok → Bool
is_deep ts = is_deep_within (suc (length ts)) ts
