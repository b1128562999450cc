-- `is_deep` says whether brackets are too deep: at some token, and so at one of those that there
-- are.
use Rattle.std.proofs.Common.{◌≡◌, ℕ, zero, suc, ◌+◌, ◌<◌, ◌⊎◌, inl, inr, List, length, min, Bool, true, false, refl, sym, subst, arith, take}
use Rattle.std.specs.Prelude.{nat_lt, ◌||◌}
use Rattle.std.proofs.Math.Nat.{eq-or-lt_of_le}
use Rattle.std.proofs.lemmas.List.{take_min}
use Rattle.cs_syntax.specs.Expression.{Tok}
use Rattle.cs_parse.specs.Depth.{opens, closes, count_of, IsTooDeep, is_deep_within, is_deep}

-- behind n tokens the brackets are too deep
abbrev DeepAt : List Tok → ℕ → Type 0
DeepAt ts n = count_of closes (take n ts) + 48 < count_of opens (take n ts)

abbrev is_deep_at : List Tok → ℕ → Bool
is_deep_at ts n = nat_lt (count_of closes (take n ts) + 48) (count_of opens (take n ts))

below : (m n : ℕ) → nat_lt m n ≡ true → m < n
below m n h = grind arith

is_below : (m n : ℕ) → m < n → nat_lt m n ≡ true
is_below m n h = grind arith

or_left : (a b : Bool) → a ≡ true → a || b ≡ true
or_left true b h = refl
or_left false b h = absurd (cc)

or_right : (a b : Bool) → b ≡ true → a || b ≡ true
or_right true b h = refl
or_right false b h = h

by_test : (ts : List Tok) (n : ℕ) (d : Bool) → (d ≡ true → IsTooDeep ts) → (b : Bool) →
    is_deep_at ts n ≡ b → b || d ≡ true → IsTooDeep ts
by_test ts n d rest true e h = (n, below _ _ e)
by_test ts n d rest false e h = rest h

found : (ts : List Tok) (n : ℕ) → is_deep_within n ts ≡ true → IsTooDeep ts
found ts zero h = absurd (cc)
found ts (suc n) h = by_test ts n (is_deep_within n ts) (found ts n) (is_deep_at ts n) refl h

by_order : (ts : List Tok) (n m : ℕ) → DeepAt ts n → (n < m → is_deep_within m ts ≡ true) →
    (n ≡ m) ⊎ (n < m) → is_deep_within (suc m) ts ≡ true
by_order ts n m d rest (inl e) = or_left (is_deep_at ts m) _ (is_below _ _ (subst (DeepAt ts) e d))
by_order ts n m d rest (inr l) = or_right (is_deep_at ts m) _ (rest l)

within : (ts : List Tok) (n m : ℕ) → DeepAt ts n → n < m → is_deep_within m ts ≡ true
within ts n zero d l = absurd (omega arith)
within ts n (suc m) d l = by_order ts n m d (within ts n m d) (eq-or-lt_of_le (omega arith))

pub to_deep : (ts : List Tok) → is_deep ts ≡ true → IsTooDeep ts
to_deep ts h = found ts (suc (length ts)) h

pub from_deep : (ts : List Tok) → IsTooDeep ts → is_deep ts ≡ true
from_deep ts d =
    within ts (min d.0 (length ts)) (suc (length ts))
    (subst (λ us. count_of closes us + 48 < count_of opens us) (sym (take_min d.0 ts)) d.1)
    (omega arith)
