-- The numbers of a moment's digits, and the form that has them.
use Rattle.std.proofs.Common.{◌≡◌, ℕ, zero, suc, ◌+◌, ◌-◌, ◌*◌, ◌^◌, ◌<◌, ◌≤◌, List, [], ◌∷◌, length, get_or, take, drop, Bool, true, false, nat_le, ◌&&◌, ◌==◌, cond, mul_comm, mul_assoc, pow-suc, refl, sym, ap, ◌∙◌, arith}
use Rattle.std.specs.List.{list_all}
use Rattle.std.proofs.Math.Nat.{pow-le-pow_right}
use Rattle.std.proofs.lemmas.Bool.{and_parts}
use Rattle.std.proofs.lemmas.Bool.Decides.{nat_tests}
use Rattle.std.proofs.lemmas.List.{at_drop_more}
use Rattle.cs_wire.specs.Moments.{is_digit, fits_byte, fits, and_digits}

at_most : (a b : ℕ) → nat_le a b ≡ true → a ≤ b
at_most a b h = grind (arith, nat_tests)

pub digit_between : (b : ℕ) → is_digit b ≡ true → (48 ≤ b) × (b ≤ 57)
digit_between b h =
    let parts = and_parts (nat_le 48 b) (nat_le b 57) h in (at_most 48 b parts.0, at_most b 57 parts.1)

tenfold : (m k : ℕ) → m * 10 ^ suc k ≡ 10 * m * 10 ^ k
tenfold m k =
    ap (λ x. m * x) (pow-suc 10 k) ∙ sym (mul_assoc m (10 ^ k) 10) ∙ mul_comm (m * 10 ^ k) 10 ∙ sym (mul_assoc 10 m (10 ^ k))

-- so many digits are below the power of ten
pub digits_below : (n m : ℕ) (ds : List ℕ) → list_all is_digit ds ≡ true → n < m → and_digits n ds < m * 10 ^ length ds
digits_below n m [] all h = omega arith
digits_below n m (b ∷ bs) all h =
    let parts = and_parts (is_digit b) (list_all is_digit bs) all in
    let between = digit_between b parts.0 in
    omega (arith, digits_below (10 * n + (b - 48)) (10 * m) bs parts.1 (omega arith), tenfold m (length bs))

pub few_digits_below : (ds : List ℕ) → list_all is_digit ds ≡ true → length ds ≤ 4 → and_digits 0 ds < 10000
few_digits_below ds all few =
    let most : 10 ^ length ds ≤ 10 ^ 4 = pow-le-pow_right (omega arith) few in omega (arith, digits_below 0 1 ds all (omega arith), most)

-- more digits make no smaller number
pub digits_above : (n : ℕ) (ds : List ℕ) → n ≤ and_digits n ds
digits_above n [] = omega arith
digits_above n (b ∷ bs) = omega (arith, digits_above (10 * n + (b - 48)) bs)

-- so the number with the next digit is below, too
pub next_below : (n i : ℕ) (ds : List ℕ) → list_all is_digit ds ≡ true → length ds ≤ 4 → i < length ds → and_digits 0 ds ≡ and_digits n (drop i ds)
    → 10 * n + (get_or ds i 0 - 48) < 10000
next_below n i ds all few inside is =
    let more = at_drop_more (and_digits n) ds i 0 inside in
    omega (arith, few_digits_below ds all few, digits_above (10 * n + (get_or ds i 0 - 48)) (drop (i + 1) ds))

pub fits_long : (ps bs : List ℕ) → fits ps bs ≡ true → length bs ≡ length ps
fits_long [] [] h = refl
fits_long [] (b ∷ bs) h = cc
fits_long (p ∷ ps) [] h = cc
fits_long (p ∷ ps) (b ∷ bs) h =
    let parts = and_parts (fits_byte p b) (fits ps bs) h in ap suc (fits_long ps bs parts.1)

-- a text of another length does not fit
pub unfit : (ps bs : List ℕ) (b : Bool) → fits ps bs ≡ b → (length bs ≡ length ps → ⊥) → false ≡ b
unfit ps bs true e other = absurd (other (fits_long ps bs e))
unfit ps bs false e other = refl

-- the byte stands for a digit
abbrev is_d : ℕ → Bool
is_d p = p == 100

digit_by : (x : Bool) (p b : ℕ) → is_d p ≡ x → x ≡ true → fits_byte p b ≡ true → is_digit b ≡ true
digit_by true p b e here h = sym (ap (λ y. cond y (is_digit b) (p == b)) e) ∙ h
digit_by false p b e here h = cc

-- where the pattern has digits, so has a text that fits it
pub digits_at : (place count : ℕ) (ps bs : List ℕ) → fits ps bs ≡ true → list_all is_d (take count (drop place ps)) ≡ true → list_all is_digit (take count (drop place bs)) ≡ true
digits_at zero zero ps bs h d = refl
digits_at zero (suc count) [] [] h d = refl
digits_at zero (suc count) [] (b ∷ bs) h d = cc
digits_at zero (suc count) (p ∷ ps) [] h d = cc
digits_at zero (suc count) (p ∷ ps) (b ∷ bs) h d =
    let parts = and_parts (fits_byte p b) (fits ps bs) h in
    let here = and_parts (is_d p) (list_all is_d (take count ps)) d in
    let digit : is_digit b ≡ true = digit_by (is_d p) p b refl here.0 parts.0 in
    ap (λ x. x && list_all is_digit (take count bs)) digit ∙ digits_at zero count ps bs parts.1 here.1
digits_at (suc place) zero [] [] h d = refl
digits_at (suc place) (suc count) [] [] h d = refl
digits_at (suc place) count [] (b ∷ bs) h d = cc
digits_at (suc place) count (p ∷ ps) [] h d = cc
digits_at (suc place) count (p ∷ ps) (b ∷ bs) h d =
    let parts = and_parts (fits_byte p b) (fits ps bs) h in digits_at place count ps bs parts.1 d
