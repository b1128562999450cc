-- UTF-8 keeps the order of code points.
use Rattle.std.proofs.Common.{◌≡◌, ℕ, ◌+◌, ◌/◌, ◌%◌, ◌<◌, ◌≤◌, List, [], ◌∷◌, ◌++◌, true, false, inl, inr, ⊎_elim, refl, sym, ap, ◌∙◌, arith, nat_cmp, subst, ltb, IsUtf8}
use Rattle.std.specs.Prelude.{◌⊎◌}
use Rattle.std.specs.Cmp.Lexicographic.{slice_cmp}
use Rattle.std.specs.Ordering.{ordering_then, ordering_reverse}
use Rattle.std.specs.declared.cmp.Ordering.TheVariants.{Less, Equal, Greater}
use Rattle.std.specs.Str.{chars}
use Rattle.std.proofs.lemmas.Bool.{cases_lt}
use Rattle.std.proofs.lemmas.Cmp.{nat_list_cmp_total}
use Rattle.std.proofs.lemmas.Str.{encodes-chars}
use Rattle.std.proofs.lemmas.Bool.Decides.{nat_tests}
use lib.Utf8.{encode, encodes}

less : (x y : ℕ) → x < y → nat_cmp x y ≡ Less
less x y h = grind (arith, nat_tests)

tied : (x : ℕ) → nat_cmp x x ≡ Equal
tied x = grind (arith, nat_tests)

first_less : (x y : ℕ) (us vs : List ℕ) → x < y → slice_cmp nat_cmp (x ∷ us) (y ∷ vs) ≡ Less
first_less x y us vs h = ap (λ o. ordering_then o (slice_cmp nat_cmp us vs)) (less x y h)

then_less : (x y : ℕ) (us vs : List ℕ) → x ≡ y → slice_cmp nat_cmp us vs ≡ Less → slice_cmp nat_cmp (x ∷ us) (y ∷ vs) ≡ Less
then_less x y us vs e h = ap (λ (z : ℕ). slice_cmp nat_cmp (x ∷ us) (z ∷ vs)) (sym e) ∙ ap (λ o. ordering_then o (slice_cmp nat_cmp us vs)) (tied x) ∙ h

-- the bytes by the four ranges
one : (c : ℕ) → c < 128 → encode c ≡ c ∷ []
unfolding encode
one c h = let a : ltb c 128 ≡ true = grind (arith, nat_tests) in rw a refl

two : (c : ℕ) → 128 ≤ c → c < 2048 → encode c ≡ (192 + c / 64) ∷ (128 + c % 64) ∷ []
unfolding encode
two c l h = let a : ltb c 128 ≡ false = grind (arith, nat_tests) in let b : ltb c 2048 ≡ true = grind (arith, nat_tests) in rw (a, b) refl

three : (c : ℕ) → 2048 ≤ c → c < 65536 → encode c ≡ (224 + c / 4096) ∷ (128 + (c / 64) % 64) ∷ (128 + c % 64) ∷ []
unfolding encode
three c l h = let a : ltb c 128 ≡ false = grind (arith, nat_tests) in let b : ltb c 2048 ≡ false = grind (arith, nat_tests) in let e : ltb c 65536 ≡ true = grind (arith, nat_tests) in rw (a, b, e) refl

four : (c : ℕ) → 65536 ≤ c → encode c ≡ (240 + c / 262144) ∷ (128 + (c / 4096) % 64) ∷ (128 + (c / 64) % 64) ∷ (128 + c % 64) ∷ []
unfolding encode
four c l = let a : ltb c 128 ≡ false = grind (arith, nat_tests) in let b : ltb c 2048 ≡ false = grind (arith, nat_tests) in let e : ltb c 65536 ≡ false = grind (arith, nat_tests) in rw (a, b, e) refl

less2 : (a b x y : ℕ) (r t : List ℕ) → (a < x) ⊎ ((a ≡ x) × (b < y)) → slice_cmp nat_cmp (a ∷ b ∷ r) (x ∷ y ∷ t) ≡ Less
less2 a b x y r t (inl h) = first_less a x (b ∷ r) (y ∷ t) h
less2 a b x y r t (inr h) = then_less a x (b ∷ r) (y ∷ t) h.0 (first_less b y r t h.1)

less3 : (a b c x y z : ℕ) (r t : List ℕ) → (a < x) ⊎ ((a ≡ x) × ((b < y) ⊎ ((b ≡ y) × (c < z)))) → slice_cmp nat_cmp (a ∷ b ∷ c ∷ r) (x ∷ y ∷ z ∷ t) ≡ Less
less3 a b c x y z r t (inl h) = first_less a x (b ∷ c ∷ r) (y ∷ z ∷ t) h
less3 a b c x y z r t (inr h) = then_less a x (b ∷ c ∷ r) (y ∷ z ∷ t) h.0 (less2 b c y z r t h.1)

less4 : (a b c d x y z w : ℕ) (r t : List ℕ) → (a < x) ⊎ ((a ≡ x) × ((b < y) ⊎ ((b ≡ y) × ((c < z) ⊎ ((c ≡ z) × (d < w)))))) → slice_cmp nat_cmp (a ∷ b ∷ c ∷ d ∷ r) (x ∷ y ∷ z ∷ w ∷ t) ≡ Less
less4 a b c d x y z w r t (inl h) = first_less a x (b ∷ c ∷ d ∷ r) (y ∷ z ∷ w ∷ t) h
less4 a b c d x y z w r t (inr h) = then_less a x (b ∷ c ∷ d ∷ r) (y ∷ z ∷ w ∷ t) h.0 (less3 b c d y z w r t h.1)

-- numbers in order have their digits of base 64 in order
digits2 : (c d : ℕ) → c < d → (192 + c / 64 < 192 + d / 64) ⊎ ((192 + c / 64 ≡ 192 + d / 64) × (128 + c % 64 < 128 + d % 64))
digits2 c d h = ⊎_elim (λ (k : c / 64 < d / 64). inl (omega arith)) (λ (k : d / 64 ≤ c / 64). inr (omega arith, omega arith)) (cases_lt (c / 64) (d / 64))

lower : (c d : ℕ) → c < d → c / 4096 ≡ d / 4096 → (128 + (c / 64) % 64 < 128 + (d / 64) % 64) ⊎ ((128 + (c / 64) % 64 ≡ 128 + (d / 64) % 64) × (128 + c % 64 < 128 + d % 64))
lower c d h e = ⊎_elim (λ (k : (c / 64) % 64 < (d / 64) % 64). inl (omega arith)) (λ (k : (d / 64) % 64 ≤ (c / 64) % 64). inr (omega arith, omega arith)) (cases_lt ((c / 64) % 64) ((d / 64) % 64))

digits3 : (c d : ℕ) → c < d → (224 + c / 4096 < 224 + d / 4096) ⊎ ((224 + c / 4096 ≡ 224 + d / 4096) × ((128 + (c / 64) % 64 < 128 + (d / 64) % 64) ⊎ ((128 + (c / 64) % 64 ≡ 128 + (d / 64) % 64) × (128 + c % 64 < 128 + d % 64))))
digits3 c d h = ⊎_elim (λ (k : c / 4096 < d / 4096). inl (omega arith)) (λ (k : d / 4096 ≤ c / 4096). inr (omega arith, lower c d h (omega arith))) (cases_lt (c / 4096) (d / 4096))

digits4 : (c d : ℕ) → c < d → (240 + c / 262144 < 240 + d / 262144) ⊎ ((240 + c / 262144 ≡ 240 + d / 262144) × ((128 + (c / 4096) % 64 < 128 + (d / 4096) % 64) ⊎ ((128 + (c / 4096) % 64 ≡ 128 + (d / 4096) % 64) × ((128 + (c / 64) % 64 < 128 + (d / 64) % 64) ⊎ ((128 + (c / 64) % 64 ≡ 128 + (d / 64) % 64) × (128 + c % 64 < 128 + d % 64))))))
digits4 c d h = ⊎_elim
    (λ (k : c / 262144 < d / 262144). inl (omega arith))
    (λ (k : d / 262144 ≤ c / 262144). inr (
      omega arith,
      ⊎_elim
          (λ (m : (c / 4096) % 64 < (d / 4096) % 64). inl (omega arith))
          (λ (m : (d / 4096) % 64 ≤ (c / 4096) % 64). inr (omega arith, lower c d h (omega arith)))
          (cases_lt ((c / 4096) % 64) ((d / 4096) % 64)),
    ))
    (cases_lt (c / 262144) (d / 262144))

via : (c d : ℕ) (e f r t : List ℕ) → encode c ≡ e → encode d ≡ f → slice_cmp nat_cmp (e ++ r) (f ++ t) ≡ Less → slice_cmp nat_cmp (encode c ++ r) (encode d ++ t) ≡ Less
via c d e f r t is-0 is-1 h = ap (λ (x : List ℕ). slice_cmp nat_cmp (x ++ r) (encode d ++ t)) is-0 ∙ ap (λ (x : List ℕ). slice_cmp nat_cmp (e ++ r) (x ++ t)) is-1 ∙ h

from_one : (c d : ℕ) (r t : List ℕ) → c < d → c < 128 → slice_cmp nat_cmp (encode c ++ r) (encode d ++ t) ≡ Less
from_one c d r t h k =
    ⊎_elim (λ (l : d < 128). via c d _ _ r t (one c k) (one d l) (first_less c d r t h))
    (λ (l : 128 ≤ d). ⊎_elim (λ (m : d < 2048). via c d _ _ r t (one c k) (two d l m) (first_less c (192 + d / 64) r ((128 + d % 64) ∷ t) (omega arith)))
    (λ (m : 2048 ≤ d). ⊎_elim (λ (n : d < 65536). via c d _ _ r t (one c k) (three d m n) (first_less c (224 + d / 4096) r ((128 + (d / 64) % 64) ∷ (128 + d % 64) ∷ t) (omega arith)))
    (λ (n : 65536 ≤ d). via c d _ _ r t (one c k) (four d n) (first_less c (240 + d / 262144) r ((128 + (d / 4096) % 64) ∷ (128 + (d / 64) % 64) ∷ (128 + d % 64) ∷ t) (omega arith)))
    (cases_lt d 65536))
    (cases_lt d 2048))
    (cases_lt d 128)

from_two : (c d : ℕ) (r t : List ℕ) → c < d → 128 ≤ c → c < 2048 → slice_cmp nat_cmp (encode c ++ r) (encode d ++ t) ≡ Less
from_two c d r t h k k' =
    ⊎_elim (λ (m : d < 2048). via c d _ _ r t (two c k k') (two d (omega arith) m) (less2 _ _ _ _ r t (digits2 c d h)))
    (λ (m : 2048 ≤ d). ⊎_elim (λ (n : d < 65536). via c d _ _ r t (two c k k') (three d m n) (first_less (192 + c / 64) (224 + d / 4096) ((128 + c % 64) ∷ r) ((128 + (d / 64) % 64) ∷ (128 + d % 64) ∷ t) (omega arith)))
    (λ (n : 65536 ≤ d). via c d _ _ r t (two c k k') (four d n) (first_less (192 + c / 64) (240 + d / 262144) ((128 + c % 64) ∷ r) ((128 + (d / 4096) % 64) ∷ (128 + (d / 64) % 64) ∷ (128 + d % 64) ∷ t) (omega arith)))
    (cases_lt d 65536))
    (cases_lt d 2048)

from_three : (c d : ℕ) (r t : List ℕ) → c < d → 2048 ≤ c → c < 65536 → slice_cmp nat_cmp (encode c ++ r) (encode d ++ t) ≡ Less
from_three c d r t h k k' =
    ⊎_elim (λ (n : d < 65536). via c d _ _ r t (three c k k') (three d (omega arith) n) (less3 _ _ _ _ _ _ r t (digits3 c d h)))
    (λ (n : 65536 ≤ d). via c d _ _ r t (three c k k') (four d n) (first_less (224 + c / 4096) (240 + d / 262144) ((128 + (c / 64) % 64) ∷ (128 + c % 64) ∷ r) ((128 + (d / 4096) % 64) ∷ (128 + (d / 64) % 64) ∷ (128 + d % 64) ∷ t) (omega arith)))
    (cases_lt d 65536)

below : (c d : ℕ) (r t : List ℕ) → c < d → slice_cmp nat_cmp (encode c ++ r) (encode d ++ t) ≡ Less
below c d r t h =
    ⊎_elim (λ (k : c < 128). from_one c d r t h k)
    (λ (k : 128 ≤ c). ⊎_elim (λ (m : c < 2048). from_two c d r t h k m)
    (λ (m : 2048 ≤ c). ⊎_elim (λ (n : c < 65536). from_three c d r t h m n)
    (λ (n : 65536 ≤ c). via c d _ _ r t (four c n) (four d (omega arith)) (less4 _ _ _ _ _ _ _ _ r t (digits4 c d h)))
    (cases_lt c 65536))
    (cases_lt c 2048))
    (cases_lt c 128)

same_front : (xs r t : List ℕ) → slice_cmp nat_cmp (xs ++ r) (xs ++ t) ≡ slice_cmp nat_cmp r t
same_front [] r t = refl
same_front (x ∷ xs) r t = ap (λ o. ordering_then o (slice_cmp nat_cmp (xs ++ r) (xs ++ t))) (tied x) ∙ same_front xs r t

greater : (x y : ℕ) → y < x → nat_cmp x y ≡ Greater
greater x y h = grind (arith, nat_tests)

one_point : (c d : ℕ) (r t : List ℕ) → slice_cmp nat_cmp (encode c ++ r) (encode d ++ t) ≡ ordering_then (nat_cmp c d) (slice_cmp nat_cmp r t)
one_point c d r t =
    ⊎_elim (λ (h : c < d). below c d r t h ∙ sym (ap (λ o. ordering_then o (slice_cmp nat_cmp r t)) (less c d h)))
    (λ (h : d ≤ c). ⊎_elim
    (λ (k : d < c). nat_list_cmp_total.antisymm (encode c ++ r) (encode d ++ t) ∙ ap ordering_reverse (below d c t r k) ∙ sym (ap (λ o. ordering_then o (slice_cmp nat_cmp r t)) (greater c d k)))
    (λ (k : c ≤ d). let same : c ≡ d = omega arith in subst (λ (x : ℕ). slice_cmp nat_cmp (encode c ++ r) (encode x ++ t) ≡ ordering_then (nat_cmp c x) (slice_cmp nat_cmp r t)) same
    (same_front (encode c) r t ∙ sym (ap (λ o. ordering_then o (slice_cmp nat_cmp r t)) (tied c))))
    (cases_lt d c))
    (cases_lt c d)

some_byte : (c : ℕ) → (b : ℕ) × (bs : List ℕ) × (encode c ≡ b ∷ bs)
some_byte c =
    ⊎_elim (λ (k : c < 128). (c, [], one c k))
    (λ (k : 128 ≤ c). ⊎_elim (λ (m : c < 2048). (192 + c / 64, (128 + c % 64) ∷ [], two c k m))
    (λ (m : 2048 ≤ c). ⊎_elim (λ (n : c < 65536). (224 + c / 4096, (128 + (c / 64) % 64) ∷ (128 + c % 64) ∷ [], three c m n))
    (λ (n : 65536 ≤ c). (240 + c / 262144, (128 + (c / 4096) % 64) ∷ (128 + (c / 64) % 64) ∷ (128 + c % 64) ∷ [], four c n))
    (cases_lt c 65536))
    (cases_lt c 2048))
    (cases_lt c 128)

none_first : (c : ℕ) (r : List ℕ) → slice_cmp nat_cmp [] (encode c ++ r) ≡ Less
none_first c r = let s = some_byte c in ap (λ (x : List ℕ). slice_cmp nat_cmp [] (x ++ r)) s.2

none_last : (c : ℕ) (r : List ℕ) → slice_cmp nat_cmp (encode c ++ r) [] ≡ Greater
none_last c r = let s = some_byte c in ap (λ (x : List ℕ). slice_cmp nat_cmp (x ++ r) []) s.2

all_points : (cs ds : List ℕ) → slice_cmp nat_cmp (encodes cs) (encodes ds) ≡ slice_cmp nat_cmp cs ds
all_points [] [] = refl
all_points [] (d ∷ ds) = none_first d (encodes ds)
all_points (c ∷ cs) [] = none_last c (encodes cs)
all_points (c ∷ cs) (d ∷ ds) = one_point c d (encodes cs) (encodes ds) ∙ ap (ordering_then (nat_cmp c d)) (all_points cs ds)

pub by_code_points : (s t : List ℕ) → IsUtf8 s → IsUtf8 t → slice_cmp nat_cmp s t ≡ slice_cmp nat_cmp (chars s) (chars t)
by_code_points s t u v =
    ap (λ (x : List ℕ). slice_cmp nat_cmp x t) (sym (encodes-chars s u)) ∙ ap (λ (x : List ℕ). slice_cmp nat_cmp (encodes (chars s)) x) (sym (encodes-chars t v)) ∙ all_points (chars s) (chars t)
