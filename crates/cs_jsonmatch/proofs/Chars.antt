-- Characters and their first bytes.
use Rattle.std.proofs.Common.{◌≡◌, ℕ, ◌<◌, ◌≤◌, length, List, [], ◌∷◌, ◌++◌, Bool, true, false, Option, Some, None, MatchOption, cond, nat_lt, refl, sym, ap, ◌∙◌, arith}
use Rattle.std.proofs.lemmas.Bool.Decides.{nat_tests}
use Rattle.std.proofs.Math.Utf8.{encode}
use Rattle.std.proofs.lemmas.Str.{encode_ascii}
use Rattle.std.specs.List.{AllByRecursion}
use Rattle.cs_jsonmatch.specs.declared.class.Class.{Class}
use Rattle.cs_jsonmatch.specs.declared.class.Class.TheVariants.{Other}
use Rattle.cs_jsonmatch.specs.Grammar.{class}
use Rattle.cs_jsonmatch.specs.Reading.{next_class, Took, Missed}

pub high_other : (b : ℕ) → 128 ≤ b → class b ≡ Other
high_other b h = grind (arith, nat_tests)

-- a list of bytes that are not ASCII, of which there is one
abbrev pub IsHigh : List ℕ → Type 0
IsHigh w = (b : ℕ) × (t : List ℕ) × (w ≡ b ∷ t) × (128 ≤ b) × AllByRecursion (λ x. 128 ≤ x) t

one_of : (x y : Bool) (a b d : List ℕ) → IsHigh a → IsHigh b → IsHigh d → IsHigh (cond x a (cond y b d))
one_of true y a b d h k l = h
one_of false true a b d h k l = k
one_of false false a b d h k l = l

pub encode_high : (c : ℕ) → 128 ≤ c → IsHigh (encode c)
unfolding encode
encode_high c h =
    let not_ascii : nat_lt c 128 ≡ false = grind (arith, nat_tests) in
    rw not_ascii (one_of (nat_lt c 2048) (nat_lt c 65536) _ _ _ (_, _, refl, omega arith, (omega arith, tt)) (_, _, refl, omega arith, (omega arith, (omega arith, tt))) (_, _, refl, omega arith, (omega arith, (omega arith, (omega arith, tt)))))

first_by : (c : ℕ) (t : List ℕ) → (b : Bool) → nat_lt c 128 ≡ b → next_class (encode c ++ t) ≡ class c
first_by c t true h =
    let low : c < 128 = grind (arith, nat_tests) in
    rw (encode_ascii c low) refl
first_by c t false h =
    let up : 128 ≤ c = grind (arith, nat_tests) in
    let e = encode_high c up in
    rw (e.2) (high_other e.0 e.3 ∙ sym (high_other c up))

-- the class of a character is that of its first byte
pub first_class : (c : ℕ) (t : List ℕ) → next_class (encode c ++ t) ≡ class c
first_class c t = first_by c t (nat_lt c 128) refl

low_by : (c : ℕ) → (class c ≡ Other → ⊥) → (b : Bool) → nat_lt c 128 ≡ b → encode c ≡ c ∷ []
low_by c k true h =
    let low : c < 128 = grind (arith, nat_tests) in
    encode_ascii c low
low_by c k false h =
    let up : 128 ≤ c = grind (arith, nat_tests) in
    absurd (k (high_other c up))

pub one_byte : (c : ℕ) → (class c ≡ Other → ⊥) → encode c ≡ c ∷ []
one_byte c k = low_by c k (nat_lt c 128) refl

-- the next character, where it is of the class
pub next_takes : (k : Class) (r : Option ℕ) (old new : List ℕ) → (k ≡ Other → ⊥) → next_class old ≡ k
    → MatchOption r ((old ≡ []) × (new ≡ [])) (λ c. (old ≡ encode c ++ new) × (length new < length old)) → MatchOption r (Missed k old new) (λ c. Took k c old new)
next_takes k None old new some is h = absurd (some (sym is ∙ ap next_class h.0))
next_takes k (Some c) old new some is h =
    let at : class c ≡ k = sym (first_class c new) ∙ ap next_class (sym h.0) ∙ is in
    (h.0 ∙ ap (λ w. w ++ new) (one_byte c (λ e. some (sym at ∙ e))), at)

pub class_at : (c : ℕ) (text rest old : List ℕ) → text ≡ old → text ≡ encode c ++ rest → class c ≡ next_class old
class_at c text rest old from at = sym (first_class c rest) ∙ ap next_class (sym at ∙ from)

other_by : (c wanted : ℕ) (rest old t : List ℕ) → wanted < 128 → (c ≡ wanted → ⊥) → old ≡ encode c ++ rest → old ≡ wanted ∷ t → (b : Bool) → nat_lt c 128 ≡ b → ⊥
other_by c wanted rest old t low h e f true k =
    let ascii : c < 128 = grind (arith, nat_tests) in
    let both : c ∷ rest ≡ wanted ∷ t = sym (e ∙ ap (λ w. w ++ rest) (encode_ascii c ascii)) ∙ f in
    let same : c ≡ wanted = cc in
    h same
other_by c wanted rest old t low h e f false k =
    let up : 128 ≤ c = grind (arith, nat_tests) in
    let w = encode_high c up in
    let both : w.0 ∷ (w.1 ++ rest) ≡ wanted ∷ t = sym (e ∙ ap (λ x. x ++ rest) w.2) ∙ f in
    let same : w.0 ≡ wanted = cc in
    let high : 128 ≤ w.0 = w.3 in
    omega arith

-- a text that begins with another character than this one of ASCII
pub other_char : (c wanted : ℕ) (rest old : List ℕ) → wanted < 128 → (c ≡ wanted → ⊥) → old ≡ encode c ++ rest → (t : List ℕ) → old ≡ wanted ∷ t → ⊥
other_char c wanted rest old low h e t f = other_by c wanted rest old t low h e f (nat_lt c 128) refl
