-- How readings go on, from state to state.
use Rattle.std.proofs.Common.{◌≡◌, ◌⊎◌, inl, inr, ℕ, ◌<◌, ◌≤◌, ◌+◌, ◌-◌, ◌*◌, ◌^◌, length, List, [], ◌∷◌, ◌++◌, Bool, true, false, cond, nat_eq, nat_lt, Option, Some, None, MatchBool, Result, Ok, Err, option_and_then, ℤ, pos, neg_ℤ, refl, sym, ap, ◌∙◌, subst, arith, rules, append_assoc, add-one}
use Rattle.std.proofs.lemmas.Bool.Decides.{nat_tests}
use Rattle.std.proofs.lemmas.List.{append-nil, length-append}
use Rattle.std.specs.List.{AllByRecursion}
use Rattle.std.specs.Result.{IsErrAnd}
use Rattle.std.proofs.Math.Nat.{pow-suc, pow-le-pow_right}
use Rattle.std.proofs.Math.Utf8.{encode}
use Rattle.std.proofs.lemmas.Str.{encode_ascii}
use Rattle.cs_value.specs.Tree.{Tree, integer, text}
use Rattle.cs_value.specs.View.{tree}
use Rattle.cs_value.specs.declared.val.Val.{the_lemmas}
use Rattle.cs_value.specs.declared.val.Val as val
use Rattle.cs_jsonmatch.specs.Path.{Item, position, range, named, meets, Path}
use Rattle.cs_jsonmatch.specs.declared.cursor.Stop.{Stop}
use Rattle.cs_jsonmatch.specs.declared.cursor.Stop.TheVariants as stop
use Rattle.cs_jsonmatch.specs.declared.path.Comparison.{Comparison}
use Rattle.cs_jsonmatch.specs.declared.class.Class.{Class}
use Rattle.cs_jsonmatch.specs.declared.class.Class.TheVariants.{Letter, Digit, Dot, Opening, Closing, Comma, Space, Minus, Star, Quote, Backslash, Colon, AtSign, EqualSign, Bang, Below, Above, Other}
use Rattle.cs_jsonmatch.specs.Grammar.{class, whole, IsName, first_letter, more_letter, more_digit, AreDigits, first_digit, next_digit, number_from}
use Rattle.cs_jsonmatch.specs.Machine.{Slot, front, second, constant, text_item, State, start, first_dot, one_dot, two_dots, word, before, sign, digits, quoted, escape, to, left, left_dot, left_done, literal, letters, next_letter, after, done, more, close, close_or_digit, by_class, taken, run, accept}
use Rattle.cs_jsonmatch.specs.Reading.{Reading, cut, ended, go_on, reading, next_class, Took, Missed, before_int, behind_int, after_int, behind_name, after_name, IsNameRead, AreDigitsRead, IsIntRead, TakesName, IsStop, IsRead}
use Rattle.cs_jsonmatch.proofs.Chars.{high_other, encode_high, one_byte}
use Rattle.cs_jsonmatch.proofs.Complete.{first_byte, digits_run, left_run, name_run, inside_byte, escape_byte}
use Rattle.cs_jsonmatch.proofs.Fault.{quote_ends}

-- after a byte of a class that the state takes
pub step_to : (k : Class) (b : ℕ) (old new : List ℕ) (s s2 : State) → Took k b old new → by_class s b k ≡ Some s2 → reading old s ≡ reading new s2
step_to k b old new s s2 h e = ap (λ t. reading t s) h.0 ∙ ap (λ c. go_on (reading new) (b ∷ new) (by_class s b c)) h.1 ∙ ap (go_on (reading new) (b ∷ new)) e

-- before a byte that the state does not take
pub stops : (t : List ℕ) (s : State) → accept s ≡ None → ((b : ℕ) → by_class s b (next_class t) ≡ None) → reading t s ≡ cut t
stops [] s a h = ap ended a
stops (b ∷ t) s a h = ap (go_on (reading t) (b ∷ t)) (h b)

-- two states that do the same at the next byte
pub alike : (t : List ℕ) (s s2 : State) → accept s ≡ accept s2 → ((b : ℕ) → by_class s b (next_class t) ≡ by_class s2 b (next_class t)) → reading t s ≡ reading t s2
alike [] s s2 a h = ap ended a
alike (b ∷ t) s s2 a h = ap (go_on (reading t) (b ∷ t)) (h b)

run_on : (b : ℕ) (u t : List ℕ) (s2 : State) → ((s : State) → run u s ≡ Some s2 → reading (u ++ t) s ≡ reading t s2) → (o : Option State)
    → option_and_then (run u) o ≡ Some s2 → go_on (reading (u ++ t)) (b ∷ (u ++ t)) o ≡ reading t s2
run_on b u t s2 h None e = absurd (cc)
run_on b u t s2 h (Some s) e = h s e

-- after bytes that the state runs over
pub runs : (u t : List ℕ) (s s2 : State) → run u s ≡ Some s2 → reading (u ++ t) s ≡ reading t s2
runs [] t s s2 e = let same : s ≡ s2 = cc in ap (reading t) same
runs (b ∷ u) t s s2 e = run_on b u t s2 (λ s1. runs u t s1 s2) (taken s b) e

-- a list that is shorter by one
pub took_shorter : (k : Class) (b : ℕ) (old new : List ℕ) → Took k b old new → length new < length old
took_shorter k b old new h = rw (h.0) (omega arith)

-- the name read so far, and one more of its characters
abbrev pub NameSoFar : List ℕ → List ℕ → Type 0
NameSoFar w rest = ((w ≡ []) × (next_class rest ≡ Letter)) ⊎ IsName w

pub more_name : (w rest new : List ℕ) (c : ℕ) → NameSoFar w rest → (Took Letter c rest new) ⊎ (Took Digit c rest new) → IsName (w ++ c ∷ [])
more_name w rest new c (inl h) (inl k) = rw (h.0) (first_letter c k.1)
more_name w rest new c (inl h) (inr k) = let first : next_class rest ≡ Digit = ap next_class k.0 ∙ k.1 in absurd (cc (h.1, first))
more_name w rest new c (inr h) (inl k) = more_letter w c h k.1
more_name w rest new c (inr h) (inr k) = more_digit w c h k.1

pub whole_name : (w rest : List ℕ) → NameSoFar w rest → (next_class rest ≡ Letter → ⊥) → IsName w
whole_name w rest (inl h) k = absurd (k h.1)
whole_name w rest (inr h) k = h

pub class_of_either : (c : ℕ) (rest new : List ℕ) → (Took Letter c rest new) ⊎ (Took Digit c rest new) → (class c ≡ Other → ⊥) × (rest ≡ c ∷ new)
class_of_either c rest new (inl k) = (λ e. absurd (cc (e, k.1)), k.0)
class_of_either c rest new (inr k) = (λ e. absurd (cc (e, k.1)), k.0)

-- numbers
pub digit_byte : (b : ℕ) → class b ≡ Digit → (48 ≤ b) × (b ≤ 57)
digit_byte b h = (grind (arith, nat_tests), grind (arith, nat_tests))

pub one_more_digit : (n : ℕ) (w : List ℕ) (b : ℕ) → number_from n (w ++ b ∷ []) ≡ 10 * number_from n w + (b - 48)
one_more_digit n [] b = refl
one_more_digit n (c ∷ w) b = one_more_digit (10 * n + (c - 48)) w b

small_step : (n m b : ℕ) → n < m → b ≤ 57 → 10 * n + (b - 48) < m * 10
small_step n m b h k = omega arith

-- a number of so many digits is small, and they are at most eighteen
pub few_digits : (w : List ℕ) → AreDigits w → (number_from 0 w < 10 ^ length w) × (length w ≤ 18)
few_digits _ (first_digit b k) = let d = digit_byte b k in (omega (arith, d.1), omega arith)
few_digits _ (next_digit w b a k few) =
    let d = digit_byte b k in
    let r = few_digits w a in
    let many : length (w ++ b ∷ []) ≡ length w + 1 = length-append w (b ∷ []) in
    (rw (one_more_digit 0 w b, many ∙ add-one (length w)) (subst (λ m. 10 * number_from 0 w + (b - 48) < m) (sym (pow-suc 10 (length w))) (small_step (number_from 0 w) (10 ^ length w) b r.0 d.1)), rw many (omega arith))

-- the digits read so far
abbrev pub DigitsSoFar : List ℕ → Type 0
DigitsSoFar w = (w ≡ []) ⊎ AreDigits w

pub small_number : (w : List ℕ) → DigitsSoFar w → number_from 0 w < 10 ^ 18
small_number w (inl h) = rw h (omega arith)
small_number w (inr a) = let r = few_digits w a in let m : 10 ^ length w ≤ 10 ^ 18 = pow-le-pow_right (omega arith) r.1 in omega (arith, r.0, m)

pub more_digits : (w : List ℕ) (b : ℕ) → DigitsSoFar w → class b ≡ Digit → length w < 18 → AreDigits (w ++ b ∷ [])
more_digits w b (inl h) k few = rw h (first_digit b k)
more_digits w b (inr a) k few = next_digit w b a k few

pub some_digits : (w : List ℕ) → DigitsSoFar w → 0 < length w → AreDigits w
some_digits w (inl h) k = absurd (omega (arith, ap length h))
some_digits w (inr a) k = a

-- integers
from_minus : (p : Path) (d : Bool) (is : List Item) (g : Slot) (b : ℕ) → by_class (before_int p d is g) b Minus ≡ Some (sign p d is g)
from_minus p d is front b = refl
from_minus p d is (second a) b = refl
from_minus p d is (constant ns c) b = refl

from_digit : (p : Path) (d : Bool) (is : List Item) (g : Slot) (b : ℕ) → by_class (before_int p d is g) b Digit ≡ Some (digits p d is g false (b ∷ []))
from_digit p d is front b = refl
from_digit p d is (second a) b = refl
from_digit p d is (constant ns c) b = refl

behind_by : (p : Path) (d : Bool) (is : List Item) (g : Slot) (neg : Bool) (w : List ℕ) (b : ℕ) (k : Class) → (length w ≡ 18) ⊎ (k ≡ Digit → ⊥)
    → close_or_digit p d is g neg w b k ≡ behind_int p d is g (whole neg w) k
behind_by p d is g neg w b Digit (inl h) = rw h refl
behind_by p d is g neg w b Digit (inr h) = absurd (h refl)
behind_by p d is g neg w b Letter h = refl
behind_by p d is g neg w b Dot h = refl
behind_by p d is g neg w b Opening h = refl
behind_by p d is g neg w b Closing h = refl
behind_by p d is g neg w b Comma h = refl
behind_by p d is g neg w b Space h = refl
behind_by p d is g neg w b Minus h = refl
behind_by p d is g neg w b Star h = refl
behind_by p d is g neg w b Quote h = refl
behind_by p d is g neg w b Backslash h = refl
behind_by p d is g neg w b Colon h = refl
behind_by p d is g neg w b AtSign h = refl
behind_by p d is g neg w b EqualSign h = refl
behind_by p d is g neg w b Bang h = refl
behind_by p d is g neg w b Below h = refl
behind_by p d is g neg w b Above h = refl
behind_by p d is g neg w b Other h = refl

behind_digits : (t : List ℕ) (p : Path) (d : Bool) (is : List Item) (g : Slot) (neg : Bool) (w : List ℕ) → (length w ≡ 18) ⊎ (next_class t ≡ Digit → ⊥)
    → reading t (digits p d is g neg w) ≡ after_int t p d is g (whole neg w)
behind_digits [] p d is g neg w h = refl
behind_digits (b ∷ t) p d is g neg w h = ap (go_on (reading t) (b ∷ t)) (behind_by p d is g neg w b (class b) h)

pub negative_int : (n : ℕ) (p : Path) (d : Bool) (is : List Item) (g : Slot) (b : ℕ) (old middle new : List ℕ) → Took Minus b old middle → AreDigitsRead n middle new
    → reading old (before_int p d is g) ≡ after_int new p d is g (neg_ℤ (pos n))
negative_int n p d is g b old middle new h r =
    let w = r.0 in
    step_to Minus b old middle _ (sign p d is g) h (from_minus p d is g b)
    ∙ ap (λ t. reading t (sign p d is g)) r.1
    ∙ runs w new (sign p d is g) (digits p d is g true w) (digits_run (sign p d is g) p d is g true (λ c k. ap (λ l. by_class (sign p d is g) c l) k) r.2)
    ∙ behind_digits new p d is g true w r.4
    ∙ ap (λ m. after_int new p d is g (neg_ℤ (pos m))) r.3

pub positive_int : (n : ℕ) (p : Path) (d : Bool) (is : List Item) (g : Slot) (old middle new : List ℕ) → middle ≡ old → AreDigitsRead n middle new
    → reading old (before_int p d is g) ≡ after_int new p d is g (pos n)
positive_int n p d is g old middle new same r =
    let w = r.0 in
    ap (λ t. reading t (before_int p d is g)) (sym same ∙ r.1)
    ∙ runs w new (before_int p d is g) (digits p d is g false w) (digits_run (before_int p d is g) p d is g false (λ c k. ap (λ l. by_class (before_int p d is g) c l) k ∙ from_digit p d is g c) r.2)
    ∙ behind_digits new p d is g false w r.4
    ∙ ap (λ m. after_int new p d is g (pos m)) r.3

not_digit : (p : Path) (d : Bool) (is : List Item) (g : Slot) (b : ℕ) (k : Class) → (k ≡ Digit → ⊥) → by_class (sign p d is g) b k ≡ None
not_digit p d is g b Digit h = absurd (h refl)
not_digit p d is g b Letter h = refl
not_digit p d is g b Dot h = refl
not_digit p d is g b Opening h = refl
not_digit p d is g b Closing h = refl
not_digit p d is g b Comma h = refl
not_digit p d is g b Space h = refl
not_digit p d is g b Minus h = refl
not_digit p d is g b Star h = refl
not_digit p d is g b Quote h = refl
not_digit p d is g b Backslash h = refl
not_digit p d is g b Colon h = refl
not_digit p d is g b AtSign h = refl
not_digit p d is g b EqualSign h = refl
not_digit p d is g b Bang h = refl
not_digit p d is g b Below h = refl
not_digit p d is g b Above h = refl
not_digit p d is g b Other h = refl

-- a minus without digits
pub lone_minus : (p : Path) (d : Bool) (is : List Item) (g : Slot) (b : ℕ) (old middle new : List ℕ) → Took Minus b old middle → Missed Digit middle new
    → reading old (before_int p d is g) ≡ cut new
lone_minus p d is g b old middle new h k =
    step_to Minus b old middle _ (sign p d is g) h (from_minus p d is g b)
    ∙ stops middle (sign p d is g) refl (λ c. not_digit p d is g c (next_class middle) k.1)
    ∙ ap cut (sym k.0)

-- texts
pub quote_low : (q : ℕ) → class q ≡ Quote → q < 128
quote_low q h = grind (arith, nat_tests)

high_byte : (p : Path) (d : Bool) (is : List Item) (g : Slot) (q : ℕ) (s : List ℕ) (b : ℕ) → class q ≡ Quote → 128 ≤ b → taken (quoted p d is g q s) b ≡ Some (quoted p d is g q (s ++ b ∷ []))
high_byte p d is g q s b k h =
    let low = quote_low q k in
    let apart : nat_eq b q ≡ false = grind (arith, nat_tests) in
    inside_byte p d is g q s b (class b) (λ e. absurd (cc (e, high_other b h))) apart

high_run : (p : Path) (d : Bool) (is : List Item) (g : Slot) (q : ℕ) (s w : List ℕ) → class q ≡ Quote → AllByRecursion (λ b. 128 ≤ b) w → run w (quoted p d is g q s) ≡ Some (quoted p d is g q (s ++ w))
high_run p d is g q s [] k h = ap (λ r. Some (quoted p d is g q r)) (sym (append-nil s))
high_run p d is g q s (b ∷ w) k h =
    ap (λ o. option_and_then (run w) o) (high_byte p d is g q s b k h.0) ∙ high_run p d is g q (s ++ b ∷ []) w k h.1 ∙ ap (λ r. Some (quoted p d is g q r)) (append_assoc s (b ∷ []) w)

backslash_byte : (b : ℕ) → class b ≡ Backslash → b ≡ 92
backslash_byte b h = grind (arith, nat_tests)

plain_by : (p : Path) (d : Bool) (is : List Item) (g : Slot) (q : ℕ) (s : List ℕ) (c : ℕ) → class q ≡ Quote → (c ≡ q → ⊥) → (c ≡ 92 → ⊥) → (t : Bool) → nat_lt c 128 ≡ t
    → run (encode c) (quoted p d is g q s) ≡ Some (quoted p d is g q (s ++ encode c))
plain_by p d is g q s c k h l true e =
    let low : c < 128 = grind (arith, nat_tests) in
    let apart : nat_eq c q ≡ false = grind (arith, nat_tests) in
    rw (encode_ascii c low) (first_byte c [] (quoted p d is g q s) _ _ (inside_byte p d is g q s c (class c) (λ m. l (backslash_byte c m)) apart) refl)
plain_by p d is g q s c k h l false e =
    let up : 128 ≤ c = grind (arith, nat_tests) in
    let w = encode_high c up in
    rw (w.2) (high_run p d is g q s (w.0 ∷ w.1) k (w.3, w.4))

-- a character that stands for itself
pub plain_char : (p : Path) (d : Bool) (is : List Item) (g : Slot) (q : ℕ) (s : List ℕ) (c : ℕ) (rest : List ℕ) → class q ≡ Quote → (c ≡ q → ⊥) → (c ≡ 92 → ⊥)
    → reading (encode c ++ rest) (quoted p d is g q s) ≡ reading rest (quoted p d is g q (s ++ encode c))
plain_char p d is g q s c rest k h l = runs (encode c) rest _ _ (plain_by p d is g q s c k h l (nat_lt c 128) refl)

no_escape : (p : Path) (d : Bool) (is : List Item) (g : Slot) (q : ℕ) (s : List ℕ) (b : ℕ) (k : Class) → (k ≡ Quote → ⊥) → (k ≡ Backslash → ⊥) → by_class (escape p d is g q s) b k ≡ None
no_escape p d is g q s b Quote h l = absurd (h refl)
no_escape p d is g q s b Backslash h l = absurd (l refl)
no_escape p d is g q s b Letter h l = refl
no_escape p d is g q s b Digit h l = refl
no_escape p d is g q s b Dot h l = refl
no_escape p d is g q s b Opening h l = refl
no_escape p d is g q s b Closing h l = refl
no_escape p d is g q s b Comma h l = refl
no_escape p d is g q s b Space h l = refl
no_escape p d is g q s b Minus h l = refl
no_escape p d is g q s b Star h l = refl
no_escape p d is g q s b Colon h l = refl
no_escape p d is g q s b AtSign h l = refl
no_escape p d is g q s b EqualSign h l = refl
no_escape p d is g q s b Bang h l = refl
no_escape p d is g q s b Below h l = refl
no_escape p d is g q s b Above h l = refl
no_escape p d is g q s b Other h l = refl

-- a backslash before a character that it may not stand before
pub lone_backslash : (p : Path) (d : Bool) (is : List Item) (g : Slot) (q : ℕ) (s : List ℕ) (c : ℕ) (rest middle new : List ℕ) → c ≡ 92 → Missed Quote rest middle → Missed Backslash middle new
    → reading (encode c ++ rest) (quoted p d is g q s) ≡ cut new
lone_backslash p d is g q s c rest middle new e h k =
    ap (λ b. reading (encode b ++ rest) (quoted p d is g q s)) e
    ∙ ap (λ w. reading (w ++ rest) (quoted p d is g q s)) (encode_ascii 92 (omega arith))
    ∙ stops rest (escape p d is g q s) refl (λ b. no_escape p d is g q s b (next_class rest) h.1 (λ l. k.1 (ap next_class h.0 ∙ l)))
    ∙ ap cut (sym h.0 ∙ sym k.0)

escaped_low : (e : ℕ) → (class e ≡ Quote) ⊎ (class e ≡ Backslash) → class e ≡ Other → ⊥
escaped_low e (inl k) h = absurd (cc (k, h))
escaped_low e (inr k) h = absurd (cc (k, h))

-- a backslash before a character that it may stand before
pub after_backslash : (p : Path) (d : Bool) (is : List Item) (g : Slot) (q : ℕ) (s : List ℕ) (c e : ℕ) (rest new : List ℕ) → c ≡ 92 → rest ≡ e ∷ new → (class e ≡ Quote) ⊎ (class e ≡ Backslash)
    → reading (encode c ++ rest) (quoted p d is g q s) ≡ reading new (quoted p d is g q (s ++ encode e))
after_backslash p d is g q s c e rest new is92 at k =
    ap (λ b. reading (encode b ++ rest) (quoted p d is g q s)) is92
    ∙ ap (λ w. reading (w ++ rest) (quoted p d is g q s)) (encode_ascii 92 (omega arith))
    ∙ ap (λ t. reading t (escape p d is g q s)) at
    ∙ ap (go_on (reading new) (e ∷ new)) (escape_byte p d is g q s e k)
    ∙ ap (λ w. reading new (quoted p d is g q (s ++ w))) (sym (one_byte e (escaped_low e k)))

-- the closing quote
pub closing_quote : (p : Path) (d : Bool) (is : List Item) (g : Slot) (q : ℕ) (s : List ℕ) (c : ℕ) (rest : List ℕ) → class q ≡ Quote → c ≡ q
    → reading (encode c ++ rest) (quoted p d is g q s) ≡ reading rest (after p d (is ++ text_item g s ∷ []))
closing_quote p d is g q s c rest k e =
    ap (λ b. reading (encode b ++ rest) (quoted p d is g q s)) e
    ∙ ap (λ w. reading (w ++ rest) (quoted p d is g q s)) (encode_ascii q (quote_low q k))
    ∙ ap (go_on (reading rest) (q ∷ rest)) (quote_ends p d is g q s k)

-- an integer, with its sign or without one
pub int_read : (negative : Bool) (n : ℕ) (p : Path) (d : Bool) (is : List Item) (g : Slot) (old middle new : List ℕ) → MatchBool negative ((b : ℕ) × Took Minus b old middle) (Missed Minus old middle)
    → AreDigitsRead n middle new → reading old (before_int p d is g) ≡ after_int new p d is g (cond negative (neg_ℤ (pos n)) (pos n))
int_read true n p d is g old middle new h r = negative_int n p d is g h.0 old middle new h.1 r
int_read false n p d is g old middle new h r = positive_int n p d is g old middle new h.0 r

-- behind an integer that is no first end of a range
front_by : (p : Path) (d : Bool) (is : List Item) (n : ℤ) (k : Class) → (k ≡ Colon → ⊥) → behind_int p d is front n k ≡ close p d (is ++ position n ∷ []) k
front_by p d is n Colon h = absurd (h refl)
front_by p d is n Letter h = refl
front_by p d is n Digit h = refl
front_by p d is n Dot h = refl
front_by p d is n Opening h = refl
front_by p d is n Closing h = refl
front_by p d is n Comma h = refl
front_by p d is n Space h = refl
front_by p d is n Minus h = refl
front_by p d is n Star h = refl
front_by p d is n Quote h = refl
front_by p d is n Backslash h = refl
front_by p d is n AtSign h = refl
front_by p d is n EqualSign h = refl
front_by p d is n Bang h = refl
front_by p d is n Below h = refl
front_by p d is n Above h = refl
front_by p d is n Other h = refl

pub int_ends_front : (t : List ℕ) (p : Path) (d : Bool) (is : List Item) (n : ℤ) → (next_class t ≡ Colon → ⊥) → after_int t p d is front n ≡ reading t (after p d (is ++ position n ∷ []))
int_ends_front [] p d is n h = refl
int_ends_front (b ∷ t) p d is n h = ap (go_on (reading t) (b ∷ t)) (front_by p d is n (class b) h)

second_by : (p : Path) (d : Bool) (is : List Item) (a : Option ℤ) (n : ℤ) (k : Class) → behind_int p d is (second a) n k ≡ close p d (is ++ range a (Some n) ∷ []) k
second_by p d is a n Letter = refl
second_by p d is a n Digit = refl
second_by p d is a n Dot = refl
second_by p d is a n Opening = refl
second_by p d is a n Closing = refl
second_by p d is a n Comma = refl
second_by p d is a n Space = refl
second_by p d is a n Minus = refl
second_by p d is a n Star = refl
second_by p d is a n Quote = refl
second_by p d is a n Backslash = refl
second_by p d is a n Colon = refl
second_by p d is a n AtSign = refl
second_by p d is a n EqualSign = refl
second_by p d is a n Bang = refl
second_by p d is a n Below = refl
second_by p d is a n Above = refl
second_by p d is a n Other = refl

int_ends_second : (t : List ℕ) (p : Path) (d : Bool) (is : List Item) (a : Option ℤ) (n : ℤ) → after_int t p d is (second a) n ≡ reading t (after p d (is ++ range a (Some n) ∷ []))
int_ends_second [] p d is a n = refl
int_ends_second (b ∷ t) p d is a n = ap (go_on (reading t) (b ∷ t)) (second_by p d is a n (class b))

constant_by : (p : Path) (d : Bool) (is : List Item) (ns : List (List ℕ)) (c : Comparison) (n : ℤ) (k : Class) → behind_int p d is (constant ns c) n k ≡ close p d (is ++ meets ns c (integer n) ∷ []) k
constant_by p d is ns c n Letter = refl
constant_by p d is ns c n Digit = refl
constant_by p d is ns c n Dot = refl
constant_by p d is ns c n Opening = refl
constant_by p d is ns c n Closing = refl
constant_by p d is ns c n Comma = refl
constant_by p d is ns c n Space = refl
constant_by p d is ns c n Minus = refl
constant_by p d is ns c n Star = refl
constant_by p d is ns c n Quote = refl
constant_by p d is ns c n Backslash = refl
constant_by p d is ns c n Colon = refl
constant_by p d is ns c n AtSign = refl
constant_by p d is ns c n EqualSign = refl
constant_by p d is ns c n Bang = refl
constant_by p d is ns c n Below = refl
constant_by p d is ns c n Above = refl
constant_by p d is ns c n Other = refl

pub int_ends_constant : (t : List ℕ) (p : Path) (d : Bool) (is : List Item) (ns : List (List ℕ)) (c : Comparison) (n : ℤ) → after_int t p d is (constant ns c) n ≡ reading t (after p d (is ++ meets ns c (integer n) ∷ []))
int_ends_constant [] p d is ns c n = refl
int_ends_constant (b ∷ t) p d is ns c n = ap (go_on (reading t) (b ∷ t)) (constant_by p d is ns c n (class b))

-- a range whose second end is absent
open_by : (p : Path) (d : Bool) (is : List Item) (a : Option ℤ) (b : ℕ) (k : Class) → (k ≡ Minus → ⊥) → (k ≡ Digit → ⊥) → by_class (to p d is a) b k ≡ by_class (after p d (is ++ range a None ∷ [])) b k
open_by p d is a b Minus h l = absurd (h refl)
open_by p d is a b Digit h l = absurd (l refl)
open_by p d is a b Letter h l = refl
open_by p d is a b Dot h l = refl
open_by p d is a b Opening h l = refl
open_by p d is a b Closing h l = refl
open_by p d is a b Comma h l = refl
open_by p d is a b Space h l = refl
open_by p d is a b Star h l = refl
open_by p d is a b Quote h l = refl
open_by p d is a b Backslash h l = refl
open_by p d is a b Colon h l = refl
open_by p d is a b AtSign h l = refl
open_by p d is a b EqualSign h l = refl
open_by p d is a b Bang h l = refl
open_by p d is a b Below h l = refl
open_by p d is a b Above h l = refl
open_by p d is a b Other h l = refl

pub range_read : (a to_here : Option ℤ) (p : Path) (d : Bool) (is : List Item) (old new : List ℕ) → IsIntRead to_here p d is (second a) old new
    → reading old (to p d is a) ≡ reading new (after p d (is ++ range a to_here ∷ []))
range_read a None p d is old new h =
    alike old (to p d is a) (after p d (is ++ range a None ∷ [])) refl (λ b. open_by p d is a b (next_class old) h.0.1 h.1.1)
    ∙ ap (λ t. reading t (after p d (is ++ range a None ∷ []))) (sym h.0.0)
range_read a (Some n) p d is old new h = h ∙ int_ends_second new p d is a n

-- the colon of a range
pub colon_read : (n : ℤ) (p : Path) (d : Bool) (is : List Item) (b : ℕ) (old new : List ℕ) → Took Colon b old new → after_int old p d is front n ≡ reading new (to p d is (Some n))
colon_read n p d is b old new h = ap (λ t. after_int t p d is front n) h.0 ∙ ap (λ k. go_on (reading new) (b ∷ new) (behind_int p d is front n k)) h.1

-- a letter that is not the next of a word
no_letter_by : (x : Bool) (p : Path) (d : Bool) (is : List Item) (ns : List (List ℕ)) (c : Comparison) (t : Tree) (more rest : List ℕ) (b wanted : ℕ) → nat_eq b wanted ≡ x → (b ≡ wanted → ⊥)
    → reading (b ∷ rest) (letters p d is ns c t (wanted ∷ more)) ≡ cut (b ∷ rest)
no_letter_by true p d is ns c t more rest b wanted e h = let same : b ≡ wanted = grind (arith, nat_tests) in absurd (h same)
no_letter_by false p d is ns c t more rest b wanted e h = ap (λ x. go_on (reading rest) (b ∷ rest) (cond x (Some (next_letter p d is ns c t more)) None)) e

pub no_letter : (p : Path) (d : Bool) (is : List Item) (ns : List (List ℕ)) (c : Comparison) (t : Tree) (more old : List ℕ) (wanted : ℕ) → ((u : List ℕ) → old ≡ wanted ∷ u → ⊥)
    → reading old (letters p d is ns c t (wanted ∷ more)) ≡ cut old
no_letter p d is ns c t more [] wanted h = refl
no_letter p d is ns c t more (b ∷ rest) wanted h = no_letter_by (nat_eq b wanted) p d is ns c t more rest b wanted refl (λ e. h rest (ap (λ k. k ∷ rest) e))

-- a reading that goes on elsewhere first
pub onward : {A : Type 0} (result : Result A Stop) (on : A → Reading) (r1 r2 : Reading) (rest : List ℕ) → r1 ≡ r2 → IsRead result on r2 rest → IsRead result on r1 rest
onward (Ok a) on r1 r2 rest e h = e ∙ h
onward (Err stop.Here) on r1 r2 rest e h = e ∙ h
onward (Err stop.NoMemory) on r1 r2 rest e h = tt

stopped : (r1 r2 : Reading) (rest : List ℕ) (e : Stop) → r1 ≡ r2 → IsStop e r2 rest → IsStop e r1 rest
stopped r1 r2 rest stop.Here same h = same ∙ h
stopped r1 r2 rest stop.NoMemory same h = tt

-- a stop that is passed on
pub passed : {A : Type 0} (result : Result A Stop) (on : A → Reading) (r1 r2 : Reading) (rest : List ℕ) (e : Stop) → r1 ≡ r2 → IsStop e r2 rest → IsErrAnd result (λ x. x ≡ e) → IsRead result on r1 rest
passed (Ok a) on r1 r2 rest e same h is = absurd is
passed (Err x) on r1 r2 rest e same h is = rw is (stopped r1 r2 rest e same h)

-- names of a left side
left_by : (p : Path) (d : Bool) (is : List Item) (ns : List (List ℕ)) (w : List ℕ) (b : ℕ) (k : Class) → (k ≡ Letter → ⊥) → (k ≡ Digit → ⊥)
    → by_class (left p d is ns w) b k ≡ behind_name p d is (ns ++ w ∷ []) b k
left_by p d is ns w b Letter h l = absurd (h refl)
left_by p d is ns w b Digit h l = absurd (l refl)
left_by p d is ns w b Dot h l = refl
left_by p d is ns w b Opening h l = refl
left_by p d is ns w b Closing h l = refl
left_by p d is ns w b Comma h l = refl
left_by p d is ns w b Space h l = refl
left_by p d is ns w b Minus h l = refl
left_by p d is ns w b Star h l = refl
left_by p d is ns w b Quote h l = refl
left_by p d is ns w b Backslash h l = refl
left_by p d is ns w b Colon h l = refl
left_by p d is ns w b AtSign h l = refl
left_by p d is ns w b EqualSign h l = refl
left_by p d is ns w b Bang h l = refl
left_by p d is ns w b Below h l = refl
left_by p d is ns w b Above h l = refl
left_by p d is ns w b Other h l = refl

left_ends : (t : List ℕ) (p : Path) (d : Bool) (is : List Item) (ns : List (List ℕ)) (w : List ℕ) → (next_class t ≡ Letter → ⊥) → (next_class t ≡ Digit → ⊥)
    → reading t (left p d is ns w) ≡ after_name t p d is (ns ++ w ∷ [])
left_ends [] p d is ns w h l = refl
left_ends (b ∷ t) p d is ns w h l = ap (go_on (reading t) (b ∷ t)) (left_by p d is ns w b (class b) h l)

pub name_read : (s0 : State) (p : Path) (d : Bool) (is : List Item) (ns : List (List ℕ)) (n old new : List ℕ) → ((b : ℕ) → by_class s0 b Letter ≡ Some (left p d is ns (b ∷ [])))
    → IsNameRead n old new → reading old s0 ≡ after_name new p d is (ns ++ n ∷ [])
name_read s0 p d is ns n old new h r =
    ap (λ t. reading t s0) r.0 ∙ runs n new s0 (left p d is ns n) (left_run s0 p d is ns h r.1) ∙ left_ends new p d is ns n r.2 r.3

pub dot_read : (p : Path) (d : Bool) (is : List Item) (ns : List (List ℕ)) (b : ℕ) (old new : List ℕ) → Took Dot b old new → after_name old p d is ns ≡ reading new (left_dot p d is ns)
dot_read p d is ns b old new h = ap (λ t. after_name t p d is ns) h.0 ∙ ap (λ k. go_on (reading new) (b ∷ new) (behind_name p d is ns b k)) h.1

done_by : (p : Path) (d : Bool) (is : List Item) (ns : List (List ℕ)) (b : ℕ) (k : Class) → (k ≡ Dot → ⊥) → behind_name p d is ns b k ≡ by_class (left_done p d is ns) b k
done_by p d is ns b Dot h = absurd (h refl)
done_by p d is ns b Letter h = refl
done_by p d is ns b Digit h = refl
done_by p d is ns b Opening h = refl
done_by p d is ns b Closing h = refl
done_by p d is ns b Comma h = refl
done_by p d is ns b Space h = refl
done_by p d is ns b Minus h = refl
done_by p d is ns b Star h = refl
done_by p d is ns b Quote h = refl
done_by p d is ns b Backslash h = refl
done_by p d is ns b Colon h = refl
done_by p d is ns b AtSign h = refl
done_by p d is ns b EqualSign h = refl
done_by p d is ns b Bang h = refl
done_by p d is ns b Below h = refl
done_by p d is ns b Above h = refl
done_by p d is ns b Other h = refl

pub names_end : (t : List ℕ) (p : Path) (d : Bool) (is : List Item) (ns : List (List ℕ)) → (next_class t ≡ Dot → ⊥) → after_name t p d is ns ≡ reading t (left_done p d is ns)
names_end [] p d is ns h = refl
names_end (b ∷ t) p d is ns h = ap (go_on (reading t) (b ∷ t)) (done_by p d is ns b (class b) h)

no_name_by : (p : Path) (d : Bool) (is : List Item) (ns : List (List ℕ)) (b : ℕ) (k : Class) → (k ≡ Letter → ⊥) → by_class (left_dot p d is ns) b k ≡ None
no_name_by p d is ns b Letter h0 = absurd (h0 refl)
no_name_by p d is ns b Digit h0 = refl
no_name_by p d is ns b Dot h0 = refl
no_name_by p d is ns b Opening h0 = refl
no_name_by p d is ns b Closing h0 = refl
no_name_by p d is ns b Comma h0 = refl
no_name_by p d is ns b Space h0 = refl
no_name_by p d is ns b Minus h0 = refl
no_name_by p d is ns b Star h0 = refl
no_name_by p d is ns b Quote h0 = refl
no_name_by p d is ns b Backslash h0 = refl
no_name_by p d is ns b Colon h0 = refl
no_name_by p d is ns b AtSign h0 = refl
no_name_by p d is ns b EqualSign h0 = refl
no_name_by p d is ns b Bang h0 = refl
no_name_by p d is ns b Below h0 = refl
no_name_by p d is ns b Above h0 = refl
no_name_by p d is ns b Other h0 = refl

pub no_name : (p : Path) (d : Bool) (is : List Item) (ns : List (List ℕ)) (t : List ℕ) → (next_class t ≡ Letter → ⊥) → reading t (left_dot p d is ns) ≡ cut t
no_name p d is ns t h = stops t (left_dot p d is ns) refl (λ b. no_name_by p d is ns b (next_class t) h)

-- constants
no_constant_by : (p : Path) (d : Bool) (is : List Item) (ns : List (List ℕ)) (c : Comparison) (b : ℕ) (k : Class) → (k ≡ Space → ⊥) → (k ≡ Minus → ⊥) → (k ≡ Digit → ⊥) → (k ≡ Quote → ⊥) → (k ≡ Letter → ⊥) → by_class (literal p d is ns c) b k ≡ None
no_constant_by p d is ns c b Space h0 h1 h2 h3 h4 = absurd (h0 refl)
no_constant_by p d is ns c b Minus h0 h1 h2 h3 h4 = absurd (h1 refl)
no_constant_by p d is ns c b Digit h0 h1 h2 h3 h4 = absurd (h2 refl)
no_constant_by p d is ns c b Quote h0 h1 h2 h3 h4 = absurd (h3 refl)
no_constant_by p d is ns c b Letter h0 h1 h2 h3 h4 = absurd (h4 refl)
no_constant_by p d is ns c b Dot h0 h1 h2 h3 h4 = refl
no_constant_by p d is ns c b Opening h0 h1 h2 h3 h4 = refl
no_constant_by p d is ns c b Closing h0 h1 h2 h3 h4 = refl
no_constant_by p d is ns c b Comma h0 h1 h2 h3 h4 = refl
no_constant_by p d is ns c b Star h0 h1 h2 h3 h4 = refl
no_constant_by p d is ns c b Backslash h0 h1 h2 h3 h4 = refl
no_constant_by p d is ns c b Colon h0 h1 h2 h3 h4 = refl
no_constant_by p d is ns c b AtSign h0 h1 h2 h3 h4 = refl
no_constant_by p d is ns c b EqualSign h0 h1 h2 h3 h4 = refl
no_constant_by p d is ns c b Bang h0 h1 h2 h3 h4 = refl
no_constant_by p d is ns c b Below h0 h1 h2 h3 h4 = refl
no_constant_by p d is ns c b Above h0 h1 h2 h3 h4 = refl
no_constant_by p d is ns c b Other h0 h1 h2 h3 h4 = refl

pub no_constant : (p : Path) (d : Bool) (is : List Item) (ns : List (List ℕ)) (c : Comparison) (t : List ℕ) → (next_class t ≡ Space → ⊥) → (next_class t ≡ Minus → ⊥) → (next_class t ≡ Digit → ⊥)
    → (next_class t ≡ Quote → ⊥) → (next_class t ≡ Letter → ⊥) → reading t (literal p d is ns c) ≡ cut t
no_constant p d is ns c t h0 h1 h2 h3 h4 = stops t (literal p d is ns c) refl (λ b. no_constant_by p d is ns c b (next_class t) h0 h1 h2 h3 h4)

pub constant_number : (o : Option ℤ) (n : ℤ) (p : Path) (d : Bool) (is : List Item) (ns : List (List ℕ)) (c : Comparison) (old new : List ℕ) → o ≡ Some n → IsIntRead o p d is (constant ns c) old new
    → reading old (literal p d is ns c) ≡ reading new (after p d (is ++ meets ns c (integer n) ∷ []))
constant_number o n p d is ns c old new e h = subst (λ x. IsIntRead x p d is (constant ns c) old new) e h ∙ int_ends_constant new p d is ns c n

pub front_number : (o : Option ℤ) (n : ℤ) (p : Path) (d : Bool) (is : List Item) (old new : List ℕ) → o ≡ Some n → IsIntRead o p d is front old new
    → reading old (before p d is) ≡ after_int new p d is front n
front_number o n p d is old new e h = subst (λ x. IsIntRead x p d is front old new) e h

pub tree-Num : (n : ℤ) → tree (val.Num n) ≡ integer n
tree-Num n = search (rules, the_lemmas)

pub tree-Text : (s : List ℕ) → tree (val.Text s) ≡ text s
tree-Text s = search (rules, the_lemmas)

-- where no integer is read
pub no_int : (o : Option ℤ) (p : Path) (d : Bool) (is : List Item) (g : Slot) (old new : List ℕ) → o ≡ None → IsIntRead o p d is g old new → Missed Minus old new × Missed Digit old new
no_int o p d is g old new e h = subst (λ x. IsIntRead x p d is g old new) e h

-- items
no_item_by : (p : Path) (d : Bool) (is : List Item) (b : ℕ) (k : Class) → (k ≡ Space → ⊥) → (k ≡ Minus → ⊥) → (k ≡ Digit → ⊥) → (k ≡ Star → ⊥) → (k ≡ Quote → ⊥) → (k ≡ Colon → ⊥) → (k ≡ Letter → ⊥) → (k ≡ AtSign → ⊥) → by_class (before p d is) b k ≡ None
no_item_by p d is b Space h0 h1 h2 h3 h4 h5 h6 h7 = absurd (h0 refl)
no_item_by p d is b Minus h0 h1 h2 h3 h4 h5 h6 h7 = absurd (h1 refl)
no_item_by p d is b Digit h0 h1 h2 h3 h4 h5 h6 h7 = absurd (h2 refl)
no_item_by p d is b Star h0 h1 h2 h3 h4 h5 h6 h7 = absurd (h3 refl)
no_item_by p d is b Quote h0 h1 h2 h3 h4 h5 h6 h7 = absurd (h4 refl)
no_item_by p d is b Colon h0 h1 h2 h3 h4 h5 h6 h7 = absurd (h5 refl)
no_item_by p d is b Letter h0 h1 h2 h3 h4 h5 h6 h7 = absurd (h6 refl)
no_item_by p d is b AtSign h0 h1 h2 h3 h4 h5 h6 h7 = absurd (h7 refl)
no_item_by p d is b Dot h0 h1 h2 h3 h4 h5 h6 h7 = refl
no_item_by p d is b Opening h0 h1 h2 h3 h4 h5 h6 h7 = refl
no_item_by p d is b Closing h0 h1 h2 h3 h4 h5 h6 h7 = refl
no_item_by p d is b Comma h0 h1 h2 h3 h4 h5 h6 h7 = refl
no_item_by p d is b Backslash h0 h1 h2 h3 h4 h5 h6 h7 = refl
no_item_by p d is b EqualSign h0 h1 h2 h3 h4 h5 h6 h7 = refl
no_item_by p d is b Bang h0 h1 h2 h3 h4 h5 h6 h7 = refl
no_item_by p d is b Below h0 h1 h2 h3 h4 h5 h6 h7 = refl
no_item_by p d is b Above h0 h1 h2 h3 h4 h5 h6 h7 = refl
no_item_by p d is b Other h0 h1 h2 h3 h4 h5 h6 h7 = refl

pub no_item : (p : Path) (d : Bool) (is : List Item) (t : List ℕ) → (next_class t ≡ Space → ⊥) → (next_class t ≡ Minus → ⊥) → (next_class t ≡ Digit → ⊥) → (next_class t ≡ Star → ⊥)
    → (next_class t ≡ Quote → ⊥) → (next_class t ≡ Colon → ⊥) → (next_class t ≡ Letter → ⊥) → (next_class t ≡ AtSign → ⊥) → reading t (before p d is) ≡ cut t
no_item p d is t h0 h1 h2 h3 h4 h5 h6 h7 = stops t (before p d is) refl (λ b. no_item_by p d is b (next_class t) h0 h1 h2 h3 h4 h5 h6 h7)

not_behind_by : (p : Path) (d : Bool) (is : List Item) (b : ℕ) (k : Class) → (k ≡ Space → ⊥) → (k ≡ Comma → ⊥) → (k ≡ Closing → ⊥) → by_class (after p d is) b k ≡ None
not_behind_by p d is b Space h0 h1 h2 = absurd (h0 refl)
not_behind_by p d is b Comma h0 h1 h2 = absurd (h1 refl)
not_behind_by p d is b Closing h0 h1 h2 = absurd (h2 refl)
not_behind_by p d is b Letter h0 h1 h2 = refl
not_behind_by p d is b Digit h0 h1 h2 = refl
not_behind_by p d is b Dot h0 h1 h2 = refl
not_behind_by p d is b Opening h0 h1 h2 = refl
not_behind_by p d is b Minus h0 h1 h2 = refl
not_behind_by p d is b Star h0 h1 h2 = refl
not_behind_by p d is b Quote h0 h1 h2 = refl
not_behind_by p d is b Backslash h0 h1 h2 = refl
not_behind_by p d is b Colon h0 h1 h2 = refl
not_behind_by p d is b AtSign h0 h1 h2 = refl
not_behind_by p d is b EqualSign h0 h1 h2 = refl
not_behind_by p d is b Bang h0 h1 h2 = refl
not_behind_by p d is b Below h0 h1 h2 = refl
not_behind_by p d is b Above h0 h1 h2 = refl
not_behind_by p d is b Other h0 h1 h2 = refl

pub not_behind : (p : Path) (d : Bool) (is : List Item) (t : List ℕ) → (next_class t ≡ Space → ⊥) → (next_class t ≡ Comma → ⊥) → (next_class t ≡ Closing → ⊥) → reading t (after p d is) ≡ cut t
not_behind p d is t h0 h1 h2 = stops t (after p d is) refl (λ b. not_behind_by p d is b (next_class t) h0 h1 h2)

-- steps
word_by : (p : Path) (d : Bool) (w : List ℕ) (b : ℕ) (k : Class) → (k ≡ Letter → ⊥) → (k ≡ Digit → ⊥) → by_class (word p d w) b k ≡ by_class (done (more p d (named w ∷ []))) b k
word_by p d w b Letter h l = absurd (h refl)
word_by p d w b Digit h l = absurd (l refl)
word_by p d w b Dot h l = refl
word_by p d w b Opening h l = refl
word_by p d w b Closing h l = refl
word_by p d w b Comma h l = refl
word_by p d w b Space h l = refl
word_by p d w b Minus h l = refl
word_by p d w b Star h l = refl
word_by p d w b Quote h l = refl
word_by p d w b Backslash h l = refl
word_by p d w b Colon h l = refl
word_by p d w b AtSign h l = refl
word_by p d w b EqualSign h l = refl
word_by p d w b Bang h l = refl
word_by p d w b Below h l = refl
word_by p d w b Above h l = refl
word_by p d w b Other h l = refl

pub step_name : (s0 : State) (p : Path) (d : Bool) (n old new : List ℕ) → TakesName s0 p d → IsNameRead n old new → reading old s0 ≡ reading new (done (more p d (named n ∷ [])))
step_name s0 p d n old new h r =
    ap (λ t. reading t s0) r.0
    ∙ runs n new s0 (word p d n) (name_run s0 p d (λ b k. ap (λ c. by_class s0 b c) k ∙ h b) r.1)
    ∙ alike new (word p d n) (done (more p d (named n ∷ []))) refl (λ b. word_by p d n b (next_class new) r.2 r.3)

no_deep_by : (p : Path) (b : ℕ) (k : Class) → (k ≡ Letter → ⊥) → (k ≡ Opening → ⊥) → by_class (two_dots p) b k ≡ None
no_deep_by p b Letter h0 h1 = absurd (h0 refl)
no_deep_by p b Opening h0 h1 = absurd (h1 refl)
no_deep_by p b Digit h0 h1 = refl
no_deep_by p b Dot h0 h1 = refl
no_deep_by p b Closing h0 h1 = refl
no_deep_by p b Comma h0 h1 = refl
no_deep_by p b Space h0 h1 = refl
no_deep_by p b Minus h0 h1 = refl
no_deep_by p b Star h0 h1 = refl
no_deep_by p b Quote h0 h1 = refl
no_deep_by p b Backslash h0 h1 = refl
no_deep_by p b Colon h0 h1 = refl
no_deep_by p b AtSign h0 h1 = refl
no_deep_by p b EqualSign h0 h1 = refl
no_deep_by p b Bang h0 h1 = refl
no_deep_by p b Below h0 h1 = refl
no_deep_by p b Above h0 h1 = refl
no_deep_by p b Other h0 h1 = refl

no_dotted_by : (p : Path) (b : ℕ) (k : Class) → (k ≡ Letter → ⊥) → (k ≡ Dot → ⊥) → by_class (one_dot p) b k ≡ None
no_dotted_by p b Letter h0 h1 = absurd (h0 refl)
no_dotted_by p b Dot h0 h1 = absurd (h1 refl)
no_dotted_by p b Digit h0 h1 = refl
no_dotted_by p b Opening h0 h1 = refl
no_dotted_by p b Closing h0 h1 = refl
no_dotted_by p b Comma h0 h1 = refl
no_dotted_by p b Space h0 h1 = refl
no_dotted_by p b Minus h0 h1 = refl
no_dotted_by p b Star h0 h1 = refl
no_dotted_by p b Quote h0 h1 = refl
no_dotted_by p b Backslash h0 h1 = refl
no_dotted_by p b Colon h0 h1 = refl
no_dotted_by p b AtSign h0 h1 = refl
no_dotted_by p b EqualSign h0 h1 = refl
no_dotted_by p b Bang h0 h1 = refl
no_dotted_by p b Below h0 h1 = refl
no_dotted_by p b Above h0 h1 = refl
no_dotted_by p b Other h0 h1 = refl

no_next_by : (p : Path) (b : ℕ) (k : Class) → (k ≡ Dot → ⊥) → (k ≡ Opening → ⊥) → by_class (done p) b k ≡ None
no_next_by p b Dot h0 h1 = absurd (h0 refl)
no_next_by p b Opening h0 h1 = absurd (h1 refl)
no_next_by p b Letter h0 h1 = refl
no_next_by p b Digit h0 h1 = refl
no_next_by p b Closing h0 h1 = refl
no_next_by p b Comma h0 h1 = refl
no_next_by p b Space h0 h1 = refl
no_next_by p b Minus h0 h1 = refl
no_next_by p b Star h0 h1 = refl
no_next_by p b Quote h0 h1 = refl
no_next_by p b Backslash h0 h1 = refl
no_next_by p b Colon h0 h1 = refl
no_next_by p b AtSign h0 h1 = refl
no_next_by p b EqualSign h0 h1 = refl
no_next_by p b Bang h0 h1 = refl
no_next_by p b Below h0 h1 = refl
no_next_by p b Above h0 h1 = refl
no_next_by p b Other h0 h1 = refl

no_first_by : (b : ℕ) (k : Class) → (k ≡ Letter → ⊥) → (k ≡ Opening → ⊥) → (k ≡ Dot → ⊥) → by_class (start) b k ≡ None
no_first_by b Letter h0 h1 h2 = absurd (h0 refl)
no_first_by b Opening h0 h1 h2 = absurd (h1 refl)
no_first_by b Dot h0 h1 h2 = absurd (h2 refl)
no_first_by b Digit h0 h1 h2 = refl
no_first_by b Closing h0 h1 h2 = refl
no_first_by b Comma h0 h1 h2 = refl
no_first_by b Space h0 h1 h2 = refl
no_first_by b Minus h0 h1 h2 = refl
no_first_by b Star h0 h1 h2 = refl
no_first_by b Quote h0 h1 h2 = refl
no_first_by b Backslash h0 h1 h2 = refl
no_first_by b Colon h0 h1 h2 = refl
no_first_by b AtSign h0 h1 h2 = refl
no_first_by b EqualSign h0 h1 h2 = refl
no_first_by b Bang h0 h1 h2 = refl
no_first_by b Below h0 h1 h2 = refl
no_first_by b Above h0 h1 h2 = refl
no_first_by b Other h0 h1 h2 = refl

no_second_dot_by : (b : ℕ) (k : Class) → (k ≡ Dot → ⊥) → by_class (first_dot) b k ≡ None
no_second_dot_by b Dot h0 = absurd (h0 refl)
no_second_dot_by b Letter h0 = refl
no_second_dot_by b Digit h0 = refl
no_second_dot_by b Opening h0 = refl
no_second_dot_by b Closing h0 = refl
no_second_dot_by b Comma h0 = refl
no_second_dot_by b Space h0 = refl
no_second_dot_by b Minus h0 = refl
no_second_dot_by b Star h0 = refl
no_second_dot_by b Quote h0 = refl
no_second_dot_by b Backslash h0 = refl
no_second_dot_by b Colon h0 = refl
no_second_dot_by b AtSign h0 = refl
no_second_dot_by b EqualSign h0 = refl
no_second_dot_by b Bang h0 = refl
no_second_dot_by b Below h0 = refl
no_second_dot_by b Above h0 = refl
no_second_dot_by b Other h0 = refl

pub no_deep : (p : Path) (t : List ℕ) → (next_class t ≡ Letter → ⊥) → (next_class t ≡ Opening → ⊥) → reading t (two_dots p) ≡ cut t
no_deep p t h l = stops t (two_dots p) refl (λ b. no_deep_by p b (next_class t) h l)

pub no_dotted : (p : Path) (t : List ℕ) → (next_class t ≡ Letter → ⊥) → (next_class t ≡ Dot → ⊥) → reading t (one_dot p) ≡ cut t
no_dotted p t h l = stops t (one_dot p) refl (λ b. no_dotted_by p b (next_class t) h l)

pub no_next : (p : Path) (t : List ℕ) → 0 < length t → (next_class t ≡ Dot → ⊥) → (next_class t ≡ Opening → ⊥) → reading t (done p) ≡ cut t
no_next p [] some h l = absurd (omega arith)
no_next p (b ∷ t) some h l = ap (go_on (reading t) (b ∷ t)) (no_next_by p b (class b) h l)

pub no_first : (t : List ℕ) → (next_class t ≡ Letter → ⊥) → (next_class t ≡ Opening → ⊥) → (next_class t ≡ Dot → ⊥) → reading t start ≡ cut t
no_first t h l m = stops t start refl (λ b. no_first_by b (next_class t) h l m)

pub no_second_dot : (t : List ℕ) → (next_class t ≡ Dot → ⊥) → reading t first_dot ≡ cut t
no_second_dot t h = stops t first_dot refl (λ b. no_second_dot_by b (next_class t) h)
