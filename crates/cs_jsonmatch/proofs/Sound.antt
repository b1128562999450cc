-- What is read as a path spells it.
use Rattle.std.proofs.Common.{◌≡◌, ◌⊎◌, inl, inr, ℕ, ◌<◌, length, List, [], ◌∷◌, ◌++◌, Bool, true, false, cond, nat_eq, nat_lt, Option, Some, None, option_and_then, ℤ, refl, ap, ◌∙◌, subst, arith, append_assoc}
use Rattle.std.proofs.lemmas.Bool.Decides.{nat_tests}
use Rattle.std.proofs.lemmas.List.{append-nil}
use Rattle.cs_value.specs.Tree.{Tree, null, boolean}
use Rattle.cs_jsonmatch.specs.Path.{Item, range, every, named, meets, Path}
use Rattle.cs_jsonmatch.specs.declared.path.Comparison.{Comparison}
use Rattle.cs_jsonmatch.specs.declared.class.Class.{Class}
use Rattle.cs_jsonmatch.specs.declared.class.Class.TheVariants.{Letter, Digit, Dot, Opening, Closing, Comma, Space, Minus, Star, Quote, Backslash, Colon, AtSign, EqualSign, Bang, Below, Above, Other}
use Rattle.cs_jsonmatch.specs.Grammar.{class, whole, written, IsName, first_letter, more_letter, more_digit, AreDigits, first_digit, next_digit, IsInside, nothing, byte, escaped, IsInt, int, IsEnd, no_end, some_end, IsQuoted, quotes, AreNames, one_name, more_names, IsSubject, itself, names, space_past, IsOp, op_equals, op_differs, op_less, op_at_most, op_greater, op_at_least, IsCompared, compared, space_on, IsWord, is_true, is_false, is_null, IsItem, single, span, all, texts, test_int, test_text, test_word, Awaits, at_first, space_before, after_comma, AreItems, item, space_after, IsBracket, bracket, IsPath, first_name, first_bracket, first_deep_name, first_deep_bracket, next_name, next_bracket, next_deep_name, next_deep_bracket}
use Rattle.cs_jsonmatch.specs.Machine.{Slot, front, second, constant, int_item, text_item, State, start, first_dot, one_dot, two_dots, word, before, sign, digits, quoted, escape, to, left, left_dot, left_done, half, angle, literal, letters, after, done, more, close, close_or_digit, colon_behind, by_operator, by_literal, by_letters, next_letter, by_class, taken, run, accept}

-- the byte of each class that has one
dot_byte : (b : ℕ) → class b ≡ Dot → b ≡ 46
dot_byte b h = grind (arith, nat_tests)

opening_byte : (b : ℕ) → class b ≡ Opening → b ≡ 91
opening_byte b h = grind (arith, nat_tests)

closing_byte : (b : ℕ) → class b ≡ Closing → b ≡ 93
closing_byte b h = grind (arith, nat_tests)

comma_byte : (b : ℕ) → class b ≡ Comma → b ≡ 44
comma_byte b h = grind (arith, nat_tests)

space_byte : (b : ℕ) → class b ≡ Space → b ≡ 32
space_byte b h = grind (arith, nat_tests)

minus_byte : (b : ℕ) → class b ≡ Minus → b ≡ 45
minus_byte b h = grind (arith, nat_tests)

star_byte : (b : ℕ) → class b ≡ Star → b ≡ 42
star_byte b h = grind (arith, nat_tests)

backslash_byte : (b : ℕ) → class b ≡ Backslash → b ≡ 92
backslash_byte b h = grind (arith, nat_tests)

colon_byte : (b : ℕ) → class b ≡ Colon → b ≡ 58
colon_byte b h = grind (arith, nat_tests)

at_sign_byte : (b : ℕ) → class b ≡ AtSign → b ≡ 64
at_sign_byte b h = grind (arith, nat_tests)

equal_byte : (b : ℕ) → class b ≡ EqualSign → b ≡ 61
equal_byte b h = grind (arith, nat_tests)

bang_byte : (b : ℕ) → class b ≡ Bang → b ≡ 33
bang_byte b h = grind (arith, nat_tests)

below_byte : (b : ℕ) → class b ≡ Below → b ≡ 60
below_byte b h = grind (arith, nat_tests)

above_byte : (b : ℕ) → class b ≡ Above → b ≡ 62
above_byte b h = grind (arith, nat_tests)

-- what may be read next: any name, or any bracket, as the next step
abbrev pub TakesName : List ℕ → Path → Bool → Type 0
TakesName u p d = (w : List ℕ) → IsName w → IsPath (u ++ w) (more p d (named w ∷ []))

abbrev pub TakesBracket : List ℕ → Path → Bool → Type 0
TakesBracket u p d = (w : List ℕ) (is : List Item) → IsBracket w is → IsPath (u ++ w) (more p d is)

-- u is v, an opening bracket and x, and a bracket may follow on v
pub record Inside (u : List ℕ) (p : Path) (d : Bool) (x : List ℕ) : Type 0 where
  pub v : List ℕ
  pub is : u ≡ v ++ 91 ∷ x
  pub takes : TakesBracket v p d

pub record Dotted (u : List ℕ) (p : Path) : Type 0 where
  pub v : List ℕ
  pub is : u ≡ v ++ 46 ∷ []
  pub path : IsPath v p

pub record Worded (u : List ℕ) (p : Path) (d : Bool) (w : List ℕ) : Type 0 where
  pub v : List ℕ
  pub is : u ≡ v ++ w
  pub takes : TakesName v p d
  pub name : IsName w

-- an item of which y has been read, behind the items `is`
pub record InItem (u : List ℕ) (p : Path) (d : Bool) (is : List Item) (y : List ℕ) : Type 0 where
  pub x : List ℕ
  pub inside : Inside u p d (x ++ y)
  pub awaits : Awaits x is

-- what stands in the item before an integer, and before a quoted text
abbrev pub IntBegins : Slot → List ℕ → Type 0
IntBegins front y = y ≡ []
IntBegins (second a) y = (v : List ℕ) × (y ≡ v ++ 58 ∷ []) × IsEnd v a
IntBegins (constant ns c) y = IsCompared y ns c

abbrev pub TextBegins : Slot → List ℕ → Type 0
TextBegins front y = y ≡ []
TextBegins (second a) y = ⊥
TextBegins (constant ns c) y = IsCompared y ns c

abbrev pub TakesNames : List ℕ → List (List ℕ) → Type 0
TakesNames v ns = (w : List ℕ) → IsName w → AreNames (v ++ w) (ns ++ w ∷ [])

-- what the bytes read so far are, at each state
abbrev pub Reached : List ℕ → State → Type 0
Reached u start = u ≡ []
Reached u first_dot = u ≡ 46 ∷ []
Reached u (one_dot p) = Dotted u p
Reached u (two_dots p) = TakesName u p true × TakesBracket u p true
Reached u (word p d w) = Worded u p d w
Reached u (before p d is) = (x : List ℕ) × Inside u p d x × Awaits x is
Reached u (sign p d is g) = (y : List ℕ) × InItem u p d is (y ++ 45 ∷ []) × IntBegins g y
Reached u (digits p d is g neg w) = (y : List ℕ) × InItem u p d is (y ++ written neg w) × IntBegins g y × AreDigits w
Reached u (quoted p d is g q s) = (y : List ℕ) × (w : List ℕ) × InItem u p d is (y ++ q ∷ w) × TextBegins g y × (class q ≡ Quote) × IsInside q w s
Reached u (escape p d is g q s) = (y : List ℕ) × (w : List ℕ) × InItem u p d is (y ++ q ∷ (w ++ 92 ∷ [])) × TextBegins g y × (class q ≡ Quote) × IsInside q w s
Reached u (to p d is a) = (y : List ℕ) × InItem u p d is y × IntBegins (second a) y
Reached u (left p d is ns w) = (v : List ℕ) × InItem u p d is (v ++ w) × IsName w × TakesNames v ns
Reached u (left_dot p d is ns) = (v : List ℕ) × InItem u p d is v × TakesNames v ns
Reached u (left_done p d is ns) = (y : List ℕ) × InItem u p d is y × IsSubject y ns
Reached u (half p d is ns c) = (y : List ℕ) × (o : ℕ) × InItem u p d is (y ++ o ∷ []) × IsSubject y ns × IsOp (o ∷ 61 ∷ []) c
Reached u (angle p d is ns c1 c2) = (y : List ℕ) × (o : ℕ) × InItem u p d is (y ++ o ∷ []) × IsSubject y ns × IsOp (o ∷ []) c1 × IsOp (o ∷ 61 ∷ []) c2
Reached u (literal p d is ns c) = (y : List ℕ) × InItem u p d is y × IsCompared y ns c
Reached u (letters p d is ns c t r) = (y : List ℕ) × (w : List ℕ) × InItem u p d is (y ++ w) × IsCompared y ns c × IsWord (w ++ r) t × (0 < length r)
Reached u (after p d is) = (x : List ℕ) × Inside u p d x × AreItems x is
Reached u (done p) = IsPath u p

abbrev pub IfReached : List ℕ → Option State → Type 0
IfReached u None = Unit {0}
IfReached u (Some s) = Reached u s

inside_more : (u x : List ℕ) (p : Path) (d : Bool) (b : ℕ) → Inside u p d x → Inside (u ++ b ∷ []) p d (x ++ b ∷ [])
inside_more u x p d b k = record { v = k.v; is = ap (λ z. z ++ b ∷ []) k.is ∙ append_assoc k.v (91 ∷ x) (b ∷ []); takes = k.takes }

inside_at : (u x y : List ℕ) (p : Path) (d : Bool) → x ≡ y → Inside u p d x → Inside u p d y
inside_at u x y p d e k = record { v = k.v; is = k.is ∙ ap (λ z. k.v ++ 91 ∷ z) e; takes = k.takes }

opened : (u : List ℕ) (p : Path) (d : Bool) (b : ℕ) → class b ≡ Opening → TakesBracket u p d → Inside (u ++ b ∷ []) p d []
opened u p d b k t = record { v = u; is = ap (λ c. u ++ c ∷ []) (opening_byte b k); takes = t }

closed : (u x : List ℕ) (p : Path) (d : Bool) (is : List Item) (b : ℕ) → class b ≡ Closing → Inside u p d x → AreItems x is → IsPath (u ++ b ∷ []) (more p d is)
closed u x p d is b k i a =
    rw (i.is, closing_byte b k, append_assoc i.v (91 ∷ x) (93 ∷ [])) (i.takes ((91 ∷ x) ++ 93 ∷ []) is (bracket x is a))

-- behind the items x
behind : (u x : List ℕ) (p : Path) (d : Bool) (is : List Item) (b : ℕ) (c : Class) → class b ≡ c → Inside u p d x → AreItems x is → IfReached (u ++ b ∷ []) (close p d is c)
behind u x p d is b Space k i a = (x ++ b ∷ [], inside_more u x p d b i, rw (space_byte b k) (space_after x is a))
behind u x p d is b Comma k i a = (x ++ b ∷ [], inside_more u x p d b i, rw (comma_byte b k) (after_comma x is a))
behind u x p d is b Closing k i a = closed u x p d is b k i a
behind u x p d is b Letter k i a = tt
behind u x p d is b Digit k i a = tt
behind u x p d is b Dot k i a = tt
behind u x p d is b Opening k i a = tt
behind u x p d is b Minus k i a = tt
behind u x p d is b Star k i a = tt
behind u x p d is b Quote k i a = tt
behind u x p d is b Backslash k i a = tt
behind u x p d is b Colon k i a = tt
behind u x p d is b AtSign k i a = tt
behind u x p d is b EqualSign k i a = tt
behind u x p d is b Bang k i a = tt
behind u x p d is b Below k i a = tt
behind u x p d is b Above k i a = tt
behind u x p d is b Other k i a = tt

in_more : (u y : List ℕ) (p : Path) (d : Bool) (is : List Item) (b : ℕ) → InItem u p d is y → InItem (u ++ b ∷ []) p d is (y ++ b ∷ [])
in_more u y p d is b r = record { x = r.x; inside = inside_at (u ++ b ∷ []) _ _ p d (append_assoc r.x y (b ∷ [])) (inside_more u (r.x ++ y) p d b r.inside); awaits = r.awaits }

in_at : (u y z : List ℕ) (p : Path) (d : Bool) (is : List Item) → y ≡ z → InItem u p d is y → InItem u p d is z
in_at u y z p d is e r = record { x = r.x; inside = inside_at u _ _ p d (ap (λ k. r.x ++ k) e) r.inside; awaits = r.awaits }

-- the first byte of an item
in_first : (u x : List ℕ) (p : Path) (d : Bool) (is : List Item) (b : ℕ) → Inside u p d x → Awaits x is → InItem (u ++ b ∷ []) p d is (b ∷ [])
in_first u x p d is b i a = record { x = x; inside = inside_more u x p d b i; awaits = a }

-- behind an item
behind_item : (u y : List ℕ) (p : Path) (d : Bool) (is : List Item) (t : Item) (b : ℕ) (c : Class) → class b ≡ c → InItem u p d is y → IsItem y t → IfReached (u ++ b ∷ []) (close p d (is ++ t ∷ []) c)
behind_item u y p d is t b c k r i = behind u (r.x ++ y) p d (is ++ t ∷ []) b c k r.inside (item r.x y is t r.awaits i)

int_of : (g : Slot) (y w : List ℕ) (n : ℤ) → IntBegins g y → IsInt w n → IsItem (y ++ w) (int_item g n)
int_of front y w n r i = rw r (single w n i)
int_of (second a) y w n r i = rw (r.1) (span r.0 w a (Some n) r.2 (some_end w n i))
int_of (constant ns c) y w n r i = test_int y w ns c n r i

text_of : (g : Slot) (y w s : List ℕ) → TextBegins g y → IsQuoted w s → IsItem (y ++ w) (text_item g s)
text_of front y w s r i = rw r (texts w s i)
text_of (second a) y w s r i = absurd r
text_of (constant ns c) y w s r i = test_text y w s ns c r i

few : (n : ℕ) → nat_lt n 18 ≡ true → n < 18
few n h = grind (arith, nat_tests)

written-more : (neg : Bool) (w : List ℕ) (b : ℕ) → written neg w ++ b ∷ [] ≡ written neg (w ++ b ∷ [])
written-more true w b = refl
written-more false w b = refl

one_more_digit : (u y w : List ℕ) (p : Path) (d : Bool) (is : List Item) (g : Slot) (neg : Bool) (b : ℕ) → class b ≡ Digit → InItem u p d is (y ++ written neg w) → IntBegins g y → AreDigits w
    → (t : Bool) → nat_lt (length w) 18 ≡ t → IfReached (u ++ b ∷ []) (cond t (Some (digits p d is g neg (w ++ b ∷ []))) None)
one_more_digit u y w p d is g neg b k i a n true h = (
  y,
  in_at (u ++ b ∷ []) _ _ p d is (append_assoc y (written neg w) (b ∷ []) ∙ ap (λ z. y ++ z) (written-more neg w b)) (in_more u (y ++ written neg w) p d is b i),
  a,
  next_digit w b n k (few (length w) h),
)
one_more_digit u y w p d is g neg b k i a n false h = tt

behind_colon : (u y w : List ℕ) (p : Path) (d : Bool) (is : List Item) (g : Slot) (neg : Bool) (b : ℕ) → class b ≡ Colon → InItem u p d is (y ++ written neg w) → IntBegins g y → AreDigits w
    → IfReached (u ++ b ∷ []) (colon_behind p d is g (whole neg w))
behind_colon u y w p d is front neg b k i a n = (
  written neg w ++ b ∷ [],
  in_at (u ++ b ∷ []) _ _ p d is (ap (λ z. (z ++ written neg w) ++ b ∷ []) a) (in_more u (y ++ written neg w) p d is b i),
  (written neg w, ap (λ c. written neg w ++ c ∷ []) (colon_byte b k), some_end (written neg w) (whole neg w) (int neg w n)),
)
behind_colon u y w p d is (second e) neg b k i a n = tt
behind_colon u y w p d is (constant ns c) neg b k i a n = tt

behind_digits : (u y w : List ℕ) (p : Path) (d : Bool) (is : List Item) (g : Slot) (neg : Bool) (b : ℕ) (c : Class) → class b ≡ c → InItem u p d is (y ++ written neg w) → IntBegins g y → AreDigits w
    → IfReached (u ++ b ∷ []) (close_or_digit p d is g neg w b c)
behind_digits u y w p d is g neg b Digit k i a n = one_more_digit u y w p d is g neg b k i a n (nat_lt (length w) 18) refl
behind_digits u y w p d is g neg b Colon k i a n = behind_colon u y w p d is g neg b k i a n
behind_digits u y w p d is g neg b Space k i a n = behind_item u (y ++ written neg w) p d is (int_item g (whole neg w)) b Space k i (int_of g y (written neg w) (whole neg w) a (int neg w n))
behind_digits u y w p d is g neg b Comma k i a n = behind_item u (y ++ written neg w) p d is (int_item g (whole neg w)) b Comma k i (int_of g y (written neg w) (whole neg w) a (int neg w n))
behind_digits u y w p d is g neg b Closing k i a n = behind_item u (y ++ written neg w) p d is (int_item g (whole neg w)) b Closing k i (int_of g y (written neg w) (whole neg w) a (int neg w n))
behind_digits u y w p d is g neg b Letter k i a n = tt
behind_digits u y w p d is g neg b Dot k i a n = tt
behind_digits u y w p d is g neg b Opening k i a n = tt
behind_digits u y w p d is g neg b Minus k i a n = tt
behind_digits u y w p d is g neg b Star k i a n = tt
behind_digits u y w p d is g neg b Quote k i a n = tt
behind_digits u y w p d is g neg b Backslash k i a n = tt
behind_digits u y w p d is g neg b AtSign k i a n = tt
behind_digits u y w p d is g neg b EqualSign k i a n = tt
behind_digits u y w p d is g neg b Bang k i a n = tt
behind_digits u y w p d is g neg b Below k i a n = tt
behind_digits u y w p d is g neg b Above k i a n = tt
behind_digits u y w p d is g neg b Other k i a n = tt

same_number : (b q : ℕ) → nat_eq b q ≡ true → b ≡ q
same_number b q h = grind (arith, nat_tests)

item_ends : (u y : List ℕ) (p : Path) (d : Bool) (is : List Item) (t : Item) → InItem u p d is y → IsItem y t → Reached u (after p d (is ++ t ∷ []))
item_ends u y p d is t r i = (r.x ++ y, r.inside, item r.x y is t r.awaits i)

-- a byte between quotes that is no backslash
inside_quotes : (u y w s : List ℕ) (p : Path) (d : Bool) (is : List Item) (g : Slot) (q b : ℕ) → (class b ≡ Backslash → ⊥) → InItem u p d is (y ++ q ∷ w) → TextBegins g y → class q ≡ Quote → IsInside q w s
    → (t : Bool) → nat_eq b q ≡ t → IfReached (u ++ b ∷ []) (cond t (Some (after p d (is ++ text_item g s ∷ []))) (Some (quoted p d is g q (s ++ b ∷ []))))
inside_quotes u y w s p d is g q b not i a k n true h =
    item_ends (u ++ b ∷ []) (y ++ ((q ∷ w) ++ q ∷ [])) p d is (text_item g s)
    (in_at (u ++ b ∷ []) _ _ p d is (append_assoc y (q ∷ w) (b ∷ []) ∙ ap (λ c. y ++ ((q ∷ w) ++ c ∷ [])) (same_number b q h)) (in_more u (y ++ q ∷ w) p d is b i))
    (text_of g y ((q ∷ w) ++ q ∷ []) s a (quotes q w s k n))
inside_quotes u y w s p d is g q b not i a k n false h = (
  y,
  w ++ b ∷ [],
  in_at (u ++ b ∷ []) _ _ p d is (append_assoc y (q ∷ w) (b ∷ [])) (in_more u (y ++ q ∷ w) p d is b i),
  a,
  k,
  byte q w s b n h not,
)

escaped_more : (u y w s : List ℕ) (p : Path) (d : Bool) (is : List Item) (g : Slot) (q b : ℕ) → (class b ≡ Quote) ⊎ (class b ≡ Backslash) → InItem u p d is (y ++ q ∷ (w ++ 92 ∷ [])) → TextBegins g y → class q ≡ Quote → IsInside q w s
    → Reached (u ++ b ∷ []) (quoted p d is g q (s ++ b ∷ []))
escaped_more u y w s p d is g q b c i a k n = (
  y,
  (w ++ 92 ∷ []) ++ b ∷ [],
  in_at (u ++ b ∷ []) _ _ p d is (append_assoc y (q ∷ (w ++ 92 ∷ [])) (b ∷ [])) (in_more u (y ++ q ∷ (w ++ 92 ∷ [])) p d is b i),
  a,
  k,
  escaped q w s b n c,
)

-- behind the left side of a comparison
reach_operator : (u y : List ℕ) (p : Path) (d : Bool) (is : List Item) (ns : List (List ℕ)) (b : ℕ) (c : Class) → class b ≡ c → InItem u p d is y → IsSubject y ns → IfReached (u ++ b ∷ []) (by_operator p d is ns c)
reach_operator u y p d is ns b Space k r a = (y ++ b ∷ [], in_more u y p d is b r, rw (space_byte b k) (space_past y ns a))
reach_operator u y p d is ns b EqualSign k r a = (y, b, in_more u y p d is b r, a, rw (equal_byte b k) op_equals)
reach_operator u y p d is ns b Bang k r a = (y, b, in_more u y p d is b r, a, rw (bang_byte b k) op_differs)
reach_operator u y p d is ns b Below k r a = (y, b, in_more u y p d is b r, a, rw (below_byte b k) op_less, rw (below_byte b k) op_at_most)
reach_operator u y p d is ns b Above k r a = (y, b, in_more u y p d is b r, a, rw (above_byte b k) op_greater, rw (above_byte b k) op_at_least)
reach_operator u y p d is ns b Letter k r a = tt
reach_operator u y p d is ns b Digit k r a = tt
reach_operator u y p d is ns b Dot k r a = tt
reach_operator u y p d is ns b Opening k r a = tt
reach_operator u y p d is ns b Closing k r a = tt
reach_operator u y p d is ns b Comma k r a = tt
reach_operator u y p d is ns b Minus k r a = tt
reach_operator u y p d is ns b Star k r a = tt
reach_operator u y p d is ns b Quote k r a = tt
reach_operator u y p d is ns b Backslash k r a = tt
reach_operator u y p d is ns b Colon k r a = tt
reach_operator u y p d is ns b AtSign k r a = tt
reach_operator u y p d is ns b Other k r a = tt

-- the first letter of a word
reach_n : (u y : List ℕ) (p : Path) (d : Bool) (is : List Item) (ns : List (List ℕ)) (c : Comparison) (b : ℕ) → InItem u p d is y → IsCompared y ns c → (t : Bool) → nat_eq b 110 ≡ t
    → IfReached (u ++ b ∷ []) (cond t (Some (letters p d is ns c null (117 ∷ 108 ∷ 108 ∷ []))) None)
reach_n u y p d is ns c b r a true h = (y, b ∷ [], in_more u y p d is b r, a, rw (same_number b 110 h) is_null, omega arith)
reach_n u y p d is ns c b r a false h = tt

reach_f : (u y : List ℕ) (p : Path) (d : Bool) (is : List Item) (ns : List (List ℕ)) (c : Comparison) (b : ℕ) → InItem u p d is y → IsCompared y ns c → (t : Bool) → nat_eq b 102 ≡ t
    → IfReached (u ++ b ∷ []) (cond t (Some (letters p d is ns c (boolean false) (97 ∷ 108 ∷ 115 ∷ 101 ∷ []))) (cond (nat_eq b 110) (Some (letters p d is ns c null (117 ∷ 108 ∷ 108 ∷ []))) None))
reach_f u y p d is ns c b r a true h = (y, b ∷ [], in_more u y p d is b r, a, rw (same_number b 102 h) is_false, omega arith)
reach_f u y p d is ns c b r a false h = reach_n u y p d is ns c b r a (nat_eq b 110) refl

reach_t : (u y : List ℕ) (p : Path) (d : Bool) (is : List Item) (ns : List (List ℕ)) (c : Comparison) (b : ℕ) → InItem u p d is y → IsCompared y ns c → (t : Bool) → nat_eq b 116 ≡ t
    → IfReached (u ++ b ∷ []) (cond t (Some (letters p d is ns c (boolean true) (114 ∷ 117 ∷ 101 ∷ []))) (cond (nat_eq b 102) (Some (letters p d is ns c (boolean false) (97 ∷ 108 ∷ 115 ∷ 101 ∷ []))) (cond (nat_eq b 110) (Some (letters p d is ns c null (117 ∷ 108 ∷ 108 ∷ []))) None)))
reach_t u y p d is ns c b r a true h = (y, b ∷ [], in_more u y p d is b r, a, rw (same_number b 116 h) is_true, omega arith)
reach_t u y p d is ns c b r a false h = reach_f u y p d is ns c b r a (nat_eq b 102) refl

reach_literal : (u y : List ℕ) (p : Path) (d : Bool) (is : List Item) (ns : List (List ℕ)) (c : Comparison) (b : ℕ) (l : Class) → class b ≡ l → InItem u p d is y → IsCompared y ns c → IfReached (u ++ b ∷ []) (by_literal p d is ns c b l)
reach_literal u y p d is ns c b Space k r a = (y ++ b ∷ [], in_more u y p d is b r, rw (space_byte b k) (space_on y ns c a))
reach_literal u y p d is ns c b Minus k r a = (y, in_at (u ++ b ∷ []) _ _ p d is (ap (λ z. y ++ z ∷ []) (minus_byte b k)) (in_more u y p d is b r), a)
reach_literal u y p d is ns c b Digit k r a = (y, in_more u y p d is b r, a, first_digit b k)
reach_literal u y p d is ns c b Quote k r a = (y, [], in_more u y p d is b r, a, k, nothing b)
reach_literal u y p d is ns c b Letter k r a = reach_t u y p d is ns c b r a (nat_eq b 116) refl
reach_literal u y p d is ns c b Dot k r a = tt
reach_literal u y p d is ns c b Opening k r a = tt
reach_literal u y p d is ns c b Closing k r a = tt
reach_literal u y p d is ns c b Comma k r a = tt
reach_literal u y p d is ns c b Star k r a = tt
reach_literal u y p d is ns c b Backslash k r a = tt
reach_literal u y p d is ns c b Colon k r a = tt
reach_literal u y p d is ns c b AtSign k r a = tt
reach_literal u y p d is ns c b EqualSign k r a = tt
reach_literal u y p d is ns c b Bang k r a = tt
reach_literal u y p d is ns c b Below k r a = tt
reach_literal u y p d is ns c b Above k r a = tt
reach_literal u y p d is ns c b Other k r a = tt

word_ends : (u y w : List ℕ) (p : Path) (d : Bool) (is : List Item) (ns : List (List ℕ)) (c : Comparison) (t : Tree) (rest : List ℕ) → InItem u p d is (y ++ w) → IsCompared y ns c → IsWord (w ++ rest) t → Reached u (next_letter p d is ns c t rest)
word_ends u y w p d is ns c t [] r a h = item_ends u (y ++ w) p d is (meets ns c t) r (test_word y w ns c t a (subst (λ z. IsWord z t) (append-nil w) h))
word_ends u y w p d is ns c t (l ∷ rest) r a h = (y, w, r, a, h, omega arith)

reach_letter : (u y w : List ℕ) (p : Path) (d : Bool) (is : List Item) (ns : List (List ℕ)) (c : Comparison) (t : Tree) (l : ℕ) (rest : List ℕ) (b : ℕ) → InItem u p d is (y ++ w) → IsCompared y ns c → IsWord (w ++ l ∷ rest) t → (e : Bool) → nat_eq b l ≡ e
    → IfReached (u ++ b ∷ []) (cond e (Some (next_letter p d is ns c t rest)) None)
reach_letter u y w p d is ns c t l rest b r a h true e =
    word_ends (u ++ b ∷ []) y (w ++ b ∷ []) p d is ns c t rest (in_at (u ++ b ∷ []) _ _ p d is (append_assoc y w (b ∷ [])) (in_more u (y ++ w) p d is b r)) a
    (rw (append_assoc w (b ∷ []) rest, same_number b l e) h)
reach_letter u y w p d is ns c t l rest b r a h false e = tt

reach_letters : (u y w : List ℕ) (p : Path) (d : Bool) (is : List Item) (ns : List (List ℕ)) (c : Comparison) (t : Tree) (rest : List ℕ) (b : ℕ) → InItem u p d is (y ++ w) → IsCompared y ns c → IsWord (w ++ rest) t → IfReached (u ++ b ∷ []) (by_letters p d is ns c t rest b)
reach_letters u y w p d is ns c t [] b r a h = tt
reach_letters u y w p d is ns c t (l ∷ rest) b r a h = reach_letter u y w p d is ns c t l rest b r a h (nat_eq b l) refl

left_more : (u v w : List ℕ) (p : Path) (d : Bool) (is : List Item) (ns : List (List ℕ)) (b : ℕ) → InItem u p d is (v ++ w) → IsName (w ++ b ∷ []) → TakesNames v ns → Reached (u ++ b ∷ []) (left p d is ns (w ++ b ∷ []))
left_more u v w p d is ns b r n t = (v, in_at (u ++ b ∷ []) _ _ p d is (append_assoc v w (b ∷ [])) (in_more u (v ++ w) p d is b r), n, t)

-- the first letter of a name
begun : (u : List ℕ) (p : Path) (d : Bool) (b : ℕ) → class b ≡ Letter → TakesName u p d → Worded (u ++ b ∷ []) p d (b ∷ [])
begun u p d b k t = record { v = u; is = refl; takes = t; name = first_letter b k }

at_dot : (u : List ℕ) (p : Path) (b : ℕ) → class b ≡ Dot → IsPath u p → Dotted (u ++ b ∷ []) p
at_dot u p b k r = record { v = u; is = ap (λ c. u ++ c ∷ []) (dot_byte b k); path = r }

after_dot : (u : List ℕ) (p : Path) → Dotted u p → TakesName u p false
after_dot u p r w n = rw (r.is, append_assoc r.v (46 ∷ []) w) (next_name r.v w p r.path n)

dots_name : (u : List ℕ) (p : Path) (b : ℕ) → class b ≡ Dot → Dotted u p → TakesName (u ++ b ∷ []) p true
dots_name u p b k r w n =
    rw (r.is, dot_byte b k, append_assoc r.v (46 ∷ []) (46 ∷ []), append_assoc r.v (46 ∷ 46 ∷ []) w) (next_deep_name r.v w p r.path n)

dots_bracket : (u : List ℕ) (p : Path) (b : ℕ) → class b ≡ Dot → Dotted u p → TakesBracket (u ++ b ∷ []) p true
dots_bracket u p b k r w is n =
    rw (r.is, dot_byte b k, append_assoc r.v (46 ∷ []) (46 ∷ []), append_assoc r.v (46 ∷ 46 ∷ []) w) (next_deep_bracket r.v w p is r.path n)

worded : (u : List ℕ) (p : Path) (d : Bool) (w : List ℕ) → Worded u p d w → IsPath u (more p d (named w ∷ []))
worded u p d w r = rw (r.is) (r.takes w r.name)

word_more : (u w : List ℕ) (p : Path) (d : Bool) (b : ℕ) → Worded u p d w → IsName (w ++ b ∷ []) → Worded (u ++ b ∷ []) p d (w ++ b ∷ [])
word_more u w p d b r n = record { v = r.v; is = ap (λ z. z ++ b ∷ []) r.is ∙ append_assoc r.v w (b ∷ []); takes = r.takes; name = n }

open_range : (y : List ℕ) (a : Option ℤ) → IntBegins (second a) y → IsItem y (range a None)
open_range y a r = rw (r.1) (subst (λ z. IsItem z (range a None)) (append-nil (r.0 ++ 58 ∷ [])) (span r.0 [] a None r.2 no_end))

op_done : (u y : List ℕ) (o : ℕ) (p : Path) (d : Bool) (is : List Item) (ns : List (List ℕ)) (c : Comparison) (b : ℕ) → class b ≡ EqualSign → InItem u p d is (y ++ o ∷ []) → IsSubject y ns → IsOp (o ∷ 61 ∷ []) c → Reached (u ++ b ∷ []) (literal p d is ns c)
op_done u y o p d is ns c b k r a h = (
  y ++ (o ∷ 61 ∷ []),
  in_at (u ++ b ∷ []) _ _ p d is (append_assoc y (o ∷ []) (b ∷ []) ∙ ap (λ z. y ++ o ∷ z ∷ []) (equal_byte b k)) (in_more u (y ++ o ∷ []) p d is b r),
  compared y (o ∷ 61 ∷ []) ns c a h,
)

pub reach : (u : List ℕ) (s : State) (b : ℕ) (c : Class) → class b ≡ c → Reached u s → IfReached (u ++ b ∷ []) (by_class s b c)
reach u start b Letter k r = begun u [] false b k (λ w n. rw r (first_name w n))
reach u start b Opening k r = ([], opened u [] false b k (λ w is n. rw r (first_bracket w is n)), at_first)
reach u start b Dot k r = rw (r, dot_byte b k) refl
reach u start b _ k r = tt
reach u first_dot b Dot k r = (λ w n. rw (r, dot_byte b k) (first_deep_name w n), λ w is n. rw (r, dot_byte b k) (first_deep_bracket w is n))
reach u first_dot b _ k r = tt
reach u (one_dot p) b Letter k r = begun u p false b k (after_dot u p r)
reach u (one_dot p) b Dot k r = (dots_name u p b k r, dots_bracket u p b k r)
reach u (one_dot p) b _ k r = tt
reach u (two_dots p) b Letter k r = begun u p true b k r.0
reach u (two_dots p) b Opening k r = ([], opened u p true b k r.1, at_first)
reach u (two_dots p) b _ k r = tt
reach u (word p d w) b Letter k r = word_more u w p d b r (more_letter w b r.name k)
reach u (word p d w) b Digit k r = word_more u w p d b r (more_digit w b r.name k)
reach u (word p d w) b Dot k r = at_dot u _ b k (worded u p d w r)
reach u (word p d w) b Opening k r = ([], opened u _ false b k (λ v is n. next_bracket u v _ is (worded u p d w r) n), at_first)
reach u (word p d w) b _ k r = tt
reach u (before p d is) b Space k r = (r.0 ++ b ∷ [], inside_more u r.0 p d b r.1, rw (space_byte b k) (space_before r.0 is r.2))
reach u (before p d is) b Minus k r = ([], in_at (u ++ b ∷ []) _ _ p d is (ap (λ c. c ∷ []) (minus_byte b k)) (in_first u r.0 p d is b r.1 r.2), refl)
reach u (before p d is) b Digit k r = ([], in_first u r.0 p d is b r.1 r.2, refl, first_digit b k)
reach u (before p d is) b Star k r = item_ends (u ++ b ∷ []) (b ∷ []) p d is every (in_first u r.0 p d is b r.1 r.2) (rw (star_byte b k) all)
reach u (before p d is) b Quote k r = ([], [], in_first u r.0 p d is b r.1 r.2, refl, k, nothing b)
reach u (before p d is) b Colon k r = (b ∷ [], in_first u r.0 p d is b r.1 r.2, ([], ap (λ c. c ∷ []) (colon_byte b k), no_end))
reach u (before p d is) b Letter k r = ([], in_first u r.0 p d is b r.1 r.2, first_letter b k, λ w n. one_name w n)
reach u (before p d is) b AtSign k r = (b ∷ [], in_first u r.0 p d is b r.1 r.2, rw (at_sign_byte b k) itself)
reach u (before p d is) b _ k r = tt
reach u (sign p d is g) b Digit k r = (r.0, in_at (u ++ b ∷ []) _ _ p d is (append_assoc r.0 (45 ∷ []) (b ∷ [])) (in_more u (r.0 ++ 45 ∷ []) p d is b r.1), r.2, first_digit b k)
reach u (sign p d is g) b _ k r = tt
reach u (digits p d is g neg w) b c k r = behind_digits u r.0 w p d is g neg b c k r.1 r.2 r.3
reach u (quoted p d is g q s) b Backslash k r = (r.0, r.1, in_at (u ++ b ∷ []) _ _ p d is (append_assoc r.0 (q ∷ r.1) (b ∷ []) ∙ ap (λ c. r.0 ++ q ∷ (r.1 ++ c ∷ [])) (backslash_byte b k)) (in_more u (r.0 ++ q ∷ r.1) p d is b r.2), r.3, r.4, r.5)
reach u (quoted p d is g q s) b _ k r = inside_quotes u r.0 r.1 s p d is g q b (λ h. absurd (cc)) r.2 r.3 r.4 r.5 (nat_eq b q) refl
reach u (escape p d is g q s) b Quote k r = escaped_more u r.0 r.1 s p d is g q b (inl k) r.2 r.3 r.4 r.5
reach u (escape p d is g q s) b Backslash k r = escaped_more u r.0 r.1 s p d is g q b (inr k) r.2 r.3 r.4 r.5
reach u (escape p d is g q s) b _ k r = tt
reach u (to p d is a) b Minus k r = (r.0, in_at (u ++ b ∷ []) _ _ p d is (ap (λ c. r.0 ++ c ∷ []) (minus_byte b k)) (in_more u r.0 p d is b r.1), r.2)
reach u (to p d is a) b Digit k r = (r.0, in_more u r.0 p d is b r.1, r.2, first_digit b k)
reach u (to p d is a) b c k r = behind_item u r.0 p d is (range a None) b c k r.1 (open_range r.0 a r.2)
reach u (left p d is ns w) b Letter k r = left_more u r.0 w p d is ns b r.1 (more_letter w b r.2 k) r.3
reach u (left p d is ns w) b Digit k r = left_more u r.0 w p d is ns b r.1 (more_digit w b r.2 k) r.3
reach u (left p d is ns w) b Dot k r =
    ((r.0 ++ w) ++ b ∷ [], in_more u (r.0 ++ w) p d is b r.1, λ v n. rw (dot_byte b k) (more_names (r.0 ++ w) v (ns ++ w ∷ []) (r.3 w r.2) n))
reach u (left p d is ns w) b c k r = reach_operator u (r.0 ++ w) p d is (ns ++ w ∷ []) b c k r.1 (names (r.0 ++ w) (ns ++ w ∷ []) (r.3 w r.2))
reach u (left_dot p d is ns) b Letter k r = (r.0, in_more u r.0 p d is b r.1, first_letter b k, r.2)
reach u (left_dot p d is ns) b _ k r = tt
reach u (left_done p d is ns) b c k r = reach_operator u r.0 p d is ns b c k r.1 r.2
reach u (half p d is ns c) b EqualSign k r = op_done u r.0 r.1 p d is ns c b k r.2 r.3 r.4
reach u (half p d is ns c) b _ k r = tt
reach u (angle p d is ns c1 c2) b EqualSign k r = op_done u r.0 r.1 p d is ns c2 b k r.2 r.3 r.5
reach u (angle p d is ns c1 c2) b c k r = reach_literal u (r.0 ++ r.1 ∷ []) p d is ns c1 b c k r.2 (compared r.0 (r.1 ∷ []) ns c1 r.3 r.4)
reach u (literal p d is ns c) b l k r = reach_literal u r.0 p d is ns c b l k r.1 r.2
reach u (letters p d is ns c t rest) b l k r = reach_letters u r.0 r.1 p d is ns c t rest b r.2 r.3 r.4
reach u (after p d is) b c k r = behind u r.0 p d is b c k r.1 r.2
reach u (done p) b Dot k r = at_dot u p b k r
reach u (done p) b Opening k r = ([], opened u p false b k (λ w is n. next_bracket u w p is r n), at_first)
reach u (done p) b _ k r = tt

reach_on : (u t : List ℕ) (b : ℕ) → ((v : List ℕ) (s : State) → Reached v s → IfReached (v ++ t) (run t s)) → (o : Option State) → IfReached (u ++ b ∷ []) o → IfReached (u ++ b ∷ t) (option_and_then (run t) o)
reach_on u t b h None r = tt
reach_on u t b h (Some s) r = rw (← append_assoc u (b ∷ []) t) (h (u ++ b ∷ []) s r)

pub reached : (t u : List ℕ) (s : State) → Reached u s → IfReached (u ++ t) (run t s)
reached [] u s r = rw (append-nil u) r
reached (b ∷ t) u s r = reach_on u t b (reached t) (taken s b) (reach u s b (class b) refl r)

pub at_start : (t : List ℕ) → IfReached t (run t start)
at_start t = reached t [] start refl

-- what is accepted is a path
abbrev pub IfPath : List ℕ → Option Path → Type 0
IfPath u None = Unit {0}
IfPath u (Some p) = IsPath u p

pub accepted : (u : List ℕ) (s : State) → Reached u s → IfPath u (accept s)
accepted u (word p d w) r = worded u p d w r
accepted u (done p) r = r
accepted u _ r = tt
