-- What spells a path is read as that path.
use Rattle.std.proofs.Common.{◌≡◌, ◌⊎◌, inl, inr, ℕ, ◌<◌, length, List, [], ◌∷◌, ◌++◌, Bool, true, false, cond, nat_eq, nat_lt, Option, Some, None, option_and_then, ℤ, refl, ap, ◌∙◌, arith}
use Rattle.std.proofs.lemmas.Bool.Decides.{nat_tests}
use Rattle.cs_value.specs.Tree.{Tree, null, boolean, text}
use Rattle.cs_jsonmatch.specs.Path.{Item, range, every, named, meets, Path}
use Rattle.cs_jsonmatch.specs.declared.path.Comparison.{Comparison}
use Rattle.cs_jsonmatch.specs.declared.path.Comparison.TheVariants.{Equal, NotEqual, Less, AtMost, Greater, AtLeast}
use Rattle.cs_jsonmatch.specs.declared.class.Class.{Class}
use Rattle.cs_jsonmatch.specs.declared.class.Class.TheVariants.{Letter, Digit, Dot, Opening, Closing, Comma, Space, Minus, Star, Quote, Backslash, Colon, AtSign, EqualSign, Bang, Below, Above, Other}
use Rattle.cs_jsonmatch.specs.Grammar.{class, whole, IsName, first_letter, more_letter, more_digit, AreDigits, first_digit, next_digit, IsInside, nothing, byte, escaped, IsInt, int, IsEnd, no_end, some_end, IsQuoted, quotes, AreNames, one_name, more_names, IsSubject, itself, names, space_past, IsOp, op_equals, op_differs, op_less, op_at_most, op_greater, op_at_least, IsCompared, compared, space_on, IsWord, is_true, is_false, is_null, IsItem, single, span, all, texts, test_int, test_text, test_word, Awaits, at_first, space_before, after_comma, AreItems, item, space_after, IsBracket, bracket, IsPath, first_name, first_bracket, first_deep_name, first_deep_bracket, next_name, next_bracket, next_deep_name, next_deep_bracket}
use Rattle.cs_jsonmatch.specs.Machine.{Slot, front, second, constant, int_item, text_item, State, start, first_dot, one_dot, two_dots, word, before, sign, digits, quoted, escape, to, left, left_dot, left_done, half, angle, literal, letters, after, done, more, by_class, taken, run, accept}

then_append : (u w : List ℕ) → ((s : State) → run (u ++ w) s ≡ option_and_then (run w) (run u s)) → (o : Option State)
    → option_and_then (run (u ++ w)) o ≡ option_and_then (run w) (option_and_then (run u) o)
then_append u w h None = refl
then_append u w h (Some s) = h s

pub run-append : (u w : List ℕ) (s : State) → run (u ++ w) s ≡ option_and_then (run w) (run u s)
run-append [] w s = refl
run-append (b ∷ u) w s = then_append u w (run-append u w) (taken s b)

pub after_run : (u w : List ℕ) (s s1 : State) (r : Option State) → run u s ≡ Some s1 → run w s1 ≡ r → run (u ++ w) s ≡ r
after_run u w s s1 r e f = run-append u w s ∙ ap (λ o. option_and_then (run w) o) e ∙ f

-- one byte first
pub first_byte : (b : ℕ) (w : List ℕ) (s s1 : State) (r : Option State) → taken s b ≡ Some s1 → run w s1 ≡ r → run (b ∷ w) s ≡ r
first_byte b w s s1 r e f = ap (λ o. option_and_then (run w) o) e ∙ f

-- one byte last
pub then_byte : (u : List ℕ) (b : ℕ) (s s1 s2 : State) → run u s ≡ Some s1 → taken s1 b ≡ Some s2 → run (u ++ b ∷ []) s ≡ Some s2
then_byte u b s s1 s2 e f = after_run u (b ∷ []) s s1 (Some s2) e (first_byte b [] s1 s2 (Some s2) f refl)

pub name_run : (s0 : State) (p : Path) (d : Bool) → ((b : ℕ) → class b ≡ Letter → taken s0 b ≡ Some (word p d (b ∷ []))) → {w : List ℕ} → IsName w → run w s0 ≡ Some (word p d w)
name_run s0 p d h (first_letter b l) = first_byte b [] s0 _ _ (h b l) refl
name_run s0 p d h (more_letter w b n l) = then_byte w b s0 (word p d w) _ (name_run s0 p d h n) (ap (λ c. by_class (word p d w) b c) l)
name_run s0 p d h (more_digit w b n l) = then_byte w b s0 (word p d w) _ (name_run s0 p d h n) (ap (λ c. by_class (word p d w) b c) l)

few : (n : ℕ) → n < 18 → nat_lt n 18 ≡ true
few n h = grind (arith, nat_tests)

pub digits_run : (s0 : State) (p : Path) (d : Bool) (is : List Item) (g : Slot) (neg : Bool) → ((b : ℕ) → class b ≡ Digit → taken s0 b ≡ Some (digits p d is g neg (b ∷ [])))
    → {w : List ℕ} → AreDigits w → run w s0 ≡ Some (digits p d is g neg w)
digits_run s0 p d is g neg h (first_digit b l) = first_byte b [] s0 _ _ (h b l) refl
digits_run s0 p d is g neg h (next_digit w b a l short) =
    then_byte w b s0 (digits p d is g neg w) _ (digits_run s0 p d is g neg h a)
    (ap (λ c. by_class (digits p d is g neg w) b c) l ∙ ap (λ t. cond t (Some (digits p d is g neg (w ++ b ∷ []))) None) (few (length w) short))

pub inside_byte : (p : Path) (d : Bool) (is : List Item) (g : Slot) (q : ℕ) (s : List ℕ) (b : ℕ) (c : Class) → (c ≡ Backslash → ⊥) → nat_eq b q ≡ false
    → by_class (quoted p d is g q s) b c ≡ Some (quoted p d is g q (s ++ b ∷ []))
inside_byte p d is g q s b Backslash not ne = absurd (not refl)
inside_byte p d is g q s b Letter not ne = ap (λ t. cond t (Some (after p d (is ++ text_item g s ∷ []))) (Some (quoted p d is g q (s ++ b ∷ [])))) ne
inside_byte p d is g q s b Digit not ne = ap (λ t. cond t (Some (after p d (is ++ text_item g s ∷ []))) (Some (quoted p d is g q (s ++ b ∷ [])))) ne
inside_byte p d is g q s b Dot not ne = ap (λ t. cond t (Some (after p d (is ++ text_item g s ∷ []))) (Some (quoted p d is g q (s ++ b ∷ [])))) ne
inside_byte p d is g q s b Opening not ne = ap (λ t. cond t (Some (after p d (is ++ text_item g s ∷ []))) (Some (quoted p d is g q (s ++ b ∷ [])))) ne
inside_byte p d is g q s b Closing not ne = ap (λ t. cond t (Some (after p d (is ++ text_item g s ∷ []))) (Some (quoted p d is g q (s ++ b ∷ [])))) ne
inside_byte p d is g q s b Comma not ne = ap (λ t. cond t (Some (after p d (is ++ text_item g s ∷ []))) (Some (quoted p d is g q (s ++ b ∷ [])))) ne
inside_byte p d is g q s b Space not ne = ap (λ t. cond t (Some (after p d (is ++ text_item g s ∷ []))) (Some (quoted p d is g q (s ++ b ∷ [])))) ne
inside_byte p d is g q s b Minus not ne = ap (λ t. cond t (Some (after p d (is ++ text_item g s ∷ []))) (Some (quoted p d is g q (s ++ b ∷ [])))) ne
inside_byte p d is g q s b Star not ne = ap (λ t. cond t (Some (after p d (is ++ text_item g s ∷ []))) (Some (quoted p d is g q (s ++ b ∷ [])))) ne
inside_byte p d is g q s b Quote not ne = ap (λ t. cond t (Some (after p d (is ++ text_item g s ∷ []))) (Some (quoted p d is g q (s ++ b ∷ [])))) ne
inside_byte p d is g q s b Colon not ne = ap (λ t. cond t (Some (after p d (is ++ text_item g s ∷ []))) (Some (quoted p d is g q (s ++ b ∷ [])))) ne
inside_byte p d is g q s b AtSign not ne = ap (λ t. cond t (Some (after p d (is ++ text_item g s ∷ []))) (Some (quoted p d is g q (s ++ b ∷ [])))) ne
inside_byte p d is g q s b EqualSign not ne = ap (λ t. cond t (Some (after p d (is ++ text_item g s ∷ []))) (Some (quoted p d is g q (s ++ b ∷ [])))) ne
inside_byte p d is g q s b Bang not ne = ap (λ t. cond t (Some (after p d (is ++ text_item g s ∷ []))) (Some (quoted p d is g q (s ++ b ∷ [])))) ne
inside_byte p d is g q s b Below not ne = ap (λ t. cond t (Some (after p d (is ++ text_item g s ∷ []))) (Some (quoted p d is g q (s ++ b ∷ [])))) ne
inside_byte p d is g q s b Above not ne = ap (λ t. cond t (Some (after p d (is ++ text_item g s ∷ []))) (Some (quoted p d is g q (s ++ b ∷ [])))) ne
inside_byte p d is g q s b Other not ne = ap (λ t. cond t (Some (after p d (is ++ text_item g s ∷ []))) (Some (quoted p d is g q (s ++ b ∷ [])))) ne

pub escape_byte : (p : Path) (d : Bool) (is : List Item) (g : Slot) (q : ℕ) (s : List ℕ) (b : ℕ) → (class b ≡ Quote) ⊎ (class b ≡ Backslash)
    → taken (escape p d is g q s) b ≡ Some (quoted p d is g q (s ++ b ∷ []))
escape_byte p d is g q s b (inl k) = ap (λ c. by_class (escape p d is g q s) b c) k
escape_byte p d is g q s b (inr k) = ap (λ c. by_class (escape p d is g q s) b c) k

inside_run : (p : Path) (d : Bool) (is : List Item) (g : Slot) {q : ℕ} {w s : List ℕ} → IsInside q w s → run w (quoted p d is g q []) ≡ Some (quoted p d is g q s)
inside_run p d is g (nothing q) = refl
inside_run p d is g (byte q w s b i ne not) = then_byte w b _ (quoted p d is g q s) _ (inside_run p d is g i) (inside_byte p d is g q s b (class b) not ne)
inside_run p d is g (escaped q w s b i k) =
    then_byte (w ++ 92 ∷ []) b _ (escape p d is g q s) _ (then_byte w 92 _ (quoted p d is g q s) _ (inside_run p d is g i) refl) (escape_byte p d is g q s b k)

-- a state that may stand behind an item
abbrev pub Closes : State → Path → Bool → List Item → Type 0
Closes s p d is = (b : ℕ) → (by_class s b Space ≡ Some (after p d is)) × (by_class s b Comma ≡ Some (before p d is)) × (by_class s b Closing ≡ Some (done (more p d is)))

pub same_number : (q : ℕ) → nat_eq q q ≡ true
same_number q = grind (arith, nat_tests)

-- an integer, from a state that takes its sign and its first digit
int_run : (s0 : State) (p : Path) (d : Bool) (is : List Item) (g : Slot) → ((b : ℕ) → by_class s0 b Minus ≡ Some (sign p d is g)) → ((b : ℕ) → by_class s0 b Digit ≡ Some (digits p d is g false (b ∷ [])))
    → {w : List ℕ} {n : ℤ} → IsInt w n → (neg : Bool) × (v : List ℕ) × (run w s0 ≡ Some (digits p d is g neg v)) × (whole neg v ≡ n)
int_run s0 p d is g m h (int false w a) = (false, w, digits_run s0 p d is g false (λ b l. ap (λ c. by_class s0 b c) l ∙ h b) a, refl)
int_run s0 p d is g m h (int true w a) =
    (true, w, first_byte 45 w s0 (sign p d is g) _ (m 45) (digits_run (sign p d is g) p d is g true (λ b l. ap (λ c. by_class (sign p d is g) b c) l) a), refl)

closes_digits : (p : Path) (d : Bool) (is : List Item) (g : Slot) (neg : Bool) (v : List ℕ) (n : ℤ) → whole neg v ≡ n → Closes (digits p d is g neg v) p d (is ++ int_item g n ∷ [])
closes_digits p d is g neg v n e b = (
  ap (λ k. Some (after p d (is ++ int_item g k ∷ []))) e,
  ap (λ k. Some (before p d (is ++ int_item g k ∷ []))) e,
  ap (λ k. Some (done (more p d (is ++ int_item g k ∷ [])))) e,
)

-- a quoted text, from a state that takes its quote
quoted_run : (s0 : State) (p : Path) (d : Bool) (is : List Item) (g : Slot) → ((b : ℕ) → by_class s0 b Quote ≡ Some (quoted p d is g b [])) → {w s : List ℕ} → IsQuoted w s → run w s0 ≡ Some (after p d (is ++ text_item g s ∷ []))
quoted_run s0 p d is g h (quotes q w s k i) =
    then_byte (q ∷ w) q s0 (quoted p d is g q s) _
    (first_byte q w s0 (quoted p d is g q []) _ (ap (λ c. by_class s0 q c) k ∙ h q) (inside_run p d is g i))
    (ap (λ c. by_class (quoted p d is g q s) q c) k ∙ ap (λ t. cond t (Some (after p d (is ++ text_item g s ∷ []))) (Some (quoted p d is g q (s ++ q ∷ [])))) (same_number q))

pub left_run : (s0 : State) (p : Path) (d : Bool) (is : List Item) (ns : List (List ℕ)) → ((b : ℕ) → by_class s0 b Letter ≡ Some (left p d is ns (b ∷ []))) → {w : List ℕ} → IsName w → run w s0 ≡ Some (left p d is ns w)
left_run s0 p d is ns h (first_letter b l) = first_byte b [] s0 _ _ (ap (λ c. by_class s0 b c) l ∙ h b) refl
left_run s0 p d is ns h (more_letter w b n l) = then_byte w b s0 (left p d is ns w) _ (left_run s0 p d is ns h n) (ap (λ c. by_class (left p d is ns w) b c) l)
left_run s0 p d is ns h (more_digit w b n l) = then_byte w b s0 (left p d is ns w) _ (left_run s0 p d is ns h n) (ap (λ c. by_class (left p d is ns w) b c) l)

names_run : (p : Path) (d : Bool) (is : List Item) {u : List ℕ} {ns : List (List ℕ)} → AreNames u ns → (ms : List (List ℕ)) × (w : List ℕ) × (run u (before p d is) ≡ Some (left p d is ms w)) × (ms ++ w ∷ [] ≡ ns)
names_run p d is (one_name w n) = ([], w, left_run (before p d is) p d is [] (λ b. refl) n, refl)
names_run p d is (more_names u w ns a n) =
    let r = names_run p d is a in
    let dotted = then_byte u 46 _ (left p d is r.0 r.1) (left_dot p d is ns) r.2 (ap (λ ks. Some (left_dot p d is ks)) r.3) in
    (ns, w, after_run (u ++ 46 ∷ []) w _ (left_dot p d is ns) _ dotted (left_run (left_dot p d is ns) p d is ns (λ b. refl) n), refl)

-- a state behind the left side
abbrev pub Subject : State → Path → Bool → List Item → List (List ℕ) → Type 0
Subject s p d is ns = (b : ℕ) → (by_class s b Space ≡ Some (left_done p d is ns)) × (by_class s b EqualSign ≡ Some (half p d is ns Equal)) × (by_class s b Bang ≡ Some (half p d is ns NotEqual))
    × (by_class s b Below ≡ Some (angle p d is ns Less AtMost)) × (by_class s b Above ≡ Some (angle p d is ns Greater AtLeast))

subject_run : (p : Path) (d : Bool) (is : List Item) {x : List ℕ} {ns : List (List ℕ)} → IsSubject x ns → (s : State) × (run x (before p d is) ≡ Some s) × Subject s p d is ns
subject_run p d is itself = (left_done p d is [], refl, λ b. (refl, refl, refl, refl, refl))
subject_run p d is (names u ns a) =
    let r = names_run p d is a in
    (left p d is r.0 r.1, r.2, λ b. (ap (λ k. Some (left_done p d is k)) r.3, ap (λ k. Some (half p d is k Equal)) r.3, ap (λ k. Some (half p d is k NotEqual)) r.3, ap (λ k. Some (angle p d is k Less AtMost)) r.3, ap (λ k. Some (angle p d is k Greater AtLeast)) r.3))
subject_run p d is (space_past x ns a) = let r = subject_run p d is a in (left_done p d is ns, then_byte x 32 _ r.0 _ r.1 (r.2 32).0, λ b. (refl, refl, refl, refl, refl))

-- a state that waits for the constant
abbrev pub Operand : State → Path → Bool → List Item → List (List ℕ) → Comparison → Type 0
Operand s p d is ns c = (b : ℕ) → (by_class s b Space ≡ Some (literal p d is ns c)) × (by_class s b Minus ≡ Some (sign p d is (constant ns c))) × (by_class s b Digit ≡ Some (digits p d is (constant ns c) false (b ∷ [])))
    × (by_class s b Quote ≡ Some (quoted p d is (constant ns c) b [])) × (by_class s b Letter ≡ by_class (literal p d is ns c) b Letter)

op_run : (p : Path) (d : Bool) (is : List Item) (ns : List (List ℕ)) (s0 : State) → Subject s0 p d is ns → {o : List ℕ} {c : Comparison} → IsOp o c → (s : State) × (run o s0 ≡ Some s) × Operand s p d is ns c
op_run p d is ns s0 h op_equals = (literal p d is ns Equal, first_byte 61 (61 ∷ []) s0 (half p d is ns Equal) _ (h 61).1 refl, λ b. (refl, refl, refl, refl, refl))
op_run p d is ns s0 h op_differs = (literal p d is ns NotEqual, first_byte 33 (61 ∷ []) s0 (half p d is ns NotEqual) _ (h 33).2 refl, λ b. (refl, refl, refl, refl, refl))
op_run p d is ns s0 h op_less = (angle p d is ns Less AtMost, first_byte 60 [] s0 _ _ (h 60).3 refl, λ b. (refl, refl, refl, refl, refl))
op_run p d is ns s0 h op_at_most = (literal p d is ns AtMost, first_byte 60 (61 ∷ []) s0 (angle p d is ns Less AtMost) _ (h 60).3 refl, λ b. (refl, refl, refl, refl, refl))
op_run p d is ns s0 h op_greater = (angle p d is ns Greater AtLeast, first_byte 62 [] s0 _ _ (h 62).4 refl, λ b. (refl, refl, refl, refl, refl))
op_run p d is ns s0 h op_at_least = (literal p d is ns AtLeast, first_byte 62 (61 ∷ []) s0 (angle p d is ns Greater AtLeast) _ (h 62).4 refl, λ b. (refl, refl, refl, refl, refl))

compared_run : (p : Path) (d : Bool) (is : List Item) {x : List ℕ} {ns : List (List ℕ)} {c : Comparison} → IsCompared x ns c → (s : State) × (run x (before p d is) ≡ Some s) × Operand s p d is ns c
compared_run p d is (compared x o ns c a k) =
    let r = subject_run p d is a in
    let q = op_run p d is ns r.0 r.2 k in
    (q.0, after_run x o _ r.0 _ r.1 q.1, q.2)
compared_run p d is (space_on x ns c a) = let r = compared_run p d is a in (literal p d is ns c, then_byte x 32 _ r.0 _ r.1 (r.2 32).0, λ b. (refl, refl, refl, refl, refl))

word_run : (p : Path) (d : Bool) (is : List Item) (ns : List (List ℕ)) (c : Comparison) (s0 : State) → Operand s0 p d is ns c → {w : List ℕ} {t : Tree} → IsWord w t → run w s0 ≡ Some (after p d (is ++ meets ns c t ∷ []))
word_run p d is ns c s0 h is_true = first_byte 116 (114 ∷ 117 ∷ 101 ∷ []) s0 (letters p d is ns c (boolean true) (114 ∷ 117 ∷ 101 ∷ [])) _ (h 116).4 refl
word_run p d is ns c s0 h is_false = first_byte 102 (97 ∷ 108 ∷ 115 ∷ 101 ∷ []) s0 (letters p d is ns c (boolean false) (97 ∷ 108 ∷ 115 ∷ 101 ∷ [])) _ (h 102).4 refl
word_run p d is ns c s0 h is_null = first_byte 110 (117 ∷ 108 ∷ 108 ∷ []) s0 (letters p d is ns c null (117 ∷ 108 ∷ 108 ∷ [])) _ (h 110).4 refl

first_end_run : (p : Path) (d : Bool) (is : List Item) {u : List ℕ} {a : Option ℤ} → IsEnd u a → run (u ++ 58 ∷ []) (before p d is) ≡ Some (to p d is a)
first_end_run p d is no_end = refl
first_end_run p d is (some_end w n k) =
    let r = int_run (before p d is) p d is front (λ b. refl) (λ b. refl) k in
    then_byte w 58 _ (digits p d is front r.0 r.1) _ r.2 (ap (λ m. Some (to p d is (Some m))) r.3)

second_end_run : (p : Path) (d : Bool) (is : List Item) (a : Option ℤ) {w : List ℕ} {b : Option ℤ} → IsEnd w b → (s : State) × (run w (to p d is a) ≡ Some s) × Closes s p d (is ++ range a b ∷ [])
second_end_run p d is a no_end = (to p d is a, refl, λ b. (refl, refl, refl))
second_end_run p d is a (some_end w n k) =
    let r = int_run (to p d is a) p d is (second a) (λ b. refl) (λ b. refl) k in
    (digits p d is (second a) r.0 r.1, r.2, closes_digits p d is (second a) r.0 r.1 n r.3)

item_run : (p : Path) (d : Bool) (is : List Item) {w : List ℕ} {i : Item} → IsItem w i → (s : State) × (run w (before p d is) ≡ Some s) × Closes s p d (is ++ i ∷ [])
item_run p d is (single w n k) =
    let r = int_run (before p d is) p d is front (λ b. refl) (λ b. refl) k in
    (digits p d is front r.0 r.1, r.2, closes_digits p d is front r.0 r.1 n r.3)
item_run p d is (span u w a b k l) =
    let r = second_end_run p d is a l in
    (r.0, after_run (u ++ 58 ∷ []) w _ (to p d is a) _ (first_end_run p d is k) r.1, r.2)
item_run p d is all = (after p d (is ++ every ∷ []), refl, λ b. (refl, refl, refl))
item_run p d is (texts w s k) = (after p d (is ++ named s ∷ []), quoted_run (before p d is) p d is front (λ b. refl) k, λ b. (refl, refl, refl))
item_run p d is (test_int x w ns c n a k) =
    let r = compared_run p d is a in
    let q = int_run r.0 p d is (constant ns c) (λ b. (r.2 b).1) (λ b. (r.2 b).2) k in
    (digits p d is (constant ns c) q.0 q.1, after_run x w _ r.0 _ r.1 q.2, closes_digits p d is (constant ns c) q.0 q.1 n q.3)
item_run p d is (test_text x w s ns c a k) =
    let r = compared_run p d is a in
    (after p d (is ++ meets ns c (text s) ∷ []), after_run x w _ r.0 _ r.1 (quoted_run r.0 p d is (constant ns c) (λ b. (r.2 b).3) k), λ b. (refl, refl, refl))
item_run p d is (test_word x w ns c t a k) =
    let r = compared_run p d is a in
    (after p d (is ++ meets ns c t ∷ []), after_run x w _ r.0 _ r.1 (word_run p d is ns c r.0 r.2 k), λ b. (refl, refl, refl))

mutual
  awaits_run : (p : Path) (d : Bool) {x : List ℕ} {is : List Item} → Awaits x is → run x (before p d []) ≡ Some (before p d is)
  awaits_run p d at_first = refl
  awaits_run p d (space_before x is a) = then_byte x 32 _ (before p d is) _ (awaits_run p d a) refl
  awaits_run p d (after_comma x is a) = let r = items_run p d a in then_byte x 44 _ r.0 _ r.1 (r.2 44).1

  items_run : (p : Path) (d : Bool) {x : List ℕ} {is : List Item} → AreItems x is → (s : State) × (run x (before p d []) ≡ Some s) × Closes s p d is
  items_run p d (item x w is i a it) = let r = item_run p d is it in (r.0, after_run x w _ (before p d is) _ (awaits_run p d a) r.1, r.2)
  items_run p d (space_after x is a) = let r = items_run p d a in (after p d is, then_byte x 32 _ r.0 _ r.1 (r.2 32).0, λ b. (refl, refl, refl))

bracket_run : (s0 : State) (p : Path) (d : Bool) → taken s0 91 ≡ Some (before p d []) → {w : List ℕ} {is : List Item} → IsBracket w is → run w s0 ≡ Some (done (more p d is))
bracket_run s0 p d h (bracket w is a) = let r = items_run p d a in then_byte (91 ∷ w) 93 s0 r.0 _ (first_byte 91 w s0 (before p d []) _ h r.1) (r.2 93).2

pub on_dot : (s : State) (p : Path) → accept s ≡ Some p → taken s 46 ≡ Some (one_dot p)
on_dot (word p0 d w) p h = cc
on_dot (done p0) p h = cc
on_dot _ p h = absurd (cc)

pub on_opening : (s : State) (p : Path) → accept s ≡ Some p → taken s 91 ≡ Some (before p false [])
on_opening (word p0 d w) p h = cc
on_opening (done p0) p h = cc
on_opening _ p h = absurd (cc)

pub path_run : {u : List ℕ} {p : Path} → IsPath u p → (s : State) × (run u start ≡ Some s) × (accept s ≡ Some p)
path_run (first_name w n) = (word [] false w, name_run start [] false (λ b l. ap (λ c. by_class start b c) l) n, refl)
path_run (first_bracket w is k) = (done (more [] false is), bracket_run start [] false refl k, refl)
path_run (first_deep_name w n) = (word [] true w, first_byte 46 (46 ∷ w) start first_dot _ refl (first_byte 46 w first_dot (two_dots []) _ refl (name_run (two_dots []) [] true (λ b l. ap (λ c. by_class (two_dots []) b c) l) n)), refl)
path_run (first_deep_bracket w is k) = (done (more [] true is), first_byte 46 (46 ∷ w) start first_dot _ refl (first_byte 46 w first_dot (two_dots []) _ refl (bracket_run (two_dots []) [] true refl k)), refl)
path_run (next_name u w p q n) =
    let r = path_run q in
    (word p false w, after_run u (46 ∷ w) start r.0 _ r.1 (first_byte 46 w r.0 (one_dot p) _ (on_dot r.0 p r.2) (name_run (one_dot p) p false (λ b l. ap (λ c. by_class (one_dot p) b c) l) n)), refl)
path_run (next_bracket u w p is q k) =
    let r = path_run q in
    (done (more p false is), after_run u w start r.0 _ r.1 (bracket_run r.0 p false (on_opening r.0 p r.2) k), refl)
path_run (next_deep_name u w p q n) =
    let r = path_run q in
    (word p true w, after_run u (46 ∷ 46 ∷ w) start r.0 _ r.1 (first_byte 46 (46 ∷ w) r.0 (one_dot p) _ (on_dot r.0 p r.2) (first_byte 46 w (one_dot p) (two_dots p) _ refl (name_run (two_dots p) p true (λ b l. ap (λ c. by_class (two_dots p) b c) l) n))), refl)
path_run (next_deep_bracket u w p is q k) =
    let r = path_run q in
    (done (more p true is), after_run u (46 ∷ 46 ∷ w) start r.0 _ r.1 (first_byte 46 (46 ∷ w) r.0 (one_dot p) _ (on_dot r.0 p r.2) (first_byte 46 w (one_dot p) (two_dots p) _ refl (bracket_run (two_dots p) p true refl k))), refl)
