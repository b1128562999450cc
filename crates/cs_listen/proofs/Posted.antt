-- Postings by their codes: which stand under one, and what is put among them and taken out.
use Rattle.std.proofs.Common.{◌≡◌, ◌∙◌, ℕ, zero, suc, ◌<◌, ◌≤◌, List, [], ◌∷◌, ◌++◌, length, get_or, take, drop, Bool, true, false, cond, ◌&&◌, ◌||◌, not, Some, refl, sym, ap, nat_eq, ltb, leb, eq-eqb, eqb, eqb-true, filter, arith}
use Rattle.std.proofs.lemmas.Grind.{common_steps}
use Rattle.std.proofs.lemmas.List.Folds.{list_any-append}
use Rattle.std.specs.List.{dedup, dedup_from, insert, list_any, slice_get}
use Rattle.cs_codes.specs.Codes.{is_among}
use Rattle.cs_listen.specs.Posted.{Ascend, is_posted}
use Rattle.cs_listen.specs.declared.postings.Posting.{Posting}

-- ---- numbers
or_swap : (a b : Bool) → (a || (b || false)) ≡ (b || a)
or_swap true true = refl
or_swap true false = refl
or_swap false true = refl
or_swap false false = refl

or_turn : (a b r : Bool) → (a || (b || r)) ≡ (b || (a || r))
or_turn true true r = refl
or_turn true false r = refl
or_turn false true r = refl
or_turn false false r = refl

-- one number more
pub among_last : (n x : ℕ) (xs : List ℕ) → is_among n (xs ++ x ∷ []) ≡ (nat_eq n x || is_among n xs)
among_last n x xs = list_any-append (λ y. nat_eq n y) xs (x ∷ []) ∙ or_swap (is_among n xs) (nat_eq n x)

-- where neighbours that are the same are one, the same numbers are there
among_from : (n k : ℕ) (xs : List ℕ) → is_among n (dedup_from eqb k xs) ≡ (nat_eq n k || is_among n xs)
among_from n k [] = refl
among_from n k (x ∷ xs) = by_test (eqb x k) refl (among_from n k xs) (among_from n x xs) where
  again : (a r : Bool) → (a || r) ≡ (a || (a || r))
  again true r = refl
  again false r = refl

  by_test : (b : Bool) → eqb x k ≡ b
      → is_among n (dedup_from eqb k xs) ≡ (nat_eq n k || is_among n xs)
      → is_among n (dedup_from eqb x xs) ≡ (nat_eq n x || is_among n xs)
      → is_among n (cond b (dedup_from eqb k xs) (k ∷ dedup_from eqb x xs)) ≡ (nat_eq n k || (nat_eq n x || is_among n xs))
  by_test true e same other = same ∙ again (nat_eq n k) (is_among n xs)
      ∙ ap (λ y. nat_eq n k || (nat_eq n y || is_among n xs)) (sym (eqb-true x k e))
  by_test false e same other = ap (λ b. nat_eq n k || b) other

pub among_once : (n : ℕ) (xs : List ℕ) → is_among n (dedup eqb xs) ≡ is_among n xs
among_once n [] = refl
among_once n (x ∷ xs) = among_from n x xs

-- ---- codes
pub not_less : (a c : ℕ) → ltb a c ≡ false → c ≤ a
not_less a c h = grind (arith, common_steps, h)

pub not_at_most : (a c : ℕ) → leb a c ≡ false → c < a
not_at_most a c h = grind (arith, common_steps, h)

low_apart : (a c : ℕ) → a < c → nat_eq c a ≡ false
low_apart a c h = grind (arith, common_steps, h)

high_apart : (a c : ℕ) → c < a → nat_eq c a ≡ false
high_apart a c h = grind (arith, common_steps, h)

module _ (c n : ℕ) where
  abbrev is_one : Posting → Bool
  is_one p = nat_eq c p.code && nat_eq n p.number

  -- those of lower codes may be passed over
  pub passed_below : (k : ℕ) (ps : List Posting)
      → ((i : ℕ) (d : Posting) → i < k → i < length ps → (get_or ps i d).code < c)
      → is_posted c n ps ≡ is_posted c n (drop k ps)
  passed_below zero ps h = refl
  passed_below (suc k) [] h = refl
  passed_below (suc k) (p ∷ ps) h =
      ap (λ b. (b && nat_eq n p.number) || is_posted c n ps) (low_apart p.code c (h 0 p (omega arith) (omega arith)))
      ∙ passed_below k ps (λ i d low within. h (suc i) d (omega (arith, low)) (omega (arith, within)))

  none_above : (ps : List Posting) → ((i : ℕ) (d : Posting) → i < length ps → c < (get_or ps i d).code)
      → is_posted c n ps ≡ false
  none_above [] h = refl
  none_above (p ∷ ps) h =
      ap (λ b. (b && nat_eq n p.number) || is_posted c n ps) (high_apart p.code c (h 0 p (omega arith)))
      ∙ none_above ps (λ i d within. h (suc i) d (omega (arith, within)))

  -- where the first of those of this code and higher ones is not of this one, none is
  pub none_begins : (ps : List Posting) (p : Posting) → Some p ≡ slice_get ps 0 → Ascend ps
      → ((i : ℕ) (d : Posting) → i < length ps → c ≤ (get_or ps i d).code) → nat_eq p.code c ≡ false
      → is_posted c n ps ≡ false
  none_begins [] p is h least e = refl
  none_begins (q ∷ ps) p is h least e =
      let same : p ≡ q = cc in
      let least_of_all = least 0 q (omega arith) in
      let apart : c < q.code = grind (arith, common_steps, e, same, least_of_all) in
      none_above (q ∷ ps) (λ i d low. let up = h 0 i d (omega arith) low in omega (arith, up, apart))

  -- those of higher codes may be left out
  pub passed_above : (m : ℕ) (ps : List Posting)
      → ((i : ℕ) (d : Posting) → m ≤ i → i < length ps → c < (get_or ps i d).code)
      → is_posted c n ps ≡ is_posted c n (take m ps)
  passed_above zero ps h = none_above ps (λ i d within. h i d (omega arith) within)
  passed_above (suc m) [] h = refl
  passed_above (suc m) (p ∷ ps) h =
      ap (λ b. is_one p || b) (passed_above m ps (λ i d low within. h (suc i) d (omega (arith, low)) (omega (arith, within))))

  -- of those of one code the number tells
  pub of_one_code : (ps : List Posting) → ((i : ℕ) (d : Posting) → i < length ps → (get_or ps i d).code ≡ c)
      → is_posted c n ps ≡ list_any (λ p. nat_eq n p.number) ps
  of_one_code [] h = refl
  of_one_code (p ∷ ps) h =
      ap (λ b. (b && nat_eq n p.number) || is_posted c n ps) (eq-eqb c p.code (sym (h 0 p (omega arith))))
      ∙ ap (λ b. nat_eq n p.number || b) (of_one_code ps (λ i d within. h (suc i) d (omega (arith, within))))

  -- one more, wherever it stands
  pub posted_more : (ps : List Posting) (i : ℕ) (p : Posting) → i ≤ length ps
      → is_posted c n (insert ps i p) ≡ (is_one p || is_posted c n ps)
  posted_more ps zero p h = refl
  posted_more [] (suc i) p h = absurd (omega (arith, h))
  posted_more (q ∷ ps) (suc i) p h =
      ap (λ b. is_one q || b) (posted_more ps i p (omega (arith, h))) ∙ or_turn (is_one q) (is_one p) (is_posted c n ps)

  -- those of other numbers stay
  pub posted_still : (number : ℕ) (ps : List Posting)
      → is_posted c n (filter (λ p. not (nat_eq p.number number)) ps) ≡ cond (nat_eq n number) false (is_posted c n ps)
  posted_still number [] = never (nat_eq n number) where
    never : (b : Bool) → false ≡ cond b false false
    never true = refl
    never false = refl
  posted_still number (p ∷ ps) = by_tests (nat_eq p.number number) (nat_eq n number) refl refl (posted_still number ps) where
    by_tests : (a b : Bool) → nat_eq p.number number ≡ a → nat_eq n number ≡ b
        → is_posted c n (filter (λ x. not (nat_eq x.number number)) ps) ≡ cond b false (is_posted c n ps)
        → is_posted c n (cond (not a) (p ∷ filter (λ x. not (nat_eq x.number number)) ps) (filter (λ x. not (nat_eq x.number number)) ps))
        ≡ cond b false (is_one p || is_posted c n ps)
    by_tests true true e f rest = rest
    by_tests true false e f rest =
        let apart : nat_eq n p.number ≡ false = grind (arith, common_steps, e, f) in
        rest ∙ sym (ap (λ b. (nat_eq c p.code && b) || is_posted c n ps) apart ∙ ap (λ b. b || is_posted c n ps) (and_no (nat_eq c p.code)))
      where
        and_no : (b : Bool) → (b && false) ≡ false
        and_no true = refl
        and_no false = refl
    by_tests false true e f rest =
        let apart : nat_eq n p.number ≡ false = grind (arith, common_steps, e, f) in
        ap (λ b. is_one p || b) rest ∙ ap (λ b. (nat_eq c p.code && b) || false) apart ∙ ap (λ b. b || false) (and_no (nat_eq c p.code))
      where
        and_no : (b : Bool) → (b && false) ≡ false
        and_no true = refl
        and_no false = refl
    by_tests false false e f rest = ap (λ b. is_one p || b) rest
