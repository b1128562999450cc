-- Elements of ascending numbers, one after the other, found by numbers that ascend.
use Rattle.std.proofs.Common.{◌≡◌, ◌∙◌, ℕ, ◌<◌, suc, List, [], ◌∷◌, ◌++◌, Bool, true, false, cond, ◌||◌, refl, sym, ap, Less, nat_cmp, nat_eq, eqb-true, true≢false, append_assoc, filter, arith}
use Rattle.std.proofs.lemmas.Grind.{common_steps}
use Rattle.std.specs.List.{All, AllByRecursion, AllPairs, flat_map}
use Rattle.std.specs.List.Sorted.{IsStrictlySortedBy}
use Rattle.cs_codes.specs.Codes.{is_among}

less_lt : (a b : ℕ) → nat_cmp a b ≡ Less → a < b
less_lt a b h = grind (arith, common_steps, h)

not_itself : (a b : ℕ) → nat_cmp a b ≡ Less → nat_eq a b ≡ false
not_itself a b h = grind (arith, common_steps, h)

-- what stands below some numbers is none of them
pub not_among : (n : ℕ) (ks : List ℕ) → AllByRecursion (λ k. nat_cmp n k ≡ Less) ks → is_among n ks ≡ false
not_among n [] h = refl
not_among n (k ∷ ks) h = ap (λ b. b || is_among n ks) (not_itself n k h.0) ∙ not_among n ks h.1

-- and below each of them
among_above : (n m : ℕ) (ks : List ℕ) → AllByRecursion (λ k. nat_cmp n k ≡ Less) ks → is_among m ks ≡ true → n < m
among_above n m [] h among = absurd (true≢false (sym among))
among_above n m (k ∷ ks) h among = by_test (among_above n m ks h.1) (nat_eq m k) refl where
  by_test : (is_among m ks ≡ true → n < m) → (b : Bool) → nat_eq m k ≡ b → n < m
  by_test rest true e = let same = eqb-true m k e in let low = less_lt n k h.0 in omega (arith, same, low)
  by_test rest false e = rest (ap (λ b. b || is_among m ks) (sym e) ∙ among)

module _ {X E : Type 0} (number : X → ℕ) (part : X → List E) where
  abbrev pub Rise : List X → Type 0
  Rise xs = AllPairs (λ a b. number a < number b) xs

  -- the parts of those that have the number
  abbrev pub of_number : List X → ℕ → List E
  of_number xs n = flat_map part (filter (λ x. nat_eq n (number x)) xs)

  abbrev pub of_numbers : List X → List ℕ → List E
  of_numbers xs ks = flat_map part (filter (λ x. is_among (number x) ks) xs)

  others : (x : X) (xs : List X) → Rise (x ∷ xs) → Rise xs
  others x xs h = λ i j d low high. h (suc i) (suc j) d (omega (arith, low)) (omega (arith, high))

  above : (x : X) (xs : List X) → Rise (x ∷ xs) → All (λ y. number x < number y) xs
  above x xs h = λ k d low. h 0 (suc k) d (omega arith) (omega (arith, low))

  none_of : (n : ℕ) (xs : List X) → All (λ y. n < number y) xs → of_number xs n ≡ []
  none_of n [] h = refl
  none_of n (x ∷ xs) h =
      by_test (none_of n xs (λ k d low. h (suc k) d (omega (arith, low)))) (nat_eq n (number x)) refl
    where
      by_test : of_number xs n ≡ [] → (b : Bool) → nat_eq n (number x) ≡ b → flat_map part (cond b (x ∷ filter (λ y. nat_eq n (number y)) xs) (filter (λ y. nat_eq n (number y)) xs)) ≡ []
      by_test rest true e = let same = eqb-true n (number x) e in let low = h 0 x (omega arith) in absurd (omega (arith, same, low))
      by_test rest false e = rest

  abbrev one : Bool → X → List E → List E
  one b x es = cond b (part x ++ es) es

  part_first : (b : Bool) (x : X) (xs : List X) → flat_map part (cond b (x ∷ xs) xs) ≡ one b x (flat_map part xs)
  part_first true x xs = refl
  part_first false x xs = refl

  -- one number more, below the others
  one_more : (n : ℕ) (ks : List ℕ) (xs : List X) → AllByRecursion (λ k. nat_cmp n k ≡ Less) ks → Rise xs
      → of_numbers xs (n ∷ ks) ≡ of_number xs n ++ of_numbers xs ks
  one_more n ks [] low rise = refl
  one_more n ks (x ∷ xs) low rise =
      part_first (nat_eq (number x) n || is_among (number x) ks) x (filter (λ y. is_among (number y) (n ∷ ks)) xs)
      ∙ by_tests (one_more n ks xs low (others x xs rise)) (nat_eq (number x) n) (is_among (number x) ks) refl refl
      ∙ sym (ap (λ es. es ++ of_numbers (x ∷ xs) ks) (part_first (nat_eq n (number x)) x (filter (λ y. nat_eq n (number y)) xs)))
    where
      turned : (b : Bool) → nat_eq (number x) n ≡ b → nat_eq n (number x) ≡ b
      turned b e = grind (arith, common_steps, e)

      by_tests : of_numbers xs (n ∷ ks) ≡ of_number xs n ++ of_numbers xs ks → (a b : Bool) → nat_eq (number x) n ≡ a → is_among (number x) ks ≡ b
          → one (a || b) x (of_numbers xs (n ∷ ks)) ≡ one (nat_eq n (number x)) x (of_number xs n) ++ of_numbers (x ∷ xs) ks
      by_tests rest true b e f =
          let same : number x ≡ n = eqb-true (number x) n e in
          let none : is_among (number x) ks ≡ false = ap (λ m. is_among m ks) same ∙ not_among n ks low in
          ap (λ es. part x ++ es) rest
          ∙ sym (append_assoc (part x) (of_number xs n) (of_numbers xs ks))
          ∙ sym (ap (λ c. one c x (of_number xs n) ++ of_numbers xs ks) (turned true e))
          ∙ sym (ap (λ es. one (nat_eq n (number x)) x (of_number xs n) ++ es)
          (part_first (is_among (number x) ks) x (filter (λ y. is_among (number y) ks) xs) ∙ ap (λ c. one c x (of_numbers xs ks)) none))
      by_tests rest false true e f =
          let higher : n < number x = among_above n (number x) ks low f in
          let all : All (λ y. n < number y) xs = λ k d h. let up = above x xs rise k d h in omega (arith, higher, up) in
          ap (λ es. part x ++ es) (rest ∙ ap (λ es. es ++ of_numbers xs ks) (none_of n xs all))
          ∙ sym (ap (λ c. one c x (of_numbers xs ks)) f)
          ∙ sym (part_first (is_among (number x) ks) x (filter (λ y. is_among (number y) ks) xs))
          ∙ sym (ap (λ es. es ++ of_numbers (x ∷ xs) ks) (ap (λ c. one c x (of_number xs n)) (turned false e) ∙ none_of n xs all))
      by_tests rest false false e f =
          rest
          ∙ sym (ap (λ es. of_number xs n ++ es) (part_first (is_among (number x) ks) x (filter (λ y. is_among (number y) ks) xs) ∙ ap (λ c. one c x (of_numbers xs ks)) f))
          ∙ sym (ap (λ c. one c x (of_number xs n) ++ of_numbers (x ∷ xs) ks) (turned false e))

  nothing : (xs : List X) → of_numbers xs [] ≡ []
  nothing [] = refl
  nothing (x ∷ xs) = nothing xs

  -- those of numbers that ascend stand in the order of the elements
  pub merged : (xs : List X) (ks : List ℕ) → Rise xs → IsStrictlySortedBy nat_cmp ks
      → flat_map (of_number xs) ks ≡ of_numbers xs ks
  unfolding IsStrictlySortedBy
  merged xs [] rise sorted = sym (nothing xs)
  merged xs (k ∷ ks) rise sorted =
      ap (λ es. of_number xs k ++ es) (merged xs ks rise sorted.1) ∙ sym (one_more k ks xs sorted.0 rise)

  -- elements without parts may be left out
  pub left_out : (p : X → Bool) (xs : List X) → All (λ x. p x ≡ false → part x ≡ []) xs
      → flat_map part (filter p xs) ≡ flat_map part xs
  left_out p [] h = refl
  left_out p (x ∷ xs) h =
      part_first (p x) x (filter p xs) ∙ by_test (p x) refl (left_out p xs (λ k d low. h (suc k) d (omega (arith, low))))
    where
      by_test : (b : Bool) → p x ≡ b → flat_map part (filter p xs) ≡ flat_map part xs → one b x (flat_map part (filter p xs)) ≡ part x ++ flat_map part xs
      by_test true e rest = ap (λ es. part x ++ es) rest
      by_test false e rest = rest ∙ sym (ap (λ es. es ++ flat_map part xs) (h 0 x (omega arith) e))
