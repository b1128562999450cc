-- Listeners by their numbers, which ascend.
use Rattle.std.proofs.Common.{◌≡◌, ◌≢◌, ◌⊎◌, inl, inr, ◌∙◌, ℕ, zero, suc, ◌<◌, ◌≤◌, List, [], ◌∷◌, length, get_or, Bool, true, false, cond, ◌||◌, refl, sym, ap, true≢false, nat_eq, nat_cmp, ne_eqb, eq-eqb, ⊎_elim, arith, filter, append-nil, Result, Ok, Err, Less, Greater}
use Rattle.std.specs.List.{All, AllPairs, flat_map}
use Rattle.std.specs.List.Sorted.{IsSearchInRange, IsBinarySearchResult}
use Rattle.std.specs.Ordering.{is_lt, is_gt, ordering_index}
use Rattle.std.proofs.lemmas.Bool.{cases_eq, cases_lt}
use Rattle.std.proofs.lemmas.Cmp.{nat_cmp_total, tied_itself}
use Rattle.std.proofs.lemmas.Grind.{common_steps}
use Rattle.std.proofs.lemmas.Map.Lookups.{exact_unsigned}
use Rattle.cs_codes.specs.Codes.{is_among}
use Rattle.cs_listen.specs.Posted.{IsNumberPlace, numbers}
use Rattle.cs_listen.specs.declared.listening.Listening.{Listening}

abbrev pub Rise : List Listening → Type 0
Rise ls = AllPairs (λ a b. a.number < b.number) ls

-- ---- what a binary search by the numbers answers
less_differs : (a n : ℕ) → nat_cmp a n ≡ Less → a ≢ n
less_differs a n h is = true≢false (ap is_lt (sym h ∙ ap (λ m. nat_cmp m n) is ∙ tied_itself nat_cmp_total n))

greater_differs : (a n : ℕ) → nat_cmp a n ≡ Greater → a ≢ n
greater_differs a n h is = true≢false (ap is_gt (sym h ∙ ap (λ m. nat_cmp m n) is ∙ tied_itself nat_cmp_total n))

index_rises : (a b n : ℕ) → a ≤ b → ordering_index (nat_cmp a n) ≤ ordering_index (nat_cmp b n)
index_rises a b n h = grind (arith, common_steps)

rises : (n : ℕ) (ls : List Listening) → Rise ls → (i j : ℕ) (d : Listening) → i ≤ j → j < length ls → ordering_index (nat_cmp (get_or ls i d).number n) ≤ ordering_index (nat_cmp (get_or ls j d).number n)
rises n ls h i j d le low =
    index_rises _ _ n (⊎_elim (λ (is : i ≡ j). let s = ap (λ k. (get_or ls k d).number) is in omega (arith, s)) (λ (differs : i ≢ j). let l = h i j d (omega (arith, le, differs)) low in omega (arith, l)) (cases_eq i j))

not_numbered : (n : ℕ) (ls : List Listening) → All (λ l. l.number ≢ n) ls → is_among n (numbers ls) ≡ false
not_numbered n [] h = refl
not_numbered n (l ∷ ls) h = (λ i. ne_eqb n l.number (λ s. h 0 l (omega arith) (sym s)) i || not_numbered n ls (λ k d low. h (suc k) d (omega arith)) i)

pub sought_number : (n : ℕ) (ls : List Listening) → Rise ls → (r : Result ℕ ℕ) → IsSearchInRange r (length ls) → IsBinarySearchResult (λ (l : Listening). nat_cmp l.number n) ls r → IsNumberPlace n ls r
sought_number n ls h (Ok i) l e = (l, λ d. exact_unsigned _ _ (e d))
sought_number n ls h (Err i) l e =
    let p = e (rises n ls h) in
    not_numbered n ls (λ k d low. ⊎_elim (λ below. less_differs _ n (p.0 k d (omega arith) below)) (λ above. greater_differs _ n (p.1 k d above low)) (cases_lt k i))

-- ---- those of a number are the one that stands there, or none
pub none_numbered : (n : ℕ) (ls : List Listening) → is_among n (numbers ls) ≡ false → filter (λ l. nat_eq n l.number) ls ≡ []
none_numbered n [] h = refl
none_numbered n (l ∷ ls) h = by_test (none_numbered n ls) (nat_eq n l.number) refl where
  by_test : (is_among n (numbers ls) ≡ false → filter (λ x. nat_eq n x.number) ls ≡ []) → (b : Bool) → nat_eq n l.number ≡ b
      → cond b (l ∷ filter (λ x. nat_eq n x.number) ls) (filter (λ x. nat_eq n x.number) ls) ≡ []
  by_test rest true e = absurd (true≢false (sym (ap (λ b. b || is_among n (numbers ls)) e) ∙ h))
  by_test rest false e = rest (ap (λ b. b || is_among n (numbers ls)) (sym e) ∙ h)

pub one_numbered : (n : ℕ) (ls : List Listening) (i : ℕ) (d : Listening) → Rise ls → i < length ls
    → (get_or ls i d).number ≡ n → filter (λ l. nat_eq n l.number) ls ≡ get_or ls i d ∷ []
one_numbered n [] i d rise low is = absurd (omega arith)
one_numbered n (l ∷ ls) zero d rise low is =
    ap (λ b. cond b (l ∷ filter (λ x. nat_eq n x.number) ls) (filter (λ x. nat_eq n x.number) ls)) (eq-eqb n l.number (sym is))
    ∙ ap (λ xs. l ∷ xs) (none_numbered n ls (not_numbered n ls (λ k e h same. let up = rise 0 (suc k) e (omega arith) (omega (arith, h)) in omega (arith, up, is, same))))
one_numbered n (l ∷ ls) (suc i) d rise low is =
    let apart : n ≢ l.number = λ same. let up = rise 0 (suc i) d (omega arith) low in omega (arith, up, is, same) in
    ap (λ b. cond b (l ∷ filter (λ x. nat_eq n x.number) ls) (filter (λ x. nat_eq n x.number) ls)) (ne_eqb n l.number apart)
    ∙ one_numbered n ls i d (λ a b e lo hi. rise (suc a) (suc b) e (omega (arith, lo)) (omega (arith, hi))) (omega (arith, low)) is

module _ {E : Type 0} (part : Listening → List E) where
  pub part_of_one : (n : ℕ) (ls : List Listening) (i : ℕ) (d : Listening) → Rise ls → i < length ls
      → (get_or ls i d).number ≡ n → flat_map part (filter (λ l. nat_eq n l.number) ls) ≡ part (get_or ls i d)
  part_of_one n ls i d rise low is =
      ap (flat_map part) (one_numbered n ls i d rise low is) ∙ append-nil (part (get_or ls i d))

-- ---- of two that have one number the places are one
pub same_place : (ls : List Listening) (i j : ℕ) (d : Listening) → Rise ls → i < length ls → j < length ls
    → (get_or ls i d).number ≡ (get_or ls j d).number → i ≡ j
same_place ls i j d rise low high is = grind_places (cases_lt i j) (cases_lt j i) where
  grind_places : ((i < j) ⊎ (j ≤ i)) → ((j < i) ⊎ (i ≤ j)) → i ≡ j
  grind_places (inl lt) other = absurd (let up = rise i j d lt high in omega (arith, up, is))
  grind_places (inr le) (inl lt) = absurd (let up = rise j i d lt low in omega (arith, up, is))
  grind_places (inr le) (inr ge) = omega (arith, le, ge)
