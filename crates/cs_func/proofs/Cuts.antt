-- A text cut at the places that a search finds.
use Rattle.std.proofs.Common.{◌≡◌, ◌≢◌, ℕ, zero, suc, ◌-◌, ◌<◌, ◌≤◌, List, [], ◌∷◌, ◌++◌, length, take, drop, true, false, nat_eq, refl, sym, ap, ◌∙◌, subst, arith}
use Rattle.std.specs.List.{starts_with, onto_first}
use Rattle.std.specs.Str.Pattern.{LacksTextAt, HasTextAt}
use Rattle.std.proofs.lemmas.Slice.Eq.{bytes_eq-Decides}
use Rattle.std.proofs.lemmas.Bool.{false_from_ne_true}
use Rattle.cs_func.specs.Texts.{cut}

take_front : (n rest : List ℕ) → take (length n) (n ++ rest) ≡ n
take_front [] rest = refl
take_front (x ∷ n) rest = ap (λ xs. x ∷ xs) (take_front n rest)

starts-front : (n rest : List ℕ) → starts_with nat_eq (n ++ rest) n ≡ true
starts-front n rest = (bytes_eq-Decides n (take (length n) (n ++ rest))).1 (sym (take_front n rest))

parts-back : (i : ℕ) (xs : List ℕ) → take i xs ++ drop i xs ≡ xs
parts-back zero [] = refl
parts-back zero (x ∷ xs) = refl
parts-back (suc i) [] = refl
parts-back (suc i) (x ∷ xs) = ap (λ ys. x ∷ ys) (parts-back i xs)

starts-lacks : (n xs : List ℕ) → ((rest : List ℕ) → xs ≢ n ++ rest) → starts_with nat_eq xs n ≡ false
starts-lacks n xs h = false_from_ne_true _ (λ t.
    let same : n ≡ take (length n) xs = (bytes_eq-Decides n (take (length n) xs)).0 t in
    h (drop (length n) xs) (sym (parts-back (length n) xs) ∙ ap (λ ys. ys ++ drop (length n) xs) (sym same)))

passed : (separator xs v : List ℕ) → cut separator (length xs) (xs ++ v) ≡ cut separator 0 v
passed separator [] v = refl
passed separator (x ∷ xs) v = passed separator xs v

pub cut-none : (separator xs : List ℕ) → ((i : ℕ) → i ≤ length xs → LacksTextAt separator xs i) → cut separator 0 xs ≡ xs ∷ []
cut-none separator [] h = refl
cut-none separator (b ∷ bs) h =
    rw (starts-lacks separator (b ∷ bs) (h 0 (omega arith))) (ap (onto_first b) (cut-none separator bs (λ i l. h (suc i) (omega arith))))

cut-found : (c : ℕ) (cs u v : List ℕ) → ((i : ℕ) → i < length u → LacksTextAt (c ∷ cs) (u ++ (c ∷ cs ++ v)) i) → cut (c ∷ cs) 0 (u ++ (c ∷ cs ++ v)) ≡ u ∷ cut (c ∷ cs) 0 v
cut-found c cs [] v h =
    let n : length (c ∷ cs) - 1 ≡ length cs = omega arith in
    rw (starts-front (c ∷ cs) v, n) (ap (λ ps. [] ∷ ps) (passed (c ∷ cs) cs v))
cut-found c cs (x ∷ u) v h =
    rw (starts-lacks (c ∷ cs) (x ∷ u ++ (c ∷ cs ++ v)) (h 0 (omega arith))) (ap (onto_first x) (cut-found c cs u v (λ i l. h (suc i) (omega arith))))

-- the first part, and the cut of what stands behind the separator
pub cut-first : (separator xs u v : List ℕ) (i j : ℕ) → 0 < length separator → ((k : ℕ) → k < i → LacksTextAt separator xs k) → HasTextAt separator xs i j → u ≡ take i xs → v ≡ drop j xs → length u ≡ i → cut separator 0 xs ≡ u ∷ cut separator 0 v
cut-first [] xs u v i j some lacks has front back long = absurd (omega arith)
cut-first (c ∷ cs) xs u v i j some lacks has front back long =
    let whole : xs ≡ u ++ (c ∷ cs ++ v) = sym (parts-back i xs) ∙ ap (λ ys. ys ++ drop i xs) (sym front) ∙ ap (λ ys. u ++ ys) (has.split ∙ ap (λ ys. c ∷ cs ++ ys) (sym back)) in
    ap (cut (c ∷ cs) 0) whole
    ∙ cut-found c cs u v (λ k l. subst (λ (ys : List ℕ). LacksTextAt (c ∷ cs) ys k) whole (lacks k (omega arith)))
