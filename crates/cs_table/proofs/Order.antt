-- Rows in ascending order of their names: each is below those behind it, so a binary search finds
-- a name, or the place where it is missing.
use Rattle.std.proofs.Common.{◌≡◌, ℕ, zero, suc, ◌<◌, ◌≤◌, List, [], ◌∷◌, length, map, Bool, true, false, refl, sym, ap, ◌∙◌, subst, arith, true≢false, get_or, ⊎_elim}
use Rattle.std.proofs.lemmas.Bool.{cases_lt}
use Rattle.std.proofs.lemmas.Map.Lookups.{exact_bytes}
use Rattle.std.specs.Prelude.{◌&&◌, None, Some, find}
use Rattle.std.specs.Ordering.{nat_cmp, is_lt, is_eq, ordering_index}
use Rattle.std.specs.List.Sorted.{IsNonDecreasingBy, IsPartitionPoint}
use Rattle.std.specs.declared.cmp.Ordering.{Ordering}
use Rattle.std.specs.declared.cmp.Ordering.TheVariants.{Less, Equal, Greater}
use Rattle.std.specs.Cmp.Lexicographic.{slice_cmp}
use Rattle.std.proofs.lemmas.Cmp.{nat_list_cmp_total, tied_itself}
use Rattle.cs_table.specs.Row.{row_of}
use Rattle.cs_table.specs.Ascending.{ascends, IsAscending}

is_lt_is : (o : Ordering) → is_lt o ≡ true → o ≡ Less
is_lt_is Less h = refl
is_lt_is Equal h = absurd (true≢false (sym h))
is_lt_is Greater h = absurd (true≢false (sym h))

both : (a b : Bool) → (a && b) ≡ true → (a ≡ true) × (b ≡ true)
both true b h = (refl, h)
both false b h = absurd (true≢false (sym h))

first_below : {A : Type 0} (called : A → List ℕ) (x : A) (ys : List A) →
    ascends (map called (x ∷ ys)) ≡ true → (j : ℕ) (d : A) → j < length ys →
    slice_cmp nat_cmp (called x) (called (get_or ys j d)) ≡ Less
first_below called x [] h j d l = absurd (omega arith)
first_below called x (y ∷ ys) h zero d l =
    is_lt_is _ (both (is_lt (slice_cmp nat_cmp (called x) (called y)))
    (ascends (map called (y ∷ ys))) h).0
first_below called x (y ∷ ys) h (suc j) d l =
    let p = both (is_lt (slice_cmp nat_cmp (called x) (called y))) (ascends (map called (y ∷ ys)))
    h in
    nat_list_cmp_total.trans (called x) (called y) _ (is_lt_is _ p.0)
    (first_below called y ys p.1 j d (omega arith))

rest_ascends : {A : Type 0} (called : A → List ℕ) (x : A) (ys : List A) →
    ascends (map called (x ∷ ys)) ≡ true → ascends (map called ys) ≡ true
rest_ascends called x [] h = refl
rest_ascends called x (y ∷ ys) h =
    (both (is_lt (slice_cmp nat_cmp (called x) (called y))) (ascends (map called (y ∷ ys))) h).1

-- an earlier row's name is below a later one's
pub in_order : {A : Type 0} (called : A → List ℕ) (rows : List A) →
    ascends (map called rows) ≡ true → (i j : ℕ) (d e : A) → i < j → j < length rows →
    slice_cmp nat_cmp (called (get_or rows i d)) (called (get_or rows j e)) ≡ Less
in_order called [] h i j d e l m = absurd (omega arith)
in_order called (x ∷ rows) h zero zero d e l m = absurd (omega arith)
in_order called (x ∷ rows) h zero (suc j) d e l m = first_below called x rows h j e (omega arith)
in_order called (x ∷ rows) h (suc i) zero d e l m = absurd (omega arith)
in_order called (x ∷ rows) h (suc i) (suc j) d e l m =
    in_order called rows (rest_ascends called x rows h) i j d e (omega arith) (omega arith)

bounded : (o : Ordering) → ordering_index o ≤ 2
bounded Less = omega arith
bounded Equal = omega arith
bounded Greater = omega arith

-- of two names the lower one has no higher rank beside a third
rank_rises : (x y name : List ℕ) → slice_cmp nat_cmp x y ≡ Less →
    ordering_index (slice_cmp nat_cmp x name) ≤ ordering_index (slice_cmp nat_cmp y name)
rank_rises x y name h = beside (slice_cmp nat_cmp y name) refl
  where
    beside : (o : Ordering) → slice_cmp nat_cmp y name ≡ o →
        ordering_index (slice_cmp nat_cmp x name) ≤ ordering_index o
    beside Less e = let is : slice_cmp nat_cmp x name ≡ Less =
        nat_list_cmp_total.trans x y name h e in rw is (omega arith)
    beside Equal e = let is : slice_cmp nat_cmp x name ≡ Less =
        subst (λ (z : List ℕ). slice_cmp nat_cmp x z ≡ Less) (exact_bytes y name e) h in
        rw is (omega arith)
    beside Greater e = bounded (slice_cmp nat_cmp x name)

-- the comparisons with a name rise along the rows, as a binary search asks
pub rises : {A : Type 0} (called : A → List ℕ) (rows : List A) (name : List ℕ) →
    IsAscending (map called rows) →
    IsNonDecreasingBy (λ (r : A). ordering_index (slice_cmp nat_cmp (called r) name)) rows
rises {A = A} called rows name h i j d le l =
    ⊎_elim (λ (lt : i < j). rank_rises (called (get_or rows i d)) (called (get_or rows j d)) name
    (in_order called rows h i j d d lt l))
    (λ (ge : j ≤ i). let same : i ≡ j = omega arith in rw same (omega arith))
    (cases_lt i j)

-- the names before a place are below the sought one, and those from it on above
abbrev pub IsGapFor : {A : Type 0} (called : A →
    List ℕ) (rows : List A) (name : List ℕ) (place : ℕ) → Type 0
IsGapFor {A} called rows name place =
    IsPartitionPoint (λ (r : A). slice_cmp nat_cmp (called r) name
    ≡ Less) (λ (r : A). slice_cmp nat_cmp (called r) name ≡ Greater) rows place

-- where all rows are below or above the name, none has it
pub none_named : {A : Type 0} (called : A → List ℕ) (rows : List A) (name : List ℕ) (place : ℕ) →
    IsGapFor called rows name place → (k : ℕ) (d : A) → k < length rows →
    called (get_or rows k d) ≡ name → ⊥
none_named called rows name place gap k d lt is =
    let tied : slice_cmp nat_cmp (called (get_or rows k d)) name ≡ Equal =
    ap (λ (x : List ℕ). slice_cmp nat_cmp x name) is ∙ tied_itself nat_list_cmp_total name in
    ⊎_elim (λ (h : k < place). let e : Less ≡ Equal = sym (gap.0 k d (omega arith) h) ∙ tied in
    absurd (cc))
    (λ (h : place ≤ k). let e : Greater ≡ Equal = sym (gap.1 k d h lt) ∙ tied in absurd (cc))
    (cases_lt k place)

pub is_named : (x name : List ℕ) → slice_cmp nat_cmp x name ≡ Equal → x ≡ name
is_named x name h = exact_bytes x name h

first_passing : {A : Type 0} (p : A → Bool) (rows : List A) (m : ℕ) (d : A) → m < length rows →
    ((i : ℕ) → i < m → p (get_or rows i d) ≡ false) → p (get_or rows m d) ≡ true →
    find p rows ≡ Some (get_or rows m d)
first_passing p [] m d l before here = absurd (omega arith)
first_passing p (x ∷ rows) zero d l before here = rw here refl
first_passing p (x ∷ rows) (suc m) d l before here =
    rw (before zero (omega arith))
    (first_passing p rows m d (omega arith) (λ i h. before (suc i) (omega arith)) here)

none_passing : {A : Type 0} (p : A → Bool) (rows : List A) →
    ((i : ℕ) (d : A) → i < length rows → p (get_or rows i d) ≡ false) → find p rows ≡ None
none_passing p [] none = refl
none_passing p (x ∷ rows) none =
    rw (none zero x (omega arith)) (none_passing p rows (λ i d h. none (suc i) d (omega arith)))

-- the row at a place is that of the name where those before it are below
pub row_found : {A : Type 0} (called : A →
    List ℕ) (rows : List A) (name : List ℕ) (m : ℕ) (d : A) → m < length rows →
    IsAscending (map called rows) → slice_cmp nat_cmp (called (get_or rows m d)) name ≡ Equal →
    Some (get_or rows m d) ≡ row_of called name rows
row_found called rows name m d l h is =
    let same : called (get_or rows m d) ≡ name = is_named _ name is in
    sym (first_passing (λ r. is_eq (slice_cmp nat_cmp (called r) name)) rows m d l
    (λ i k. ap is_eq (subst (λ (x : List ℕ). slice_cmp nat_cmp (called (get_or rows i d)) x
    ≡ Less) same (in_order called rows h i m d d k l))) (ap is_eq is))

-- no row is that of the name where all are below or above it
pub row_missing : {A : Type 0} (called : A → List ℕ) (rows : List A) (name : List ℕ) (place : ℕ) →
    IsGapFor called rows name place → None ≡ row_of called name rows
row_missing called rows name place gap =
    sym (none_passing (λ r. is_eq (slice_cmp nat_cmp (called r) name)) rows (λ k d lt.
    ⊎_elim (λ (h : k < place). ap is_eq (gap.0 k d (omega arith) h))
    (λ (h : place ≤ k). ap is_eq (gap.1 k d h lt)) (cases_lt k place)))
