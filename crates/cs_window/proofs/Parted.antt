-- An order by a test that passes with an element each one that does not rank behind it.
use Rattle.std.proofs.Common.{◌≡◌, ℕ, zero, suc, ◌+◌, ◌<◌, ◌≤◌, Bool, true, false, true≢false, cond, subst, List, [], ◌∷◌, ◌++◌, take, length, refl, sym, ap, ◌∙◌, Ordering, Less, Equal, Greater, is_gt, is_lt, get_or, arith}
use Rattle.std.specs.Prelude.{⊤, filter, not}
use Rattle.std.proofs.lemmas.List.{take-append-le}
use Rattle.std.proofs.lemmas.List.Sorted.{ranks_by, sorted_far}
use Rattle.std.specs.Ordering.{ordering_reverse}
use Rattle.cs_ops.proofs.Ranked.{total-laws}
use Rattle.cs_meaning.specs.Ordered.{Ranked, ranks, inserted, sorted}
use Rattle.cs_meaning.proofs.Sorting.{ranks-total, in-order}
use Rattle.cs_window.specs.Laws.{IsClosed}

inserted-many : (ds : List Bool) (x : Ranked) (ys : List Ranked) → length (inserted ds x ys) ≡ suc (length ys)
inserted-many ds x [] = refl
inserted-many ds x (y ∷ ys) = either (is_gt (ranks ds x y)) (inserted-many ds x ys)
  where
    either : (b : Bool) → length (inserted ds x ys) ≡ suc (length ys) → length (cond b (y ∷ inserted ds x ys) (x ∷ y ∷ ys)) ≡ suc (length (y ∷ ys))
    either true h = omega (arith, h)
    either false h = refl

pub sorted-many : (ds : List Bool) (xs : List Ranked) → length (sorted ds xs) ≡ length xs
sorted-many ds [] = refl
sorted-many ds (x ∷ xs) = omega (arith, inserted-many ds x (sorted ds xs), sorted-many ds xs)

turned-greater : (o : Ordering) → is_gt o ≡ true → is_gt (ordering_reverse o) ≡ false
turned-greater Less h = absurd (true≢false (sym h))
turned-greater Equal h = refl
turned-greater Greater h = refl

module _ (ds : List Bool) (passes : Ranked → Bool) (closed : IsClosed ds passes) where
  -- all pass
  abbrev Pass : List Ranked → Type 0
  Pass [] = ⊤
  Pass (x ∷ xs) = (passes x ≡ true) × Pass xs

  -- none does
  abbrev Fail : List Ranked → Type 0
  Fail [] = ⊤
  Fail (x ∷ xs) = (passes x ≡ false) × Fail xs

  inserted-pass : (x : Ranked) (ys : List Ranked) → passes x ≡ true → Pass ys → Pass (inserted ds x ys)
  inserted-pass x [] h k = (h, tt)
  inserted-pass x (y ∷ ys) h k = either (is_gt (ranks ds x y)) (inserted-pass x ys h k.1)
    where
      either : (b : Bool) → Pass (inserted ds x ys) → Pass (cond b (y ∷ inserted ds x ys) (x ∷ y ∷ ys))
      either true l = (k.0, l)
      either false l = (h, k)

  inserted-fail : (x : Ranked) (ys : List Ranked) → passes x ≡ false → Fail ys → Fail (inserted ds x ys)
  inserted-fail x [] h k = (h, tt)
  inserted-fail x (y ∷ ys) h k = either (is_gt (ranks ds x y)) (inserted-fail x ys h k.1)
    where
      either : (b : Bool) → Fail (inserted ds x ys) → Fail (cond b (y ∷ inserted ds x ys) (x ∷ y ∷ ys))
      either true l = (k.0, l)
      either false l = (h, k)

  passed : (xs : List Ranked) → Pass (sorted ds (filter passes xs))
  passed [] = tt
  passed (x ∷ xs) = either (passes x) refl (passed xs)
    where
      either : (b : Bool) → passes x ≡ b → Pass (sorted ds (filter passes xs)) → Pass (sorted ds (cond b (x ∷ filter passes xs) (filter passes xs)))
      either true h k = inserted-pass x (sorted ds (filter passes xs)) h k
      either false h k = k

  failed : (xs : List Ranked) → Fail (sorted ds (filter (λ x. not (passes x)) xs))
  failed [] = tt
  failed (x ∷ xs) = either (passes x) refl (failed xs)
    where
      either : (b : Bool) → passes x ≡ b → Fail (sorted ds (filter (λ x. not (passes x)) xs)) → Fail (sorted ds (cond (not b) (x ∷ filter (λ x. not (passes x)) xs) (filter (λ x. not (passes x)) xs)))
      either true h k = k
      either false h k = inserted-fail x (sorted ds (filter (λ x. not (passes x)) xs)) h k

  -- one that fails ranks behind one that passes, and not the other way round
  behind : (x y : Ranked) → passes x ≡ false → passes y ≡ true → is_gt (ranks ds x y) ≡ true
  behind x y h k = either (is_gt (ranks ds x y)) refl
    where
      either : (b : Bool) → is_gt (ranks ds x y) ≡ b → b ≡ true
      either true e = refl
      either false e = absurd (true≢false (sym (closed y x k e) ∙ h))

  not-behind : (x y : Ranked) → passes x ≡ true → passes y ≡ false → is_gt (ranks ds x y) ≡ false
  not-behind x y h k = ap is_gt ((ranks-total total-laws ds).antisymm x y) ∙ turned-greater (ranks ds y x) (behind y x k h)

  -- one that passes comes among those that pass, one that fails among the others
  before : (x : Ranked) (fs : List Ranked) → passes x ≡ true → Fail fs → inserted ds x fs ≡ x ∷ fs
  before x [] h l = refl
  before x (f ∷ fs) h l = ap (λ (b : Bool). cond b (f ∷ inserted ds x fs) (x ∷ f ∷ fs)) (not-behind x f h l.0)

  among : (x : Ranked) (ps fs : List Ranked) → passes x ≡ true → Fail fs → inserted ds x (ps ++ fs) ≡ inserted ds x ps ++ fs
  among x [] fs h l = before x fs h l
  among x (p ∷ ps) fs h l = either (is_gt (ranks ds x p)) (among x ps fs h l)
    where
      either : (b : Bool) → inserted ds x (ps ++ fs) ≡ inserted ds x ps ++ fs → cond b (p ∷ inserted ds x (ps ++ fs)) (x ∷ p ∷ (ps ++ fs)) ≡ cond b (p ∷ inserted ds x ps) (x ∷ p ∷ ps) ++ fs
      either true e = ap (λ (us : List Ranked). p ∷ us) e
      either false e = refl

  past : (x : Ranked) (ps fs : List Ranked) → passes x ≡ false → Pass ps → inserted ds x (ps ++ fs) ≡ ps ++ inserted ds x fs
  past x [] fs h l = refl
  past x (p ∷ ps) fs h l =
      ap (λ (b : Bool). cond b (p ∷ inserted ds x (ps ++ fs)) (x ∷ p ∷ (ps ++ fs))) (behind x p h l.0)
      ∙ ap (λ (us : List Ranked). p ∷ us) (past x ps fs h l.1)

  pub in-two : (xs : List Ranked) → sorted ds xs ≡ sorted ds (filter passes xs) ++ sorted ds (filter (λ x. not (passes x)) xs)
  in-two [] = refl
  in-two (x ∷ xs) = ap (inserted ds x) (in-two xs) ∙ either (passes x) refl
    where
      either : (b : Bool) → passes x ≡ b → inserted ds x (sorted ds (filter passes xs) ++ sorted ds (filter (λ x. not (passes x)) xs))
          ≡ sorted ds (cond b (x ∷ filter passes xs) (filter passes xs)) ++ sorted ds (cond (not b) (x ∷ filter (λ x. not (passes x)) xs) (filter (λ x. not (passes x)) xs))
      either true h = among x (sorted ds (filter passes xs)) (sorted ds (filter (λ x. not (passes x)) xs)) h (failed xs)
      either false h = past x (sorted ds (filter passes xs)) (sorted ds (filter (λ x. not (passes x)) xs)) h (passed xs)

  pass-at : (ys : List Ranked) (i : ℕ) (d : Ranked) → Pass ys → i < length ys → passes (get_or ys i d) ≡ true
  pass-at [] i d h low = absurd (omega (arith, low))
  pass-at (y ∷ ys) zero d h low = h.0
  pass-at (y ∷ ys) (suc i) d h low = pass-at ys i d h.1 (omega (arith, low))

  -- each of the order of those that pass does so
  pub all-pass : (xs : List Ranked) (i : ℕ) (d : Ranked) → i < length (filter passes xs) → passes (get_or (sorted ds (filter passes xs)) i d) ≡ true
  all-pass xs i d low = pass-at (sorted ds (filter passes xs)) i d (passed xs) (omega (arith, low, sorted-many ds (filter passes xs)))

  -- the first of the order are settled by those that pass, where these are enough
  pub first-pass : (k : ℕ) (xs : List Ranked) → k ≤ length (filter passes xs) → take k (sorted ds xs) ≡ take k (sorted ds (filter passes xs))
  first-pass k xs h =
      ap (take k) (in-two xs)
      ∙ take-append-le k (sorted ds (filter passes xs)) (sorted ds (filter (λ x. not (passes x)) xs)) (omega (arith, h, sorted-many ds (filter passes xs)))

  pub first-same : (k : ℕ) (xs ys : List Ranked) → filter passes xs ≡ filter passes ys → k ≤ length (filter passes xs) → take k (sorted ds xs) ≡ take k (sorted ds ys)
  first-same k xs ys same h =
      first-pass k xs h
      ∙ (ap (λ (us : List Ranked). take k (sorted ds us)) same
      ∙ sym (first-pass k ys (subst (λ (us : List Ranked). k ≤ length us) same h)))

  -- elements that pass stand among the first part, so that it has no fewer
  first-part : (k : ℕ) (ps fs : List Ranked) → Fail fs → k ≤ length (ps ++ fs) → ((i : ℕ) (d : Ranked) → i < k → passes (get_or (ps ++ fs) i d) ≡ true) → k ≤ length ps
  first-part zero ps fs l le h = omega arith
  first-part (suc k) [] [] l le h = omega (arith, le)
  first-part (suc k) [] (f ∷ fs) l le h = absurd (true≢false (sym (h 0 f (omega arith)) ∙ l.0))
  first-part (suc k) (p ∷ ps) fs l le h =
      let later : k ≤ length ps = first-part k ps fs l (omega (arith, le)) (λ i d low. h (suc i) d (omega (arith, low))) in
      omega (arith, later)

  pub last-passes : (xs : List Ranked) (k : ℕ) → k ≤ length xs → ((i : ℕ) (d : Ranked) → i < k → passes (get_or (sorted ds xs) i d) ≡ true) → k ≤ length (filter passes xs)
  last-passes xs k le h =
      let one = sorted ds (filter passes xs) in
      let other = sorted ds (filter (λ x. not (passes x)) xs) in
      let all : k ≤ length (one ++ other) = subst (λ (us : List Ranked). k ≤ length us) (in-two xs) (omega (arith, le, sorted-many ds xs)) in
      let few : k ≤ length one = first-part k one other (failed xs) all (λ i d low. ap (λ (us : List Ranked). passes (get_or us i d)) (sym (in-two xs)) ∙ h i d low) in
      omega (arith, few, sorted-many ds (filter passes xs))

-- an element of an order does not rank behind a later one
same-at : (xs : List Ranked) (i : ℕ) (d e : Ranked) → i < length xs → get_or xs i d ≡ get_or xs i e
same-at [] i d e h = absurd (omega arith)
same-at (x ∷ xs) zero d e h = refl
same-at (x ∷ xs) (suc i) d e h = same-at xs i d e (omega arith)

turned-less : (o : Ordering) → is_gt (ordering_reverse o) ≡ is_lt o
turned-less Less = refl
turned-less Equal = refl
turned-less Greater = refl

before-it : (ds : List Bool) (xs : List Ranked) (i j : ℕ) (d : Ranked) → j ≤ i → i < length xs → is_gt (ranks ds (get_or (sorted ds xs) j d) (get_or (sorted ds xs) i d)) ≡ false
before-it ds xs i j d low high =
    let o = ranks-total total-laws ds in
    let zs = sorted ds xs in
    let inside : i < length zs = omega (arith, high, sorted-many ds xs) in
    let far : is_lt (ranks ds (get_or zs i d) (get_or zs j d)) ≡ false
    = sorted_far (λ x y. is_lt (ranks ds x y)) (ranks_by o (λ (x : Ranked). x)) zs (in-order ds o xs) j i d low inside in
    ap is_gt (o.antisymm (get_or zs j d) (get_or zs i d)) ∙ (turned-less (ranks ds (get_or zs i d) (get_or zs j d)) ∙ far)

pub not-above : (ds : List Bool) (xs : List Ranked) (i j : ℕ) (d e : Ranked) → j < i + 1 → i < length xs → is_gt (ranks ds (get_or (sorted ds xs) j e) (get_or (sorted ds xs) i d)) ≡ false
not-above ds xs i j d e low high =
    let zs = sorted ds xs in
    let inside : j < length zs = omega (arith, low, high, sorted-many ds xs) in
    ap (λ (x : Ranked). is_gt (ranks ds x (get_or zs i d))) (same-at zs j e d inside) ∙ before-it ds xs i j d (omega (arith, low)) high
