-- What a look-up found, sorted by the ids, has the places of the documents in the order of the ids.
use denote.Ref.{Bor}
use Rattle.std.proofs.Common.{◌≡◌, ℕ, List, [], ◌∷◌, map, Option, Some, None, Bool, true, false, cond, ◌&&◌, ◌||◌, refl, sym, ap, ◌∙◌, true≢false, nat_cmp, nat_eq, Ordering, Less, Equal, Greater, is_eq}
use Rattle.std.proofs.lemmas.Cmp.{nat_cmp_total, tied_itself}
use Rattle.std.proofs.lemmas.List.Elements.{recursion_from_All}
use Rattle.std.proofs.lemmas.List.Filters.{All-dedup}
use Rattle.std.proofs.lemmas.List.Kept.{IsStrictlySortedBy-dedup}
use Rattle.std.proofs.lemmas.List.Sorted.{All-permutation, IsPermutation-sym, list_any-IsPermutation}
use Rattle.std.specs.BTreeMap.{is_at}
use Rattle.std.specs.Cmp.{IsTotalOrder, then_total, on_total, both_tied, unsigned_ties}
use Rattle.std.specs.Cmp.Lexicographic.{pointwise, on_texts, texts_ties}
use Rattle.std.specs.List.{AllByRecursion, dedup, dedup_from}
use Rattle.std.specs.List.Sorted.{IsPermutation, IsSorted, IsStrictlySortedBy}
use Rattle.std.specs.Map.{keys_of, lookup}
use Rattle.std.specs.Option.{is_some}
use Rattle.std.specs.Ordering.{ordering_then, eq_by_cmp}
use Rattle.cs_view.specs.Dataset.{id_cmp, same_id}
use Rattle.cs_view.specs.declared.key.Key.{Key}
use Rattle.cs_view.proofs.Datasets.{same_id-same}
use Rattle.cs_view.proofs.Booleans.{and-left}
use Rattle.cs_docs.specs.Store.{doc_at}
use Rattle.cs_docs.specs.declared.docs.Docs.{Docs}
use Rattle.cs_index.specs.Picking.{Hits, is_hit, wanted, ArePlacesIn}
use Rattle.cs_index.proofs.Picked.{picked}

abbrev Hit : Type 0
Hit = Bor (List ℕ) × ℕ

abbrev pub hit_cmp : Hit → Hit → Ordering
hit_cmp x y = ordering_then (id_cmp x.0.now y.0.now) (nat_cmp x.1 y.1)

abbrev pub hit_eq : Hit → Hit → Bool
hit_eq x y = pointwise nat_eq x.0.now y.0.now && nat_eq x.1 y.1

hit_total : IsTotalOrder hit_cmp
hit_total = then_total (on_texts (λ h. h.0.now)) (on_total (λ h. h.1) nat_cmp_total)

hit_ties : (x y : Hit) → hit_eq x y ≡ eq_by_cmp hit_cmp x y
hit_ties x y = both_tied (pointwise nat_eq x.0.now y.0.now) (nat_eq x.1 y.1) (id_cmp x.0.now y.0.now) (nat_cmp x.1 y.1) (texts_ties x.0.now y.0.now) (unsigned_ties x.1 y.1)

-- ---- equal hits that follow one another count once
same_hit : (y : List ℕ) (g h : Hit) → hit_eq g h ≡ true → same_id y g.0.now ≡ same_id y h.0.now
same_hit y g h e = ap (same_id y) (same_id-same g.0.now h.0.now (sym (texts_ties g.0.now h.0.now) ∙ and-left (pointwise nat_eq g.0.now h.0.now) (nat_eq g.1 h.1) e))

once : (a b c : Bool) → b ≡ a → (a || c) ≡ (a || (b || c))
once true b c e = refl
once false true c e = absurd (true≢false e)
once false false c e = refl

hit_from : (y : List ℕ) (h : Hit) (hs : Hits) → is_hit y (dedup_from hit_eq h hs) ≡ (same_id y h.0.now || is_hit y hs)
hit_from y h [] = refl
hit_from y h (g ∷ gs) = by_test (hit_from y h gs) (hit_from y g gs) (hit_eq g h) refl where
  by_test : is_hit y (dedup_from hit_eq h gs) ≡ (same_id y h.0.now || is_hit y gs) → is_hit y (dedup_from hit_eq g gs) ≡ (same_id y g.0.now || is_hit y gs) → (b : Bool) → hit_eq g h ≡ b → is_hit y (cond b (dedup_from hit_eq h gs) (h ∷ dedup_from hit_eq g gs)) ≡ (same_id y h.0.now || (same_id y g.0.now || is_hit y gs))
  by_test ih jh true e = ih ∙ once (same_id y h.0.now) (same_id y g.0.now) (is_hit y gs) (same_hit y g h e)
  by_test ih jh false e = ap (λ b. same_id y h.0.now || b) jh

hit_once : (y : List ℕ) (hs : Hits) → is_hit y (dedup hit_eq hs) ≡ is_hit y hs
hit_once y [] = refl
hit_once y (h ∷ hs) = hit_from y h hs

-- ---- hits as ids with their places
abbrev seen : Hits → List (List ℕ × ℕ)
seen hs = map (λ h. (h.0.now, h.1)) hs

second_seen : (hs : Hits) → map (λ h. h.1) hs ≡ map (λ e. e.1) (seen hs)
second_seen [] = refl
second_seen (h ∷ hs) = ap (λ ps. h.1 ∷ ps) (second_seen hs)

abbrev or_zero : Option ℕ → ℕ
or_zero None = 0
or_zero (Some p) = p

module _ (d : Docs) (k : List Key) where
  abbrev AreGood : Hits → Type 0
  AreGood hs = AllByRecursion (λ h. wanted d k h.0.now ≡ Some h.1) hs

  -- of two hits that ascend the ids ascend: to one id belongs one place
  ids_ascend : (h g : Hit) → wanted d k h.0.now ≡ Some h.1 → wanted d k g.0.now ≡ Some g.1 → hit_cmp h g ≡ Less → id_cmp h.0.now g.0.now ≡ Less
  ids_ascend h g v w less = by_order (id_cmp h.0.now g.0.now) refl less where
    by_order : (r : Ordering) → id_cmp h.0.now g.0.now ≡ r → ordering_then r (nat_cmp h.1 g.1) ≡ Less → id_cmp h.0.now g.0.now ≡ Less
    by_order Less e o = e
    by_order Greater e o = e ∙ o
    by_order Equal e o =
        let place : h.1 ≡ g.1 = ap or_zero (sym v ∙ ap (wanted d k) (same_id-same h.0.now g.0.now (ap is_eq e)) ∙ w) in
        absurd (true≢false (ap is_eq (sym (tied_itself nat_cmp_total h.1) ∙ ap (λ (p : ℕ). nat_cmp h.1 p) place ∙ o)))

  below_ids : (h : Hit) → wanted d k h.0.now ≡ Some h.1 → (hs : Hits) → AreGood hs → AllByRecursion (λ g. hit_cmp h g ≡ Less) hs → AllByRecursion (λ y. id_cmp h.0.now y ≡ Less) (keys_of (seen hs))
  below_ids h v [] w o = tt
  below_ids h v (g ∷ gs) w o = (ids_ascend h g v w.0 o.0, below_ids h v gs w.1 o.1)

  strict_ids : (hs : Hits) → AreGood hs → IsStrictlySortedBy hit_cmp hs → IsStrictlySortedBy id_cmp (keys_of (seen hs))
  unfolding IsStrictlySortedBy
  strict_ids [] w o = tt
  strict_ids (h ∷ hs) w o = (below_ids h w.0 hs w.1 o.0, strict_ids hs w.1 o.1)

  looked_up : (y : List ℕ) (hs : Hits) → AreGood hs → lookup (is_at (id_cmp y)) (seen hs) ≡ cond (is_hit y hs) (wanted d k y) None
  looked_up y [] w = refl
  looked_up y (h ∷ hs) w = by_test (looked_up y hs w.1) (same_id y h.0.now) refl where
    by_test : lookup (is_at (id_cmp y)) (seen hs) ≡ cond (is_hit y hs) (wanted d k y) None → (b : Bool) → same_id y h.0.now ≡ b → cond b (Some h.1) (lookup (is_at (id_cmp y)) (seen hs)) ≡ cond (b || is_hit y hs) (wanted d k y) None
    by_test ih true e = sym (ap (wanted d k) (same_id-same y h.0.now e) ∙ w.0)
    by_test ih false e = ih

  all_there : (o : Option ℕ) → cond (is_some o) o None ≡ o
  all_there None = refl
  all_there (Some p) = refl

pub in_order : (hs ss : Hits) (ps : List ℕ) → IsPermutation hs ss → IsSorted hit_cmp ss → ps ≡ map (λ h. h.1) (dedup hit_eq ss) → ArePlacesIn hs ps
in_order hs ss ps moved sorted is d k good all =
    let ts : Hits = dedup hit_eq ss in
    let P : Hit → Type 0 = λ h. wanted d k h.0.now ≡ Some h.1 in
    let fine : AreGood d k ts = recursion_from_All P ts (All-dedup hit_eq P ss (All-permutation P hs ss moved good)) in
    ap (map (doc_at d)) (is ∙ second_seen ts)
    ∙ picked d k (seen ts) (strict_ids d k ts fine (IsStrictlySortedBy-dedup hit_total hit_ties ss sorted))
    (λ y.
    looked_up d k y ts fine
    ∙ ap (λ b. cond b (wanted d k y) None) (hit_once y ss ∙ list_any-IsPermutation (λ h. same_id y h.0.now) ss hs (IsPermutation-sym hs ss moved) ∙ all y)
    ∙ all_there d k (wanted d k y))
