-- The list of the changes between two datasets holds them.
use Rattle.std.proofs.Common.{◌≡◌, ◌≢◌, ℕ, List, [], ◌∷◌, map, filter, Bool, true, false, not, ◌&&◌, cond, Option, Some, None, is_some, refl, sym, ap, subst, ◌∙◌}
use Rattle.std.specs.Ordering.{is_lt}
use Rattle.std.specs.FinMap.Entries.{find, below_all, is_sorted}
use Rattle.cs_value.specs.Tree.{Tree}
use Rattle.cs_view.specs.Document.{id_of}
use Rattle.cs_view.specs.Dataset.{id_cmp, same_id, keyed, standing, ascending, kept_if}
use Rattle.cs_view.specs.Changes.{IsChangeAt, AreChangesBetween, is_same_side, differ_at, united, changes_between}
use Rattle.cs_view.proofs.Datasets.{same_id-same, standing-with_doc, standing-id, ascending-placed, ascending-filter, standing-filter}
use Rattle.cs_view.proofs.Sames.{same-one, one-same}

-- a document beside what f makes of its id
abbrev with_sides : {X : Type 0} → (List ℕ → X) → List Tree → List (List ℕ × X)
with_sides f ds = map (λ d. (id_of d, f (id_of d))) ds

below-sides : {X : Type 0} (f : List ℕ → X) (k : List ℕ) (ds : List Tree)
    → below_all id_cmp k (with_sides f ds) ≡ below_all id_cmp k (keyed ds)
below-sides f k [] = refl
below-sides f k (d ∷ ds) = ap (λ b. is_lt (id_cmp k (id_of d)) && b) (below-sides f k ds)

sorted-sides : {X : Type 0} (f : List ℕ → X) (ds : List Tree)
    → is_sorted id_cmp (with_sides f ds) ≡ ascending ds
sorted-sides f [] = refl
sorted-sides f (d ∷ ds) =
    ap (λ b. b && is_sorted id_cmp (with_sides f ds)) (below-sides f (id_of d) ds)
    ∙ ap (λ b. below_all id_cmp (id_of d) (keyed ds) && b) (sorted-sides f ds)

-- what stands under an id is found with what f makes of it
find-sides : {X : Type 0} (f : List ℕ → X) (q : List ℕ) (ds : List Tree)
    → find id_cmp q (with_sides f ds) ≡ cond (is_some (standing q ds)) (Some (f q)) None
find-sides f q [] = refl
find-sides f q (d ∷ ds) =
    elim (same_id q (id_of d)) as (λ b. same_id q (id_of d) ≡ b → cond b (Some (f (id_of d))) (find id_cmp q (with_sides f ds)) ≡ cond (is_some (cond b (Some d) (standing q ds))) (Some (f q)) None) [
      | true ↦ λ h. ap (λ k. Some (f k)) (sym (same_id-same q (id_of d) h))
      | false ↦ λ h. find-sides f q ds
    ] refl

ascending-united : (one other : List Tree) → ascending other ≡ true
    → ascending (united one other) ≡ true
ascending-united [] other h = h
ascending-united (d ∷ ds) other h =
    ascending-placed (id_of d) (Some d) (united ds other) (ascending-united ds other h)

-- under an id at which nothing of the two together stands, neither has a document
neither : (q : List ℕ) (one other : List Tree) → standing q (united one other) ≡ None
    → (standing q one ≡ None) × (standing q other ≡ None)
neither q [] other h = (refl, h)
neither q (d ∷ ds) other h =
    elim (same_id q (id_of d)) as (λ b. cond b (Some d) (standing q (united ds other)) ≡ None → (cond b (Some d) (standing q ds) ≡ None) × (standing q other ≡ None)) [
      | true ↦ λ k. absurd (cc)
      | false ↦ λ k. neither q ds other k
    ] (sym (standing-with_doc q d (united ds other)) ∙ h)

one_side : (a b : Option Tree) → is_same_side a b ≡ true → a ≡ b
one_side None None h = refl
one_side None (Some e) h = absurd (cc)
one_side (Some d) None h = absurd (cc)
one_side (Some d) (Some e) h = ap (λ (t : Tree). Some t) (same-one d e h)

side_itself : (a : Option Tree) → is_same_side a a ≡ true
side_itself None = refl
side_itself (Some d) = one-same d

differs : (a b : Option Tree) → is_same_side a b ≡ false → a ≢ b
differs a b h is = absurd (cc' (sym h ∙ ap (λ x. is_same_side a x) (sym is) ∙ side_itself a)) where
  cc' : false ≡ true → ⊥
  cc' e = cc

at_differing : (a b : Option Tree) (s : Bool) → is_same_side a b ≡ s
    → IsChangeAt a b (cond (not s) (Some (a, b)) None)
at_differing a b true h = one_side a b h
at_differing a b false h = (differs a b h, refl)

change_at : (one other : List Tree) (q : List ℕ) (u : Option Tree)
    → (u ≡ None → (standing q one ≡ None) × (standing q other ≡ None))
    → ((d : Tree) → u ≡ Some d → q ≡ id_of d)
    → IsChangeAt (standing q one) (standing q other) (cond (is_some (kept_if (λ d. differ_at one other (id_of d)) u)) (Some (standing q one, standing q other)) None)
change_at one other q None none is = let n = none refl in n.0 ∙ sym n.1
change_at one other q (Some d) none is =
    let e : q ≡ id_of d = is d refl in
    subst (λ (k : List ℕ). IsChangeAt (standing q one) (standing q other) (cond (is_some (cond (differ_at one other k) (Some d) None)) (Some (standing q one, standing q other)) None)) e
    (taken (not (is_same_side (standing q one) (standing q other))) (at_differing (standing q one) (standing q other) (is_same_side (standing q one) (standing q other)) refl)) where
      taken : (b : Bool) → IsChangeAt (standing q one) (standing q other) (cond b (Some (standing q one, standing q other)) None)
          → IsChangeAt (standing q one) (standing q other) (cond (is_some (cond b (Some d) None)) (Some (standing q one, standing q other)) None)
      taken true h = h
      taken false h = h

pub computed : (one other : List Tree) → ascending one ≡ true → ascending other ≡ true
    → AreChangesBetween one other (changes_between one other)
computed one other g h =
    let p : Tree → Bool = λ d. differ_at one other (id_of d) in
    let f : List ℕ → Option Tree × Option Tree = λ k. (standing k one, standing k other) in
    let us : ascending (united one other) ≡ true = ascending-united one other h in (
      sorted-sides f (filter p (united one other)) ∙ ascending-filter p (united one other) us,
      (λ q.
          subst (IsChangeAt (standing q one) (standing q other))
          (sym (find-sides f q (filter p (united one other)) ∙ ap (λ o. cond (is_some o) (Some (f q)) None) (standing-filter p q (united one other) us)))
          (change_at one other q (standing q (united one other)) (neither q one other) (λ d is. standing-id q (united one other) d is))),
    )
