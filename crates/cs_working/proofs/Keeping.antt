-- The touched ids under which something changed.
use Rattle.std.proofs.Common.{◌≡◌, ℕ, List, [], ◌∷◌, ◌++◌, Less, Bool, true, false, ◌||◌, cond, Option, Some, None, refl, sym, ap, subst, ◌∙◌}
use Rattle.std.specs.List.{AllByRecursion}
use Rattle.std.specs.List.Sorted.{IsStrictlySortedBy}
use Rattle.std.specs.Option.{option_to_list}
use Rattle.std.specs.Ordering.{is_lt}
use Rattle.std.specs.FinMap.Entries.{find, below_all}
use Rattle.std.proofs.lemmas.Bool.{and_from}
use Rattle.cs_value.specs.Tree.{Tree}
use Rattle.cs_view.specs.Dataset.{id_cmp, same_id, standing}
use Rattle.cs_view.specs.Changes.{Edit, ids_ascend, after_changes, IsChangeAt, AreChangesBetween}
use Rattle.cs_view.proofs.Datasets.{same_id-same, same_id-refl, find-above}
use Rattle.cs_working.specs.Changed.{IsOneChange}
use Rattle.cs_working.specs.Working.{worked}
use Rattle.cs_working.proofs.Workings.{is_among, standing-worked}

-- the changes of those of the ids that have one
abbrev pub Kept : List Tree → List Tree → List (List ℕ) → List Edit → Type 0
Kept ds put [] cs = cs ≡ []
Kept ds put (x ∷ ids) cs = (o : Option Edit) × (rest : List Edit) × IsOneChange x (standing x ds) (standing x put) o × (cs ≡ option_to_list o ++ rest) × Kept ds put ids rest

below_side : (k x : List ℕ) (b a : Option Tree) (o : Option Edit) (rest : List Edit) → id_cmp k x ≡ Less → IsOneChange x b a o → below_all id_cmp k rest ≡ true → below_all id_cmp k (option_to_list o ++ rest) ≡ true
below_side k x b a None rest l one h = h
below_side k x b a (Some c) rest l one h = and_from _ _ (ap (λ (e : Edit). is_lt (id_cmp k e.0)) one.1 ∙ ap is_lt l) h

kept_below : (k : List ℕ) (ds put : List Tree) (ids : List (List ℕ)) (cs : List Edit) → AllByRecursion (λ y. id_cmp k y ≡ Less) ids → Kept ds put ids cs → below_all id_cmp k cs ≡ true
kept_below k ds put [] cs h kept = ap (below_all id_cmp k) kept
kept_below k ds put (x ∷ ids) cs h kept =
    ap (below_all id_cmp k) kept.3 ∙ below_side k x (standing x ds) (standing x put) kept.0 kept.1 h.0 kept.2 (kept_below k ds put ids kept.1 h.1 kept.4)

ascend_side : (x : List ℕ) (b a : Option Tree) (o : Option Edit) (rest : List Edit) → IsOneChange x b a o → below_all id_cmp x rest ≡ true → ids_ascend rest ≡ true → ids_ascend (option_to_list o ++ rest) ≡ true
ascend_side x b a None rest one l h = h
ascend_side x b a (Some c) rest one l h = and_from _ _ (subst (λ (e : Edit). below_all id_cmp e.0 rest ≡ true) (sym one.1) l) h

kept_ascend : (ds put : List Tree) (ids : List (List ℕ)) (cs : List Edit) → IsStrictlySortedBy id_cmp ids → Kept ds put ids cs → ids_ascend cs ≡ true
unfolding IsStrictlySortedBy
kept_ascend ds put [] cs h kept = ap ids_ascend kept
kept_ascend ds put (x ∷ ids) cs h kept =
    ap ids_ascend kept.3 ∙ ascend_side x (standing x ds) (standing x put) kept.0 kept.1 kept.2 (kept_below x ds put ids kept.1 h.0 kept.4) (kept_ascend ds put ids kept.1 h.1 kept.4)

at_head : (x : List ℕ) (b a : Option Tree) (o : Option Edit) (rest : List Edit) → IsOneChange x b a o → below_all id_cmp x rest ≡ true → IsChangeAt b a (find id_cmp x (option_to_list o ++ rest))
at_head x b a None rest one l = subst (IsChangeAt b a) (sym (find-above x rest l)) one
at_head x b a (Some c) rest one l =
    subst (λ (e : Edit). IsChangeAt b a (cond (same_id x e.0) (Some e.1) (find id_cmp x rest))) (sym one.1)
    (subst (λ t. IsChangeAt b a (cond t (Some (b, a)) (find id_cmp x rest))) (sym (same_id-refl x)) (one.0, refl))

at_tail : (q x : List ℕ) (b a : Option Tree) (o : Option Edit) (rest : List Edit) → IsOneChange x b a o → same_id q x ≡ false → find id_cmp q (option_to_list o ++ rest) ≡ find id_cmp q rest
at_tail q x b a None rest one f = refl
at_tail q x b a (Some c) rest one f = ap (λ t. cond t (Some c.1) (find id_cmp q rest)) (ap (λ (e : Edit). same_id q e.0) one.1 ∙ f)

kept_at : (q : List ℕ) (ds put : List Tree) (ids : List (List ℕ)) (cs : List Edit) → IsStrictlySortedBy id_cmp ids → Kept ds put ids cs → IsChangeAt (standing q ds) (cond (is_among q ids) (standing q put) (standing q ds)) (find id_cmp q cs)
unfolding IsStrictlySortedBy
kept_at q ds put [] cs h kept = subst (λ (es : List Edit). IsChangeAt (standing q ds) (standing q ds) (find id_cmp q es)) (sym kept) refl
kept_at q ds put (x ∷ ids) cs h kept =
    subst (λ (es : List Edit). IsChangeAt (standing q ds) (cond (is_among q (x ∷ ids)) (standing q put) (standing q ds)) (find id_cmp q es)) (sym kept.3)
    (by_test (kept_at q ds put ids kept.1 h.1 kept.4) (kept_below x ds put ids kept.1 h.0 kept.4) (same_id q x) refl) where
      by_test : IsChangeAt (standing q ds) (cond (is_among q ids) (standing q put) (standing q ds)) (find id_cmp q kept.1) → below_all id_cmp x kept.1 ≡ true
          → (b : Bool) → same_id q x ≡ b → IsChangeAt (standing q ds) (cond (b || is_among q ids) (standing q put) (standing q ds)) (find id_cmp q (option_to_list kept.0 ++ kept.1))
      by_test rest l true e =
          subst (λ (z : List ℕ). IsChangeAt (standing z ds) (standing z put) (find id_cmp z (option_to_list kept.0 ++ kept.1))) (sym (same_id-same q x e)) (at_head x (standing x ds) (standing x put) kept.0 kept.1 kept.2 l)
      by_test rest l false e =
          subst (IsChangeAt (standing q ds) (cond (is_among q ids) (standing q put) (standing q ds))) (sym (at_tail q x (standing x ds) (standing x put) kept.0 kept.1 kept.2 e)) rest

-- they are the changes to the working dataset
pub kept_between : (ds put : List Tree) (ids : List (List ℕ)) (cs : List Edit) → IsStrictlySortedBy id_cmp ids → Kept ds put ids cs → AreChangesBetween ds (after_changes ds (worked ds put ids)) cs
kept_between ds put ids cs h kept =
    (kept_ascend ds put ids cs h kept, λ q. subst (λ o. IsChangeAt (standing q ds) o (find id_cmp q cs)) (sym (standing-worked q ds put ids)) (kept_at q ds put ids cs h kept))
