-- How many documents stand after changes.
use Rattle.std.proofs.Common.{◌≡◌, ℕ, suc, ◌+◌, ◌-◌, ◌≤◌, ◌<◌, List, [], ◌∷◌, map, length, Bool, true, false, cond, Option, Some, None, is_some, nat_lt, refl, sym, ap, ◌∙◌, arith}
use Rattle.std.proofs.lemmas.Bool.{lt-ltb, le-ltb, ltb-true, ltb-false}
use Rattle.std.specs.Ordering.{is_eq, is_lt}
use Rattle.std.proofs.lemmas.Cmp.{nat_list_cmp_total}
use Rattle.std.specs.FinMap.Entries.{find, below_all, length-put, length_without}
use Rattle.cs_value.specs.Tree.{Tree}
use Rattle.cs_view.specs.View.{document_of}
use Rattle.cs_view.specs.declared.doc.Doc.{Doc}
use Rattle.cs_view.specs.Document.{id_of}
use Rattle.cs_view.specs.Dataset.{id_cmp, keyed, standing, ascending, placed, with_doc, without}
use Rattle.cs_view.specs.Changes.{Edit, is_of_id, ids_ascend, are_changes, LeadFrom, after_changes, after_of}
use Rattle.cs_view.proofs.Booleans.{and-left, and-right}
use Rattle.cs_view.proofs.Datasets.{keyed-with_doc, keyed-without, same_id-same, is_lt-Less}
use Rattle.cs_view.proofs.Booleans.{to_T}
use Rattle.cs_view.proofs.Changed.{OwnIds, standing-after_changes, ascending-after_changes, own_ids}

one_if : Bool → ℕ
one_if b = cond b 1 0

length-keyed : (ds : List Tree) → length (keyed ds) ≡ length ds
length-keyed [] = refl
length-keyed (d ∷ ds) = ap suc (length-keyed ds)

abbrev pub arriving : List Edit → ℕ
arriving [] = 0
arriving (c ∷ cs) = cond (is_some c.1.1) 1 0 + arriving cs

abbrev pub stood : List Edit → ℕ
stood [] = 0
stood (c ∷ cs) = cond (is_some c.1.0) 1 0 + stood cs

arranged : (b : Bool) (n m : ℕ) → m ≡ cond b n (n + 1) → m + cond b 1 0 ≡ n + 1
arranged true n m h = ap (λ x. x + 1) h
arranged false n m h = omega arith

length-placed : (id : List ℕ) (o : Option Tree) (ds : List Tree) → ascending ds ≡ true → is_of_id id o ≡ true → length (placed id o ds) + cond (is_some (standing id ds)) 1 0 ≡ length ds + cond (is_some o) 1 0
length-placed id None ds h own =
    let e = sym (length-keyed (without id ds)) ∙ ap length (keyed-without id ds) in
    let k = length_without id_cmp nat_list_cmp_total id (keyed ds) (to_T _ h) in
    let n = length-keyed ds in omega arith
length-placed id (Some d) ds h own =
    let s : id ≡ id_of d = same_id-same id (id_of d) own in
    ap (λ k. length (with_doc d ds) + cond (is_some (standing k ds)) 1 0) s
    ∙ arranged (is_some (standing (id_of d) ds)) (length ds) (length (with_doc d ds))
    (sym (length-keyed (with_doc d ds)) ∙ ap length (keyed-with_doc d ds) ∙ length-put id_cmp nat_list_cmp_total (id_of d) d (keyed ds) (to_T _ h) ∙ ap (λ n. cond (is_some (standing (id_of d) ds)) n (n + 1)) (length-keyed ds))

find-below : (q : List ℕ) (cs : List Edit) → below_all id_cmp q cs ≡ true → find id_cmp q cs ≡ None
find-below q [] h = refl
find-below q (c ∷ cs) h = ap (λ o. cond (is_eq o) (Some c.1) (find id_cmp q cs)) (is_lt-Less _ (and-left _ _ h)) ∙ find-below q cs (and-right (is_lt (id_cmp q c.0)) _ h)

length-after_changes : (docs : List Tree) (cs : List Edit) → ascending docs ≡ true → ids_ascend cs ≡ true → OwnIds cs → LeadFrom docs cs → length (after_changes docs cs) + stood cs ≡ length docs + arriving cs
length-after_changes docs [] h asc own leads = refl
length-after_changes docs (c ∷ cs) h asc own leads =
    let rest : List Tree = after_changes docs cs in
    let here : length (after_changes docs (c ∷ cs)) + cond (is_some (standing c.0 (after_changes docs cs))) 1 0 ≡ length (after_changes docs cs) + cond (is_some c.1.1) 1 0 = length-placed c.0 c.1.1 rest (ascending-after_changes docs cs h) own.0.1 in
    let there : standing c.0 rest ≡ c.1.0 = standing-after_changes c.0 docs cs own.1 ∙ ap (λ f. after_of f (standing c.0 docs)) (find-below c.0 cs (and-left _ _ asc)) ∙ sym leads.0 in
    let before : ◌≡◌ {A = ℕ} (cond (is_some (standing c.0 (after_changes docs cs))) 1 0) (cond (is_some c.1.0) 1 0) = ap (λ (o : Option Tree). cond {A = ℕ} (is_some o) 1 0) there in
    let more : length (after_changes docs cs) + stood cs ≡ length docs + arriving cs = length-after_changes docs cs h (and-right (below_all id_cmp c.0 cs) _ asc) own.1 leads.1 in omega (arith, here, before, more)

pub counted : (docs : List Tree) (cs : List Edit) → ascending docs ≡ true → are_changes cs ≡ true → LeadFrom docs cs → length (after_changes docs cs) + stood cs ≡ length docs + arriving cs
counted docs cs h changes leads = length-after_changes docs cs h (and-left _ _ changes) (own_ids cs changes) leads

lt_same : (a b c d : ℕ) → (a < b → c < d) → (c < d → a < b) → nat_lt a b ≡ nat_lt c d
lt_same a b c d g h =
    elim (nat_lt a b) as (λ t. nat_lt a b ≡ t → t ≡ nat_lt c d) [
      | true ↦ λ e. sym (lt-ltb c d (g (ltb-true a b e)))
      | false ↦ λ e. sym (le-ltb c d (let k = ltb-false a b e in elim (nat_lt c d) as (λ t. nat_lt c d ≡ t → d ≤ c) [ true ↦ λ f. let j = h (ltb-true c d f) in omega (arith, j, k) | false ↦ λ f. ltb-false c d f ] refl))
    ] refl

pub grown : (most n a s t : ℕ) → a + s ≡ n + t → n ≤ most → s < t → nat_lt (most - n) (t - s) ≡ nat_lt most a
grown most n a s t is le lt = lt_same (most - n) (t - s) most a (λ h. omega arith) (λ h. omega arith)

pub not_grown : (most n a s t : ℕ) → a + s ≡ n + t → n ≤ most → t ≤ s → nat_lt s t ≡ nat_lt most a
not_grown most n a s t is le ge = lt_same s t most a (λ h. omega arith) (λ h. omega arith)

pub length-docs : (ds : List Doc) → length (map document_of ds) ≡ length ds
length-docs [] = refl
length-docs (d ∷ ds) = ap suc (length-docs ds)
