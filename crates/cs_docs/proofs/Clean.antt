-- No reference dangles exactly where the dataset is clean.
use Rattle.std.proofs.Common.{◌≡◌, ◌↔◌, ◌≤◌, ◌<◌, ℕ, List, [], ◌∷◌, ◌++◌, map, length, Bool, true, false, not, ◌&&◌, cond, nat_lt, Option, Some, None, refl, arith}
use Rattle.std.proofs.lemmas.Bool.Decides.{nat_tests}
use Rattle.std.proofs.lemmas.Grind.{common_steps}
use Rattle.std.specs.List.{filter, list_all}
use Rattle.std.proofs.lemmas.Bool.{and_from}
use Rattle.cs_value.specs.Tree.{Tree}
use Rattle.cs_view.specs.Document.{id_of}
use Rattle.cs_view.specs.Dataset.{stands}
use Rattle.cs_view.proofs.Booleans.{and-left, and-right}
use Rattle.cs_docs.specs.Limits.{most_documents}
use Rattle.cs_value.specs.Words.{first_of}
use Rattle.cs_docs.specs.References.{strong, missing, clean, dangling_in, first_dangling}
use Rattle.cs_docs.specs.Verdict.{fits, full, of_pair, verdict}

-- all of a document's targets stand
abbrev whole : List Tree → Tree → Bool
whole docs d = list_all (λ t. stands t docs) (strong d)

clean_one : (docs : List Tree) (ts : List (List ℕ))
    → (filter (λ t. not (stands t docs)) ts ≡ []) ↔ (list_all (λ t. stands t docs) ts ≡ true)
clean_one docs [] = ((λ h. refl), (λ h. refl))
clean_one docs (t ∷ ts) =
    let left = filter (λ u. not (stands u docs)) ts in
    let rest = list_all (λ u. stands u docs) ts in
    elim (stands t docs) as (λ b. (cond (not b) (t ∷ left) left ≡ []) ↔ ((b && rest) ≡ true)) [
      | true ↦ clean_one docs ts
      | false ↦ ((λ h. absurd (cc)), (λ h. absurd (cc)))
    ]

no_dangling : (docs ds : List Tree)
    → (first_of (dangling_in docs ds) ≡ None) ↔ (list_all (whole docs) ds ≡ true)
no_dangling docs [] = ((λ h. refl), (λ h. refl))
no_dangling docs (d ∷ ds) =
    let here = clean_one docs (strong d) in
    let rest = no_dangling docs ds in
    elim (missing docs d) as (λ ts. missing docs d ≡ ts
    → (first_of (map (λ t. (id_of d, t)) ts ++ dangling_in docs ds) ≡ None)
    ↔ ((whole docs d && list_all (whole docs) ds) ≡ true)) [
      | [] ↦ λ e. (
        (λ h. and_from _ _ (here.0 e) (rest.0 h)),
        (λ h. rest.1 (and-right (whole docs d) _ h)),
      )
      | t ∷ ts ↦ λ e. (
        (λ h. absurd (cc)),
        (λ h. absurd (let k : missing docs d ≡ [] = here.1 (and-left _ _ h) in cc)),
      )
    ] refl

pub none-is-clean : (docs : List Tree) → (first_dangling docs ≡ None) ↔ (clean docs ≡ true)
none-is-clean docs = no_dangling docs docs

not_full : (b : Bool) (p : Option (List ℕ × List ℕ))
    → (cond b full (of_pair p) ≡ fits) ↔ ((b ≡ false) × (p ≡ None))
not_full true p = ((λ h. absurd (cc)), (λ h. absurd (let k = h.0 in cc)))
not_full false None = ((λ h. (refl, refl)), (λ h. refl))
not_full false (Some p) = ((λ h. absurd (cc)), (λ h. absurd (let k = h.1 in cc)))

within : (n m : ℕ) → (nat_lt m n ≡ false) ↔ (n ≤ m)
within n m = ((λ h. grind (arith, common_steps)), (λ h. grind (arith, common_steps)))

pub fits-within-clean : (docs : List Tree)
    → (verdict docs ≡ fits) ↔ ((length docs ≤ most_documents) × (clean docs ≡ true))
fits-within-clean docs =
    let n = not_full (nat_lt most_documents (length docs)) (first_dangling docs) in
    let w = within (length docs) most_documents in
    let c = none-is-clean docs in
    ((λ h. (w.0 (n.0 h).0, c.0 (n.0 h).1)), (λ h. n.1 (w.1 h.0, c.1 h.1)))

no_pair_is_full : (p : Option (List ℕ × List ℕ)) → of_pair p ≡ full → ⊥
no_pair_is_full None h = cc
no_pair_is_full (Some p) h = cc

is_full : (b : Bool) (p : Option (List ℕ × List ℕ)) → (cond b full (of_pair p) ≡ full) ↔ (b ≡ true)
is_full true p = ((λ h. refl), (λ h. refl))
is_full false p = ((λ h. absurd (no_pair_is_full p h)), (λ h. cc))

above : (n m : ℕ) → (nat_lt m n ≡ true) ↔ (m < n)
above n m = ((λ h. grind (arith, nat_tests, h)), (λ h. grind (arith, nat_tests, h)))

pub full-above : (docs : List Tree) → (verdict docs ≡ full) ↔ (most_documents < length docs)
full-above docs =
    let n = is_full (nat_lt most_documents (length docs)) (first_dangling docs) in
    let w = above (length docs) most_documents in
    ((λ h. w.0 (n.0 h)), (λ h. n.1 (w.1 h)))
