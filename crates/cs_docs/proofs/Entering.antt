-- A dataset to which a document without strong references comes.
use Rattle.std.specs.Prelude.{Result, Ok, Err, OnOk, OnErr}
use Rattle.std.proofs.Common.{◌≡◌, ◌∙◌, ap, refl, ℕ, ◌≤◌, ◌<◌, ◌+◌, List, [], ◌∷◌, length, Bool, true, false, cond, is_some, Some, Less, Equal, Greater, arith}
use Rattle.std.specs.List.{list_all}
use Rattle.std.specs.FinMap.Entries.{by_order}
use Rattle.std.proofs.lemmas.Bool.{and_from}
use Rattle.cs_value.specs.Tree.{Tree}
use Rattle.cs_view.specs.Document.{id_of}
use Rattle.cs_view.specs.Dataset.{id_cmp, same_id, standing, stands, with_doc}
use Rattle.cs_view.proofs.Booleans.{and-left, and-right}
use Rattle.cs_view.proofs.Datasets.{standing-with_doc}
use Rattle.cs_docs.specs.Limits.{most_documents}
use Rattle.cs_docs.specs.References.{strong, clean}

-- what stands, stands with a document more
stands_still : (d : Tree) (docs : List Tree) (t : List ℕ)
    → stands t docs ≡ true
    → stands t (with_doc d docs) ≡ true
stands_still d docs t h =
    ap is_some (standing-with_doc t d docs)
    ∙ elim (same_id t (id_of d)) as (λ b. is_some (cond b (Some d) (standing t docs)) ≡ true) [
      | true ↦ refl
      | false ↦ h
    ]

all_stand_still : (d : Tree) (docs : List Tree) (ts : List (List ℕ))
    → list_all (λ t. stands t docs) ts ≡ true
    → list_all (λ t. stands t (with_doc d docs)) ts ≡ true
all_stand_still d docs [] h = refl
all_stand_still d docs (t ∷ ts) h =
    and_from _ _ (stands_still d docs t (and-left _ _ h)) (all_stand_still d docs ts (and-right _ _ h))

-- a test that each document passes that passes another, and the one more too
all_pass : (p q : Tree → Bool) (d : Tree)
    → ((e : Tree) → p e ≡ true → q e ≡ true)
    → q d ≡ true
    → (es : List Tree)
    → list_all p es ≡ true
    → list_all q es ≡ true
all_pass p q d follows own [] h = refl
all_pass p q d follows own (e ∷ es) h =
    and_from _ _ (follows e (and-left _ _ h)) (all_pass p q d follows own es (and-right _ _ h))

all_with : (p q : Tree → Bool) (d : Tree)
    → ((e : Tree) → p e ≡ true → q e ≡ true)
    → q d ≡ true
    → (es : List Tree)
    → list_all p es ≡ true
    → list_all q (with_doc d es) ≡ true
all_with p q d follows own [] h = and_from _ _ own refl
all_with p q d follows own (e ∷ es) h =
    let rest = all_pass p q d follows own es (and-right _ _ h) in
    let here = follows e (and-left _ _ h) in
    elim (id_cmp (id_of d) (id_of e)) as (λ o. list_all q (by_order o (d ∷ e ∷ es) (d ∷ es)
    (e ∷ with_doc d es)) ≡ true) [
      | Less ↦ and_from _ _ own (and_from _ _ here rest)
      | Equal ↦ and_from _ _ own rest
      | Greater ↦ and_from _ _ here (all_with p q d follows own es (and-right _ _ h))
    ]

pub entering-clean : (docs : List Tree) (d : Tree)
    → clean docs ≡ true
    → strong d ≡ []
    → clean (with_doc d docs) ≡ true
entering-clean docs d h none =
    let all : Tree → Bool = λ e. list_all (λ t. stands t docs) (strong e) in
    let still : Tree → Bool = λ e. list_all (λ t. stands t (with_doc d docs)) (strong e) in
    all_with all still d (λ e whole. all_stand_still d docs (strong e) whole)
    (ap (λ ts. list_all (λ t. stands t (with_doc d docs)) ts) none) docs h

length-with_doc : (d : Tree) (es : List Tree) → length (with_doc d es) ≤ length es + 1
length-with_doc d [] = omega arith
length-with_doc d (e ∷ es) =
    let rest = length-with_doc d es in
    elim (id_cmp (id_of d) (id_of e)) as (λ o. length (by_order o (d ∷ e ∷ es) (d ∷ es)
    (e ∷ with_doc d es)) ≤ length (e ∷ es) + 1) [
      | Less ↦ omega arith
      | Equal ↦ omega arith
      | Greater ↦ omega (arith, rest)
    ]

-- a clean dataset with room, whether or not a document was put into it that keeps it clean
pub held-with : {A E : Type 0} (r : Result A E) (d : Tree) (old now : List Tree)
    → OnOk r (now ≡ with_doc d old)
    → OnErr r (now ≡ old)
    → clean (with_doc d old) ≡ true
    → clean old ≡ true
    → length old < most_documents
    → (clean now ≡ true) × (length now ≤ most_documents)
held-with (Ok a) d old now is same whole was room =
    (ap clean is ∙ whole, omega (arith, ap length is, length-with_doc d old, room))
held-with (Err e) d old now is same whole was room =
    (ap clean same ∙ was, omega (arith, ap length same, room))
