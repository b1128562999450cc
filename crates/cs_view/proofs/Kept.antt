-- A filter follows changes.
use Rattle.std.proofs.Common.{◌≡◌, ℕ, List, [], ◌∷◌, filter, Bool, true, false, cond, Option, Some, None, option_map, refl, sym, ap, ◌∙◌}
use Rattle.std.specs.FinMap.Entries.{find}
use Rattle.cs_value.specs.Tree.{Tree}
use Rattle.cs_view.specs.Dataset.{id_cmp, same_id, standing, ascending, kept_if}
use Rattle.cs_view.specs.Changes.{Edit, is_of_id, are_changes, after_changes, after_of, changes_where}
use Rattle.cs_view.proofs.Datasets.{same_docs, ascending-filter, standing-filter}
use Rattle.cs_view.proofs.Changed.{OwnIds, own_ids, standing-after_changes, ascending-after_changes}

abbrev both_kept : (Tree → Bool) → Option Tree × Option Tree → Option Tree × Option Tree
both_kept p s = (kept_if p s.0, kept_if p s.1)

find-where : (p : Tree → Bool) (q : List ℕ) (cs : List Edit)
    → find id_cmp q (changes_where p cs) ≡ option_map (both_kept p) (find id_cmp q cs)
find-where p q [] = refl
find-where p q (c ∷ cs) =
    elim (same_id q c.0) as (λ b. cond b (Some (both_kept p c.1)) (find id_cmp q (changes_where p cs)) ≡ option_map (both_kept p) (cond b (Some c.1) (find id_cmp q cs))) [
      | true ↦ refl
      | false ↦ find-where p q cs
    ]

still_of_id : (p : Tree → Bool) (id : List ℕ) (o : Option Tree) → is_of_id id o ≡ true
    → is_of_id id (kept_if p o) ≡ true
still_of_id p id None h = refl
still_of_id p id (Some d) h =
    elim (p d) as (λ b. is_of_id id (cond b (Some d) None) ≡ true) [ true ↦ h | false ↦ refl ]

own-where : (p : Tree → Bool) (cs : List Edit) → OwnIds cs → OwnIds (changes_where p cs)
own-where p [] h = tt
own-where p (c ∷ cs) h =
    ((still_of_id p c.0 c.1.0 h.0.0, still_of_id p c.0 c.1.1 h.0.1), own-where p cs h.1)

kept_after : (p : Tree → Bool) (f : Option (Option Tree × Option Tree)) (now : Option Tree)
    → kept_if p (after_of f now) ≡ after_of (option_map (both_kept p) f) (kept_if p now)
kept_after p None now = refl
kept_after p (Some s) now = refl

pub filter_follows : (p : Tree → Bool) (docs : List Tree) (cs : List Edit) → ascending docs ≡ true
    → are_changes cs ≡ true
    → filter p (after_changes docs cs) ≡ after_changes (filter p docs) (changes_where p cs)
filter_follows p docs cs h changes =
    let own : OwnIds cs = own_ids cs changes in
    let after : ascending (after_changes docs cs) ≡ true = ascending-after_changes docs cs h in
    let before : ascending (filter p docs) ≡ true = ascending-filter p docs h in
    same_docs (filter p (after_changes docs cs)) (after_changes (filter p docs) (changes_where p cs))
    (ascending-filter p (after_changes docs cs) after)
    (ascending-after_changes (filter p docs) (changes_where p cs) before)
    (λ q. standing-filter p q (after_changes docs cs) after ∙ ap (kept_if p) (standing-after_changes q docs cs own)
    ∙ kept_after p (find id_cmp q cs) (standing q docs)
    ∙ sym (standing-after_changes q (filter p docs) (changes_where p cs) (own-where p cs own)
    ∙ ap (λ f. after_of f (standing q (filter p docs))) (find-where p q cs)
    ∙ ap (after_of (option_map (both_kept p) (find id_cmp q cs))) (standing-filter p q docs h)))
