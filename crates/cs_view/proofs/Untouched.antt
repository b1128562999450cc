-- An untouched key selects the same documents before and after changes.
use Rattle.std.proofs.Common.{◌≡◌, ℕ, List, [], ◌∷◌, Bool, true, false, cond, Option, Some, None, refl, sym, ap, ◌∙◌}
use Rattle.std.specs.FinMap.Entries.{find}
use Rattle.std.specs.List.{Contains}
use Rattle.cs_value.specs.Tree.{Tree}
use Rattle.cs_view.specs.Document.{passes}
use Rattle.cs_view.specs.Dataset.{id_cmp, same_id, standing, ascending, kept_if}
use Rattle.cs_view.specs.Changes.{Edit, are_changes, before_changes, after_changes, before_of, after_of}
use Rattle.cs_view.specs.Keys.{has, having}
use Rattle.cs_view.specs.Touched.{touches, is_touched, touched}
use Rattle.cs_view.specs.declared.key.Key.{Key}
use Rattle.cs_view.proofs.Booleans.{or-left, or-right, passes_nowhere}
use Rattle.cs_view.proofs.Datasets.{same_docs, ascending-filter, standing-filter}
use Rattle.cs_view.proofs.Changed.{own_ids, standing-before_changes, standing-after_changes, ascending-before_changes, ascending-after_changes}

not_kept : (p : Tree → Bool) (o : Option Tree) → passes p o ≡ false → kept_if p o ≡ None
not_kept p None h = refl
not_kept p (Some d) h = ap (λ b. cond b (Some d) None) h

same_kept : (k : Key) (q : List ℕ) (now : Option Tree) (cs : List Edit) → is_touched cs k ≡ false → kept_if (has k) (before_of (find id_cmp q cs) now) ≡ kept_if (has k) (after_of (find id_cmp q cs) now)
same_kept k q now [] h = refl
same_kept k q now (c ∷ cs) h =
    let neither = or-left (touches k c) (is_touched cs k) h in
    let before : kept_if (has k) c.1.0 ≡ None = not_kept (has k) c.1.0 (or-left (passes (has k) c.1.0) (passes (has k) c.1.1) neither) in
    let after : kept_if (has k) c.1.1 ≡ None = not_kept (has k) c.1.1 (or-right (passes (has k) c.1.0) (passes (has k) c.1.1) neither) in
    elim (same_id q c.0) as (λ b. kept_if (has k) (before_of (cond b (Some c.1) (find id_cmp q cs)) now) ≡ kept_if (has k) (after_of (cond b (Some c.1) (find id_cmp q cs)) now)) [
      | true ↦ before ∙ sym after
      | false ↦ same_kept k q now cs (or-right (touches k c) (is_touched cs k) h)
    ]

pub untouched-key : (docs : List Tree) (cs : List Edit) → ascending docs ≡ true → are_changes cs ≡ true → (k : Key) → is_touched cs k ≡ false → having k (before_changes docs cs) ≡ having k (after_changes docs cs)
untouched-key docs cs h changes k t =
    let before : ascending (before_changes docs cs) ≡ true = ascending-before_changes docs cs h in
    let after : ascending (after_changes docs cs) ≡ true = ascending-after_changes docs cs h in
    same_docs (having k (before_changes docs cs)) (having k (after_changes docs cs)) (ascending-filter (has k) (before_changes docs cs) before) (ascending-filter (has k) (after_changes docs cs) after)
    (λ q. standing-filter (has k) q (before_changes docs cs) before ∙ ap (kept_if (has k)) (standing-before_changes q docs cs (own_ids cs changes))
    ∙ same_kept k q (standing q docs) cs t
    ∙ sym (standing-filter (has k) q (after_changes docs cs) after ∙ ap (kept_if (has k)) (standing-after_changes q docs cs (own_ids cs changes))))

pub untouched-keys : (docs : List Tree) (cs : List Edit) → ascending docs ≡ true → are_changes cs ≡ true → (keys : List Key) → touched keys cs ≡ false → (k : Key) → Contains keys k → having k (before_changes docs cs) ≡ having k (after_changes docs cs)
untouched-keys docs cs h changes keys t k c = untouched-key docs cs h changes k (passes_nowhere (is_touched cs) keys k t c)
