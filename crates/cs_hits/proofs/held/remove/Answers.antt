use Rattle.std.proofs.Common.{◌≡◌, ◌∙◌, refl, sym, ap, subst, map, inl, inr}
use Rattle.std.specs.Prelude.{remove}
use Rattle.cs_view.specs.Dataset.{without}
use Rattle.cs_hits.proofs.Places.{remove_docs}
use Rattle.cs_hits.proofs.held.remove.Goals as goal

pub returns-in-Ok-clause-left : goal.returns-in-Ok-clause-left
returns-in-Ok-clause-left g c =
    let held = g.T.Held.held in
    let left : without c.args.id.now (map held c.args.all.now.items) ≡ remove (map held c.args.all.now.items) c.in-Ok.place =
    subst (λ xs. without c.args.id.now (map held xs) ≡ remove (map held xs) c.in-Ok.place) c.deref.ensures.value c.in-Ok.ensures.left in
    ap (map held) c.remove.ensures.items ∙ remove_docs held c.args.all.now.items c.in-Ok.place ∙ sym left

pub returns-in-Ok-clause-among : goal.returns-in-Ok-clause-among
returns-in-Ok-clause-among g c = (c.in-Ok.place, inl c.remove.ensures.items)

pub returns-in-Err-clause-among : goal.returns-in-Err-clause-among
returns-in-Err-clause-among g c = (0, inr refl)
