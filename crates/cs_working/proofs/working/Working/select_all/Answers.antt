use Rattle.std.proofs.Common.{◌∙◌, ℕ, List, map, IsSome, sym, ap, ap₂, subst}
use Rattle.std.specs.Prelude.{Result, Ok, Err, IfOk}
use Rattle.std.specs.List.{All}
use Rattle.cs_view.specs.Keys.{selected}
use Rattle.cs_shelf.specs.View.{documents, doc_at as put_at}
use Rattle.cs_index.specs.View.{doc_at as store_at}
use Rattle.cs_working.specs.Merged.{ArePlaces, merged}
use Rattle.cs_working.specs.Working.{base, doc_at}
use Rattle.cs_working.proofs.Selecting.{all_stand, are_places, picked}
use Rattle.cs_working.proofs.working.Working.select_all.Goals as goal

if_ok : {A E : Type 0} (r : Result A E) {P Q : A → Type 0} → IfOk r P → ((a : A) → P a → Q a) → IfOk r Q
if_ok (Ok a) h f = f a h
if_ok (Err e) h f = tt

pub merge-requires-clause-stand : goal.merge-requires-clause-stand
merge-requires-clause-stand g c =
    let at = store_at c.args.self.now.store in
    subst (λ (ps : List ℕ). All (λ p. IsSome (at p)) ps) (sym c.as_slice.ensures.value)
    (all_stand at c.in_ok-standing.standing.items (selected c.args.keys.now (base c.args.self.now)) c.in_ok-standing.ensures)

pub merge-requires-clause-put : goal.merge-requires-clause-put
merge-requires-clause-put g c =
    let at = put_at c.args.self.now.put in
    subst (ArePlaces at) (sym c.as_slice-2.ensures.value)
    (are_places at c.in_ok-put.put.items (selected c.args.keys.now (documents c.args.self.now.put)) c.in_ok-put.ensures.selected c.in_ok-put.ensures.low)

pub returns : goal.returns
returns g c =
    let self = c.args.self.now in
    if_ok c.merge.result c.merge.ensures
    (λ places is. ap (map (doc_at self)) (is ∙ ap₂ (merged self) c.as_slice.ensures.value c.as_slice-2.ensures.value)
    ∙ picked self c.args.keys.now c.in_ok-standing.standing.items c.in_ok-put.put.items c.in_ok-standing.ensures c.in_ok-put.ensures.selected)
