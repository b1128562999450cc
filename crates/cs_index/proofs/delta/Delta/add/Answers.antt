use Rattle.std.proofs.Common.{◌∙◌, ◌&&◌, sym, ap, subst, option_map, is_some, Option, Some, Bool, ℕ, OnOk}
use Rattle.cs_value.specs.Tree.{Tree}
use Rattle.cs_view.specs.View.{document_of}
use Rattle.cs_codes.specs.Codes.{is_among}
use Rattle.cs_codes.specs.Kinds.{side_coded}
use Rattle.cs_docs.specs.Store.{place_at}
use Rattle.cs_index.specs.Entries.{is_put_at, Collect}
use Rattle.cs_index.specs.declared.entry.Entry.{Entry}
use Rattle.cs_index.proofs.delta.Delta.add.Goals as goal

pub returns-in-Some-place-clause-gained : goal.returns-in-Some-place-clause-gained
returns-in-Some-place-clause-gained c =
    let coding = c.args.coding.now in
    let after : Option Tree = option_map document_of c.args.change.now.after in
    subst (λ (f : Entry → Bool). OnOk c.add_at.result (Collect f c.args.self.now.gained.items c.add_at.new.self.gained.items))
    (λ i q.
    (ap (λ (o : Option ℕ). is_put_at (λ x. is_among x (side_coded coding (Some (document_of c.in-Some.before)))) o (side_coded coding after) q) (sym c.in-Some-place.is ∙ c.place.ensures.place)
    ∙ ap (λ (o : Option Tree). is_some o && is_put_at (λ x. is_among x (side_coded coding o)) (place_at c.args.docs.now c.args.change.now.id) (side_coded coding after) q) (sym (ap (option_map document_of) c.in-Some.is))) i)
    c.add_at.ensures.gained

pub returns-in-Some-place-clause-lost : goal.returns-in-Some-place-clause-lost
returns-in-Some-place-clause-lost c =
    let coding = c.args.coding.now in
    let after : Option Tree = option_map document_of c.args.change.now.after in
    subst (λ (f : Entry → Bool). OnOk c.add_at.result (Collect f c.args.self.now.lost.items c.add_at.new.self.lost.items))
    (λ i q.
    (ap (λ (o : Option ℕ). is_put_at (λ x. is_among x (side_coded coding after)) o (side_coded coding (Some (document_of c.in-Some.before))) q) (sym c.in-Some-place.is ∙ c.place.ensures.place)
    ∙ ap (λ (o : Option Tree). is_put_at (λ x. is_among x (side_coded coding after)) (place_at c.args.docs.now c.args.change.now.id) (side_coded coding o) q) (sym (ap (option_map document_of) c.in-Some.is))) i)
    c.add_at.ensures.lost
