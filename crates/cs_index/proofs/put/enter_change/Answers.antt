use Rattle.std.proofs.Common.{◌∙◌, ◌&&◌, sym, ap, subst, not, option_map, is_some, Option, None, Bool, ℕ, OnOk}
use Rattle.cs_value.specs.Tree.{Tree}
use Rattle.cs_view.specs.View.{document_of}
use Rattle.cs_codes.specs.Codes.{is_among}
use Rattle.cs_codes.specs.Kinds.{coded, side_coded}
use Rattle.cs_docs.specs.Store.{place_at}
use Rattle.cs_index.specs.Entries.{is_put_at, Gain}
use Rattle.cs_index.specs.declared.entry.Entry.{Entry}
use Rattle.cs_index.proofs.put.enter_change.Goals as goal

pub returns-in-Some : goal.returns-in-Some
returns-in-Some c =
    let coding = c.args.coding.now in
    let t : Tree = document_of c.in-None-Some.made in
    subst (λ (f : Entry → Bool). OnOk c.put_at.result (Gain f c.args.entries.now c.put_at.new.entries))
    (λ i q.
    (ap (λ (o : Option ℕ). is_put_at (λ x. is_among x (side_coded coding None)) o (coded coding t) q) (sym c.in-Some.is ∙ c.place.ensures.place)
    ∙ ap (λ (o : Option Tree). is_put_at (λ x. is_among x (side_coded coding None)) (place_at c.args.docs.now c.args.change.now.id) (side_coded coding o) q) (sym (ap (option_map document_of) c.in-None-Some.is-1))
    ∙ ap (λ (o : Option Tree). not (is_some o) && is_put_at (λ x. is_among x (side_coded coding o)) (place_at c.args.docs.now c.args.change.now.id) (side_coded coding (option_map document_of c.args.change.now.after)) q) (sym (ap (option_map document_of) c.in-None-Some.is-0))) i)
    c.put_at.ensures
