use Rattle.std.proofs.Common.{◌∙◌, ap, cond, subst, option_map, Some, Bool, true, OnOk}
use Rattle.cs_view.specs.View.{document_of}
use Rattle.cs_codes.specs.Codes.{is_among}
use Rattle.cs_codes.specs.Kinds.{side_coded}
use Rattle.cs_index.specs.Entries.{is_in, Collect}
use Rattle.cs_index.specs.declared.entry.Entry.{Entry}
use Rattle.cs_index.proofs.Applied.{put_alike}
use Rattle.cs_index.proofs.Marks.{on_ok}
use Rattle.cs_index.proofs.delta.Delta.add_at.Goals as goal

pub returns-clause-lost : goal.returns-clause-lost
returns-clause-lost c =
    on_ok c.list_codes-2.result
    (λ q.
    c.in_ok-list_codes.ensures q
    ∙ ap (λ b. cond b true (is_in q c.args.self.now.lost.items))
    (put_alike (λ x. is_among x c.in_ok-has.has.items) (λ x. is_among x (side_coded c.args.coding.now (option_map document_of c.args.after.now))) c.args.place
    c.in_ok-had.had.items (side_coded c.args.coding.now (Some (document_of c.args.before.now)))
    c.in_ok-has.ensures.among c.in_ok-had.ensures.among q))

pub returns-clause-gained : goal.returns-clause-gained
returns-clause-gained c =
    subst (λ (f : Entry → Bool). OnOk c.list_codes-2.result (Collect f c.args.self.now.gained.items c.list_codes-2.new.entries.items))
    (λ i q.
    put_alike (λ x. is_among x c.in_ok-had.had.items) (λ x. is_among x (side_coded c.args.coding.now (Some (document_of c.args.before.now)))) c.args.place
    c.in_ok-has.has.items (side_coded c.args.coding.now (option_map document_of c.args.after.now))
    c.in_ok-had.ensures.among c.in_ok-has.ensures.among q i)
    c.list_codes-2.ensures
