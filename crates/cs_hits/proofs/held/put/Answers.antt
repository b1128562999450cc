use Rattle.std.proofs.Common.{◌≡◌, ◌∙◌, ◌<◌, length, get_or, sym, ap, subst, map, set, inl, inr, arith}
use Rattle.std.specs.Prelude.{insert}
use Rattle.std.proofs.lemmas.Grind.{common_steps}
use Rattle.std.proofs.lemmas.List.{length-map}
use Rattle.cs_view.specs.Dataset.{with_doc}
use Rattle.cs_view.specs.Document.{id_of}
use Rattle.cs_hits.proofs.Places.{set_docs, insert_docs}
use Rattle.cs_hits.proofs.held.put.Goals as goal

pub returns-in-Ok-clause-put : goal.returns-in-Ok-clause-put
returns-in-Ok-clause-put g c =
    let held = g.T.Held.held in
    let t = held c.args.one in
    let put : with_doc t (map held c.args.all.now.items) ≡ set (map held c.args.all.now.items) c.in-Ok.place t =
    subst (λ xs. with_doc t (map held xs) ≡ set (map held xs) c.in-Ok.place t) c.deref.ensures.value (c.in-Ok.ensures.put t (sym (c.id.ensures ∙ ap id_of c.doc.ensures))) in
    ap (λ one. map held (set c.args.all.now.items c.in-Ok.place one)) c.replace-old.ensures.after
    ∙ set_docs held c.args.all.now.items c.in-Ok.place c.args.one ∙ sym put

pub returns-in-Ok-clause-among : goal.returns-in-Ok-clause-among
returns-in-Ok-clause-among g c =
    (c.in-Ok.place, inl (ap (λ one. set c.args.all.now.items c.in-Ok.place one) c.replace-old.ensures.after))

pub returns-in_ok-insert-in-Err-clause-put : goal.returns-in_ok-insert-in-Err-clause-put
returns-in_ok-insert-in-Err-clause-put g c =
    let held = g.T.Held.held in
    let t = held c.args.one in
    let put : with_doc t (map held c.args.all.now.items) ≡ insert (map held c.args.all.now.items) c.in-Err.place t =
    subst (λ xs. with_doc t (map held xs) ≡ insert (map held xs) c.in-Err.place t) c.deref.ensures.value (c.in-Err.ensures.put t (sym (c.id.ensures ∙ ap id_of c.doc.ensures))) in
    ap (map held) c.in_ok-insert-in-Err.ensures.items ∙ insert_docs held c.args.all.now.items c.in-Err.place c.args.one ∙ sym put

pub returns-in_ok-insert-in-Err-clause-among : goal.returns-in_ok-insert-in-Err-clause-among
returns-in_ok-insert-in-Err-clause-among g c = (c.in-Err.place, inr c.in_ok-insert-in-Err.ensures.items)

pub returns-in-Ok-clause-stood : goal.returns-in-Ok-clause-stood
returns-in-Ok-clause-stood g c =
    let held = g.T.Held.held in
    let low : c.in-Ok.place < length (map held c.args.all.now.items)
    = subst (λ xs. c.in-Ok.place < length (map held xs)) c.deref.ensures.value c.in-Ok.ensures.within in
    let long = length-map c.args.all.now.items held in
    let within : c.in-Ok.place < length c.args.all.now.items = omega (arith, low, long) in
    let all = c.args.all.now.items in let i = c.in-Ok.place in let s = c.index_mut.result.now in
    let here : s ≡ get_or all i s = cc c.index_mut.ensures.value in
    let any_default : (d : _) → get_or all i s ≡ get_or all i d = λ d. grind (arith, common_steps, within) in (
      within,
      ap (λ one. set c.args.all.now.items c.in-Ok.place one) c.replace-old.ensures.after,
      λ d. c.replace-old.ensures.value ∙ here ∙ any_default d,
    )
