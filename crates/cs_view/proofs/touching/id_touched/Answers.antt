use Rattle.std.proofs.Common.{◌≡◌, ◌∙◌, ◌+◌, ◌||◌, true, false, refl, sym, ap, subst, get_or, drop, arith}
use Rattle.std.proofs.lemmas.List.{drop_all, drop_more}
use Rattle.cs_view.specs.Changes.{is_of_id}
use Rattle.cs_view.specs.Touched.{is_touched, touches}
use Rattle.cs_view.specs.View.{edit, edits}
use Rattle.cs_view.specs.declared.change.Change.{Change}
use Rattle.cs_view.specs.declared.key.Key.{Key}
use Rattle.cs_view.specs.declared.key.Key.TheVariants.{Id}
use Rattle.cs_view.proofs.Changed.{own_ids}
use Rattle.cs_view.proofs.Sides.{own-more}
use Rattle.cs_view.proofs.touching.id_touched.Goals as goal

pub loop-change-init : goal.loop-change-init
loop-change-init c = record { left = refl; own = own_ids (edits c.args.changes.now) c.requires }

pub is_of-requires-clause-before : goal.is_of-requires-clause-before
is_of-requires-clause-before c =
    let cs = c.args.changes.now in let i = c.loop-change.change-index in let d = c.change-item.result in
    let here : d ≡ get_or cs i d = cc c.change-item.is in
    subst (λ (e : Change). is_of_id (edit e).0 (edit e).1.0 ≡ true) (sym here) (own-more cs i d (omega arith) c.loop-change.invariant.own).0.0

pub is_of-requires-clause-after : goal.is_of-requires-clause-after
is_of-requires-clause-after c =
    let cs = c.args.changes.now in let i = c.loop-change.change-index in let d = c.change-item.result in
    let here : d ≡ get_or cs i d = cc c.change-item.is in
    subst (λ (e : Change). is_of_id (edit e).0 (edit e).1.1 ≡ true) (sym here) (own-more cs i d (omega arith) c.loop-change.invariant.own).0.1

pub returns-then-is_of : goal.returns-then-is_of
returns-then-is_of c =
    let k : Key = Id c.args.id.now in let cs = c.args.changes.now in let i = c.loop-change.change-index in let d = c.change-item.result in
    let here : d ≡ get_or cs i d = cc c.change-item.is in
    let so : true ≡ touches k (edit d) = sym c.if-is_of.true ∙ c.is_of.ensures in
    (λ j. so j || is_touched (edits (drop (i + 1) cs)) k)
    ∙ ap (λ (e : Change). touches k (edit e) || is_touched (edits (drop (i + 1) cs)) k) here
    ∙ ap (λ l. is_touched (edits l) k) (sym (drop_more cs i d (omega arith))) ∙ c.loop-change.invariant.left

pub loop-change-preserved : goal.loop-change-preserved
loop-change-preserved c =
    let k : Key = Id c.args.id.now in let cs = c.args.changes.now in let i = c.loop-change.change-index in let d = c.change-item.result in
    let here : d ≡ get_or cs i d = cc c.change-item.is in
    let so : false ≡ touches k (edit d) = sym c.if-is_of.false ∙ c.is_of.ensures in
    record {
      left = (λ j. so j || is_touched (edits (drop (i + 1) cs)) k)
          ∙ ap (λ (e : Change). touches k (edit e) || is_touched (edits (drop (i + 1) cs)) k) here
          ∙ ap (λ l. is_touched (edits l) k) (sym (drop_more cs i d (omega arith))) ∙ c.loop-change.invariant.left;
      own = (own-more cs i d (omega arith) c.loop-change.invariant.own).1;
    }

pub returns : goal.returns
returns c =
    ap (λ l. is_touched (edits l) (Id c.args.id.now)) (sym (drop_all c.loop-change.change-index c.args.changes.now (omega arith)))
    ∙ c.loop-change.invariant.left
