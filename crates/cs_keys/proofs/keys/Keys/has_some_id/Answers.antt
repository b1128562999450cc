use Rattle.std.proofs.Common.{◌≡◌, ◌∙◌, ◌+◌, ◌||◌, true, false, refl, sym, ap, get_or, drop, arith}
use Rattle.std.specs.List.{list_any}
use Rattle.cs_view.specs.Touched.{touched, touches}
use Rattle.cs_view.specs.View.{edit, edits}
use Rattle.cs_view.specs.declared.change.Change.{Change}
use Rattle.cs_view.proofs.Changed.{own_ids}
use Rattle.cs_keys.specs.Keys.{ids_of}
use Rattle.cs_view.proofs.Sides.{own-more}
use Rattle.cs_keys.proofs.Keyed.{touched-here, touched-end}
use Rattle.cs_keys.proofs.keys.Keys.has_some_id.Goals as goal

pub loop-change-init : goal.loop-change-init
loop-change-init c = record { left = refl; own = own_ids (edits c.args.changes.now) c.requires }

pub returns-then-holds_id : goal.returns-then-holds_id
returns-then-holds_id c =
    let ids = ids_of c.args.self.now in let cs = c.args.changes.now in let i = c.loop-change.change-index in let d = c.change-item.result in
    let here : d ≡ get_or cs i d = cc c.change-item.is in
    let so : true ≡ list_any (λ key. touches key (edit d)) ids = cc (c.if-holds_id.true, c.holds_id.ensures) in
    (λ j. so j || touched ids (edits (drop (i + 1) cs)))
    ∙ ap (λ (e : Change). list_any (λ key. touches key (edit e)) ids || touched ids (edits (drop (i + 1) cs))) here
    ∙ sym (touched-here ids cs i d (omega arith)) ∙ c.loop-change.invariant.left

pub loop-change-preserved : goal.loop-change-preserved
loop-change-preserved c =
    let ids = ids_of c.args.self.now in let cs = c.args.changes.now in let i = c.loop-change.change-index in let d = c.change-item.result in
    let here : d ≡ get_or cs i d = cc c.change-item.is in
    let so : false ≡ list_any (λ key. touches key (edit d)) ids = cc (c.if-holds_id.false, c.holds_id.ensures) in
    record {
      left = (λ j. so j || touched ids (edits (drop (i + 1) cs)))
          ∙ ap (λ (e : Change). list_any (λ key. touches key (edit e)) ids || touched ids (edits (drop (i + 1) cs))) here
          ∙ sym (touched-here ids cs i d (omega arith)) ∙ c.loop-change.invariant.left;
      own = (own-more cs i d (omega arith) c.loop-change.invariant.own).1;
    }

pub returns : goal.returns
returns c = sym (touched-end (ids_of c.args.self.now) c.args.changes.now c.loop-change.change-index (omega arith)) ∙ c.loop-change.invariant.left
