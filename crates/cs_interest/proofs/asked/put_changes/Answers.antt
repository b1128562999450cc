use Rattle.std.proofs.Common.{◌≡◌, ◌∙◌, ◌||◌, ◌+◌, ap, sym, List, drop, get_or, nat_cmp, arith}
use Rattle.std.specs.BTreeSet.{contains}
use Rattle.std.specs.List.{list_any}
use Rattle.std.proofs.lemmas.List.{drop_more}
use Rattle.cs_view.specs.View.{edit, edits}
use Rattle.cs_view.specs.declared.change.Change.{Change}
use Rattle.cs_interest.specs.Interest.{concerned}
use Rattle.cs_interest.proofs.Pairs.{or_more}
use Rattle.cs_interest.proofs.asked.put_changes.Goals as goal

pub loop-change-preserved : goal.loop-change-preserved
loop-change-preserved c = λ n h.
    let cs = c.args.changes.now in let i = c.loop-change.change-index in let d = c.change-item.result in
    let here : d ≡ get_or cs i d = cc c.change-item.is in
    or_more (concerned c.args.seed.now c.args.pairs.now n (edit d)) (list_any (concerned c.args.seed.now c.args.pairs.now n) (edits (drop (i + 1) cs))) _ _ _
    (c.in_ok-put_change.ensures n h)
    (ap (λ (e : Change). (concerned c.args.seed.now c.args.pairs.now n (edit e) || list_any (concerned c.args.seed.now c.args.pairs.now n) (edits (drop (i + 1) cs))) || contains nat_cmp c.loop-change.asked n) here
    ∙ ap (λ (l : List Change). list_any (concerned c.args.seed.now c.args.pairs.now n) (edits l) || contains nat_cmp c.loop-change.asked n) (sym (drop_more cs i d (omega arith)))
    ∙ c.loop-change.invariant n h)
