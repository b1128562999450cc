use Rattle.std.proofs.Common.{◌≡◌, map, set, get_or, sym, ap, ◌∙◌}
use Rattle.std.proofs.lemmas.List.{map-set, set-get_or}
use Rattle.cs_value.specs.View.{tree}
use Rattle.cs_view.proofs.Sames.{same-one}
use Rattle.cs_kept.proofs.settling.settle_at.Goals as goal

pub returns-then-is_same-clause-values : goal.returns-then-is_same-clause-values
returns-then-is_same-clause-values c =
    let vs = c.args.list.now.items in
    let i = c.args.place in
    let v = c.index.result.now in
    let same : tree c.args.value.now ≡ tree v = same-one (tree c.args.value.now) (tree v) (sym c.is_same.ensures ∙ c.if-is_same.true) in
    sym (ap (map tree) (set-get_or vs i v)) ∙ map-set tree vs i (get_or vs i v)
    ∙ ap (λ w. set (map tree vs) i (tree w)) (sym c.index.ensures) ∙ ap (set (map tree vs) i) (sym same)

pub returns-clause-values : goal.returns-clause-values
returns-clause-values c =
    let vs = c.args.list.now.items in
    map-set tree vs c.args.place c.in_ok-list.field-0 ∙ ap (set (map tree vs) c.args.place) c.in_ok-list.ensures
