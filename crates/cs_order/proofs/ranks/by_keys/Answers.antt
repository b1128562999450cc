use Rattle.std.proofs.Common.{◌≡◌, ◌∷◌, ◌∙◌, List, Bool, length, map, sym, ap, Less, Equal, Greater, arith}
use Rattle.cs_parts.specs.Parts.{item}
use Rattle.cs_order.proofs.Keys.{decided, or_null}
use Rattle.cs_order.proofs.ranks.by_keys.Goals as goal

pub returns-in-Less : goal.returns-in-Less
returns-in-Less c =
    let l = c.loop-descending in
    decided l.left.now c.in-Some.later.now c.in-Some.descending.now l.place (map item c.args.xs.now) (map item c.args.ys.now) Less _ _ _ c.in-Some.ensures.cases.0 l.invariant.order
    (sym c.in-Less.is ∙ c.compare_keys-order.ensures)
    (or_null _ (map item c.args.xs.now) l.place c.key_at.ensures)
    (or_null _ (map item c.args.ys.now) l.place c.key_at-in-Some.ensures)

pub returns-in-Greater : goal.returns-in-Greater
returns-in-Greater c =
    let l = c.loop-descending in
    decided l.left.now c.in-Some.later.now c.in-Some.descending.now l.place (map item c.args.xs.now) (map item c.args.ys.now) Greater _ _ _ c.in-Some.ensures.cases.0 l.invariant.order
    (sym c.in-Greater.is ∙ c.compare_keys-order.ensures)
    (or_null _ (map item c.args.xs.now) l.place c.key_at.ensures)
    (or_null _ (map item c.args.ys.now) l.place c.key_at-in-Some.ensures)

pub loop-descending-preserved : goal.loop-descending-preserved
loop-descending-preserved c =
    let l = c.loop-descending in
    let one : length l.left.now ≡ length (c.in-Some.descending.now ∷ c.in-Some.later.now) = ap (λ (bs : List Bool). length bs) c.in-Some.ensures.cases.0 in
    record {
      order = decided l.left.now c.in-Some.later.now c.in-Some.descending.now l.place (map item c.args.xs.now) (map item c.args.ys.now) Equal _ _ _ c.in-Some.ensures.cases.0 l.invariant.order
          (sym c.in-Equal.is ∙ c.compare_keys-order.ensures)
          (or_null _ (map item c.args.xs.now) l.place c.key_at.ensures)
          (or_null _ (map item c.args.ys.now) l.place c.key_at-in-Some.ensures);
      inside = omega (arith, one, l.invariant.inside);
    }
