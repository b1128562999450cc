use Rattle.std.proofs.Common.{◌≡◌, ◌<◌, length, Some, sym, ap, ◌∙◌, arith}
use Rattle.std.specs.BTreeMap.{is_at}
use Rattle.cs_value.specs.Entries.{compares}
use Rattle.cs_value.proofs.Rows.{first_here, later, nowhere}
use Rattle.cs_value.proofs.map.row.get.Goals as goal

pub returns-then-is : goal.returns-then-is
returns-then-is g c =
    let row = c.args.row.now in
    let name = c.args.name.now in
    let i = c.loop-other.other-index in
    let d = c.loop-other-item.result in
    let here : i < length row = omega arith in
    let same = ap (λ x. is_at (compares name) x.0) (sym c.loop-other-item.is)
    ∙ sym c.is.ensures ∙ c.if-is.true in
    ap (λ x. Some x.1) c.loop-other-item.is
    ∙ sym (c.loop-other.invariant ∙ first_here (is_at (compares name)) row i d here same)

pub loop-other-preserved : goal.loop-other-preserved
loop-other-preserved g c =
    let row = c.args.row.now in
    let name = c.args.name.now in
    let i = c.loop-other.other-index in
    let d = c.loop-other-item.result in
    let here : i < length row = omega arith in
    let apart = ap (λ x. is_at (compares name) x.0) (sym c.loop-other-item.is)
    ∙ sym c.is.ensures ∙ c.if-is.false in
    c.loop-other.invariant ∙ later (is_at (compares name)) row i d here apart

pub returns : goal.returns
returns g c =
    let row = c.args.row.now in
    let i = c.loop-other.other-index in
    let all : i ≡ length row = omega (arith, c.loop-other.auto.other-index-end) in
    sym (c.loop-other.invariant ∙ nowhere (is_at (compares c.args.name.now)) row i all)
