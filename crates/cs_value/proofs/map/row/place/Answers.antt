use Rattle.std.proofs.Common.{◌<◌, length, sym, ap, ◌∙◌, arith}
use Rattle.cs_value.specs.Entries.{compares}
use Rattle.cs_value.proofs.Rows.{ends_below, ends_at, goes_on, whole, ended}
use Rattle.cs_value.proofs.map.row.place.Goals as goal

pub loop-at-init : goal.loop-at-init
loop-at-init g c = sym (whole _)

pub loop-at-preserved : goal.loop-at-preserved
loop-at-preserved g c =
    let at = c.loop-at.at in
    let row = c.args.row.now in
    let here : at < length row = omega arith in
    let name = c.args.name.now in
    let o = ap (compares name) (sym c.as_str.ensures) ∙ sym c.compared.ensures ∙ c.in-Greater.is in
    c.loop-at.invariant ∙ goes_on (compares name) row at c.index-row-at.result here o

pub returns-in-Less-clause-place : goal.returns-in-Less-clause-place
returns-in-Less-clause-place g c =
    let at = c.loop-at.at in
    let row = c.args.row.now in
    let here : at < length row = omega arith in
    let name = c.args.name.now in
    let o = ap (compares name) (sym c.as_str.ensures) ∙ sym c.compared.ensures ∙ c.in-Less.is in
    sym (c.loop-at.invariant ∙ ends_below (compares name) row at c.index-row-at.result here o)

pub returns-in-Equal-clause-place : goal.returns-in-Equal-clause-place
returns-in-Equal-clause-place g c =
    let at = c.loop-at.at in
    let row = c.args.row.now in
    let here : at < length row = omega arith in
    let name = c.args.name.now in
    let o = ap (compares name) (sym c.as_str.ensures) ∙ sym c.compared.ensures ∙ c.in-Equal.is in
    sym (c.loop-at.invariant ∙ ends_at (compares name) row at c.index-row-at.result here o)

pub returns-clause-place : goal.returns-clause-place
returns-clause-place g c =
    sym (c.loop-at.invariant
    ∙ ended (compares c.args.name.now) c.args.row.now c.loop-at.at (omega arith))
