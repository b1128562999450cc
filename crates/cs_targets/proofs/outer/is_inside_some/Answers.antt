use Rattle.std.proofs.Common.{◌<◌, length, arith, sym, ◌∙◌}
use Rattle.cs_targets.specs.Held.{is_held}
use Rattle.cs_targets.proofs.Holding.{before-here, before-more}
use Rattle.cs_targets.proofs.outer.is_inside_some.Goals as goal

pub returns-then-contains : goal.returns-then-contains
returns-then-contains c =
    let l = c.args.location.now in
    let n = c.loop-length.length in
    let end = c.loop-length.auto.length-end in
    let test = c.loop-length-test.true in
    let here : n < length l = omega arith in
    sym (c.loop-length.invariant ∙ before-here (is_held c.args.held.now) l n here (sym c.contains.ensures ∙ c.if-contains.true))

pub loop-length-preserved : goal.loop-length-preserved
loop-length-preserved c =
    let l = c.args.location.now in
    let n = c.loop-length.length in
    let end = c.loop-length.auto.length-end in
    let test = c.loop-length-test.true in
    let here : n < length l = omega arith in
    c.loop-length.invariant ∙ before-more (is_held c.args.held.now) l n here (sym c.contains.ensures ∙ c.if-contains.false)
