use Rattle.std.proofs.Common.{[], true, false, length, ap, sym, ◌∙◌}
use Rattle.cs_value.specs.View.{tree}
use Rattle.cs_alter.specs.Within.{given}
use Rattle.cs_alter.specs.Alterations.{altered}
use Rattle.cs_patch.proofs.Deep.{long_run}
use Rattle.cs_patch.proofs.Giving.{seen_all, same_standing, some_there, stopped, unstopped, written_out}
use Rattle.cs_patch.proofs.set.give_each.Goals as goal

pub returns-in-Some : goal.returns-in-Some
returns-in-Some c = λ path.
    let ns = c.args.names.now in
    stopped path ns c.first_cause.result c.args.targets.now.items c.deref.result.now
    (c.first_cause.ensures path ns) c.deref.ensures.value c.in-Some.cause
    (given ns (tree c.args.new.now)) (tree c.args.val.now) c.in-Some.is

pub returns-then-is_long : goal.returns-then-is_long
returns-then-is_long c = λ path.
    let ns = c.args.names.now in
    let ts = c.args.targets.now.items in
    long_run path ns (tree c.args.new.now) (tree c.args.val.now) (seen_all ns ts)
    (unstopped path ns c.first_cause.result ts c.deref.result.now (c.first_cause.ensures path ns)
    c.deref.ensures.value c.in_default.not-Some)
    (same_standing (tree c.args.val.now) ns [] ts ∙ c.requires)
    (some_there ns ts c.len.result c.if-len-gt0.true
    (c.len.ensures ∙ sym c.deref.ensures.len ∙ ap length c.deref.ensures.value))
    (sym c.is_long.ensures ∙ c.if-is_long.true)

pub returns-then-not-within : goal.returns-then-not-within
returns-then-not-within c = λ path.
    let ns = c.args.names.now in
    let ts = c.args.targets.now.items in
    written_out path (given ns (tree c.args.new.now)) (altered c.in_ok-alteration.alteration)
    (seen_all ns ts) (tree c.args.val.now) (tree c.alter_each.new.val) false
    (unstopped path ns c.first_cause.result ts c.deref.result.now (c.first_cause.ensures path ns)
    c.deref.ensures.value c.in_default.not-Some)
    (c.in_ok-alter_each.ensures ns) c.in_ok-alteration.ensures
    (sym c.within.ensures ∙ c.if-not-within.true)

pub returns : goal.returns
returns c = λ path.
    let ns = c.args.names.now in
    let ts = c.args.targets.now.items in
    written_out path (given ns (tree c.args.new.now)) (altered c.in_ok-alteration.alteration)
    (seen_all ns ts) (tree c.args.val.now) (tree c.alter_each.new.val) true
    (unstopped path ns c.first_cause.result ts c.deref.result.now (c.first_cause.ensures path ns)
    c.deref.ensures.value c.in_default.not-Some)
    (c.in_ok-alter_each.ensures ns) c.in_ok-alteration.ensures
    (sym c.within.ensures ∙ c.if-not-within.false)
