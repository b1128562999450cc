use Rattle.std.proofs.Common.{◌++◌, sym, ap, ◌∙◌}
use Rattle.cs_parts.specs.Parts.{got}
use Rattle.cs_levels.specs.Levels.{unwound, task_value, task_waiting, levels_waiting}
use Rattle.cs_levels.specs.declared.levels.Task.{Task}
use Rattle.cs_levels.proofs.Climbing.{popped_value, popped_order}
use Rattle.cs_levels.proofs.levels.ascend.Goals as goal

pub loop-level-preserved : goal.loop-level-preserved
loop-level-preserved c =
    let l = c.loop-level in
    let ls = c.pop.new.self.items in
    let new = c.advance.new.levels.items in
    let k = c.in_ok-fuller.fuller in
    let e = c.in_ok-fuller.ensures in
    let off = c.in-Some.ensures.items in
    let is = sym c.in-Done.is in
    record {
      value = λ rest.
          ap (λ (t : Task). unwound rest new (task_value rest t)) is
          ∙ (c.in_ok-list.ensures.value rest
          ∙ (popped_value rest ls l.levels.items c.in-Some.level k (got l.here) off e.out e.rest
          e.joins e.left
          ∙ l.invariant.value rest));
      order =
          ap (λ (t : Task). task_waiting t ++ levels_waiting new) is
          ∙ (c.in_ok-list.ensures.order
          ∙ (popped_order ls l.levels.items c.in-Some.level k off e.rest e.left
          ∙ l.invariant.order));
    }

pub returns-in-Go-clause-value : goal.returns-in-Go-clause-value
returns-in-Go-clause-value c = λ rest.
    let l = c.loop-level in
    let e = c.in_ok-fuller.ensures in
    ap (λ (t : Task). unwound rest c.advance.new.levels.items (task_value rest t))
    (sym c.in-Go.is)
    ∙ (c.in_ok-list.ensures.value rest
    ∙ (popped_value rest c.pop.new.self.items l.levels.items c.in-Some.level c.in_ok-fuller.fuller
    (got l.here) c.in-Some.ensures.items e.out e.rest e.joins e.left
    ∙ l.invariant.value rest))

pub returns-in-Go-clause-order : goal.returns-in-Go-clause-order
returns-in-Go-clause-order c =
    let l = c.loop-level in
    let e = c.in_ok-fuller.ensures in
    ap (λ (t : Task). task_waiting t ++ levels_waiting c.advance.new.levels.items)
    (sym c.in-Go.is)
    ∙ (c.in_ok-list.ensures.order
    ∙ (popped_order c.pop.new.self.items l.levels.items c.in-Some.level c.in_ok-fuller.fuller
    c.in-Some.ensures.items e.rest e.left
    ∙ l.invariant.order))
