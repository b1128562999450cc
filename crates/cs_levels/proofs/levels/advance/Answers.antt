use Rattle.std.proofs.Common.{List, ◌∷◌, refl, ap, ◌∙◌}
use Rattle.cs_parts.specs.Parts.{got}
use Rattle.cs_levels.specs.Levels.{unwound, levels_waiting}
use Rattle.cs_levels.specs.declared.levels.Level.{Level}
use Rattle.cs_levels.proofs.Climbing.{advanced_value, advanced_order, wait}
use Rattle.cs_levels.proofs.levels.advance.Goals as goal

pub returns-in-Some-clause-value : goal.returns-in-Some-clause-value
returns-in-Some-clause-value c = λ rest.
    let l = c.args.level in
    let k : Level = record { rest = l.rest; joins = l.joins; left = c.next.new.self; out = l.out }
    in
    let v = got c.into_got.result in
    ap (λ (ls : List Level). unwound rest ls (rest l.rest v)) c.in_ok-push-in-Some.ensures
    ∙ advanced_value rest c.args.levels.now.items l k c.in-Some.next v refl refl refl
    c.in-Some.ensures.cases.0 c.into_got.ensures

pub returns-in-Some-clause-order : goal.returns-in-Some-clause-order
returns-in-Some-clause-order c =
    let l = c.args.level in
    let k : Level = record { rest = l.rest; joins = l.joins; left = c.next.new.self; out = l.out }
    in
    let v = got c.into_got.result in
    ap (λ (ls : List Level). wait l.rest v ∷ levels_waiting ls) c.in_ok-push-in-Some.ensures
    ∙ advanced_order c.args.levels.now.items l k c.in-Some.next v refl c.in-Some.ensures.cases.0
    c.into_got.ensures
