use Rattle.std.proofs.Common.{◌≡◌, ◌<◌, ◌+◌, ◌∷◌, List, length, drop, map, IfOk, sym, ap, ◌∙◌, subst, arith}
use Rattle.cs_value.specs.View.{tree}
use Rattle.cs_jsonmatch.specs.Places.{Location, places}
use Rattle.cs_jsonmatch.specs.View.{path_of, locations}
use Rattle.cs_jsonmatch.proofs.Following.{at_first, taken, arrived_at}
use Rattle.cs_jsonmatch.proofs.sole.selected.Goals as goal

pub loop-index-init : goal.loop-index-init
loop-index-init c = at_first c.new-above.result.items (places (path_of c.args.steps.now) (tree c.args.val.now)) c.new-above.ensures.items

pub loop-index-preserved : goal.loop-index-preserved
loop-index-preserved c =
    let ss = c.args.steps.now in
    let i = c.loop-index.index in
    let next = c.in-Some-member.next.now in
    let rest = path_of (drop (i + 1) ss) in
    let here : i < length ss = omega arith in
    let inside = c.in-Some-member.ensures rest ∙ ap (λ x. map (λ l. x ∷ l) (places rest (tree next))) (sym c.in_ok-owned.ensures) in
    taken ss i c.index-steps-index.result c.in-Some.sole (tree c.loop-index.here.now) (tree next) c.in_ok-owned.field-0 c.loop-index.above.items c.push.new.self.items
    (places (path_of ss) (tree c.args.val.now)) here c.index-steps-index.is c.in-Some.ensures inside c.in_ok-push.ensures.items c.loop-index.invariant

pub returns : goal.returns
returns c =
    let all = places (path_of c.args.steps.now) (tree c.args.val.now) in
    let e = arrived_at c.args.steps.now c.loop-index.index (tree c.loop-index.here.now) c.loop-index.above.items all c.loop-index-test.false c.loop-index.invariant in
    subst (λ (ls : List Location). IfOk c.only_place.result (λ found. locations found.items ≡ ls)) e c.only_place.ensures
