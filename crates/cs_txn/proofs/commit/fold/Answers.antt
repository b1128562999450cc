use Rattle.std.proofs.Common.{◌≡◌, ◌+◌, ◌≤◌, List, ◌∷◌, length, map, sym, ap, subst, ◌∙◌, arith}
use Rattle.std.specs.Vec.Iter.{into_iter_items}
use Rattle.cs_view.proofs.Booleans.{and-left, and-right}
use Rattle.cs_body.specs.Transaction.{Action}
use Rattle.cs_body.specs.View.{action}
use Rattle.cs_working.specs.Working.{working}
use Rattle.cs_txn.specs.Commit.{folded}
use Rattle.cs_txn.specs.Visits.{is_simple_action, are_simple, costs}
use Rattle.cs_txn.specs.Within.{AreShort}
use Rattle.cs_txn.proofs.Folding.{one_more_folded, one_more_cost, last_cost}
use Rattle.cs_txn.proofs.commit.fold.Goals as goal

pub loop-mutation-preserved : goal.loop-mutation-preserved
loop-mutation-preserved g c =
    let l = c.loop-mutation in
    let tx = c.args.tx.now in
    let moment = c.args.moment.now in
    let docs = working l.working in
    let now = working c.mutate.new.working in
    let whole = map action c.args.mutations.items in
    let all = folded tx moment 0 whole (working c.args.working.now) in
    let bound = c.args.steps.now + costs tx moment 0 whole (working c.args.working.now) in
    let m = action c.in-Some.mutation in
    let rest = map action (into_iter_items c.next.new.self) in
    let here : map action (into_iter_items l.mutation-iterator) ≡ m ∷ rest =
    ap (map action) c.in-Some.ensures.steps.0 in
    record {
      at = (let one = ap length c.in-Some.ensures.steps.0 in let at = l.invariant.at in omega (arith, one, at));
      store = c.in-Ok.ensures.store ∙ l.invariant.store;
      short = (subst AreShort here l.invariant.short).1;
      to_come = one_more_folded tx moment l.index docs m rest now
          all c.in-Ok.ensures.done
          (subst (λ (ms : List Action). folded tx moment l.index ms docs ≡ all) here
          l.invariant.to_come);
      simple = λ h. and-right _ _ (sym (ap are_simple here) ∙ l.invariant.simple h);
      visits = λ h. one_more_cost tx moment l.index docs m rest now l.steps c.mutate.new.steps bound
          c.in-Ok.ensures.done
          (c.in-Ok.ensures.visits
          (and-left (is_simple_action m) _ (sym (ap are_simple here) ∙ l.invariant.simple h)))
          (subst (λ (ms : List Action). l.steps + costs tx moment l.index ms docs ≤ bound) here
          (l.invariant.visits h));
    }

pub returns-in-Err-clause-visits : goal.returns-in-Err-clause-visits
returns-in-Err-clause-visits g c = λ h.
    let l = c.loop-mutation in
    let tx = c.args.tx.now in
    let moment = c.args.moment.now in
    let docs = working l.working in
    let bound = c.args.steps.now
    + costs tx moment 0 (map action c.args.mutations.items) (working c.args.working.now) in
    let m = action c.in-Some.mutation in
    let rest = map action (into_iter_items c.next.new.self) in
    let here : map action (into_iter_items l.mutation-iterator) ≡ m ∷ rest =
    ap (map action) c.in-Some.ensures.steps.0 in
    last_cost tx moment l.index docs m rest l.steps c.mutate.new.steps bound
    (c.in-Err.ensures.visits
    (and-left (is_simple_action m) _ (sym (ap are_simple here) ∙ l.invariant.simple h)))
    (subst (λ (ms : List Action). l.steps + costs tx moment l.index ms docs ≤ bound) here
    (l.invariant.visits h))
