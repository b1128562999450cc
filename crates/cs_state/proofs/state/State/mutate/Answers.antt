use Rattle.std.proofs.Common.{◌≡◌, refl, length, map, subst, sym, arith}
use Rattle.std.proofs.lemmas.List.{length-map}
use Rattle.cs_value.specs.Tree.{widest}
use Rattle.cs_value.specs.View.{tree}
use Rattle.cs_body.specs.View.{txn, action}
use Rattle.cs_body.specs.Body.{Body}
use Rattle.cs_machine.specs.Rows.{by_body}
use Rattle.cs_state.specs.State.{state}
use Rattle.cs_state.specs.Visits.{VisitsFew, is_simple_body, body_cost}
use Rattle.cs_state.proofs.state.State.mutate.Goals as goal

pub transact-requires-clause-few : goal.transact-requires-clause-few
transact-requires-clause-few g c =
    let x = txn c.in-Ok.txn in
    let within = c.transactions_are_within.ensures (tree c.args.body) c.args.line x
    c.in-Ok.ensures.read in
    let few = within.0 in
    let same : length (map action c.in-Ok.txn.mutations.items)
    ≡ length c.in-Ok.txn.mutations.items = simp length-map refl in
    omega (arith, few, same, c.requires.short)

pub transact-requires-clause-short : goal.transact-requires-clause-short
transact-requires-clause-short g c =
    let x = txn c.in-Ok.txn in
    let within = c.transactions_are_within.ensures (tree c.args.body) c.args.line x
    c.in-Ok.ensures.read in
    c.within_are_short.ensures (widest (tree c.args.body)) x.actions
    (omega (arith, c.requires.short)) within.1

pub returns-in-Ok-clause-visits : goal.returns-in-Ok-clause-visits
returns-in-Ok-clause-visits g c =
    let s = state c.args.self.now in
    subst (λ (b : Body). VisitsFew (is_simple_body b) (body_cost s b) c.args.self.now (by_body s b)
    c.args.steps.now c.transact.new.steps) (sym c.in-Ok.ensures.read) c.transact.ensures.visits
