use Rattle.std.proofs.Common.{◌≡◌, ◌≤◌, ◌+◌, ◌++◌, List, length, sym, ap, ◌∙◌, subst, IfOk, map}
use Rattle.cs_value.specs.Tree.{Tree}
use Rattle.cs_value.specs.View.{tree, fields}
use Rattle.cs_syntax.specs.Expression.{steps_of, chain, everything, more_steps, bracket}
use Rattle.cs_syntax.specs.Queries.{expression_of}
use Rattle.cs_syntax.specs.View.{expression, step_of}
use Rattle.cs_view.specs.Scopes.{scope_of}
use Rattle.cs_view.specs.Keys.{selected}
use Rattle.cs_view.specs.declared.key.Key.{Key}
use Rattle.cs_plan.specs.Filters.{first_by_kind}
use Rattle.cs_parts.specs.Parts.{got}
use Rattle.cs_eval.proofs.Simples.{simple_answer, simple_keys, simple_visits}
use Rattle.cs_expr.proofs.Answered.{on_ok}
use Rattle.cs_eval.proofs.queries.simple_value.Goals as goal

pub returns-clause-value : goal.returns-clause-value
returns-clause-value g c =
    let f = expression c.in-Some.condition.now in
    let later = steps_of (map step_of c.in-Some.later.now) in
    let is : expression_of c.args.query.now ≡ chain everything (more_steps (bracket f) later) = sym c.expr.ensures.kept ∙ c.in-Some.ensures.some in
    subst (λ (y : Tree). IfOk c.tail_of_hits.result (λ g'. got g' ≡ y))
    (simple_answer (g.V.View.docs c.args.view.now) (fields c.args.params.now) (scope_of c.args.frame.now) (expression_of c.args.query.now) f later (map (λ r. tree r.now) c.in_ok-found.found.items)
    c.requires.simple is c.requires.root (c.in_ok-found.ensures.found ∙ ap (λ (ks : List Key). selected ks (g.V.View.docs c.args.view.now)) (c.deref.ensures.value ∙ c.in_ok-all.ensures)))
    c.tail_of_hits.ensures

pub returns-clause-keys : goal.returns-clause-keys
returns-clause-keys g c =
    let f = expression c.in-Some.condition.now in
    let later = steps_of (map step_of c.in-Some.later.now) in
    let is : expression_of c.args.query.now ≡ chain everything (more_steps (bracket f) later) = sym c.expr.ensures.kept ∙ c.in-Some.ensures.some in
    on_ok c.tail_of_hits.result
    (c.in_ok-add.ensures.added ∙ ap (λ (ks : List Key). c.args.keys.now ++ ks)
    (simple_keys (g.V.View.docs c.args.view.now) (fields c.args.params.now) (scope_of c.args.frame.now) (expression_of c.args.query.now) f later c.first_by_kind.result c.requires.simple is c.requires.root (c.first_by_kind.ensures ∙ ap first_by_kind c.in_ok-all.ensures)))

pub returns-in_err-found-clause-visits : goal.returns-in_err-found-clause-visits
returns-in_err-found-clause-visits g c =
    let f = expression c.in-Some.condition.now in
    let later = steps_of (map step_of c.in-Some.later.now) in
    let is : expression_of c.args.query.now ≡ chain everything (more_steps (bracket f) later) = sym c.expr.ensures.kept ∙ c.in-Some.ensures.some in
    simple_visits (g.V.View.docs c.args.view.now) (fields c.args.params.now) (scope_of c.args.frame.now) (expression_of c.args.query.now) f later c.args.count.now c.select_all.new.count is c.requires.root (subst (λ (ks : List Key). c.select_all.new.count ≤ c.args.count.now + length (selected ks (g.V.View.docs c.args.view.now))) (c.deref.ensures.value ∙ c.in_ok-all.ensures) c.select_all.ensures.visits)

pub returns-in_err-add-clause-visits : goal.returns-in_err-add-clause-visits
returns-in_err-add-clause-visits g c =
    let f = expression c.in-Some.condition.now in
    let later = steps_of (map step_of c.in-Some.later.now) in
    let is : expression_of c.args.query.now ≡ chain everything (more_steps (bracket f) later) = sym c.expr.ensures.kept ∙ c.in-Some.ensures.some in
    simple_visits (g.V.View.docs c.args.view.now) (fields c.args.params.now) (scope_of c.args.frame.now) (expression_of c.args.query.now) f later c.args.count.now c.select_all.new.count is c.requires.root (subst (λ (ks : List Key). c.select_all.new.count ≤ c.args.count.now + length (selected ks (g.V.View.docs c.args.view.now))) (c.deref.ensures.value ∙ c.in_ok-all.ensures) c.select_all.ensures.visits)

pub returns-clause-visits : goal.returns-clause-visits
returns-clause-visits g c =
    let f = expression c.in-Some.condition.now in
    let later = steps_of (map step_of c.in-Some.later.now) in
    let is : expression_of c.args.query.now ≡ chain everything (more_steps (bracket f) later) = sym c.expr.ensures.kept ∙ c.in-Some.ensures.some in
    simple_visits (g.V.View.docs c.args.view.now) (fields c.args.params.now) (scope_of c.args.frame.now) (expression_of c.args.query.now) f later c.args.count.now c.select_all.new.count is c.requires.root (subst (λ (ks : List Key). c.select_all.new.count ≤ c.args.count.now + length (selected ks (g.V.View.docs c.args.view.now))) (c.deref.ensures.value ∙ c.in_ok-all.ensures) c.select_all.ensures.visits)
