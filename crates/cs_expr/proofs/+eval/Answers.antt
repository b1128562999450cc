use Rattle.std.proofs.Common.{◌≡◌, ◌+◌, List, ◌∷◌, ◌++◌, map, refl, sym, ap, subst, ◌∙◌, IfOk, OnOk, arith, cond, false, ℕ, Some, None, option_map}
use Rattle.cs_value.specs.Words.{list_of}
use Rattle.cs_value.specs.Tree.{Tree}
use Rattle.cs_value.specs.View.{tree, fields}
use Rattle.cs_value.specs.Words.{as_list}
use Rattle.cs_plan.specs.Steps.{is_order_name}
use Rattle.cs_syntax.specs.Expression.{Expression, Step, more_steps, more_arguments, more_keys, call, run, operands_of, steps_of, arguments_of, keys_of}
use Rattle.cs_syntax.specs.View.{expression, operands, step_of, entry_of, argument_of, order_key_of}
use Rattle.cs_syntax.specs.declared.tree.Arg.{Arg as CodeArg}
use Rattle.cs_syntax.specs.declared.tree.OrderKey.{OrderKey as CodeKey}
use Rattle.cs_syntax.specs.declared.tree.Step.{Step as CodeStep}
use Rattle.cs_view.specs.Scopes.{scope_of}
use Rattle.cs_view.specs.declared.key.Key.{Key}
use Rattle.cs_meaning.specs.Joining.{form, kind, way, entrance}
use Rattle.cs_meaning.specs.declared.join.Entrance.TheVariants.{Whole}
use Rattle.cs_meaning.specs.Ordered.{Ranked, directions, ranked}
use Rattle.cs_order.specs.First.{in_order, kept}
use Rattle.cs_order.specs.declared.ranks.Ranked.{Ranked as CodeRanked}
use Rattle.cs_expr.proofs.Keyed.{keys_quiet}
use Rattle.cs_order.specs.Ranked.{ranked as ranked_of}
use Rattle.cs_meaning.specs.Operators.{in_path, is_true, sole}
use Rattle.cs_expr.proofs.Firsts.{first_of_order}
use Rattle.cs_meaning.specs.Values.{step_value, selected, keys_values}
use Rattle.cs_meaning.specs.Looked.{looked, entry_looked, run_looked, rest_looked, arguments_looked, selected_looked, keys_looked, step_looked, entered_looked}
use Rattle.cs_parts.specs.Parts.{got, item}
use Rattle.cs_parts.specs.Turns.{turn, is_end}
use Rattle.cs_expr.specs.Starts.{enter_value, enter_looked, once_looked}
use Rattle.cs_expr.specs.Weight.{weight, operands_weight, arguments_weight, step_weight, steps_weight, keys_weight}
use Rattle.cs_parts.specs.Callees.{path_arguments}
use Rattle.cs_plan.specs.Filters.{key_in}
use Rattle.cs_syntax.proofs.Views.{expression_call}
use Rattle.cs_parts.proofs.Trees.{tree_of_null}
use Rattle.cs_expr.specs.Choosing.{chosen, chosen_looked}
use Rattle.cs_expr.proofs.Calling.{none_left, selected_here, selected_looks_here, selected_on, selected_looks_on, chosen_weight, within_path, within_list, path_looked, path_weight}
use Rattle.cs_past.proofs.Keyed.{keys_values_more}
use Rattle.cs_expr.proofs.Sorting.{keys_looked_more, keys_weight_more, ordered_list, ordered_looks, pushed_values}
use Rattle.cs_expr.proofs.Starting.{array_enters, array_looks, array_fits, entering_weight, starting_fits, step_looks, base_enters, base_looks, no_pipe_value, no_pipe_looks, pipe_weight, pipe_turn_value, pipe_turn_looks}
use Rattle.cs_expr.proofs.Nodes.{entry_left_looks, entry_met_looks, entry_taken_looks}
use Rattle.cs_expr.proofs.Answered.{on_ok, run_parts, run_keys, one_after_another, pipe_parts, kept_docs, kept_keys, star_value, star_looked, is_everything_then, kind_behind, kinds_behind, step_looks_on}
use Rattle.cs_levels.specs.Levels.{unwound, task_value, task_waiting, levels_waiting}
use Rattle.cs_levels.specs.Levels.{reached_waiting}
use Rattle.cs_levels.specs.Nodes.{steps_in}
use Rattle.cs_parts.specs.declared.answer.Got.TheVariants as got_of
use Rattle.cs_expr.specs.Fits.{reached_weight}
use Rattle.cs_expr.specs.Stops.{stop}
use Rattle.cs_levels.specs.declared.levels.Remaining.{Remaining}
use Rattle.cs_levels.specs.declared.levels.Task.{Task}
use Rattle.cs_levels.proofs.Climbing.{wait}
use Rattle.cs_expr.proofs.Climbing.{rest_of, step_stops, each_stops, whole_enters, first_value}
use Rattle.cs_expr.proofs.Climbing.{first_looks, first_fits, turn_value, turn_looks, turn_fits}
use Rattle.cs_expr.proofs.Climbing.{turn_marks, done_value, done_order, done_looks}
use Rattle.cs_expr.proofs.+eval.Goals as goal
use Rattle.cs_expr.proofs.+eval.Goals.{expressions::one_entry-in-Some+in_ok-is_met+else-not-branch, expressions::one_entry-in_default}
use Rattle.std.proofs.lemmas.List.{append-nil}
use Rattle.std.proofs.lemmas.Result.{IfOk-weaker, on_ok_weaker}
use Rattle.cs_expr.proofs.Trails.{trail_value, trail_keys}

pub expressions::eval-run-requires : goal.expressions::eval-run-requires
expressions::eval-run-requires g t c κs within =
    let e : expression c.args.expr.now ≡ run (expression c.deref-in-Run.result.now) (operands_of (operands c.deref-in-Run-2.result.now)) =
    run_parts c.args.expr.now c.in-Run.first c.in-Run.rest c.deref-in-Run.result.now c.deref-in-Run-2.result.now c.in-Run.is c.deref-in-Run.ensures c.deref-in-Run-2.ensures.value in
    let w : weight (expression c.args.expr.now) ≡ 9 + (weight (expression c.deref-in-Run.result.now) + operands_weight (operands_of (operands c.deref-in-Run-2.result.now))) = ap weight e in
    (omega arith, within)

pub expressions::eval-returns-in_ok-left-in-Run-clause-keys : goal.expressions::eval-returns-in_ok-left-in-Run-clause-keys
expressions::eval-returns-in_ok-left-in-Run-clause-keys g t c =
    let docs = g.S.Source.docs c.args.setting.now.source.now in
    let ps = fields c.args.setting.now.params.now in
    let sc = scope_of c.args.frame.now in
    let b = expression c.deref-in-Run.result.now in
    let xs = operands_of (operands c.deref-in-Run-2.result.now) in
    let v = got c.in_ok-left-in-Run.left in
    let e : expression c.args.expr.now ≡ run b xs =
    run_parts c.args.expr.now c.in-Run.first c.in-Run.rest c.deref-in-Run.result.now c.deref-in-Run-2.result.now c.in-Run.is c.deref-in-Run.ensures c.deref-in-Run-2.ensures.value in
    subst (λ (ks : List Key). OnOk c.run.result (c.run.new.keys ≡ ks))
    (one_after_another c.args.keys.now c.eval-in-Run.new.keys (looked docs ps (expression c.args.expr.now) sc) (looked docs ps b sc) (run_looked docs ps xs sc v) c.in_ok-left-in-Run.ensures.keys
    (sym (run_keys docs ps sc (expression c.args.expr.now) b xs v e c.in_ok-left-in-Run.ensures.value)))
    c.run.ensures.keys

pub steps::one_step-returns-in-Pipe-clause-value : goal.steps::one_step-returns-in-Pipe-clause-value
steps::one_step-returns-in-Pipe-clause-value g t c =
    let docs = g.S.Source.docs c.args.setting.now.source.now in
    let ps = fields c.args.setting.now.params.now in
    let sc = scope_of c.args.frame.now in
    subst (λ (y : Tree). IfOk c.ordered.result (λ g'. got g' ≡ y))
    (ap (λ (s : Step). step_value docs ps s sc (got c.args.value)) (pipe_parts c.args.step.now c.in-Pipe.name c.in-Pipe.order c.deref-in-Pipe.result.now c.in-Pipe.is c.deref-in-Pipe.ensures.value))
    c.ordered.ensures.value

pub calls::select-eval-requires : goal.calls::select-eval-requires
calls::select-eval-requires g t c κs within =
    let docs = g.S.Source.docs c.args.setting.now.source.now in
    let ps = fields c.args.setting.now.params.now in
    let sc = scope_of c.args.frame.now in
    let l = c.loop-first in
    let is = c.in-Some.ensures.cases.0 in
    let x = argument_of c.in-Some.first.now in
    let xs = arguments_of (map argument_of c.in-Some.later.now) in
    let e = expression c.in-Some-2.expr.now in
    let h : chosen docs ps x sc ≡ Some e = sym c.in_ok-expr.ensures.value ∙ ap (λ o. option_map (λ y. expression y.now) o) c.in-Some-2.is in
    let heavy : arguments_weight (arguments_of (map argument_of l.behind.now)) ≡ arguments_weight (more_arguments x xs) = ap (λ (ys : List CodeArg). arguments_weight (arguments_of (map argument_of ys))) is in
    (omega (arith, chosen_weight docs ps x sc e h, heavy, l.invariant.lighter), within)

pub calls::select-returns-in-Some-2-clause-value : goal.calls::select-returns-in-Some-2-clause-value
calls::select-returns-in-Some-2-clause-value g t c =
    let docs = g.S.Source.docs c.args.setting.now.source.now in
    let ps = fields c.args.setting.now.params.now in
    let sc = scope_of c.args.frame.now in
    let l = c.loop-first in
    let is = c.in-Some.ensures.cases.0 in
    let x = argument_of c.in-Some.first.now in
    let xs = arguments_of (map argument_of c.in-Some.later.now) in
    let e = expression c.in-Some-2.expr.now in
    let h : chosen docs ps x sc ≡ Some e = sym c.in_ok-expr.ensures.value ∙ ap (λ o. option_map (λ y. expression y.now) o) c.in-Some-2.is in
    subst (λ (y : Tree). IfOk c.eval.result (λ g'. got g' ≡ y))
    (selected_here docs ps x xs sc e h ∙ (ap (λ (ys : List CodeArg). selected docs ps (arguments_of (map argument_of ys)) sc) (sym is) ∙ l.invariant.value))
    c.eval.ensures.value

pub calls::select-returns-in-Some-2-clause-keys : goal.calls::select-returns-in-Some-2-clause-keys
calls::select-returns-in-Some-2-clause-keys g t c =
    let docs = g.S.Source.docs c.args.setting.now.source.now in
    let ps = fields c.args.setting.now.params.now in
    let sc = scope_of c.args.frame.now in
    let l = c.loop-first in
    let is = c.in-Some.ensures.cases.0 in
    let x = argument_of c.in-Some.first.now in
    let xs = arguments_of (map argument_of c.in-Some.later.now) in
    let e = expression c.in-Some-2.expr.now in
    let h : chosen docs ps x sc ≡ Some e = sym c.in_ok-expr.ensures.value ∙ ap (λ o. option_map (λ y. expression y.now) o) c.in-Some-2.is in
    subst (λ (ks : List Key). OnOk c.eval.result (c.eval.new.keys ≡ ks))
    (one_after_another l.keys c.choice.new.keys (selected_looked docs ps (more_arguments x xs) sc) (chosen_looked docs ps x sc) (looked docs ps e sc) c.in_ok-expr.ensures.keys
    (sym (selected_looks_here docs ps x xs sc e h))
    ∙ (ap (λ (ys : List CodeArg). l.keys ++ selected_looked docs ps (arguments_of (map argument_of ys)) sc) (sym is) ∙ l.invariant.keys))
    c.eval.ensures.keys

pub calls::select-loop-first-preserved : goal.calls::select-loop-first-preserved
calls::select-loop-first-preserved g t c =
    let docs = g.S.Source.docs c.args.setting.now.source.now in
    let ps = fields c.args.setting.now.params.now in
    let sc = scope_of c.args.frame.now in
    let l = c.loop-first in
    let is = c.in-Some.ensures.cases.0 in
    let x = argument_of c.in-Some.first.now in
    let xs = arguments_of (map argument_of c.in-Some.later.now) in
    let n : chosen docs ps x sc ≡ None = sym c.in_ok-expr.ensures.value ∙ ap (λ o. option_map (λ y. expression y.now) o) c.in_default-2.is in
    let heavy : arguments_weight (arguments_of (map argument_of l.behind.now)) ≡ arguments_weight (more_arguments x xs) = ap (λ (ys : List CodeArg). arguments_weight (arguments_of (map argument_of ys))) is in
    record {
      value = selected_on docs ps x xs sc n ∙ (ap (λ (ys : List CodeArg). selected docs ps (arguments_of (map argument_of ys)) sc) (sym is) ∙ l.invariant.value);
      keys = one_after_another l.keys c.choice.new.keys (selected_looked docs ps (more_arguments x xs) sc) (chosen_looked docs ps x sc) (selected_looked docs ps xs sc) c.in_ok-expr.ensures.keys
          (sym (selected_looks_on docs ps x xs sc n))
          ∙ (ap (λ (ys : List CodeArg). l.keys ++ selected_looked docs ps (arguments_of (map argument_of ys)) sc) (sym is) ∙ l.invariant.keys);
      lighter = omega (arith, heavy, l.invariant.lighter);
    }

pub calls::select-returns-clause-value : goal.calls::select-returns-clause-value
calls::select-returns-clause-value g t c =
    let docs = g.S.Source.docs c.args.setting.now.source.now in
    let ps = fields c.args.setting.now.params.now in
    let sc = scope_of c.args.frame.now in
    let l = c.loop-first in
    tree_of_null ∙ (ap (λ (ys : List CodeArg). selected docs ps (arguments_of (map argument_of ys)) sc) (sym (none_left l.behind.now c.in_default.ensures.cases)) ∙ l.invariant.value)

pub expressions::eval-call-requires : goal.expressions::eval-call-requires
expressions::eval-call-requires g t c κs within =
    let e : expression c.args.expr.now ≡ call c.in-Call.name (arguments_of (map argument_of c.deref-in-Call.result.now)) =
    ap expression c.in-Call.is ∙ (expression_call c.in-Call.name c.in-Call.args ∙ ap (λ (xs : List CodeArg). call c.in-Call.name (arguments_of (map argument_of xs))) (sym c.deref-in-Call.ensures.value)) in
    let w : weight (expression c.args.expr.now) ≡ 9 + arguments_weight (arguments_of (map argument_of c.deref-in-Call.result.now)) = ap weight e in
    (omega arith, within)

pub expressions::within-arguments-requires : goal.expressions::within-arguments-requires
expressions::within-arguments-requires g t c κs within =
    let right = expression c.args.right.now in
    let xs = arguments_of (map argument_of c.in-Some.args.now) in
    let h : path_arguments right ≡ Some xs = sym c.path_arguments.ensures ∙ ap (λ o. option_map (λ ys. arguments_of (map argument_of ys.now)) o) c.in-Some.is in
    let w : weight right ≡ 9 + arguments_weight xs = path_weight right xs h in
    (omega (arith, w), within)

pub expressions::within-returns-in-Ok-clause-value : goal.expressions::within-returns-in-Ok-clause-value
expressions::within-returns-in-Ok-clause-value g t c =
    let docs = g.S.Source.docs c.args.setting.now.source.now in
    let ps = fields c.args.setting.now.params.now in
    let sc = scope_of c.args.frame.now in
    let left = expression c.args.left.now in
    let right = expression c.args.right.now in
    let xs = arguments_of (map argument_of c.in-Some.args.now) in
    let here = item c.in_ok-here.here in
    let h : path_arguments right ≡ Some xs = sym c.path_arguments.ensures ∙ ap (λ o. option_map (λ ys. arguments_of (map argument_of ys.now)) o) c.in-Some.is in
    subst (λ (y : Tree). IfOk c.matches_path.result (λ g'. got g' ≡ y))
    (ap (λ (us : List Tree). in_path here (sole us)) c.in-Ok.ensures.value
    ∙ within_path docs ps left right sc xs here c.in_ok-here.ensures.value h)
    c.matches_path.ensures

pub expressions::within-returns-in-Ok-clause-keys : goal.expressions::within-returns-in-Ok-clause-keys
expressions::within-returns-in-Ok-clause-keys g t c =
    let docs = g.S.Source.docs c.args.setting.now.source.now in
    let ps = fields c.args.setting.now.params.now in
    let sc = scope_of c.args.frame.now in
    let left = expression c.args.left.now in
    let right = expression c.args.right.now in
    let xs = arguments_of (map argument_of c.in-Some.args.now) in
    let h : path_arguments right ≡ Some xs = sym c.path_arguments.ensures ∙ ap (λ o. option_map (λ ys. arguments_of (map argument_of ys.now)) o) c.in-Some.is in
    on_ok c.matches_path.result
    (c.in-Ok.ensures.keys
    ∙ one_after_another c.args.keys.now c.settled.new.keys (looked docs ps left sc ++ looked docs ps right sc) (looked docs ps left sc) (arguments_looked docs ps xs sc) c.in_ok-here.ensures.keys
    (ap (λ (ks : List Key). looked docs ps left sc ++ ks) (path_looked docs ps right sc xs h)))

pub expressions::within-returns-in-Ok-eval-clause-value : goal.expressions::within-returns-in-Ok-eval-clause-value
expressions::within-returns-in-Ok-eval-clause-value g t c =
    let docs = g.S.Source.docs c.args.setting.now.source.now in
    let ps = fields c.args.setting.now.params.now in
    let sc = scope_of c.args.frame.now in
    let left = expression c.args.left.now in
    let right = expression c.args.right.now in
    let h : path_arguments right ≡ None = sym c.path_arguments.ensures ∙ ap (λ o. option_map (λ ys. arguments_of (map argument_of ys.now)) o) c.in-None.is in
    c.is_among.ensures ∙ within_list docs ps left right sc (item c.in_ok-here.here)
    (got c.in-Ok-eval.list) c.in_ok-here.ensures.value
    c.in-Ok-eval.ensures.value h

pub steps::one_step-ordered-requires : goal.steps::one_step-ordered-requires
steps::one_step-ordered-requires g t c κs within =
    let w : step_weight (step_of c.args.step.now) ≡ 9 + keys_weight (keys_of (map order_key_of c.deref-in-Pipe.result.now)) =
    ap step_weight (sym (pipe_parts c.args.step.now c.in-Pipe.name c.in-Pipe.order c.deref-in-Pipe.result.now c.in-Pipe.is c.deref-in-Pipe.ensures.value)) in
    (omega arith, within)

pub chains::climb-loop-levels-init : goal.chains::climb-loop-levels-init
chains::climb-loop-levels-init g t c =
    let docs = g.S.Source.docs c.args.setting.now.source.now in
    let ps = fields c.args.setting.now.params.now in
    let sc = scope_of c.args.frame.now in
    record {
      value = first_value docs ps sc c.args.first c.new-levels.result.items
          c.new-levels.ensures.items;
      keys = ap (λ (ks : List Key). c.args.keys.now ++ ks)
          (first_looks docs ps sc c.args.first c.new-levels.result.items
          c.new-levels.ensures.items);
      fit = first_fits (reached_weight c.args.first) c.args.first c.new-levels.result.items
          c.new-levels.ensures.items c.requires;
    }

-- what waits, where a value goes through a rest next
pub chains::climb-loop-levels-preserved : goal.chains::climb-loop-levels-preserved
chains::climb-loop-levels-preserved g t c =
    let docs = g.S.Source.docs c.args.setting.now.source.now in
    let ps = fields c.args.setting.now.params.now in
    let sc = scope_of c.args.frame.now in
    let l = c.loop-levels in
    let ws = levels_waiting c.next_task.new.levels.items in
    let old = reached_waiting l.here ++ levels_waiting l.levels.items in
    let same : wait c.in-Go.rest (got c.in-Go.value) ∷ ws ≡ old =
    ap (λ (u : Task). task_waiting u ++ ws) (sym c.in-Go.is) ∙ c.in_ok-value.ensures.order in
    let h = c.in_ok-here-in-Go.here in
    let rest = rest_of docs ps sc in
    let new = c.next_task.new.levels.items in
    record {
      value = turn_value docs ps sc h c.in-Go.rest (got c.in-Go.value) new
          c.in_ok-here-in-Go.ensures.stop
          ∙ (ap (λ (u : Task). unwound rest new (task_value rest u)) (sym c.in-Go.is)
          ∙ (c.in_ok-value.ensures.value rest ∙ l.invariant.value));
      keys = turn_looks docs ps sc l.keys c.step_on.new.keys h c.in-Go.rest (got c.in-Go.value)
          ws old same c.in_ok-here-in-Go.ensures.keys
          ∙ l.invariant.keys;
      fit = turn_fits (reached_weight c.args.first) h c.in-Go.rest (got c.in-Go.value) ws old same
          l.invariant.fit c.in_ok-here-in-Go.ensures.fits;
    }

pub chains::climb-loop-levels-smaller : goal.chains::climb-loop-levels-smaller
chains::climb-loop-levels-smaller g t c =
    let docs = g.S.Source.docs c.args.setting.now.source.now in
    let ps = fields c.args.setting.now.params.now in
    let sc = scope_of c.args.frame.now in
    let l = c.loop-levels in
    let ws = levels_waiting c.next_task.new.levels.items in
    let old = reached_waiting l.here ++ levels_waiting l.levels.items in
    let same : wait c.in-Go.rest (got c.in-Go.value) ∷ ws ≡ old =
    ap (λ (u : Task). task_waiting u ++ ws) (sym c.in-Go.is) ∙ c.in_ok-value.ensures.order in
    turn_marks docs ps sc c.in_ok-here-in-Go.here c.in-Go.rest (got c.in-Go.value) ws old same
    c.in_ok-here-in-Go.ensures.stop

pub chains::climb-returns-in-Done-clause-value : goal.chains::climb-returns-in-Done-clause-value
chains::climb-returns-in-Done-clause-value g t c =
    let docs = g.S.Source.docs c.args.setting.now.source.now in
    let ps = fields c.args.setting.now.params.now in
    let sc = scope_of c.args.frame.now in
    let l = c.loop-levels in
    let rest = rest_of docs ps sc in
    done_value rest c.in_ok-value.field-0 c.next_task.new.levels.items c.in-Done.value _
    c.in-Done.is c.in_ok-value.ensures.ended
    (c.in_ok-value.ensures.value rest ∙ l.invariant.value)

pub chains::climb-returns-in-Done-clause-keys : goal.chains::climb-returns-in-Done-clause-keys
chains::climb-returns-in-Done-clause-keys g t c =
    let docs = g.S.Source.docs c.args.setting.now.source.now in
    let ps = fields c.args.setting.now.params.now in
    let sc = scope_of c.args.frame.now in
    let l = c.loop-levels in
    let old = reached_waiting l.here ++ levels_waiting l.levels.items in
    done_looks docs ps sc _ l.keys old
    (done_order c.in_ok-value.field-0 c.next_task.new.levels.items c.in-Done.value old
    c.in-Done.is c.in_ok-value.ensures.ended c.in_ok-value.ensures.order)
    l.invariant.keys

pub expressions::is_met-returns-in-Some-clause-value :
    goal.expressions::is_met-returns-in-Some-clause-value
expressions::is_met-returns-in-Some-clause-value g t c =
    c.is_true.ensures ∙ ap is_true (c.in-Some.ensures.value (g.S.Source.docs c.args.setting.now.source.now))

pub expressions::is_met-returns-in-Some-clause-keys :
    goal.expressions::is_met-returns-in-Some-clause-keys
expressions::is_met-returns-in-Some-clause-keys g t c =
    sym (ap (λ (ks : List Key). c.args.keys.now ++ ks)
    (c.in-Some.ensures.quiet (g.S.Source.docs c.args.setting.now.source.now)) ∙ append-nil c.args.keys.now)

pub expressions::settled-returns-in-Some-clause-value :
    goal.expressions::settled-returns-in-Some-clause-value
expressions::settled-returns-in-Some-clause-value g t c =
    c.in-Some.ensures.value (g.S.Source.docs c.args.setting.now.source.now) (fields c.args.setting.now.params.now)

pub expressions::settled-returns-in-Some-clause-keys :
    goal.expressions::settled-returns-in-Some-clause-keys
expressions::settled-returns-in-Some-clause-keys g t c =
    sym (ap (λ (ks : List Key). c.args.keys.now ++ ks)
    (c.in-Some.ensures.quiet (g.S.Source.docs c.args.setting.now.source.now) (fields c.args.setting.now.params.now))
    ∙ append-nil c.args.keys.now)

pub steps::order_keys-loop-first-preserved : goal.steps::order_keys-loop-first-preserved
steps::order_keys-loop-first-preserved g t c =
    let docs = g.S.Source.docs c.args.setting.now.source.now in
    let ps = fields c.args.setting.now.params.now in
    let sc = scope_of c.args.frame.now in
    let l = c.loop-first in
    let is = c.in-Some.ensures.cases.0 in
    let k = c.in-Some.first.now in
    let ks = keys_of (map order_key_of c.in-Some.later.now) in
    let heavy : keys_weight (keys_of (map order_key_of l.behind.now)) ≡ 9 + (weight (expression k.key) + keys_weight ks) = ap (λ (xs : List CodeKey). keys_weight (keys_of (map order_key_of xs))) is ∙ keys_weight_more k ks in
    record {
      value = pushed_values l.out.items _ c.in_ok-made_if_small.field-0 (keys_values docs ps ks sc) c.in_ok-push.ensures
          ∙ (ap (λ (x : Tree). map item l.out.items ++ x ∷ keys_values docs ps ks sc) (c.in_ok-made_if_small.ensures ∙ c.in_ok-key.ensures.value) ∙ (ap (λ (xs : List Tree). map item l.out.items ++ xs) (sym (keys_values_more docs ps k ks sc))
          ∙ (ap (λ (xs : List CodeKey). map item l.out.items ++ keys_values docs ps (keys_of (map order_key_of xs)) sc) (sym is) ∙ l.invariant.value)));
      keys = one_after_another l.keys c.settled.new.keys (keys_looked docs ps (more_keys (order_key_of k) ks) sc) (looked docs ps (expression k.key) sc) (keys_looked docs ps ks sc) c.in_ok-key.ensures.keys
          (keys_looked_more docs ps k ks sc)
          ∙ (ap (λ (xs : List CodeKey). l.keys ++ keys_looked docs ps (keys_of (map order_key_of xs)) sc) (sym is) ∙ l.invariant.keys);
      lighter = omega (arith, heavy, l.invariant.lighter);
    }

pub steps::rank_into-returns-then-is_past-clause-kept : goal.steps::rank_into-returns-then-is_past-clause-kept
steps::rank_into-returns-then-is_past-clause-kept g t c =
    let docs = g.S.Source.docs c.args.setting.now.source.now in
    let ps = fields c.args.setting.now.params.now in
    let sc = scope_of c.args.frame.now in
    let ks = keys_of (map order_key_of c.args.order.now) in
    let ds = c.args.directions.now in
    let limit = c.args.limit in
    let seen = c.deref.result.now in
    let by : Tree → Ranked = ranked (λ x. keys_values docs ps ks (x ∷ sc)) in
    ap (λ (rs : List CodeRanked). map ranked_of rs) (sym c.deref.ensures.value)
    ∙ (sym (c.is_past.ensures c.if-is_past.true docs ps)
    ∙ (ap (λ (v : Tree). kept ds limit (by v) (map ranked_of seen)) c.val.ensures
    ∙ ap (λ (rs : List CodeRanked). kept ds limit (by (item c.args.one)) (map ranked_of rs)) c.deref.ensures.value))

pub steps::rank_into-returns-then-is_past-clause-keys : goal.steps::rank_into-returns-then-is_past-clause-keys
steps::rank_into-returns-then-is_past-clause-keys g t c =
    let ks = keys_of (map order_key_of c.args.order.now) in
    sym (ap (λ (xs : List Key). c.args.keys.now ++ xs)
    (keys_quiet c.quiet_asks_nothing.ensures (g.S.Source.docs c.args.setting.now.source.now) (fields c.args.setting.now.params.now) ks (item c.args.one ∷ scope_of c.args.frame.now) (c.requires.silent c.if-silent.true))
    ∙ append-nil c.args.keys.now)

pub steps::ordered-returns-clause-value : goal.steps::ordered-returns-clause-value
steps::ordered-returns-clause-value g t c =
    let docs = g.S.Source.docs c.args.setting.now.source.now in
    let ps = fields c.args.setting.now.params.now in
    let sc = scope_of c.args.frame.now in
    let ks = keys_of (map order_key_of c.args.order.now) in
    let ts = map item c.in-Some.unsorted.items in
    let rs = map ranked_of c.in_ok-ranked.ranked.items in
    let items = map (λ x. x.item) (in_order c.deref-2.result.now c.args.limit rs) in
    subst (λ (y : Tree). IfOk c.list_in_order.result (λ g'. got g' ≡ y))
    (ordered_list docs ps c.args.name.now ks sc c.args.limit (got c.args.value) ts (list_of items)
    (sym (ap (λ (n : List ℕ). cond (is_order_name n) (as_list (got c.args.value)) None) c.as_str.ensures)
    ∙ (sym c.in_ok-unsorted.ensures ∙ ap (λ o. option_map (λ v. map item v.items) o) c.in-Some.is))
    (λ is. first_of_order (directions ks) c.deref.result.now c.deref-2.result.now
    (λ x. keys_values docs ps ks (x ∷ sc)) c.args.limit (got c.args.value) ts items rs
    (in_order c.deref-2.result.now c.args.limit rs) is c.in_ok-ranked.ensures.value refl refl
    (c.deref.ensures.value ∙ c.in_ok-directions.ensures)
    (c.deref-2.ensures.value ∙ c.in_ok-directions.ensures)))
    c.list_in_order.ensures

pub steps::ordered-returns-clause-keys : goal.steps::ordered-returns-clause-keys
steps::ordered-returns-clause-keys g t c =
    let docs = g.S.Source.docs c.args.setting.now.source.now in
    let ps = fields c.args.setting.now.params.now in
    let sc = scope_of c.args.frame.now in
    let ks = keys_of (map order_key_of c.args.order.now) in
    let ts = map item c.in-Some.unsorted.items in
    on_ok c.list_in_order.result
    (c.in_ok-ranked.ensures.keys
    ∙ ap (λ (xs : List Key). c.args.keys.now ++ xs)
    (ordered_looks docs ps c.args.name.now ks sc (got c.args.value) ts
    (sym (ap (λ (n : List ℕ). cond (is_order_name n) (as_list (got c.args.value)) None) c.as_str.ensures)
    ∙ (sym c.in_ok-unsorted.ensures ∙ ap (λ o. option_map (λ v. map item v.items) o) c.in-Some.is))))

pub chains::trail-returns-clause-value : goal.chains::trail-returns-clause-value
chains::trail-returns-clause-value g t c =
    IfOk-weaker c.follow.result _ _
    (λ u h. trail_value (g.S.Source.docs c.args.setting.now.source.now) (fields c.args.setting.now.params.now)
    (expression c.args.base.now) (steps_of (map step_of c.args.steps.now))
    (scope_of c.args.frame.now) (got c.in_ok-value.value) (got u) c.requires.trail c.requires.single
    c.in_ok-value.ensures.value h)
    c.follow.ensures.value

pub chains::trail-returns-clause-keys : goal.chains::trail-returns-clause-keys
chains::trail-returns-clause-keys g t c =
    on_ok_weaker c.follow.result
    (λ h. trail_keys (g.S.Source.docs c.args.setting.now.source.now) (fields c.args.setting.now.params.now)
    (expression c.args.base.now) (steps_of (map step_of c.args.steps.now))
    (scope_of c.args.frame.now) (got c.in_ok-value.value) c.args.keys.now c.eval.new.keys
    c.follow.new.keys c.requires.trail c.requires.single c.in_ok-value.ensures.value
    c.in_ok-value.ensures.keys h)
    c.follow.ensures.keys

pub chains::start-returns-in-Some-clause-value : goal.chains::start-returns-in-Some-clause-value
chains::start-returns-in-Some-clause-value g t c =
    let docs = g.S.Source.docs c.args.setting.now.source.now in
    let ps = fields c.args.setting.now.params.now in
    let sc = scope_of c.args.frame.now in
    let e = expression c.in-Some.condition.now in
    let found = map (λ r. tree r.now) c.in_ok-found.found.items in
    let kept = map (λ r. tree r.now) c.in_ok-kept.kept.items in
    array_enters docs ps sc c.entering.result c.entrance_of-entrance.result c.first_kind.result
    (got_of.Parts c.in_ok-kept.kept) c.in-Some.later c.entering.ensures
    c.entrance_of-entrance.ensures c.first_kind.ensures c.in-Some.ensures.kinds
    ∙ (ap (enter_value docs ps (steps_in c.in-Some.later) sc)
    (kept_docs docs ps e sc found found kept c.in_ok-found.ensures.found refl
    c.in_ok-kept.ensures.value)
    ∙ star_value docs ps (expression c.args.base.now) e (steps_in c.args.rest)
    (steps_in c.in-Some.later) sc (is_everything_then (expression c.args.base.now)
    c.in-Some.ensures.base) c.in-Some.ensures.some c.in-Some.ensures.condition)

pub chains::start-returns-in-Some-clause-keys : goal.chains::start-returns-in-Some-clause-keys
chains::start-returns-in-Some-clause-keys g t c =
    let docs = g.S.Source.docs c.args.setting.now.source.now in
    let ps = fields c.args.setting.now.params.now in
    let sc = scope_of c.args.frame.now in
    let b = expression c.args.base.now in
    let e = expression c.in-Some.condition.now in
    let ss = steps_in c.in-Some.later in
    let found = map (λ r. tree r.now) c.in_ok-found.found.items in
    let kept = map (λ r. tree r.now) c.in_ok-kept.kept.items in
    ap (λ (ks : List Key). c.keep_lent.new.keys ++ ks)
    (array_looks docs ps sc c.entering.result c.entrance_of-entrance.result c.first_kind.result
    (got_of.Parts c.in_ok-kept.kept) c.in-Some.later c.entering.ensures
    c.entrance_of-entrance.ensures c.first_kind.ensures c.in-Some.ensures.kinds)
    ∙ (kept_keys docs ps e sc (key_in e sc ps) found found c.args.keys.now c.look_up.new.keys
    c.keep_lent.new.keys (enter_looked docs ps ss sc (list_of kept)) _ refl
    c.in_ok-found.ensures.found refl c.in_ok-found.ensures.keys c.in_ok-kept.ensures.keys
    (ap (enter_looked docs ps ss sc) (kept_docs docs ps e sc found found kept
    c.in_ok-found.ensures.found refl c.in_ok-kept.ensures.value))
    ∙ ap (λ (ks : List Key). c.args.keys.now ++ ks) (star_looked docs ps b e (steps_in c.args.rest)
    ss sc (is_everything_then b c.in-Some.ensures.base) c.in-Some.ensures.some
    c.in-Some.ensures.condition))

pub chains::start-returns-clause-value : goal.chains::start-returns-clause-value
chains::start-returns-clause-value g t c =
    base_enters (g.S.Source.docs c.args.setting.now.source.now) (fields c.args.setting.now.params.now)
    (scope_of c.args.frame.now) (expression c.args.base.now) c.entering-2.result
    c.base_entrance-entrance.result c.first_kind-2.result c.in_ok-value.value c.args.rest
    c.entering-2.ensures c.base_entrance-entrance.ensures c.first_kind-2.ensures c.requires
    c.in_ok-value.ensures.value

pub chains::start-returns-clause-keys : goal.chains::start-returns-clause-keys
chains::start-returns-clause-keys g t c =
    base_looks (g.S.Source.docs c.args.setting.now.source.now) (fields c.args.setting.now.params.now)
    (scope_of c.args.frame.now) (expression c.args.base.now) c.entering-2.result
    c.base_entrance-entrance.result c.first_kind-2.result c.in_ok-value.value c.args.rest
    c.args.keys.now c.eval.new.keys c.entering-2.ensures c.base_entrance-entrance.ensures
    c.first_kind-2.ensures c.requires c.in_ok-value.ensures.value c.in_default.ensures.none
    c.in_ok-value.ensures.keys

pub chains::pipes-ordered-requires : goal.chains::pipes-ordered-requires
chains::pipes-ordered-requires g t c κs within = (
  omega (
    arith,
    pipe_weight (steps_in c.loop-pipe.left) _ (steps_in c.in-Some.pipe.later)
        c.in-Some.ensures.some,
    c.loop-pipe.invariant.lighter,
  ),
  within,
)

pub chains::pipes-climb-requires : goal.chains::pipes-climb-requires
chains::pipes-climb-requires g t c κs within =
    let later = c.in-Some.pipe.later in
    let r = c.entering-first.result in
    let w : reached_weight r ≡ steps_weight (steps_in later) = ap reached_weight
    c.entering-first.ensures ∙ entering_weight c.entrance_of.result c.in_ok-list.list later in (
      omega (
        arith,
        w,
        pipe_weight (steps_in c.loop-pipe.left) _ (steps_in later)
            c.in-Some.ensures.some,
        c.loop-pipe.invariant.lighter,
      ),
      (
        within.0,
        (
          within.1,
          array_fits r c.entrance_of.result c.in_ok-list.list later c.entering-first.ensures
              c.in-Some.ensures.kinds,
        ),
      ),
    )

pub chains::pipes-loop-pipe-smaller : goal.chains::pipes-loop-pipe-smaller
chains::pipes-loop-pipe-smaller g t c =
    omega (
      arith,
      pipe_weight (steps_in c.loop-pipe.left) _ (steps_in c.in-Some.pipe.later)
          c.in-Some.ensures.some,
    )

pub chains::pipes-loop-pipe-preserved : goal.chains::pipes-loop-pipe-preserved
chains::pipes-loop-pipe-preserved g t c =
    let docs = g.S.Source.docs c.args.setting.now.source.now in
    let ps = fields c.args.setting.now.params.now in
    let sc = scope_of c.args.frame.now in
    let l = c.loop-pipe in
    let pipe = c.in-Some.pipe in
    let ks = keys_of (map order_key_of pipe.order.now) in
    let asks = c.first_asked-limit.ensures.asked in
    let first = c.in_ok-list.ensures.value in
    let enters : got c.in_ok-here.here ≡ enter_value docs ps (steps_in pipe.later) sc
    (got c.in_ok-list.list) = c.in_ok-here.ensures.value
    ∙ array_enters docs ps sc c.entering-first.result c.entrance_of.result c.first_kind.result
    c.in_ok-list.list pipe.later c.entering-first.ensures c.entrance_of.ensures
    c.first_kind.ensures c.in-Some.ensures.kinds in
    record {
      value = pipe_turn_value docs ps (steps_in l.left) (steps_in pipe.later) sc pipe.name.now ks
          c.first_asked-limit.result (got l.here) (got c.in_ok-list.list) (got c.in_ok-here.here)
          c.in-Some.ensures.some asks first enters ∙ l.invariant.value;
      keys = pipe_turn_looks docs ps (steps_in l.left) (steps_in pipe.later) sc pipe.name.now ks
          c.first_asked-limit.result (got l.here) (got c.in_ok-list.list) (got c.in_ok-here.here)
          l.keys c.ordered.new.keys c.climb.new.keys c.in-Some.ensures.some asks first enters
          c.in_ok-list.ensures.keys
          (c.in_ok-here.ensures.keys ∙ ap (λ (ks : List Key). c.ordered.new.keys ++ ks)
          (array_looks docs ps sc c.entering-first.result c.entrance_of.result c.first_kind.result
          c.in_ok-list.list pipe.later c.entering-first.ensures c.entrance_of.ensures
          c.first_kind.ensures c.in-Some.ensures.kinds)) ∙ l.invariant.keys;
      kinds = c.in-Some.ensures.kinds;
      lighter = omega (
        arith,
        pipe_weight (steps_in l.left) _ (steps_in pipe.later)
            c.in-Some.ensures.some,
        l.invariant.lighter,
      );
    }

pub chains::pipes-returns-clause-value : goal.chains::pipes-returns-clause-value
chains::pipes-returns-clause-value g t c =
    let l = c.loop-pipe in
    sym (no_pipe_value (g.S.Source.docs c.args.setting.now.source.now) (fields c.args.setting.now.params.now)
    (steps_in l.left) (scope_of c.args.frame.now) (got l.here) c.in_default.ensures.none)
    ∙ l.invariant.value

pub chains::pipes-returns-clause-keys : goal.chains::pipes-returns-clause-keys
chains::pipes-returns-clause-keys g t c =
    let l = c.loop-pipe in
    sym (append-nil l.keys) ∙ (ap (λ (ks : List Key). l.keys ++ ks)
    (sym (no_pipe_looks (g.S.Source.docs c.args.setting.now.source.now) (fields c.args.setting.now.params.now)
    (steps_in l.left) (scope_of c.args.frame.now) (got l.here) c.in_default.ensures.none))
    ∙ l.invariant.keys)

pub expressions::one_entry-returns-then-not-branch-clause-keys : goal.expressions::one_entry-returns-then-not-branch-clause-keys
expressions::one_entry-returns-then-not-branch-clause-keys g t c =
    let docs = g.S.Source.docs c.args.setting.now.source.now in
    let ps = fields c.args.setting.now.params.now in
    let sc = scope_of c.args.frame.now in
    let e = expression c.in-Some.condition.now in
    c.in_ok-is_met.ensures.keys ∙ ap (λ (ks : List Key). c.args.keys.now ++ ks)
    (entry_left_looks docs ps (entry_of c.args.entry.now) sc e
    (sym c.condition_of.ensures ∙ ap (λ o. option_map (λ x. expression x.now) o) c.in-Some.is)
    (sym c.in_ok-is_met.ensures.value ∙ c.if-not-branch.true))

pub expressions::one_entry-returns-clause-keys : goal.expressions::one_entry-returns-clause-keys
expressions::one_entry-returns-clause-keys g t c =
    let docs = g.S.Source.docs c.args.setting.now.source.now in
    let ps = fields c.args.setting.now.params.now in
    let sc = scope_of c.args.frame.now in
    let x = entry_of c.args.entry.now in
    let e = expression c.entry_expr-expr.result.now in
    let looks = λ (y : Expression). looked docs ps y sc in
    on_ok c.put_entry.result
    elim c.match-condition_of.branch [
      | expressions::one_entry-in-Some+in_ok-is_met+else-not-branch w ↦
          let d = expression w.in-Some.condition.now in
          c.in_ok-value.ensures.keys
          ∙ one_after_another c.args.keys.now c.match-condition_of.keys (entry_looked docs ps x sc)
          (looks d) (looks e) (w.keys-is ∙ w.in_ok-is_met.ensures.keys)
          (entry_met_looks docs ps x sc d
          (sym c.condition_of.ensures ∙ ap (λ o. option_map (λ y. expression y.now) o) w.in-Some.is)
          (sym w.in_ok-is_met.ensures.value ∙ w.if-not-branch.false)
          ∙ ap (λ (y : Expression). looks d ++ looks y) (sym c.entry_expr-expr.ensures))
      | expressions::one_entry-in_default w ↦
          c.in_ok-value.ensures.keys
          ∙ (ap (λ (ks : List Key). ks ++ looks e) w.keys-is
          ∙ ap (λ (ks : List Key). c.args.keys.now ++ ks) (ap looks c.entry_expr-expr.ensures
          ∙ entry_taken_looks docs ps x sc
          (sym c.condition_of.ensures ∙ ap (λ o. option_map (λ y. expression y.now) o) w.in_default.is)))
    ]

pub chains::step_on-loop-first-preserved : goal.chains::step_on-loop-first-preserved
chains::step_on-loop-first-preserved g t c =
    let docs = g.S.Source.docs c.args.setting.now.source.now in
    let ps = fields c.args.setting.now.params.now in
    let sc = scope_of c.args.frame.now in
    let l = c.loop-first in
    let r : Remaining = record { steps = c.in-Some.steps; kinds = c.behind-kinds.result } in
    let is = c.in-Some.ensures.cases.0 in
    let s = step_of c.in-Some.first.now in
    let k : c.first_kind-kind.result ≡ kind (steps_in r) = c.first_kind-kind.ensures
    ∙ kind_behind l.left.steps.now c.in-Some.first.now c.in-Some.steps.now l.left.kinds.now
    c.behind-kinds.result.now is l.invariant.kinds c.behind-kinds.ensures in
    let w : c.way_of-way.result ≡ way (form s) c.first_kind-kind.result = c.way_of-way.ensures
    ∙ ap (λ f. way f c.first_kind-kind.result) c.form_of.ensures in
    let goes : is_end c.way_of-way.result ≡ false = sym c.ends.ensures ∙ c.if-ends.false in
    let on : c.turn-entrance.result ≡ turn c.way_of-way.result (entrance c.first_kind-kind.result)
    = c.turn-entrance.ensures ∙ ap (turn c.way_of-way.result) c.entrance_of.ensures in
    let whole : Whole ≡ turn c.way_of-way.result (entrance c.first_kind-kind.result) =
    sym (whole_enters c.turn-entrance.result (sym c.is_whole.ensures ∙ c.if-not-is_whole.false)) ∙ on in
    let heavy : steps_weight (steps_in l.left) ≡ steps_weight (more_steps s (steps_in r)) =
    ap (λ (xs : List CodeStep). steps_weight (steps_of (map step_of xs))) is in
    record {
      stop = step_stops docs ps sc s (steps_in r) c.first_kind-kind.result c.way_of-way.result
          Whole (got l.here) (got c.in_ok-here.here) k w goes whole c.in_ok-here.ensures.value
          ∙ (ap (λ (xs : List CodeStep). stop docs ps (steps_of (map step_of xs)) sc (got l.here))
          (sym is) ∙ l.invariant.stop);
      keys = one_after_another l.keys c.once.new.keys
          (rest_looked docs ps (more_steps s (steps_in r)) sc (got l.here))
          (once_looked c.way_of-way.result (step_looked docs ps s sc) (got l.here))
          (entered_looked Whole (rest_looked docs ps (steps_in r) sc) (got c.in_ok-here.here))
          c.in_ok-here.ensures.keys
          (sym (step_looks_on docs ps sc s (steps_in r) c.first_kind-kind.result
          c.way_of-way.result Whole (got l.here) (got c.in_ok-here.here) k w goes whole
          c.in_ok-here.ensures.value))
          ∙ (ap (λ (xs : List CodeStep). l.keys ++ rest_looked docs ps (steps_of (map step_of xs)) sc
          (got l.here)) (sym is) ∙ l.invariant.keys);
      kinds = kinds_behind l.left.steps.now c.in-Some.first.now c.in-Some.steps.now
          l.left.kinds.now c.behind-kinds.result.now is l.invariant.kinds c.behind-kinds.ensures;
      lighter = omega (arith, heavy, l.invariant.lighter);
    }

pub chains::step_on-returns-then-not-is_whole-clause-stop : goal.chains::step_on-returns-then-not-is_whole-clause-stop
chains::step_on-returns-then-not-is_whole-clause-stop g t c =
    let docs = g.S.Source.docs c.args.setting.now.source.now in
    let ps = fields c.args.setting.now.params.now in
    let sc = scope_of c.args.frame.now in
    let l = c.loop-first in
    let r : Remaining = record { steps = c.in-Some.steps; kinds = c.behind-kinds.result } in
    let is = c.in-Some.ensures.cases.0 in
    let s = step_of c.in-Some.first.now in
    let k : c.first_kind-kind.result ≡ kind (steps_in r) = c.first_kind-kind.ensures
    ∙ kind_behind l.left.steps.now c.in-Some.first.now c.in-Some.steps.now l.left.kinds.now
    c.behind-kinds.result.now is l.invariant.kinds c.behind-kinds.ensures in
    let w : c.way_of-way.result ≡ way (form s) c.first_kind-kind.result = c.way_of-way.ensures
    ∙ ap (λ f. way f c.first_kind-kind.result) c.form_of.ensures in
    let goes : is_end c.way_of-way.result ≡ false = sym c.ends.ensures ∙ c.if-ends.false in
    let on : c.turn-entrance.result ≡ turn c.way_of-way.result (entrance c.first_kind-kind.result)
    = c.turn-entrance.ensures ∙ ap (turn c.way_of-way.result) c.entrance_of.ensures in
    each_stops docs ps sc s c.first_kind-kind.result c.way_of-way.result c.turn-entrance.result
    (got l.here) c.in_ok-here.here r c.entering.result k w goes on c.in_ok-here.ensures.value
    c.entering.ensures (sym c.is_whole.ensures ∙ c.if-not-is_whole.true)
    ∙ (ap (λ (xs : List CodeStep). stop docs ps (steps_of (map step_of xs)) sc (got l.here)) (sym is)
    ∙ l.invariant.stop)

pub chains::step_on-returns-then-not-is_whole-clause-keys : goal.chains::step_on-returns-then-not-is_whole-clause-keys
chains::step_on-returns-then-not-is_whole-clause-keys g t c =
    let docs = g.S.Source.docs c.args.setting.now.source.now in
    let ps = fields c.args.setting.now.params.now in
    let sc = scope_of c.args.frame.now in
    let l = c.loop-first in
    let r : Remaining = record { steps = c.in-Some.steps; kinds = c.behind-kinds.result } in
    let is = c.in-Some.ensures.cases.0 in
    let s = step_of c.in-Some.first.now in
    let k : c.first_kind-kind.result ≡ kind (steps_in r) = c.first_kind-kind.ensures
    ∙ kind_behind l.left.steps.now c.in-Some.first.now c.in-Some.steps.now l.left.kinds.now
    c.behind-kinds.result.now is l.invariant.kinds c.behind-kinds.ensures in
    let w : c.way_of-way.result ≡ way (form s) c.first_kind-kind.result = c.way_of-way.ensures
    ∙ ap (λ f. way f c.first_kind-kind.result) c.form_of.ensures in
    let goes : is_end c.way_of-way.result ≡ false = sym c.ends.ensures ∙ c.if-ends.false in
    let on : c.turn-entrance.result ≡ turn c.way_of-way.result (entrance c.first_kind-kind.result)
    = c.turn-entrance.ensures ∙ ap (turn c.way_of-way.result) c.entrance_of.ensures in
    step_looks docs ps sc s c.first_kind-kind.result c.way_of-way.result c.turn-entrance.result
    (got l.here) c.in_ok-here.here r c.entering.result l.keys c.once.new.keys k w goes on
    c.in_ok-here.ensures.value c.entering.ensures c.in_ok-here.ensures.keys
    ∙ (ap (λ (xs : List CodeStep). l.keys ++ rest_looked docs ps (steps_of (map step_of xs)) sc
    (got l.here)) (sym is) ∙ l.invariant.keys)

pub chains::step_on-returns-then-not-is_whole-clause-fits : goal.chains::step_on-returns-then-not-is_whole-clause-fits
chains::step_on-returns-then-not-is_whole-clause-fits g t c =
    let l = c.loop-first in
    let r : Remaining = record { steps = c.in-Some.steps; kinds = c.behind-kinds.result } in
    let is = c.in-Some.ensures.cases.0 in
    let heavy : steps_weight (steps_in l.left) ≡ steps_weight (more_steps
    (step_of c.in-Some.first.now) (steps_in r))
    = ap (λ (xs : List CodeStep). steps_weight (steps_of (map step_of xs))) is in
    starting_fits (steps_weight (steps_in c.args.rest)) c.entering.result c.turn-entrance.result
    c.in_ok-here.here r c.entering.ensures
    (kinds_behind l.left.steps.now c.in-Some.first.now c.in-Some.steps.now l.left.kinds.now
    c.behind-kinds.result.now is l.invariant.kinds c.behind-kinds.ensures)
    (omega (arith, heavy, l.invariant.lighter))
