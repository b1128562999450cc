-- Measures and invariants of the evaluator.
use Rattle.std.proofs.Common.{◌≡◌, ◌+◌, ◌++◌, ◌≤◌, [], ◌∷◌, map, length}
use Rattle.std.specs.Prelude.{filter, flat_map}
use Rattle.std.specs.Vec.Iter.{into_iter_items}
use Rattle.cs_value.specs.View.{tree, fields}
use Rattle.cs_syntax.specs.Expression.{operands_of, steps_of, entries_of, elements_of, arguments_of, keys_of}
use Rattle.cs_syntax.specs.View.{expression, operands, step_of, entry_of, element_of, argument_of, order_key_of}
use Rattle.cs_view.specs.Scopes.{scope_of}
use Rattle.cs_meaning.specs.Operators.{is_true}
use Rattle.cs_meaning.specs.Values.{value, run_value, arguments_values, coalesced, selected, elements_values, entries_pairs, pipes_value, step_value, keys_values}
use Rattle.cs_meaning.specs.Looked.{looked, run_looked, arguments_looked, coalesced_looked, selected_looked, elements_looked, entries_looked, rest_looked, pipes_looked, step_looked, keys_looked}
use Rattle.cs_meaning.specs.Ordered.{ranked}
use Rattle.cs_order.specs.First.{all_kept, CanKeep}
use Rattle.cs_order.specs.Ranked.{ranked as ranked_of}
use Rattle.cs_parts.specs.Parts.{got, item}
use Rattle.cs_parts.specs.Kinds.{kinds_of}
use Rattle.cs_expr.specs.Weight.{weight, operands_weight, argument_weight, arguments_weight, elements_weight, entry_weight, entries_weight, step_weight, steps_weight, keys_weight}
use Rattle.cs_levels.specs.Levels.{unwound, reached_value, reached_waiting, levels_waiting}
use Rattle.cs_levels.specs.Nodes.{steps_in}
use Rattle.cs_expr.specs.Fits.{AllFit, reached_weight}
use Rattle.cs_expr.specs.Stops.{stop, stop_value, stop_looked, stopped}
use Rattle.cs_expr.proofs.Climbing.{rest_of, looked_of, tally_of}
use Rattle.cs_expr.proofs.+eval.Given as goal

abbrev pub decreases-expressions::eval : goal.decreases-expressions::eval
decreases-expressions::eval g l = weight (expression l.expr.now)

abbrev pub decreases-expressions::run : goal.decreases-expressions::run
decreases-expressions::run g l = operands_weight (operands_of (operands l.list.now))

abbrev pub decreases-expressions::operate : goal.decreases-expressions::operate
decreases-expressions::operate g l = weight (expression l.expr.now) + 2

abbrev pub decreases-expressions::is_met : goal.decreases-expressions::is_met
decreases-expressions::is_met g l = weight (expression l.expr.now) + 1

abbrev pub decreases-expressions::settled : goal.decreases-expressions::settled
decreases-expressions::settled g l = weight (expression l.expr.now) + 1

abbrev pub decreases-expressions::array : goal.decreases-expressions::array
decreases-expressions::array g l = elements_weight (elements_of (map element_of l.list.now))

abbrev pub decreases-expressions::object : goal.decreases-expressions::object
decreases-expressions::object g l = entries_weight (entries_of (map entry_of l.list.now))

abbrev pub decreases-expressions::one_entry : goal.decreases-expressions::one_entry
decreases-expressions::one_entry g l = entry_weight (entry_of l.entry.now)

abbrev pub decreases-chains::chain : goal.decreases-chains::chain
decreases-chains::chain g l = weight (expression l.base.now) + steps_weight (steps_of (map step_of l.steps.now)) + 6

abbrev pub decreases-chains::trail : goal.decreases-chains::trail
decreases-chains::trail g l = weight (expression l.base.now) + steps_weight (steps_of (map step_of l.steps.now)) + 5

abbrev pub decreases-chains::joined : goal.decreases-chains::joined
decreases-chains::joined g l = weight (expression l.base.now) + steps_weight (steps_of (map step_of l.steps.now)) + 5

abbrev pub decreases-chains::start : goal.decreases-chains::start
decreases-chains::start g l = weight (expression l.base.now) + steps_weight (steps_in l.rest) + 4

abbrev pub decreases-chains::step_on : goal.decreases-chains::step_on
decreases-chains::step_on g l = steps_weight (steps_in l.rest)

abbrev pub decreases-chains::climb : goal.decreases-chains::climb
decreases-chains::climb g l = reached_weight l.first + 1

abbrev pub decreases-chains::pipes : goal.decreases-chains::pipes
decreases-chains::pipes g l = steps_weight (steps_of (map step_of l.steps.now))

abbrev pub decreases-chains::once : goal.decreases-chains::once
decreases-chains::once g l = step_weight (step_of l.step.now) + 3

abbrev pub decreases-chains::step_of_each : goal.decreases-chains::step_of_each
decreases-chains::step_of_each g l = step_weight (step_of l.step.now) + 2

abbrev pub decreases-steps::one_step : goal.decreases-steps::one_step
decreases-steps::one_step g l = step_weight (step_of l.step.now)

abbrev pub decreases-steps::bracketed : goal.decreases-steps::bracketed
decreases-steps::bracketed g l = weight (expression l.inner.now) + 5

abbrev pub decreases-steps::keep : goal.decreases-steps::keep
decreases-steps::keep g l = weight (expression l.inner.now) + 3

abbrev pub decreases-steps::keep_lent : goal.decreases-steps::keep_lent
decreases-steps::keep_lent g l = weight (expression l.inner.now) + 3

abbrev pub decreases-steps::holds : goal.decreases-steps::holds
decreases-steps::holds g l = weight (expression l.inner.now) + 2

abbrev pub decreases-steps::project : goal.decreases-steps::project
decreases-steps::project g l = entries_weight (entries_of (map entry_of l.list.now)) + 2

abbrev pub invariant-expressions::run-loop-first : goal.invariant-expressions::run-loop-first
invariant-expressions::run-loop-first g l = record {
  value : run_value (g.S.Source.docs l.setting.source.now) (fields l.setting.params.now) (operands_of (operands l.behind)) (scope_of l.frame) (got l.here) ≡ run_value (g.S.Source.docs l.setting.source.now) (fields l.setting.params.now) (operands_of (operands l.list)) (scope_of l.frame) (got l.fn.left);
  keys : l.keys ++ run_looked (g.S.Source.docs l.setting.source.now) (fields l.setting.params.now) (operands_of (operands l.behind)) (scope_of l.frame) (got l.here) ≡ l.initial.keys ++ run_looked (g.S.Source.docs l.setting.source.now) (fields l.setting.params.now) (operands_of (operands l.list)) (scope_of l.frame) (got l.fn.left);
  lighter : operands_weight (operands_of (operands l.behind)) ≤ operands_weight (operands_of (operands l.list));
}

abbrev pub decreases-expressions::run-loop-first : goal.decreases-expressions::run-loop-first
decreases-expressions::run-loop-first g l = length l.behind

abbrev pub invariant-expressions::array-loop-first : goal.invariant-expressions::array-loop-first
invariant-expressions::array-loop-first g l = record {
  value : map item l.items.items ++ elements_values (g.S.Source.docs l.setting.source.now) (fields l.setting.params.now) (elements_of (map element_of l.behind)) (scope_of l.frame) ≡ elements_values (g.S.Source.docs l.setting.source.now) (fields l.setting.params.now) (elements_of (map element_of l.list)) (scope_of l.frame);
  keys : l.keys ++ elements_looked (g.S.Source.docs l.setting.source.now) (fields l.setting.params.now) (elements_of (map element_of l.behind)) (scope_of l.frame) ≡ l.initial.keys ++ elements_looked (g.S.Source.docs l.setting.source.now) (fields l.setting.params.now) (elements_of (map element_of l.list)) (scope_of l.frame);
  lighter : elements_weight (elements_of (map element_of l.behind)) ≤ elements_weight (elements_of (map element_of l.list));
}

abbrev pub decreases-expressions::array-loop-first : goal.decreases-expressions::array-loop-first
decreases-expressions::array-loop-first g l = length l.behind

abbrev pub invariant-expressions::object-loop-first : goal.invariant-expressions::object-loop-first
invariant-expressions::object-loop-first g l = record {
  value : entries_pairs (g.S.Source.docs l.setting.source.now) (fields l.setting.params.now) (entries_of (map entry_of l.behind)) (scope_of l.frame) (fields l.pairs) ≡ entries_pairs (g.S.Source.docs l.setting.source.now) (fields l.setting.params.now) (entries_of (map entry_of l.list)) (scope_of l.frame) (fields l.initial.pairs);
  keys : l.keys ++ entries_looked (g.S.Source.docs l.setting.source.now) (fields l.setting.params.now) (entries_of (map entry_of l.behind)) (scope_of l.frame) ≡ l.initial.keys ++ entries_looked (g.S.Source.docs l.setting.source.now) (fields l.setting.params.now) (entries_of (map entry_of l.list)) (scope_of l.frame);
  lighter : entries_weight (entries_of (map entry_of l.behind)) ≤ entries_weight (entries_of (map entry_of l.list));
}

abbrev pub decreases-expressions::object-loop-first : goal.decreases-expressions::object-loop-first
decreases-expressions::object-loop-first g l = length l.behind

abbrev pub invariant-chains::step_on-loop-first : goal.invariant-chains::step_on-loop-first
invariant-chains::step_on-loop-first g l = record {
  stop : stop (g.S.Source.docs l.setting.source.now) (fields l.setting.params.now) (steps_in l.left) (scope_of l.frame)
      (got l.here) ≡ stop (g.S.Source.docs l.setting.source.now) (fields l.setting.params.now) (steps_in l.fn.rest)
      (scope_of l.frame) (got l.fn.value);
  keys : l.keys ++ rest_looked (g.S.Source.docs l.setting.source.now) (fields l.setting.params.now) (steps_in l.left)
      (scope_of l.frame) (got l.here) ≡ l.initial.keys ++ rest_looked (g.S.Source.docs l.setting.source.now)
      (fields l.setting.params.now) (steps_in l.fn.rest) (scope_of l.frame) (got l.fn.value);
  kinds : l.left.kinds.now ≡ kinds_of (map step_of l.left.steps.now);
  lighter : steps_weight (steps_in l.left) ≤ steps_weight (steps_in l.fn.rest);
}

abbrev pub decreases-chains::step_on-loop-first : goal.decreases-chains::step_on-loop-first
decreases-chains::step_on-loop-first g l = length l.left.steps.now

abbrev pub invariant-chains::climb-loop-levels : goal.invariant-chains::climb-loop-levels
invariant-chains::climb-loop-levels g l = record {
  value : unwound (rest_of (g.S.Source.docs l.setting.source.now) (fields l.setting.params.now) (scope_of l.frame))
      l.levels.items (reached_value (rest_of (g.S.Source.docs l.setting.source.now) (fields l.setting.params.now)
      (scope_of l.frame)) l.here)
      ≡ stop_value (g.S.Source.docs l.setting.source.now) (fields l.setting.params.now) (scope_of l.frame) (stopped l.fn.first);
  keys : l.keys ++ flat_map (looked_of (g.S.Source.docs l.setting.source.now) (fields l.setting.params.now)
      (scope_of l.frame)) (reached_waiting l.here ++ levels_waiting l.levels.items)
      ≡ l.initial.keys ++ stop_looked (g.S.Source.docs l.setting.source.now) (fields l.setting.params.now)
      (scope_of l.frame) (stopped l.fn.first);
  fit : AllFit (reached_weight l.fn.first)
      (reached_waiting l.here ++ levels_waiting l.levels.items);
}

abbrev pub decreases-chains::climb-loop-levels : goal.decreases-chains::climb-loop-levels
decreases-chains::climb-loop-levels g l = length (flat_map (tally_of (g.S.Source.docs l.setting.source.now)
    (fields l.setting.params.now) (scope_of l.frame)) (reached_waiting l.here ++ levels_waiting l.levels.items))

abbrev pub invariant-chains::pipes-loop-pipe : goal.invariant-chains::pipes-loop-pipe
invariant-chains::pipes-loop-pipe g l = record {
  value : pipes_value (g.S.Source.docs l.setting.source.now) (fields l.setting.params.now) (steps_in l.left) (scope_of l.frame)
      (got l.here) ≡ pipes_value (g.S.Source.docs l.setting.source.now) (fields l.setting.params.now)
      (steps_of (map step_of l.steps)) (scope_of l.frame) (got l.fn.value);
  keys : l.keys ++ pipes_looked (g.S.Source.docs l.setting.source.now) (fields l.setting.params.now) (steps_in l.left)
      (scope_of l.frame) (got l.here) ≡ l.initial.keys ++ pipes_looked (g.S.Source.docs l.setting.source.now)
      (fields l.setting.params.now) (steps_of (map step_of l.steps)) (scope_of l.frame) (got l.fn.value);
  kinds : l.left.kinds.now ≡ kinds_of (map step_of l.left.steps.now);
  lighter : steps_weight (steps_in l.left) ≤ steps_weight (steps_of (map step_of l.steps));
}

abbrev pub decreases-chains::pipes-loop-pipe : goal.decreases-chains::pipes-loop-pipe
decreases-chains::pipes-loop-pipe g l = steps_weight (steps_in l.left)

abbrev pub invariant-chains::step_of_each-loop-i : goal.invariant-chains::step_of_each-loop-i
invariant-chains::step_of_each-loop-i g l = record {
  value : map item l.out.items ++ map (step_value (g.S.Source.docs l.setting.source.now) (fields l.setting.params.now) (step_of l.step) (scope_of l.frame)) (map item (into_iter_items l.i-iterator)) ≡ map (step_value (g.S.Source.docs l.setting.source.now) (fields l.setting.params.now) (step_of l.step) (scope_of l.frame)) (map item (into_iter_items l.initial.i-iterator));
  keys : l.keys ++ flat_map (step_looked (g.S.Source.docs l.setting.source.now) (fields l.setting.params.now) (step_of l.step) (scope_of l.frame)) (map item (into_iter_items l.i-iterator)) ≡ l.initial.keys ++ flat_map (step_looked (g.S.Source.docs l.setting.source.now) (fields l.setting.params.now) (step_of l.step) (scope_of l.frame)) (map item (into_iter_items l.initial.i-iterator));
}

abbrev pub invariant-steps::keep-loop-i : goal.invariant-steps::keep-loop-i
invariant-steps::keep-loop-i g l = record {
  value : map item l.out.items ++ filter (λ x. is_true (value (g.S.Source.docs l.setting.source.now) (fields l.setting.params.now) (expression l.inner) (x ∷ scope_of l.frame))) (map item (into_iter_items l.i-iterator)) ≡ filter (λ x. is_true (value (g.S.Source.docs l.setting.source.now) (fields l.setting.params.now) (expression l.inner) (x ∷ scope_of l.frame))) (map item (into_iter_items l.initial.i-iterator));
  keys : l.keys ++ flat_map (λ x. looked (g.S.Source.docs l.setting.source.now) (fields l.setting.params.now) (expression l.inner) (x ∷ scope_of l.frame)) (map item (into_iter_items l.i-iterator)) ≡ l.initial.keys ++ flat_map (λ x. looked (g.S.Source.docs l.setting.source.now) (fields l.setting.params.now) (expression l.inner) (x ∷ scope_of l.frame)) (map item (into_iter_items l.initial.i-iterator));
}

abbrev pub invariant-steps::keep_lent-loop-part : goal.invariant-steps::keep_lent-loop-part
invariant-steps::keep_lent-loop-part g l = record {
  value : map (λ r. tree r.now) l.out.items ++ filter (λ x. is_true (value
      (g.S.Source.docs l.setting.source.now) (fields l.setting.params.now) (expression l.inner) (x ∷ scope_of l.frame)))
      (map (λ r. tree r.now) (into_iter_items l.part-iterator))
      ≡ filter (λ x. is_true (value (g.S.Source.docs l.setting.source.now) (fields l.setting.params.now)
      (expression l.inner) (x ∷ scope_of l.frame)))
      (map (λ r. tree r.now) (into_iter_items l.initial.part-iterator));
  keys : l.keys ++ flat_map (λ x. looked (g.S.Source.docs l.setting.source.now) (fields l.setting.params.now)
      (expression l.inner) (x ∷ scope_of l.frame))
      (map (λ r. tree r.now) (into_iter_items l.part-iterator))
      ≡ l.initial.keys ++ flat_map (λ x. looked (g.S.Source.docs l.setting.source.now) (fields l.setting.params.now)
      (expression l.inner) (x ∷ scope_of l.frame))
      (map (λ r. tree r.now) (into_iter_items l.initial.part-iterator));
}

abbrev pub decreases-expressions::in_range : goal.decreases-expressions::in_range
decreases-expressions::in_range g l = weight (expression l.left.now) + (weight (expression l.from.now) + weight (expression l.to.now)) + 5

abbrev pub decreases-steps::ordered : goal.decreases-steps::ordered
decreases-steps::ordered g l = keys_weight (keys_of (map order_key_of l.order.now)) + 5

abbrev pub decreases-steps::rank_each : goal.decreases-steps::rank_each
decreases-steps::rank_each g l = keys_weight (keys_of (map order_key_of l.order.now)) + 4

abbrev pub decreases-steps::rank_into : goal.decreases-steps::rank_into
decreases-steps::rank_into g l = keys_weight (keys_of (map order_key_of l.order.now)) + 3

abbrev pub decreases-steps::rank_one : goal.decreases-steps::rank_one
decreases-steps::rank_one g l = keys_weight (keys_of (map order_key_of l.order.now)) + 2

abbrev pub decreases-steps::rank_keys : goal.decreases-steps::rank_keys
decreases-steps::rank_keys g l = keys_weight (keys_of (map order_key_of l.order.now)) + 1

abbrev pub decreases-steps::order_keys : goal.decreases-steps::order_keys
decreases-steps::order_keys g l = keys_weight (keys_of (map order_key_of l.order.now))

abbrev pub invariant-steps::order_keys-loop-first : goal.invariant-steps::order_keys-loop-first
invariant-steps::order_keys-loop-first g l = record {
  value : map item l.out.items ++ keys_values (g.S.Source.docs l.setting.source.now) (fields l.setting.params.now) (keys_of (map order_key_of l.behind)) (scope_of l.frame) ≡ keys_values (g.S.Source.docs l.setting.source.now) (fields l.setting.params.now) (keys_of (map order_key_of l.order)) (scope_of l.frame);
  keys : l.keys ++ keys_looked (g.S.Source.docs l.setting.source.now) (fields l.setting.params.now) (keys_of (map order_key_of l.behind)) (scope_of l.frame) ≡ l.initial.keys ++ keys_looked (g.S.Source.docs l.setting.source.now) (fields l.setting.params.now) (keys_of (map order_key_of l.order)) (scope_of l.frame);
  lighter : keys_weight (keys_of (map order_key_of l.behind)) ≤ keys_weight (keys_of (map order_key_of l.order));
}

abbrev pub decreases-steps::order_keys-loop-first : goal.decreases-steps::order_keys-loop-first
decreases-steps::order_keys-loop-first g l = length l.behind

abbrev pub invariant-steps::rank_each-loop-i : goal.invariant-steps::rank_each-loop-i
invariant-steps::rank_each-loop-i g l = record {
  value : all_kept l.directions l.limit (map ranked_of l.kept.items) (map (ranked (λ x. keys_values
      (g.S.Source.docs l.setting.source.now) (fields l.setting.params.now) (keys_of (map order_key_of l.order))
      (x ∷ scope_of l.frame))) (map item (into_iter_items l.i-iterator)))
      ≡ all_kept l.directions l.limit [] (map (ranked (λ x. keys_values
      (g.S.Source.docs l.setting.source.now) (fields l.setting.params.now) (keys_of (map order_key_of l.order))
      (x ∷ scope_of l.frame))) (map item (into_iter_items l.initial.i-iterator)));
  can : CanKeep l.directions l.limit (map ranked_of l.kept.items);
  keys : l.keys ++ flat_map (λ x. keys_looked (g.S.Source.docs l.setting.source.now) (fields l.setting.params.now)
      (keys_of (map order_key_of l.order)) (x ∷ scope_of l.frame)) (map item (into_iter_items l.i-iterator))
      ≡ l.initial.keys ++ flat_map (λ x. keys_looked (g.S.Source.docs l.setting.source.now)
      (fields l.setting.params.now) (keys_of (map order_key_of l.order)) (x ∷ scope_of l.frame))
      (map item (into_iter_items l.initial.i-iterator));
}

abbrev pub decreases-calls::call : goal.decreases-calls::call
decreases-calls::call g l = arguments_weight (arguments_of (map argument_of l.args.now)) + 5

abbrev pub decreases-calls::coalesce : goal.decreases-calls::coalesce
decreases-calls::coalesce g l = arguments_weight (arguments_of (map argument_of l.args.now))

abbrev pub decreases-calls::select : goal.decreases-calls::select
decreases-calls::select g l = arguments_weight (arguments_of (map argument_of l.args.now))

abbrev pub decreases-calls::arguments : goal.decreases-calls::arguments
decreases-calls::arguments g l = arguments_weight (arguments_of (map argument_of l.args.now))

abbrev pub decreases-calls::choice : goal.decreases-calls::choice
decreases-calls::choice g l = argument_weight (argument_of l.arg.now)

abbrev pub decreases-calls::argument : goal.decreases-calls::argument
decreases-calls::argument g l = argument_weight (argument_of l.arg.now)

abbrev pub decreases-expressions::within : goal.decreases-expressions::within
decreases-expressions::within g l = weight (expression l.left.now) + weight (expression l.right.now) + 5

abbrev pub invariant-calls::coalesce-loop-first : goal.invariant-calls::coalesce-loop-first
invariant-calls::coalesce-loop-first g l = record {
  value : coalesced (g.S.Source.docs l.setting.source.now) (fields l.setting.params.now) (arguments_of (map argument_of l.behind)) (scope_of l.frame) ≡ coalesced (g.S.Source.docs l.setting.source.now) (fields l.setting.params.now) (arguments_of (map argument_of l.args)) (scope_of l.frame);
  keys : l.keys ++ coalesced_looked (g.S.Source.docs l.setting.source.now) (fields l.setting.params.now) (arguments_of (map argument_of l.behind)) (scope_of l.frame) ≡ l.initial.keys ++ coalesced_looked (g.S.Source.docs l.setting.source.now) (fields l.setting.params.now) (arguments_of (map argument_of l.args)) (scope_of l.frame);
  lighter : arguments_weight (arguments_of (map argument_of l.behind)) ≤ arguments_weight (arguments_of (map argument_of l.args));
}

abbrev pub decreases-calls::coalesce-loop-first : goal.decreases-calls::coalesce-loop-first
decreases-calls::coalesce-loop-first g l = length l.behind

abbrev pub invariant-calls::select-loop-first : goal.invariant-calls::select-loop-first
invariant-calls::select-loop-first g l = record {
  value : selected (g.S.Source.docs l.setting.source.now) (fields l.setting.params.now) (arguments_of (map argument_of l.behind)) (scope_of l.frame) ≡ selected (g.S.Source.docs l.setting.source.now) (fields l.setting.params.now) (arguments_of (map argument_of l.args)) (scope_of l.frame);
  keys : l.keys ++ selected_looked (g.S.Source.docs l.setting.source.now) (fields l.setting.params.now) (arguments_of (map argument_of l.behind)) (scope_of l.frame) ≡ l.initial.keys ++ selected_looked (g.S.Source.docs l.setting.source.now) (fields l.setting.params.now) (arguments_of (map argument_of l.args)) (scope_of l.frame);
  lighter : arguments_weight (arguments_of (map argument_of l.behind)) ≤ arguments_weight (arguments_of (map argument_of l.args));
}

abbrev pub decreases-calls::select-loop-first : goal.decreases-calls::select-loop-first
decreases-calls::select-loop-first g l = length l.behind

abbrev pub invariant-calls::arguments-loop-first : goal.invariant-calls::arguments-loop-first
invariant-calls::arguments-loop-first g l = record {
  value : map got l.out.items ++ arguments_values (g.S.Source.docs l.setting.source.now) (fields l.setting.params.now) (arguments_of (map argument_of l.behind)) (scope_of l.frame) ≡ arguments_values (g.S.Source.docs l.setting.source.now) (fields l.setting.params.now) (arguments_of (map argument_of l.args)) (scope_of l.frame);
  keys : l.keys ++ arguments_looked (g.S.Source.docs l.setting.source.now) (fields l.setting.params.now) (arguments_of (map argument_of l.behind)) (scope_of l.frame) ≡ l.initial.keys ++ arguments_looked (g.S.Source.docs l.setting.source.now) (fields l.setting.params.now) (arguments_of (map argument_of l.args)) (scope_of l.frame);
  lighter : arguments_weight (arguments_of (map argument_of l.behind)) ≤ arguments_weight (arguments_of (map argument_of l.args));
}

abbrev pub decreases-calls::arguments-loop-first : goal.decreases-calls::arguments-loop-first
decreases-calls::arguments-loop-first g l = length l.behind
