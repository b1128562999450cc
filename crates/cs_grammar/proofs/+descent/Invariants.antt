use Rattle.std.proofs.Common.{List, [], length, ℕ, ◌*◌, ◌+◌, ◌-◌, ◌≤◌}
use Rattle.cs_grammar.specs.Reading.{Outcome, Reads, args_from, elements_from, entries_from, keys_from, neg_from, pow_from, pre_from, run_from, steps_from}
use Rattle.cs_syntax.specs.Expression.{Expression, Step}
use Rattle.cs_syntax.specs.View.{arguments, elements, entries, expression, keys, operands, steps}
use Rattle.cs_grammar.specs.View.{left}
use Rattle.cs_grammar.proofs.+descent.Given as goal

-- The tokens that are left, and among calls at one token the order of the levels.
abbrev pub decreases-bases::argument : goal.decreases-bases::argument
decreases-bases::argument l = 16 * (length l.ts.now - l.at) + 9

abbrev pub decreases-bases::arguments : goal.decreases-bases::arguments
decreases-bases::arguments l = 16 * (length l.ts.now - l.at) + 10

abbrev pub decreases-bases::base : goal.decreases-bases::base
decreases-bases::base l = 16 * (length l.ts.now - l.at)

abbrev pub decreases-bases::call : goal.decreases-bases::call
decreases-bases::call l = 16 * (length l.ts.now - l.at) + 12

abbrev pub decreases-bases::element : goal.decreases-bases::element
decreases-bases::element l = 16 * (length l.ts.now - l.at) + 9

abbrev pub decreases-bases::elements : goal.decreases-bases::elements
decreases-bases::elements l = 16 * (length l.ts.now - l.at) + 10

abbrev pub decreases-bases::sign_base : goal.decreases-bases::sign_base
decreases-bases::sign_base l = 16 * (length l.ts.now - l.at) + 12

abbrev pub decreases-bases::word_base : goal.decreases-bases::word_base
decreases-bases::word_base l = 16 * (length l.ts.now - l.at)

abbrev pub decreases-chains::bracket_step : goal.decreases-chains::bracket_step
decreases-chains::bracket_step l = 16 * (length l.ts.now - l.at) + 9

abbrev pub decreases-chains::chain : goal.decreases-chains::chain
decreases-chains::chain l = 16 * (length l.ts.now - l.at) + 1

abbrev pub decreases-chains::keys : goal.decreases-chains::keys
decreases-chains::keys l = 16 * (length l.ts.now - l.at) + 10

abbrev pub decreases-chains::order_key : goal.decreases-chains::order_key
decreases-chains::order_key l = 16 * (length l.ts.now - l.at) + 9

abbrev pub decreases-chains::pipe_step : goal.decreases-chains::pipe_step
decreases-chains::pipe_step l = 16 * (length l.ts.now - l.at)

abbrev pub decreases-chains::step : goal.decreases-chains::step
decreases-chains::step l = 16 * (length l.ts.now - l.at)

abbrev pub decreases-objects::entries : goal.decreases-objects::entries
decreases-objects::entries l = 16 * (length l.ts.now - l.at) + 10

abbrev pub decreases-objects::entry : goal.decreases-objects::entry
decreases-objects::entry l = 16 * (length l.ts.now - l.at) + 9

abbrev pub decreases-objects::spread : goal.decreases-objects::spread
decreases-objects::spread l = 16 * (length l.ts.now - l.at) + 9

abbrev pub decreases-operators::comparison : goal.decreases-operators::comparison
decreases-operators::comparison l = 16 * (length l.ts.now - l.at) + 7

abbrev pub decreases-operators::comparison_from : goal.decreases-operators::comparison_from
decreases-operators::comparison_from l = 16 * (length l.ts.now - l.at) + 1

abbrev pub decreases-operators::conjunction : goal.decreases-operators::conjunction
decreases-operators::conjunction l = 16 * (length l.ts.now - l.at) + 8

abbrev pub decreases-operators::expression : goal.decreases-operators::expression
decreases-operators::expression l = 16 * (length l.ts.now - l.at) + 8

abbrev pub decreases-operators::expression_from : goal.decreases-operators::expression_from
decreases-operators::expression_from l = 16 * (length l.ts.now - l.at) + 2

abbrev pub decreases-operators::left_run : goal.decreases-operators::left_run
decreases-operators::left_run l = 16 * (length l.ts.now - l.at) + 1

abbrev pub decreases-operators::negation : goal.decreases-operators::negation
decreases-operators::negation l = 16 * (length l.ts.now - l.at) + 4

abbrev pub decreases-operators::operand : goal.decreases-operators::operand
decreases-operators::operand l = 16 * (length l.ts.now - l.at) + 9

abbrev pub decreases-operators::power : goal.decreases-operators::power
decreases-operators::power l = 16 * (length l.ts.now - l.at) + 3

abbrev pub decreases-operators::prefixed : goal.decreases-operators::prefixed
decreases-operators::prefixed l = 16 * (length l.ts.now - l.at) + 2

abbrev pub decreases-operators::product : goal.decreases-operators::product
decreases-operators::product l = 16 * (length l.ts.now - l.at) + 5

abbrev pub decreases-operators::run : goal.decreases-operators::run
decreases-operators::run l = 16 * (length l.ts.now - l.at)

abbrev pub decreases-operators::sum : goal.decreases-operators::sum
decreases-operators::sum l = 16 * (length l.ts.now - l.at) + 6

abbrev pub invariant-bases::arguments-loop-all : goal.invariant-bases::arguments-loop-all
invariant-bases::arguments-loop-all l = record {
  from : l.at ≤ l.left;
  reads : (w : List ℕ) (o : Outcome) →
      Reads (args_from w (arguments l.all.items)) (left l.ts l.left) o →
      Reads (args_from w []) (left l.ts l.at) o;
}

abbrev pub decreases-bases::arguments-loop-all : goal.decreases-bases::arguments-loop-all
decreases-bases::arguments-loop-all l = length l.ts - l.left

abbrev pub invariant-bases::elements-loop-rest : goal.invariant-bases::elements-loop-rest
invariant-bases::elements-loop-rest l = record {
  from : l.at ≤ l.left;
  reads : (o : Outcome) → Reads (elements_from (elements l.all.items)) (left l.ts l.left) o →
      Reads (elements_from []) (left l.ts l.at) o;
}

abbrev pub decreases-bases::elements-loop-rest : goal.decreases-bases::elements-loop-rest
decreases-bases::elements-loop-rest l = length l.ts - l.left

abbrev pub invariant-chains::chain-loop-after_arrow : goal.invariant-chains::chain-loop-after_arrow
invariant-chains::chain-loop-after_arrow l = record {
  from : l.after_first ≤ l.left;
  to : l.left ≤ length l.ts;
  reads : (o : Outcome) →
      Reads (steps_from (expression l.first.value) (steps l.steps.items)) (left l.ts l.left) o →
      Reads (steps_from (expression l.first.value) []) (left l.ts l.after_first) o;
}

abbrev pub decreases-chains::chain-loop-after_arrow : goal.decreases-chains::chain-loop-after_arrow
decreases-chains::chain-loop-after_arrow l = length l.ts - l.left

abbrev pub invariant-chains::keys-loop-all : goal.invariant-chains::keys-loop-all
invariant-chains::keys-loop-all l = record {
  from : l.at ≤ l.left;
  reads : (e : Expression) (ss : List Step) (w : List ℕ) (o : Outcome) →
      Reads (keys_from e ss w (keys l.all.items)) (left l.ts l.left) o →
      Reads (keys_from e ss w []) (left l.ts l.at) o;
}

abbrev pub decreases-chains::keys-loop-all : goal.decreases-chains::keys-loop-all
decreases-chains::keys-loop-all l = length l.ts - l.left

abbrev pub invariant-objects::entries-loop-rest : goal.invariant-objects::entries-loop-rest
invariant-objects::entries-loop-rest l = record {
  from : l.at ≤ l.left;
  reads : (o : Outcome) → Reads (entries_from (entries l.all.items)) (left l.ts l.left) o →
      Reads (entries_from []) (left l.ts l.at) o;
}

abbrev pub decreases-objects::entries-loop-rest : goal.decreases-objects::entries-loop-rest
decreases-objects::entries-loop-rest l = length l.ts - l.left

abbrev pub invariant-operators::run-loop-sign : goal.invariant-operators::run-loop-sign
invariant-operators::run-loop-sign l = record {
  from : l.at ≤ l.left;
  to : l.left ≤ length l.ts;
  reads : (o : Outcome) →
      Reads (run_from l.level (expression l.first.value) (operands l.operands.items))
      (left l.ts l.left) o →
      Reads (run_from l.level (expression l.first.value) []) (left l.ts l.at) o;
}

abbrev pub decreases-operators::run-loop-sign : goal.decreases-operators::run-loop-sign
decreases-operators::run-loop-sign l = length l.ts - l.left

abbrev pub invariant-operators::negation-loop-rest : goal.invariant-operators::negation-loop-rest
invariant-operators::negation-loop-rest l = record {
  from : l.at ≤ l.left;
  reads : (o : Outcome) → Reads (neg_from l.signs.items) (left l.ts l.left) o →
      Reads (neg_from []) (left l.ts l.at) o;
}

abbrev pub decreases-operators::negation-loop-rest : goal.decreases-operators::negation-loop-rest
decreases-operators::negation-loop-rest l = length l.ts - l.left

abbrev pub invariant-operators::power-loop-after_sign : goal.invariant-operators::power-loop-after_sign
invariant-operators::power-loop-after_sign l = record {
  from : l.after_first ≤ l.left;
  to : l.left ≤ length l.ts;
  reads : (o : Outcome) →
      Reads (pow_from (expression l.first.value) (operands l.operands.items)) (left l.ts l.left)
      o → Reads (pow_from (expression l.first.value) []) (left l.ts l.after_first) o;
}

abbrev pub decreases-operators::power-loop-after_sign : goal.decreases-operators::power-loop-after_sign
decreases-operators::power-loop-after_sign l = length l.ts - l.left

abbrev pub invariant-operators::prefixed-loop-sign : goal.invariant-operators::prefixed-loop-sign
invariant-operators::prefixed-loop-sign l = record {
  from : l.at ≤ l.left;
  reads : (o : Outcome) → Reads (pre_from l.signs.items) (left l.ts l.left) o →
      Reads (pre_from []) (left l.ts l.at) o;
}

abbrev pub decreases-operators::prefixed-loop-sign : goal.decreases-operators::prefixed-loop-sign
decreases-operators::prefixed-loop-sign l = length l.ts - l.left
