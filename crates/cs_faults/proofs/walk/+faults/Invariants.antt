use Rattle.std.proofs.Common.{◌≡◌, map, drop}
use Rattle.cs_syntax.specs.Expression.{arguments_of, elements_of, entries_of, keys_of, operands_of, steps_of}
use Rattle.cs_syntax.specs.Faults.{in_operands, in_steps, in_keys, in_entries, in_elements, in_arguments}
use Rattle.cs_value.specs.Words.{first_of}
use Rattle.cs_syntax.specs.View.{argument_of, element_of, entry_of, order_key_of, operands, step_of}
use Rattle.cs_faults.proofs.walk.+faults.Given as goal

abbrev pub invariant-check_operands-loop-sign : goal.invariant-check_operands-loop-sign
invariant-check_operands-loop-sign l = first_of (in_operands (operands_of (operands l.rest)))
    ≡ first_of (in_operands (operands_of (operands (drop l.sign-index l.rest))))

abbrev pub invariant-check_steps-loop-step : goal.invariant-check_steps-loop-step
invariant-check_steps-loop-step l = first_of (in_steps (steps_of (map step_of l.steps)))
    ≡ first_of (in_steps (steps_of (map step_of (drop l.step-index l.steps))))

abbrev pub invariant-check_keys-loop-key : goal.invariant-check_keys-loop-key
invariant-check_keys-loop-key l = first_of (in_keys (keys_of (map order_key_of l.keys)))
    ≡ first_of (in_keys (keys_of (map order_key_of (drop l.key-index l.keys))))

abbrev pub invariant-check_entries-loop-entry : goal.invariant-check_entries-loop-entry
invariant-check_entries-loop-entry l = first_of (in_entries (entries_of (map entry_of l.entries)))
    ≡ first_of (in_entries (entries_of (map entry_of (drop l.entry-index l.entries))))

abbrev pub invariant-check_elements-loop-element : goal.invariant-check_elements-loop-element
invariant-check_elements-loop-element l =
    first_of (in_elements (elements_of (map element_of l.elements)))
    ≡ first_of (in_elements (elements_of (map element_of (drop l.element-index l.elements))))

abbrev pub invariant-check_arguments-loop-arg : goal.invariant-check_arguments-loop-arg
invariant-check_arguments-loop-arg l = first_of (in_arguments (arguments_of (map argument_of l.args)))
    ≡ first_of (in_arguments (arguments_of (map argument_of (drop l.arg-index l.args))))
