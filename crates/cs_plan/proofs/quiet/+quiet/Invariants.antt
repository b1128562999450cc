use Rattle.std.proofs.Common.{◌≡◌, map, drop}
use Rattle.cs_syntax.specs.Expression.{arguments_of, elements_of, entries_of, keys_of, operands_of, steps_of}
use Rattle.cs_syntax.specs.View.{argument_of, element_of, entry_of, order_key_of, operands, step_of}
use Rattle.cs_plan.specs.Simple.{quiet_operands, quiet_arguments, quiet_elements, quiet_entries, quiet_steps, quiet_keys}
use Rattle.cs_plan.proofs.quiet.+quiet.Given as goal

abbrev pub invariant-quiet_operands-loop-operand : goal.invariant-quiet_operands-loop-operand
invariant-quiet_operands-loop-operand l = quiet_operands (operands_of (operands l.rest)) ≡ quiet_operands (operands_of (operands (drop l.operand-index l.rest)))

abbrev pub invariant-quiet_arguments-loop-arg : goal.invariant-quiet_arguments-loop-arg
invariant-quiet_arguments-loop-arg l = quiet_arguments (arguments_of (map argument_of l.args)) ≡ quiet_arguments (arguments_of (map argument_of (drop l.arg-index l.args)))

abbrev pub invariant-quiet_elements-loop-elem : goal.invariant-quiet_elements-loop-elem
invariant-quiet_elements-loop-elem l = quiet_elements (elements_of (map element_of l.elements)) ≡ quiet_elements (elements_of (map element_of (drop l.elem-index l.elements)))

abbrev pub invariant-quiet_entries-loop-entry : goal.invariant-quiet_entries-loop-entry
invariant-quiet_entries-loop-entry l = quiet_entries (entries_of (map entry_of l.entries)) ≡ quiet_entries (entries_of (map entry_of (drop l.entry-index l.entries)))

abbrev pub invariant-quiet_steps-loop-step : goal.invariant-quiet_steps-loop-step
invariant-quiet_steps-loop-step l = quiet_steps (steps_of (map step_of l.steps)) ≡ quiet_steps (steps_of (map step_of (drop l.step-index l.steps)))

abbrev pub invariant-quiet_keys-loop-key : goal.invariant-quiet_keys-loop-key
invariant-quiet_keys-loop-key l = quiet_keys (keys_of (map order_key_of l.keys)) ≡ quiet_keys (keys_of (map order_key_of (drop l.key-index l.keys)))
