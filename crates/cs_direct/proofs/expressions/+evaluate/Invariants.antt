use Rattle.std.proofs.Common.{◌≡◌, [], ◌++◌, map, drop}
use Rattle.std.specs.Prelude.{◌||◌}
use Rattle.std.specs.List.{list_any}
use Rattle.cs_value.specs.View.{fields}
use Rattle.cs_syntax.specs.Expression.{arguments_of, elements_of, operands_of}
use Rattle.cs_syntax.specs.View.{argument_of, element_of, operands}
use Rattle.cs_view.specs.Scopes.{scope_of}
use Rattle.cs_ops.specs.Equal.{equal}
use Rattle.cs_meaning.specs.Values.{run_value, arguments_values, elements_values}
use Rattle.cs_meaning.specs.Looked.{run_looked, arguments_looked, elements_looked}
use Rattle.cs_direct.specs.Few.{few}
use Rattle.cs_operand.specs.Operands.{operand}
use Rattle.cs_direct.proofs.expressions.+evaluate.Given as goal

abbrev pub invariant-run_from-loop-sign : goal.invariant-run_from-loop-sign
invariant-run_from-loop-sign l = record {
  value : run_value [] (fields l.params) (operands_of (operands l.list)) (scope_of l.frame)
      (operand l.fn.left)
      ≡ run_value [] (fields l.params) (operands_of (operands (drop l.sign-index l.list)))
      (scope_of l.frame) (operand l.here);
  quiet : run_looked [] (fields l.params) (operands_of (operands l.list)) (scope_of l.frame)
      (operand l.fn.left)
      ≡ run_looked [] (fields l.params) (operands_of (operands (drop l.sign-index l.list)))
      (scope_of l.frame) (operand l.here);
}

abbrev pub invariant-arguments-loop-arg : goal.invariant-arguments-loop-arg
invariant-arguments-loop-arg l = record {
  value : few l.values ++ arguments_values [] (fields l.params)
      (arguments_of (map argument_of (drop l.arg-index l.args))) (scope_of l.frame)
      ≡ arguments_values [] (fields l.params) (arguments_of (map argument_of l.args)) (scope_of l.frame);
  quiet : arguments_looked [] (fields l.params) (arguments_of (map argument_of l.args)) (scope_of l.frame)
      ≡ arguments_looked [] (fields l.params) (arguments_of (map argument_of (drop l.arg-index l.args)))
      (scope_of l.frame);
}

abbrev pub invariant-among_elements-loop-elem : goal.invariant-among_elements-loop-elem
invariant-among_elements-loop-elem l = record {
  value : list_any (λ t. equal t (operand l.left)) (elements_values [] (fields l.params)
      (elements_of (map element_of l.list)) (scope_of l.frame))
      ≡ (l.found || list_any (λ t. equal t (operand l.left)) (elements_values []
      (fields l.params) (elements_of (map element_of (drop l.elem-index l.list))) (scope_of l.frame)));
  quiet : elements_looked [] (fields l.params) (elements_of (map element_of l.list)) (scope_of l.frame)
      ≡ elements_looked [] (fields l.params) (elements_of (map element_of (drop l.elem-index l.list)))
      (scope_of l.frame);
}
