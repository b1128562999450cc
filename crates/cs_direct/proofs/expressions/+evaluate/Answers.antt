use Rattle.std.proofs.Common.{◌≡◌, [], map, sym, ap, subst, ◌∙◌}
use Rattle.std.specs.Prelude.{IfSome}
use Rattle.cs_value.specs.Tree.{boolean}
use Rattle.cs_value.specs.View.{fields}
use Rattle.cs_view.specs.Scopes.{scope_of}
use Rattle.cs_syntax.specs.Expression.{Expression, Arguments, steps_of}
use Rattle.cs_syntax.specs.View.{expression, step_of}
use Rattle.cs_syntax.proofs.Views.{chain_parts}
use Rattle.cs_meaning.specs.Operators.{in_path, sole}
use Rattle.cs_meaning.specs.Values.{value, arguments_values}
use Rattle.cs_meaning.specs.Looked.{looked, arguments_looked}
use Rattle.cs_operand.specs.Operands.{operand}
use Rattle.cs_direct.proofs.Follows.{found_value, found_quiet}
use Rattle.cs_direct.proofs.Nodes.{call_parts, args_parts, array_parts, among_array}
use Rattle.cs_direct.proofs.expressions.+evaluate.Goals as goal

pub evaluate-returns-in-Call-clause-value : goal.evaluate-returns-in-Call-clause-value
evaluate-returns-in-Call-clause-value t c =
    subst (λ (e : Expression). IfSome c.call.result (λ o. operand o
    ≡ value [] (fields c.args.params.now) e (scope_of c.args.frame.now)))
    (sym (call_parts c.args.expr.now c.in-Call.name c.in-Call.args c.as_str-in-Call.result.now
    c.deref-in-Call.result.now c.in-Call.is c.as_str-in-Call.ensures c.deref-in-Call.ensures.value))
    c.call.ensures.value

pub evaluate-returns-in-Call-clause-quiet : goal.evaluate-returns-in-Call-clause-quiet
evaluate-returns-in-Call-clause-quiet t c =
    subst (λ (e : Expression). IfSome c.call.result (λ _.
    looked [] (fields c.args.params.now) e (scope_of c.args.frame.now) ≡ []))
    (sym (call_parts c.args.expr.now c.in-Call.name c.in-Call.args c.as_str-in-Call.result.now
    c.deref-in-Call.result.now c.in-Call.is c.as_str-in-Call.ensures c.deref-in-Call.ensures.value))
    c.call.ensures.quiet

pub evaluate-returns-in-Chain-clause-value : goal.evaluate-returns-in-Chain-clause-value
evaluate-returns-in-Chain-clause-value t c =
    subst (λ (e : Expression). IfSome c.chain.result (λ o. operand o
    ≡ value [] (fields c.args.params.now) e (scope_of c.args.frame.now)))
    (sym (chain_parts c.args.expr.now c.in-Chain.base c.in-Chain.steps
    c.deref-in-Chain.result.now c.deref-in-Chain-2.result.now c.in-Chain.is
    c.deref-in-Chain.ensures c.deref-in-Chain-2.ensures.value))
    c.chain.ensures.value

pub evaluate-returns-in-Chain-clause-quiet : goal.evaluate-returns-in-Chain-clause-quiet
evaluate-returns-in-Chain-clause-quiet t c =
    subst (λ (e : Expression). IfSome c.chain.result (λ _.
    looked [] (fields c.args.params.now) e (scope_of c.args.frame.now) ≡ []))
    (sym (chain_parts c.args.expr.now c.in-Chain.base c.in-Chain.steps
    c.deref-in-Chain.result.now c.deref-in-Chain-2.result.now c.in-Chain.is
    c.deref-in-Chain.ensures c.deref-in-Chain-2.ensures.value))
    c.chain.ensures.quiet

pub chain-returns-clause-value : goal.chain-returns-clause-value
chain-returns-clause-value t c =
    found_value (fields c.args.params.now) (expression c.args.base.now)
    (steps_of (map step_of c.args.steps.now)) (scope_of c.args.frame.now)
    (operand c.in_ok-evaluate.field-0) c.follow.result
    (sym c.gives_array.ensures ∙ c.if-gives_array.false) c.in_ok-evaluate.ensures.value
    c.follow.ensures

pub chain-returns-clause-quiet : goal.chain-returns-clause-quiet
chain-returns-clause-quiet t c =
    found_quiet (fields c.args.params.now) (expression c.args.base.now)
    (steps_of (map step_of c.args.steps.now)) (scope_of c.args.frame.now)
    (operand c.in_ok-evaluate.field-0) c.follow.result
    (sym c.gives_array.ensures ∙ c.if-gives_array.false) c.in_ok-evaluate.ensures.quiet
    c.in_ok-evaluate.ensures.value c.follow.ensures

pub among-returns-in_ok-among_elements-in-Array-clause-value :
    goal.among-returns-in_ok-among_elements-in-Array-clause-value
among-returns-in_ok-among_elements-in-Array-clause-value t c =
    ap boolean c.in_ok-among_elements-in-Array.ensures.value
    ∙ sym (among_array (fields c.args.params.now) (scope_of c.args.frame.now)
    (operand c.args.left) c.args.right.now c.in-Array.list c.deref.result.now c.in-Array.is
    c.deref.ensures.value)

pub among-returns-in_ok-among_elements-in-Array-clause-quiet :
    goal.among-returns-in_ok-among_elements-in-Array-clause-quiet
among-returns-in_ok-among_elements-in-Array-clause-quiet t c =
    ap (λ (e : Expression). looked [] (fields c.args.params.now) e (scope_of c.args.frame.now))
    (array_parts c.args.right.now c.in-Array.list c.deref.result.now c.in-Array.is
    c.deref.ensures.value)
    ∙ c.in_ok-among_elements-in-Array.ensures.quiet

pub matched-returns-in-Call-clause-value : goal.matched-returns-in-Call-clause-value
matched-returns-in-Call-clause-value t c =
    subst (λ (xs : Arguments). IfSome c.pattern_matches.result (λ o. operand o
    ≡ in_path (operand c.args.left)
    (sole (arguments_values [] (fields c.args.params.now) xs (scope_of c.args.frame.now)))))
    (sym (args_parts c.args.right.now _ c.in-Call.args c.deref.result.now c.in-Call.is
    c.deref.ensures.value))
    c.pattern_matches.ensures.value

pub matched-returns-in-Call-clause-quiet : goal.matched-returns-in-Call-clause-quiet
matched-returns-in-Call-clause-quiet t c =
    subst (λ (xs : Arguments). IfSome c.pattern_matches.result (λ _.
    arguments_looked [] (fields c.args.params.now) xs (scope_of c.args.frame.now) ≡ []))
    (sym (args_parts c.args.right.now _ c.in-Call.args c.deref.result.now c.in-Call.is
    c.deref.ensures.value))
    c.pattern_matches.ensures.quiet
