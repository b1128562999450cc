use Rattle.std.proofs.Common.{◌≡◌, ℕ, ◌++◌, ◌∷◌, List, map, refl, ap, ◌∙◌, arith}
use Rattle.cs_syntax.specs.Expression.{arguments_of, elements_of, entries_of, keys_of, operands_of, steps_of, OrderKey, more_keys}
use Rattle.cs_syntax.specs.Faults.{faults, at_right, behind_first, operator_faults, pipe_faults, in_operands, in_step, in_steps, in_keys, in_entry, in_entries, in_element, in_elements, in_argument, in_arguments}
use Rattle.cs_syntax.specs.View.{expression, argument_of, element_of, entry_of, order_key_of, operands, step_of}
use Rattle.cs_syntax.specs.declared.tree.Arg.{Arg}
use Rattle.cs_syntax.specs.declared.tree.BinSign.{BinSign}
use Rattle.cs_syntax.specs.declared.tree.Elem.{Elem}
use Rattle.cs_syntax.specs.declared.tree.Entry.{Entry as CodeEntry}
use Rattle.cs_syntax.specs.declared.tree.Expr.{Expr}
use Rattle.cs_syntax.specs.declared.tree.OrderKey.{OrderKey as CodeKey}
use Rattle.cs_syntax.specs.declared.tree.Step.{Step as CodeStep, the_lemmas}
use Rattle.cs_syntax.proofs.tree.Step.TheLaws.{the_size}
use Rattle.cs_faults.proofs.Firsts.{handed, seen, moved, stops, goes_on, loop_stops, loop_goes_on}
use Rattle.cs_syntax.proofs.Views.{expression_chain, expression_run, expression_within, expression_between, step_slice, step_bracket, step_project, step_pipe, entry_bare, entry_when, arg_when, key_seen}
use Rattle.cs_faults.proofs.walk.+faults.Goals as goal

check_operands-cons : (x : (BinSign × Expr)) (xs : List (BinSign × Expr)) →
    in_operands (operands_of (operands (x ∷ xs)))
    ≡ (λ (x : BinSign × Expr). operator_faults x.0 ++ faults (expression x.1)) x
    ++ in_operands (operands_of (operands xs))
unfolding operands
check_operands-cons x xs = refl

pub check_operands-loop-sign-preserved : goal.check_operands-loop-sign-preserved
check_operands-loop-sign-preserved t c =
    loop_goes_on (λ (xs : List (BinSign × Expr)). in_operands (operands_of (operands xs)))
    (λ (x : BinSign × Expr). operator_faults x.0
    ++ faults (expression x.1)) check_operands-cons c.args.rest.now c.loop-sign.sign-index
    c.loop-sign-item.result (omega arith) c.loop-sign-item.is c.loop-sign.invariant
    c.in_ok-check_operand.ensures

pub check_operands-returns-in_err-check_operand : goal.check_operands-returns-in_err-check_operand
check_operands-returns-in_err-check_operand t c =
    handed _ c.in_err-check_operand.field-0.0 c.from_residual.ensures.1
    (loop_stops (λ (xs : List (BinSign × Expr)). in_operands (operands_of (operands xs)))
    (λ (x : BinSign × Expr). operator_faults x.0
    ++ faults (expression x.1)) check_operands-cons c.args.rest.now c.loop-sign.sign-index
    c.loop-sign-item.result (omega arith) c.loop-sign-item.is c.loop-sign.invariant
    c.in_err-check_operand.ensures)

check_steps-cons : (x : CodeStep) (xs : List CodeStep) →
    in_steps (steps_of (map step_of (x ∷ xs))) ≡ (λ (x : CodeStep). in_step (step_of x)) x
    ++ in_steps (steps_of (map step_of xs))
check_steps-cons x xs = refl

pub check_steps-loop-step-preserved : goal.check_steps-loop-step-preserved
check_steps-loop-step-preserved t c =
    loop_goes_on (λ (xs : List CodeStep). in_steps (steps_of (map step_of xs)))
    (λ (x : CodeStep). in_step (step_of x)) check_steps-cons c.args.steps.now c.loop-step.step-index
    c.step-item.result (omega arith) c.step-item.is c.loop-step.invariant
    c.in_ok-check_step.ensures

pub check_steps-returns-in_err-check_step : goal.check_steps-returns-in_err-check_step
check_steps-returns-in_err-check_step t c =
    handed _ c.in_err-check_step.field-0.0 c.from_residual.ensures.1
    (loop_stops (λ (xs : List CodeStep). in_steps (steps_of (map step_of xs)))
    (λ (x : CodeStep). in_step (step_of x)) check_steps-cons c.args.steps.now c.loop-step.step-index
    c.step-item.result (omega arith) c.step-item.is c.loop-step.invariant
    c.in_err-check_step.ensures)

check_keys-cons : (x : CodeKey) (xs : List CodeKey) →
    in_keys (keys_of (map order_key_of (x ∷ xs))) ≡ (λ (x : CodeKey). faults (expression x.key)) x
    ++ in_keys (keys_of (map order_key_of xs))
check_keys-cons x xs =
    ap (λ (k : OrderKey). in_keys (more_keys k (keys_of (map order_key_of xs)))) (key_seen x)

pub check_keys-loop-key-preserved : goal.check_keys-loop-key-preserved
check_keys-loop-key-preserved t c =
    loop_goes_on (λ (xs : List CodeKey). in_keys (keys_of (map order_key_of xs)))
    (λ (x : CodeKey). faults (expression x.key)) check_keys-cons c.args.keys.now
    c.loop-key.key-index c.key-item.result (omega arith) c.key-item.is c.loop-key.invariant
    c.in_ok-check.ensures

pub check_keys-returns-in_err-check : goal.check_keys-returns-in_err-check
check_keys-returns-in_err-check t c =
    handed _ c.in_err-check.field-0.0 c.from_residual.ensures.1
    (loop_stops (λ (xs : List CodeKey). in_keys (keys_of (map order_key_of xs)))
    (λ (x : CodeKey). faults (expression x.key)) check_keys-cons c.args.keys.now
    c.loop-key.key-index c.key-item.result (omega arith) c.key-item.is c.loop-key.invariant
    c.in_err-check.ensures)

check_entries-cons : (x : CodeEntry) (xs : List CodeEntry) →
    in_entries (entries_of (map entry_of (x ∷ xs))) ≡ (λ (x : CodeEntry). in_entry (entry_of x)) x
    ++ in_entries (entries_of (map entry_of xs))
check_entries-cons x xs = refl

pub check_entries-loop-entry-preserved : goal.check_entries-loop-entry-preserved
check_entries-loop-entry-preserved t c =
    loop_goes_on (λ (xs : List CodeEntry). in_entries (entries_of (map entry_of xs)))
    (λ (x : CodeEntry). in_entry (entry_of x)) check_entries-cons c.args.entries.now
    c.loop-entry.entry-index c.entry-item.result (omega arith) c.entry-item.is
    c.loop-entry.invariant c.in_ok-check_entry.ensures

pub check_entries-returns-in_err-check_entry : goal.check_entries-returns-in_err-check_entry
check_entries-returns-in_err-check_entry t c =
    handed _ c.in_err-check_entry.field-0.0 c.from_residual.ensures.1
    (loop_stops (λ (xs : List CodeEntry). in_entries (entries_of (map entry_of xs)))
    (λ (x : CodeEntry). in_entry (entry_of x)) check_entries-cons c.args.entries.now
    c.loop-entry.entry-index c.entry-item.result (omega arith) c.entry-item.is
    c.loop-entry.invariant c.in_err-check_entry.ensures)

check_elements-cons : (x : Elem) (xs : List Elem) → in_elements (elements_of (map element_of (x ∷ xs)))
    ≡ (λ (x : Elem). in_element (element_of x)) x ++ in_elements (elements_of (map element_of xs))
check_elements-cons x xs = refl

pub check_elements-loop-element-preserved : goal.check_elements-loop-element-preserved
check_elements-loop-element-preserved t c =
    loop_goes_on (λ (xs : List Elem). in_elements (elements_of (map element_of xs)))
    (λ (x : Elem). in_element (element_of x)) check_elements-cons c.args.elements.now
    c.loop-element.element-index c.element-item.result (omega arith) c.element-item.is
    c.loop-element.invariant c.in_ok-check_element.ensures

pub check_elements-returns-in_err-check_element : goal.check_elements-returns-in_err-check_element
check_elements-returns-in_err-check_element t c =
    handed _ c.in_err-check_element.field-0.0 c.from_residual.ensures.1
    (loop_stops (λ (xs : List Elem). in_elements (elements_of (map element_of xs)))
    (λ (x : Elem). in_element (element_of x)) check_elements-cons c.args.elements.now
    c.loop-element.element-index c.element-item.result (omega arith) c.element-item.is
    c.loop-element.invariant c.in_err-check_element.ensures)

check_arguments-cons : (x : Arg) (xs : List Arg) → in_arguments (arguments_of (map argument_of (x ∷ xs)))
    ≡ (λ (x : Arg). in_argument (argument_of x)) x ++ in_arguments (arguments_of (map argument_of xs))
check_arguments-cons x xs = refl

pub check_arguments-loop-arg-preserved : goal.check_arguments-loop-arg-preserved
check_arguments-loop-arg-preserved t c =
    loop_goes_on (λ (xs : List Arg). in_arguments (arguments_of (map argument_of xs)))
    (λ (x : Arg). in_argument (argument_of x)) check_arguments-cons c.args.args.now c.loop-arg.arg-index
    c.arg-item.result (omega arith) c.arg-item.is c.loop-arg.invariant
    c.in_ok-check_argument.ensures

pub check_arguments-returns-in_err-check_argument : goal.check_arguments-returns-in_err-check_argument
check_arguments-returns-in_err-check_argument t c =
    handed _ c.in_err-check_argument.field-0.0 c.from_residual.ensures.1
    (loop_stops (λ (xs : List Arg). in_arguments (arguments_of (map argument_of xs)))
    (λ (x : Arg). in_argument (argument_of x)) check_arguments-cons c.args.args.now c.loop-arg.arg-index
    c.arg-item.result (omega arith) c.arg-item.is c.loop-arg.invariant
    c.in_err-check_argument.ensures)

pub check_argument-returns-in_err-check-in-When : goal.check_argument-returns-in_err-check-in-When
check_argument-returns-in_err-check-in-When t c =
    handed _ c.in_err-check-in-When.field-0.0 c.from_residual.ensures.1
    (seen (ap in_argument (ap argument_of c.in-When.is
    ∙ arg_when _ _)) (stops _ _ c.in_err-check-in-When.ensures))

pub check_argument-returns-in_ok-check-in-When : goal.check_argument-returns-in_ok-check-in-When
check_argument-returns-in_ok-check-in-When t c =
    seen (ap in_argument (ap argument_of c.in-When.is
    ∙ arg_when _ _)) (goes_on _ _ c.in_ok-check-in-When.ensures c.check-in-When-2.ensures)

pub check_behind-returns-in_err-check_behind-in-Chain : goal.check_behind-returns-in_err-check_behind-in-Chain
check_behind-returns-in_err-check_behind-in-Chain t c =
    handed _ c.in_err-check_behind-in-Chain.field-0.0 c.from_residual.ensures.1
    (seen (ap behind_first (ap expression c.in-Chain.is
    ∙ expression_chain _ _))
    (stops _ _ (moved (λ (e : Expr). behind_first (expression e)) c.deref-in-Chain.ensures
    c.in_err-check_behind-in-Chain.ensures)))

pub check_behind-returns-in_ok-check_behind-in-Chain : goal.check_behind-returns-in_ok-check_behind-in-Chain
check_behind-returns-in_ok-check_behind-in-Chain t c =
    seen (ap behind_first (ap expression c.in-Chain.is
    ∙ expression_chain _ _))
    (goes_on _ _ (moved (λ (e : Expr). behind_first (expression e)) c.deref-in-Chain.ensures
    c.in_ok-check_behind-in-Chain.ensures)
    (moved (λ (ss : List CodeStep). in_steps (steps_of (map step_of ss)))
    c.deref-in-Chain-2.ensures.value c.check_steps.ensures))

pub check_behind-returns-in_err-check_behind-in-Run : goal.check_behind-returns-in_err-check_behind-in-Run
check_behind-returns-in_err-check_behind-in-Run t c =
    handed _ c.in_err-check_behind-in-Run.field-0.0
    c.from_residual-in_err-check_behind-in-Run.ensures.1
    (seen (ap behind_first (ap expression c.in-Run.is
    ∙ expression_run _ _))
    (stops _ _ (moved (λ (e : Expr). behind_first (expression e)) c.deref-in-Run.ensures
    c.in_err-check_behind-in-Run.ensures)))

pub check_behind-returns-in_ok-check_behind-in-Run : goal.check_behind-returns-in_ok-check_behind-in-Run
check_behind-returns-in_ok-check_behind-in-Run t c =
    seen (ap behind_first (ap expression c.in-Run.is
    ∙ expression_run _ _))
    (goes_on _ _ (moved (λ (e : Expr). behind_first (expression e)) c.deref-in-Run.ensures
    c.in_ok-check_behind-in-Run.ensures)
    (moved (λ (xs : List (BinSign × Expr)). in_operands (operands_of (operands xs)))
    c.deref-in-Run-2.ensures.value c.check_operands.ensures))

pub check_behind-returns-in_err-check_behind-in-Within : goal.check_behind-returns-in_err-check_behind-in-Within
check_behind-returns-in_err-check_behind-in-Within t c =
    handed _ c.in_err-check_behind-in-Within.field-0.0
    c.from_residual-in_err-check_behind-in-Within.ensures.1
    (seen (ap behind_first (ap expression c.in-Within.is
    ∙ expression_within _ _))
    (stops _ _ (moved (λ (e : Expr). behind_first (expression e)) c.deref-in-Within.ensures
    c.in_err-check_behind-in-Within.ensures)))

pub check_behind-returns-in_err-check_right-in-Within : goal.check_behind-returns-in_err-check_right-in-Within
check_behind-returns-in_err-check_right-in-Within t c =
    handed _ c.in_err-check_right-in-Within.field-0.0
    c.from_residual-in_err-check_right-in-Within.ensures.1
    (seen (ap behind_first (ap expression c.in-Within.is
    ∙ expression_within _ _))
    (goes_on _ _ (moved (λ (e : Expr). behind_first (expression e)) c.deref-in-Within.ensures
    c.in_ok-check_behind-in-Within.ensures)
    (stops _ _ (moved (λ (e : Expr). at_right (expression e)) c.deref-in-Within-2.ensures
    c.in_err-check_right-in-Within.ensures))))

pub check_behind-returns-in_ok-check_right-in-Within : goal.check_behind-returns-in_ok-check_right-in-Within
check_behind-returns-in_ok-check_right-in-Within t c =
    seen (ap behind_first (ap expression c.in-Within.is
    ∙ expression_within _ _))
    (goes_on _ _ (moved (λ (e : Expr). behind_first (expression e)) c.deref-in-Within.ensures
    c.in_ok-check_behind-in-Within.ensures)
    (goes_on _ _ (moved (λ (e : Expr). at_right (expression e)) c.deref-in-Within-2.ensures
    c.in_ok-check_right-in-Within.ensures)
    (moved (λ (e : Expr). behind_first (expression e)) c.deref-in-Within-3.ensures
    c.check_behind-in-Within-2.ensures)))

pub check_behind-returns-in_err-check_behind-in-Between : goal.check_behind-returns-in_err-check_behind-in-Between
check_behind-returns-in_err-check_behind-in-Between t c =
    handed _ c.in_err-check_behind-in-Between.field-0.0
    c.from_residual-in_err-check_behind-in-Between.ensures.1
    (seen (ap behind_first (ap expression c.in-Between.is
    ∙ expression_between _ _ _ _))
    (stops _ _ (moved (λ (e : Expr). behind_first (expression e)) c.deref-in-Between.ensures
    c.in_err-check_behind-in-Between.ensures)))

pub check_behind-returns-in_err-check-in-Between : goal.check_behind-returns-in_err-check-in-Between
check_behind-returns-in_err-check-in-Between t c =
    handed _ c.in_err-check-in-Between.field-0.0 c.from_residual-in_err-check-in-Between.ensures.1
    (seen (ap behind_first (ap expression c.in-Between.is
    ∙ expression_between _ _ _ _))
    (goes_on _ _ (moved (λ (e : Expr). behind_first (expression e)) c.deref-in-Between.ensures
    c.in_ok-check_behind-in-Between.ensures)
    (stops _ _ (moved (λ (e : Expr). faults (expression e)) c.deref-in-Between-2.ensures
    c.in_err-check-in-Between.ensures))))

pub check_behind-returns-in_ok-check-in-Between : goal.check_behind-returns-in_ok-check-in-Between
check_behind-returns-in_ok-check-in-Between t c =
    seen (ap behind_first (ap expression c.in-Between.is
    ∙ expression_between _ _ _ _))
    (goes_on _ _ (moved (λ (e : Expr). behind_first (expression e)) c.deref-in-Between.ensures
    c.in_ok-check_behind-in-Between.ensures)
    (goes_on _ _ (moved (λ (e : Expr). faults (expression e)) c.deref-in-Between-2.ensures
    c.in_ok-check-in-Between.ensures)
    (moved (λ (e : Expr). faults (expression e)) c.deref-in-Between-3.ensures
    c.check-in-Between-2.ensures)))

pub check_entry-returns-in_err-check_first-in-Bare : goal.check_entry-returns-in_err-check_first-in-Bare
check_entry-returns-in_err-check_first-in-Bare t c =
    handed _ c.in_err-check_first-in-Bare.field-0.0 c.from_residual.ensures.1
    (seen (ap in_entry (ap entry_of c.in-Bare.is
    ∙ entry_bare _)) (stops _ _ (stops _ _ c.in_err-check_first-in-Bare.ensures)))

pub check_entry-returns-in_err-check_key-in-Bare : goal.check_entry-returns-in_err-check_key-in-Bare
check_entry-returns-in_err-check_key-in-Bare t c =
    handed _ c.in_err-check_key-in-Bare.field-0.0
    c.from_residual-in_err-check_key-in-Bare.ensures.1 (seen (ap in_entry (ap entry_of c.in-Bare.is
    ∙ entry_bare _))
    (stops _ _ (goes_on _ _ c.in_ok-check_first-in-Bare.ensures
    c.in_err-check_key-in-Bare.ensures)))

pub check_entry-returns-in_err-check-in-When : goal.check_entry-returns-in_err-check-in-When
check_entry-returns-in_err-check-in-When t c =
    handed _ c.in_err-check-in-When.field-0.0 c.from_residual-in_err-check-in-When.ensures.1
    (seen (ap in_entry (ap entry_of c.in-When.is
    ∙ entry_when _ _)) (stops _ _ c.in_err-check-in-When.ensures))

pub check_entry-returns-in_ok-check-in-When : goal.check_entry-returns-in_ok-check-in-When
check_entry-returns-in_ok-check-in-When t c =
    seen (ap in_entry (ap entry_of c.in-When.is
    ∙ entry_when _ _)) (goes_on _ _ c.in_ok-check-in-When.ensures c.check-in-When-2.ensures)

pub check_step-returns-in_err-check_slice-in-Slice : goal.check_step-returns-in_err-check_slice-in-Slice
check_step-returns-in_err-check_slice-in-Slice t c =
    handed _ c.in_err-check_slice-in-Slice.field-0.0 c.from_residual.ensures.1
    (seen (ap in_step (ap step_of c.in-Slice.is
    ∙ step_slice _ _ _)) (stops _ _ c.in_err-check_slice-in-Slice.ensures))

pub check_step-returns-in_err-check-in-Slice : goal.check_step-returns-in_err-check-in-Slice
check_step-returns-in_err-check-in-Slice t c =
    handed _ c.in_err-check-in-Slice.field-0.0 c.from_residual-in_err-check-in-Slice.ensures.1
    (seen (ap in_step (ap step_of c.in-Slice.is
    ∙ step_slice _ _ _))
    (goes_on _ _ c.in_ok-check_slice-in-Slice.ensures (stops _ _ c.in_err-check-in-Slice.ensures)))

pub check_step-returns-in_ok-check-in-Slice : goal.check_step-returns-in_ok-check-in-Slice
check_step-returns-in_ok-check-in-Slice t c =
    seen (ap in_step (ap step_of c.in-Slice.is
    ∙ step_slice _ _ _))
    (goes_on _ _ c.in_ok-check_slice-in-Slice.ensures
    (goes_on _ _ c.in_ok-check-in-Slice.ensures c.check-in-Slice.ensures))

pub check_step-returns-in_err-check_bracket-in-Bracket : goal.check_step-returns-in_err-check_bracket-in-Bracket
check_step-returns-in_err-check_bracket-in-Bracket t c =
    handed _ c.in_err-check_bracket-in-Bracket.field-0.0
    c.from_residual-in_err-check_bracket-in-Bracket.ensures.1
    (seen (ap in_step (ap step_of c.in-Bracket.is
    ∙ step_bracket _)) (stops _ _ c.in_err-check_bracket-in-Bracket.ensures))

pub check_step-returns-in_ok-check_bracket-in-Bracket : goal.check_step-returns-in_ok-check_bracket-in-Bracket
check_step-returns-in_ok-check_bracket-in-Bracket t c =
    seen (ap in_step (ap step_of c.in-Bracket.is
    ∙ step_bracket _))
    (goes_on _ _ c.in_ok-check_bracket-in-Bracket.ensures c.check-in-Bracket.ensures)

pub check_step-returns-in-Project : goal.check_step-returns-in-Project
check_step-returns-in-Project t c =
    seen (ap in_step (ap step_of c.in-Project.is
    ∙ step_project _)) (moved (λ (xs : List CodeEntry). in_entries (entries_of (map entry_of xs)))
    c.deref.ensures.value c.check_entries.ensures)

pub check_step-returns-in_err-check_pipe-in-Pipe : goal.check_step-returns-in_err-check_pipe-in-Pipe
check_step-returns-in_err-check_pipe-in-Pipe t c =
    handed _ c.in_err-check_pipe-in-Pipe.field-0.0
    c.from_residual-in_err-check_pipe-in-Pipe.ensures.1 (seen (ap in_step (ap step_of c.in-Pipe.is
    ∙ step_pipe _ _))
    (stops _ _ (moved (λ (s : List ℕ). pipe_faults s (keys_of (map order_key_of c.in-Pipe.keys.items)))
    c.as_str.ensures
    (moved (λ (ks : List CodeKey). pipe_faults c.as_str.result.now (keys_of (map order_key_of ks)))
    c.deref-keys.ensures.value c.in_err-check_pipe-in-Pipe.ensures))))

pub check_step-returns-in_ok-check_pipe-in-Pipe : goal.check_step-returns-in_ok-check_pipe-in-Pipe
check_step-returns-in_ok-check_pipe-in-Pipe t c =
    seen (ap in_step (ap step_of c.in-Pipe.is
    ∙ step_pipe _ _))
    (goes_on _ _ (moved (λ (s : List ℕ). pipe_faults s (keys_of (map order_key_of c.in-Pipe.keys.items)))
    c.as_str.ensures
    (moved (λ (ks : List CodeKey). pipe_faults c.as_str.result.now (keys_of (map order_key_of ks)))
    c.deref-keys.ensures.value c.in_ok-check_pipe-in-Pipe.ensures))
    (moved (λ (ks : List CodeKey). in_keys (keys_of (map order_key_of ks))) c.deref-keys.ensures.value
    c.check_keys.ensures))

pub check_step-check_keys-requires : goal.check_step-check_keys-requires
check_step-check_keys-requires t c = let e = ap the_size c.in-Pipe.is in
    (rw c.deref-keys.ensures.value (omega (arith, the_lemmas)), tt)
