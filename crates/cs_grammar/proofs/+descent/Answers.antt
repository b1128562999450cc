use Rattle.std.proofs.Common.{[], List, Option, ℕ, ap, arith, length, refl, subst, sym, unwrap_or, ◌++◌, ◌<◌, ◌∙◌, ◌∷◌, ◌≤◌, option_map}
use Rattle.cs_grammar.proofs.Given.{by_call, by_const, by_none, by_some, by_step}
use Rattle.cs_grammar.proofs.Steps.{reads_array, reads_cmp, reads_cmp_end, reads_cmp_fail, reads_cmp_op, reads_cmp_op_fail, reads_conjunction, reads_conjunction_fail, reads_everything, reads_expr, reads_expr_fail, reads_expr_from, reads_expr_from_and_fail, reads_expr_from_cmp_fail, reads_in, reads_in_fail, reads_link, reads_link_fail, reads_match, reads_match_fail, reads_minus, reads_name_alone, reads_name_open, reads_neg, reads_neg_fail, reads_nothing, reads_number, reads_object, reads_param, reads_parent, reads_pow, reads_pow_end, reads_pow_fail, reads_pre, reads_pre_fail, reads_prefix, reads_product, reads_product_fail, reads_range, reads_range_fail, reads_round, reads_round_fail, reads_round_open, reads_run, reads_run_end, reads_run_operand_fail, reads_stars, reads_stars_fail, reads_sum, reads_sum_fail, reads_text, reads_this, reads_word}
use Rattle.cs_grammar.proofs.StepsInside.{reads_arg, reads_arg_comma, reads_arg_fail, reads_args_close, reads_args_open, reads_argument, reads_array_close, reads_array_open, reads_arrow, reads_attr, reads_attr_fail, reads_bracket, reads_bracket_fail, reads_bracket_open, reads_each, reads_element, reads_element_comma, reads_element_fail, reads_elements_close, reads_entries_close, reads_entry, reads_entry_comma, reads_entry_fail, reads_key, reads_key_asc, reads_key_comma, reads_key_desc, reads_key_fail, reads_keys_close, reads_keys_open, reads_object_close, reads_object_open, reads_pipe, reads_piped_projection, reads_piped_projection_fail, reads_projection, reads_projection_fail, reads_slice, reads_slice_fail, reads_slice_open, reads_spread, reads_spread_element, reads_spread_element_fail, reads_spread_fail, reads_spread_this_close, reads_spread_this_comma, reads_square, reads_square_fail, reads_steps_end, reads_when, reads_when_argument, reads_when_argument_fail, reads_when_fail}
use Rattle.cs_grammar.proofs.Push.{arguments_none, arguments_pushed, elements_none, elements_pushed, entries_none, entries_pushed, keys_none, keys_pushed, operands_none, operands_pushed, steps_none, steps_pushed}
use Rattle.cs_grammar.proofs.Keys.{reads_key_entry, reads_key_entry_fail, reads_keyless}
use Rattle.cs_grammar.proofs.Exits.{answers_as, gives_as, gives_got, got_as, none_found, passed, reads_other_sign, some_found, with_last}
use Rattle.cs_grammar.proofs.Names.{reads_named_open, reads_named_pipe, reads_no_name}
use Rattle.cs_grammar.specs.Reading.{Reads, after, args_from, elements_from, entries_from, keys_from, neg_from, next_arg, next_element, next_entry, next_key, pow_from, pre_from, run_from, steps_from}
use Rattle.cs_syntax.specs.Expression.{arguments_of, array, call, elements_of, entries_of, keyed, keys_of, object_literal, pipe, sign_tok}
use Rattle.cs_syntax.specs.View.{arguments, elements, entries, expression, keys, operands, steps}
use Rattle.cs_grammar.specs.View.{left, seen}
use Rattle.cs_grammar.specs.Answers.{AnswersCall, IsStepOrEnd}
use Rattle.std.specs.Prelude.{IfSome}
use Rattle.cs_grammar.proofs.+descent.Goals.{objects::spread-then-stands-via-then-stands, objects::spread-then-stands-via-else-stands+then-stands-2}
use Rattle.cs_syntax.specs.declared.sign.Sign.TheVariants as sign
use Rattle.cs_grammar.proofs.+descent.Goals as goal

pub bases::argument-returns-in_err-first-clause-read : goal.bases::argument-returns-in_err-first-clause-read
bases::argument-returns-in_err-first-clause-read t c =
    passed _ _ c.in_err-first.field-0.0 c.from_residual.ensures.1 (λ n. λ w xs. reads_arg_fail n)
    c.in_err-first.ensures.read

pub bases::argument-returns-in_default-clause-read : goal.bases::argument-returns-in_default-clause-read
bases::argument-returns-in_default-clause-read t c =
    λ w xs o h. reads_arg c.in_ok-first.ensures.read
    (reads_argument (sym c.in_default.ensures.same)
    (with_last (next_arg w) xs c.argument.ensures h))

pub bases::argument-returns-in_err-value-clause-read : goal.bases::argument-returns-in_err-value-clause-read
bases::argument-returns-in_err-value-clause-read t c =
    passed _ _ c.in_err-value.field-0.0 c.from_residual-in_err-value.ensures.1
    (λ n. λ w xs. reads_arg c.in_ok-first.ensures.read
    (reads_when_argument_fail (sym c.in-Some.ensures.same) n)) c.in_err-value.ensures.read

pub bases::argument-returns-clause-read : goal.bases::argument-returns-clause-read
bases::argument-returns-clause-read t c =
    λ w xs o h. reads_arg c.in_ok-first.ensures.read
    (reads_when_argument (sym c.in-Some.ensures.same) c.in_ok-value.ensures.read
    (with_last (next_arg w) xs c.when_argument.ensures h))

pub bases::arguments-loop-all-init : goal.bases::arguments-loop-all-init
bases::arguments-loop-all-init t c =
    record {
      from = omega arith;
      reads = λ w o h. subst (λ z. Reads (args_from w z) (left c.args.ts.now c.args.at) o)
          (ap arguments c.new-all.ensures.items ∙ arguments_none) h;
    }

pub bases::arguments-returns-in_err-next-clause-read : goal.bases::arguments-returns-in_err-next-clause-read
bases::arguments-returns-in_err-next-clause-read t c =
    passed _ _ c.in_err-next.field-0.0 c.from_residual.ensures.1
    (λ n. λ w. c.loop-all.invariant.reads w _ (n w _)) c.in_err-next.ensures.read

pub bases::arguments-loop-all-preserved : goal.bases::arguments-loop-all-preserved
bases::arguments-loop-all-preserved t c =
    record {
      from = omega (arith, c.in_ok-next.ensures.shorter.0, c.in-Some.ensures.next.0);
      reads = λ w o h. c.loop-all.invariant.reads w o
          (c.in_ok-next.ensures.read w _ o (reads_arg_comma (sym c.in-Some.ensures.same)
          (subst (λ z. Reads (args_from w z) (left c.args.ts.now c.in-Some.after_comma) o)
          (arguments_pushed _ _ c.in_ok-push.ensures.items) h)));
    }

pub bases::arguments-returns-in-Some-behind-clause-read : goal.bases::arguments-returns-in-Some-behind-clause-read
bases::arguments-returns-in-Some-behind-clause-read t c =
    λ w. got_as (ap (λ z. call w (arguments_of z))
    (arguments_pushed _ _ c.in_ok-push.ensures.items))
    (c.loop-all.invariant.reads w _
    (c.in_ok-next.ensures.read w _ _ (reads_args_close (sym c.in-Some-behind.ensures.same))))

pub bases::arguments-returns-in_default-behind-clause-read : goal.bases::arguments-returns-in_default-behind-clause-read
bases::arguments-returns-in_default-behind-clause-read t c =
    λ w. c.loop-all.invariant.reads w _
    (c.in_ok-next.ensures.read w _ _
    (reads_args_open (sym c.in_default.ensures.same) (sym c.in_default-behind.ensures.same)))

pub bases::base-returns-in_default-clause-read : goal.bases::base-returns-in_default-clause-read
bases::base-returns-in_default-clause-read t c =
    reads_nothing c.in_default.ensures.first

pub bases::base-returns-in_ok-number-in-Number-clause-read : goal.bases::base-returns-in_ok-number-in-Number-clause-read
bases::base-returns-in_ok-number-in-Number-clause-read t c =
    got_as c.in_ok-number-in-Number.ensures (reads_number (c.in-Some.ensures.first
    ∙ ap (λ z. seen z ∷ left c.args.ts.now c.in-Some.rest) c.in-Number.is))

pub bases::base-returns-in_ok-text-in-Text-clause-read : goal.bases::base-returns-in_ok-text-in-Text-clause-read
bases::base-returns-in_ok-text-in-Text-clause-read t c =
    got_as c.in_ok-text-in-Text.ensures (reads_text (c.in-Some.ensures.first
    ∙ ap (λ z. seen z ∷ left c.args.ts.now c.in-Some.rest) c.in-Text.is))

pub bases::base-returns-in_ok-param-in-Param-clause-read : goal.bases::base-returns-in_ok-param-in-Param-clause-read
bases::base-returns-in_ok-param-in-Param-clause-read t c =
    got_as c.in_ok-param-in-Param.ensures (reads_param (c.in-Some.ensures.first
    ∙ ap (λ z. seen z ∷ left c.args.ts.now c.in-Some.rest) c.in-Param.is))

pub bases::call-returns-in-Some-clause-read : goal.bases::call-returns-in-Some-clause-read
bases::call-returns-in-Some-clause-read t c =
    gives_got (c.in_ok-call.ensures
    ∙ ap (λ z. call c.args.name (arguments_of z)) (ap arguments c.new.ensures.items
    ∙ arguments_none)) (by_some _ _ (sym c.in-Some.ensures.same) (by_const _))

pub bases::call-returns-in_err-all-clause-read : goal.bases::call-returns-in_err-all-clause-read
bases::call-returns-in_err-all-clause-read t c =
    passed _ _ c.in_err-all.field-0.0 c.from_residual-in_err-all.ensures.1
    (λ n. by_none _ _ (sym c.in_default.ensures.same) (by_call (n c.args.name)))
    c.in_err-all.ensures.read

pub bases::call-returns-clause-read : goal.bases::call-returns-clause-read
bases::call-returns-clause-read t c =
    gives_got c.in_ok-call-2.ensures
    (by_none _ _ (sym c.in_default.ensures.same)
    (by_call (c.in_ok-all.ensures.read c.args.name)))

pub bases::element-returns-in_err-inner-clause-read : goal.bases::element-returns-in_err-inner-clause-read
bases::element-returns-in_err-inner-clause-read t c =
    passed _ _ c.in_err-inner.field-0.0 c.from_residual.ensures.1
    (λ n. λ xs a. reads_spread_element_fail (sym c.in-Some.ensures.same) n)
    c.in_err-inner.ensures.read

pub bases::element-returns-in-Some-clause-read : goal.bases::element-returns-in-Some-clause-read
bases::element-returns-in-Some-clause-read t c =
    λ xs o a h. reads_spread_element (sym c.in-Some.ensures.same) c.in_ok-inner.ensures.read
    (with_last next_element xs c.spread_element.ensures h)

pub bases::element-returns-in_err-one-clause-read : goal.bases::element-returns-in_err-one-clause-read
bases::element-returns-in_err-one-clause-read t c =
    passed _ _ c.in_err-one.field-0.0 c.from_residual-in_err-one.ensures.1
    (λ n. λ xs a. reads_element_fail a (sym c.in_default.ensures.same) n)
    c.in_err-one.ensures.read

pub bases::element-returns-clause-read : goal.bases::element-returns-clause-read
bases::element-returns-clause-read t c =
    λ xs o a h. reads_element a (sym c.in_default.ensures.same) c.in_ok-one.ensures.read
    (with_last next_element xs c.element.ensures h)

pub bases::elements-loop-rest-init : goal.bases::elements-loop-rest-init
bases::elements-loop-rest-init t c =
    record {
      from = omega arith;
      reads = λ o h. subst (λ z. Reads (elements_from z) (left c.args.ts.now c.args.at) o)
          (ap elements c.new-all.ensures.items ∙ elements_none) h;
    }

pub bases::elements-returns-in-Some-clause-read : goal.bases::elements-returns-in-Some-clause-read
bases::elements-returns-in-Some-clause-read t c =
    c.loop-rest.invariant.reads _ (reads_elements_close (sym c.in-Some.ensures.same))

pub bases::elements-returns-in_err-next-clause-read : goal.bases::elements-returns-in_err-next-clause-read
bases::elements-returns-in_err-next-clause-read t c =
    passed _ _ c.in_err-next.field-0.0 c.from_residual.ensures.1
    (λ n. c.loop-rest.invariant.reads _ (n _ (sym c.in_default.ensures.same)))
    c.in_err-next.ensures.read

pub bases::elements-loop-rest-preserved : goal.bases::elements-loop-rest-preserved
bases::elements-loop-rest-preserved t c =
    record {
      from = omega (arith, c.in_ok-next.ensures.shorter.0, c.in-Some-behind.ensures.next.0);
      reads = λ o h. c.loop-rest.invariant.reads o
          (c.in_ok-next.ensures.read _ _ (sym c.in_default.ensures.same)
          (reads_element_comma (sym c.in-Some-behind.ensures.same)
          (subst (λ z. Reads (elements_from z) (left c.args.ts.now c.in-Some-behind.after_comma)
          o) (elements_pushed _ _ c.in_ok-push.ensures.items) h)));
    }

pub bases::elements-returns-in-Some-behind-2-clause-read : goal.bases::elements-returns-in-Some-behind-2-clause-read
bases::elements-returns-in-Some-behind-2-clause-read t c =
    got_as (ap (λ z. array (elements_of z)) (elements_pushed _ _ c.in_ok-push.ensures.items))
    (c.loop-rest.invariant.reads _ (c.in_ok-next.ensures.read _ _ (sym c.in_default.ensures.same)
    (reads_array_close (sym c.in-Some-behind-2.ensures.same))))

pub bases::elements-returns-in_default-behind-2-clause-read : goal.bases::elements-returns-in_default-behind-2-clause-read
bases::elements-returns-in_default-behind-2-clause-read t c =
    c.loop-rest.invariant.reads _ (c.in_ok-next.ensures.read _ _ (sym c.in_default.ensures.same)
    (reads_array_open (sym c.in_default-behind.ensures.same)
    (sym c.in_default-behind-2.ensures.same)))

pub bases::sign_base-returns-in_err-inner-in-OpenParen-clause-read : goal.bases::sign_base-returns-in_err-inner-in-OpenParen-clause-read
bases::sign_base-returns-in_err-inner-in-OpenParen-clause-read t c =
    passed _ _ c.in_err-inner-in-OpenParen.field-0.0
    c.from_residual-in_err-inner-in-OpenParen.ensures.1
    (λ n. reads_round_fail
    (ap (λ z. after sign.OpenParen (sign_tok z ∷ left c.args.ts.now c.args.at))
    c.in-OpenParen.is) n) c.in_err-inner-in-OpenParen.ensures.read

pub bases::sign_base-returns-in_default-behind-clause-read : goal.bases::sign_base-returns-in_default-behind-clause-read
bases::sign_base-returns-in_default-behind-clause-read t c =
    reads_round_open (ap (λ z. after sign.OpenParen (sign_tok z ∷ left c.args.ts.now c.args.at))
    c.in-OpenParen.is) c.in_ok-inner-in-OpenParen.ensures.read
    (sym c.in_default-behind.ensures.same)

pub bases::sign_base-returns-in_err-list-in-OpenBracket-clause-read : goal.bases::sign_base-returns-in_err-list-in-OpenBracket-clause-read
bases::sign_base-returns-in_err-list-in-OpenBracket-clause-read t c =
    passed _ _ c.in_err-list-in-OpenBracket.field-0.0
    c.from_residual-in_err-list-in-OpenBracket.ensures.1
    (λ n. reads_array
    (ap (λ z. after sign.OpenBracket (sign_tok z ∷ left c.args.ts.now c.args.at))
    c.in-OpenBracket.is) n) c.in_err-list-in-OpenBracket.ensures.read

pub bases::sign_base-returns-in_err-members-in-OpenBrace-clause-read : goal.bases::sign_base-returns-in_err-members-in-OpenBrace-clause-read
bases::sign_base-returns-in_err-members-in-OpenBrace-clause-read t c =
    passed _ _ c.in_err-members-in-OpenBrace.field-0.0
    c.from_residual-in_err-members-in-OpenBrace.ensures.1
    (λ n. reads_object
    (ap (λ z. after sign.OpenBrace (sign_tok z ∷ left c.args.ts.now c.args.at))
    c.in-OpenBrace.is) n) c.in_err-members-in-OpenBrace.ensures.read

pub bases::sign_base-returns-in_ok-this-in-At-clause-read : goal.bases::sign_base-returns-in_ok-this-in-At-clause-read
bases::sign_base-returns-in_ok-this-in-At-clause-read t c =
    got_as c.in_ok-this-in-At.ensures
    (reads_this (ap (λ z. after sign.At (sign_tok z ∷ left c.args.ts.now c.args.at))
    c.in-At.is))

pub bases::sign_base-returns-in_ok-everything-in-Star-clause-read : goal.bases::sign_base-returns-in_ok-everything-in-Star-clause-read
bases::sign_base-returns-in_ok-everything-in-Star-clause-read t c =
    got_as c.in_ok-everything-in-Star.ensures
    (reads_everything (ap (λ z. after sign.Star (sign_tok z ∷ left c.args.ts.now c.args.at))
    c.in-Star.is))

pub bases::sign_base-returns-in_ok-parent-in-Caret-clause-read : goal.bases::sign_base-returns-in_ok-parent-in-Caret-clause-read
bases::sign_base-returns-in_ok-parent-in-Caret-clause-read t c =
    got_as c.in_ok-parent-in-Caret.ensures
    (reads_parent (ap (λ z. after sign.Caret (sign_tok z ∷ left c.args.ts.now c.args.at))
    c.in-Caret.is) c.carets-levels.ensures.read)

pub bases::sign_base-returns-in_ok-round-in-OpenParen-clause-read : goal.bases::sign_base-returns-in_ok-round-in-OpenParen-clause-read
bases::sign_base-returns-in_ok-round-in-OpenParen-clause-read t c =
    got_as c.in_ok-round-in-OpenParen.ensures
    (reads_round (ap (λ z. after sign.OpenParen (sign_tok z ∷ left c.args.ts.now c.args.at))
    c.in-OpenParen.is) c.in_ok-inner-in-OpenParen.ensures.read (sym c.in-Some.ensures.same))

pub bases::sign_base-returns-in_ok-array-in-OpenBracket-clause-read : goal.bases::sign_base-returns-in_ok-array-in-OpenBracket-clause-read
bases::sign_base-returns-in_ok-array-in-OpenBracket-clause-read t c =
    got_as c.in_ok-array-in-OpenBracket.ensures
    (reads_array (ap (λ z. after sign.OpenBracket (sign_tok z ∷ left c.args.ts.now c.args.at))
    c.in-OpenBracket.is) c.in_ok-list-in-OpenBracket.ensures.read)

pub bases::sign_base-returns-in_ok-object-in-OpenBrace-clause-read : goal.bases::sign_base-returns-in_ok-object-in-OpenBrace-clause-read
bases::sign_base-returns-in_ok-object-in-OpenBrace-clause-read t c =
    got_as c.in_ok-object-in-OpenBrace.ensures
    (reads_object (ap (λ z. after sign.OpenBrace (sign_tok z ∷ left c.args.ts.now c.args.at))
    c.in-OpenBrace.is) c.in_ok-members-in-OpenBrace.ensures.read)

pub bases::sign_base-returns-in_default : goal.bases::sign_base-returns-in_default
bases::sign_base-returns-in_default t c =
    record {
      read =
          reads_other_sign _ _ c.in_default.not-At c.in_default.not-Star c.in_default.not-Caret
          c.in_default.not-OpenParen c.in_default.not-OpenBracket c.in_default.not-OpenBrace;
      shorter = tt;
    }

pub bases::word_base-returns-in-Some-clause-read : goal.bases::word_base-returns-in-Some-clause-read
bases::word_base-returns-in-Some-clause-read t c =
    gives_as _ _ _ _ c.call.result (λ o k. by_step (by_some _ _ (sym c.in-Some.ensures.same) k))
    (subst (λ z. AnswersCall z c.args.ts.now c.in-Some.inside c.call.result)
    c.in_ok-copy_of.ensures c.call.ensures.read)

pub bases::word_base-returns-in_default-behind-clause-read : goal.bases::word_base-returns-in_default-behind-clause-read
bases::word_base-returns-in_default-behind-clause-read t c =
    got_as c.in_ok-plain_word.ensures
    (reads_word refl (sym c.in_default.ensures.same) (sym c.in_default-behind.ensures.same))

pub bases::word_base-returns-in_default-word-clause-read : goal.bases::word_base-returns-in_default-word-clause-read
bases::word_base-returns-in_default-word-clause-read t c =
    reads_name_open refl (sym c.in-Some-behind.ensures.same) (sym c.in_default-word.ensures.same)

pub bases::word_base-returns-in_default-behind-2-clause-read : goal.bases::word_base-returns-in_default-behind-2-clause-read
bases::word_base-returns-in_default-behind-2-clause-read t c =
    reads_name_alone refl (sym c.in-Some-behind.ensures.same) (sym c.in-Some-word.ensures.same)
    (sym c.in_default-behind-2.ensures.same)

pub bases::word_base-returns-clause-read : goal.bases::word_base-returns-clause-read
bases::word_base-returns-clause-read t c =
    gives_as _ _ _ _ c.call-2.result
    (λ o k. by_step
    (by_none _ _ (sym c.in_default.ensures.same)
    (by_some _ _ (sym c.in-Some-behind.ensures.same)
    (by_some _ _ (sym c.in-Some-word.ensures.same)
    (by_some _ _ (sym c.in-Some-behind-2.ensures.same) k)))))
    (subst (λ z. AnswersCall z c.args.ts.now c.in-Some-behind-2.inside c.call-2.result)
    c.in_ok-name_of_words.ensures c.call-2.ensures.read)

pub chains::bracket_step-returns-in-Some-clause-read : goal.chains::bracket_step-returns-in-Some-clause-read
chains::bracket_step-returns-in-Some-clause-read t c =
    λ e ss o h. reads_each (sym c.in-Some.ensures.same)
    (with_last (steps_from e) ss c.each.ensures h)

pub chains::bracket_step-returns-in_err-first-clause-read : goal.chains::bracket_step-returns-in_err-first-clause-read
chains::bracket_step-returns-in_err-first-clause-read t c =
    passed _ _ c.in_err-first.field-0.0 c.from_residual.ensures.1
    (λ n. λ e ss. reads_square_fail (sym c.in_default.ensures.same) n)
    c.in_err-first.ensures.read

pub chains::bracket_step-returns-in_err-to-clause-read : goal.chains::bracket_step-returns-in_err-to-clause-read
chains::bracket_step-returns-in_err-to-clause-read t c =
    passed _ _ c.in_err-to.field-0.0 c.from_residual-in_err-to.ensures.1
    (λ n. λ e ss. reads_slice_fail (sym c.in_default.ensures.same) c.in_ok-first.ensures.read
    (sym c.in-Some-dots.ensures.same) n) c.in_err-to.ensures.read

pub chains::bracket_step-returns-in_default-behind-clause-read : goal.chains::bracket_step-returns-in_default-behind-clause-read
chains::bracket_step-returns-in_default-behind-clause-read t c =
    λ e ss. reads_slice_open (sym c.in_default.ensures.same) c.in_ok-first.ensures.read
    (sym c.in-Some-dots.ensures.same) c.in_ok-to.ensures.read
    (sym c.in_default-behind.ensures.same)

pub chains::bracket_step-returns-in-Some-dots-clause-read : goal.chains::bracket_step-returns-in-Some-dots-clause-read
chains::bracket_step-returns-in-Some-dots-clause-read t c =
    λ e ss o h. reads_slice (sym c.in_default.ensures.same) c.in_ok-first.ensures.read
    (sym c.in-Some-dots.ensures.same) c.in_ok-to.ensures.read
    (sym c.in-Some-behind.ensures.same) (with_last (steps_from e) ss c.slice.ensures h)

pub chains::bracket_step-returns-in_err-inner-clause-read : goal.chains::bracket_step-returns-in_err-inner-clause-read
chains::bracket_step-returns-in_err-inner-clause-read t c =
    passed _ _ c.in_err-inner.field-0.0 c.from_residual-in_err-inner.ensures.1
    (λ n. λ e ss. reads_bracket_fail (sym c.in_default.ensures.same)
    c.in_ok-first.ensures.read (sym c.in_default-dots.ensures.same) n)
    c.in_err-inner.ensures.read

pub chains::bracket_step-returns-in_default-behind-2-clause-read : goal.chains::bracket_step-returns-in_default-behind-2-clause-read
chains::bracket_step-returns-in_default-behind-2-clause-read t c =
    λ e ss. reads_bracket_open (sym c.in_default.ensures.same) c.in_ok-first.ensures.read
    (sym c.in_default-dots.ensures.same) c.in_ok-inner.ensures.read
    (sym c.in_default-behind-2.ensures.same)

pub chains::bracket_step-returns-clause-read : goal.chains::bracket_step-returns-clause-read
chains::bracket_step-returns-clause-read t c =
    λ e ss o h. reads_bracket (sym c.in_default.ensures.same) c.in_ok-first.ensures.read
    (sym c.in_default-dots.ensures.same) c.in_ok-inner.ensures.read
    (sym c.in-Some-behind-2.ensures.same) (with_last (steps_from e) ss c.bracket.ensures h)

pub chains::chain-returns-in_err-first-clause-read : goal.chains::chain-returns-in_err-first-clause-read
chains::chain-returns-in_err-first-clause-read t c =
    passed _ _ c.in_err-first.field-0.0 c.from_residual.ensures.1 (reads_link_fail)
    c.in_err-first.ensures.read

pub chains::chain-loop-after_arrow-init : goal.chains::chain-loop-after_arrow-init
chains::chain-loop-after_arrow-init t c =
    record {
      from = omega arith;
      to = c.in_ok-first.ensures.shorter.1;
      reads = λ o h. subst (λ z. Reads (steps_from (expression c.in_ok-first.first.value) z)
          (left c.args.ts.now c.in_ok-first.after_first) o) (ap steps c.new-steps.ensures.items
          ∙ steps_none) h;
    }

pub chains::chain-loop-after_arrow-preserved-in-Some : goal.chains::chain-loop-after_arrow-preserved-in-Some
chains::chain-loop-after_arrow-preserved-in-Some t c =
    record {
      from = omega (arith, c.in_ok-more.ensures.shorter.0, c.in-Some.ensures.next.0);
      to = c.in_ok-more.ensures.shorter.1;
      reads = λ o h. c.loop-after_arrow.invariant.reads o
          (reads_arrow (sym c.in-Some.ensures.same) (c.in_ok-more.ensures.read _ o h));
    }

pub chains::chain-returns-in_err-next-clause-read : goal.chains::chain-returns-in_err-next-clause-read
chains::chain-returns-in_err-next-clause-read t c =
    passed _ _ c.in_err-next.field-0.0 c.from_residual-in_err-next.ensures.1
    (λ n. reads_link c.in_ok-first.ensures.read
    (c.loop-after_arrow.invariant.reads _ (n _ _))) c.in_err-next.ensures.read

pub chains::chain-loop-after_arrow-preserved : goal.chains::chain-loop-after_arrow-preserved
chains::chain-loop-after_arrow-preserved t c =
    let more = subst (IsStepOrEnd c.args.ts.now c.loop-after_arrow.left) c.in-Some-2.is
    c.in_ok-next.ensures.read in
    let far = subst (λ z. IfSome z (λ x. (c.loop-after_arrow.left < x.1)
    × (x.1 ≤ length c.args.ts.now))) c.in-Some-2.is c.in_ok-next.ensures.shorter in
    record {
      from = omega (arith, far.0);
      to = far.1;
      reads = λ o h. c.loop-after_arrow.invariant.reads o (more _ _ o
          (subst (λ z. Reads (steps_from (expression c.in_ok-first.first.value) z)
          (left c.args.ts.now c.in-Some-2.rest) o) (steps_pushed _ _ {new =
          c.push.new.self.items} c.in_ok-push.ensures.items) h));
    }

pub chains::chain-returns-in_default-2-clause-read : goal.chains::chain-returns-in_default-2-clause-read
chains::chain-returns-in_default-2-clause-read t c =
    let ended = subst (IsStepOrEnd c.args.ts.now c.loop-after_arrow.left) c.in_default-2.is
    c.in_ok-next.ensures.read in
    got_as c.in_ok-chain.ensures
    (reads_link c.in_ok-first.ensures.read
    (c.loop-after_arrow.invariant.reads _ (ended _ _ (sym c.in_default.ensures.same))))

pub chains::keys-loop-all-init : goal.chains::keys-loop-all-init
chains::keys-loop-all-init t c =
    record {
      from = omega arith;
      reads = λ e ss w o h. subst (λ z. Reads (keys_from e ss w z) (left c.args.ts.now c.args.at)
          o) (ap keys c.new-all.ensures.items ∙ keys_none) h;
    }

pub chains::keys-returns-in_err-next-clause-read : goal.chains::keys-returns-in_err-next-clause-read
chains::keys-returns-in_err-next-clause-read t c =
    passed _ _ c.in_err-next.field-0.0 c.from_residual.ensures.1
    (λ n. λ e ss w. c.loop-all.invariant.reads e ss w _ (n e ss w _))
    c.in_err-next.ensures.read

pub chains::keys-loop-all-preserved : goal.chains::keys-loop-all-preserved
chains::keys-loop-all-preserved t c =
    record {
      from = omega (arith, c.in_ok-next.ensures.shorter.0, c.in-Some.ensures.next.0);
      reads = λ e ss w o h. c.loop-all.invariant.reads e ss w o
          (c.in_ok-next.ensures.read e ss w _ o (reads_key_comma (sym c.in-Some.ensures.same)
          (subst (λ z. Reads (keys_from e ss w z) (left c.args.ts.now c.in-Some.after_comma) o)
          (keys_pushed _ _ c.in_ok-push.ensures.items) h)));
    }

pub chains::keys-returns-in-Some-behind-clause-read : goal.chains::keys-returns-in-Some-behind-clause-read
chains::keys-returns-in-Some-behind-clause-read t c =
    λ e ss w o h. c.loop-all.invariant.reads e ss w o
    (c.in_ok-next.ensures.read e ss w _ o (reads_keys_close (sym c.in-Some-behind.ensures.same)
    (subst (λ z. Reads (steps_from e (ss
    ++ (pipe w (keys_of z) ∷ []))) (left c.args.ts.now c.in-Some-behind.after_bracket) o)
    (keys_pushed _ _ c.in_ok-push.ensures.items) h)))

pub chains::keys-returns-in_default-behind-clause-read : goal.chains::keys-returns-in_default-behind-clause-read
chains::keys-returns-in_default-behind-clause-read t c =
    λ e ss w. c.loop-all.invariant.reads e ss w _
    (c.in_ok-next.ensures.read e ss w _ _
    (reads_keys_open (sym c.in_default.ensures.same) (sym c.in_default-behind.ensures.same)))

pub chains::order_key-returns-in_err-inner-clause-read : goal.chains::order_key-returns-in_err-inner-clause-read
chains::order_key-returns-in_err-inner-clause-read t c =
    passed _ _ c.in_err-inner.field-0.0 c.from_residual.ensures.1
    (λ n. λ e ss w ks. reads_key_fail n) c.in_err-inner.ensures.read

pub chains::order_key-returns-in-Some-clause-read : goal.chains::order_key-returns-in-Some-clause-read
chains::order_key-returns-in-Some-clause-read t c =
    λ e ss w ks o h. reads_key_asc c.in_ok-inner.ensures.read (sym c.in-Some.ensures.same)
    (with_last (next_key e ss w) ks c.key.ensures h)

pub chains::order_key-returns-in-Some-behind_keyword-clause-read : goal.chains::order_key-returns-in-Some-behind_keyword-clause-read
chains::order_key-returns-in-Some-behind_keyword-clause-read t c =
    λ e ss w ks o h. reads_key_desc c.in_ok-inner.ensures.read
    (sym c.in-Some-behind_keyword.ensures.same)
    (with_last (next_key e ss w) ks c.key-in-Some-behind_keyword.ensures h)

pub chains::order_key-returns-clause-read : goal.chains::order_key-returns-clause-read
chains::order_key-returns-clause-read t c =
    λ e ss w ks o h. reads_key c.in_ok-inner.ensures.read (sym c.in_default.ensures.same)
    (sym c.in_default-behind_keyword.ensures.same)
    (with_last (next_key e ss w) ks c.key-2.ensures h)

pub chains::pipe_step-returns-in_err-all-clause-read : goal.chains::pipe_step-returns-in_err-all-clause-read
chains::pipe_step-returns-in_err-all-clause-read t c =
    passed _ _ c.in_err-all.field-0.0 c.from_residual.ensures.1
    (λ n. λ e ss. reads_piped_projection_fail (sym c.in-Some.ensures.same) n)
    c.in_err-all.ensures.read

pub chains::pipe_step-returns-in-Some-clause-read : goal.chains::pipe_step-returns-in-Some-clause-read
chains::pipe_step-returns-in-Some-clause-read t c =
    λ e ss o h. reads_piped_projection (sym c.in-Some.ensures.same) c.in_ok-all.ensures.read
    (with_last (steps_from e) ss c.project.ensures h)

pub chains::pipe_step-returns-in_err-called-clause-read : goal.chains::pipe_step-returns-in_err-called-clause-read
chains::pipe_step-returns-in_err-called-clause-read t c =
    passed _ _ c.in_err-called.field-0.0 c.from_residual-in_err-called.ensures.1
    (λ n. λ e ss. reads_no_name (sym c.in_default.ensures.same) n) c.in_err-called.ensures.read

pub chains::pipe_step-returns-in_default-behind-clause-read : goal.chains::pipe_step-returns-in_default-behind-clause-read
chains::pipe_step-returns-in_default-behind-clause-read t c =
    λ e ss. reads_named_open c.in_ok-called.ensures.read (sym c.in_default-behind.ensures.same)

pub chains::pipe_step-returns-in-Some-behind-2-clause-read : goal.chains::pipe_step-returns-in-Some-behind-2-clause-read
chains::pipe_step-returns-in-Some-behind-2-clause-read t c =
    λ e ss o h. reads_named_pipe c.in_ok-called.ensures.read (sym c.in-Some-behind.ensures.same)
    (by_some _ _ (sym c.in-Some-behind-2.ensures.same)
    (by_call (with_last (steps_from e) ss (c.pipe.ensures
    ∙ ap (λ z. pipe c.in_ok-called.called (keys_of z)) (ap keys c.new.ensures.items
    ∙ keys_none)) h)))

pub chains::pipe_step-returns-in_err-all-2-clause-read : goal.chains::pipe_step-returns-in_err-all-2-clause-read
chains::pipe_step-returns-in_err-all-2-clause-read t c =
    passed _ _ c.in_err-all-2.field-0.0 c.from_residual-in_err-all-2.ensures.1
    (λ n. λ e ss. reads_named_pipe c.in_ok-called.ensures.read
    (sym c.in-Some-behind.ensures.same)
    (by_none _ _ (sym c.in_default-behind-2.ensures.same) (by_call (n e ss _))))
    c.in_err-all-2.ensures.read

pub chains::pipe_step-returns-clause-read : goal.chains::pipe_step-returns-clause-read
chains::pipe_step-returns-clause-read t c =
    λ e ss o h. reads_named_pipe c.in_ok-called.ensures.read (sym c.in-Some-behind.ensures.same)
    (by_none _ _ (sym c.in_default-behind-2.ensures.same)
    (by_call (c.in_ok-all-2.ensures.read e ss _ o
    (with_last (steps_from e) ss c.pipe-2.ensures h))))

pub chains::step-returns-in_default-word-clause-read : goal.chains::step-returns-in_default-word-clause-read
chains::step-returns-in_default-word-clause-read t c =
    λ e ss. reads_attr_fail (sym c.in-Some.ensures.same) (sym c.in_default-word.ensures.same)

pub chains::step-returns-in-Some-clause-read : goal.chains::step-returns-in-Some-clause-read
chains::step-returns-in-Some-clause-read t c =
    λ e ss o h. reads_attr (sym c.in-Some.ensures.same) (sym c.in-Some-word.ensures.same)
    (with_last (steps_from e) ss c.in_ok-attr.ensures h)

pub chains::step-returns-in_err-found-clause-read : goal.chains::step-returns-in_err-found-clause-read
chains::step-returns-in_err-found-clause-read t c =
    passed _ _ c.in_err-found.field-0.0 c.from_residual-in_err-found.ensures.1
    (λ n. λ e ss. reads_square (sym c.in-Some-behind.ensures.same) (n e ss))
    c.in_err-found.ensures.read

pub chains::step-returns-in-Some-behind-clause-read : goal.chains::step-returns-in-Some-behind-clause-read
chains::step-returns-in-Some-behind-clause-read t c =
    λ e ss o h. reads_square (sym c.in-Some-behind.ensures.same)
    (c.in_ok-found.ensures.read e ss o h)

pub chains::step-returns-in_err-all-clause-read : goal.chains::step-returns-in_err-all-clause-read
chains::step-returns-in_err-all-clause-read t c =
    passed _ _ c.in_err-all.field-0.0 c.from_residual-in_err-all.ensures.1
    (λ n. λ e ss. reads_projection_fail (sym c.in-Some-behind-2.ensures.same) n)
    c.in_err-all.ensures.read

pub chains::step-returns-in-Some-behind-2-clause-read : goal.chains::step-returns-in-Some-behind-2-clause-read
chains::step-returns-in-Some-behind-2-clause-read t c =
    λ e ss o h. reads_projection (sym c.in-Some-behind-2.ensures.same) c.in_ok-all.ensures.read
    (with_last (steps_from e) ss c.project.ensures h)

pub chains::step-returns-in_default-behind-3-clause-read : goal.chains::step-returns-in_default-behind-3-clause-read
chains::step-returns-in_default-behind-3-clause-read t c =
    λ e ss a. reads_steps_end (sym c.in_default.ensures.same) a
    (sym c.in_default-behind.ensures.same) (sym c.in_default-behind-2.ensures.same)
    (sym c.in_default-behind-3.ensures.same)

pub chains::step-returns-in_err-piped-clause-read : goal.chains::step-returns-in_err-piped-clause-read
chains::step-returns-in_err-piped-clause-read t c =
    passed _ _ c.in_err-piped.field-0.0 c.from_residual-in_err-piped.ensures.1
    (λ n. λ e ss. reads_pipe (sym c.in-Some-behind-3.ensures.same) (n e ss))
    c.in_err-piped.ensures.read

pub chains::step-returns-clause-read : goal.chains::step-returns-clause-read
chains::step-returns-clause-read t c =
    λ e ss o h. reads_pipe (sym c.in-Some-behind-3.ensures.same)
    (c.in_ok-piped.ensures.read e ss o h)

pub objects::entries-loop-rest-init : goal.objects::entries-loop-rest-init
objects::entries-loop-rest-init t c =
    record {
      from = omega arith;
      reads = λ o h. subst (λ z. Reads (entries_from z) (left c.args.ts.now c.args.at) o)
          (ap entries c.new-all.ensures.items ∙ entries_none) h;
    }

pub objects::entries-returns-in-Some-clause-read : goal.objects::entries-returns-in-Some-clause-read
objects::entries-returns-in-Some-clause-read t c =
    c.loop-rest.invariant.reads _ (reads_entries_close (sym c.in-Some.ensures.same))

pub objects::entries-returns-in_err-next-clause-read : goal.objects::entries-returns-in_err-next-clause-read
objects::entries-returns-in_err-next-clause-read t c =
    passed _ _ c.in_err-next.field-0.0 c.from_residual.ensures.1
    (λ n. c.loop-rest.invariant.reads _ (n _ (sym c.in_default.ensures.same)))
    c.in_err-next.ensures.read

pub objects::entries-loop-rest-preserved : goal.objects::entries-loop-rest-preserved
objects::entries-loop-rest-preserved t c =
    record {
      from = omega (arith, c.in_ok-next.ensures.shorter.0, c.in-Some-behind.ensures.next.0);
      reads = λ o h. c.loop-rest.invariant.reads o
          (c.in_ok-next.ensures.read _ _ (sym c.in_default.ensures.same)
          (reads_entry_comma (sym c.in-Some-behind.ensures.same)
          (subst (λ z. Reads (entries_from z) (left c.args.ts.now c.in-Some-behind.after_comma) o)
          (entries_pushed _ _ c.in_ok-push.ensures.items) h)));
    }

pub objects::entries-returns-in-Some-behind-2-clause-read : goal.objects::entries-returns-in-Some-behind-2-clause-read
objects::entries-returns-in-Some-behind-2-clause-read t c =
    got_as (ap (λ z. object_literal (entries_of z))
    (entries_pushed _ _ c.in_ok-push.ensures.items))
    (c.loop-rest.invariant.reads _ (c.in_ok-next.ensures.read _ _ (sym c.in_default.ensures.same)
    (reads_object_close (sym c.in-Some-behind-2.ensures.same))))

pub objects::entries-returns-in_default-behind-2-clause-read : goal.objects::entries-returns-in_default-behind-2-clause-read
objects::entries-returns-in_default-behind-2-clause-read t c =
    c.loop-rest.invariant.reads _ (c.in_ok-next.ensures.read _ _ (sym c.in_default.ensures.same)
    (reads_object_open (sym c.in_default-behind.ensures.same)
    (sym c.in_default-behind-2.ensures.same)))

pub objects::entry-returns-in_err-value-clause-read : goal.objects::entry-returns-in_err-value-clause-read
objects::entry-returns-in_err-value-clause-read t c =
    passed _ _ c.in_err-value.field-0.0 c.from_residual-in_err-value.ensures.1
    (λ n. λ xs a. reads_key_entry_fail (sym c.in-Some-key.ensures.same) n)
    c.in_err-value.ensures.read

pub objects::entry-returns-in-Some-key-clause-read : goal.objects::entry-returns-in-Some-key-clause-read
objects::entry-returns-in-Some-key-clause-read t c =
    let is = ap (λ (o : Option (List ℕ)). unwrap_or o []) c.in_ok-key.ensures in
    λ xs o a h. reads_key_entry (sym c.in-Some-key.ensures.same) c.in_ok-value.ensures.read
    (with_last next_entry xs (c.keyed.ensures
    ∙ ap (λ k. keyed k (expression c.in_ok-value.value.value)) (sym is)) h)

pub objects::entry-returns-in_err-first-clause-read : goal.objects::entry-returns-in_err-first-clause-read
objects::entry-returns-in_err-first-clause-read t c =
    passed _ _ c.in_err-first.field-0.0 c.from_residual-in_err-first.ensures.1
    (λ n. λ xs a. reads_entry_fail a (sym c.in_default.ensures.same) n)
    c.in_err-first.ensures.read

pub objects::entry-returns-in_default-behind-clause-read : goal.objects::entry-returns-in_default-behind-clause-read
objects::entry-returns-in_default-behind-clause-read t c =
    λ xs o a h. reads_entry a (sym c.in_default.ensures.same) c.in_ok-first.ensures.read
    (reads_keyless (sym c.in_default-key.ensures.same) c.in_ok-first.ensures.read
    (sym c.in_default-behind.ensures.same) (with_last next_entry xs c.bare.ensures h))

pub objects::entry-returns-in_err-then-clause-read : goal.objects::entry-returns-in_err-then-clause-read
objects::entry-returns-in_err-then-clause-read t c =
    passed _ _ c.in_err-then.field-0.0 c.from_residual-in_err-then.ensures.1
    (λ n. λ xs a. reads_entry a (sym c.in_default.ensures.same) c.in_ok-first.ensures.read
    (reads_when_fail (sym c.in-Some-behind.ensures.same) n)) c.in_err-then.ensures.read

pub objects::entry-returns-clause-read : goal.objects::entry-returns-clause-read
objects::entry-returns-clause-read t c =
    λ xs o a h. reads_entry a (sym c.in_default.ensures.same) c.in_ok-first.ensures.read
    (reads_when (sym c.in-Some-behind.ensures.same) c.in_ok-then.ensures.read
    (with_last next_entry xs c.when.ensures h))

pub objects::spread-returns-then-stands-clause-read : goal.objects::spread-returns-then-stands-clause-read
objects::spread-returns-then-stands-clause-read t c =
    λ ts xs o a h. elim c.then-stands.branch [
      | objects::spread-then-stands-via-then-stands w ↦
          reads_spread_this_comma a (some_found _ (w.if-stands.ensures.0 refl)).1
          (with_last next_entry xs c.spread_this.ensures h)
      | objects::spread-then-stands-via-else-stands+then-stands-2 w ↦
          reads_spread_this_close a (some_found _ (w.if-stands-2.ensures.0 refl)).1
          (with_last next_entry xs c.spread_this.ensures h)
    ]

pub objects::spread-returns-in_err-inner-clause-read : goal.objects::spread-returns-in_err-inner-clause-read
objects::spread-returns-in_err-inner-clause-read t c =
    passed _ _ c.in_err-inner.field-0.0 c.from_residual.ensures.1
    (λ n. λ ts xs a. reads_spread_fail a (none_found _ c.if-stands.ensures.1)
    (none_found _ c.if-stands-2.ensures.1) n) c.in_err-inner.ensures.read

pub objects::spread-returns-clause-read : goal.objects::spread-returns-clause-read
objects::spread-returns-clause-read t c =
    λ ts xs o a h. reads_spread a (none_found _ c.if-stands.ensures.1)
    (none_found _ c.if-stands-2.ensures.1) c.in_ok-inner.ensures.read
    (with_last next_entry xs c.spread.ensures h)

pub operators::comparison-returns-in_err-first-clause-read : goal.operators::comparison-returns-in_err-first-clause-read
operators::comparison-returns-in_err-first-clause-read t c =
    passed _ _ c.in_err-first.field-0.0 c.from_residual.ensures.1 (reads_cmp_fail)
    c.in_err-first.ensures.read

pub operators::comparison-returns-clause-read : goal.operators::comparison-returns-clause-read
operators::comparison-returns-clause-read t c =
    answers_as _ _ _ c.comparison_from.result (λ o n. reads_cmp c.in_ok-first.ensures.read n)
    c.comparison_from.ensures.read

pub operators::comparison_from-returns-in_err-second-clause-read : goal.operators::comparison_from-returns-in_err-second-clause-read
operators::comparison_from-returns-in_err-second-clause-read t c =
    passed _ _ c.in_err-second.field-0.0 c.from_residual.ensures.1
    (λ n. reads_cmp_op_fail (sym c.in-Some.ensures.same) n) c.in_err-second.ensures.read

pub operators::comparison_from-returns-in-Some-clause-read : goal.operators::comparison_from-returns-in-Some-clause-read
operators::comparison_from-returns-in-Some-clause-read t c =
    got_as c.in_ok-pair.ensures
    (reads_cmp_op (sym c.in-Some.ensures.same) c.in_ok-second.ensures.read)

pub operators::comparison_from-returns-in_err-pattern-clause-read : goal.operators::comparison_from-returns-in_err-pattern-clause-read
operators::comparison_from-returns-in_err-pattern-clause-read t c =
    passed _ _ c.in_err-pattern.field-0.0 c.from_residual-in_err-pattern.ensures.1
    (λ n. reads_match_fail (sym c.in-Some-behind_keyword.ensures.same) n)
    c.in_err-pattern.ensures.read

pub operators::comparison_from-returns-in-Some-behind_keyword-clause-read : goal.operators::comparison_from-returns-in-Some-behind_keyword-clause-read
operators::comparison_from-returns-in-Some-behind_keyword-clause-read t c =
    got_as c.in_ok-pair-2.ensures
    (reads_match (sym c.in-Some-behind_keyword.ensures.same) c.in_ok-pattern.ensures.read)

pub operators::comparison_from-returns-in_default-behind_keyword-2-clause-read : goal.operators::comparison_from-returns-in_default-behind_keyword-2-clause-read
operators::comparison_from-returns-in_default-behind_keyword-2-clause-read t c =
    reads_cmp_end (sym c.in_default.ensures.same) (sym c.in_default-behind_keyword.ensures.same)
    (sym c.in_default-behind_keyword-2.ensures.same)

pub operators::comparison_from-returns-in_err-from-clause-read : goal.operators::comparison_from-returns-in_err-from-clause-read
operators::comparison_from-returns-in_err-from-clause-read t c =
    passed _ _ c.in_err-from.field-0.0 c.from_residual-in_err-from.ensures.1
    (λ n. reads_in_fail (sym c.in-Some-behind_keyword-2.ensures.same) n)
    c.in_err-from.ensures.read

pub operators::comparison_from-returns-in_default-dots-clause-read : goal.operators::comparison_from-returns-in_default-dots-clause-read
operators::comparison_from-returns-in_default-dots-clause-read t c =
    got_as c.in_ok-within.ensures
    (reads_in (sym c.in-Some-behind_keyword-2.ensures.same) c.in_ok-from.ensures.read
    (sym c.in_default-dots.ensures.same))

pub operators::comparison_from-returns-in_err-to-clause-read : goal.operators::comparison_from-returns-in_err-to-clause-read
operators::comparison_from-returns-in_err-to-clause-read t c =
    passed _ _ c.in_err-to.field-0.0 c.from_residual-in_err-to.ensures.1
    (λ n. reads_range_fail (sym c.in-Some-behind_keyword-2.ensures.same)
    c.in_ok-from.ensures.read (sym c.in-Some-dots.ensures.same) n) c.in_err-to.ensures.read

pub operators::comparison_from-returns-clause-read : goal.operators::comparison_from-returns-clause-read
operators::comparison_from-returns-clause-read t c =
    got_as c.in_ok-between.ensures
    (reads_range (sym c.in-Some-behind_keyword-2.ensures.same) c.in_ok-from.ensures.read
    (sym c.in-Some-dots.ensures.same) c.in_ok-to.ensures.read)

pub operators::conjunction-returns-in_err-first-clause-read : goal.operators::conjunction-returns-in_err-first-clause-read
operators::conjunction-returns-in_err-first-clause-read t c =
    passed _ _ c.in_err-first.field-0.0 c.from_residual.ensures.1 (reads_conjunction_fail)
    c.in_err-first.ensures.read

pub operators::conjunction-returns-clause-read : goal.operators::conjunction-returns-clause-read
operators::conjunction-returns-clause-read t c =
    answers_as _ _ _ c.left_run.result (λ o n. reads_conjunction c.in_ok-first.ensures.read n)
    c.left_run.ensures.read

pub operators::expression-returns-in_err-first-clause-read : goal.operators::expression-returns-in_err-first-clause-read
operators::expression-returns-in_err-first-clause-read t c =
    passed _ _ c.in_err-first.field-0.0 c.from_residual.ensures.1 (reads_expr_fail)
    c.in_err-first.ensures.read

pub operators::expression-returns-clause-read : goal.operators::expression-returns-clause-read
operators::expression-returns-clause-read t c =
    answers_as _ _ _ c.expression_from.result (λ o n. reads_expr c.in_ok-first.ensures.read n)
    c.expression_from.ensures.read

pub operators::expression_from-returns-in_err-compared-clause-read : goal.operators::expression_from-returns-in_err-compared-clause-read
operators::expression_from-returns-in_err-compared-clause-read t c =
    passed _ _ c.in_err-compared.field-0.0 c.from_residual.ensures.1 (reads_expr_from_cmp_fail)
    c.in_err-compared.ensures.read

pub operators::expression_from-returns-in_err-conjoined-clause-read : goal.operators::expression_from-returns-in_err-conjoined-clause-read
operators::expression_from-returns-in_err-conjoined-clause-read t c =
    passed _ _ c.in_err-conjoined.field-0.0 c.from_residual-in_err-conjoined.ensures.1
    (λ n. reads_expr_from_and_fail c.in_ok-compared.ensures.read n)
    c.in_err-conjoined.ensures.read

pub operators::expression_from-returns-clause-read : goal.operators::expression_from-returns-clause-read
operators::expression_from-returns-clause-read t c =
    answers_as _ _ _ c.left_run-2.result
    (λ o n. reads_expr_from c.in_ok-compared.ensures.read c.in_ok-conjoined.ensures.read n)
    c.left_run-2.ensures.read

pub operators::left_run-returns-in-None-clause-read : goal.operators::left_run-returns-in-None-clause-read
operators::left_run-returns-in-None-clause-read t c =
    reads_run_end (sym c.operator.ensures.same ∙ ap (λ o. option_map (λ x. (x.0, left c.args.ts.now x.1)) o) c.in-None.is)

pub operators::run-loop-sign-init : goal.operators::run-loop-sign-init
operators::run-loop-sign-init t c =
    record {
      from = omega arith;
      to = c.requires;
      reads = λ o h. subst (λ z. Reads (run_from c.args.level (expression c.args.first.value) z)
          (left c.args.ts.now c.args.at) o) (ap operands c.new-operands.ensures.items
          ∙ operands_none) h;
    }

pub operators::run-returns-in_err-next-clause-read : goal.operators::run-returns-in_err-next-clause-read
operators::run-returns-in_err-next-clause-read t c =
    passed _ _ c.in_err-next.field-0.0 c.from_residual.ensures.1
    (λ n. c.loop-sign.invariant.reads _
    (reads_run_operand_fail (sym c.in-Some.ensures.same) n)) c.in_err-next.ensures.read

pub operators::run-loop-sign-preserved : goal.operators::run-loop-sign-preserved
operators::run-loop-sign-preserved t c =
    record {
      from = omega (arith, c.in_ok-next.ensures.shorter.0, c.in-Some.ensures.next.0);
      to = c.in_ok-next.ensures.shorter.1;
      reads = λ o h. c.loop-sign.invariant.reads o
          (reads_run (sym c.in-Some.ensures.same) c.in_ok-next.ensures.read
          (subst (λ z. Reads (run_from c.args.level (expression c.args.first.value) z)
          (left c.args.ts.now c.in_ok-next.rest) o)
          (operands_pushed _ _ c.in_ok-push.ensures.items c.into_inner.ensures) h));
    }

pub operators::run-returns-clause-read : goal.operators::run-returns-clause-read
operators::run-returns-clause-read t c =
    got_as c.in_ok-run.ensures
    (c.loop-sign.invariant.reads _ (reads_run_end (sym c.in_default.ensures.same)))

pub operators::negation-loop-rest-init : goal.operators::negation-loop-rest-init
operators::negation-loop-rest-init t c =
    record {
      from = omega arith;
      reads = λ o h. subst (λ z. Reads (neg_from z) (left c.args.ts.now c.args.at) o)
          c.new-signs.ensures.items h;
    }

pub operators::negation-loop-rest-preserved : goal.operators::negation-loop-rest-preserved
operators::negation-loop-rest-preserved t c =
    record {
      from = omega (arith, c.in-Some.ensures.next.0);
      reads = λ o h. c.loop-rest.invariant.reads o
          (reads_minus (sym c.in-Some.ensures.same)
          (subst (λ z. Reads (neg_from z) (left c.args.ts.now c.in-Some.rest) o)
          c.in_ok-push.ensures.items h));
    }

pub operators::negation-returns-in_err-operand-clause-read : goal.operators::negation-returns-in_err-operand-clause-read
operators::negation-returns-in_err-operand-clause-read t c =
    passed _ _ c.in_err-operand.field-0.0 c.from_residual-in_err-operand.ensures.1
    (λ n. c.loop-rest.invariant.reads _ (reads_neg_fail (sym c.in_default.ensures.same) n))
    c.in_err-operand.ensures.read

pub operators::negation-returns-clause-read : goal.operators::negation-returns-clause-read
operators::negation-returns-clause-read t c =
    got_as c.in_ok-prefix.ensures
    (c.loop-rest.invariant.reads _
    (reads_neg (sym c.in_default.ensures.same) c.in_ok-operand.ensures.read))

pub operators::power-returns-in_err-first-clause-read : goal.operators::power-returns-in_err-first-clause-read
operators::power-returns-in_err-first-clause-read t c =
    passed _ _ c.in_err-first.field-0.0 c.from_residual.ensures.1 (reads_pow_fail)
    c.in_err-first.ensures.read

pub operators::power-loop-after_sign-init : goal.operators::power-loop-after_sign-init
operators::power-loop-after_sign-init t c =
    record {
      from = omega arith;
      to = c.in_ok-first.ensures.shorter.1;
      reads = λ o h. subst (λ z. Reads (pow_from (expression c.in_ok-first.first.value) z)
          (left c.args.ts.now c.in_ok-first.after_first) o)
          (ap operands c.new-operands.ensures.items ∙ operands_none) h;
    }

pub operators::power-returns-in_err-next-clause-read : goal.operators::power-returns-in_err-next-clause-read
operators::power-returns-in_err-next-clause-read t c =
    passed _ _ c.in_err-next.field-0.0 c.from_residual-in_err-next.ensures.1
    (λ n. reads_pow c.in_ok-first.ensures.read
    (c.loop-after_sign.invariant.reads _ (reads_stars_fail (sym c.in-Some.ensures.same) n)))
    c.in_err-next.ensures.read

pub operators::power-loop-after_sign-preserved : goal.operators::power-loop-after_sign-preserved
operators::power-loop-after_sign-preserved t c =
    record {
      from = omega (arith, c.in_ok-next.ensures.shorter.0, c.in-Some.ensures.next.0);
      to = c.in_ok-next.ensures.shorter.1;
      reads = λ o h. c.loop-after_sign.invariant.reads o
          (reads_stars (sym c.in-Some.ensures.same) c.in_ok-next.ensures.read
          (subst (λ z. Reads (pow_from (expression c.in_ok-first.first.value) z)
          (left c.args.ts.now c.in_ok-next.rest) o)
          (operands_pushed _ _ c.in_ok-push.ensures.items c.into_inner.ensures) h));
    }

pub operators::power-returns-clause-read : goal.operators::power-returns-clause-read
operators::power-returns-clause-read t c =
    got_as c.in_ok-run.ensures
    (reads_pow c.in_ok-first.ensures.read
    (c.loop-after_sign.invariant.reads _ (reads_pow_end (sym c.in_default.ensures.same))))

pub operators::prefixed-loop-sign-init : goal.operators::prefixed-loop-sign-init
operators::prefixed-loop-sign-init t c =
    record {
      from = omega arith;
      reads = λ o h. subst (λ z. Reads (pre_from z) (left c.args.ts.now c.args.at) o)
          c.new-signs.ensures.items h;
    }

pub operators::prefixed-loop-sign-preserved : goal.operators::prefixed-loop-sign-preserved
operators::prefixed-loop-sign-preserved t c =
    record {
      from = omega (arith, c.in-Some.ensures.next.0);
      reads = λ o h. c.loop-sign.invariant.reads o
          (reads_prefix (sym c.in-Some.ensures.same)
          (subst (λ z. Reads (pre_from z) (left c.args.ts.now c.in-Some.rest) o)
          c.in_ok-push.ensures.items h));
    }

pub operators::prefixed-returns-in_err-operand-clause-read : goal.operators::prefixed-returns-in_err-operand-clause-read
operators::prefixed-returns-in_err-operand-clause-read t c =
    passed _ _ c.in_err-operand.field-0.0 c.from_residual-in_err-operand.ensures.1
    (λ n. c.loop-sign.invariant.reads _ (reads_pre_fail (sym c.in_default.ensures.same) n))
    c.in_err-operand.ensures.read

pub operators::prefixed-returns-clause-read : goal.operators::prefixed-returns-clause-read
operators::prefixed-returns-clause-read t c =
    got_as c.in_ok-prefix.ensures
    (c.loop-sign.invariant.reads _
    (reads_pre (sym c.in_default.ensures.same) c.in_ok-operand.ensures.read))

pub operators::product-returns-in_err-first-clause-read : goal.operators::product-returns-in_err-first-clause-read
operators::product-returns-in_err-first-clause-read t c =
    passed _ _ c.in_err-first.field-0.0 c.from_residual.ensures.1 (reads_product_fail)
    c.in_err-first.ensures.read

pub operators::product-returns-clause-read : goal.operators::product-returns-clause-read
operators::product-returns-clause-read t c =
    answers_as _ _ _ c.left_run.result (λ o n. reads_product c.in_ok-first.ensures.read n)
    c.left_run.ensures.read

pub operators::sum-returns-in_err-first-clause-read : goal.operators::sum-returns-in_err-first-clause-read
operators::sum-returns-in_err-first-clause-read t c =
    passed _ _ c.in_err-first.field-0.0 c.from_residual.ensures.1 (reads_sum_fail)
    c.in_err-first.ensures.read

pub operators::sum-returns-clause-read : goal.operators::sum-returns-clause-read
operators::sum-returns-clause-read t c =
    answers_as _ _ _ c.left_run.result (λ o n. reads_sum c.in_ok-first.ensures.read n)
    c.left_run.ensures.read
