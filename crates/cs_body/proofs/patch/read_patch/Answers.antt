use Rattle.std.proofs.Common.{Some, None, option_map, codes, refl}
use Rattle.cs_value.specs.Tree.{attributes}
use Rattle.cs_value.specs.View.{fields}
use Rattle.cs_patch.specs.View.{patch, numbers, insertion}
use Rattle.cs_body.specs.Body.{values_in, texts_in, numbers_in, insertion_in, patch_in}
use Rattle.cs_body.proofs.Taken.{patch_asks, handed}
use Rattle.cs_body.proofs.patch.read_patch.Goals as goal

pub returns-in_err-set_if_missing-clause-read : goal.returns-in_err-set_if_missing-clause-read
returns-in_err-set_if_missing-clause-read c =
    handed patch _ c.in_err-set_if_missing.field-0.0 (values_in (codes "setIfMissing") (fields c.take_text_or_none.new.object)) (patch_in (fields c.args.object)) c.in_err-set_if_missing.ensures.taken c.from_residual-in_err-set_if_missing.ensures.1
    (λ none. patch_asks (fields c.args.object) (fields c.take_text_or_none.new.object) _ _ _ _ _
    (Some c.in_ok-if_revision.if_revision) None _ _ _ _ _
    c.in_ok-if_revision.ensures.taken c.take_text_or_none.ensures.left none refl refl refl refl refl refl refl refl refl refl)

pub returns-in_err-set-clause-read : goal.returns-in_err-set-clause-read
returns-in_err-set-clause-read c =
    handed patch _ c.in_err-set.field-0.0 (values_in (codes "set") (fields c.take_values.new.object)) (patch_in (fields c.args.object)) c.in_err-set.ensures.taken c.from_residual-in_err-set.ensures.1
    (λ none. patch_asks (fields c.args.object) (fields c.take_text_or_none.new.object) (fields c.take_values.new.object) _ _ _ _
    (Some c.in_ok-if_revision.if_revision) (Some (attributes (fields c.in_ok-set_if_missing.set_if_missing))) None _ _ _ _
    c.in_ok-if_revision.ensures.taken c.take_text_or_none.ensures.left c.in_ok-set_if_missing.ensures.taken c.take_values.ensures.left none refl refl refl refl refl refl refl refl)

pub returns-in_err-unset-clause-read : goal.returns-in_err-unset-clause-read
returns-in_err-unset-clause-read c =
    handed patch _ c.in_err-unset.field-0.0 (texts_in (codes "unset") (fields c.take_values-2.new.object)) (patch_in (fields c.args.object)) c.in_err-unset.ensures.taken c.from_residual-in_err-unset.ensures.1
    (λ none. patch_asks (fields c.args.object) (fields c.take_text_or_none.new.object) (fields c.take_values.new.object) (fields c.take_values-2.new.object) _ _ _
    (Some c.in_ok-if_revision.if_revision) (Some (attributes (fields c.in_ok-set_if_missing.set_if_missing))) (Some (attributes (fields c.in_ok-set.set))) None _ _ _
    c.in_ok-if_revision.ensures.taken c.take_text_or_none.ensures.left c.in_ok-set_if_missing.ensures.taken c.take_values.ensures.left c.in_ok-set.ensures.taken c.take_values-2.ensures.left none refl refl refl refl refl refl)

pub returns-in_err-inc-clause-read : goal.returns-in_err-inc-clause-read
returns-in_err-inc-clause-read c =
    handed patch _ c.in_err-inc.field-0.0 (numbers_in (codes "inc") (fields c.take_texts.new.object)) (patch_in (fields c.args.object)) c.in_err-inc.ensures.taken c.from_residual-in_err-inc.ensures.1
    (λ none. patch_asks (fields c.args.object) (fields c.take_text_or_none.new.object) (fields c.take_values.new.object) (fields c.take_values-2.new.object) (fields c.take_texts.new.object) _ _
    (Some c.in_ok-if_revision.if_revision) (Some (attributes (fields c.in_ok-set_if_missing.set_if_missing))) (Some (attributes (fields c.in_ok-set.set))) (Some c.in_ok-unset.unset.items) None _ _
    c.in_ok-if_revision.ensures.taken c.take_text_or_none.ensures.left c.in_ok-set_if_missing.ensures.taken c.take_values.ensures.left c.in_ok-set.ensures.taken c.take_values-2.ensures.left c.in_ok-unset.ensures.taken c.take_texts.ensures.left none refl refl refl refl)

pub returns-in_err-dec-clause-read : goal.returns-in_err-dec-clause-read
returns-in_err-dec-clause-read c =
    handed patch _ c.in_err-dec.field-0.0 (numbers_in (codes "dec") (fields c.take_numbers.new.object)) (patch_in (fields c.args.object)) c.in_err-dec.ensures.taken c.from_residual-in_err-dec.ensures.1
    (λ none. patch_asks (fields c.args.object) (fields c.take_text_or_none.new.object) (fields c.take_values.new.object) (fields c.take_values-2.new.object) (fields c.take_texts.new.object) (fields c.take_numbers.new.object) _
    (Some c.in_ok-if_revision.if_revision) (Some (attributes (fields c.in_ok-set_if_missing.set_if_missing))) (Some (attributes (fields c.in_ok-set.set))) (Some c.in_ok-unset.unset.items) (Some (numbers (fields c.in_ok-inc.inc))) None _
    c.in_ok-if_revision.ensures.taken c.take_text_or_none.ensures.left c.in_ok-set_if_missing.ensures.taken c.take_values.ensures.left c.in_ok-set.ensures.taken c.take_values-2.ensures.left c.in_ok-unset.ensures.taken c.take_texts.ensures.left c.in_ok-inc.ensures.taken c.take_numbers.ensures.left none refl refl)

pub returns-in_err-insert-clause-read : goal.returns-in_err-insert-clause-read
returns-in_err-insert-clause-read c =
    handed patch _ c.in_err-insert.field-0.0 (insertion_in (fields c.take_numbers-2.new.object)) (patch_in (fields c.args.object)) c.in_err-insert.ensures.taken c.from_residual-in_err-insert.ensures.1
    (λ none. patch_asks (fields c.args.object) (fields c.take_text_or_none.new.object) (fields c.take_values.new.object) (fields c.take_values-2.new.object) (fields c.take_texts.new.object) (fields c.take_numbers.new.object) (fields c.take_numbers-2.new.object)
    (Some c.in_ok-if_revision.if_revision) (Some (attributes (fields c.in_ok-set_if_missing.set_if_missing))) (Some (attributes (fields c.in_ok-set.set))) (Some c.in_ok-unset.unset.items) (Some (numbers (fields c.in_ok-inc.inc))) (Some (numbers (fields c.in_ok-dec.dec))) None
    c.in_ok-if_revision.ensures.taken c.take_text_or_none.ensures.left c.in_ok-set_if_missing.ensures.taken c.take_values.ensures.left c.in_ok-set.ensures.taken c.take_values-2.ensures.left c.in_ok-unset.ensures.taken c.take_texts.ensures.left c.in_ok-inc.ensures.taken c.take_numbers.ensures.left c.in_ok-dec.ensures.taken c.take_numbers-2.ensures.left none)

pub returns-clause-read : goal.returns-clause-read
returns-clause-read c =
    patch_asks (fields c.args.object) (fields c.take_text_or_none.new.object) (fields c.take_values.new.object) (fields c.take_values-2.new.object) (fields c.take_texts.new.object) (fields c.take_numbers.new.object) (fields c.take_numbers-2.new.object)
    (Some c.in_ok-if_revision.if_revision) (Some (attributes (fields c.in_ok-set_if_missing.set_if_missing))) (Some (attributes (fields c.in_ok-set.set))) (Some c.in_ok-unset.unset.items) (Some (numbers (fields c.in_ok-inc.inc))) (Some (numbers (fields c.in_ok-dec.dec))) (Some (option_map insertion c.in_ok-insert.insert))
    c.in_ok-if_revision.ensures.taken c.take_text_or_none.ensures.left c.in_ok-set_if_missing.ensures.taken c.take_values.ensures.left c.in_ok-set.ensures.taken c.take_values-2.ensures.left c.in_ok-unset.ensures.taken c.take_texts.ensures.left c.in_ok-inc.ensures.taken c.take_numbers.ensures.left c.in_ok-dec.ensures.taken c.take_numbers-2.ensures.left c.in_ok-insert.ensures.taken
