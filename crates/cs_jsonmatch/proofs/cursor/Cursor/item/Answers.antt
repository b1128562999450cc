use Rattle.std.proofs.Common.{◌≡◌, ◌++◌, ◌∷◌, [], ◌∙◌, ap, sym, refl, rules, arith, None, to_z, of_z, w64}
use Rattle.cs_jsonmatch.specs.declared.class.Class.TheVariants.{Star, Colon, AtSign}
use Rattle.cs_jsonmatch.specs.Path.{every}
use Rattle.cs_jsonmatch.specs.Machine.{front, before, to, left_done, after}
use Rattle.cs_jsonmatch.specs.Reading.{reading, next_class, after_int}
use Rattle.cs_jsonmatch.proofs.Readings.{passed, onward, no_int, no_item, front_number, step_to}
use Rattle.cs_jsonmatch.proofs.cursor.Cursor.item.Goals as goal

pub returns-in_err-number-clause-item : goal.returns-in_err-number-clause-item
returns-in_err-number-clause-item c p d is =
    passed c.from_residual.result _ _ _ _ _ (c.skip_spaces.ensures.reads (before p d is) refl) (c.in_err-number.ensures.int p d is front) c.from_residual.ensures.1

pub returns-in-Some-clause-item : goal.returns-in-Some-clause-item
returns-in-Some-clause-item c p d is =
    let n = c.in-Some.number in
    let new = c.int.new.self.rest.now in
    let back : to_z w64 (of_z w64 n) ≡ n = search (rules) in
    onward c.position_or_range.result _ _ _ _
    (c.skip_spaces.ensures.reads (before p d is) refl
    ∙ front_number c.in_ok-number.field-0 n p d is c.skip_spaces.new.self.rest.now new c.in-Some.is (c.in_ok-number.ensures.int p d is front)
    ∙ ap (λ m. after_int new p d is front m) (sym back))
    (c.position_or_range.ensures.item p d is)

pub returns-in_err-text-in-Quote-clause-item : goal.returns-in_err-text-in-Quote-clause-item
returns-in_err-text-in-Quote-clause-item c p d is =
    let m = no_int c.in_ok-number.field-0 p d is front c.skip_spaces.new.self.rest.now c.int.new.self.rest.now c.in_default.is (c.in_ok-number.ensures.int p d is front) in
    let at = c.skip_spaces.ensures.reads (before p d is) refl ∙ ap (λ t. reading t (before p d is)) (sym m.0.0) in
    passed c.from_residual-in_err-text-in-Quote.result _ _ _ _ _ at (c.in_err-text-in-Quote.ensures.text (before p d is) p d is front (λ b. refl)) c.from_residual-in_err-text-in-Quote.ensures.1

pub returns-in_err-names-in-Letter-clause-item : goal.returns-in_err-names-in-Letter-clause-item
returns-in_err-names-in-Letter-clause-item c p d is =
    let m = no_int c.in_ok-number.field-0 p d is front c.skip_spaces.new.self.rest.now c.int.new.self.rest.now c.in_default.is (c.in_ok-number.ensures.int p d is front) in
    let at = c.skip_spaces.ensures.reads (before p d is) refl ∙ ap (λ t. reading t (before p d is)) (sym m.0.0) in
    passed c.from_residual-in_err-names-in-Letter.result _ _ _ _ _ at (c.in_err-names-in-Letter.ensures.names p d is) c.from_residual-in_err-names-in-Letter.ensures.1

pub returns-in-Colon-clause-item : goal.returns-in-Colon-clause-item
returns-in-Colon-clause-item c p d is =
    let m = no_int c.in_ok-number.field-0 p d is front c.skip_spaces.new.self.rest.now c.int.new.self.rest.now c.in_default.is (c.in_ok-number.ensures.int p d is front) in
    let at = c.skip_spaces.ensures.reads (before p d is) refl ∙ ap (λ t. reading t (before p d is)) (sym m.0.0) in
    onward c.range.result _ _ _ _ (at ∙ step_to Colon _ c.int.new.self.rest.now c.advance.new.self.rest.now (before p d is) (to p d is None) c.advance.ensures.1 refl) (c.range.ensures.item p d is)

pub returns-in-Star-clause-item : goal.returns-in-Star-clause-item
returns-in-Star-clause-item c p d is =
    let m = no_int c.in_ok-number.field-0 p d is front c.skip_spaces.new.self.rest.now c.int.new.self.rest.now c.in_default.is (c.in_ok-number.ensures.int p d is front) in
    c.skip_spaces.ensures.reads (before p d is) refl
    ∙ ap (λ t. reading t (before p d is)) (sym m.0.0)
    ∙ step_to Star _ c.int.new.self.rest.now _ (before p d is) (after p d (is ++ every ∷ [])) c.advance-in-Star.ensures.1 refl

pub returns-in_ok-text-in-Quote-clause-item : goal.returns-in_ok-text-in-Quote-clause-item
returns-in_ok-text-in-Quote-clause-item c p d is =
    let m = no_int c.in_ok-number.field-0 p d is front c.skip_spaces.new.self.rest.now c.int.new.self.rest.now c.in_default.is (c.in_ok-number.ensures.int p d is front) in
    c.skip_spaces.ensures.reads (before p d is) refl
    ∙ ap (λ t. reading t (before p d is)) (sym m.0.0)
    ∙ c.in_ok-text-in-Quote.ensures.text (before p d is) p d is front (λ b. refl)

pub returns-in-AtSign-clause-item : goal.returns-in-AtSign-clause-item
returns-in-AtSign-clause-item c p d is =
    let m = no_int c.in_ok-number.field-0 p d is front c.skip_spaces.new.self.rest.now c.int.new.self.rest.now c.in_default.is (c.in_ok-number.ensures.int p d is front) in
    let at = c.skip_spaces.ensures.reads (before p d is) refl ∙ ap (λ t. reading t (before p d is)) (sym m.0.0) in
    let middle = c.advance-in-AtSign.new.self.rest.now in
    onward c.test.result _ _ _ _
    (at
    ∙ step_to AtSign _ c.int.new.self.rest.now middle (before p d is) (left_done p d is []) c.advance-in-AtSign.ensures.1 refl
    ∙ ap (λ ns. reading middle (left_done p d is ns)) (sym c.new.ensures.items))
    (c.test.ensures.item p d is)

pub returns-in_ok-names-in-Letter-clause-item : goal.returns-in_ok-names-in-Letter-clause-item
returns-in_ok-names-in-Letter-clause-item c p d is =
    let m = no_int c.in_ok-number.field-0 p d is front c.skip_spaces.new.self.rest.now c.int.new.self.rest.now c.in_default.is (c.in_ok-number.ensures.int p d is front) in
    let at = c.skip_spaces.ensures.reads (before p d is) refl ∙ ap (λ t. reading t (before p d is)) (sym m.0.0) in
    onward c.test-in-Letter.result _ _ _ _ (at ∙ c.in_ok-names-in-Letter.ensures.names p d is) (c.test-in-Letter.ensures.item p d is)

pub returns-in_default-peek : goal.returns-in_default-peek
returns-in_default-peek c = record {
  item = λ p d is.
      let m = no_int c.in_ok-number.field-0 p d is front c.skip_spaces.new.self.rest.now c.int.new.self.rest.now c.in_default.is (c.in_ok-number.ensures.int p d is front) in
      c.skip_spaces.ensures.reads (before p d is) refl
      ∙ ap (λ t. reading t (before p d is)) (sym m.0.0)
      ∙ no_item p d is c.int.new.self.rest.now
      (λ h. c.skip_spaces.ensures.next (sym (ap next_class m.0.0) ∙ h)) (λ h. m.0.1 (sym (ap next_class m.0.0) ∙ h)) (λ h. m.1.1 (sym (ap next_class m.0.0) ∙ h))
      (λ h. c.in_default-peek.not-Star (c.peek.ensures ∙ h)) (λ h. c.in_default-peek.not-Quote (c.peek.ensures ∙ h)) (λ h. c.in_default-peek.not-Colon (c.peek.ensures ∙ h))
      (λ h. c.in_default-peek.not-Letter (c.peek.ensures ∙ h)) (λ h. c.in_default-peek.not-AtSign (c.peek.ensures ∙ h));
  shorter = let a = c.skip_spaces.ensures.shorter in let b = c.int.ensures.shorter in omega (arith, a, b);
}
