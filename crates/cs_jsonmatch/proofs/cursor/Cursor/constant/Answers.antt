use Rattle.std.proofs.Common.{◌≡◌, ◌++◌, ◌∷◌, [], ◌∙◌, ap, sym, refl, rules, arith, to_z, of_z, w64}
use Rattle.cs_value.specs.Tree.{integer}
use Rattle.cs_jsonmatch.specs.Path.{meets}
use Rattle.cs_jsonmatch.specs.Machine.{constant, literal, after}
use Rattle.cs_jsonmatch.specs.Reading.{reading, next_class}
use Rattle.cs_jsonmatch.proofs.Readings.{passed, onward, no_int, no_constant, constant_number, tree-Num, tree-Text}
use Rattle.cs_jsonmatch.proofs.cursor.Cursor.constant.Goals as goal

pub returns-in_err-number-clause-constant : goal.returns-in_err-number-clause-constant
returns-in_err-number-clause-constant c p d is ns k =
    passed c.from_residual.result _ _ _ _ _ (c.skip_spaces.ensures.reads (literal p d is ns k) refl) (c.in_err-number.ensures.int p d is (constant ns k)) c.from_residual.ensures.1

pub returns-in-Some-clause-constant : goal.returns-in-Some-clause-constant
returns-in-Some-clause-constant c p d is ns k =
    let n = c.in-Some.number in
    let new = c.int.new.self.rest.now in
    let back : to_z w64 (of_z w64 n) ≡ n = search (rules) in
    c.skip_spaces.ensures.reads (literal p d is ns k) refl
    ∙ constant_number c.in_ok-number.field-0 n p d is ns k c.skip_spaces.new.self.rest.now new c.in-Some.is (c.in_ok-number.ensures.int p d is (constant ns k))
    ∙ ap (λ t. reading new (after p d (is ++ meets ns k t ∷ []))) (sym (tree-Num _ ∙ ap integer back))

pub returns-in_err-text-in-Quote-clause-constant : goal.returns-in_err-text-in-Quote-clause-constant
returns-in_err-text-in-Quote-clause-constant c p d is ns k =
    let m = no_int c.in_ok-number.field-0 p d is (constant ns k) c.skip_spaces.new.self.rest.now c.int.new.self.rest.now c.in_default.is (c.in_ok-number.ensures.int p d is (constant ns k)) in
    let at = c.skip_spaces.ensures.reads (literal p d is ns k) refl ∙ ap (λ t. reading t (literal p d is ns k)) (sym m.0.0) in
    passed c.from_residual-in_err-text-in-Quote.result _ _ _ _ _ at (c.in_err-text-in-Quote.ensures.text (literal p d is ns k) p d is (constant ns k) (λ b. refl)) c.from_residual-in_err-text-in-Quote.ensures.1

pub returns-in_ok-text-in-Quote-clause-constant : goal.returns-in_ok-text-in-Quote-clause-constant
returns-in_ok-text-in-Quote-clause-constant c p d is ns k =
    let m = no_int c.in_ok-number.field-0 p d is (constant ns k) c.skip_spaces.new.self.rest.now c.int.new.self.rest.now c.in_default.is (c.in_ok-number.ensures.int p d is (constant ns k)) in
    c.skip_spaces.ensures.reads (literal p d is ns k) refl
    ∙ ap (λ t. reading t (literal p d is ns k)) (sym m.0.0)
    ∙ c.in_ok-text-in-Quote.ensures.text (literal p d is ns k) p d is (constant ns k) (λ b. refl)
    ∙ ap (λ t. reading c.text.new.self.rest.now (after p d (is ++ meets ns k t ∷ []))) (sym (tree-Text c.in_ok-text-in-Quote.field-0))

pub returns-in-Letter-clause-constant : goal.returns-in-Letter-clause-constant
returns-in-Letter-clause-constant c p d is ns k =
    let m = no_int c.in_ok-number.field-0 p d is (constant ns k) c.skip_spaces.new.self.rest.now c.int.new.self.rest.now c.in_default.is (c.in_ok-number.ensures.int p d is (constant ns k)) in
    let at = c.skip_spaces.ensures.reads (literal p d is ns k) refl ∙ ap (λ t. reading t (literal p d is ns k)) (sym m.0.0) in
    onward c.word.result _ _ _ _ at (c.word.ensures.word p d is ns k)

pub returns-in_default-peek : goal.returns-in_default-peek
returns-in_default-peek c = record {
  constant = λ p d is ns k.
      let m = no_int c.in_ok-number.field-0 p d is (constant ns k) c.skip_spaces.new.self.rest.now c.int.new.self.rest.now c.in_default.is (c.in_ok-number.ensures.int p d is (constant ns k)) in
      c.skip_spaces.ensures.reads (literal p d is ns k) refl
      ∙ ap (λ t. reading t (literal p d is ns k)) (sym m.0.0)
      ∙ no_constant p d is ns k c.int.new.self.rest.now
      (λ h. c.skip_spaces.ensures.next (sym (ap next_class m.0.0) ∙ h)) (λ h. m.0.1 (sym (ap next_class m.0.0) ∙ h)) (λ h. m.1.1 (sym (ap next_class m.0.0) ∙ h))
      (λ h. c.in_default-peek.not-Quote (c.peek.ensures ∙ h)) (λ h. c.in_default-peek.not-Letter (c.peek.ensures ∙ h));
  shorter = let a = c.skip_spaces.ensures.shorter in let b = c.int.ensures.shorter in omega (arith, a, b);
}
