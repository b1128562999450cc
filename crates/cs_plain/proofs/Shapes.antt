-- The forms of lists of arguments, elements, names and signs, one by one.
use Rattle.std.proofs.Common.{◌≡◌, ◌<◌, ◌≢◌, List, [], ◌∷◌, map, length, sym, ap, refl, arith, false, ◌&&◌, ◌∙◌}
use Rattle.std.specs.Prelude.{is_some}
use Rattle.cs_syntax.specs.Expression.{Expression, number_literal, Argument, Arguments, argument, when_argument, no_arguments, more_arguments, Element, Elements, element, spread_element, more_elements, arguments_of}
use Rattle.cs_syntax.specs.View.{argument_of}
use Rattle.cs_syntax.specs.declared.tree.Arg.{Arg}
use Rattle.cs_syntax.specs.declared.tree.PreSign.{PreSign}
use Rattle.cs_syntax.specs.declared.tree.PreSign.TheVariants as front
use Rattle.cs_plain.specs.Forms.{argument_is_operand, element_is_operand}
use Rattle.cs_plain.specs.Plain.{is_negative, is_one, are_operands, are_two, are_elements}
use Rattle.cs_plan.specs.Parts.{negative_of}

pub negative_number : (signs : List PreSign) (e : Expression)
    → is_negative signs e ≡ is_some (negative_of signs e)
negative_number (front.Minus ∷ []) (number_literal n) = refl
negative_number (front.Minus ∷ []) _ = refl
negative_number _ e = refl

pub operands_more : (a : Argument) (xs : Arguments)
    → are_operands (more_arguments a xs) ≡ (argument_is_operand a && are_operands xs)
operands_more (argument e) xs = refl
operands_more (when_argument c e) xs = refl

pub elements_more : (a : Element) (xs : Elements)
    → are_elements (more_elements a xs) ≡ (element_is_operand a && are_elements xs)
elements_more (element e) xs = refl
elements_more (spread_element e) xs = refl

one_of : (a : Argument) → argument_is_operand a ≡ is_one (more_arguments a no_arguments)
one_of (argument e) = refl
one_of (when_argument c e) = refl

none_of : (a b : Argument) (xs : Arguments) → false ≡ is_one (more_arguments a (more_arguments b xs))
none_of (argument e) b xs = refl
none_of (when_argument c e) b xs = refl

pub operand_alone : (xs : List Arg) (x : Arg) (ys : List Arg) → xs ≡ x ∷ ys → length ys ≡ 0
    → argument_is_operand (argument_of x) ≡ is_one (arguments_of (map argument_of xs))
operand_alone xs x [] h g =
    one_of (argument_of x) ∙ ap (λ (zs : List Arg). is_one (arguments_of (map argument_of zs))) (sym h)
operand_alone xs x (y ∷ ys) h g = absurd (omega (arith, g))

pub no_operand_alone : (xs : List Arg) (x : Arg) (ys : List Arg) → xs ≡ x ∷ ys → 0 < length ys
    → false ≡ is_one (arguments_of (map argument_of xs))
no_operand_alone xs x [] h g = absurd (omega (arith, g))
no_operand_alone xs x (y ∷ ys) h g =
    none_of (argument_of x) (argument_of y) (arguments_of (map argument_of ys))
    ∙ ap (λ (zs : List Arg). is_one (arguments_of (map argument_of zs))) (sym h)

pub two : (xs : List Arg) → length xs ≡ 2
    → are_operands (arguments_of (map argument_of xs)) ≡ are_two (arguments_of (map argument_of xs))
two [] h = absurd (omega (arith, h))
two (x ∷ []) h = absurd (omega (arith, h))
two (x ∷ y ∷ []) h = refl
two (x ∷ y ∷ z ∷ zs) h = absurd (omega (arith, h))

pub not_two : (xs : List Arg) → length xs ≢ 2 → false ≡ are_two (arguments_of (map argument_of xs))
not_two [] h = refl
not_two (x ∷ []) h = refl
not_two (x ∷ y ∷ []) h = absurd (h refl)
not_two (x ∷ y ∷ z ∷ zs) h = refl
