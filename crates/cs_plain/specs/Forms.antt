-- Which arguments and elements are operands, one by one: Sanity's HTTP documentation, "Listening",
-- in this project's profile.
use Rattle.std.specs.Prelude.{Bool, false}
use Rattle.cs_syntax.specs.Expression.{Argument, argument, when_argument, Element, element, spread_element}
use Rattle.cs_plain.specs.Plain.{is_operand}

abbrev pub argument_is_operand : Argument → Bool
argument_is_operand (argument e) = is_operand e
argument_is_operand (when_argument c e) = false

abbrev pub element_is_operand : Element → Bool
element_is_operand (element e) = is_operand e
element_is_operand (spread_element e) = false
