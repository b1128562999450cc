-- What a step asks for: GROQ-1.revision1, "Compound expressions".
use Rattle.std.specs.Prelude.{ℕ, List, [], ◌∷◌, ℤ, pos, neg_ℤ, Bool, Option, Some, None, option_and_then, option_map, unwrap_or, codes, slice_get}
use Rattle.std.specs.Str.{bytes_eq}
use Rattle.cs_value.specs.Tree.{Tree, null}
use Rattle.cs_syntax.specs.declared.tree.PreSign.TheVariants as sign
use Rattle.cs_syntax.specs.Expression.{Expression, number_literal, prefix, Step, attr, bracket, Steps, no_steps, more_steps}
use Rattle.cs_syntax.specs.Numbers.{written_number}
use Rattle.cs_syntax.specs.Brackets.{text_alone}

-- The value so many levels out in a scope, 0 being `@` and 1 `^`; null where the scope is too
-- short: "This", "Parent".
abbrev pub in_scope : ℕ → List Tree → Tree
in_scope level scope = unwrap_or (slice_get scope level) null

-- The number that an expression is, if it is one alone: one that the profile refuses has no value.
abbrev pub number_of : Expression → Option (Option ℕ)
number_of (number_literal n) = Some (written_number n)
number_of _ = None

-- The position that a number, or `-` and a number, stands for: this project's profile of constants
-- in brackets. A number that the profile refuses is a position without a place.
abbrev pub position_of : Expression → Option (Option ℤ)
position_of (prefix (sign.Minus ∷ []) e) =
    option_map (option_map (λ n. neg_ℤ (pos n))) (number_of e)
position_of e = option_map (option_map pos) (number_of e)

-- What a bracket asks for: the element at a position, the attribute of a name, or the elements that
-- meet a condition.
pub data Bracketed : Type 0 where
  position : Option ℤ → Bracketed
  named : List ℕ → Bracketed
  condition : Bracketed

-- A position is an element, a text alone an attribute, and all else a filter: "Element access",
-- "Attribute access", "Filter".
abbrev pub bracketed_by : Option (Option ℤ) → Option (List ℕ) → Bracketed
bracketed_by (Some n) s = position n
bracketed_by None (Some s) = named s
bracketed_by None None = condition

-- What the bracket around this expression asks for.
abbrev pub bracketed : Expression → Bracketed
bracketed e = bracketed_by (position_of e) (text_alone e)

-- The name of a piped call is `order`, the one that the profile has: "Order pipe function".
abbrev pub is_order_name : List ℕ → Bool
is_order_name name = bytes_eq name (codes "order")

-- The name of a step `.w` or `["w"]`; none of another step.
abbrev pub name_of : Step → Option (List ℕ)
name_of (attr w) = Some w
name_of (bracket e) = text_alone e
name_of _ = None

-- The names of steps that are all `.w` or `["w"]`; none where another step is among them.
abbrev pub names_of : Steps → Option (List (List ℕ))
names_of no_steps = Some []
names_of (more_steps s ss) =
    option_and_then (λ name. option_map (λ names. name ∷ names) (names_of ss)) (name_of s)
