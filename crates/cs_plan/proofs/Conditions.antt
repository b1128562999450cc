-- Which brackets are filters.
use Rattle.std.proofs.Common.{◌≡◌, sym, ap, ◌∙◌, List, [], ◌∷◌, map, refl, Vec, Box, Global, not}
use Rattle.std.specs.Prelude.{◌&&◌}
use Rattle.cs_syntax.specs.Expression.{Expression, number_literal, text_literal, prefix, chain, steps_of}
use Rattle.cs_syntax.specs.Brackets.{is_position, is_text}
use Rattle.cs_syntax.specs.View.{expression, step_of}
use Rattle.cs_syntax.specs.declared.tree.PreSign.TheVariants as sign
use Rattle.cs_syntax.specs.declared.tree.Expr.{Expr}
use Rattle.cs_syntax.specs.declared.tree.Expr as code
use Rattle.cs_syntax.specs.declared.tree.Step.{Step as CodeStep}
use Rattle.cs_plan.specs.Steps.{bracketed}
use Rattle.cs_syntax.proofs.Views.{chain_parts, expression_all}
use Rattle.cs_plan.specs.Simple.{is_condition, is_simple, is_simple_rest}

-- a bracket is a filter where it is neither an element nor an attribute
pub neither_position_nor_text : (e : Expression)
    → is_condition (bracketed e) ≡ not (is_position e) && not (is_text e)
neither_position_nor_text (number_literal n) = refl
neither_position_nor_text (text_literal s) = refl
neither_position_nor_text (prefix [] e) = refl
neither_position_nor_text (prefix (sign.Minus ∷ []) (number_literal n)) = refl
neither_position_nor_text (prefix (sign.Minus ∷ []) _) = refl
neither_position_nor_text (prefix (sign.Minus ∷ p ∷ ps) e) = refl
neither_position_nor_text (prefix (sign.Plus ∷ ps) e) = refl
neither_position_nor_text (prefix (sign.Not ∷ ps) e) = refl
neither_position_nor_text _ = refl

pub simple_chain : (e : Expr) (base : Box Expr Global) (v : Vec CodeStep Global) (b : Expr)
    (ss : List CodeStep) → e ≡ code.Chain base v → b ≡ base.value → b ≡ code.All → ss ≡ v.items
    → is_simple_rest (steps_of (map step_of ss)) ≡ is_simple (expression e)
simple_chain e base v b ss is there all same =
    sym (ap is_simple (chain_parts e base v b ss is there same
    ∙ ap (λ x. chain x (steps_of (map step_of ss))) (ap expression all ∙ expression_all)))
