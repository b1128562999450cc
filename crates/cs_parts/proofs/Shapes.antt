-- Parts of the leaves' answers.
use Rattle.std.proofs.Common.{◌≡◌, List, [], ◌∷◌, refl, ap}
use Rattle.cs_value.specs.Tree.{Tree, Pairs}
use Rattle.cs_value.specs.View.{tree, fields}
use Rattle.cs_value.specs.declared.val.Val as val
use Rattle.cs_value.specs.declared.val.Fields.{Fields}
use Rattle.cs_value.proofs.Views.{tree-Obj}
use Rattle.cs_view.specs.Keys.{having}
use Rattle.cs_view.specs.declared.key.Key.TheVariants.{All}
use Rattle.cs_syntax.specs.Expression.{Expression, bracket}
use Rattle.cs_plan.specs.Steps.{bracketed}
use Rattle.cs_meaning.specs.Joining.{form, bracket_form}
use Rattle.cs_meaning.specs.Operators.{spread_into}
use Rattle.cs_ops.specs.Arithmetic.{merged}

pub form_of_bracket : (e : Expression) → form (bracket e) ≡ bracket_form (bracketed e)
form_of_bracket e = refl

pub every_one : (ds : List Tree) → having All ds ≡ ds
every_one [] = refl
every_one (d ∷ ds) = ap (λ (es : List Tree). d ∷ es) (every_one ds)

pub spread_of_object : (ps : Pairs) (f : Fields) → spread_into ps (tree (val.Obj f)) ≡ merged ps (fields f)
spread_of_object ps f = ap (spread_into ps) (tree-Obj f)
