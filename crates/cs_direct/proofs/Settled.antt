-- What holds over no documents, where nothing is looked up, holds over all.
use Rattle.std.proofs.Common.{◌≡◌, List, [], sym, subst, ◌∙◌, Option, Some, None, arith}
use Rattle.std.specs.Prelude.{IfSome}
use Rattle.cs_value.specs.Tree.{Tree, Pairs}
use Rattle.cs_view.specs.declared.key.Key.{Key}
use Rattle.cs_syntax.specs.Expression.{Expression}
use Rattle.cs_meaning.specs.Laws.{AgreeOn, LookedSettlesValue}
use Rattle.cs_meaning.specs.Values.{value}
use Rattle.cs_meaning.specs.Looked.{looked}
use Rattle.cs_operand.specs.Operands.{operand}
use Rattle.cs_operand.specs.declared.operand.Operand.{Operand}

agree : (keys : List Key) (docs : List Tree) → keys ≡ [] → AgreeOn keys [] docs
agree keys docs h =
    subst (λ (ks : List Key). AgreeOn ks [] docs) (sym h) (λ k c. absurd (omega (arith, c.1)))

pub settled_value : (law : LookedSettlesValue) (params : Pairs) (e : Expression)
    (scope : List Tree) (found : Option Operand)
    → IfSome found (λ o. operand o ≡ value [] params e scope)
    → IfSome found (λ _. looked [] params e scope ≡ [])
    → IfSome found (λ o. (docs : List Tree) → operand o ≡ value docs params e scope)
settled_value law params e scope None is quiet = tt
settled_value law params e scope (Some o) is quiet =
    λ docs. is ∙ (law e params scope [] docs (agree (looked [] params e scope) docs quiet)).0

pub settled_quiet : (law : LookedSettlesValue) (params : Pairs) (e : Expression)
    (scope : List Tree) (found : Option Operand)
    → IfSome found (λ _. looked [] params e scope ≡ [])
    → IfSome found (λ _. (docs : List Tree) → looked docs params e scope ≡ [])
settled_quiet law params e scope None quiet = tt
settled_quiet law params e scope (Some o) quiet =
    λ docs. sym (law e params scope [] docs (agree (looked [] params e scope) docs quiet)).1 ∙ quiet
