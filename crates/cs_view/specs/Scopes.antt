-- Scopes: GROQ-1.revision1, "Scope". A scope is a list of values that is not empty, the innermost
-- first.
use Rattle.std.specs.Prelude.{List, [], ◌∷◌}
use Rattle.cs_value.specs.Tree.{Tree}
use Rattle.cs_value.specs.View.{tree}
use Rattle.cs_view.specs.declared.scope.Scope.{Scope, Scope', Held-Scope-parent, None', Some'}

-- its value, and then the values of the scope around it
abbrev mutual
  pub scope_of : Scope → List Tree
  scope_of (Scope' this parent) = tree this.now ∷ outer parent

  pub outer : Held-Scope-parent → List Tree
  outer None' = []
  outer (Some' p s) = scope_of s
