use Rattle.std.proofs.Common.{◌≡◌, ℕ, List, Some, rules}
use Rattle.std.specs.Prelude.{All}
use Rattle.std.proofs.lemmas.List.Elements.{All-contains}
use Rattle.cs_syntax.specs.Functions.{Arity, functions, arity_of, without_global}
use Rattle.cs_faults.proofs.laws.global_is_the_same_function.Goals as goal

each : All (λ (row : List ℕ × Arity). arity_of (without_global row.0) ≡ Some row.1) functions
each = search rules

pub returns : goal.returns
returns c = λ row there.
    All-contains (λ (row : List ℕ × Arity). arity_of (without_global row.0)
    ≡ Some row.1) functions row each there
