use Rattle.std.proofs.Common.{◌≡◌, ℕ, List, Some, rules}
use Rattle.std.specs.Prelude.{All}
use Rattle.std.proofs.lemmas.List.Elements.{All-contains}
use Rattle.cs_syntax.specs.Functions.{Arity, functions, arity_of}
use Rattle.cs_faults.proofs.laws.each_function_has_its_arity.Goals as goal

each : All (λ (row : List ℕ × Arity). arity_of row.0 ≡ Some row.1) functions
each = search rules

pub returns : goal.returns
returns c = λ row there. All-contains (λ (row : List ℕ × Arity). arity_of row.0
    ≡ Some row.1) functions row each there
