-- What is asked of a dataset after a transaction, or of that of a data file: this project's
-- profile.
use Rattle.std.specs.Prelude.{◌≡◌, ℕ, List, length, nat_lt, cond, Option, Some, None}
use Rattle.cs_value.specs.Tree.{Tree}
use Rattle.cs_view.specs.Changes.{Edit, LeadFrom, after_changes}
use Rattle.cs_docs.specs.Limits.{most_documents}
use Rattle.cs_docs.specs.References.{first_dangling}

-- it can be a store's dataset, or why not
pub data Verdict : Type 0 where
  fits : Verdict
  full : Verdict
  dangles : List ℕ → List ℕ → Verdict

abbrev pub of_pair : Option (List ℕ × List ℕ) → Verdict
of_pair None = fits
of_pair (Some p) = dangles p.0 p.1

-- more documents than a store holds, and then the first dangling reference
abbrev pub verdict : List Tree → Verdict
verdict docs = cond (nat_lt most_documents (length docs)) full (of_pair (first_dangling docs))

-- changes that lead from the dataset to one that a store can hold
pub record AreTaken (docs : List Tree) (cs : List Edit) : Type 0 where
  pub leads : LeadFrom docs cs
  pub holds : verdict (after_changes docs cs) ≡ fits
