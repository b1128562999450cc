-- The texts in a list of these elements.
use Rattle.std.proofs.Common.{◌≡◌, List, ap}
use Rattle.std.specs.Prelude.{filter_map}
use Rattle.cs_value.specs.Tree.{Tree, list, trees}
use Rattle.cs_value.specs.Words.{as_text}
use Rattle.cs_value.proofs.Views.{members-trees}
use Rattle.cs_meaning.specs.Operators.{targets}

pub targets_items : (ts : List Tree) → targets (list (trees ts)) ≡ filter_map as_text ts
targets_items ts = ap (λ (xs : List Tree). filter_map as_text xs) (members-trees ts)
