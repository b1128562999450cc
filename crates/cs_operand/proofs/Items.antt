-- What operators and functions make of a list of these elements.
use Rattle.std.proofs.Common.{◌≡◌, List, length, ap, Some}
use Rattle.std.specs.Prelude.{pos}
use Rattle.std.specs.List.{list_any}
use Rattle.cs_value.specs.Tree.{Tree, boolean, integer, list, trees}
use Rattle.cs_value.proofs.Views.{members-trees}
use Rattle.cs_ops.specs.Equal.{equal}
use Rattle.cs_ops.specs.Operators.{within}
use Rattle.cs_ops.specs.Truth.{truth}
use Rattle.cs_func.specs.Lists.{count}
use Rattle.cs_func.specs.Texts.{size}

pub within_items : (v : Tree) (ts : List Tree)
    → within v (list (trees ts)) ≡ boolean (list_any (λ t. equal t v) ts)
within_items v ts =
    ap (λ (xs : List Tree). boolean (list_any (λ t. equal t v) xs)) (members-trees ts)

pub truth_within_items : (v : Tree) (ts : List Tree)
    → truth (within v (list (trees ts))) ≡ Some (list_any (λ t. equal t v) ts)
truth_within_items v ts =
    ap (λ (xs : List Tree). Some (list_any (λ t. equal t v) xs)) (members-trees ts)

pub count_items : (ts : List Tree) → count (list (trees ts)) ≡ integer (pos (length ts))
count_items ts = ap (λ (xs : List Tree). integer (pos (length xs))) (members-trees ts)

pub size_items : (ts : List Tree) → size (list (trees ts)) ≡ integer (pos (length ts))
size_items ts = ap (λ (xs : List Tree). integer (pos (length xs))) (members-trees ts)
