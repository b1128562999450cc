use Rattle.std.proofs.Common.{◌≡◌, drop}
use Rattle.std.specs.Prelude.{filter_map}
use Rattle.std.specs.List.{list_any}
use Rattle.cs_value.specs.View.{tree, list_tree}
use Rattle.cs_value.specs.Words.{as_text}
use Rattle.cs_func.specs.Refers.{refers}
use Rattle.cs_plain.proofs.references.some_text_refers.Given as goal

abbrev pub invariant-loop-item : goal.invariant-loop-item
invariant-loop-item l = list_any (λ t. refers t (tree l.this)) (filter_map as_text (list_tree (drop l.item-index l.item-items))) ≡ list_any (λ t. refers t (tree l.this)) (filter_map as_text (list_tree l.item-items))
