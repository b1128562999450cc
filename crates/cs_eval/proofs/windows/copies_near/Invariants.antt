use Rattle.std.proofs.Common.{◌≡◌, ◌++◌, map, drop}
use Rattle.std.specs.Prelude.{filter}
use Rattle.cs_value.specs.View.{fields}
use Rattle.cs_syntax.specs.Expression.{keys_of}
use Rattle.cs_syntax.specs.View.{order_key_of}
use Rattle.cs_view.specs.View.{document_of}
use Rattle.cs_parts.specs.Parts.{item}
use Rattle.cs_window.specs.Window.{not_behind, order_keys}
use Rattle.cs_eval.proofs.windows.copies_near.Given as goal

abbrev pub invariant-loop-doc : goal.invariant-loop-doc
invariant-loop-doc l =
    map document_of l.near.items
    ++ filter (λ d. not_behind (keys_of (map order_key_of l.order)) (map item l.bound.by.items) (order_keys (keys_of (map order_key_of l.order)) (fields l.params) d)) (map document_of (drop l.doc-index l.docs))
    ≡ filter (λ d. not_behind (keys_of (map order_key_of l.order)) (map item l.bound.by.items) (order_keys (keys_of (map order_key_of l.order)) (fields l.params) d)) (map document_of l.docs)
