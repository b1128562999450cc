use Rattle.std.proofs.Common.{◌≡◌, ◌++◌, map, drop}
use Rattle.cs_value.specs.View.{tree}
use Rattle.cs_view.specs.View.{document_of}
use Rattle.cs_eval.proofs.queries.vals_of.Given as goal

abbrev pub invariant-loop-doc : goal.invariant-loop-doc
invariant-loop-doc l = map (λ r. tree r.now) l.vals.items ++ map document_of (drop l.doc-index l.docs) ≡ map document_of l.docs
