use Rattle.std.proofs.Common.{◌≡◌, ◌++◌, drop}
use Rattle.cs_view.specs.View.{document_of}
use Rattle.cs_codes.specs.Kinds.{coded, kinds_codes}
use Rattle.cs_codes.proofs.coding.Coding.put_codes.Given as goal

abbrev pub invariant-loop-kind : goal.invariant-loop-kind
invariant-loop-kind l =
    l.out.items ++ kinds_codes l.self.seed (drop l.kind-index l.kind-items) (document_of l.doc)
    ≡ l.fn.out.items ++ coded l.self (document_of l.doc)
