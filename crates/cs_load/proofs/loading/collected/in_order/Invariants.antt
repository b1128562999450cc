use Rattle.std.proofs.Common.{◌≡◌, ◌++◌}
use Rattle.std.specs.Map.{values_of}
use Rattle.cs_load.proofs.loading.collected.in_order.Given as goal

abbrev pub invariant-loop-document : goal.invariant-loop-document
invariant-loop-document l = values_of l.fn.documents.entries ≡ l.docs.items ++ l.document-iterator
