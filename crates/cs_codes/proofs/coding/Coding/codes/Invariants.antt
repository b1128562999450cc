use Rattle.std.proofs.Common.{drop}
use Rattle.cs_codes.specs.Kinds.{IsOfSome}
use Rattle.cs_codes.proofs.coding.Coding.codes.Given as goal

abbrev pub invariant-loop-kind : goal.invariant-loop-kind
invariant-loop-kind l = IsOfSome l.key (drop l.kind-index l.kind-items) → IsOfSome l.key l.self.kinds.items
