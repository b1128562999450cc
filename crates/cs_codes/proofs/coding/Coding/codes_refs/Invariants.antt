use Rattle.std.proofs.Common.{ℕ, List, drop}
use Rattle.cs_view.specs.declared.key.Key.TheVariants.{Ref}
use Rattle.cs_codes.specs.Kinds.{IsOfSome}
use Rattle.cs_codes.proofs.coding.Coding.codes_refs.Given as goal

abbrev pub invariant-loop-kind : goal.invariant-loop-kind
invariant-loop-kind l =
    (target : List ℕ) → IsOfSome (Ref target) (drop l.kind-index l.kind-items) → IsOfSome (Ref target) l.self.kinds.items
