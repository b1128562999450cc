use Rattle.std.proofs.Common.{sym, subst}
use Rattle.cs_view.specs.declared.key.Key.TheVariants.{Ref}
use Rattle.cs_codes.specs.Kinds.{IsOfKind}
use Rattle.cs_codes.specs.declared.kind.KeyKind.{KeyKind}
use Rattle.cs_codes.proofs.Coded.{of_this, of_later}
use Rattle.cs_codes.proofs.coding.Coding.codes_refs.Goals as goal

pub returns-in-Ref : goal.returns-in-Ref
returns-in-Ref c = λ _ target.
    c.loop-kind.invariant target
    (of_this (Ref target) c.deref-kind-items.result.now c.loop-kind.kind-index c.kind-item.result c.loop-kind-test.true c.kind-item.is
    (subst (λ (k : KeyKind). IsOfKind (Ref target) k) (sym c.in-Ref.is) tt))

pub loop-kind-preserved : goal.loop-kind-preserved
loop-kind-preserved c = λ target later.
    c.loop-kind.invariant target
    (of_later (Ref target) c.deref-kind-items.result.now c.loop-kind.kind-index c.kind-item.result c.loop-kind-test.true c.kind-item.is later)
