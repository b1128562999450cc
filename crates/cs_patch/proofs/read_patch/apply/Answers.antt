use Rattle.std.proofs.Common.{◌≡◌, subst}
use Rattle.std.specs.Prelude.{IfOk, IfErr}
use Rattle.cs_view.specs.View.{document_of}
use Rattle.cs_patch.specs.Operations.{document, refused}
use Rattle.cs_patch.specs.Patched.{patched}
use Rattle.cs_patch.specs.Faults.{IsPatchFault}
use Rattle.cs_patch.proofs.read_patch.apply.Goals as goal

pub returns-in-Ok-clause-done : goal.returns-in-Ok-clause-done
returns-in-Ok-clause-done c =
    subst (λ p. IfOk c.apply.result (λ d. patched p (document_of c.args.doc.now) c.args.tx.now
    c.args.moment.now ≡ document (document_of d))) c.in-Ok.ensures.read c.apply.ensures.done

pub returns-in-Ok-clause-refused : goal.returns-in-Ok-clause-refused
returns-in-Ok-clause-refused c =
    subst (λ p. IfErr c.apply.result (IsPatchFault (λ r. patched p (document_of c.args.doc.now)
    c.args.tx.now c.args.moment.now ≡ refused r))) c.in-Ok.ensures.read c.apply.ensures.refused
