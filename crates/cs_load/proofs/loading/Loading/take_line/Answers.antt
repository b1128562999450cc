use Rattle.std.proofs.Common.{◌∙◌, refl, subst, sym, OnOk, IfErr}
use Rattle.cs_load.specs.Refusals.{IsRefused}
use Rattle.cs_load.specs.Taking.{so_far, IsTaken}
use Rattle.cs_load.proofs.Saying.{said_blank, said_line}
use Rattle.cs_load.proofs.loading.Loading.take_line.Goals as goal

pub returns-then-is_blank-clause-taken : goal.returns-then-is_blank-clause-taken
returns-then-is_blank-clause-taken c =
    subst (λ s. IsTaken s (so_far c.args.self.now) (so_far c.args.self.now)) (sym (said_blank (so_far c.args.self.now) c.args.line.now (sym c.is_blank.ensures ∙ c.if-is_blank.true))) refl

pub returns-clause-taken : goal.returns-clause-taken
returns-clause-taken c =
    subst (λ s. OnOk c.take_document.result (IsTaken s (so_far c.args.self.now) (so_far c.take_document.new.self))) (sym (said_line (so_far c.args.self.now) c.args.line.now (sym c.is_blank.ensures ∙ c.if-is_blank.false))) c.take_document.ensures.taken

pub returns-clause-refused : goal.returns-clause-refused
returns-clause-refused c =
    subst (λ s. IfErr c.take_document.result (λ r. IsRefused r s)) (sym (said_line (so_far c.args.self.now) c.args.line.now (sym c.is_blank.ensures ∙ c.if-is_blank.false))) c.take_document.ensures.refused
