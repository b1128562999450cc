use Rattle.std.proofs.Common.{ap, ◌∙◌}
use Rattle.cs_patch.specs.Operations.{fixed_at, or_else}
use Rattle.cs_patch.specs.Asked.{number_of, list_at}
use Rattle.cs_patch.proofs.refusal.cause_at.Goals as goal

pub returns-in-Free : goal.returns-in-Free
returns-in-Free c = λ path ns. rw c.in-Free.is (c.fixed_cause.ensures path ∙ ap fixed_at c.deref.ensures.value)

pub returns-in-None : goal.returns-in-None
returns-in-None c = λ path ns.
    rw c.in-Number.is
    (c.number_cause.ensures path ∙ ap (λ r. or_else r (number_of path c.in-Number.change c.args.target.now.stands)) (c.in-None.ensures path ∙ ap fixed_at c.deref-in-Number.ensures.value))

pub returns-in-None-fixed_cause : goal.returns-in-None-fixed_cause
returns-in-None-fixed_cause c = λ path ns.
    rw c.in-List.is
    (c.list_cause.ensures path ∙ ap (λ r. or_else r (list_at path c.args.target.now.stands)) (c.in-None-fixed_cause.ensures path ∙ ap fixed_at c.deref-in-List.ensures.value))
