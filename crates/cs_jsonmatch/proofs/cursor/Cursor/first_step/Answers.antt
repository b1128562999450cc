use Rattle.std.proofs.Common.{[], ◌∙◌, refl}
use Rattle.cs_jsonmatch.specs.declared.class.Class.TheVariants.{Dot}
use Rattle.cs_jsonmatch.specs.Machine.{start, first_dot, two_dots}
use Rattle.cs_jsonmatch.proofs.Readings.{onward, step_to}
use Rattle.cs_jsonmatch.proofs.cursor.Cursor.first_step.Goals as goal

pub returns-in-Letter-clause-step : goal.returns-in-Letter-clause-step
returns-in-Letter-clause-step c = c.named.ensures.step start [] (λ b. refl)

pub returns-in-Opening-clause-step : goal.returns-in-Opening-clause-step
returns-in-Opening-clause-step c = c.bracketed.ensures.step start [] (λ b. refl)

pub returns-else-not-skip-clause-step : goal.returns-else-not-skip-clause-step
returns-else-not-skip-clause-step c =
    onward c.deep_step.result _ _ _ _
    (step_to Dot _ c.args.self.now.rest.now c.advance.new.self.rest.now start first_dot c.advance.ensures.1 refl
    ∙ step_to Dot _ c.advance.new.self.rest.now c.skip.new.self.rest.now first_dot (two_dots []) c.if-not-skip.ensures.1 refl)
    (c.deep_step.ensures.step [])
