use Rattle.std.proofs.Common.{rules, arith}
use Rattle.cs_plan.proofs.PathNames.{few_names, too_many}
use Rattle.cs_plan.proofs.paths.LentNames.of.Goals as goal

pub returns-then-steps-gt-MOST_STEPS : goal.returns-then-steps-gt-MOST_STEPS
returns-then-steps-gt-MOST_STEPS c = too_many c.args.word.now c.args.steps.now (omega arith)

pub returns : goal.returns
returns c = few_names c.args.word.now c.args.steps.now (omega arith) (search rules)
