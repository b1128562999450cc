use Rattle.std.proofs.Common.{arith}
use Rattle.cs_gen.proofs.Places.{created_at, deleted_at, count_at, none_at}
use Rattle.cs_gen.proofs.lines.planned.Goals as goal

pub returns-then-place-n-clause-line : goal.returns-then-place-n-clause-line
returns-then-place-n-clause-line c = created_at c.args.n c.args.number (omega arith) (omega arith)

pub returns-then-behind-authors-clause-line : goal.returns-then-behind-authors-clause-line
returns-then-behind-authors-clause-line c =
    deleted_at c.args.n c.args.number (omega arith) (omega arith) (omega arith)

pub returns-then-behind-authors-2-clause-line : goal.returns-then-behind-authors-2-clause-line
returns-then-behind-authors-2-clause-line c =
    count_at c.args.n c.args.number (omega arith) (omega arith) (omega arith)

pub returns-clause-line : goal.returns-clause-line
returns-clause-line c = none_at c.args.n c.args.number (omega arith) (omega arith) (omega arith)
