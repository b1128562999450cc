use Rattle.std.proofs.Common.{sym}
use Rattle.cs_syntax.proofs.Escaped.{units-at}
use Rattle.cs_syntax.proofs.escape.unicode_at.Goals as goal

pub returns-clause-same : goal.returns-clause-same
returns-clause-same c =
    units-at c.args.bytes.now c.args.at _ _ _ c.byte_at-next.ensures.same c.if-next-eq123.false
    (sym c.in_ok-number.ensures.same) c.by_unit.ensures.same
