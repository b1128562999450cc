use Rattle.std.proofs.Common.{sym}
use Rattle.cs_syntax.proofs.Escaped.{letter-at}
use Rattle.cs_syntax.proofs.escape.escape_at.Goals as goal

pub returns-clause-same : goal.returns-clause-same
returns-clause-same c =
    letter-at c.args.bytes.now c.args.at _ _ c.byte_at-byte.ensures.same c.if-byte-eq117.false
    (sym c.in_ok-character.ensures.same)
