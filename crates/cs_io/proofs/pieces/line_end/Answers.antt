use Rattle.cs_io.proofs.Cutting.{plain_before}
use Rattle.cs_io.proofs.pieces.line_end.Goals as goal

pub returns : goal.returns
returns c =
    let p = plain_before c.args.piece.now c.memchr.result c.unwrap_or.result c.memchr.ensures c.unwrap_or.ensures in
    record { within = p.0; plain = p.1; found = p.2 }
