use Rattle.std.proofs.Common.{sym}
use Rattle.cs_hits.proofs.looked.Looked.touched.Goals as goal

pub returns-then-is_spared : goal.returns-then-is_spared
returns-then-is_spared c =
    sym (c.is_spared.ensures c.if-is_spared.true c.args.changes.now c.requires.changes c.requires.marks)
