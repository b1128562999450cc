use Rattle.std.proofs.Common.{◌≡◌, drop}
use Rattle.cs_codes.specs.Codes.{is_among}
use Rattle.cs_hits.proofs.looked.has_mark.Given as goal

abbrev pub invariant-loop-other : goal.invariant-loop-other
invariant-loop-other l = is_among l.mark (drop l.other-index l.marks) ≡ is_among l.mark l.marks
