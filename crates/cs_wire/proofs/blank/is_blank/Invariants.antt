use Rattle.std.proofs.Common.{◌≡◌, drop}
use Rattle.cs_wire.specs.Blank.{is_blank_line}
use Rattle.cs_wire.proofs.blank.is_blank.Given as goal

abbrev pub invariant-loop-byte : goal.invariant-loop-byte
invariant-loop-byte l = is_blank_line l.line ≡ is_blank_line (drop l.byte-index l.line)
