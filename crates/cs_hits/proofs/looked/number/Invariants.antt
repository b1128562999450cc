use Rattle.std.proofs.Common.{◌≡◌, ◌+◌, ◌*◌, ◌%◌, ◌^◌, length, drop}
use Rattle.cs_hits.specs.Looked.{number}
use Rattle.cs_hits.proofs.looked.number.Given as goal

abbrev pub invariant-loop-byte : goal.invariant-loop-byte
invariant-loop-byte l = (l.low * 31 ^ length (drop l.byte-index l.bytes) + number (drop l.byte-index l.bytes)) % 2 ^ 64 ≡ number l.bytes % 2 ^ 64
