use Rattle.std.proofs.Common.{◌≡◌, drop}
use Rattle.std.specs.List.{list_all}
use Rattle.cs_value.specs.Id.{is_id_byte}
use Rattle.cs_value.proofs.id.all_id_bytes.Given as goal

abbrev pub invariant-loop-byte : goal.invariant-loop-byte
invariant-loop-byte l = list_all is_id_byte l.bytes ≡ list_all is_id_byte (drop l.byte-index l.bytes)
