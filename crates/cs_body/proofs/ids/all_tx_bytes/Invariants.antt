use Rattle.std.proofs.Common.{◌≡◌, drop}
use Rattle.std.specs.List.{list_all}
use Rattle.cs_body.specs.Body.{is_tx_byte}
use Rattle.cs_body.proofs.ids.all_tx_bytes.Given as goal

abbrev pub invariant-loop-byte : goal.invariant-loop-byte
invariant-loop-byte l = list_all is_tx_byte l.bytes ≡ list_all is_tx_byte (drop l.byte-index l.bytes)
