use Rattle.std.proofs.Common.{◌≡◌, drop}
use Rattle.cs_codes.specs.Codes.{with_names}
use Rattle.cs_codes.proofs.code.with_names.Given as goal

abbrev pub invariant-loop-name : goal.invariant-loop-name
invariant-loop-name l = with_names l.longer (drop l.name-index l.names) ≡ with_names l.fn.hash l.names
