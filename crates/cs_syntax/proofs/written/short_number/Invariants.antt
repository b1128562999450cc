use Rattle.std.proofs.Common.{◌≡◌, ◌≤◌, ◌+◌, ◌*◌, ◌-◌, drop}
use Rattle.std.specs.Prelude.{fold}
use Rattle.cs_syntax.specs.Numbers.{has_exponent, has_fraction, whole_number}
use Rattle.cs_syntax.proofs.written.short_number.Given as goal

abbrev pub invariant-loop-byte : goal.invariant-loop-byte
invariant-loop-byte l = record {
  small : l.value ≤ 9223372036854775807;
  exponent : has_exponent l.number ≡ has_exponent (drop l.byte-index l.byte-items);
  fraction : has_fraction l.number ≡ has_fraction (drop l.byte-index l.byte-items);
  rest : whole_number l.number
      ≡ fold (λ n digit. n * 10 + (digit - 48)) l.value (drop l.byte-index l.byte-items);
}
