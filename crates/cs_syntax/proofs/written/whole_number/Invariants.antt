use Rattle.std.proofs.Common.{◌≡◌, ◌≤◌, ◌+◌, ◌*◌, ◌-◌, drop}
use Rattle.std.specs.Prelude.{fold}
use Rattle.cs_syntax.specs.Numbers.{whole_number}
use Rattle.cs_syntax.proofs.written.whole_number.Given as goal

abbrev pub invariant-loop-digit : goal.invariant-loop-digit
invariant-loop-digit l = record {
  small : l.value ≤ 18446744073709551615;
  rest : whole_number l.digits ≡ fold (λ n digit. n * 10 + (digit - 48)) l.value (drop l.digit-index l.digit-items);
}
