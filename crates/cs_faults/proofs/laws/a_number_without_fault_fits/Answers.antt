use Rattle.std.proofs.Common.{refl}
use Rattle.std.specs.Prelude.{codes}
use Rattle.cs_syntax.specs.Faults.{unsupported}
use Rattle.cs_syntax.specs.Numbers.{has_exponent, has_fraction, is_wide, whole_number}
use Rattle.cs_faults.proofs.Written.{is_taken, is_refused, is_within}
use Rattle.cs_faults.proofs.laws.a_number_without_fault_fits.Goals as goal

pub returns-clause-taken : goal.returns-clause-taken
returns-clause-taken c = λ n h. is_taken (unsupported (codes "exponent")) (unsupported (codes "fraction"))
    (unsupported (codes "wide-number")) (whole_number n) (has_exponent n) (has_fraction n) (is_wide n) h

pub returns-clause-refused : goal.returns-clause-refused
returns-clause-refused c = λ n f fs h. is_refused (unsupported (codes "exponent")) (unsupported (codes "fraction"))
    (unsupported (codes "wide-number")) (whole_number n) (has_exponent n) (has_fraction n) (is_wide n) f fs h

pub returns-clause-fits : goal.returns-clause-fits
returns-clause-fits c = λ n. is_within 9223372036854775807 (whole_number n) (has_exponent n) (has_fraction n) (is_wide n) refl
