-- Each text has one reading, its verdict.
use Rattle.std.proofs.Common.{◌≡◌, ◌↔◌, ℕ, List, ◌-◌, length, refl, ap, subst, arith}
use Rattle.cs_jsonmatch.specs.Path.{Path}
use Rattle.cs_jsonmatch.specs.Grammar.{IsLongest}
use Rattle.cs_jsonmatch.specs.Machine.{start}
use Rattle.cs_jsonmatch.specs.Reading.{Reading, spelled as whole, cut, reading}
use Rattle.cs_jsonmatch.specs.Verdict.{PathReading, spelled, bad_path, IsPathRead, by_bytes, path_verdict}
use Rattle.cs_jsonmatch.proofs.Fault.{exact_path, exact_fault, one_path}

by_reading : (t : List ℕ) (r : Reading) → reading t start ≡ r → IsPathRead t (by_bytes t r)
by_reading t (whole p) e = exact_path t p e
by_reading t (cut rest) e = exact_fault t rest e

pub is_read : (t : List ℕ) → IsPathRead t (path_verdict t)
unfolding path_verdict
is_read t = by_reading t (reading t start) refl

one_longest : (t : List ℕ) (n m : ℕ) → IsLongest t n → IsLongest t m → n ≡ m
one_longest t n m a b =
    let l = a.longest m b.within b.begun in
    let k = b.longest n a.within a.begun in
    omega arith

one_reading : (t : List ℕ) (r s : PathReading) → IsPathRead t r → IsPathRead t s → r ≡ s
one_reading t (spelled p) (spelled q) a b = ap spelled (one_path t p q a b)
one_reading t (spelled p) (bad_path m) a b = absurd (b.0 p a)
one_reading t (bad_path n) (spelled q) a b = absurd (a.0 q b)
one_reading t (bad_path n) (bad_path m) a b = ap bad_path (one_longest t n m a.1 b.1)

pub is_verdict : (t : List ℕ) (r : PathReading) → IsPathRead t r ↔ (path_verdict t ≡ r)
is_verdict t r = (λ h. one_reading t (path_verdict t) r (is_read t) h, λ e. subst (IsPathRead t) e (is_read t))

-- what the bytes come to is the verdict
pub path_told : (t : List ℕ) (p : Path) → reading t start ≡ whole p → path_verdict t ≡ spelled p
unfolding path_verdict
path_told t p e = ap (by_bytes t) e

pub fault_told : (t rest : List ℕ) → reading t start ≡ cut rest → path_verdict t ≡ bad_path (length t - length rest)
unfolding path_verdict
fault_told t rest e = ap (by_bytes t) e
