use Rattle.std.proofs.Common.{◌≡◌, ℕ, false, cond, drop}
use Rattle.cs_interest.specs.Interest.{has_pair, is_of}
use Rattle.cs_interest.proofs.put.take_all.Given as goal

abbrev pub invariant-loop-code : goal.invariant-loop-code
invariant-loop-code l = (c n : ℕ) → cond (is_of l.number (drop l.code-index l.codes) c n) false (has_pair l.pairs c n) ≡ cond (is_of l.number l.codes c n) false (has_pair l.fn.pairs c n)
