use Rattle.std.proofs.Common.{◌≡◌, ℕ, ◌||◌, drop}
use Rattle.std.specs.List.{list_any}
use Rattle.cs_listen.specs.Posted.{is_posted}
use Rattle.cs_codes.specs.Codes.{is_among}
use Rattle.cs_listen.proofs.postings.put_under_all.Given as goal

abbrev pub invariant-loop-code : goal.invariant-loop-code
invariant-loop-code l = (n : ℕ)
    → (list_any (λ c. is_posted c n l.postings) (drop l.code-index l.code-items) || is_among n l.numbers.items)
    ≡ (list_any (λ c. is_posted c n l.postings) l.code-items || is_among n l.fn.numbers.items)
