use Rattle.std.proofs.Common.{◌≡◌, ℕ, ◌||◌, nat_eq, drop}
use Rattle.std.specs.List.{list_any}
use Rattle.cs_codes.specs.Codes.{is_among}
use Rattle.cs_listen.proofs.postings.put_numbers.Given as goal

abbrev pub invariant-loop-posting : goal.invariant-loop-posting
invariant-loop-posting l = (n : ℕ)
    → (list_any (λ p. nat_eq n p.number) (drop l.posting-index l.postings) || is_among n l.numbers.items)
    ≡ (list_any (λ p. nat_eq n p.number) l.postings || is_among n l.fn.numbers.items)
