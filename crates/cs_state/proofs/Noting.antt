-- The ids of accepted transactions, with one more.
use Rattle.std.proofs.Common.{◌≡◌, ℕ, List, Bool, true, cond}
use Rattle.std.specs.Str.{bytes_eq}
use Rattle.cs_machine.specs.State.{and_used}

-- an id more
pub noted : (old new : List ℕ → Bool) (tx : List ℕ)
    → ((id : List ℕ) → new id ≡ cond (bytes_eq tx id) true (old id))
    → new ≡ and_used tx old
noted old new tx h = λ i id. h id i
