-- Enough steps give an outcome, and more steps give the same: so `expression_in` finds what
-- tokens spell.
use Rattle.std.proofs.Common.{◌≡◌, ℕ, zero, suc, ◌+◌, ◌*◌, ◌<◌, ◌≤◌, List, [], ◌∷◌, length, refl, arith}
use Rattle.cs_syntax.specs.Expression.{Tok}
use Rattle.cs_grammar.specs.Reading.{Goal, expr, Outcome, out, fail, got, read, Reads}
use Rattle.cs_grammar.proofs.Agreement.{read_spelled, unread, unfinished}
use Rattle.cs_parse.specs.Spelling.{whole, expression_in, IsSpelling}
use Rattle.cs_parse.proofs.Same.{Same, same_fail, same_got}
use Rattle.cs_parse.proofs.Stepped.{rank, Agree, step_agrees}

read_agrees : (n m : ℕ) → n ≤ m → Agree (read n) (read m) n
unfolding read
read_agrees zero m l = record { agree = λ g ts d. absurd (omega arith) }
read_agrees (suc n) zero l = absurd (omega arith)
read_agrees (suc n) (suc m) l = step_agrees (read_agrees n m (omega arith))

ended : {o p : Outcome} {n : ℕ} → Same n o p → p ≡ o
ended same_fail = refl
ended (same_got e r l) = refl

not_out : {o p : Outcome} {n : ℕ} → Same n o p → o ≡ out → ⊥
not_out same_fail h = cc
not_out (same_got e r l) h = cc

-- reading with enough steps is what reading gives
reads_enough : (g : Goal) (ts : List Tok) (n : ℕ) → 9 * length ts + rank g < n →
    Reads g ts (read n g ts)
reads_enough g ts n d =
    record {
      given =
          record { enough = n; from = λ m l. ended ((read_agrees n m l).agree g ts d) };
    }

ends : (g : Goal) (ts : List Tok) (n : ℕ) → 9 * length ts + rank g < n → read n g ts ≡ out → ⊥
ends g ts n d = not_out ((read_agrees n n (omega arith)).agree g ts d)

by_outcome : (ts : List Tok) (o : Outcome) → Reads expr ts o → (o ≡ out → ⊥) →
    IsSpelling ts (whole o)
by_outcome ts out h n = absurd (n refl)
by_outcome ts fail h n = unread h
by_outcome ts (got e []) h n = read_spelled h
by_outcome ts (got e (x ∷ r)) h n = unfinished h

pub is_spelling : (ts : List Tok) → IsSpelling ts (expression_in ts)
unfolding expression_in
is_spelling ts =
    by_outcome ts (read (9 * length ts + 8) expr ts)
    (reads_enough expr ts (9 * length ts + 8) (omega arith))
    (ends expr ts (9 * length ts + 8) (omega arith))
