-- One mutation more of a transaction: where it leads, and what it costs.
use Rattle.std.proofs.Common.{◌≡◌, ℕ, ◌+◌, ◌≤◌, List, ◌∷◌, Ok, sym, ap, ◌∙◌, arith}
use Rattle.cs_value.specs.Tree.{Tree}
use Rattle.cs_body.specs.Transaction.{Action}
use Rattle.cs_txn.specs.Refused.{Outcome}
use Rattle.cs_txn.specs.Mutated.{Attempt, done, at_index}
use Rattle.cs_txn.specs.Commit.{and_then, folded}
use Rattle.cs_txn.specs.Visits.{action_cost, if_accepted, costs}

module _ (tx moment : List ℕ) (index : ℕ) (docs : List Tree) (m : Action) (ms : List Action) where
  -- the mutations after it go on from where it leads
  pub one_more_folded : (now : List Tree) (all : Outcome) → done tx moment index docs m ≡ Ok now
      → folded tx moment index (m ∷ ms) docs ≡ all → folded tx moment (index + 1) ms now ≡ all
  one_more_folded now all e is =
      sym (ap (λ (a : Attempt). and_then (folded tx moment (index + 1) ms) (at_index index a)) e)
      ∙ is

  -- what it may cost is left for those after it
  pub one_more_cost : (now : List Tree) (was is bound : ℕ) → done tx moment index docs m ≡ Ok now
      → is ≤ was + action_cost docs m → was + costs tx moment index (m ∷ ms) docs ≤ bound
      → is + costs tx moment (index + 1) ms now ≤ bound
  one_more_cost now was is bound e here all =
      let rest = ap (λ (a : Attempt). if_accepted (costs tx moment (index + 1) ms)
      (at_index index a)) e in
      omega (arith, rest)

  -- where it is refused, nothing more is visited
  pub last_cost : (was is bound : ℕ) → is ≤ was + action_cost docs m
      → was + costs tx moment index (m ∷ ms) docs ≤ bound → is ≤ bound
  last_cost was is bound here all = omega arith
