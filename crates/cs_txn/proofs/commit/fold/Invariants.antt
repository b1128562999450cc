use Rattle.std.proofs.Common.{◌≡◌, ◌+◌, ◌≤◌, length, map, true}
use Rattle.std.specs.Vec.Iter.{into_iter_items}
use Rattle.cs_body.specs.View.{action}
use Rattle.cs_working.specs.Working.{base, working}
use Rattle.cs_txn.specs.Commit.{folded}
use Rattle.cs_txn.specs.Visits.{are_simple, costs}
use Rattle.cs_txn.specs.Within.{AreShort}
use Rattle.cs_txn.proofs.commit.fold.Given as goal

abbrev pub invariant-loop-mutation : goal.invariant-loop-mutation
invariant-loop-mutation g l =
    let left = map action (into_iter_items l.mutation-iterator) in
    let all = map action l.fn.mutations.items in
    record {
      at : l.index + length (into_iter_items l.mutation-iterator) ≡ length l.fn.mutations.items;
      store : base l.working ≡ base l.fn.working;
      short : AreShort left;
      to_come : folded l.tx l.moment l.index left (working l.working)
          ≡ folded l.tx l.moment 0 all (working l.fn.working);
      simple : are_simple all ≡ true → are_simple left ≡ true;
      visits : are_simple all ≡ true
          → l.steps + costs l.tx l.moment l.index left (working l.working)
          ≤ l.fn.steps + costs l.tx l.moment 0 all (working l.fn.working);
    }
