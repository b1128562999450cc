use Rattle.std.proofs.Common.{◌≡◌}
use Rattle.cs_working.specs.Working.{base, working}
use Rattle.cs_txn.specs.Mutated.{without_all}
use Rattle.cs_txn.proofs.delete.remove_all.Given as goal

abbrev pub invariant-loop-id : goal.invariant-loop-id
invariant-loop-id l =
    record {
      store : base l.working ≡ base l.fn.working;
      to_come : without_all l.id-iterator (working l.working)
          ≡ without_all l.ids.keys (working l.fn.working);
    }
