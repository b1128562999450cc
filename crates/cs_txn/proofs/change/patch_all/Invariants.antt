use Rattle.std.proofs.Common.{◌≡◌}
use Rattle.cs_patch.specs.Read.{read_patch}
use Rattle.cs_working.specs.Working.{base, working}
use Rattle.cs_txn.specs.Mutated.{patched_all}
use Rattle.cs_txn.proofs.change.patch_all.Given as goal

abbrev pub invariant-loop-id : goal.invariant-loop-id
invariant-loop-id l =
    record {
      store : base l.working ≡ base l.fn.working;
      to_come : patched_all (read_patch l.patch) l.tx l.moment l.id-iterator (working l.working)
          ≡ patched_all (read_patch l.patch) l.tx l.moment l.ids.keys (working l.fn.working);
    }
