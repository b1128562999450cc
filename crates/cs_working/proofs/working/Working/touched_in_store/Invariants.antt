use Rattle.std.proofs.Common.{◌≡◌, ◌+◌, ◌≤◌, length}
use Rattle.cs_docs.specs.Limits.{most_documents}
use Rattle.cs_working.specs.Counted.{standing_among}
use Rattle.cs_working.specs.Working.{base}
use Rattle.cs_working.proofs.working.Working.touched_in_store.Given as goal

abbrev pub invariant-loop-id : goal.invariant-loop-id
invariant-loop-id l =
    record {
      count : l.count + standing_among (base l.self) l.id-iterator ≡ standing_among (base l.self) l.self.touched.keys;
      within : standing_among (base l.self) l.self.touched.keys ≤ length (base l.self);
      few : length (base l.self) ≤ most_documents;
    }
