use Rattle.std.proofs.Common.{◌++◌, List}
use Rattle.cs_view.specs.Changes.{Edit}
use Rattle.cs_view.specs.View.{edits}
use Rattle.cs_shelf.specs.View.{documents}
use Rattle.cs_working.specs.Working.{base}
use Rattle.cs_working.proofs.Keeping.{Kept}
use Rattle.cs_working.proofs.working.Working.changes.Given as goal

abbrev pub invariant-loop-id : goal.invariant-loop-id
invariant-loop-id l =
    (more : List Edit) → Kept (base l.self) (documents l.self.put) l.id-iterator more → Kept (base l.self) (documents l.self.put) l.self.touched.keys (edits l.changes.items ++ more)
