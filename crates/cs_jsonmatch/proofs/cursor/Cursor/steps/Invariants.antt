use Rattle.std.proofs.Common.{◌≡◌, length}
use Rattle.cs_jsonmatch.specs.View.{path_of}
use Rattle.cs_jsonmatch.specs.Machine.{start, done}
use Rattle.cs_jsonmatch.specs.Reading.{reading}
use Rattle.cs_jsonmatch.proofs.cursor.Cursor.steps.Given as goal

abbrev pub invariant-loop-alloc : goal.invariant-loop-alloc
invariant-loop-alloc l = reading l.fn.self.rest.now start ≡ reading l.self.rest.now (done (path_of l.steps.items))

abbrev pub decreases-loop-alloc : goal.decreases-loop-alloc
decreases-loop-alloc l = length l.self.rest.now
