use Rattle.std.proofs.Common.{◌≡◌, take}
use Rattle.cs_hits.specs.Looked.{marks}
use Rattle.cs_hits.proofs.looked.marks_of.Given as goal

abbrev pub invariant-loop-change : goal.invariant-loop-change
invariant-loop-change l = l.found.items ≡ marks (take l.change-index l.changes)
