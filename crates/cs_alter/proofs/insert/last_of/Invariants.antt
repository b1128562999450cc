use Rattle.std.proofs.Common.{◌≡◌, drop}
use Rattle.cs_alter.specs.Inserted.{last}
use Rattle.cs_alter.proofs.insert.last_of.Given as goal

abbrev pub invariant-loop-position : goal.invariant-loop-position
invariant-loop-position l = last l.found (drop l.position-index l.more) ≡ last l.first l.more
