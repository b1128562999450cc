use Rattle.std.proofs.Common.{◌≡◌, drop}
use Rattle.cs_io.specs.Held.{found}
use Rattle.cs_io.proofs.held.find.Given as goal

abbrev pub invariant-loop-file : goal.invariant-loop-file
invariant-loop-file l = found l.name l.files ≡ found l.name (drop l.file-index l.files)
