-- What a text is as a path. Each text has one reading: `IsPathRead` says which by the grammar, and
-- `path_verdict` computes it.
use Rattle.std.specs.Prelude.{ℕ, ◌-◌, List, length, Option, Some, None, Result, Ok, Err}
use Rattle.cs_jsonmatch.specs.Path.{Path}
use Rattle.cs_jsonmatch.specs.Grammar.{IsPath, IsFault}
use Rattle.cs_jsonmatch.specs.Machine.{start}
use Rattle.cs_jsonmatch.specs.Reading.{Reading, spelled as whole, cut, reading as rest_reading}
use Rattle.cs_jsonmatch.specs.View.{path}
use Rattle.cs_jsonmatch.specs.declared.path.JsonPath.{JsonPath}
use Rattle.cs_jsonmatch.specs.declared.read.PathFault.{PathFault}
use Rattle.cs_jsonmatch.specs.declared.read.PathFault.TheVariants.{BadPath, NoMemory}

-- the path that a text is, or the place behind its longest prefix that some path has too
pub data PathReading : Type 0 where
  spelled : Path → PathReading
  bad_path : ℕ → PathReading

-- the text is read so
abbrev pub IsPathRead : List ℕ → PathReading → Type 0
IsPathRead text (spelled p) = IsPath text p
IsPathRead text (bad_path at) = IsFault text at

-- the reading of a text, by what reading its bytes comes to
abbrev pub by_bytes : List ℕ → Reading → PathReading
by_bytes text (whole p) = spelled p
by_bytes text (cut rest) = bad_path (length text - length rest)

-- what the text is
unfoldable pub path_verdict : List ℕ → PathReading
path_verdict text = by_bytes text (rest_reading text start)

-- the reading that an answer tells: none where memory was wanted
abbrev pub reading : Result JsonPath PathFault → Option PathReading
reading (Ok p) = Some (spelled (path p))
reading (Err (BadPath at)) = Some (bad_path at)
reading (Err NoMemory) = None
