-- The last step of a path. For private clauses.
use Rattle.std.specs.Prelude.{ℕ, List, [], ◌∷◌, Option, None}
use Rattle.cs_jsonmatch.specs.Path.{Path}
use Rattle.cs_targets.specs.Targets.{plain_name}

-- the name of the last step, where it is a plain one; the path is given from its last step to its
-- first
abbrev pub last_plain : Path → Option (List ℕ)
last_plain [] = None
last_plain (s ∷ ss) = plain_name s
