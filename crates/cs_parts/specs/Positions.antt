-- The element at a place that was found.
use Rattle.std.specs.Prelude.{ℕ, List, Option, Some, None, unwrap_or, slice_get}
use Rattle.cs_value.specs.Tree.{Tree, null}

-- null where no place was found
abbrev pub element_in : List Tree → Option ℕ → Tree
element_in ts None = null
element_in ts (Some i) = unwrap_or (slice_get ts i) null
