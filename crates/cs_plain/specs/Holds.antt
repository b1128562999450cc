-- Whether a filter is true of a document: GROQ-1.revision1, "Filter", as a listener watches it.
use Rattle.std.specs.Prelude.{[], ◌∷◌, Bool}
use Rattle.cs_value.specs.Tree.{Tree, null, Pairs}
use Rattle.cs_syntax.specs.Expression.{Expression}
use Rattle.cs_meaning.specs.Operators.{is_true}
use Rattle.cs_meaning.specs.Values.{value}

-- The filter is true of a document, which stands in a scope of its own in front of null. No other
-- document is asked.
abbrev pub holds : Expression → Pairs → Tree → Bool
holds filter params d = is_true (value [] params filter (d ∷ null ∷ []))
