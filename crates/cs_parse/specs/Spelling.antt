-- The expression that tokens spell as a function: what the grammar's reading from the left gives,
-- in as many steps as it can take.
use Rattle.std.specs.Prelude.{◌+◌, ◌*◌, List, [], ◌∷◌, length, Option, Some, None}
use Rattle.cs_syntax.specs.Expression.{Tok, Expression}
use Rattle.cs_grammar.specs.Reading.{expr, Outcome, out, fail, got, read}
use Rattle.cs_grammar.specs.Spells.{Spells}

-- the expression that an outcome has read to the end of the tokens
abbrev pub whole : Outcome → Option Expression
whole out = None
whole fail = None
whole (got e []) = Some e
whole (got e (t ∷ ts)) = None

-- the expression that the tokens spell, or none: at most nine steps nest between one token and
-- the next
unfoldable pub expression_in : List Tok → Option Expression
expression_in ts = whole (read (9 * length ts + 8) expr ts)

-- the tokens spell this expression, or none
abbrev pub IsSpelling : List Tok → Option Expression → Type 0
IsSpelling ts (Some e) = Spells ts e
IsSpelling ts None = (e : Expression) → ¬ (Spells ts e)
