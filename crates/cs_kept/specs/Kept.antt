-- What contracts see of a last answer that is kept.
use Rattle.cs_value.specs.Tree.{Tree, Pairs}
use Rattle.cs_value.specs.View.{tree, fields}
use Rattle.cs_syntax.specs.Expression.{Expression}
use Rattle.cs_syntax.specs.Queries.{expression_of}
use Rattle.cs_kept.specs.declared.kept.Kept.{Kept}
use Rattle.cs_kept.specs.declared.kept.Kept.TheVariants.{ByRecord, InRows, InShares}

abbrev pub kept_expression : Kept → Expression
kept_expression (ByRecord r) = expression_of r.query
kept_expression (InRows r) = expression_of r.query
kept_expression (InShares m) = expression_of m.query

abbrev pub params_of : Kept → Pairs
params_of (ByRecord r) = fields r.params
params_of (InRows r) = fields r.params
params_of (InShares m) = fields m.params

abbrev pub last_of : Kept → Tree
last_of (ByRecord r) = tree r.last
last_of (InRows r) = tree r.answer
last_of (InShares m) = tree m.last
