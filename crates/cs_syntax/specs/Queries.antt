-- What contracts see of a query: its expression.
use Rattle.cs_syntax.specs.Expression.{Expression}
use Rattle.cs_syntax.specs.View.{expression}
use Rattle.cs_syntax.specs.declared.query.Query.{Query}

abbrev pub expression_of : Query → Expression
expression_of q = expression q.expr
