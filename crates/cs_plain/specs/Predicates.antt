-- What contracts see of a plain predicate: its filter.
use Rattle.std.specs.Prelude.{unwrap_or}
use Rattle.cs_syntax.specs.Expression.{Expression, null_literal}
use Rattle.cs_syntax.specs.Queries.{expression_of}
use Rattle.cs_plain.specs.Plain.{listened_filter}
use Rattle.cs_plain.specs.declared.predicate.Plain.{Plain}

abbrev pub filter : Plain → Expression
filter p = unwrap_or (listened_filter (expression_of p.query)) null_literal

-- the query that it came from
abbrev pub own_query : Plain → Expression
own_query p = expression_of p.query
