-- What is kept of the queries that were read: this project's profile.
use Rattle.std.specs.Prelude.{◌≡◌, List, All, String, string_bytes}
use Rattle.std.specs.declared.alloc.Global.{Global}
use Rattle.cs_syntax.specs.declared.query.Query.{Query}
use Rattle.cs_syntax.specs.Queries.{expression_of}
use Rattle.cs_parse.specs.Verdict.{query, verdict}

-- the query is what the text is read as
abbrev pub IsReadOf : String Global × Query → Type 0
IsReadOf e = verdict (string_bytes e.0) ≡ query (expression_of e.1)

-- each query is what its text is read as
abbrev pub AreRead : List (String Global × Query) → Type 0
AreRead kept = All IsReadOf kept
