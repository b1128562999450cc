-- What contracts see of an answer that is kept in rows: the documents behind it, and what the tail
-- makes of them. This project's profile.
use Rattle.std.specs.Prelude.{◌≡◌, List, Bool}
use Rattle.cs_value.specs.Tree.{Tree}
use Rattle.cs_value.specs.View.{tree, fields}
use Rattle.cs_syntax.specs.Queries.{expression_of}
use Rattle.cs_meaning.specs.Hits.{is_hit, tail}
use Rattle.cs_hits.specs.Hits.{AreEnough, AreNear, docs_of}
use Rattle.cs_kept.specs.declared.rows.Rows.{Rows}

-- the documents, in their order
abbrev pub rows : Rows → List Tree
rows r = docs_of r.hits

-- the filter of its query
abbrev pub is_row : Rows → Tree → Bool
is_row r = is_hit (expression_of r.query) (fields r.params)

-- its answer is what the tail of its query makes of its rows, and so it is of those near its window
pub record IsSettled (r : Rows) : Type 0 where
  pub answered : tree r.answer ≡ tail (expression_of r.query) (fields r.params) (rows r)
  pub near : AreNear (expression_of r.query) (fields r.params) r.hits
  pub enough : AreEnough (expression_of r.query) (fields r.params) r.hits

-- what is asked is as it was, and so are the codes by which changes find it
pub record AsksTheSame (old new : Rows) : Type 0 where
  pub query : expression_of new.query ≡ expression_of old.query
  pub params : fields new.params ≡ fields old.params
  pub codes : new.codes ≡ old.codes
