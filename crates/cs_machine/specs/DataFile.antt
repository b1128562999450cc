-- The dataset of a data file, or the first cause for which it has none: this project's profile.
use Rattle.std.specs.Prelude.{ℕ, List, [], length, cond, ◌==◌, Option, None, Some, codes}
use Rattle.cs_value.specs.Tree.{Tree}
use Rattle.cs_io.specs.Lines.{Feed, End, LineTooLong, SourceTooMuch, More, feed_of}
use Rattle.cs_json.specs.Reading.{Outcome, not_json, too_deep, not_whole, value, outcome}
use Rattle.cs_view.specs.Document.{is_body, has_text, id_of, deepest_document}
use Rattle.cs_view.specs.Dataset.{stands, with_doc}
use Rattle.cs_docs.specs.Limits.{most_documents}
use Rattle.cs_docs.specs.References.{first_dangling}
use Rattle.cs_txn.specs.Install.{with_text}
use Rattle.cs_reply.specs.Stated.{Cause, no_json, deep, fraction, no_document, repeated, full, Stop, long_line, much, bad, dangling, data_file}
use Rattle.cs_wire.specs.Blank.{is_blank_line}
use Rattle.cs_machine.specs.State.{first_moment}

-- an attribute that is no text becomes this one
abbrev pub with_default : List ℕ → List ℕ → Tree → Tree
with_default name s t = cond (has_text name t) t (with_text name s t)

-- the document that a body of a data file is: its texts for the revision and the two moments are
-- kept
abbrev pub imported : Tree → Tree
imported t =
    with_default (codes "_rev") (codes "import")
    (with_default (codes "_createdAt") first_moment
    (with_default (codes "_updatedAt") first_moment t))

-- what a line of a data file says: nothing, a document, or why it is refused
pub data Said : Type 0 where
  nothing : Said
  a_document : Tree → Said
  refused : Cause → Said

abbrev pub of_body : List Tree → Tree → Said
of_body docs t =
    cond (is_body t)
    (cond (stands (id_of t) docs) (refused (repeated (id_of t)))
    (cond (length docs == most_documents) (refused full) (a_document (imported t))))
    (refused no_document)

abbrev pub of_outcome : List Tree → Outcome → Said
of_outcome docs not_json = refused no_json
of_outcome docs too_deep = refused deep
of_outcome docs not_whole = refused fraction
of_outcome docs (value t) = of_body docs t

-- the line, after these documents
unfoldable pub said : List Tree → List ℕ → Said
said docs line = cond (is_blank_line line) nothing (of_outcome docs (outcome deepest_document line))

-- how the reading of a data file ends: with a dataset, or it is stopped
pub data Loaded : Type 0 where
  dataset : List Tree → Loaded
  stopped : Stop → Loaded

abbrev pub of_references : List Tree → Option (List ℕ × List ℕ) → Loaded
of_references docs None = dataset docs
of_references docs (Some pair) = stopped (dangling pair.0 pair.1)

-- the reading goes on with the documents so far and one line more
abbrev pub after_said : Said → (List Tree → Loaded) → List Tree → ℕ → Loaded
after_said nothing next docs n = next docs
after_said (a_document d) next docs n = next (with_doc d docs)
after_said (refused cause) next docs n = stopped (bad n cause)

-- what the documents so far and the lines to come make
abbrev pub loaded_from : Feed → List Tree → Loaded
loaded_from End docs = of_references docs (first_dangling docs)
loaded_from (LineTooLong n) docs = stopped (long_line data_file n)
loaded_from (SourceTooMuch n) docs = stopped (much data_file n)
loaded_from (More n line rest) docs = after_said (said docs line) (loaded_from rest) docs n

-- the outcome of a data file's bytes
abbrev pub loaded : List ℕ → Loaded
loaded bytes = loaded_from (feed_of bytes) []
