-- What the reply to a refused transaction says, cause by cause: Sanity's HTTP documentation,
-- "Mutations", in this project's profile.
use Rattle.std.specs.Prelude.{ℕ, List, [], ◌∷◌, ◌++◌, Option, Some, None, option_map, codes}
use Rattle.cs_value.specs.Tree.{text}
use Rattle.cs_syntax.specs.Faults as fault
use Rattle.cs_parse.specs.Verdict.{Reading, query, bad_token, too_deep, no_syntax, faulty}
use Rattle.cs_reply.specs.Fields.{Fields, number}
use Rattle.cs_reply.specs.Refusal as why
use Rattle.cs_reply.specs.Reply.{refused, fields_of, where_there}
use Rattle.cs_docs.specs.Limits.{most_documents}
use Rattle.cs_txn.specs.Refused.{Cause, bad_document, deep_document, exists, diff, bad_path, no_query, not_documents, missing, revision, immutable, not_number, overflow, not_array, full_documents, dangling, Refused}

-- ---- texts that are no query
abbrev pub of_fault : fault.Fault → why.Refusal
of_fault (fault.unsupported name) = why.unsupported name
of_fault (fault.unknown_function name) = why.unknown_function name
of_fault (fault.arity name) = why.arity name
of_fault fault.no_key = why.no_key

-- why a text is no query, where it is none
abbrev pub why_none : Reading → Option why.Refusal
why_none (query e) = None
why_none (bad_token at) = Some (why.bad_token at)
why_none too_deep = Some why.deep_query
why_none no_syntax = Some why.syntax
why_none (faulty f) = Some (of_fault f)

-- a text in a mutation is refused with the fields that it is refused with on its own
abbrev pub query_fields : Option why.Refusal → Fields
query_fields None = []
query_fields (Some r) = fields_of (refused r)

-- ---- causes
-- the word that says why, and the fields beside it
abbrev pub error : List ℕ → Fields → Fields
error word details = (codes "error", text word) ∷ details

abbrev pub of_document : List ℕ → Fields
of_document id = (codes "id", text id) ∷ []

-- the document, and the path at which it can't be patched
abbrev pub of_path : List ℕ → List ℕ → Fields
of_path id path = (codes "id", text id) ∷ (codes "path", text path) ∷ []

abbrev pub cause_fields : Cause → Fields
cause_fields bad_document = error (codes "bad-document") []
cause_fields deep_document = error (codes "deep-document") []
cause_fields (exists id) = error (codes "exists") (of_document id)
cause_fields diff =
    error (codes "unsupported") ((codes "name", text (codes "diffMatchPatch")) ∷ [])
cause_fields (bad_path path at) =
    error (codes "bad-path") ((codes "at", number at) ∷ (codes "path", text path) ∷ [])
cause_fields (no_query reading) = query_fields (why_none reading)
cause_fields not_documents = error (codes "not-documents") []
cause_fields (missing id) = error (codes "missing") (of_document id)
cause_fields (revision id expected found) =
    error (codes "revision")
    ((codes "expected", text expected) ∷ (codes "found", text found) ∷ of_document id)
cause_fields (immutable id name) =
    error (codes "immutable") ((codes "name", text name) ∷ of_document id)
cause_fields (not_number id path) = error (codes "not-number") (of_path id path)
cause_fields (overflow id path) = error (codes "overflow") (of_path id path)
cause_fields (not_array id path) = error (codes "not-array") (of_path id path)
cause_fields full_documents =
    error (codes "full-documents") ((codes "limit", number most_documents) ∷ [])
cause_fields (dangling from to) =
    error (codes "dangling") ((codes "from", text from) ∷ (codes "to", text to) ∷ [])

-- the cause, with the index of the mutation where it is one's
abbrev pub refused_fields : Refused → Fields
refused_fields r =
    where_there (codes "mutation") (option_map number r.mutation) ++ cause_fields r.cause
