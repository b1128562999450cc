-- What contracts see of mutations and of a refusal: Sanity's HTTP documentation, "Mutations", in
-- this project's profile.
use Rattle.std.specs.Prelude.{◌≡◌, ⊤, ℕ, List, map, Option, Some, None, Err}
use Rattle.cs_body.specs.Transaction.{Transaction}
use Rattle.cs_body.specs.View.{action}
use Rattle.cs_body.specs.declared.txn.Mutation.{Mutation}
use Rattle.cs_parse.specs.Verdict.{Reading, reading_of}
use Rattle.cs_txn.specs.Refused.{Cause, bad_document, deep_document, exists, diff, bad_path, no_query, not_documents, missing, revision, immutable, not_number, overflow, not_array, full_documents, dangling, Outcome}
use Rattle.cs_txn.specs.declared.why.Why.{Why}
use Rattle.cs_txn.specs.declared.why.Why.TheVariants as why
use Rattle.cs_txn.specs.declared.why.Refusal.{Refusal}

-- the transaction of an id and of mutations
abbrev pub transaction : List ℕ → List Mutation → Transaction
transaction id ms = record { id = id; actions = map action ms }

-- there is a reading, and it is as said
abbrev pub IsReadSo : (Reading → Type 0) → Option Reading → Type 0
IsReadSo P None = ⊥
IsReadSo P (Some r) = P r

-- The cause that is told is as said. Want of memory tells none, and it is never told as the fault
-- of a query.
abbrev pub IsTold : (Cause → Type 0) → Why → Type 0
IsTold P (why.Exists id) = P (exists id)
IsTold P (why.Missing id) = P (missing id)
IsTold P (why.Revision id expected now) = P (revision id expected now)
IsTold P why.BadDocument = P bad_document
IsTold P why.DeepDocument = P deep_document
IsTold P (why.Immutable id name) = P (immutable id name)
IsTold P (why.BadPath path at) = P (bad_path path at)
IsTold P (why.NotNumber id path) = P (not_number id path)
IsTold P (why.Overflow id path) = P (overflow id path)
IsTold P (why.NotArray id path) = P (not_array id path)
IsTold P why.NotDocuments = P not_documents
IsTold P why.Diff = P diff
IsTold P (why.Query fault) = IsReadSo (λ r. P (no_query r)) (reading_of fault)
IsTold P why.FullDocuments = P full_documents
IsTold P (why.Dangling from to) = P (dangling from to)
IsTold P why.NoMemory = ⊤

-- the outcome is this refusal
abbrev pub IsRefusal : Refusal → Outcome → Type 0
IsRefusal r o = IsTold (λ cause. o ≡ Err (record { mutation = r.mutation; cause = cause })) r.why
