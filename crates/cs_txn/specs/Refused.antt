-- Refusals of transactions, as plain data: Sanity's HTTP documentation, "Mutations", in this
-- project's profile.
use Rattle.std.specs.Prelude.{ℕ, List, Option, Result}
use Rattle.cs_value.specs.Tree.{Tree}
use Rattle.cs_parse.specs.Verdict.{Reading}

-- Why a transaction is refused. A text that is no query comes with what it is instead.
pub data Cause : Type 0 where
  bad_document : Cause
  deep_document : Cause
  exists : List ℕ → Cause
  -- a patch in a form that is refused; a text that is no path, with the place of its fault
  diff : Cause
  bad_path : List ℕ → ℕ → Cause
  no_query : Reading → Cause
  not_documents : Cause
  missing : List ℕ → Cause
  -- the document's id, and then what cs_patch says
  revision : List ℕ → List ℕ → List ℕ → Cause
  immutable : List ℕ → List ℕ → Cause
  not_number : List ℕ → List ℕ → Cause
  overflow : List ℕ → List ℕ → Cause
  not_array : List ℕ → List ℕ → Cause
  full_documents : Cause
  dangling : List ℕ → List ℕ → Cause

-- a refusal: the index of the mutation, where it is one's, and the cause
pub record Refused : Type 0 where
  pub mutation : Option ℕ
  pub cause : Cause

-- the dataset after, or the refusal
abbrev pub Outcome : Type 0
Outcome = Result (List Tree) Refused
