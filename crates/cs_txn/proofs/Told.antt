-- What a body comes to, and values in few words, for the examples.
use Rattle.std.proofs.Common.{ℕ, suc, zero, pos, List, [], ◌∷◌, Option, Ok, Err, codes}
use Rattle.cs_value.specs.Tree.{Tree, integer, list, object, trees, pairs}
use Rattle.cs_body.specs.Body.{Body, no_command, bad_id, transaction, body_of}
use Rattle.cs_txn.specs.Commit.{commit}
use Rattle.cs_txn.specs.Refused.{Cause, Outcome}

abbrev pub whole : ℕ → Tree
whole n = integer (pos n)

abbrev pub items : List Tree → Tree
items ts = list (trees ts)

abbrev pub obj : List (List ℕ × Tree) → Tree
obj es = object (pairs es)

-- the value inside so many lists
abbrev pub nested : ℕ → Tree → Tree
nested zero t = t
nested (suc n) t = items (nested n t ∷ [])

abbrev pub moment : List ℕ
moment = codes "1970-01-01T00:00:00Z"

-- what a body comes to
pub data Told : Type 0 where
  nothing : Told
  no_form : Told
  commits : List Tree → Told
  refuses : Option ℕ → Cause → Told

abbrev pub of_outcome : Outcome → Told
of_outcome (Ok docs) = commits docs
of_outcome (Err r) = refuses r.mutation r.cause

abbrev pub of_body : List Tree → Body → Told
of_body docs no_command = nothing
of_body docs bad_id = no_form
of_body docs (transaction t) = of_outcome (commit t moment docs)

abbrev pub told : List Tree → ℕ → Tree → Told
told docs n body = of_body docs (body_of body n)
