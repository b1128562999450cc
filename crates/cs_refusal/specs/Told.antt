-- What is told of a refused transaction.
use Rattle.std.specs.Prelude.{◌≡◌, ⊤, ℕ, List, Option, Some, None, codes}
use Rattle.cs_value.specs.Tree.{Pairs}
use Rattle.cs_value.specs.Pairs.{put}
use Rattle.cs_parse.specs.Verdict.{Reading}
use Rattle.cs_reply.specs.Fields.{pairs_with, number}
use Rattle.cs_reply.specs.View.{Appended}
use Rattle.cs_txn.specs.View.{IsTold}
use Rattle.cs_txn.specs.declared.why.Why.{Why}
use Rattle.cs_txn.specs.declared.why.Why.TheVariants.{NoMemory}
use Rattle.cs_txn.specs.declared.why.Refusal.{Refusal}
use Rattle.cs_machine.specs.Causes.{query_fields, why_none, cause_fields}
use Rattle.cs_machine.specs.Replies.{reply_tree, not_done}

-- the refusal is not for want of memory
abbrev pub HasCause : Why → Type 0
HasCause NoMemory = ⊥
HasCause _ = ⊤

-- the fields are those of a text that is no query
abbrev pub IsOfReading : Pairs → Reading → Type 0
IsOfReading ps reading = ps ≡ pairs_with (query_fields (why_none reading))

-- the fields say the cause, and memory was not wanting
abbrev pub Says : Pairs → Why → Type 0
Says ps why = IsTold (λ c. ps ≡ pairs_with (cause_fields c)) why × HasCause why

-- the index of a mutation beside other fields
abbrev pub with_index : Option ℕ → Pairs → Pairs
with_index None ps = ps
with_index (Some index) ps = put (codes "mutation") (number index) ps

-- the reply to the refusal was written, and memory was not wanting
abbrev pub IsWritten : List ℕ → List ℕ → ℕ → Refusal → Type 0
IsWritten before after n r =
    IsTold (λ c. Appended before after
    (reply_tree n (not_done (record { mutation = r.mutation; cause = c })))) r.why
    × HasCause r.why
