-- What a transaction does to a dataset: Sanity's HTTP documentation, "Mutations", in this project's
-- profile.
use Rattle.std.specs.Prelude.{ℕ, ◌+◌, List, [], ◌∷◌, None, Ok, Err}
use Rattle.cs_value.specs.Tree.{Tree}
use Rattle.cs_docs.specs.Verdict.{Verdict, fits, full, dangles, verdict}
use Rattle.cs_body.specs.Transaction.{Action, Transaction}
use Rattle.cs_txn.specs.Refused.{full_documents, dangling, Outcome}
use Rattle.cs_txn.specs.Mutated.{mutated}

abbrev pub and_then : (List Tree → Outcome) → Outcome → Outcome
and_then f (Ok docs) = f docs
and_then f (Err r) = Err r

-- the mutations one after another, the first of them at an index; the first refusal stands
abbrev pub folded : List ℕ → List ℕ → ℕ → List Action → List Tree → Outcome
folded tx moment index [] docs = Ok docs
folded tx moment index (m ∷ ms) docs =
    and_then (folded tx moment (index + 1) ms) (mutated tx moment index docs m)

-- a dataset that a store can hold, or why it is none
abbrev pub held : List Tree → Verdict → Outcome
held docs fits = Ok docs
held docs full = Err (record { mutation = None; cause = full_documents })
held docs (dangles from to) = Err (record { mutation = None; cause = dangling from to })

-- the dataset after the transaction, or its refusal
abbrev pub commit : Transaction → List ℕ → List Tree → Outcome
commit txn moment docs =
    and_then (λ d. held d (verdict d)) (folded txn.id moment 0 txn.actions docs)
