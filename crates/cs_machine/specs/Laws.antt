-- The laws of the plain machine: of each line, and of every state that a run reaches.
use Rattle.std.specs.Prelude.{◌≡◌, ◌≤◌, ℕ, ◌+◌, ◌⊎◌, ◌++◌, List, length, filter, Contains, Bool, true, false}
use Rattle.std.specs.List.{AllByRecursion, list_any}
use Rattle.cs_value.specs.Tree.{Tree}
use Rattle.cs_view.specs.Dataset.{is_dataset}
use Rattle.cs_docs.specs.Limits.{most_documents}
use Rattle.cs_docs.specs.References.{clean}
use Rattle.std.specs.Str.{bytes_eq}
use Rattle.cs_reply.specs.Reply.{live, committed}
use Rattle.cs_gen.specs.Summary.{is_refusal}
use Rattle.cs_machine.specs.DataFile.{dataset, loaded}
use Rattle.cs_interest.specs.Limits.{most_subscriptions}
use Rattle.cs_live.specs.Lives.{LiveQuery, value_of, has_live_name}
use Rattle.cs_machine.specs.Machine.{step, state_after, written}
use Rattle.cs_machine.specs.Replies.{Reply, said, not_done}
use Rattle.cs_listen.specs.Listeners.{has_name}
use Rattle.cs_machine.specs.State.{State, begun}

-- a dataset that is clean and within the limit
abbrev pub IsHeld : List Tree → Type 0
IsHeld docs = (is_dataset docs ≡ true) × (clean docs ≡ true) × (length docs ≤ most_documents)

-- the dataset of every data file that loads is one
abbrev pub LoadedDatasetsAreHeld : Type 0
LoadedDatasetsAreHeld =
    (bytes : List ℕ) (docs : List Tree) → loaded bytes ≡ dataset docs → IsHeld docs

-- from such documents every run leads to such documents
abbrev pub RunsHoldDatasets : Type 0
RunsHoldDatasets =
    (docs : List Tree) (n : ℕ) (lines : List (List ℕ))
    → IsHeld docs
    → IsHeld (state_after (begun docs) n lines).docs

-- each live query's last answer is its value over the documents as they are
abbrev pub AnswersAreCurrent : State → Type 0
AnswersAreCurrent s = AllByRecursion (λ e. e.last ≡ value_of s.docs e) s.lives

-- so it is in every state that a run reaches
abbrev pub RunsKeepAnswersCurrent : Type 0
RunsKeepAnswersCurrent =
    (docs : List Tree) (n : ℕ) (lines : List (List ℕ))
    → AnswersAreCurrent (state_after (begun docs) n lines)

-- a live query after a line was there before with the same last answer, or its last answer is told
abbrev pub IsTold : State → List Reply → LiveQuery → Type 0
IsTold s replies e = Contains s.lives e ⊎ Contains replies (said (live e.name e.last))

-- no last answer changes without being told
abbrev pub LastAnswersAreTold : Type 0
LastAnswersAreTold =
    (s : State) (n : ℕ) (line : List ℕ)
    → AllByRecursion (IsTold s (step s n line).replies) (step s n line).state.lives

-- how many live queries and listeners have the name
abbrev pub bearers : List ℕ → State → ℕ
bearers name s =
    length (filter (has_live_name name) s.lives) + length (filter (has_name name) s.listeners)

-- in every state that a run reaches, no name is had twice
abbrev pub RunsNameOnce : Type 0
RunsNameOnce =
    (docs : List Tree) (n : ℕ) (lines : List (List ℕ)) (name : List ℕ)
    → bearers name (state_after (begun docs) n lines) ≤ 1

-- in every state that a run reaches, there are no more live queries or listeners than the limit
abbrev pub RunsStayWithinLimits : Type 0
RunsStayWithinLimits =
    (docs : List Tree) (n : ℕ) (lines : List (List ℕ))
    → (length (state_after (begun docs) n lines).lives ≤ most_subscriptions)
    × (length (state_after (begun docs) n lines).listeners ≤ most_subscriptions)

-- the reply says that its line is refused
abbrev pub refuses : Reply → Bool
refuses (said r) = is_refusal r
refuses (not_done r) = true

-- a line that has such a reply leaves the state as it is
abbrev pub RefusedLinesChangeNothing : Type 0
RefusedLinesChangeNothing =
    (s : State) (n : ℕ) (line : List ℕ)
    → list_any refuses (step s n line).replies ≡ true
    → (step s n line).state ≡ s

-- the reply tells that the transaction of the id was accepted
abbrev pub accepts : List ℕ → Reply → Bool
accepts tx (said (committed id outcomes)) = bytes_eq tx id
accepts tx r = false

-- the id of an accepted transaction was not used before it, and is from then on
abbrev pub IdsAreUsedOnce : Type 0
IdsAreUsedOnce =
    (s : State) (n : ℕ) (line tx : List ℕ)
    → list_any (accepts tx) (step s n line).replies ≡ true
    → (s.is_used tx ≡ false) × ((step s n line).state.is_used tx ≡ true)

-- an id that is used stays so
abbrev pub UsedIdsStayUsed : Type 0
UsedIdsStayUsed =
    (s : State) (n : ℕ) (line id : List ℕ)
    → s.is_used id ≡ true
    → (step s n line).state.is_used id ≡ true

-- lines after others do and write what they do and write from the state that the others lead to
abbrev pub RunsGoOn : Type 0
RunsGoOn =
    (s : State) (n : ℕ) (xs ys : List (List ℕ))
    → (state_after s n (xs ++ ys) ≡ state_after (state_after s n xs) (n + length xs) ys)
    × (written s n (xs ++ ys)
    ≡ written s n xs ++ written (state_after s n xs) (n + length xs) ys)
