-- Runs lead from held datasets to held datasets, and keep each last answer the value now.
use Rattle.std.proofs.Common.{◌≡◌, List, [], ◌∷◌, refl}
use Rattle.std.specs.List.{AllByRecursion}
use Rattle.cs_value.specs.Tree.{Tree}
use Rattle.cs_txn.specs.Laws.{CommitsKeepDatasets}
use Rattle.cs_machine.specs.Laws.{IsHeld, RunsHoldDatasets, AnswersAreCurrent, RunsKeepAnswersCurrent}
use Rattle.cs_live.specs.Lives.{LiveQuery, value_of, all_refreshed}
use Rattle.cs_machine.specs.State.{State, begun}
use Rattle.cs_machine.proofs.Lived.{each_with, each_without}
use Rattle.cs_machine.proofs.Steps.{Cases, lines-keep}

-- ---- datasets
held_cases : CommitsKeepDatasets → (s : State) → IsHeld s.docs
    → Cases (λ out. IsHeld out.state.docs) s
held_cases law s h = record {
  blank = h;
  refuses = λ r. h;
  refuses_transaction = λ r. h;
  installs = λ txn docs unused e. law txn s.moment s.docs docs h.0 e;
  finds = λ t. h;
  adds_live = λ l free room is. h;
  adds_listener = λ l free room. h;
  stops = λ name. h;
  sets = λ moment. h;
}

pub runs-hold : CommitsKeepDatasets → RunsHoldDatasets
runs-hold law docs n lines h =
    lines-keep (λ s. IsHeld s.docs) (held_cases law) (begun docs) n lines h

-- ---- answers
abbrev Current : List Tree → List LiveQuery → Type 0
Current docs es = AllByRecursion (λ e. e.last ≡ value_of docs e) es

refreshed_current : (docs : List Tree) (es : List LiveQuery) → Current docs (all_refreshed docs es)
refreshed_current docs [] = tt
refreshed_current docs (e ∷ es) = (refl, refreshed_current docs es)

current_cases : (s : State) → AnswersAreCurrent s → Cases (λ out. AnswersAreCurrent out.state) s
current_cases s h = record {
  blank = h;
  refuses = λ r. h;
  refuses_transaction = λ r. h;
  installs = λ txn docs unused e. refreshed_current docs s.lives;
  finds = λ t. h;
  adds_live = λ l free room is. each_with (λ e. e.last ≡ value_of s.docs e) s.lives l h is;
  adds_listener = λ l free room. h;
  stops = λ name. each_without (λ e. e.last ≡ value_of s.docs e) name s.lives h;
  sets = λ moment. h;
}

pub runs-current : RunsKeepAnswersCurrent
runs-current docs n lines = lines-keep AnswersAreCurrent current_cases (begun docs) n lines tt
