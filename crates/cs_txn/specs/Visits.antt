-- How many documents the queries of a transaction visit at most, where each is refused or simple:
-- this project's profile.
use Rattle.std.specs.Prelude.{ℕ, ◌+◌, List, [], ◌∷◌, Bool, true, cond, Ok, Err}
use Rattle.std.specs.List.{list_all}
use Rattle.cs_value.specs.Tree.{Tree, Pairs}
use Rattle.cs_parse.specs.Verdict.{Reading, query, verdict}
use Rattle.cs_plan.specs.Simple.{is_simple}
use Rattle.cs_meaning.specs.Hits.{cost}
use Rattle.cs_patch.specs.Patched.{Patch, paths, first_fault}
use Rattle.cs_targets.specs.Targets.{if_some}
use Rattle.cs_body.specs.Transaction.{Aim, one, asked, Action, create, replace, if_none, remove, change}
use Rattle.cs_txn.specs.Refused.{Outcome}
use Rattle.cs_txn.specs.Mutated.{mutated}

-- the text is refused, or its query is simple
abbrev pub is_simple_reading : Reading → Bool
is_simple_reading (query e) = is_simple e
is_simple_reading reading = true

abbrev pub is_simple_aim : Aim → Bool
is_simple_aim (one id) = true
is_simple_aim (asked s params) = is_simple_reading (verdict s)

abbrev pub is_simple_action : Action → Bool
is_simple_action (create t) = true
is_simple_action (replace t) = true
is_simple_action (if_none t) = true
is_simple_action (remove aim) = is_simple_aim aim
is_simple_action (change aim p has_diff) = is_simple_aim aim

-- each query of the actions is refused or simple
abbrev pub are_simple : List Action → Bool
are_simple actions = list_all is_simple_action actions

-- the cost of a simple query over a dataset
abbrev pub reading_cost : List Tree → Pairs → Reading → ℕ
reading_cost docs params (query e) = cost e params docs
reading_cost docs params reading = 0

abbrev pub aim_cost : List Tree → Aim → ℕ
aim_cost docs (one id) = 0
aim_cost docs (asked s params) = reading_cost docs params (verdict s)

-- a patch in a form that is refused asks for no document
abbrev pub patch_cost : List Tree → Aim → Patch → Bool → ℕ
patch_cost docs aim p has_diff =
    cond has_diff 0 (if_some (λ r. 0) (aim_cost docs aim) (first_fault (paths p)))

abbrev pub action_cost : List Tree → Action → ℕ
action_cost docs (create t) = 0
action_cost docs (replace t) = 0
action_cost docs (if_none t) = 0
action_cost docs (remove aim) = aim_cost docs aim
action_cost docs (change aim p has_diff) = patch_cost docs aim p has_diff

-- nothing is added after a refusal
abbrev pub if_accepted : (List Tree → ℕ) → Outcome → ℕ
if_accepted f (Ok docs) = f docs
if_accepted f (Err r) = 0

-- the costs of mutations one after another, each over the dataset that those before it leave
abbrev pub costs : List ℕ → List ℕ → ℕ → List Action → List Tree → ℕ
costs tx moment index [] docs = 0
costs tx moment index (m ∷ ms) docs =
    action_cost docs m
    + if_accepted (costs tx moment (index + 1) ms) (mutated tx moment index docs m)
