-- The laws of transactions.
use Rattle.std.specs.Prelude.{◌≡◌, ◌≤◌, ◌⊎◌, ℕ, List, length, true}
use Rattle.std.specs.Option.{IfSome}
use Rattle.std.specs.List.{AllByRecursion}
use Rattle.cs_value.specs.Tree.{Tree, widest, pairs_widest}
use Rattle.cs_patch.specs.Operations.{Insertion}
use Rattle.cs_patch.specs.Patched.{Patch, paths}
use Rattle.cs_body.specs.Body.{transaction, is_tx_id, tx_of_line, body_of}
use Rattle.cs_body.specs.Transaction.{Aim, one, asked, Action, create, replace, if_none, remove, change, Transaction}

-- no text of these has more bytes than n, and what they hold is no wider
abbrev pub AimIsWithin : ℕ → Aim → Type 0
AimIsWithin n (one id) = length id ≤ n
AimIsWithin n (asked query params) = (length query ≤ n) × (pairs_widest params ≤ n)

abbrev pub ValuesAreWithin : ℕ → List (List ℕ × Tree) → Type 0
ValuesAreWithin n es = AllByRecursion (λ e. widest e.1 ≤ n) es

abbrev pub InsertionIsWithin : ℕ → Insertion → Type 0
InsertionIsWithin n i = AllByRecursion (λ t. widest t ≤ n) i.items

abbrev pub PatchIsWithin : ℕ → Patch → Type 0
PatchIsWithin n p =
    AllByRecursion (λ path. length path ≤ n) (paths p)
    × IfSome p.if_revision (λ r. length r ≤ n)
    × ValuesAreWithin n p.set_if_missing
    × ValuesAreWithin n p.set
    × IfSome p.insert (InsertionIsWithin n)

abbrev pub ActionIsWithin : ℕ → Action → Type 0
ActionIsWithin n (create t) = widest t ≤ n
ActionIsWithin n (replace t) = widest t ≤ n
ActionIsWithin n (if_none t) = widest t ≤ n
ActionIsWithin n (remove aim) = AimIsWithin n aim
ActionIsWithin n (change aim p diff) = AimIsWithin n aim × PatchIsWithin n p

-- Law: what a transaction has is no wider than the body that it is, and it has no more mutations
-- than the longest list there has members.
abbrev pub TransactionsAreWithin : Type 0
TransactionsAreWithin =
    (body : Tree) (n : ℕ) (x : Transaction)
    → body_of body n ≡ transaction x
    → (length x.actions ≤ widest body) × AllByRecursion (ActionIsWithin (widest body)) x.actions

-- Law: a transaction has an id that a client may give, or that of its line.
abbrev pub TransactionsHaveIds : Type 0
TransactionsHaveIds =
    (body : Tree) (n : ℕ) (x : Transaction)
    → body_of body n ≡ transaction x
    → (is_tx_id x.id ≡ true) ⊎ (x.id ≡ tx_of_line n)
