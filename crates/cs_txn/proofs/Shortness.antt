-- Mutations whose texts are within a length are short.
use Rattle.std.proofs.Common.{ℕ, ◌<◌, ◌≤◌, ◌^◌, List, [], ◌∷◌, length, arith}
use Rattle.std.specs.List.{AllByRecursion}
use Rattle.cs_patch.specs.Patched.{paths}
use Rattle.cs_body.specs.Laws.{AimIsWithin, ActionIsWithin}
use Rattle.cs_body.specs.Transaction.{Aim, one, asked, Action, create, replace, if_none, remove, change}
use Rattle.cs_txn.specs.Within.{IsShortAim, IsShort, AreShort}

aim_is_short : (n : ℕ) (aim : Aim) → n < 2 ^ 32 → AimIsWithin n aim → IsShortAim aim
aim_is_short n (one id) low h = tt
aim_is_short n (asked s params) low h = omega (arith, h.0)

texts_are_short : (n : ℕ) (texts : List (List ℕ)) → n < 2 ^ 32
    → AllByRecursion (λ s. length s ≤ n) texts → AllByRecursion (λ s. length s < 2 ^ 32) texts
texts_are_short n [] low h = tt
texts_are_short n (s ∷ texts) low h =
    (omega (arith, low, h.0), texts_are_short n texts low h.1)

is_short : (n : ℕ) (a : Action) → n < 2 ^ 32 → ActionIsWithin n a → IsShort a
is_short n (create t) low h = tt
is_short n (replace t) low h = tt
is_short n (if_none t) low h = tt
is_short n (remove aim) low h = aim_is_short n aim low h
is_short n (change aim p has_diff) low h =
    (aim_is_short n aim low h.0, texts_are_short n (paths p) low h.1.0)

pub are_short : (n : ℕ) (actions : List Action) → n < 2 ^ 32
    → AllByRecursion (ActionIsWithin n) actions → AreShort actions
are_short n [] low h = tt
are_short n (a ∷ actions) low h = (is_short n a low h.0, are_short n actions low h.1)
