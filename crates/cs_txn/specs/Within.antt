-- What is asked of a transaction that is prepared: this project's limits.
use Rattle.std.specs.Prelude.{◌<◌, ◌^◌, ⊤, length, List}
use Rattle.std.specs.List.{AllByRecursion}
use Rattle.cs_patch.specs.Readings.{ArePathsShort}
use Rattle.cs_body.specs.Transaction.{Aim, one, asked, Action, create, replace, if_none, remove, change}

-- the text of its query, where it has one, has fewer than 2^32 bytes
abbrev pub IsShortAim : Aim → Type 0
IsShortAim (one id) = ⊤
IsShortAim (asked s params) = length s < 2 ^ 32

-- and so has each path of a patch
abbrev pub IsShort : Action → Type 0
IsShort (create t) = ⊤
IsShort (replace t) = ⊤
IsShort (if_none t) = ⊤
IsShort (remove aim) = IsShortAim aim
IsShort (change aim p has_diff) = IsShortAim aim × ArePathsShort p

abbrev pub AreShort : List Action → Type 0
AreShort actions = AllByRecursion IsShort actions
