-- Hints at the places of ids: this project's profile. For each id there is one slot, which it may
-- share with others. For private clauses.
use Rattle.std.specs.Prelude.{◌≡◌, ◌%◌, ℕ, List, length, get_or, Some, Bool, false, cond}
use Rattle.std.specs.Bool.{nat_eq}
use Rattle.std.specs.BTreeMap.{get}
use Rattle.std.specs.List.{fold}
use Rattle.std.specs.Hash.{str}
use Rattle.std.specs.Hash.FoldHasher.{initial, write, finish}
use Rattle.cs_view.specs.Dataset.{id_cmp}
use Rattle.cs_shelf.specs.Places.{Order}

-- the hash of an id
abbrev pub hash_of : List ℕ → ℕ
hash_of id = finish (fold write initial (str id))

-- one of so many slots
abbrev pub slot_at : ℕ → List ℕ → ℕ
slot_at count id = hash_of id % count

-- no place is this number: a slot with it was never noted
abbrev pub blank : ℕ
blank = 4294967295

-- the slot of the id was never noted
abbrev pub is_blank : List ℕ → List ℕ → Bool
is_blank slots id =
    cond (nat_eq (length slots) 0) false
    (nat_eq (get_or slots (slot_at (length slots) id) 0) blank)

-- the slot of each id that has a place was noted
abbrev pub AreHinted : Order → List ℕ → Type 0
AreHinted order slots = (x : List ℕ) (p : ℕ) → get id_cmp order x ≡ Some p
    → is_blank slots x ≡ false
