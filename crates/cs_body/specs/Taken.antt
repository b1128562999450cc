-- What private clauses say of the parts of a body, each of which is taken out of its object.
use Rattle.std.specs.Prelude.{◌≡◌, ⊤, ℕ, List, [], ◌∷◌, false, Option, Some, None, Result, MatchResult, codes}
use Rattle.cs_value.specs.Tree.{Pairs}
use Rattle.cs_value.specs.Pairs.{find}
use Rattle.cs_wire.specs.Commands.{is_among}
use Rattle.cs_body.specs.declared.txn.TxnFault.{TxnFault}
use Rattle.cs_body.specs.declared.txn.TxnFault.TheVariants.{BadCommand, BadTx, NoMemory}

abbrev pub IsPartFault : {A : Type 0} → TxnFault → Option A → Type 0
IsPartFault BadCommand part = part ≡ None
IsPartFault BadTx part = ⊥
IsPartFault NoMemory part = ⊤

-- the result is the part as `view` sees it, or says that there is none
abbrev pub IsPart : {A B : Type 0} → (A → B) → Result A TxnFault → Option B → Type 0
IsPart view result part =
    MatchResult result (λ a. part ≡ Some (view a)) (λ e. IsPartFault e part)

-- under every other key than these the object has what it had
abbrev pub KeepsAllBut : List (List ℕ) → Pairs → Pairs → Type 0
KeepsAllBut ks old new = (k : List ℕ) → is_among k ks ≡ false → find k new ≡ find k old

-- the keys of an aim
abbrev pub aim_keys : List (List ℕ)
aim_keys = codes "id" ∷ codes "query" ∷ codes "params" ∷ []
