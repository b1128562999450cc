-- What a line that was answered does, and how it leaves the state.
use Rattle.std.proofs.Common.{◌≡◌, sym, refl, subst, ℕ, List, Result, Ok, Err, OnErr}
use Rattle.cs_machine.specs.Fold.{Stepped}
use Rattle.cs_machine.specs.State.{State}
use Rattle.cs_gen.specs.declared.tally.Tally.{Tally}
use Rattle.cs_state.specs.State.{IsUsable}
use Rattle.cs_state.specs.Does.{Does, IsKept, Leaves, LeavesBy}
use Rattle.cs_state.specs.declared.state.State.{State as Held}

-- the same step by another word
pub does_as : (before after : List ℕ) (tally : Tally) (held : Held) (n : ℕ)
    (one other : Stepped State)
    → other ≡ one
    → Does before after tally held n one
    → Does before after tally held n other
does_as before after tally held n one other e h =
    subst (λ o. Does before after tally held n o) (sym e) h

-- a state that was left as it was is left so by every step
pub kept_leaves : (old new : Held) (out : Stepped State) → IsKept old new → Leaves old new out
kept_leaves old new out h = subst (λ b. LeavesBy b old new out) (sym h.usable.unspent) h

-- nothing changed
pub same_kept : (held : Held) → IsUsable held → IsKept held held
same_kept held usable = record { state_is = refl; usable = usable }

-- what holds is held after a fault
pub kept_on : {T E P : Type 0} (r : Result T E) → P → OnErr r P
kept_on (Ok x) p = tt
kept_on (Err e) p = p

-- the same step by another word
pub leaves_as : (old new : Held) (one other : Stepped State) → other ≡ one
    → Leaves old new one → Leaves old new other
leaves_as old new one other e h = subst (λ o. Leaves old new o) (sym e) h
