-- What installing changes leaves of the state.
use Rattle.std.proofs.Common.{◌≡◌, refl, sym, subst, ◌∙◌, Bool, true, false, Result, Ok, Err, OnOk}
use Rattle.cs_docs.specs.Store.{docs}
use Rattle.cs_docs.specs.declared.docs.Docs.{Docs}
use Rattle.cs_index.specs.Index.{IsIndexOf}
use Rattle.cs_machine.specs.Fold.{Stepped}
use Rattle.cs_machine.specs.State.{State, with_docs}
use Rattle.cs_state.specs.State.{state}
use Rattle.cs_state.specs.Does.{AllButStore, IsInstalled, Leaves, LeavesBy}
use Rattle.cs_state.specs.declared.state.State.{State as Held}

-- the state is another in its documents alone
pub but_store : (old new : Held) → AllButStore old new
    → state new ≡ with_docs (docs new.docs) (state old)
but_store old new h = rw (h.moment, h.used, h.live, h.listeners) refl

-- the index and its documents stay
pub index_as : (old new : Held) → new.index ≡ old.index → new.docs ≡ old.docs
    → IsIndexOf old.index old.docs → IsIndexOf new.index new.docs
index_as old new same kept h =
    subst (λ (d : Docs). IsIndexOf new.index d) (sym kept)
    (subst (λ i. IsIndexOf i old.docs) (sym same) h)

leaves_by : (b : Bool) (old mid new : Held) (f : State → Stepped State) → state mid ≡ state old
    → LeavesBy b mid new (f (state mid)) → LeavesBy b old new (f (state old))
leaves_by false old mid new f same h =
    record { state_is = h.state_is ∙ same; usable = h.usable }
leaves_by true old mid new f same h =
    subst (λ (s : State). IsInstalled new (f s)) same h

-- how a step leaves a state follows from its state alone
pub leaves_from : (old mid new : Held) (f : State → Stepped State) → state mid ≡ state old
    → Leaves mid new (f (state mid)) → Leaves old new (f (state old))
leaves_from old mid new f same h = leaves_by new.spent old mid new f same h

-- what holds is held where there is no fault
pub ok_on : {T E P : Type 0} (r : Result T E) → P → OnOk r P
ok_on (Ok x) p = p
ok_on (Err e) p = tt
