-- A patch applied: its outcome, step by step.
use Rattle.std.proofs.Common.{◌≡◌, ℕ, List, Some, None, Result, sym, ap, subst, ◌∙◌}
use Rattle.cs_value.specs.Tree.{Tree}
use Rattle.cs_view.specs.Document.{rev_of}
use Rattle.cs_targets.specs.Targets.{if_some}
use Rattle.cs_patch.specs.Operations.{Refusal, Outcome, document, refused, and_then}
use Rattle.cs_patch.specs.Patched.{Patch, in_turn, operations, stamped, revision_refusal, worked, patched}
use Rattle.cs_patch.specs.Faults.{IsPatchFault}
use Rattle.cs_patch.specs.Outcomes.{Tells}
use Rattle.cs_patch.specs.declared.fault.PatchFault.{PatchFault}
use Rattle.cs_patch.specs.declared.fault.PatchFault.TheVariants.{Revision, NotNumber, Overflow, NotArray, Immutable, TooDeep, NoMemory}

-- what follows of each refusal follows of the one that a fault tells
pub fault_map : (P Q : Refusal → Type 0) → ((r : Refusal) → P r → Q r) → (f : PatchFault)
    → IsPatchFault P f → IsPatchFault Q f
fault_map P Q h (Revision expected found) p = h _ p
fault_map P Q h (NotNumber path) p = h _ p
fault_map P Q h (Overflow path) p = h _ p
fault_map P Q h (NotArray path) p = h _ p
fault_map P Q h (Immutable name) p = h _ p
fault_map P Q h TooDeep p = h _ p
fault_map P Q h NoMemory p = tt

-- an operation was done, and the rest goes on from there
pub went_on : {A : Type 0} (f : A → Tree → Outcome) (K : Outcome → Outcome) (xs ys : List A)
    (v w new : Tree) (r : Result (Unit {0}) PatchFault)
    → xs ≡ ys → in_turn f xs v ≡ document w → Tells r new (K (document w))
    → Tells r new (K (in_turn f ys v))
went_on f K xs ys v w new r same h rest =
    subst (Tells r new) (ap K (sym h ∙ ap (λ zs. in_turn f zs v) same)) rest

-- an operation was refused, and so is all
pub broke_off : {A : Type 0} (f : A → Tree → Outcome) (K : Outcome → Outcome) (xs ys : List A)
    (v : Tree) (x : PatchFault) → ((r : Refusal) → K (refused r) ≡ refused r)
    → xs ≡ ys → IsPatchFault (λ r. in_turn f xs v ≡ refused r) x
    → IsPatchFault (λ r. K (in_turn f ys v) ≡ refused r) x
broke_off f K xs ys v x keeps same h =
    fault_map (λ r. in_turn f xs v ≡ refused r) (λ r. K (in_turn f ys v) ≡ refused r)
    (λ r e. ap K (ap (λ zs. in_turn f zs v) (sym same) ∙ e) ∙ keeps r) x h

module _ (p : Patch) (v : Tree) (tx moment : List ℕ) where
  pub other_revision : (f : PatchFault)
      → IsPatchFault (λ r. revision_refusal p.if_revision (rev_of v) ≡ Some r) f
      → IsPatchFault (λ r. patched p v tx moment ≡ refused r) f
  other_revision f h =
      fault_map (λ r. revision_refusal p.if_revision (rev_of v) ≡ Some r)
      (λ r. patched p v tx moment ≡ refused r)
      (λ r e. ap (if_some refused (worked p v tx moment)) e) f h

  pub not_worked : (f : PatchFault) → revision_refusal p.if_revision (rev_of v) ≡ None
      → IsPatchFault (λ r. operations p v ≡ refused r) f
      → IsPatchFault (λ r. patched p v tx moment ≡ refused r) f
  not_worked f none h =
      fault_map (λ r. operations p v ≡ refused r) (λ r. patched p v tx moment ≡ refused r)
      (λ r e. ap (if_some refused (worked p v tx moment)) none
      ∙ ap (and_then (λ t. document (stamped tx moment t))) e) f h

  pub done : (w e : Tree) → revision_refusal p.if_revision (rev_of v) ≡ None
      → operations p v ≡ document w → e ≡ stamped tx moment w → patched p v tx moment ≡ document e
  done w e none h is =
      ap (if_some refused (worked p v tx moment)) none
      ∙ ap (and_then (λ t. document (stamped tx moment t))) h ∙ ap document (sym is)
