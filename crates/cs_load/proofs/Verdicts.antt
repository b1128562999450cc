-- What the verdict on a dataset within the limit says of its references.
use Rattle.std.proofs.Common.{◌≡◌, ◌∙◌, ap, sym, refl, ℕ, ◌≤◌, List, length, Option, None, Some, Err, false, nat_lt, cond, arith}
use Rattle.std.proofs.lemmas.Bool.Decides.{nat_tests}
use Rattle.cs_value.specs.Tree.{Tree}
use Rattle.cs_docs.specs.Faults.{IsFault}
use Rattle.cs_docs.specs.Limits.{most_documents}
use Rattle.cs_docs.specs.References.{first_dangling}
use Rattle.cs_docs.specs.Verdict.{fits, full, dangles, of_pair, verdict}
use Rattle.cs_docs.specs.declared.prepared.PrepareFault.{PrepareFault}
use Rattle.cs_docs.specs.declared.prepared.PrepareFault.TheVariants as store
use Rattle.cs_reply.specs.Stated.{dangling}
use Rattle.cs_machine.specs.DataFile.{dataset, stopped, of_references}
use Rattle.cs_load.specs.Loading.{Loads}
use Rattle.cs_load.specs.Reads.{of_store_fault, IsNotFull, ReadFails}

-- within the limit it is that on the first dangling reference
by_pair : (ds : List Tree) → length ds ≤ most_documents → verdict ds ≡ of_pair (first_dangling ds)
by_pair ds within =
    let not_above : nat_lt most_documents (length ds) ≡ false = grind (arith, nat_tests, within) in
    ap (λ b. cond b full (of_pair (first_dangling ds))) not_above

no_pair : (ds : List Tree) (p : Option (List ℕ × List ℕ)) → of_pair p ≡ fits → of_references ds p ≡ dataset ds
no_pair ds None h = refl
no_pair ds (Some p) h = cc

one_pair : (ds : List Tree) (p : Option (List ℕ × List ℕ)) (from to : List ℕ) → of_pair p ≡ dangles from to
    → of_references ds p ≡ stopped (dangling from to)
one_pair ds None from to h = cc
one_pair ds (Some p) from to h = cc

never_full : (p : Option (List ℕ × List ℕ)) → of_pair p ≡ full → ⊥
never_full None h = cc
never_full (Some p) h = cc

-- it fits: no reference dangles
pub whole : (ds : List Tree) → length ds ≤ most_documents → verdict ds ≡ fits
    → of_references ds (first_dangling ds) ≡ dataset ds
whole ds within h = no_pair ds (first_dangling ds) (sym (by_pair ds within) ∙ h)

-- one dangles: this is the first
dangled : (ds : List Tree) (from to : List ℕ) → length ds ≤ most_documents → verdict ds ≡ dangles from to
    → of_references ds (first_dangling ds) ≡ stopped (dangling from to)
dangled ds from to within h = one_pair ds (first_dangling ds) from to (sym (by_pair ds within) ∙ h)

-- it is not full
room : (ds : List Tree) → length ds ≤ most_documents → verdict ds ≡ full → ⊥
room ds within h = never_full (first_dangling ds) (sym (by_pair ds within) ∙ h)

pub not_full : (ds : List Tree) (f : PrepareFault) → length ds ≤ most_documents → IsFault f (verdict ds) → IsNotFull f
not_full ds store.Full within h = room ds within h
not_full ds (store.Dangling from to) within h = tt
not_full ds store.NoMemory within h = tt

-- the fault is what the references make of the reading; want of memory is none
pub faulted : (ds : List Tree) (f : PrepareFault) → length ds ≤ most_documents → IsFault f (verdict ds)
    → Loads (Err (of_store_fault f)) (of_references ds (first_dangling ds))
faulted ds store.Full within h = tt
faulted ds (store.Dangling from to) within h = dangled ds from to within h
faulted ds store.NoMemory within h = tt

-- no read failed
pub no_read : (f : PrepareFault) (before now : ℕ) → ReadFails before now (of_store_fault f)
no_read store.Full before now = tt
no_read (store.Dangling from to) before now = tt
no_read store.NoMemory before now = tt
