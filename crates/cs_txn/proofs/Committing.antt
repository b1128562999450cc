-- A transaction whose mutations are done.
use Rattle.std.proofs.Common.{◌≡◌, List, Ok, sym, ap, subst, ◌∙◌, true}
use Rattle.cs_value.specs.Tree.{Tree}
use Rattle.cs_view.specs.Changes.{Edit, after_changes, are_changes, LeadFrom, AreChangesBetween}
use Rattle.cs_view.proofs.Changed.{between-lead}
use Rattle.cs_shelf.proofs.Standing.{ascending-documents}
use Rattle.cs_docs.specs.Verdict.{fits, verdict}
use Rattle.cs_docs.specs.Store.{docs}
use Rattle.cs_docs.specs.declared.docs.Docs.{Docs}
use Rattle.cs_working.specs.Working.{base, working}
use Rattle.cs_working.specs.declared.working.Working.{Working}
use Rattle.cs_txn.specs.Commit.{and_then, held}
use Rattle.cs_txn.specs.Refused.{Outcome}
use Rattle.cs_txn.specs.View.{IsRefusal}
use Rattle.cs_txn.specs.declared.why.Refusal.{Refusal}
use Rattle.cs_txn.proofs.Worked.{ascending-working}

abbrev pub accepted : List Tree → Outcome
accepted ds = Ok ds

-- the verdict on an outcome
abbrev pub judged : Outcome → Outcome
judged o = and_then (λ d. held d (verdict d)) o

-- the changes of a working dataset over a store
pub led : (store : Docs) (w : Working) (cs : List Edit) → base w ≡ docs store
    → AreChangesBetween (base w) (working w) cs
    → (are_changes cs ≡ true) × LeadFrom (docs store) cs × (after_changes (docs store) cs ≡ working w)
led store w cs is between =
    between-lead (docs store) (working w) cs (ascending-documents store.shelf)
    (ascending-working w)
    (subst (λ (d : List Tree). AreChangesBetween d (working w) cs) is between)

-- they are those between the store's dataset and the one after them
pub between_again : (store : Docs) (w : Working) (cs es : List Edit) → base w ≡ docs store
    → AreChangesBetween (base w) (working w) cs → es ≡ cs
    → AreChangesBetween (docs store) (after_changes (docs store) es) es
between_again store w cs es is between same =
    subst (λ (d : List Tree). AreChangesBetween (docs store) d es)
    (sym (ap (after_changes (docs store)) same ∙ (led store w cs is between).2))
    (subst (AreChangesBetween (docs store) (working w)) (sym same)
    (subst (λ (d : List Tree). AreChangesBetween d (working w) cs) is between))

pub judged_fits : (o : Outcome) (now after : List Tree) → o ≡ accepted now → after ≡ now
    → verdict after ≡ fits → judged o ≡ accepted after
judged_fits o now after done is holds =
    ap judged done
    ∙ subst (λ (d : List Tree). held d (verdict d) ≡ accepted after) is (ap (held after) holds)

pub judged_refused : (r : Refusal) (o : Outcome) (now after : List Tree) → o ≡ accepted now
    → after ≡ now → IsRefusal r (held after (verdict after)) → IsRefusal r (judged o)
judged_refused r o now after done is refused =
    subst (λ (p : Outcome). IsRefusal r (judged p)) (sym done)
    (subst (λ (d : List Tree). IsRefusal r (held d (verdict d))) is refused)
