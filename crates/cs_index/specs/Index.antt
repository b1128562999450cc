-- What it means that an index is that of a store, and how changes of the store lead from one index
-- to the other.
use Rattle.std.specs.Prelude.{◌≡◌, ℕ, List, true, false, cond, map, Some}
use Rattle.cs_view.specs.Changes.{Edit, are_changes, LeadFrom, after_changes}
use Rattle.cs_view.specs.Keys.{selected}
use Rattle.cs_view.specs.declared.key.Key.{Key}
use Rattle.cs_docs.specs.Store.{docs, doc_at, ArePlacesSteady}
use Rattle.cs_docs.specs.declared.docs.Docs.{Docs}
use Rattle.cs_index.specs.Entries.{AreEntriesOf, has_entry, is_in, parts, gains, enters, or_some}
use Rattle.cs_index.specs.declared.delta.Delta.{Delta}
use Rattle.cs_index.specs.declared.entry.Entry.{Entry}
use Rattle.cs_index.specs.declared.index.Index.{Index}

-- each document of the store is found under each code that it has
abbrev pub IsIndexOf : Index → Docs → Type 0
IsIndexOf index d = AreEntriesOf index.coding index.entries d

-- what changes of the store do to the entries of the documents that stand before them: those that
-- they part with are lost, and those that they put are gained
pub record IsDelta (index : Index) (d : Docs) (cs : List Edit) (delta : Delta) : Type 0 where
  pub lost : (q : Entry) → is_in q delta.lost.items ≡ or_some (parts index.coding d q) cs false
  pub gained : (q : Entry) → is_in q delta.gained.items ≡ or_some (gains index.coding d q) cs false

-- the entries of the other index: those of the one without the lost, with the gained, and with
-- those of the documents that changes made in the store
abbrev pub AreApplied : Index → Index → Docs → List Edit → Delta → Type 0
AreApplied old new d cs delta =
    (q : Entry) → has_entry new.entries q
    ≡ or_some (enters old.coding d q) cs (cond (is_in q delta.gained.items) true
    (cond (is_in q delta.lost.items) false (has_entry old.entries q)))

-- the changes lead from one store to the other, in which what stands in both keeps its place
pub record LeadsOn (was now : Docs) (cs : List Edit) : Type 0 where
  pub changes : are_changes cs ≡ true
  pub leads : LeadFrom (docs was) cs
  pub after : docs now ≡ after_changes (docs was) cs
  pub steady : ArePlacesSteady was now

-- the index of a store before the changes becomes that of the store after them
abbrev pub FollowsChanges : Index → Index → Docs → List Edit → Delta → Type 0
FollowsChanges old new now cs delta =
    (was : Docs) → LeadsOn was now cs → IsDelta old was cs delta → IsIndexOf old was
    → IsIndexOf new now

-- the places of the documents that have each of the keys, in the order of their ids
abbrev pub ArePlacesOf : List Key → Docs → List ℕ → Type 0
ArePlacesOf ks d ps = map (doc_at d) ps ≡ map Some (selected ks (docs d))
