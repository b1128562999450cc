-- What an index holds: entries, each a code and the place of a document that has it. What changes
-- do to them.
use Rattle.std.specs.Prelude.{◌≡◌, ℕ, Bool, true, false, not, cond, ◌&&◌, List, [], ◌∷◌, Option, Some, None, is_some, Vec}
use Rattle.std.specs.declared.alloc.Global.{Global}
use Rattle.std.specs.declared.cmp.Ordering.{Ordering}
use Rattle.std.specs.Ordering.{is_eq}
use Rattle.std.specs.BTreeSet.{BTreeSet, contains}
use Rattle.std.specs.List.{list_any}
use Rattle.cs_value.specs.Tree.{Tree}
use Rattle.cs_view.specs.Changes.{Edit}
use Rattle.cs_view.specs.Dataset.{standing}
use Rattle.cs_docs.specs.Store.{docs, place_at}
use Rattle.cs_docs.specs.declared.docs.Docs.{Docs}
use Rattle.cs_codes.specs.Codes.{is_among}
use Rattle.cs_codes.specs.Kinds.{side_coded}
use Rattle.cs_codes.specs.declared.coding.Coding.{Coding}
use Rattle.cs_index.specs.declared.entry.Entry.{Entry}
use Rattle.cs_index.specs.contracts.entry.EntryOrd.TheImpl as entry_order

abbrev pub entry_cmp : Entry → Entry → Ordering
entry_cmp = entry_order.ghosts.cmp

abbrev pub same_entry : Entry → Entry → Bool
same_entry e q = is_eq (entry_cmp e q)

abbrev pub entry : ℕ → ℕ → Entry
entry c p = record { code = c; place = p }

abbrev pub has_entry : BTreeSet Entry → Entry → Bool
has_entry m q = contains entry_cmp m q

abbrev pub is_in : Entry → List Entry → Bool
is_in q es = list_any (λ e. same_entry e q) es

abbrev pub is_in_some : Entry → List (Vec Entry Global) → Bool
is_in_some q lists = list_any (λ es. is_in q es.items) lists

-- under each code of a document of the store stands the document's place
abbrev pub AreEntriesOf : Coding → BTreeSet Entry → Docs → Type 0
AreEntriesOf coding m d =
    (x : List ℕ) (c p : ℕ) → place_at d x ≡ Some p
    → is_among c (side_coded coding (standing x (docs d))) ≡ true → has_entry m (entry c p) ≡ true

-- the entry is that of the place and of one of the codes that are not left out
abbrev pub is_put : (ℕ → Bool) → ℕ → List ℕ → Entry → Bool
is_put out p cs q = list_any (λ c. not (out c) && same_entry (entry c p) q) cs

abbrev pub is_put_at : (ℕ → Bool) → Option ℕ → List ℕ → Entry → Bool
is_put_at out None cs q = false
is_put_at out (Some p) cs q = is_put out p cs q

-- the entry is that of the place and of a code that the one side has and the other has not
abbrev pub is_apart : Coding → Option Tree → Option Tree → ℕ → Entry → Bool
is_apart coding other this p q =
    is_put (λ x. is_among x (side_coded coding other)) p (side_coded coding this) q

-- the change puts the entry: of a code that its document after has and the one before has not, at
-- the place of its id
abbrev pub puts : Coding → Docs → Entry → Edit → Bool
puts coding d q c =
    is_put_at (λ x. is_among x (side_coded coding c.1.0)) (place_at d c.0)
    (side_coded coding c.1.1) q

-- the change parts with the entry: of a code that its document before has and the one after has
-- not, at the place of its id
abbrev pub parts : Coding → Docs → Entry → Edit → Bool
parts coding d q c =
    is_put_at (λ x. is_among x (side_coded coding c.1.1)) (place_at d c.0)
    (side_coded coding c.1.0) q

-- the change puts the entry, of a document that stands before it
abbrev pub gains : Coding → Docs → Entry → Edit → Bool
gains coding d q c = is_some c.1.0 && puts coding d q c

-- the change puts the entry, of a document that it makes
abbrev pub enters : Coding → Docs → Entry → Edit → Bool
enters coding d q c = not (is_some c.1.0) && puts coding d q c

-- the flag, or true where one of the changes passes the test
abbrev pub or_some : (Edit → Bool) → List Edit → Bool → Bool
or_some test [] b = b
or_some test (c ∷ cs) b = or_some test cs (cond (test c) true b)

-- entries are added that pass a test, to a set or to a list
abbrev pub Gain : (Entry → Bool) → BTreeSet Entry → BTreeSet Entry → Type 0
Gain put old new = (q : Entry) → has_entry new q ≡ cond (put q) true (has_entry old q)

abbrev pub Collect : (Entry → Bool) → List Entry → List Entry → Type 0
Collect put old new = (q : Entry) → is_in q new ≡ cond (put q) true (is_in q old)

-- no entry is lost
abbrev pub Grows : BTreeSet Entry → BTreeSet Entry → Type 0
Grows old new = (q : Entry) → has_entry old q ≡ true → has_entry new q ≡ true

-- the entries of a list are taken out
abbrev pub Lose : List Entry → BTreeSet Entry → BTreeSet Entry → Type 0
Lose es old new = (q : Entry) → has_entry new q ≡ cond (is_in q es) false (has_entry old q)

-- the entries of the documents that changes make are added
abbrev pub EnterAll : Coding → Docs → List Edit → BTreeSet Entry → BTreeSet Entry → Type 0
EnterAll coding d cs old new =
    (q : Entry) → has_entry new q ≡ or_some (enters coding d q) cs (has_entry old q)
