-- What a look-up picks. For private clauses.
use denote.Ref.{Bor}
use Rattle.std.specs.Prelude.{◌≡◌, ℕ, Bool, true, cond, ◌&&◌, ◌||◌, List, map, Option, Some, None}
use Rattle.std.specs.List.{All, list_any}
use Rattle.std.specs.Option.{is_some}
use Rattle.std.specs.BTreeSet.{BTreeSet, keys_between}
use Rattle.std.specs.declared.ops.Bound.TheVariants.{Included}
use Rattle.cs_value.specs.Tree.{Tree}
use Rattle.cs_view.specs.Dataset.{same_id}
use Rattle.cs_view.specs.Document.{passes, id_of}
use Rattle.cs_view.specs.Keys.{has, has_all}
use Rattle.cs_view.specs.declared.key.Key.{Key}
use Rattle.cs_docs.specs.Store.{place_at, doc_at}
use Rattle.cs_docs.specs.declared.docs.Docs.{Docs}
use Rattle.cs_codes.specs.declared.coding.Coding.{Coding}
use Rattle.cs_index.specs.Entries.{AreEntriesOf, entry, entry_cmp}
use Rattle.cs_index.specs.Index.{ArePlacesOf}
use Rattle.cs_index.specs.declared.entry.Entry.{Entry}

-- a document that has each of the keys has this one
abbrev pub IsImplied : Key → List Key → Type 0
IsImplied k ks = (t : Tree) → has_all ks t ≡ true → has k t ≡ true

-- the place, where the document there has each of the keys
abbrev pub where_has : Docs → List Key → Option ℕ → Option ℕ
where_has d ks None = None
where_has d ks (Some p) = cond (passes (has_all ks) (doc_at d p)) (Some p) None

-- the place of the document with the id, where it has each of the keys
abbrev pub wanted : Docs → List Key → List ℕ → Option ℕ
wanted d ks y = where_has d ks (place_at d y)

-- the ids of documents that a look-up found, each with its place
abbrev pub Hits : Type 0
Hits = List (Bor (List ℕ) × ℕ)

abbrev pub is_hit : List ℕ → Hits → Bool
is_hit y hs = list_any (λ h. same_id y h.0.now) hs

-- each is wanted, and stands at its place
abbrev pub AreWanted : Docs → List Key → Hits → Type 0
AreWanted d ks hs = All (λ h. wanted d ks h.0.now ≡ Some h.1) hs

-- they are all that are wanted
abbrev pub AreAll : Docs → List Key → Hits → Type 0
AreAll d ks hs = (y : List ℕ) → is_hit y hs ≡ is_some (wanted d ks y)

-- the id is the one looked at, and is wanted
abbrev pub is_found : Docs → List Key → List ℕ → List ℕ → Bool
is_found d ks i y = same_id y i && is_some (wanted d ks y)

-- the id is that of what stands at the place, and is wanted
abbrev pub is_found_at : Docs → List Key → ℕ → List ℕ → Bool
is_found_at d ks p y =
    passes (λ t. same_id y (id_of t)) (doc_at d p) && is_some (wanted d ks y)

-- at one of these places
abbrev pub is_found_among : Docs → List Key → List ℕ → List ℕ → Bool
is_found_among d ks ps y = list_any (λ p. is_found_at d ks p y) ps

-- ids that pass a test are added
abbrev pub Finds : (List ℕ → Bool) → Hits → Hits → Type 0
Finds f old new = (y : List ℕ) → is_hit y new ≡ (f y || is_hit y old)

-- the places of what was found, in the order of the ids
abbrev pub ArePlacesIn : Hits → List ℕ → Type 0
ArePlacesIn hs ps =
    (d : Docs) (ks : List Key) → AreWanted d ks hs → AreAll d ks hs → ArePlacesOf ks d ps

-- the entries of a code, and the places of entries
abbrev pub under : BTreeSet Entry → ℕ → List Entry
under m c = keys_between entry_cmp (Included (entry c 0)) (Included (entry c 4294967295)) m

abbrev pub places_in : List Entry → List ℕ
places_in es = map (λ e. e.place) es

-- whoever is wanted stands at one of these places
abbrev pub HoldWanted : Docs → List Key → List ℕ → Type 0
HoldWanted d ks ps = (y : List ℕ) → is_found_among d ks ps y ≡ is_some (wanted d ks y)

-- and so in each store that has these entries
abbrev pub Narrow : Coding → BTreeSet Entry → List Key → List ℕ → Type 0
Narrow coding m ks ps = (d : Docs) → AreEntriesOf coding m d → HoldWanted d ks ps
