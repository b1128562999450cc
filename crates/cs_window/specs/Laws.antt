-- The laws of windows, for all expressions, also those that no text spells.
use Rattle.std.specs.Prelude.{◌≡◌, ◌≤◌, ◌+◌, ℕ, IsTrue, Bool, true, false, List, [], ◌∷◌, ◌++◌, map, flat_map, filter, not, Some}
use Rattle.std.specs.Ordering.{is_gt}
use Rattle.cs_value.specs.Tree.{Tree, null, Pairs}
use Rattle.cs_value.specs.Words.{list_of}
use Rattle.cs_syntax.specs.Expression.{Expression}
use Rattle.cs_plan.specs.Simple.{is_simple, query_key, tail_of, steps_behind}
use Rattle.cs_meaning.specs.Hits.{hits, tail, tail_looked, tail_over}
use Rattle.cs_meaning.specs.Joining.{kind, entrance, entered}
use Rattle.cs_meaning.specs.Laws.{AgreeOn}
use Rattle.cs_meaning.specs.Looked.{query_looked}
use Rattle.cs_meaning.specs.Ordered.{Ranked, ranks, sorted}
use Rattle.cs_meaning.specs.Values.{rest_value, pipes_value, query_value}
use Rattle.cs_window.specs.Mapped.{is_mapped, share, share_looked}
use Rattle.cs_window.specs.Windowed.{is_filtered, is_windowed}
use Rattle.cs_window.specs.Window.{Window, window, is_near, first_in, keys_at, IsBound}

-- With an element each one passes that does not rank behind it.
abbrev pub IsClosed : List Bool → (Ranked → Bool) → Type 0
IsClosed ds passes = (x y : Ranked) → passes x ≡ true → is_gt (ranks ds y x) ≡ false
    → passes y ≡ true

-- By such a test an order is that of the elements that pass, and behind them that of the others.
abbrev pub SortedInTwo : Type 0
SortedInTwo = (ds : List Bool) (passes : Ranked → Bool) (xs : List Ranked) → IsClosed ds passes
    → sorted ds xs
    ≡ sorted ds (filter passes xs) ++ sorted ds (filter (λ x. not (passes x)) xs)

-- The tail of a query with a window is what the steps behind the order make of the first documents
-- in it.
abbrev pub FirstSettleTail : Type 0
FirstSettleTail = (e : Expression) (params : Pairs) (w : Window) (ds : List Tree)
    → window e ≡ Some w → let ss = tail_of (tail_of (steps_behind e)) in
    tail e params ds ≡ pipes_value [] params ss (null ∷ [])
    (entered (entrance (kind ss)) (rest_value [] params ss (null ∷ []))
    (list_of (first_in w params ds)))

-- Where a query's window is bounded, lists that have the same documents that do not stand behind
-- the bound have the same tail, and the bound is one of both.
abbrev pub WindowSettlesTail : Type 0
WindowSettlesTail = (e : Expression) (params : Pairs) (bound xs ys : List Tree)
    → IsBound e params bound xs
    → filter (is_near e params bound) xs ≡ filter (is_near e params bound) ys
    → (tail e params xs ≡ tail e params ys) × IsBound e params bound ys

-- What the document at a place of the order is ordered by bounds a window that does not reach
-- beyond the place.
abbrev pub PlaceBoundsWindow : Type 0
PlaceBoundsWindow = (e : Expression) (params : Pairs) (w : Window) (ds : List Tree) (place : ℕ)
    (bound : List Tree)
    → window e ≡ Some w → w.many ≤ place + 1 → keys_at e params ds place ≡ Some bound
    → IsBound e params bound ds

-- What one of the documents that do not stand behind a bound is ordered by is a nearer bound: those
-- that do not stand behind it are all among them.
abbrev pub NearerIsWithin : Type 0
NearerIsWithin = (e : Expression) (params : Pairs) (bound ds : List Tree) (place : ℕ)
    (nearer : List Tree)
    → keys_at e params (filter (is_near e params bound) ds) place ≡ Some nearer
    → filter (is_near e params nearer) (filter (is_near e params bound) ds)
    ≡ filter (is_near e params nearer) ds

-- A simple query is filtered.
abbrev pub SimpleIsFiltered : Type 0
SimpleIsFiltered = (e : Expression) → IsTrue (is_simple e) → IsTrue (is_filtered e)

-- So is a windowed one.
abbrev pub WindowedIsFiltered : Type 0
WindowedIsFiltered = (e : Expression) → IsTrue (is_windowed e) → IsTrue (is_filtered e)

-- A windowed query's value is what the steps behind its filter make of its hits, and it looks up
-- its key and what these steps look up.
abbrev pub WindowedIsTailOfHits : Type 0
WindowedIsTailOfHits = (e : Expression) (params : Pairs) (docs : List Tree) → IsTrue (is_windowed e)
    → (query_value docs params e ≡ tail_over docs e params (hits e params docs))
    × (query_looked docs params e
    ≡ query_key e params ∷ tail_looked docs e params (hits e params docs))

-- What the steps behind a filter look up settles what they make of documents.
abbrev pub LookedSettlesTail : Type 0
LookedSettlesTail = (e : Expression) (params : Pairs) (ds d1 d2 : List Tree)
    → AgreeOn (tail_looked d1 e params ds) d1 d2
    → (tail_over d1 e params ds ≡ tail_over d2 e params ds)
    × (tail_looked d1 e params ds ≡ tail_looked d2 e params ds)

-- Where a windowed query's window is bounded, lists that have the same documents that do not stand
-- behind the bound give the same over each dataset, and the same is looked up.
abbrev pub WindowSettlesTailOver : Type 0
WindowSettlesTailOver = (e : Expression) (params : Pairs) (bound xs ys docs : List Tree)
    → IsTrue (is_windowed e) → IsBound e params bound xs
    → filter (is_near e params bound) xs ≡ filter (is_near e params bound) ys
    → (tail_over docs e params xs ≡ tail_over docs e params ys)
    × (tail_looked docs e params xs ≡ tail_looked docs e params ys)

-- A mapped query is filtered.
abbrev pub MappedIsFiltered : Type 0
MappedIsFiltered = (e : Expression) → IsTrue (is_mapped e) → IsTrue (is_filtered e)

-- What the steps behind a mapped query's filter make of documents is the list of their shares, and
-- they look up what finding each share looks up.
abbrev pub MappedIsShares : Type 0
MappedIsShares = (e : Expression) (params : Pairs) (docs ds : List Tree) → IsTrue (is_mapped e)
    → (tail_over docs e params ds ≡ list_of (map (share docs e params) ds))
    × (tail_looked docs e params ds ≡ flat_map (share_looked docs e params) ds)

-- A mapped query's value is the list of the shares of its hits, and it looks up its key and what
-- finding each share looks up.
abbrev pub MappedIsSharesOfHits : Type 0
MappedIsSharesOfHits = (e : Expression) (params : Pairs) (docs : List Tree) → IsTrue (is_mapped e)
    → (query_value docs params e ≡ list_of (map (share docs e params) (hits e params docs)))
    × (query_looked docs params e
    ≡ query_key e params ∷ flat_map (share_looked docs e params) (hits e params docs))

-- What finding a share looks up settles it.
abbrev pub LookedSettlesShare : Type 0
LookedSettlesShare = (e : Expression) (params : Pairs) (d : Tree) (d1 d2 : List Tree)
    → AgreeOn (share_looked d1 e params d) d1 d2
    → (share d1 e params d ≡ share d2 e params d)
    × (share_looked d1 e params d ≡ share_looked d2 e params d)
