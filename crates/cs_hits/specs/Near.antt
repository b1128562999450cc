-- The documents near a bound, which settle an answer that is made of the first few of an order:
-- this project's profile.
use Rattle.std.specs.Prelude.{◌≡◌, ◌≤◌, ◌&&◌, ℕ, Bool, List, filter, map, Some}
use Rattle.cs_value.specs.Tree.{Tree, Pairs}
use Rattle.cs_value.specs.View.{tree}
use Rattle.cs_syntax.specs.Expression.{Expression}
use Rattle.cs_view.specs.View.{document_of}
use Rattle.cs_meaning.specs.Hits.{is_hit}
use Rattle.cs_window.specs.Window.{Window, window, is_near, keys_at, IsBound}
use Rattle.cs_hits.specs.declared.near.Near.{Near}

-- the bound: what a document is ordered by
abbrev pub bound_of : Near → List Tree
bound_of n = map tree n.bound.items

-- the documents that do not stand behind it
abbrev pub near_docs : Near → List Tree
near_docs n = map document_of n.docs.items

-- a hit that does not stand behind a bound
abbrev pub is_near_hit : Expression → Pairs → List Tree → Tree → Bool
is_near_hit e params bound d = is_hit e params d && is_near e params bound d

-- so many documents are no fewer than the window of the query has
pub record IsWithin (e : Expression) (count : ℕ) : Type 0 where
  pub within : Window
  pub is : window e ≡ Some within
  pub enough : within.many ≤ count

-- those of some documents that do not stand behind a bound, which is what the one at some place of
-- the order is ordered by; they are no fewer than the window has
pub record AreNearest (e : Expression) (params : Pairs) (docs : List Tree) (n : Near)
    : Type 0 where
  pub near : near_docs n ≡ filter (is_near e params (bound_of n)) docs
  pub bound : IsBound e params (bound_of n) docs
  pub place : ℕ
  pub at : keys_at e params docs place ≡ Some (bound_of n)
