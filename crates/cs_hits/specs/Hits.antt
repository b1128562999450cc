-- What contracts see of the documents that make a filter true, of which an answer is made. This
-- project's profile.
use Rattle.std.specs.Prelude.{◌≡◌, List, filter, map, option_map, IfSome, Option, Some, None}
use Rattle.std.specs.List.{AllByRecursion}
use Rattle.cs_value.specs.Tree.{Tree, Pairs}
use Rattle.cs_syntax.specs.Expression.{Expression}
use Rattle.cs_view.specs.Changes.{Edit}
use Rattle.cs_view.specs.Dataset.{standing}
use Rattle.cs_view.specs.View.{document_of}
use Rattle.cs_meaning.specs.Hits.{hits}
use Rattle.cs_window.specs.Window.{is_near, IsBound}
use Rattle.cs_hits.specs.Near.{bound_of, near_docs}
use Rattle.cs_hits.specs.declared.hits.Hits.{Hits}
use Rattle.cs_hits.specs.declared.near.Near.{Near}

-- the documents, in their order
abbrev pub docs_of : Hits → List Tree
docs_of h = map document_of h.docs.items

-- the documents that settle an answer: those near a bound, where such are kept, or all
abbrev pub settling_of : Option Near → List Tree → List Tree
settling_of None docs = docs
settling_of (Some n) docs = near_docs n

abbrev pub settling : Hits → List Tree
settling h = settling_of h.near (docs_of h)

-- those kept near a bound are those that do not stand behind it
abbrev pub AreNear : Expression → Pairs → Hits → Type 0
AreNear e params h =
    IfSome h.near (λ n. near_docs n ≡ filter (is_near e params (bound_of n)) (docs_of h))

-- and no fewer than the window of the query has
abbrev pub AreEnough : Expression → Pairs → Hits → Type 0
AreEnough e params h = IfSome h.near (λ n. IsBound e params (bound_of n) (docs_of h))

-- there is a bound as there was, and it is the same
abbrev pub KeepsBound : Hits → Hits → Type 0
KeepsBound old new = option_map bound_of new.near ≡ option_map bound_of old.near

-- they are the hits of the query in a dataset, and those near its window settle its answer
pub record AreHits (docs : List Tree) (e : Expression) (params : Pairs) (h : Hits) : Type 0 where
  pub are : docs_of h ≡ hits e params docs
  pub near : AreNear e params h
  pub enough : AreEnough e params h

-- no document stands under an id under which none stood before the changes
abbrev pub NoneIsNew : List Edit → List Tree → Type 0
NoneIsNew cs docs = AllByRecursion (λ c. c.1.0 ≡ None → standing c.0 docs ≡ None) cs
