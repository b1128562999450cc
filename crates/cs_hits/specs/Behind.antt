-- What contracts see of the documents behind the answer of a windowed query: this project's
-- profile.
use Rattle.std.specs.Prelude.{◌≡◌, List, Bool, filter, map, ⊤}
use Rattle.cs_value.specs.Tree.{Tree, Pairs}
use Rattle.cs_syntax.specs.Expression.{Expression}
use Rattle.cs_view.specs.Changes.{Edit, after_changes, changes_where}
use Rattle.cs_view.specs.View.{document_of}
use Rattle.cs_meaning.specs.Hits.{hits, is_hit}
use Rattle.cs_window.specs.Window.{IsBound}
use Rattle.cs_hits.specs.Near.{bound_of, is_near_hit, near_docs}
use Rattle.cs_hits.specs.declared.behind.Behind.{Behind}
use Rattle.cs_hits.specs.declared.behind.Behind.TheVariants.{All, Window}

-- the documents, in their order
abbrev pub held_docs : Behind → List Tree
held_docs (All v) = map document_of v.items
held_docs (Window n) = near_docs n

-- which documents are held: hits, all of them, or those that do not stand behind the bound
abbrev pub is_held : Expression → Pairs → Behind → Tree → Bool
is_held e params (All v) d = is_hit e params d
is_held e params (Window n) d = is_near_hit e params (bound_of n) d

-- they are those of a dataset
abbrev pub AreBehind : List Tree → Expression → Pairs → Behind → Type 0
AreBehind docs e params b = held_docs b ≡ filter (is_held e params b) docs

-- and no fewer than the window of the query has
abbrev pub AreEnoughBehind : List Tree → Expression → Pairs → Behind → Type 0
AreEnoughBehind docs e params (All v) = ⊤
AreEnoughBehind docs e params (Window n) = IsBound e params (bound_of n) (hits e params docs)

-- all hits are held as before, or those up to the same bound
abbrev pub KeepsKind : Behind → Behind → Type 0
KeepsKind (All v) (All w) = ⊤
KeepsKind (All v) (Window m) = ⊥
KeepsKind (Window n) (All w) = ⊥
KeepsKind (Window n) (Window m) = bound_of m ≡ bound_of n

-- they were brought behind the changes
pub record Follows (cs : List Edit) (e : Expression) (params : Pairs) (old new : Behind)
    : Type 0 where
  pub docs : held_docs new ≡ after_changes (held_docs old) (changes_where (is_held e params old) cs)
  pub kind : KeepsKind old new
