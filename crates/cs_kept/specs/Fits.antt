-- When a last answer that is kept fits a dataset: it is the value over it, and what is kept beside
-- it belongs to it. This project's profile.
use Rattle.std.specs.Prelude.{Bool, ◌||◌, ◌≡◌, List, false, IsTrue, IfSome, ⊤}
use Rattle.cs_value.specs.Tree.{Tree, Pairs}
use Rattle.cs_value.specs.View.{tree, fields}
use Rattle.cs_value.specs.Words.{list_of}
use Rattle.cs_syntax.specs.Expression.{Expression}
use Rattle.cs_syntax.specs.Queries.{expression_of}
use Rattle.cs_view.specs.Changes.{Edit}
use Rattle.cs_view.specs.Touched.{touched}
use Rattle.cs_view.specs.declared.key.Key.{Key}
use Rattle.cs_plan.specs.Simple.{is_simple, query_key}
use Rattle.cs_meaning.specs.Hits.{hits, tail_looked}
use Rattle.cs_meaning.specs.Looked.{query_looked}
use Rattle.cs_meaning.specs.Values.{query_value}
use Rattle.cs_window.specs.Mapped.{is_mapped}
use Rattle.cs_window.specs.Windowed.{is_windowed}
use Rattle.cs_hits.specs.Behind.{AreBehind, AreEnoughBehind}
use Rattle.cs_keys.specs.Keys.{SameKeys, all_keys, rest_of}
use Rattle.cs_kept.specs.Rows.{rows as rows_of, IsSettled}
use Rattle.cs_hits.specs.Shares.{AreShares, share_docs, share_values}
use Rattle.cs_kept.specs.Mapped.{mapped_keys}
use Rattle.cs_kept.specs.Kept.{kept_expression, params_of, last_of}
use Rattle.cs_kept.specs.declared.recorded.Recorded.{Recorded}
use Rattle.cs_hits.specs.declared.behind.Behind.{Behind}
use Rattle.cs_kept.specs.declared.kept.Kept.{Kept}
use Rattle.cs_kept.specs.declared.kept.Kept.TheVariants.{ByRecord, InRows, InShares}
use Rattle.cs_kept.specs.declared.mapped.Mapped.{Mapped}
use Rattle.cs_kept.specs.declared.rows.Rows.{Rows}

-- documents that are kept beside a record fit a dataset: the query is windowed, they are its hits,
-- or those of them near its window, and enough; and the rest of the keys are those that the steps
-- behind its filter look up
pub record FitsWindow (docs : List Tree) (e : Expression) (ps : Pairs) (rest : List Key)
    (b : Behind) : Type 0 where
  pub windowed : IsTrue (is_windowed e)
  pub are : AreBehind docs e ps b
  pub enough : AreEnoughBehind docs e ps b
  pub looked : SameKeys rest (tail_looked docs e ps (hits e ps docs))

-- a query whose answer is kept with its hits: it is simple, or mapped
abbrev pub is_by_hits : Expression → Bool
is_by_hits e = is_simple e || is_mapped e

-- an answer that is kept by its record fits a dataset: its query is neither simple nor mapped, it
-- is the value over the dataset, and the keys are those that finding it looks up, and no other
pub record FitsRecord (docs : List Tree) (r : Recorded) : Type 0 where
  pub compound : is_by_hits (expression_of r.query) ≡ false
  pub last : tree r.last ≡ query_value docs (fields r.params) (expression_of r.query)
  pub keys : SameKeys (all_keys r.keys) (query_looked docs (fields r.params)
      (expression_of r.query))
  pub behind : IfSome r.behind
      (FitsWindow docs (expression_of r.query) (fields r.params) (rest_of r.keys))

-- one that is kept in rows fits a dataset: the query is simple, the rows are its hits, and the
-- answer is what its tail makes of them; rows that are kept near its window settle the answer
pub record FitsRows (docs : List Tree) (r : Rows) : Type 0 where
  pub simple : IsTrue (is_simple (expression_of r.query))
  pub rows : rows_of r ≡ hits (expression_of r.query) (fields r.params) docs
  pub settled : IsSettled r

-- one that is kept in shares fits a dataset: the query is mapped and not simple, the shares are
-- those of its hits over the dataset, and the answer is their list
pub record FitsShares (docs : List Tree) (m : Mapped) : Type 0 where
  pub compound : is_simple (expression_of m.query) ≡ false
  pub mapped : IsTrue (is_mapped (expression_of m.query))
  pub own : m.own ≡ query_key (expression_of m.query) (fields m.params)
  pub hits : share_docs m.shares.items ≡ hits (expression_of m.query) (fields m.params) docs
  pub shares : AreShares docs (expression_of m.query) (fields m.params) m.shares.items
  pub last : tree m.last ≡ list_of (share_values m.shares.items)

abbrev pub FitsKept : List Tree → Kept → Type 0
FitsKept docs (ByRecord r) = FitsRecord docs r
FitsKept docs (InRows r) = FitsRows docs r
FitsKept docs (InShares m) = FitsShares docs m

-- nothing is asked after the changes: no change touches the keys, and rows never ask
abbrev pub IsQuiet : List Edit → Kept → Type 0
IsQuiet cs (ByRecord r) = touched (all_keys r.keys) cs ≡ false
IsQuiet cs (InRows r) = ⊤
IsQuiet cs (InShares m) = touched (mapped_keys m) cs ≡ false

-- an answer is kept as it was, by its record, in rows or in shares, and untouched keys are kept
abbrev pub KeepsRecord : List Edit → Kept → Kept → Type 0
KeepsRecord cs (ByRecord a) (ByRecord b) =
    touched (all_keys a.keys) cs ≡ false → all_keys b.keys ≡ all_keys a.keys
KeepsRecord cs (InRows a) (InRows b) = ⊤
KeepsRecord cs (InShares a) (InShares b) =
    touched (mapped_keys a) cs ≡ false → mapped_keys b ≡ mapped_keys a
KeepsRecord cs _ _ = ⊥

-- what is kept is the answer to this query with these parameters over a dataset, and fits it
pub record Answers (docs : List Tree) (q : Expression) (ps : Pairs) (k : Kept) : Type 0 where
  pub query : kept_expression k ≡ q
  pub params : params_of k ≡ ps
  pub last : last_of k ≡ query_value docs ps q
  pub fits : FitsKept docs k

-- what a commit does to how one answer is kept
pub record RefreshesKept (docs : List Tree) (cs : List Edit) (old new : Kept) : Type 0 where
  pub answers : Answers docs (kept_expression old) (params_of old) new
  pub records : KeepsRecord cs old new
