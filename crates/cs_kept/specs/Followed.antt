-- How the documents behind the answer of a windowed query go with changes. For private clauses.
use Rattle.std.specs.Prelude.{◌≡◌, List, Option, Some, None, true, false, ⊤}
use Rattle.cs_value.specs.Tree.{Tree, Pairs}
use Rattle.cs_value.specs.View.{fields}
use Rattle.cs_syntax.specs.Expression.{Expression}
use Rattle.cs_syntax.specs.Queries.{expression_of}
use Rattle.cs_view.specs.Changes.{Edit}
use Rattle.cs_view.specs.Dataset.{ascending}
use Rattle.cs_view.specs.Touched.{touched}
use Rattle.cs_window.specs.Windowed.{is_filtered, is_windowed}
use Rattle.cs_hits.specs.Behind.{AreBehind, Follows, held_docs}
use Rattle.cs_keys.specs.Keys.{rest_of}
use Rattle.cs_hits.specs.declared.behind.Behind.{Behind}
use Rattle.cs_kept.specs.declared.recorded.Recorded.{Recorded}

-- all but these documents is as it was
pub record KeepsAnswer (old new : Recorded) : Type 0 where
  pub query : new.query ≡ old.query
  pub params : new.params ≡ old.params
  pub last : new.last ≡ old.last
  pub keys : new.keys ≡ old.keys

-- what they must be to be brought behind changes
pub record CanFollow (r : Recorded) (b : Behind) : Type 0 where
  pub filtered : is_filtered (expression_of r.query) ≡ true
  pub sorted : ascending (held_docs b) ≡ true

abbrev pub FollowedBy : List Edit → Expression → Pairs → Option Behind → Option Behind → Type 0
FollowedBy cs e params None None = ⊤
FollowedBy cs e params None (Some b) = ⊥
FollowedBy cs e params (Some a) None = ⊥
FollowedBy cs e params (Some a) (Some b) = Follows cs e params a b

-- there are some as there were, and they were brought behind the changes
abbrev pub Followed : List Edit → Recorded → Recorded → Type 0
Followed cs old new = FollowedBy cs (expression_of old.query)
    (fields old.params) old.behind new.behind

-- what settles an answer stays: the documents, and what was looked up behind the window
pub record Stays (cs : List Edit) (r : Recorded) (old new : Behind) : Type 0 where
  pub same : held_docs new ≡ held_docs old
  pub quiet : touched (rest_of r.keys) cs ≡ false

abbrev pub StayBy : List Edit → Recorded → Option Behind → Option Behind → Type 0
StayBy cs r (Some a) (Some b) = Stays cs r a b
StayBy cs r _ _ = ⊥

abbrev pub StaysSettled : List Edit → Recorded → Recorded → Type 0
StaysSettled cs old new = StayBy cs old old.behind new.behind

-- they are those of a windowed query in a dataset, of which its answer can be found
pub record AreHeld (docs : List Tree) (r : Recorded) (b : Behind) : Type 0 where
  pub windowed : is_windowed (expression_of r.query) ≡ true
  pub are : AreBehind docs (expression_of r.query) (fields r.params) b
