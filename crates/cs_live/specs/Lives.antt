-- Live queries as the plain machine holds them: this project's profile.
use Rattle.std.specs.Prelude.{ℕ, List, [], ◌∷◌, cond, map, filter, Bool, not, Option, Some, None}
use Rattle.std.specs.List.{list_any, list_all}
use Rattle.std.specs.Str.{bytes_eq}
use Rattle.cs_value.specs.Tree.{Tree, Pairs}
use Rattle.cs_json.specs.Text.{json_text}
use Rattle.cs_syntax.specs.Expression.{Expression}
use Rattle.cs_plan.specs.Simple.{is_simple}
use Rattle.cs_meaning.specs.Values.{query_value}
use Rattle.cs_value.specs.Same.{same_tree}

-- a live query: its name, what it asks, and its last answer
pub record LiveQuery : Type 0 where
  pub name : List ℕ
  pub query : Expression
  pub params : Pairs
  pub last : Tree

-- each of the queries is simple
abbrev pub are_simple_lives : List LiveQuery → Bool
are_simple_lives es = list_all (λ e. is_simple e.query) es

-- its value over a dataset
abbrev pub value_of : List Tree → LiveQuery → Tree
value_of docs e = query_value docs e.params e.query

-- its value over the dataset is another tree than its last answer
abbrev pub is_stale : List Tree → LiveQuery → Bool
is_stale docs e = not (same_tree (value_of docs e) e.last)

-- the same with its value over the dataset as its last answer
abbrev pub refreshed : List Tree → LiveQuery → LiveQuery
refreshed docs e =
    record { name = e.name; query = e.query; params = e.params; last = value_of docs e }

abbrev pub all_refreshed : List Tree → List LiveQuery → List LiveQuery
all_refreshed docs es = map (refreshed docs) es

-- what is said of a live query whose answer is another: its name and the answer
abbrev pub Said : Type 0
Said = List ℕ × Tree

abbrev pub say : LiveQuery → Said
say e = (e.name, e.last)

-- the same with the answer's compact text
abbrev pub Worded : Type 0
Worded = List ℕ × List ℕ

abbrev pub worded : Said → Worded
worded s = (s.0, json_text s.1)

-- one line for each live query whose value over the dataset is another tree than its last answer,
-- in the order made
abbrev pub news : List Tree → List LiveQuery → List Said
news docs es = map say (all_refreshed docs (filter (is_stale docs) es))

-- the line of one of them, where it has one
abbrev pub news_of : List Tree → LiveQuery → List Said
news_of docs e = cond (is_stale docs e) (say (refreshed docs e) ∷ []) []

abbrev pub has_live_name : List ℕ → LiveQuery → Bool
has_live_name name e = bytes_eq name e.name

-- some live query has the name
abbrev pub is_named : List ℕ → List LiveQuery → Bool
is_named name es = list_any (has_live_name name) es

-- those left when the one of the name, the first where there are several, is removed
abbrev pub without_name : List ℕ → List LiveQuery → List LiveQuery
without_name name [] = []
without_name name (e ∷ es) = cond (has_live_name name e) es (e ∷ without_name name es)

-- the last answer of the live query of the name, the first where there are several
abbrev pub answer_of : List ℕ → List LiveQuery → Option Tree
answer_of name [] = None
answer_of name (e ∷ es) = cond (has_live_name name e) (Some e.last) (answer_of name es)

-- a live query as it is made over a dataset
abbrev pub made : List Tree → List ℕ → Expression → Pairs → LiveQuery
made docs name q params =
    record { name = name; query = q; params = params; last = query_value docs params q }
