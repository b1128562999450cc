-- The documents behind a query's answer, and what the steps behind its filter make of them: this
-- project's profile.
use Rattle.std.specs.Prelude.{ℕ, length, filter, List, [], ◌∷◌, ◌++◌, Bool}
use Rattle.cs_value.specs.Words.{list_of}
use Rattle.cs_value.specs.Tree.{Tree, null, Pairs}
use Rattle.cs_syntax.specs.Expression.{Expression}
use Rattle.cs_view.specs.Keys.{having}
use Rattle.cs_view.specs.declared.key.Key.{Key}
use Rattle.cs_plan.specs.Simple.{filter_of, tail_of, steps_behind, query_key}
use Rattle.cs_meaning.specs.Joining.{kind, entrance, entered}
use Rattle.cs_meaning.specs.Looked.{entered_looked, pipes_looked, rest_looked}
use Rattle.cs_meaning.specs.Operators.{is_true}
use Rattle.cs_meaning.specs.Values.{value, rest_value, pipes_value}

-- The filter that stands first in a query is true of the document, where no dataset is asked.
abbrev pub is_hit : Expression → Pairs → Tree → Bool
is_hit e params d = is_true (value [] params (filter_of (steps_behind e)) (d ∷ null ∷ []))

-- The documents that make the filter true, in the order of the dataset.
abbrev pub hits : Expression → Pairs → List Tree → List Tree
hits e params docs = filter (is_hit e params) docs

-- What the steps behind the filter make of these documents over a dataset.
abbrev pub tail_over : List Tree → Expression → Pairs → List Tree → Tree
tail_over docs e params ds =
    let ss = tail_of (steps_behind e) in
    pipes_value docs params ss (null ∷ [])
    (entered (entrance (kind ss)) (rest_value docs params ss (null ∷ [])) (list_of ds))

-- What they look up.
abbrev pub tail_looked : List Tree → Expression → Pairs → List Tree → List Key
tail_looked docs e params ds =
    let ss = tail_of (steps_behind e) in
    entered_looked (entrance (kind ss)) (rest_looked docs params ss (null ∷ [])) (list_of ds)
    ++ pipes_looked docs params ss (null ∷ [])
    (entered (entrance (kind ss)) (rest_value docs params ss (null ∷ [])) (list_of ds))

-- What they make of them where no dataset is asked.
abbrev pub tail : Expression → Pairs → List Tree → Tree
tail e params ds = tail_over [] e params ds

-- How many documents have the key of the query.
abbrev pub cost : Expression → Pairs → List Tree → ℕ
cost e params docs = length (having (query_key e params) docs)
