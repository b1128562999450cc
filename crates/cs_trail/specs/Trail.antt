-- Steps that are names and dereferences alone, and what they make of a value: GROQ-1.revision1,
-- "Attribute access", "Dereference". For private clauses.
use Rattle.std.specs.Prelude.{Bool, ◌&&◌, true, false, List, [], ◌++◌}
use Rattle.cs_value.specs.Tree.{Tree}
use Rattle.cs_value.specs.Words.{field}
use Rattle.cs_syntax.specs.Expression.{Step, attr, deref, Steps, no_steps, more_steps}
use Rattle.cs_view.specs.declared.key.Key.{Key}
use Rattle.cs_meaning.specs.Operators.{reference_of, sought}
use Rattle.cs_meaning.specs.Looked.{id_looked}

-- a name or a dereference
abbrev pub is_link : Step → Bool
is_link (attr w) = true
is_link deref = true
is_link _ = false

abbrev pub is_trail : Steps → Bool
is_trail no_steps = true
is_trail (more_steps s ss) = is_link s && is_trail ss

-- what a name and a dereference make of a value; what another step makes is said elsewhere
abbrev pub linked : List Tree → Step → Tree → Tree
linked docs (attr w) v = field w v
linked docs deref v = sought docs (reference_of v)
linked docs _ v = v

-- what they look up
abbrev pub link_looked : Step → Tree → List Key
link_looked deref v = id_looked (reference_of v)
link_looked _ v = []

abbrev pub trailed : List Tree → Steps → Tree → Tree
trailed docs no_steps v = v
trailed docs (more_steps s ss) v = trailed docs ss (linked docs s v)

abbrev pub trail_looked : List Tree → Steps → Tree → List Key
trail_looked docs no_steps v = []
trail_looked docs (more_steps s ss) v = link_looked s v ++ trail_looked docs ss (linked docs s v)
