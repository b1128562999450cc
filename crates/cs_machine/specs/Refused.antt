-- How a line is refused, and what is done with the query that a text is: this project's profile.
use Rattle.std.specs.Prelude.{ℕ, List}
use Rattle.cs_syntax.specs.Expression.{Expression}
use Rattle.cs_parse.specs.Verdict.{Reading, query, bad_token, too_deep, no_syntax, faulty, verdict}
use Rattle.cs_reply.specs.Reply.{refused}
use Rattle.cs_reply.specs.Refusal as why
use Rattle.cs_machine.specs.Causes.{of_fault}
use Rattle.cs_machine.specs.Fold.{Stepped}
use Rattle.cs_machine.specs.State.{State, answered}

-- the line is refused, and nothing changes
abbrev pub refuse : State → why.Refusal → Stepped State
refuse s r = answered s (refused r)

-- what is done with the query that a text is: where it is none the line is refused
abbrev pub by_reading : State → Reading → (Expression → Stepped State) → Stepped State
by_reading s (query e) next = next e
by_reading s (bad_token at) next = refuse s (why.bad_token at)
by_reading s too_deep next = refuse s why.deep_query
by_reading s no_syntax next = refuse s why.syntax
by_reading s (faulty f) next = refuse s (of_fault f)

abbrev pub with_query : State → List ℕ → (Expression → Stepped State) → Stepped State
with_query s text next = by_reading s (verdict text) next
