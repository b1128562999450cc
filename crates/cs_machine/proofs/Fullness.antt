-- There is room for so many live queries, and for no more.
use Rattle.std.proofs.Common.{◌≡◌, ℕ, pos, [], ◌∷◌, replicate, codes, refl}
use Rattle.cs_grammar.specs.Reading.{read}
use Rattle.cs_parse.specs.Spelling.{expression_in}
use Rattle.cs_parse.specs.Tokens.{tokens_from}
use Rattle.cs_parse.specs.Verdict.{verdict}
use Rattle.cs_syntax.specs.Expression.{null_literal}
use Rattle.cs_value.specs.Tree.{integer, null, no_pairs}
use Rattle.cs_reply.specs.Refusal.{full_subscriptions}
use Rattle.cs_reply.specs.Reply.{live}
use Rattle.cs_live.specs.Lives.{LiveQuery}
use Rattle.cs_machine.specs.Refused.{refuse}
use Rattle.cs_machine.specs.Replies.{said}
use Rattle.cs_machine.specs.Rows.{row_live}
use Rattle.cs_machine.specs.State.{State, begun, with_lives}

one_live : LiveQuery
one_live = record { name = codes "v"; query = null_literal; params = no_pairs; last = null }

with_so_many : ℕ → State
with_so_many n = with_lives (replicate n one_live) (begun [])

one_too_many :
    row_live (with_so_many 1024) (codes "w") (codes "1") no_pairs
    ≡ refuse (with_so_many 1024) (full_subscriptions 1024)
unfolding with_so_many one_live verdict tokens_from expression_in read
one_too_many = refl

the_last_one :
    (row_live (with_so_many 1023) (codes "w") (codes "1") no_pairs).replies
    ≡ said (live (codes "w") (integer (pos 1))) ∷ []
unfolding with_so_many one_live verdict tokens_from expression_in read
the_last_one = refl
