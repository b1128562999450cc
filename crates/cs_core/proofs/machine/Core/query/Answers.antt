use Rattle.std.proofs.Common.{refl}
use Rattle.cs_meaning.specs.Values.{query_value}
use Rattle.cs_reply.specs.Reply.{found}
use Rattle.cs_syntax.specs.Expression.{Expression}
use Rattle.cs_syntax.specs.Queries.{expression_of}
use Rattle.cs_value.specs.View.{fields}
use Rattle.cs_core.specs.Core.{state}
use Rattle.cs_machine.specs.State.{answered}
use Rattle.cs_state.proofs.Replying.{does_as}
use Rattle.cs_core.proofs.Replying.{says, read_text}
use Rattle.cs_core.proofs.machine.Core.query.Goals as goal

pub returns-in-Some-clause-does : goal.returns-in-Some-clause-does
returns-in-Some-clause-does g c =
    let s = state c.args.self.now in
    let value = query_value s.docs (fields c.args.params.now) (expression_of c.in-Some.query.now) in
    let next = λ (e : Expression). answered s (found (query_value s.docs (fields c.args.params.now) e)) in
    let is = read_text s c.args.text.now next (expression_of c.in-Some.query.now) c.in-Some.ensures in
    does_as _ _ _ c.args.self.now.state c.args.line _ _ is
    (says _ _ _ c.args.self.now s c.args.line (found value) refl c.requires.usable
    (record { replies = refl; events = refl; live = refl; refused = refl }) c.in_ok-find.ensures.appended)
