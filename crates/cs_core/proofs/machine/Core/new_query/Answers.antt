use Rattle.std.proofs.Common.{refl, subst}
use Rattle.std.proofs.lemmas.Result.{IfOk-weaker}
use Rattle.cs_parse.specs.Verdict.{reading_of}
use Rattle.cs_meaning.specs.Values.{query_value}
use Rattle.cs_reply.specs.Reply.{found, reply_tree}
use Rattle.cs_reply.specs.View.{Appended}
use Rattle.cs_syntax.specs.Expression.{Expression}
use Rattle.cs_syntax.specs.Queries.{expression_of}
use Rattle.cs_value.specs.View.{fields}
use Rattle.cs_core.specs.Core.{state}
use Rattle.cs_machine.specs.State.{State, answered}
use Rattle.cs_state.proofs.Replying.{does_as}
use Rattle.cs_core.proofs.Replying.{says, read_text, refused_text}
use Rattle.cs_core.proofs.machine.Core.new_query.Goals as goal

pub returns-in-Ok-clause-does : goal.returns-in-Ok-clause-does
returns-in-Ok-clause-does g c =
    let core = c.make_ready.new.self in
    let s = state c.args.self.now in
    let ps = fields c.args.params.now in
    let e = expression_of c.in-Ok.query in
    let next = λ (e : Expression). answered s (found (query_value s.docs ps e)) in
    let is = read_text s c.args.text.now next e c.in-Ok.ensures in
    let same = c.make_ready.ensures.state in
    let told =
    subst (λ (t : State). Appended c.args.out.now.items c.find.new.out.items
    (reply_tree c.args.line (found (query_value t.docs ps e)))) same
    c.in-Ok-find.ensures.appended in
    does_as _ _ _ core.state c.args.line _ _ is
    (says _ _ _ core s c.args.line (found (query_value s.docs ps e)) same
    c.make_ready.ensures.usable
    (record { replies = refl; events = refl; live = refl; refused = refl }) told)

pub returns-in-Some-clause-does : goal.returns-in-Some-clause-does
returns-in-Some-clause-does g c =
    let s = state c.args.self.now in
    let next = λ (e : Expression). answered s (found (query_value s.docs (fields c.args.params.now) e)) in
    let is = refused_text s c.args.text.now next (reading_of c.in-Err.fault) _ c.in-Err.ensures c.in-Some.ensures in
    IfOk-weaker c.refuse.result _ _ (λ t h. does_as _ _ t c.args.self.now.state c.args.line _ _ is h) c.refuse.ensures
