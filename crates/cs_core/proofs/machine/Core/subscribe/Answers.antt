use Rattle.std.proofs.Common.{◌≡◌, ◌∙◌, ◌++◌, ◌∷◌, [], false, length, refl, rules}
use Rattle.std.proofs.lemmas.Result.{IfOk-weaker}
use Rattle.cs_value.specs.View.{fields}
use Rattle.cs_syntax.specs.Queries.{expression_of}
use Rattle.cs_listen.specs.Listeners.{is_listening}
use Rattle.cs_live.specs.Lives.{made, say}
use Rattle.cs_reply.specs.Reply.{live}
use Rattle.cs_machine.specs.Rows.{lively}
use Rattle.cs_machine.specs.State.{with_lives}
use Rattle.cs_core.specs.Core.{state}
use Rattle.cs_core.proofs.Living.{made_with_room, taken_by_listener, taken_back}
use Rattle.cs_core.proofs.Replying.{says}
use Rattle.cs_state.proofs.Replying.{does_as, same_kept, kept_on}
use Rattle.cs_core.proofs.machine.Core.subscribe.Goals as goal

pub returns-then-has-clause-does : goal.returns-then-has-clause-does
returns-then-has-clause-does g c =
    let core = c.args.self.now in
    let s = state core in
    let first = made s.docs c.args.name (expression_of c.args.query) (fields c.args.params) in
    let taken = taken_by_listener s c.args.name _ (length s.lives) (lively s first)
    c.as_str-name.ensures (search rules) in
    IfOk-weaker c.refuse-told.result _ _ (λ t h. does_as _ _ t core.state c.args.line _ _ taken h)
    c.refuse-told.ensures

pub returns-then-has-clause-kept : goal.returns-then-has-clause-kept
returns-then-has-clause-kept g c =
    kept_on c.refuse-told.result (same_kept c.args.self.now.state c.requires.usable)

pub returns-in-Ok-add_live-clause-kept : goal.returns-in-Ok-add_live-clause-kept
returns-in-Ok-add_live-clause-kept g c =
    record {
      state_is = c.forget_live.ensures.state
          ∙ taken_back (state c.args.self.now) (state c.add_live.new.self) c.args.name
          c.as_str-in-Err.result.now (expression_of c.args.query) (fields c.args.params)
          c.in-Ok-add_live.ensures.state c.in-Ok-add_live.ensures.room (search rules);
      usable = c.forget_live.ensures.usable;
    }

pub returns-in-Ok-write_answer-clause-does : goal.returns-in-Ok-write_answer-clause-does
returns-in-Ok-write_answer-clause-does g c =
    let s = state c.args.self.now in
    let m = made s.docs c.args.name (expression_of c.args.query) (fields c.args.params) in
    let core = c.add_live.new.self in
    let none : is_listening c.as_str.result.now s.listeners ≡ false
    = cc (c.has.ensures, c.if-has.false) in
    does_as c.args.out.now.items c.write_answer.new.out.items _ core.state c.args.line (lively s m) _
    (made_with_room s c.args.name c.as_str.result.now (lively s m) c.as_str.ensures none
    c.in-Ok-add_live.ensures.room)
    (says c.args.out.now.items c.write_answer.new.out.items _ core
    (with_lives (s.lives ++ m ∷ []) s) c.args.line (live m.name m.last) c.in-Ok-add_live.ensures.state
    c.add_live.ensures.usable
    (record { replies = refl; events = refl; live = refl; refused = refl })
    (c.in-Ok-write_answer.ensures (say m) c.in-Ok-add_live.ensures.line))
