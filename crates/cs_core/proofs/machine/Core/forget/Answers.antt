use Rattle.std.proofs.Common.{sym, ap, ◌∙◌}
use Rattle.cs_listen.specs.Listeners.{listeners, without}
use Rattle.cs_live.specs.Lives.{without_name}
use Rattle.cs_machine.specs.State.{State, with_lives, with_listeners}
use Rattle.cs_core.specs.Core.{state}
use Rattle.cs_core.proofs.Living.{none_leaves}
use Rattle.cs_core.proofs.machine.Core.forget.Goals as goal

pub returns-in-Err-clause-state : goal.returns-in-Err-clause-state
returns-in-Err-clause-state c =
    let name = c.args.name.now in
    let mid = c.forget_live.new.self in
    let old = state c.args.self.now in
    let heard = listeners mid.state.listeners in
    let left = with_lives (without_name name old.lives) old in
    let is = c.forget_live.ensures.state in
    ap (λ ls. with_listeners ls (state mid))
    (c.in-Err.ensures.unchanged ∙ sym (none_leaves name heard c.in-Err.ensures.none))
    ∙ ap (λ (s : State). with_listeners (without name heard) s) is
    ∙ ap (λ (s : State). with_listeners (without name s.listeners) left) is
