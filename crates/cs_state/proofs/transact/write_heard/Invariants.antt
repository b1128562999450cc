use Rattle.std.proofs.Common.{◌≡◌, ◌++◌, drop, map}
use Rattle.cs_reply.specs.View.{event}
use Rattle.cs_state.specs.Does.{heard_lines}
use Rattle.cs_state.proofs.transact.write_heard.Given as goal

abbrev pub invariant-loop-heard : goal.invariant-loop-heard
invariant-loop-heard l =
    l.out.items ++ heard_lines l.line (map event (drop l.heard-index l.events))
    ≡ l.initial.out.items ++ heard_lines l.line (map event l.events)
