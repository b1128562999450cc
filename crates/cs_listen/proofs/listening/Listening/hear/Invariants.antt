use Rattle.std.proofs.Common.{◌≡◌, ◌++◌, drop, map}
use Rattle.std.specs.Prelude.{filter_map}
use Rattle.cs_view.specs.View.{edits}
use Rattle.cs_listen.specs.Events.{heard}
use Rattle.cs_listen.specs.Listeners.{listener}
use Rattle.cs_reply.specs.View.{event}
use Rattle.cs_listen.proofs.listening.Listening.hear.Given as goal

abbrev pub invariant-loop-change : goal.invariant-loop-change
invariant-loop-change l =
    map event l.heard.items
    ++ filter_map (heard l.tx l.moment (listener l.self)) (edits (drop l.change-index l.changes))
    ≡ map event l.initial.heard.items
    ++ filter_map (heard l.tx l.moment (listener l.self)) (edits l.changes)
