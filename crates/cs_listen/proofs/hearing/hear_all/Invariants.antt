use Rattle.std.proofs.Common.{◌≡◌, ◌++◌, drop, map}
use Rattle.cs_view.specs.View.{edits}
use Rattle.cs_listen.specs.Told.{all_told}
use Rattle.cs_reply.specs.View.{event}
use Rattle.cs_listen.proofs.hearing.hear_all.Given as goal

abbrev pub invariant-loop-number : goal.invariant-loop-number
invariant-loop-number l =
    map event l.heard.items ++ all_told l.tx l.moment (edits l.changes) l.made (drop l.number-index l.numbers)
    ≡ all_told l.tx l.moment (edits l.changes) l.made l.numbers
