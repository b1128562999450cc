use Rattle.std.proofs.Common.{◌≡◌, drop, map}
use Rattle.cs_listen.specs.Listeners.{is_listening, listener}
use Rattle.cs_listen.proofs.listeners.Listeners.number.Given as goal

abbrev pub invariant-loop-listening : goal.invariant-loop-listening
invariant-loop-listening l =
    is_listening l.name (map listener (drop l.listening-index l.listening-items))
    ≡ is_listening l.name (map listener l.listening-items)
