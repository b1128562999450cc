use Rattle.std.proofs.Common.{◌≡◌}
use Rattle.cs_state.specs.State.{state, IsUsable}
use Rattle.cs_state.proofs.state.State.make_ready_for.Given as goal

abbrev pub invariant-loop-mutation : goal.invariant-loop-mutation
invariant-loop-mutation l =
    (state l.self ≡ state l.fn.self)
    × IsUsable l.self
    × (l.self.live ≡ l.fn.self.live)
    × (l.self.used ≡ l.fn.self.used)
