use Rattle.std.proofs.Common.{◌≡◌, drop, map}
use Rattle.cs_syntax.specs.Expression.{keys_of}
use Rattle.cs_syntax.specs.View.{order_key_of}
use Rattle.cs_plan.specs.Simple.{quiet_keys}
use Rattle.cs_past.proofs.past.are_quiet.Given as goal

abbrev pub invariant-loop-key : goal.invariant-loop-key
invariant-loop-key l = quiet_keys (keys_of (map order_key_of l.order)) ≡ quiet_keys (keys_of (map order_key_of (drop l.key-index l.order)))
