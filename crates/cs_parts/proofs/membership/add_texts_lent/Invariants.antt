use Rattle.std.proofs.Common.{◌≡◌, ◌++◌, drop, map}
use Rattle.std.specs.Prelude.{filter_map}
use Rattle.cs_value.specs.View.{tree}
use Rattle.cs_value.specs.Words.{as_text}
use Rattle.cs_parts.proofs.membership.add_texts_lent.Given as goal

abbrev pub invariant-loop-val : goal.invariant-loop-val
invariant-loop-val l = map (λ t. t.now) l.found.items ++ filter_map as_text (map (λ r. tree r.now) (drop l.val-index l.vals)) ≡ map (λ t. t.now) l.initial.found.items ++ filter_map as_text (map (λ r. tree r.now) l.vals)
