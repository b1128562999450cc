use Rattle.std.proofs.Common.{◌≡◌, map, take}
use Rattle.cs_value.specs.View.{tree}
use Rattle.cs_hits.specs.Shares.{share_values}
use Rattle.cs_hits.proofs.shares.answer_of.Given as goal

abbrev pub invariant-loop-share : goal.invariant-loop-share
invariant-loop-share l = map tree l.list.items ≡ share_values (take l.share-index l.shares)
