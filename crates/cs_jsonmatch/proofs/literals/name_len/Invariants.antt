use Rattle.cs_jsonmatch.proofs.Names.{IsReadTo}
use Rattle.cs_jsonmatch.proofs.literals.name_len.Given as goal

abbrev pub invariant-loop-at : goal.invariant-loop-at
invariant-loop-at l = IsReadTo l.text l.at
