use Rattle.std.proofs.Common.{ℕ, List}
use Rattle.std.proofs.lemmas.Slice.Eq.{slice_eq-Decides, bytes_eq-Decides}
use Rattle.cs_codes.proofs.kind.are_same.Goals as goal

pub returns : goal.returns
returns c = λ h. (slice_eq-Decides (λ (a b : List ℕ). bytes_eq-Decides a b) c.args.one.now c.args.other.now c.eq.result c.eq.ensures).0 h
