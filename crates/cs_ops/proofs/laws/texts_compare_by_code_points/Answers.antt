use Rattle.std.proofs.Common.{Some, ap}
use Rattle.cs_ops.proofs.CodePoints.{by_code_points}
use Rattle.cs_ops.proofs.laws.texts_compare_by_code_points.Goals as goal

pub returns : goal.returns
returns c = λ s t u v. ap Some (by_code_points s t u v)
