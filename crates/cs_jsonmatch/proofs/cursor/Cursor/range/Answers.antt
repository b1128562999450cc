use Rattle.std.proofs.Common.{refl}
use Rattle.cs_jsonmatch.specs.Machine.{second}
use Rattle.cs_jsonmatch.proofs.Readings.{range_read, passed}
use Rattle.cs_jsonmatch.proofs.cursor.Cursor.range.Goals as goal

pub returns-in_err-int-clause-item : goal.returns-in_err-int-clause-item
returns-in_err-int-clause-item c p d is = passed c.from_residual.result _ _ _ _ _ refl (c.in_err-int.ensures.int p d is (second c.args.from)) c.from_residual.ensures.1

pub returns-clause-item : goal.returns-clause-item
returns-clause-item c p d is = range_read c.args.from c.in_ok-int.field-0 p d is c.args.self.now.rest.now c.int.new.self.rest.now (c.in_ok-int.ensures.int p d is (second c.args.from))
