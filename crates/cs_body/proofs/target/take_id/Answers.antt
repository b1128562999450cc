use Rattle.std.proofs.Common.{codes, refl}
use Rattle.cs_body.specs.Taken.{aim_keys}
use Rattle.cs_body.proofs.Takes.{keeps_others}
use Rattle.cs_body.proofs.target.take_id.Goals as goal

pub returns-in_err-id-clause-left : goal.returns-in_err-id-clause-left
returns-in_err-id-clause-left c = keeps_others aim_keys (codes "id") _ _ refl c.take_text.ensures.left

pub returns-clause-left : goal.returns-clause-left
returns-clause-left c = keeps_others aim_keys (codes "id") _ _ refl c.take_text.ensures.left
