use Rattle.std.proofs.Common.{Some, None, codes, refl}
use Rattle.cs_value.specs.View.{fields}
use Rattle.cs_body.specs.Taken.{aim_keys}
use Rattle.cs_body.proofs.Taken.{query_asks}
use Rattle.cs_body.proofs.Takes.{keeps_both, keeps_others}
use Rattle.cs_body.proofs.target.take_query.Goals as goal

pub returns-in_err-text-clause-left : goal.returns-in_err-text-clause-left
returns-in_err-text-clause-left c = keeps_others aim_keys (codes "query") _ _ refl c.take_text.ensures.left

pub returns-in_err-params-clause-taken : goal.returns-in_err-params-clause-taken
returns-in_err-params-clause-taken c =
    rw c.from_residual-in_err-params.ensures (query_asks (fields c.args.object.now) _ (Some c.in_ok-text.text) None c.in_ok-text.ensures.taken c.take_text.ensures.left c.in_err-params.ensures.taken)

pub returns-in_err-params-clause-left : goal.returns-in_err-params-clause-left
returns-in_err-params-clause-left c =
    keeps_both aim_keys _ _ _ (keeps_others aim_keys (codes "query") _ _ refl c.take_text.ensures.left) (keeps_others aim_keys (codes "params") _ _ refl c.take_params.ensures.left)

pub returns-clause-taken : goal.returns-clause-taken
returns-clause-taken c =
    query_asks (fields c.args.object.now) _ (Some c.in_ok-text.text) (Some (fields c.in_ok-params.params)) c.in_ok-text.ensures.taken c.take_text.ensures.left c.in_ok-params.ensures.taken

pub returns-clause-left : goal.returns-clause-left
returns-clause-left c =
    keeps_both aim_keys _ _ _ (keeps_others aim_keys (codes "query") _ _ refl c.take_text.ensures.left) (keeps_others aim_keys (codes "params") _ _ refl c.take_params.ensures.left)
