use Rattle.std.proofs.Common.{Some, None}
use Rattle.cs_value.specs.View.{fields}
use Rattle.cs_wire.proofs.Asking.{query_asks}
use Rattle.cs_wire.proofs.command.query.Goals as goal

pub returns-in_err-params : goal.returns-in_err-params
returns-in_err-params c =
    rw c.from_residual-in_err-params.ensures (query_asks (fields c.args.object) _ (Some c.in_ok-text.text) None c.in_ok-text.ensures.taken c.take_text.ensures.left c.in_err-params.ensures.taken)

pub returns : goal.returns
returns c = query_asks (fields c.args.object) _ (Some c.in_ok-text.text) (Some (fields c.in_ok-params.params)) c.in_ok-text.ensures.taken c.take_text.ensures.left c.in_ok-params.ensures.taken
