use Rattle.std.proofs.Common.{Some, None, refl}
use Rattle.cs_value.specs.View.{fields}
use Rattle.cs_wire.proofs.Asking.{live_asks}
use Rattle.cs_wire.proofs.command.live.Goals as goal

pub returns-in_err-text : goal.returns-in_err-text
returns-in_err-text c =
    rw c.from_residual-in_err-text.ensures (live_asks (fields c.args.object) _ _ (Some c.in_ok-name.name) None _ c.in_ok-name.ensures.taken c.take_name.ensures.left c.in_err-text.ensures.taken refl refl)

pub returns-in_err-params : goal.returns-in_err-params
returns-in_err-params c =
    rw c.from_residual-in_err-params.ensures (live_asks (fields c.args.object) _ _ (Some c.in_ok-name.name) (Some c.in_ok-text.text) None c.in_ok-name.ensures.taken c.take_name.ensures.left
    c.in_ok-text.ensures.taken c.take_text.ensures.left c.in_err-params.ensures.taken)

pub returns : goal.returns
returns c =
    live_asks (fields c.args.object) _ _ (Some c.in_ok-name.name) (Some c.in_ok-text.text) (Some (fields c.in_ok-params.params)) c.in_ok-name.ensures.taken c.take_name.ensures.left
    c.in_ok-text.ensures.taken c.take_text.ensures.left c.in_ok-params.ensures.taken
