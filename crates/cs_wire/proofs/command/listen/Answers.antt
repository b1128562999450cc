use Rattle.std.proofs.Common.{Some, None, refl}
use Rattle.cs_value.specs.View.{fields}
use Rattle.cs_wire.proofs.Asking.{listen_asks}
use Rattle.cs_wire.proofs.command.listen.Goals as goal

pub returns-in_err-text : goal.returns-in_err-text
returns-in_err-text c =
    rw c.from_residual-in_err-text.ensures (listen_asks (fields c.args.object) _ _ _ _ (Some c.in_ok-name.name) None _ _ _ c.in_ok-name.ensures.taken c.take_name.ensures.left
    c.in_err-text.ensures.taken refl refl refl refl refl refl)

pub returns-in_err-params : goal.returns-in_err-params
returns-in_err-params c =
    rw c.from_residual-in_err-params.ensures (listen_asks (fields c.args.object) _ _ _ _ (Some c.in_ok-name.name) (Some c.in_ok-text.text) None _ _ c.in_ok-name.ensures.taken c.take_name.ensures.left
    c.in_ok-text.ensures.taken c.take_text.ensures.left c.in_err-params.ensures.taken refl refl refl refl)

pub returns-in_err-include_result : goal.returns-in_err-include_result
returns-in_err-include_result c =
    rw c.from_residual-in_err-include_result.ensures (listen_asks (fields c.args.object) _ _ _ _ (Some c.in_ok-name.name) (Some c.in_ok-text.text) (Some (fields c.in_ok-params.params)) None _ c.in_ok-name.ensures.taken c.take_name.ensures.left
    c.in_ok-text.ensures.taken c.take_text.ensures.left c.in_ok-params.ensures.taken c.take_params.ensures.left c.in_err-include_result.ensures.taken refl refl)

pub returns-in_err-include_previous : goal.returns-in_err-include_previous
returns-in_err-include_previous c =
    rw c.from_residual-in_err-include_previous.ensures (listen_asks (fields c.args.object) _ _ _ _ (Some c.in_ok-name.name) (Some c.in_ok-text.text) (Some (fields c.in_ok-params.params)) (Some c.in_ok-include_result.include_result) None c.in_ok-name.ensures.taken c.take_name.ensures.left
    c.in_ok-text.ensures.taken c.take_text.ensures.left c.in_ok-params.ensures.taken c.take_params.ensures.left c.in_ok-include_result.ensures.taken c.take_flag.ensures.left c.in_err-include_previous.ensures.taken)

pub returns : goal.returns
returns c =
    listen_asks (fields c.args.object) _ _ _ _ (Some c.in_ok-name.name) (Some c.in_ok-text.text) (Some (fields c.in_ok-params.params)) (Some c.in_ok-include_result.include_result) (Some c.in_ok-include_previous.include_previous)
    c.in_ok-name.ensures.taken c.take_name.ensures.left c.in_ok-text.ensures.taken c.take_text.ensures.left c.in_ok-params.ensures.taken c.take_params.ensures.left
    c.in_ok-include_result.ensures.taken c.take_flag.ensures.left c.in_ok-include_previous.ensures.taken
