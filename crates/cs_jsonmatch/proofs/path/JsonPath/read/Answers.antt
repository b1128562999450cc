use Rattle.std.proofs.Common.{subst}
use Rattle.cs_jsonmatch.specs.View.{path_of}
use Rattle.cs_jsonmatch.specs.Machine.{start}
use Rattle.cs_jsonmatch.specs.Reading.{reading, IsStop}
use Rattle.cs_jsonmatch.proofs.Fault.{cut_shorter}
use Rattle.cs_jsonmatch.proofs.Verdicts.{path_told, fault_told}
use Rattle.cs_jsonmatch.proofs.path.JsonPath.read.Goals as goal

pub overflow_sub-at : goal.overflow_sub-at
overflow_sub-at c =
    let text = c.args.text.now in
    let rest = c.steps.new.self.rest.now in
    cut_shorter text rest start (subst (λ e. IsStop e (reading text start) rest) c.in-Err-Here.field-0-is c.in-Err-Here.ensures)

pub returns-in-Ok : goal.returns-in-Ok
returns-in-Ok c = path_told c.args.text.now (path_of c.in-Ok.steps.items) c.in-Ok.ensures

pub returns-in-Err-Here : goal.returns-in-Err-Here
returns-in-Err-Here c =
    let text = c.args.text.now in
    let rest = c.steps.new.self.rest.now in
    fault_told text rest (subst (λ e. IsStop e (reading text start) rest) c.in-Err-Here.field-0-is c.in-Err-Here.ensures)
