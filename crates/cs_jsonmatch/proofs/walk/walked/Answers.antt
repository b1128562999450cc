use Rattle.std.proofs.Common.{ap}
use Rattle.cs_value.specs.View.{tree}
use Rattle.cs_jsonmatch.specs.View.{locations}
use Rattle.cs_jsonmatch.proofs.Walks.{whole}
use Rattle.cs_jsonmatch.proofs.walk.walked.Goals as goal

pub returns : goal.returns
returns c =
    whole (locations c.walk.new.found.items) (locations c.new-found.result.items) c.args.above.items c.args.steps.now (tree c.args.val.now)
    (ap locations c.new-found.ensures.items) c.in_ok-walk.ensures.found
