use Rattle.cs_value.specs.View.{tree}
use Rattle.cs_jsonmatch.proofs.select.selects_key.Goals as goal

pub returns-in-Name : goal.returns-in-Name
returns-in-Name c = rw (c.in-Name.is) (c.selects_named.ensures c.args.count (tree c.args.val.now))
