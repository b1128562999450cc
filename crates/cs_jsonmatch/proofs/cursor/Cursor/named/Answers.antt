use Rattle.cs_jsonmatch.proofs.Readings.{step_name}
use Rattle.cs_jsonmatch.proofs.cursor.Cursor.named.Goals as goal

pub returns-clause-step : goal.returns-clause-step
returns-clause-step c s0 p h = step_name s0 p c.args.deep c.in_ok-name.field-0 c.args.self.now.rest.now c.name.new.self.rest.now h c.in_ok-name.ensures.name
