use Rattle.cs_json.proofs.Outcomes.{direct, direct_within}
use Rattle.cs_json.proofs.de.ValueReader.read.Goals as goal

pub returns-in-Some-clause-outcome : goal.returns-in-Some-clause-outcome
returns-in-Some-clause-outcome c = direct c.args.deepest c.args.bytes.now c.in-Some.val c.in-Some.ensures.value c.in-Some.ensures.fits.1

pub returns-in-Some-clause-within : goal.returns-in-Some-clause-within
returns-in-Some-clause-within c = direct_within c.args.bytes.now c.in-Some.val c.in-Some.ensures.value
