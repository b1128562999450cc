use Rattle.std.proofs.Common.{sym, ◌∙◌}
use Rattle.cs_func.proofs.Runs.{star-fits}
use Rattle.cs_func.proofs.path.fits.Goals as goal

pub returns-then-eq : goal.returns-then-eq
returns-then-eq c = star-fits c.args.part.now _ c.args.segment.now _ (sym c.eq.ensures ∙ c.if-eq.true) c.as_bytes.ensures.value c.requires.segment c.is_empty.ensures
