use Rattle.std.proofs.Common.{subst}
use Rattle.cs_docs.specs.Store.{docs}
use Rattle.cs_docs.specs.declared.docs.Docs.{Docs}
use Rattle.cs_live.specs.Fits.{Fits}
use Rattle.cs_state.proofs.Storing.{ok_on}
use Rattle.cs_state.proofs.state.State.tell_live.Goals as goal

pub returns-clause-fits : goal.returns-clause-fits
returns-clause-fits g c =
    ok_on c.tally.result
    (subst (λ (d : Docs). Fits c.after_commit.new.self (docs d)) c.of-store.ensures
    c.in_ok-answers.ensures.fits)
