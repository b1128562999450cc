use Rattle.cs_docs.specs.Store.{docs}
use Rattle.cs_core.proofs.machine.Core.add_live.Goals as goal

pub returns-in_err-line-clause-usable : goal.returns-in_err-line-clause-usable
returns-in_err-line-clause-usable g c =
    record {
      unspent = c.requires.usable.unspent;
      fitting = record {
        lives = c.in_err-line.ensures.fits_still (docs c.args.self.now.state.docs)
            c.requires.usable.fitting.lives;
        index = c.requires.usable.fitting.index;
      };
    }
