use Rattle.std.proofs.Common.{refl}
use Rattle.cs_docs.specs.Store.{docs}
use Rattle.cs_state.proofs.state.State.new.Goals as goal

pub returns-clause-usable : goal.returns-clause-usable
returns-clause-usable c =
    record {
      unspent = refl;
      fitting = record {
        lives = c.new-2.ensures.fits (docs c.args.docs);
        index = c.new-index.ensures c.args.docs;
      };
    }
