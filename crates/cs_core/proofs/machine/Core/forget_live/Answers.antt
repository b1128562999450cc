use Rattle.std.proofs.Common.{sym, ap, ◌∙◌, map}
use Rattle.cs_docs.specs.Store.{docs}
use Rattle.cs_live.specs.Entries.{live_query, lives}
use Rattle.cs_machine.specs.State.{with_lives}
use Rattle.cs_core.specs.Core.{state}
use Rattle.cs_core.proofs.Living.{none_goes}
use Rattle.cs_core.proofs.machine.Core.forget_live.Goals as goal

pub returns-in-Ok-clause-usable : goal.returns-in-Ok-clause-usable
returns-in-Ok-clause-usable c =
    let held = c.args.self.now.state in
    record {
      unspent = c.requires.usable.unspent;
      fitting = record {
        lives = c.remove.ensures.fits (docs held.docs) c.requires.usable.fitting.lives;
        index = c.requires.usable.fitting.index;
      };
    }

pub returns-in-Err-clause-usable : goal.returns-in-Err-clause-usable
returns-in-Err-clause-usable c =
    let held = c.args.self.now.state in
    record {
      unspent = c.requires.usable.unspent;
      fitting = record {
        lives = c.remove.ensures.fits (docs held.docs) c.requires.usable.fitting.lives;
        index = c.requires.usable.fitting.index;
      };
    }

pub returns-in-Err-clause-state : goal.returns-in-Err-clause-state
returns-in-Err-clause-state c =
    let held = c.args.self.now.state in
    let same = ap (map live_query) c.in-Err.ensures.unchanged in
    ap (λ living. with_lives living (state c.args.self.now))
    (same ∙ sym (none_goes c.args.name.now (lives held.live) c.in-Err.ensures.none))
