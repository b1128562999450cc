use Rattle.std.proofs.Common.{subst, sym}
use Rattle.cs_view.specs.View.{edits}
use Rattle.cs_interest.specs.Interest.{AreAsked}
use Rattle.cs_interest.proofs.Pairs.{no_keys, none_asked}
use Rattle.cs_interest.proofs.interest.Interest.asked.Goals as goal

pub returns-then-is_empty : goal.returns-then-is_empty
returns-then-is_empty c =
    subst (AreAsked c.args.self.now (edits c.args.changes.now)) (sym c.new.ensures.items)
    (none_asked c.args.self.now (no_keys c.args.self.now.pairs.keys (c.is_empty.ensures.0 c.if-is_empty.true)) (edits c.args.changes.now))
