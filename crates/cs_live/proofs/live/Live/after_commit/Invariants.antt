use Rattle.std.proofs.Common.{◌≡◌, map}
use Rattle.cs_view.specs.View.{edits}
use Rattle.cs_live.specs.Entries.{said}
use Rattle.cs_live.specs.Fits.{IsUntouched}
use Rattle.cs_live.specs.Found.{AreFound}
use Rattle.cs_live.proofs.Bringing.{Loop}
use Rattle.cs_live.proofs.live.Live.after_commit.Given as goal

abbrev pub invariant-loop-number : goal.invariant-loop-number
invariant-loop-number g l = record {
  loop : Loop (g.V.View.docs l.view) (edits l.changes) l.fn.self.entries.items l.self.entries.items (map said l.lines.items) l.number-items l.number-index;
  found : AreFound l.self;
  quiet : IsUntouched l.fn.self (edits l.changes) → l.steps ≡ l.fn.steps;
}
