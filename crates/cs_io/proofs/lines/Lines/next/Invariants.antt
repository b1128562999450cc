use Rattle.std.proofs.Common.{length, ◌-◌, ◌≡◌, ◌≢◌, ℕ, ◌<◌, ◌≤◌, true}
use Rattle.std.specs.Io.KnownBytes.{Consumes}
use Rattle.cs_io.specs.Lines.{IsPlain, longest_line, largest_source}
use Rattle.cs_io.specs.Names.{is_open}
use Rattle.cs_io.specs.Reader.{OnlyReads, InStep, feed_at, rest_at}
use Rattle.cs_io.specs.Moves.{SameFeed, feed_after}
use Rattle.cs_io.proofs.lines.Lines.next.Given as goal

abbrev pub invariant-loop-bytes : goal.invariant-loop-bytes
invariant-loop-bytes g l = record {
  opened : is_open (g.Lb.Library.asked l.library) l.self.which ≡ true;
  in_step : InStep l.self (g.Lb.Library.left l.library l.self.which);
  which : l.self.which ≡ l.initial.self.which;
  given : l.self.given ≡ l.initial.self.given;
  feeds : SameFeed (feed_at l.initial.self (g.Lb.Library.left l.initial.library l.initial.self.which)) (feed_after l.self l.bytes.items (g.Lb.Library.left l.library l.initial.self.which));
  text : Consumes (rest_at l.initial.self (g.Lb.Library.left l.initial.library l.initial.self.which)) (rest_at l.self (g.Lb.Library.left l.library l.initial.self.which)) l.bytes.items;
  ended : l.self.ended ≡ l.initial.self.ended;
  plain : IsPlain l.bytes.items;
  short : length l.bytes.items ≤ longest_line;
  counted : 0 < length l.bytes.items → l.self.given < l.self.taken;
  calls : OnlyReads g.Lb.Library.files g.Lb.Library.asked g.Lb.Library.open_faults g.Lb.Library.read_faults l.initial.library l.library;
  others : (other : ℕ) → other ≢ l.initial.self.which → g.Lb.Library.left l.library other ≡ g.Lb.Library.left l.initial.library other;
}

abbrev pub decreases-loop-bytes : goal.decreases-loop-bytes
decreases-loop-bytes g l = largest_source - l.self.taken
