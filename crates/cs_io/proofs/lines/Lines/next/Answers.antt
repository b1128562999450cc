use Rattle.std.proofs.Common.{arith, ◌≡◌, false, rules}
use Rattle.std.specs.Io.KnownBytes.{Keeps}
use Rattle.cs_io.specs.Reader.{feed_at, rest_at}
use Rattle.cs_io.specs.Moves.{Ended, GoesOn}
use Rattle.cs_io.proofs.Giving.{ended_texts, kept_text, on_feed, on_text}
use Rattle.cs_io.proofs.lines.Lines.next.Goals as goal

pub returns-then-branch-2-clause-text : goal.returns-then-branch-2-clause-text
returns-then-branch-2-clause-text g c =
    let kept : Keeps (rest_at c.loop-bytes.self (g.Lb.Library.left c.loop-bytes.library c.args.self.now.which)) (rest_at c.ready.new.self (g.Lb.Library.left c.ready.new.library c.args.self.now.which)) = rw c.loop-bytes.invariant.which at c.ready.ensures.bytes in
    let ended : Ended c.ready.new.self c.advance.new.self c.loop-bytes.bytes.items c.advance.new.line.items = rw c.if-branch-2.true at c.in_ok-advance.ensures.step in
    let going : c.ready.new.self.ended ≡ false = grind arith in
    ended_texts (rest_at c.args.self.now (g.Lb.Library.left c.args.library.now c.args.self.now.which)) c.ready.new.self c.advance.new.self c.loop-bytes.bytes.items (g.Lb.Library.left c.ready.new.library c.args.self.now.which) (record { number = c.self-in-loop-bytes.inside.given; bytes = c.advance.new.line }) ended going c.loop-bytes.invariant.plain (kept_text (rest_at c.args.self.now (g.Lb.Library.left c.args.library.now c.args.self.now.which)) (rest_at c.loop-bytes.self (g.Lb.Library.left c.loop-bytes.library c.args.self.now.which)) (rest_at c.ready.new.self (g.Lb.Library.left c.ready.new.library c.args.self.now.which)) c.loop-bytes.bytes.items kept c.loop-bytes.invariant.text)

pub loop-bytes-preserved : goal.loop-bytes-preserved
loop-bytes-preserved g c =
    let kept : Keeps (rest_at c.loop-bytes.self (g.Lb.Library.left c.loop-bytes.library c.args.self.now.which)) (rest_at c.ready.new.self (g.Lb.Library.left c.ready.new.library c.args.self.now.which)) = rw c.loop-bytes.invariant.which at c.ready.ensures.bytes in
    let on : GoesOn c.ready.new.self c.advance.new.self c.loop-bytes.bytes.items c.advance.new.line.items = rw c.if-branch-2.false at c.in_ok-advance.ensures.step in
    record {
      opened = grind arith;
      in_step = grind arith;
      which = grind arith;
      given = grind arith;
      feeds = on_feed (feed_at c.args.self.now (g.Lb.Library.left c.args.library.now c.args.self.now.which)) c.loop-bytes.self c.ready.new.self c.advance.new.self c.loop-bytes.bytes.items c.advance.new.line.items (g.Lb.Library.left c.loop-bytes.library c.args.self.now.which) (g.Lb.Library.left c.ready.new.library c.args.self.now.which) c.loop-bytes.invariant.feeds c.ready.ensures.place kept on;
      text = on_text (rest_at c.args.self.now (g.Lb.Library.left c.args.library.now c.args.self.now.which)) c.loop-bytes.self c.ready.new.self c.advance.new.self c.loop-bytes.bytes.items c.advance.new.line.items (g.Lb.Library.left c.loop-bytes.library c.args.self.now.which) (g.Lb.Library.left c.ready.new.library c.args.self.now.which) c.loop-bytes.invariant.text kept on;
      ended = grind arith;
      plain = on.plain c.loop-bytes.invariant.plain;
      short = on.short;
      counted = λ _. on.counted;
      calls = search rules;
      others = grind arith;
    }
