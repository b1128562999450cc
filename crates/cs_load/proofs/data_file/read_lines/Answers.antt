use Rattle.std.proofs.Common.{◌∙◌, ap, sym, subst, Ok, Err, Some, None, arith, rules}
use Rattle.cs_io.specs.Next.{Gives}
use Rattle.cs_io.specs.Reader.{feed_at}
use Rattle.cs_machine.specs.DataFile.{said, loaded, of_references}
use Rattle.cs_load.specs.Loading.{Loads}
use Rattle.cs_docs.specs.References.{first_dangling}
use Rattle.cs_load.specs.Refusals.{IsRefused}
use Rattle.cs_load.specs.Taking.{so_far, IsTaken}
use Rattle.cs_load.proofs.DataReading.{begun, went, ended, refused_there, failed_there, failed_read, told_read}
use Rattle.cs_load.proofs.data_file.read_lines.Goals as goal

pub loop-lines-init : goal.loop-lines-init
loop-lines-init g c = record {
  opened = c.requires.opened;
  in_step = grind arith;
  which = grind arith;
  within = grind arith;
  calls = search rules;
  reads = λ bytes told. rw told (begun bytes (so_far c.new-loading.result) c.new-lines.result (grind arith) (grind arith) (grind arith) c.new-loading.ensures);
}

pub returns-in_err-line-clause-reads : goal.returns-in_err-line-clause-reads
returns-in_err-line-clause-reads g c =
    let gives : Gives (Err c.in_err-line.field-0.0) (feed_at c.loop-lines.lines (g.Lb.Library.left c.loop-lines.library c.args.which)) (feed_at c.next.new.self (g.Lb.Library.left c.next.new.library c.args.which)) = rw c.loop-lines.invariant.which at c.in_err-line.ensures.line in
    told_read c.from_residual.result (g.Lb.Library.left c.args.library.now c.args.which) (λ bytes told. failed_read c.from_residual.result c.in_err-line.field-0.0 (loaded bytes) c.from_residual.ensures.1 (failed_there bytes (so_far c.loop-lines.loading) c.loop-lines.lines c.next.new.self (g.Lb.Library.left c.loop-lines.library c.args.which) (g.Lb.Library.left c.next.new.library c.args.which) c.in_err-line.field-0.0 (c.loop-lines.invariant.reads bytes told) gives))

pub returns-in-Err-clause-reads : goal.returns-in-Err-clause-reads
returns-in-Err-clause-reads g c =
    let gives : Gives (Ok (Some c.in-Some.line)) (feed_at c.loop-lines.lines (g.Lb.Library.left c.loop-lines.library c.args.which)) (feed_at c.next.new.self (g.Lb.Library.left c.next.new.library c.args.which)) = rw (c.loop-lines.invariant.which, c.in-Some.is) at c.in_ok-line.ensures.line in
    let refused : IsRefused c.in-Err.refusal (said (so_far c.loop-lines.loading) c.in-Some.line.bytes.items) = rw c.as_slice.ensures.value at c.in-Err.ensures.refused in
    told_read (Err c.refused.result) (g.Lb.Library.left c.args.library.now c.args.which) (λ bytes told. subst (λ f. Loads (Err f) (loaded bytes)) (sym c.refused.ensures) (refused_there bytes (so_far c.loop-lines.loading) c.loop-lines.lines c.next.new.self (g.Lb.Library.left c.loop-lines.library c.args.which) (g.Lb.Library.left c.next.new.library c.args.which) c.in-Some.line c.in-Err.refusal (c.loop-lines.invariant.reads bytes told) gives refused))

pub loop-lines-preserved : goal.loop-lines-preserved
loop-lines-preserved g c =
    let gives : Gives (Ok (Some c.in-Some.line)) (feed_at c.loop-lines.lines (g.Lb.Library.left c.loop-lines.library c.args.which)) (feed_at c.next.new.self (g.Lb.Library.left c.next.new.library c.args.which)) = rw (c.loop-lines.invariant.which, c.in-Some.is) at c.in_ok-line.ensures.line in
    let count = rw c.in-Some.is at c.in_ok-line.ensures.count in
    let taken : IsTaken (said (so_far c.loop-lines.loading) c.in-Some.line.bytes.items) (so_far c.loop-lines.loading) (so_far c.take_line.new.self) = rw c.as_slice.ensures.value at c.in_default-take_line.ensures.taken in
    record {
      opened = rw c.next.ensures.calls.same_asked c.loop-lines.invariant.opened;
      in_step = grind arith;
      which = grind arith;
      within = omega (arith, count.given, count.within);
      calls = search rules;
      reads = λ bytes told. went bytes (so_far c.loop-lines.loading) (so_far c.take_line.new.self) c.loop-lines.lines c.next.new.self (g.Lb.Library.left c.loop-lines.library c.args.which) (g.Lb.Library.left c.next.new.library c.args.which) c.in-Some.line (c.loop-lines.invariant.reads bytes told) gives taken;
    }

pub returns-clause-reads : goal.returns-clause-reads
returns-clause-reads g c =
    let gives : Gives (Ok None) (feed_at c.loop-lines.lines (g.Lb.Library.left c.loop-lines.library c.args.which)) (feed_at c.next.new.self (g.Lb.Library.left c.next.new.library c.args.which)) = rw (c.loop-lines.invariant.which, c.in_default.is) at c.in_ok-line.ensures.line in
    told_read (Ok c.in_ok-into_docs.field-0) (g.Lb.Library.left c.args.library.now c.args.which) (λ bytes told. ended bytes (so_far c.loop-lines.loading) c.loop-lines.lines c.next.new.self (g.Lb.Library.left c.loop-lines.library c.args.which) (g.Lb.Library.left c.next.new.library c.args.which) (c.loop-lines.invariant.reads bytes told) gives ∙ ap (λ ds. of_references ds (first_dangling ds)) (sym c.in_ok-into_docs.ensures.these))
