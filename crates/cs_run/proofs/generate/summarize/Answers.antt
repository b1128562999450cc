use Rattle.std.proofs.Common.{◌≡◌, ◌∙◌, ◌+◌, ◌-◌, ◌++◌, ap, sym, refl, subst, Some, None, option_map, [], length, take, arith}
use Rattle.std.proofs.lemmas.List.{take_all}
use Rattle.std.specs.Prelude.{slice_get}
use Rattle.cs_core.specs.Core.{state}
use Rattle.cs_gen.specs.Generated.{generated}
use Rattle.cs_gen.specs.Summary.{summary_line}
use Rattle.cs_gen.specs.Tally.{IsTally}
use Rattle.cs_machine.specs.Machine.{state_after}
use Rattle.cs_machine.specs.State.{begun}
use Rattle.cs_run.proofs.Folding.{counted_replies}
use Rattle.cs_run.proofs.Generating.{few_lines, line_at, none_of, past_end, short_line, state_more, tally_more}
use Rattle.cs_run.proofs.generate.summarize.Goals as goal

pub overflow_add-number : goal.overflow_add-number
overflow_add-number g c = omega (arith, c.lines.invariant.within, few_lines c.args.documents, c.requires.few)

pub overflow_add-number-in-Some : goal.overflow_add-number-in-Some
overflow_add-number-in-Some g c = omega (arith, c.lines.invariant.within, few_lines c.args.documents, c.requires.few)

pub count_line-requires-clause-short : goal.count_line-requires-clause-short
count_line-requires-clause-short g c =
    let same : c.lines.number ≡ c.lines.number + 1 - 1 = omega arith in
    let there : slice_get (generated c.args.documents) c.lines.number ≡ Some c.in-Some.bytes.items = ap (slice_get (generated c.args.documents)) same ∙ sym c.in_ok-bytes.ensures ∙ ap (option_map (λ b. b.items)) c.in-Some.is in
    short_line c.args.documents c.lines.number c.in-Some.bytes.items c.requires.few there

pub lines-smaller : goal.lines-smaller
lines-smaller g c =
    let same : c.lines.number ≡ c.lines.number + 1 - 1 = omega arith in
    let there : slice_get (generated c.args.documents) c.lines.number ≡ Some c.in-Some.bytes.items = ap (slice_get (generated c.args.documents)) same ∙ sym c.in_ok-bytes.ensures ∙ ap (option_map (λ b. b.items)) c.in-Some.is in
    omega (arith, (line_at c.lines.number (generated c.args.documents) c.in-Some.bytes.items there).within)

pub lines-preserved : goal.lines-preserved
lines-preserved g c =
    let all = generated c.args.documents in
    let same : c.lines.number ≡ c.lines.number + 1 - 1 = omega arith in
    let there : slice_get all c.lines.number ≡ Some c.in-Some.bytes.items = ap (slice_get all) same ∙ sym c.in_ok-bytes.ensures ∙ ap (option_map (λ b. b.items)) c.in-Some.is in
    let line = c.in-Some.bytes.items in
    record {
      within = omega (arith, (line_at c.lines.number all line there).within);
      same = refl;
      sound = c.count_line.ensures.sound;
      state_is = state_more (begun []) c.lines.number all line (state c.lines.core) there c.lines.invariant.state_is (state c.count_line.new.core) c.in_ok-tally.ensures.state;
      tallied = tally_more (begun []) c.lines.number all line (state c.lines.core) there c.lines.invariant.state_is c.in_ok-tally.tally (c.in_ok-tally.ensures.tally _ c.lines.invariant.tallied);
    }

pub returns : goal.returns
returns g c =
    let all = generated c.args.documents in
    let same : c.lines.number ≡ c.lines.number + 1 - 1 = omega arith in
    let none : slice_get all c.lines.number ≡ None = ap (slice_get all) same ∙ sym c.in_ok-bytes.ensures ∙ ap (option_map (λ b. b.items)) (none_of c.in_ok-bytes.field-0 c.in_default.not-Some) in
    let past = past_end c.lines.number all none in
    let many : c.lines.number ≡ length all = omega (arith, past, c.lines.invariant.within) in
    let whole : take c.lines.number all ≡ all = take_all c.lines.number all past in
    let replies = counted_replies (begun []) 1 all in
    let tally : IsTally c.lines.tally replies = subst (λ v. IsTally c.lines.tally (counted_replies (begun []) 1 v)) whole c.lines.invariant.tallied in
    let held : c.len.result ≡ length (state_after (begun []) 1 all).docs = c.len.ensures ∙ ap length (c.docs.ensures ∙ ap (λ s. s.docs) (c.lines.invariant.state_is ∙ ap (λ v. state_after (begun []) 1 v) whole)) in
    c.in_ok-write_summary.ensures replies tally
    ∙ ap (λ v. v ++ summary_line c.len.result c.lines.number replies) c.new-line.ensures.items
    ∙ ap (λ d. summary_line d c.lines.number replies) held
    ∙ ap (λ n. summary_line (length (state_after (begun []) 1 all).docs) n replies) many
