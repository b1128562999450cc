use Rattle.std.proofs.Common.{◌≡◌, ℕ, ◌+◌, ◌-◌, ◌<◌, ◌≤◌, ◌++◌, List, Some, None, length, get_or, string_bytes, sym, ap, ◌∙◌, subst, arith}
use Rattle.std.specs.Str.{IsCharBoundary}
use Rattle.std.proofs.lemmas.Str.{IsCharBoundary-after_ascii}
use Rattle.cs_syntax.specs.Ends.{escape_at, past_plain}
use Rattle.cs_syntax.proofs.AsciiEnds.{quote-ascii}
use Rattle.cs_syntax.proofs.Unescaped.{Means, means-start, starts-quoted, means-inside, means-escape, means-none, means-plain, means-end, plain-boundary}
use Rattle.cs_syntax.proofs.decode.unescape.Goals as goal

pub loop-at-init : goal.loop-at-init
loop-at-init c =
    let s = c.args.source.now in
    let start = starts-quoted s c.requires in record {
      means = subst (Means s 1) (sym c.new-text.ensures.bytes) (means-start s c.requires);
      boundary = IsCharBoundary-after_ascii s 0 c.utf8.source start.0 (quote-ascii _ start.1);
    }

pub unreachable-requires : goal.unreachable-requires
unreachable-requires c =
    let s = c.args.source.now in
    let l = c.loop-at in
    let same = c.as_bytes-bytes.ensures.value in
    let inside = means-inside s l.at _ l.invariant.means c.requires in
    means-none s l.at _ l.invariant.means inside
    (subst (λ (x : List ℕ). get_or x l.at 0 ≡ get_or x 0 0 → ⊥) same c.loop-at-test.true)
    (subst (λ (x : List ℕ). get_or x l.at 0 ≡ 92) same c.if-bytes-at-eq92.true)
    (subst (λ (x : List ℕ). None
    ≡ escape_at x (l.at + 1)) same c.in_default.ensures.same) c.requires

pub loop-at-preserved-then-bytes-at-eq92 : goal.loop-at-preserved-then-bytes-at-eq92
loop-at-preserved-then-bytes-at-eq92 c =
    let s = c.args.source.now in
    let l = c.loop-at in
    let end = c.in-Some.end in
    let same = c.as_bytes-bytes.ensures.value in
    let inside = means-inside s l.at _ l.invariant.means c.requires in
    let within : end ≤ length s = omega (arith, ap length same, c.in-Some.ensures.to) in
    let more : l.at + 1 < end = c.in-Some.ensures.from in
    let back : end - 1 + 1 ≡ end = omega arith in
    let ascii : get_or s (end - 1) 0 < 128 =
    subst (λ (x : List ℕ). get_or x (end - 1) 0 < 128) same c.in-Some.ensures.ascii in record {
      means = subst (Means s end) (sym c.in_ok-push.ensures.bytes)
          (means-escape s l.at _ c.in-Some.character end l.invariant.means inside
          (subst (λ (x : List ℕ). get_or x l.at 0 ≡ get_or x 0 0 → ⊥) same c.loop-at-test.true)
          (subst (λ (x : List ℕ). get_or x l.at 0 ≡ 92) same c.if-bytes-at-eq92.true)
          (subst (λ (x : List ℕ). Some (c.in-Some.character, end)
          ≡ escape_at x (l.at + 1)) same c.in-Some.ensures.same));
      boundary = subst (IsCharBoundary s) back
          (IsCharBoundary-after_ascii s (end - 1) c.utf8.source (omega arith) ascii);
    }

pub loop-at-preserved : goal.loop-at-preserved
loop-at-preserved c =
    let s = c.args.source.now in
    let l = c.loop-at in
    let end = c.past_plain-end.result in
    let same = c.as_bytes-bytes.ensures.value in
    let inside = means-inside s l.at _ l.invariant.means c.requires in record {
      means = subst (Means s end) (sym (c.in_ok-push_str.ensures.bytes
          ∙ ap (λ (x : List ℕ). string_bytes l.text
          ++ x) c.range.ensures.value)) (means-plain s l.at _ end l.invariant.means inside
          (subst (λ (x : List ℕ). get_or x l.at 0 ≡ get_or x 0 0 → ⊥) same c.loop-at-test.true)
          (subst (λ (x : List ℕ). get_or x l.at 0 ≡ 92 → ⊥) same c.if-bytes-at-eq92.false)
          (subst (λ (x : List ℕ). end
          ≡ past_plain x (get_or x 0 0) (l.at + 1)) same c.past_plain-end.ensures.same));
      boundary = plain-boundary s end (quote-ascii _ (starts-quoted s c.requires).1)
          (omega (arith, ap length same, c.past_plain-end.ensures.to))
          (subst (λ (x : List ℕ). end < length x → (get_or x end 0 ≡ get_or x 0 0 → ⊥) →
          get_or x end 0 ≡ 92) same c.past_plain-end.ensures.stops);
    }

pub returns : goal.returns
returns c =
    let s = c.args.source.now in
    let l = c.loop-at in
    let same = c.as_bytes-bytes.ensures.value in
    means-end s l.at (string_bytes l.text) l.invariant.means
    (means-inside s l.at _ l.invariant.means c.requires)
    (subst (λ (x : List ℕ). get_or x l.at 0 ≡ get_or x 0 0) same c.loop-at-test.false) c.requires
    ∙ ap (λ (x : List ℕ). Some x) (sym c.from_string.ensures)
