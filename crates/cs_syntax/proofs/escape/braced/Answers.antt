use Rattle.std.proofs.Common.{◌≡◌, ◌+◌, sym, ap, ◌∙◌, arith}
use Rattle.std.proofs.lemmas.Bool.{ne_eqb}
use Rattle.cs_syntax.specs.Ends.{placed}
use Rattle.cs_syntax.proofs.Escaped.{above-le, above-more, braced-more}
use Rattle.cs_syntax.proofs.escape.braced.Goals as goal

pub overflow_mul-number : goal.overflow_mul-number
overflow_mul-number c = omega (arith, above-le c.loop-digits.digits (omega arith))

pub overflow_add-number : goal.overflow_add-number
overflow_add-number c =
    omega (arith, above-le c.loop-digits.digits (omega arith), c.in_ok-number.ensures.below)

pub loop-digits-preserved : goal.loop-digits-preserved
loop-digits-preserved c =
    let l = c.loop-digits in
    let s = c.args.bytes.now in
    let next : c.args.at + 2 + (l.digits + 1) ≡ c.args.at + 2 + l.digits + 1 = omega arith in
    record {
      same = rw next
          (ap (placed c.args.at)
          (sym (braced-more l.number l.digits _ s (c.args.at + 2 + l.digits) (omega arith)
          (ne_eqb _ _ c.if-byte-eq125.false) (sym c.in_ok-number.ensures.same) (omega arith)))
          ∙ l.invariant.same);
      small = above-more l.digits l.number _ l.invariant.small c.in_ok-number.ensures.below;
      few = omega arith;
      to = omega arith;
    }
