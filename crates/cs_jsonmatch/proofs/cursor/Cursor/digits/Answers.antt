use Rattle.std.proofs.Common.{◌<◌, ◌*◌, ◌+◌, ◌-◌, ◌++◌, ◌∷◌, [], ◌∙◌, ap, sym, inr, arith, length, append_assoc}
use Rattle.std.proofs.lemmas.List.{length-append}
use Rattle.cs_jsonmatch.proofs.Readings.{small_number, digit_byte, more_digits, one_more_digit, took_shorter}
use Rattle.cs_jsonmatch.specs.declared.class.Class.TheVariants.{Digit}
use Rattle.cs_jsonmatch.proofs.cursor.Cursor.digits.Goals as goal

pub overflow_mul-number : goal.overflow_mul-number
overflow_mul-number c =
    let i = c.loop-count.invariant.digits in
    let s = small_number i.0 i.2 in
    let n = i.3 in
    omega (arith, s, n)

pub overflow_add-number : goal.overflow_add-number
overflow_add-number c =
    let i = c.loop-count.invariant.digits in
    let s = small_number i.0 i.2 in
    let n = i.3 in
    let d = (digit_byte c.in-Some.digit c.in-Some.ensures.1).1 in
    omega (arith, s, n, d)

pub loop-count-preserved : goal.loop-count-preserved
loop-count-preserved c =
    let i = c.loop-count.invariant.digits in
    let w = i.0 in
    let b = c.in-Some.digit in
    let new = c.take.new.self.rest.now in
    let few : length w < 18 = omega (arith, i.4) in
    let less = took_shorter Digit b _ new c.in-Some.ensures in
    record {
      digits = (w ++ b ∷ [], i.1 ∙ ap (λ t. w ++ t) c.in-Some.ensures.0 ∙ sym (append_assoc w (b ∷ []) new), inr (more_digits w b i.2 c.in-Some.ensures.1 few), one_more_digit 0 w b ∙ ap (λ n. 10 * n + (b - 48)) i.3, length-append w (b ∷ []) ∙ ap (λ n. n + 1) i.4);
      shorter = omega (arith, less);
    }
