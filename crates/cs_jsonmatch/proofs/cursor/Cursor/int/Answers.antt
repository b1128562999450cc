use Rattle.std.proofs.Common.{◌≡◌, ◌∙◌, ap, sym, inr, arith, rules, to_z, of_z, w64}
use Rattle.cs_jsonmatch.specs.Reading.{after_int}
use Rattle.cs_jsonmatch.proofs.Readings.{small_number, int_read, lone_minus}
use Rattle.cs_jsonmatch.proofs.cursor.Cursor.int.Goals as goal

pub signed-requires : goal.signed-requires
signed-requires c =
    let r = c.in-Some.ensures.digits in
    let s = small_number r.0 (inr r.2) in
    let n = r.3 in
    omega (arith, s, n)

pub returns-in-Some-clause-int : goal.returns-in-Some-clause-int
returns-in-Some-clause-int c p d is g =
    let back : to_z w64 (of_z w64 c.signed.result) ≡ c.signed.result = search (rules) in
    int_read c.skip-negative.result c.in-Some.number p d is g c.args.self.now.rest.now c.skip-negative.new.self.rest.now c.digits.new.self.rest.now c.skip-negative.ensures c.in-Some.ensures.digits
    ∙ ap (λ z. after_int c.digits.new.self.rest.now p d is g z) (sym c.signed.ensures ∙ sym back)

pub returns-in-None-clause-int : goal.returns-in-None-clause-int
returns-in-None-clause-int c p d is g = lone_minus p d is g _ c.args.self.now.rest.now c.skip-negative.new.self.rest.now c.digits.new.self.rest.now c.if-negative.ensures.1 c.in-None.ensures.digits
