use Rattle.std.proofs.Common.{◌≡◌, [], ◌∷◌, sym, ap, ◌∙◌, arith, length}
use Rattle.cs_func.specs.Run.{left}
use Rattle.cs_func.specs.Segments.{segments_match}
use Rattle.cs_func.proofs.Runs.{same-step, further-step}
use Rattle.cs_func.proofs.Segmented.{ended}
use Rattle.cs_func.proofs.path.run.Goals as goal

pub loop-parts_left-preserved : goal.loop-parts_left-preserved
loop-parts_left-preserved c =
    let l = c.loop-parts_left in
    let p = c.first_part.result.0.now in
    let s = c.first_part-in-Some.result.0.now in
    let ps = left c.first_part.result.1 in
    let ss = left c.first_part-in-Some.result.1 in
    let eP : left l.parts_left ≡ p ∷ ps = ap left c.in-Some.is ∙ c.first_part.ensures.split in
    let eS : left l.text_left ≡ s ∷ ss = ap left c.in-Some-text_left.is ∙ c.first_part-in-Some.ensures.split in
    let not_any = sym c.is_any.ensures ∙ c.if-is_any.false in
    let fits = sym c.fits.ensures ∙ c.if-not-fits.false in record {
      same = same-step _ (left l.parts_left) (left l.text_left) p s ps ss eP eS not_any fits l.invariant.same;
      further = λ j h. further-step (left l.parts_left) (left l.text_left) p s ps ss eP eS not_any j (l.invariant.further j h);
      shorter = let n = ap length eS in omega arith;
    }

pub returns-in-Some-text_left-2 : goal.returns-in-Some-text_left-2
returns-in-Some-text_left-2 c =
    let l = c.loop-parts_left in
    l.invariant.same ∙ ap (λ x. segments_match (left x) (left l.text_left)) c.in_default.is ∙ ap (λ x. segments_match [] (left x)) c.in-Some-text_left-2.is ∙ ended c.in-Some-text_left-2.field-0.now
