use Rattle.std.proofs.Common.{◌++◌, ◌∷◌, [], ◌∙◌, ap, sym, refl, arith}
use Rattle.cs_jsonmatch.specs.declared.class.Class.TheVariants.{Dot}
use Rattle.cs_jsonmatch.specs.Machine.{before, left_dot}
use Rattle.cs_jsonmatch.specs.Reading.{after_name}
use Rattle.cs_jsonmatch.proofs.Readings.{name_read, dot_read, took_shorter}
use Rattle.cs_jsonmatch.proofs.cursor.Cursor.names.Goals as goal

pub loop-alloc-init : goal.loop-alloc-init
loop-alloc-init c = record {
  names = λ p d is.
      let items = c.in_ok-push.ensures.items ∙ ap (λ xs. xs ++ c.in_ok-name.field-0 ∷ []) c.new-names.ensures.items in
      name_read (before p d is) p d is [] c.in_ok-name.field-0 c.args.self.now.rest.now c.name.new.self.rest.now (λ b. refl) c.in_ok-name.ensures.name
      ∙ ap (λ ns. after_name c.name.new.self.rest.now p d is ns) (sym items);
  shorter = c.name.ensures.shorter;
}

pub loop-alloc-preserved : goal.loop-alloc-preserved
loop-alloc-preserved c = record {
  names = λ p d is.
      let l = c.loop-alloc in
      let new = c.name-in-loop-alloc.new.self.rest.now in
      l.invariant.names p d is
      ∙ dot_read p d is l.names.items _ l.self.rest.now c.skip.new.self.rest.now c.loop-alloc-test.ensures.1
      ∙ name_read (left_dot p d is l.names.items) p d is l.names.items c.in_ok-name-2.field-0 c.skip.new.self.rest.now new (λ b. refl) c.in_ok-name-2.ensures.name
      ∙ ap (λ ns. after_name new p d is ns) (sym c.in_ok-push-2.ensures.items);
  shorter =
      let l = c.loop-alloc in
      let a = l.invariant.shorter in
      let b = took_shorter Dot _ l.self.rest.now c.skip.new.self.rest.now c.loop-alloc-test.ensures.1 in
      let d = c.name-in-loop-alloc.ensures.shorter in
      omega (arith, a, b, d);
}
