use Rattle.std.proofs.Common.{◌++◌, map, encode_utf8, sym, ap, ◌∙◌}
use Rattle.std.proofs.lemmas.Str.{IsUtf8-past_char, chars_past_char}
use Rattle.cs_value.specs.Tree.{text}
use Rattle.cs_value.specs.View.{list_tree}
use Rattle.cs_func.proofs.CodePoints.{characters-ended}
use Rattle.cs_func.proofs.Pushed.{push-front}
use Rattle.cs_func.proofs.texts.each_character.Goals as goal

pub loop-c-preserved : goal.loop-c-preserved
loop-c-preserved c =
    let l = c.loop-c in
    let front = c.in-Some.ensures.steps.0 in record {
      utf8 = IsUtf8-past_char l.c-iterator.rest.now c.next.new.self.rest.now c.in-Some.c l.invariant.utf8 front;
      rest = rw c.in_ok-push.ensures.items (push-front l.parts.items _ (text (encode_utf8 c.in-Some.c)) _ _ c.in_ok-one_character.ensures
          (ap (λ cs. list_tree l.parts.items ++ map text (map encode_utf8 cs)) (sym (chars_past_char l.c-iterator.rest.now c.next.new.self.rest.now c.in-Some.c l.invariant.utf8 front)) ∙ l.invariant.rest));
    }

pub returns : goal.returns
returns c = characters-ended (list_tree c.loop-c.parts.items) _ c.loop-c.c-iterator.rest.now c.in-None.ensures.steps.0.0 c.loop-c.invariant.rest
