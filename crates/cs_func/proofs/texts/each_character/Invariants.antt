use Rattle.std.proofs.Common.{◌≡◌, ◌++◌, map, encode_utf8, IsUtf8}
use Rattle.std.specs.Str.{chars}
use Rattle.cs_value.specs.Tree.{text}
use Rattle.cs_value.specs.View.{list_tree}
use Rattle.cs_func.proofs.texts.each_character.Given as goal

abbrev pub invariant-loop-c : goal.invariant-loop-c
invariant-loop-c l = record {
  utf8 : IsUtf8 l.c-iterator.rest.now;
  rest : list_tree l.parts.items ++ map text (map encode_utf8 (chars l.c-iterator.rest.now)) ≡ map text (map encode_utf8 (chars l.whole));
}
