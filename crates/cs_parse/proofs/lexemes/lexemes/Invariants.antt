use Rattle.std.proofs.Common.{◌≤◌, ◌-◌, All, map, length}
use Rattle.cs_grammar.specs.Parsing.{IsLexemeOf}
use Rattle.cs_grammar.specs.View.{tok}
use Rattle.cs_parse.specs.Counted.{AreLexemesUpTo, IsDepthOf}
use Rattle.cs_parse.proofs.lexemes.lexemes.Given as goal

abbrev pub invariant-loop-lexemes : goal.invariant-loop-lexemes
invariant-loop-lexemes l = record {
  so_far : AreLexemesUpTo l.text l.end l.lexemes.items;
  of_text : All (IsLexemeOf l.text) l.lexemes.items;
  depth : IsDepthOf (map (tok l.text) l.lexemes.items) l.depth;
  to : l.end ≤ length l.text;
  count : length l.lexemes.items ≤ l.end;
}

abbrev pub decreases-loop-lexemes : goal.decreases-loop-lexemes
decreases-loop-lexemes l = length l.text - l.end
