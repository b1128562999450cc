use Rattle.std.proofs.Common.{◌≡◌, ◌++◌, drop}
use Rattle.cs_value.specs.Tree.{trees}
use Rattle.cs_value.specs.View.{list_tree, entries_tree}
use Rattle.cs_json.specs.Tokens.{tokens_of_items, tokens_of_members}
use Rattle.cs_json.proofs.print.+print.Given as goal

-- with the tokens of what is left stand those of the whole list
abbrev pub invariant-print_items-loop-item : goal.invariant-print_items-loop-item
invariant-print_items-loop-item l = record {
  tokens : l.out.tokens ++ tokens_of_items (trees (list_tree (drop l.item-index l.item-items)))
      ≡ l.initial.out.tokens ++ tokens_of_items (trees (list_tree l.item-items));
  before : l.out.before ≡ l.initial.out.before;
}

abbrev pub invariant-print_fields-loop-key : goal.invariant-print_fields-loop-key
invariant-print_fields-loop-key l = record {
  tokens : l.out.tokens ++ tokens_of_members (entries_tree l.key-iterator)
      ≡ l.initial.out.tokens ++ tokens_of_members (entries_tree l.initial.key-iterator);
  before : l.out.before ≡ l.initial.out.before;
}
