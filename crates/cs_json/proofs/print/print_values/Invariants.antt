use Rattle.std.proofs.Common.{◌≡◌, ◌++◌, drop, map}
use Rattle.cs_value.specs.Tree.{trees}
use Rattle.cs_value.specs.View.{tree}
use Rattle.cs_json.specs.Tokens.{tokens_of_items}
use Rattle.cs_json.proofs.print.print_values.Given as goal

-- with the tokens of what is left stand those of the whole list
abbrev pub invariant-loop-val : goal.invariant-loop-val
invariant-loop-val l = record {
  tokens : l.out.tokens ++ tokens_of_items (trees (map (λ v. tree v.now) (drop l.val-index l.val-items)))
      ≡ l.initial.out.tokens ++ tokens_of_items (trees (map (λ v. tree v.now) l.val-items));
  before : l.out.before ≡ l.initial.out.before;
}
