use Rattle.std.proofs.Common.{◌≡◌, ℕ, List, true, cond, drop, map}
use Rattle.std.specs.BTreeSet.{contains, IsOrdered}
use Rattle.std.specs.List.{list_all}
use Rattle.cs_value.specs.View.{tree}
use Rattle.cs_view.specs.Dataset.{id_cmp}
use Rattle.cs_working.specs.Working.{working}
use Rattle.cs_txn.specs.Mutated.{names_one}
use Rattle.cs_txn.proofs.Naming.{are_naming}
use Rattle.cs_txn.proofs.named.named_by.Given as goal

abbrev pub invariant-loop-val : goal.invariant-loop-val
invariant-loop-val l =
    let docs = working l.working in
    let left = map (λ v. tree v.now) (drop l.val-index l.vals) in
    let all = map (λ v. tree v.now) l.vals in
    record {
      ordered : IsOrdered id_cmp l.ids;
      named : list_all (names_one docs) left ≡ list_all (names_one docs) all;
      held : (q : List ℕ)
          → cond (contains id_cmp l.ids q) true (are_naming left q) ≡ are_naming all q;
    }
