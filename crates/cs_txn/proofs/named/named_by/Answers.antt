use Rattle.std.proofs.Common.{◌≡◌, ◌+◌, ℕ, List, [], ◌∷◌, ◌&&◌, Bor, Result, Ok, Err, true, cond, drop, map, sym, ap, ◌∙◌}
use Rattle.std.proofs.lemmas.List.{at_drop_all}
use Rattle.std.specs.BTreeSet.{contains}
use Rattle.std.specs.List.{list_all}
use Rattle.cs_value.specs.Tree.{Tree}
use Rattle.cs_value.specs.View.{tree}
use Rattle.cs_value.specs.declared.val.Val.{Val}
use Rattle.cs_view.specs.Dataset.{id_cmp}
use Rattle.cs_working.specs.Working.{working}
use Rattle.cs_txn.specs.Mutated.{names_one, named_ids}
use Rattle.cs_txn.specs.Refused.{Cause, not_documents}
use Rattle.cs_txn.proofs.Naming.{are_naming, named_keys, one_more_named, from_here, true_or}
use Rattle.cs_txn.proofs.Worked.{ascending-working}
use Rattle.cs_txn.proofs.named.named_by.Goals as goal

abbrev found_ids : List (List ℕ) → Result (List (List ℕ)) Cause
found_ids ids = Ok ids

pub loop-val-preserved : goal.loop-val-preserved
loop-val-preserved c =
    let l = c.loop-val in
    let docs = working c.args.working.now in
    let vals = c.args.vals.now in
    let t = tree c.val-item.result.now in
    let rest = map (λ (u : Bor Val). tree u.now) (drop (l.val-index + 1) vals) in
    let here : map (λ (u : Bor Val). tree u.now) (drop l.val-index vals) ≡ t ∷ rest =
    from_here vals l.val-index c.val-item.result c.loop-val-test.true c.val-item.is in
    record {
      ordered = c.in_ok-add.ensures.ordered;
      named = sym (ap (list_all (names_one docs)) here
          ∙ ap (λ b. b && list_all (names_one docs) rest) c.in-Some.ensures.stands)
          ∙ l.invariant.named;
      held = λ q. one_more_named q c.in-Some.id.now t rest (contains id_cmp l.ids q)
          (contains id_cmp c.add.new.ids q) c.in-Some.ensures.some (c.in_ok-add.ensures.added q)
          ∙ ap (λ (ts : List Tree). cond (contains id_cmp l.ids q) true (are_naming ts q))
          (sym here)
          ∙ l.invariant.held q;
    }

pub returns-clause-ids : goal.returns-clause-ids
returns-clause-ids c =
    let l = c.loop-val in
    let docs = working c.args.working.now in
    let vals = c.args.vals.now in
    let ts = map (λ (u : Bor Val). tree u.now) vals in
    let ended : map (λ (u : Bor Val). tree u.now) (drop l.val-index vals) ≡ [] =
    at_drop_all (map (λ (u : Bor Val). tree u.now)) vals l.val-index c.loop-val-test.false in
    let all : list_all (names_one docs) ts ≡ true =
    sym l.invariant.named ∙ ap (list_all (names_one docs)) ended in
    let keys : l.ids.keys ≡ named_ids docs ts =
    named_keys docs ts l.ids (ascending-working c.args.working.now) l.invariant.ordered all
    (λ q. sym (ap (λ (us : List Tree). cond (contains id_cmp l.ids q) true (are_naming us q)) ended
    ∙ true_or (contains id_cmp l.ids q)) ∙ l.invariant.held q) in
    ap (λ b. cond b (found_ids (named_ids docs ts)) (Err not_documents)) all
    ∙ ap found_ids (sym keys)
