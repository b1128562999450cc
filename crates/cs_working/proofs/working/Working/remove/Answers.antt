use Rattle.std.proofs.Common.{◌≡◌, ◌∙◌, ℕ, List, None, true, cond, refl, ap, subst}
use Rattle.std.specs.BTreeSet.{contains}
use Rattle.cs_view.specs.Dataset.{standing, id_cmp, same_id}
use Rattle.cs_view.proofs.Datasets.{standing-without}
use Rattle.cs_shelf.specs.View.{documents}
use Rattle.cs_shelf.proofs.Standing.{ascending-documents}
use Rattle.cs_index.specs.View.{store_of}
use Rattle.cs_working.specs.Working.{base}
use Rattle.cs_working.proofs.Noting.{noted_at}
use Rattle.cs_working.proofs.Workings.{worked_on}
use Rattle.cs_working.proofs.working.Working.remove.Goals as goal

pub returns-clause-removed : goal.returns-clause-removed
returns-clause-removed c =
    let self = c.args.self.now in
    let id = c.args.id.now in
    let touched : (q : List ℕ) → contains id_cmp c.insert.new.self q ≡ cond (same_id id q) true (contains id_cmp self.touched q) =
    subst (λ (i : List ℕ). (q : List ℕ) → contains id_cmp c.insert.new.self q ≡ cond (same_id i q) true (contains id_cmp self.touched q)) c.in_ok-copy.ensures c.in_ok-insert.ensures.updates.0 in
    worked_on (base self) (documents self.put) (documents c.remove.new.self) self.touched.keys c.insert.new.self.keys id None (ascending-documents (store_of self.store).shelf) refl touched
    (λ q. ap (standing q) c.remove.ensures.removed ∙ standing-without q id (documents self.put))

pub invariant_of-self-2 : goal.invariant_of-self-2
invariant_of-self-2 c =
    let self = c.args.self.now in
    let id = c.args.id.now in
    let touched : (q : List ℕ) → contains id_cmp c.insert.new.self q ≡ cond (same_id id q) true (contains id_cmp self.touched q) =
    subst (λ (i : List ℕ). (q : List ℕ) → contains id_cmp c.insert.new.self q ≡ cond (same_id i q) true (contains id_cmp self.touched q)) c.in_ok-copy.ensures c.in_ok-insert.ensures.updates.0 in
    record {
      noted = noted_at (documents self.put) (documents c.remove.new.self) self.touched c.insert.new.self id None self.noted touched (λ q. ap (standing q) c.remove.ensures.removed ∙ standing-without q id (documents self.put));
    }
