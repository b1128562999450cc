use Rattle.std.proofs.Common.{◌≡◌, ◌∙◌, ℕ, List, Some, true, cond, not, ap, subst}
use Rattle.std.specs.BTreeSet.{contains}
use Rattle.cs_view.specs.Dataset.{standing, id_cmp, same_id}
use Rattle.cs_view.specs.Document.{id_of}
use Rattle.cs_view.specs.View.{document_of}
use Rattle.cs_view.proofs.Datasets.{same_id-refl, standing-with_doc}
use Rattle.cs_shelf.specs.View.{documents}
use Rattle.cs_shelf.proofs.Standing.{ascending-documents}
use Rattle.cs_index.specs.View.{store_of}
use Rattle.cs_working.specs.Working.{base}
use Rattle.cs_working.proofs.Noting.{not_put, noted_at, noted_still, either}
use Rattle.cs_working.proofs.Workings.{worked_on, on_ok}
use Rattle.cs_working.proofs.working.Working.put.Goals as goal

pub put_in-requires : goal.put_in-requires
put_in-requires c =
    let self = c.args.self.now in
    let d = document_of c.args.doc in
    let added : c.in_ok-new.new ≡ not (contains id_cmp self.touched (id_of d)) =
    subst (λ (i : List ℕ). c.in_ok-new.new ≡ not (contains id_cmp self.touched i)) (c.in_ok-id.ensures ∙ c.id.ensures) c.in_ok-new.ensures.added in
    not_put (documents self.put) self.touched (id_of d) c.in_ok-new.new self.noted added

pub returns-clause-put : goal.returns-clause-put
returns-clause-put c =
    let self = c.args.self.now in
    let d = document_of c.args.doc in
    let touched : (q : List ℕ) → contains id_cmp c.insert.new.self q ≡ cond (same_id (id_of d) q) true (contains id_cmp self.touched q) =
    subst (λ (i : List ℕ). (q : List ℕ) → contains id_cmp c.insert.new.self q ≡ cond (same_id i q) true (contains id_cmp self.touched q)) (c.in_ok-id.ensures ∙ c.id.ensures) c.in_ok-new.ensures.updates.0 in
    on_ok c.put_in.result c.put_in.ensures.put
    (λ is. worked_on (base self) (documents self.put) (documents c.put_in.new.shelf) self.touched.keys c.insert.new.self.keys (id_of d) (Some d) (ascending-documents (store_of self.store).shelf) (same_id-refl (id_of d)) touched
    (λ q. ap (standing q) is ∙ standing-with_doc q d (documents self.put)))

pub invariant_of-self-2 : goal.invariant_of-self-2
invariant_of-self-2 c =
    let self = c.args.self.now in
    let d = document_of c.args.doc in
    let touched : (q : List ℕ) → contains id_cmp c.insert.new.self q ≡ cond (same_id (id_of d) q) true (contains id_cmp self.touched q) =
    subst (λ (i : List ℕ). (q : List ℕ) → contains id_cmp c.insert.new.self q ≡ cond (same_id i q) true (contains id_cmp self.touched q)) (c.in_ok-id.ensures ∙ c.id.ensures) c.in_ok-new.ensures.updates.0 in
    record {
      noted = either c.put_in.result c.put_in.ensures.put c.put_in.ensures.kept
          (λ is. noted_at (documents self.put) (documents c.put_in.new.shelf) self.touched c.insert.new.self (id_of d) (Some d) self.noted touched (λ q. ap (standing q) is ∙ standing-with_doc q d (documents self.put)))
          (λ same. noted_still (documents self.put) (documents c.put_in.new.shelf) self.touched c.insert.new.self (id_of d) self.noted touched same);
    }
