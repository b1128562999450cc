-- What is put stands under touched ids.
use Rattle.std.proofs.Common.{◌≡◌, ℕ, List, Bool, true, false, cond, not, Option, is_some, refl, sym, ap, ◌∙◌, true≢false}
use Rattle.std.specs.Prelude.{Result, Ok, Err, OnOk, OnErr}
use Rattle.std.specs.BTreeSet.{BTreeSet, contains}
use Rattle.cs_value.specs.Tree.{Tree}
use Rattle.cs_view.specs.Dataset.{id_cmp, same_id, standing, stands}
use Rattle.cs_view.proofs.Datasets.{same_id-sym}
use Rattle.cs_working.specs.Noted.{AreNoted}

-- also once an id is touched, and something is put under it or taken away
pub noted_at : (put after : List Tree) (touched now : BTreeSet (List ℕ)) (id : List ℕ) (o : Option Tree) → AreNoted put touched
    → ((q : List ℕ) → contains id_cmp now q ≡ cond (same_id id q) true (contains id_cmp touched q)) → ((q : List ℕ) → standing q after ≡ cond (same_id q id) o (standing q put)) → AreNoted after now
noted_at put after touched now id o noted is holds q h = is q ∙ by_test (same_id id q) refl where
  by_test : (b : Bool) → same_id id q ≡ b → cond b true (contains id_cmp touched q) ≡ true
  by_test true e = refl
  by_test false e = noted q (ap is_some (sym (holds q ∙ ap (λ b. cond b o (standing q put)) (same_id-sym q id ∙ e))) ∙ h)

-- what is touched for the first time was not put
pub not_put : (put : List Tree) (touched : BTreeSet (List ℕ)) (id : List ℕ) (new : Bool) → AreNoted put touched
    → new ≡ not (contains id_cmp touched id) → new ≡ true → stands id put ≡ false
not_put put touched id new noted added is = by_test (stands id put) refl where
  by_test : (b : Bool) → stands id put ≡ b → b ≡ false
  by_test false h = refl
  by_test true h = absurd (true≢false (sym is ∙ added ∙ ap not (noted id h)))

-- or once it is touched alone
pub noted_still : (put after : List Tree) (touched now : BTreeSet (List ℕ)) (id : List ℕ) → AreNoted put touched
    → ((q : List ℕ) → contains id_cmp now q ≡ cond (same_id id q) true (contains id_cmp touched q)) → after ≡ put → AreNoted after now
noted_still put after touched now id noted is same q h = is q ∙ by_test (same_id id q) where
  by_test : (b : Bool) → cond b true (contains id_cmp touched q) ≡ true
  by_test true = refl
  by_test false = noted q (ap (λ ds. is_some (standing q ds)) (sym same) ∙ h)

pub either : {A E : Type 0} (r : Result A E) {P Q G : Type 0} → OnOk r P → OnErr r Q → (P → G) → (Q → G) → G
either (Ok a) p q f g = f p
either (Err e) p q f g = g q
