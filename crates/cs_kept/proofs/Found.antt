-- That a last answer is found by its keys, once its number was put under them or taken out.
use Rattle.std.proofs.Common.{◌≡◌, ◌∙◌, ℕ, List, [], ◌∷◌, Bool, true, false, cond, ◌&&◌, refl, sym, ap, subst, nat_eq, eq-eqb}
use Rattle.cs_codes.specs.Codes.{is_among}
use Rattle.cs_codes.specs.declared.seed.Seed.{Seed}
use Rattle.cs_interest.specs.Interest.{holds, Entered, Left}
use Rattle.cs_interest.specs.declared.interest.Interest.{Interest}
use Rattle.cs_hits.specs.Codes.{has_code}
use Rattle.cs_kept.specs.Found.{IsFound, IsCoded, KeepsOthers, codes_of, hit_key}
use Rattle.cs_kept.specs.declared.kept.Kept.{Kept}
use Rattle.cs_kept.specs.declared.kept.Kept.TheVariants.{InRows}
use Rattle.cs_kept.specs.declared.rows.Rows.{Rows}
use Rattle.cs_kept.specs.Rows.{AsksTheSame}

-- ---- what stands under a number
pub others-found : (i j : Interest) (m n : ℕ) (k : Kept) → KeepsOthers m i j → nat_eq n m ≡ false → IsFound i n k → IsFound j n k
others-found i j m n k keeps other found = record {
  stands = λ c. keeps.others c n other ∙ found.stands c;
  coded = subst (λ (s : Seed). IsCoded s k) (sym keeps.seed) found.coded;
}

pub keeps-entered : (i j : Interest) (m : ℕ) (cs : List ℕ) → Entered m cs i j → j.seed ≡ i.seed → KeepsOthers m i j
keeps-entered i j m cs h s = record { others = λ c n other. h c n ∙ ap (λ b. cond (b && is_among c cs) true (holds i c n)) other; seed = s }

pub keeps-left : (i j : Interest) (m : ℕ) (cs : List ℕ) → Left m cs i j → j.seed ≡ i.seed → KeepsOthers m i j
keeps-left i j m cs h s = record { others = λ c n other. h c n ∙ ap (λ b. cond (b && is_among c cs) false (holds i c n)) other; seed = s }

pub keeps-on : (i j k : Interest) (m : ℕ) → KeepsOthers m i j → KeepsOthers m j k → KeepsOthers m i k
keeps-on i j k m a b = record { others = λ c n other. b.others c n other ∙ a.others c n other; seed = b.seed ∙ a.seed }

pub keeps-all : (i : Interest) (m : ℕ) → KeepsOthers m i i
keeps-all i m = record { others = λ c n other. refl; seed = refl }

own : (n : ℕ) → nat_eq n n ≡ true
own n = eq-eqb n n refl

or-false : (a : Bool) → cond a true false ≡ a
or-false true = refl
or-false false = refl

not-both : (a : Bool) → cond a false a ≡ false
not-both true = refl
not-both false = refl

-- a number that stood nowhere and was entered stands under these codes
pub stands-entered : (i j : Interest) (m : ℕ) (cs : List ℕ) → Entered m cs i j → ((c : ℕ) → holds i c m ≡ false) → (c : ℕ) → holds j c m ≡ is_among c cs
stands-entered i j m cs h none c = h c m ∙ (λ x. cond (own m x && is_among c cs) true (none c x)) ∙ or-false (is_among c cs)

-- one that left all its codes stands nowhere
pub stands-left : (i j : Interest) (m : ℕ) (cs : List ℕ) → Left m cs i j → ((c : ℕ) → holds i c m ≡ is_among c cs) → (c : ℕ) → holds j c m ≡ false
stands-left i j m cs h all c = h c m ∙ (λ x. cond (own m x && is_among c cs) false (all c x)) ∙ not-both (is_among c cs)

module _ (i j k : Interest) (m : ℕ) (old new : Kept) (left : Left m (codes_of old) i j) (first : j.seed ≡ i.seed) (entered : Entered m (codes_of new) j k) (second : k.seed ≡ j.seed) where
  pub found-moved : IsFound i m old → IsCoded i.seed new → IsFound k m new
  found-moved found coded = record {
    stands = stands-entered j k m (codes_of new) entered (stands-left i j m (codes_of old) left found.stands);
    coded = subst (λ (s : Seed). IsCoded s new) (sym (second ∙ first)) coded;
  }

  pub others-moved : KeepsOthers m i k
  others-moved = keeps-on i j k m (keeps-left i j m (codes_of old) left first) (keeps-entered j k m (codes_of new) entered second)

-- rows that ask the same are found by the same key
pub found-rows : (i : Interest) (m : ℕ) (old new : Rows) → AsksTheSame old new → IsFound i m (InRows old) → IsFound i m (InRows new)
found-rows i m old new asks found = record {
  stands = λ c. found.stands c ∙ (λ x. is_among c (sym asks.codes x).items);
  coded = λ c. (λ x. is_among c (asks.codes x).items) ∙ found.coded c ∙ (λ x. has_code i.seed c (hit_key (sym asks.query x) (sym asks.params x) ∷ []));
}

-- codes that were entered and left again
