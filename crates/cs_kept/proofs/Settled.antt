-- The trees of a list that are brought to others at some places, one after another.
use Rattle.std.proofs.Common.{◌≡◌, ◌≢◌, ◌∙◌, ℕ, suc, ◌<◌, length, get_or, List, [], ◌∷◌, set, Bool, true, false, ◌||◌, refl, sym, ap, subst, true≢false, ⊎_elim, arith}
use Rattle.std.specs.Prelude.{not}
use Rattle.std.proofs.lemmas.Bool.Decides.{eqb_tells}
use Rattle.std.proofs.lemmas.Grind.{common_steps}
use Rattle.std.proofs.lemmas.List.{ext_get_or, get_or-set_other, get_or-set_same, length-set, set-get_or}
use Rattle.cs_value.specs.Same.{same_tree}
use Rattle.cs_value.specs.Tree.{Tree, null}
use Rattle.cs_value.specs.Words.{list_of}
use Rattle.cs_codes.specs.Codes.{is_among}
use Rattle.cs_kept.proofs.Elements.{same-elements}
use Rattle.cs_view.proofs.Booleans.{or-left, or-right}
use Rattle.cs_view.proofs.Sames.{same-one, one-same}
use Rattle.cs_hits.specs.Shares.{SameBut}
use Rattle.cs_kept.proofs.Sames.{not_another}

-- at some place they are not the same
pub record Differ (us ts : List Tree) : Type 0 where
  pub place : ℕ
  pub at : get_or us place null ≢ get_or ts place null

pub differ-lists : (us ts : List Tree) → Differ us ts → list_of us ≢ list_of ts
differ-lists us ts d same = d.at (ap (λ l. get_or l d.place null) (same-elements us ts same))

-- where no place is left, they are the same
pub but-ended : (ts us : List Tree) → SameBut [] ts us → ts ≡ us
but-ended ts us but = ext_get_or null ts us but.long (λ i low. but.same i null low refl)

-- one place less is left
pub but-less : (i : ℕ) (rest : List ℕ) (ts us : List Tree) → i < length ts → SameBut (i ∷ rest) ts us → SameBut rest (set ts i (get_or us i null)) us
but-less i rest ts us low but = record {
  long = length-set ts i (get_or us i null) ∙ but.long;
  within = λ k d under. let a : get_or rest k d < length ts = but.within (suc k) d (omega (arith, under)) in let s = length-set ts i (get_or us i null) in omega (arith, a, s);
  same = λ j t inside out. ⊎_elim
      (λ here. ap (λ k. get_or (set ts i (get_or us i null)) k t) (here.1) ∙ get_or-set_same ts i (get_or us i null) t low ∙ within-same us i t null (let l = but.long in omega (arith, low, l)) ∙ ap (λ k. get_or us k t) (sym here.1))
      (λ other. get_or-set_other ts i j (get_or us i null) t other.1
      ∙ but.same j t (let s = length-set ts i (get_or us i null) in omega (arith, inside, s)) (ap (λ b. b || is_among j rest) other.0 ∙ out))
      (eqb_tells j i);
} where
  within-same : (xs : List Tree) (k : ℕ) (a b : Tree) → k < length xs → get_or xs k b ≡ get_or xs k a
  within-same xs k a b inside = grind (arith, common_steps)

-- what a test of one more says of all so far
another-then : (b : Bool) (u t : Tree) → b ≡ not (same_tree u t) → b ≡ true → u ≢ t
another-then b u t is told same = true≢false (sym told ∙ is ∙ ap (λ x. not (same_tree x t)) same ∙ ap not (one-same t))

same-then : (b : Bool) (u t : Tree) → b ≡ not (same_tree u t) → b ≡ false → u ≡ t
same-then b u t is told = same-one u t (negated (same_tree u t) (sym is ∙ told)) where
  negated : (x : Bool) → not x ≡ false → x ≡ true
  negated true h = refl
  negated false h = absurd (true≢false h)

pub lists-told : (b : Bool) (us ts : List Tree) → (b ≡ false → us ≡ ts) → (b ≡ true → Differ us ts) → b ≡ not (same_tree (list_of us) (list_of ts))
lists-told false us ts same differ = not_another (list_of ts) (list_of us) (ap list_of (sym (same refl)))
lists-told true us ts same differ = other (same_tree (list_of us) (list_of ts)) refl where
  other : (x : Bool) → same_tree (list_of us) (list_of ts) ≡ x → true ≡ not (same_tree (list_of us) (list_of ts))
  other true h = absurd (differ-lists us ts (differ refl) (same-one (list_of us) (list_of ts) h))
  other false h = ap not (sym h)

-- one more was looked at
module _ (us old now : List Tree) (i : ℕ) (b another : Bool) (low : i < length now) (is : another ≡ not (same_tree (get_or us i null) (get_or now i null))) where
  pub unmoved-more : (b ≡ false → now ≡ old) → (b || another) ≡ false → set now i (get_or us i null) ≡ old
  unmoved-more unmoved none =
      ap (λ t. set now i t) (same-then another (get_or us i null) (get_or now i null) is (or-right b another none))
      ∙ set-get_or now i null ∙ unmoved (or-left b another none)

  pub moved-more : (b ≡ false → now ≡ old) → (b ≡ true → Differ us old) → (b || another) ≡ true → Differ us old
  moved-more unmoved moved some = by b refl where
    by : (x : Bool) → b ≡ x → Differ us old
    by true h = moved h
    by false h = record {
      place = i;
      at = subst (λ ts. get_or us i null ≢ get_or ts i null) (unmoved h) (another-then another (get_or us i null) (get_or now i null) is (ap (λ x. x || another) (sym h) ∙ some));
    }
