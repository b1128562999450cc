-- Shares that are brought to a dataset one after another, and the places of those found anew.
use Rattle.std.proofs.Common.{◌≡◌, ◌≢◌, ◌∙◌, ℕ, ◌<◌, ◌+◌, List, [], ◌∷◌, ◌++◌, length, get_or, set, take, drop, false, ◌||◌, refl, sym, subst, arith}
use Rattle.std.specs.List.{AllByRecursion}
use Rattle.std.proofs.lemmas.Bool.{eqb-false}
use Rattle.std.proofs.lemmas.List.{drop_more, drop-set-lt, get_or-set_other, length-map, length-set, map-set, take_more_set}
use Rattle.std.proofs.lemmas.List.Elements.{All-nil, All-push}
use Rattle.std.proofs.lemmas.List.Folds.{list_any-append}
use Rattle.std.specs.Bool.{nat_eq}
use Rattle.cs_value.specs.Tree.{Tree}
use Rattle.cs_value.specs.View.{tree}
use Rattle.cs_codes.specs.Codes.{is_among}
use Rattle.cs_view.proofs.Booleans.{or-left, or-right}
use Rattle.cs_hits.specs.Shares.{SameBut, share_values}
use Rattle.cs_hits.specs.declared.share.Share.{Share}

-- ---- what holds of each, while one after another is replaced
module _ {T : Type 0} (P : T → Type 0) where
  pub all-rest : (xs : List T) (i : ℕ) (d : T) → i < length xs → AllByRecursion P (drop i xs) → P (get_or xs i d) × AllByRecursion P (drop (i + 1) xs)
  all-rest xs i d low all = subst (λ (l : List T). AllByRecursion P l) (drop_more xs i d low) all

  all-last : (xs : List T) (x : T) → AllByRecursion P xs → P x → AllByRecursion P (xs ++ x ∷ [])
  all-last [] x all one = (one, tt)
  all-last (y ∷ ys) x all one = (all.0, all-last ys x all.1 one)

  pub all-done : (xs : List T) (i : ℕ) (x : T) → i < length xs → AllByRecursion P (take i xs) → P x → AllByRecursion P (take (i + 1) (set xs i x))
  all-done xs i x low all one = subst (λ (l : List T). AllByRecursion P l) (sym (take_more_set xs i x low)) (all-last (take i xs) x all one)

  pub all-left : (xs : List T) (i : ℕ) (x d : T) → i < length xs → AllByRecursion P (drop i xs) → AllByRecursion P (drop (i + 1) (set xs i x))
  all-left xs i x d low all = subst (λ (l : List T). AllByRecursion P l) (sym (drop-set-lt (i + 1) xs i x (omega arith))) (all-rest xs i d low all).1

-- ---- the places of those that are others
pub but-none : (ts : List Tree) → SameBut [] ts ts
but-none ts = record { long = refl; within = All-nil (λ i. i < length ts); same = λ i t low out. refl }

pub but-one : (ps : List ℕ) (ts us : List Tree) (i : ℕ) (u : Tree) → i < length us → SameBut ps ts us → SameBut (ps ++ i ∷ []) ts (set us i u)
but-one ps ts us i u low but = record {
  long = but.long ∙ sym (length-set us i u);
  within = All-push (λ k. k < length ts) ps i but.within (let long = but.long in omega (arith, low, long));
  same = λ j t inside out.
      let parts : (is_among j ps || (nat_eq j i || false)) ≡ false = sym (list_any-append (λ x. nat_eq j x) ps (i ∷ [])) ∙ out in
      but.same j t inside (or-left (is_among j ps) _ parts)
      ∙ sym (get_or-set_other us i j u t (eqb-false j i (or-left (nat_eq j i) false (or-right (is_among j ps) _ parts))));
}

-- one of the shares is another
pub but-share : (ps : List ℕ) (ts : List Tree) (ss : List Share) (i : ℕ) (s : Share) → i < length ss → SameBut ps ts (share_values ss) → SameBut (ps ++ i ∷ []) ts (share_values (set ss i s))
but-share ps ts ss i s low but =
    let value : Share → Tree = λ (x : Share). tree x.value in
    let long : length (share_values ss) ≡ length ss = length-map ss value in
    subst (λ (us : List Tree). SameBut (ps ++ i ∷ []) ts us) (sym (map-set value ss i s)) (but-one ps ts (share_values ss) i (tree s.value) (omega (arith, low, long)) but)

pub one-more : {T : Type 0} (xs : List T) (x : T) → xs ++ x ∷ [] ≢ []
one-more [] x same = absurd (cc)
one-more (y ∷ ys) x same = absurd (cc)
