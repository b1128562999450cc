-- The first fault of lists of faults, one behind the other, and of the parts of a list of the
-- code's trees.
use Rattle.std.proofs.Common.{◌≡◌, ℕ, suc, ◌+◌, ◌<◌, List, [], ◌∷◌, ◌++◌, length, get_or, drop, drop-cons, Bool, true, false, Option, Some, None, Result, Ok, Err, refl, sym, ap, ◌∙◌, add-one}
use Rattle.std.specs.Prelude.{IsErrAnd}
use Rattle.cs_syntax.specs.Expression.{Arguments, no_arguments, more_arguments}
use Rattle.cs_syntax.specs.Faults.{Fault}
use Rattle.cs_value.specs.Words.{first_of}
use Rattle.cs_syntax.specs.Functions.{pairs_come_first}
use Rattle.cs_faults.specs.Found.{found, told, first_or}
use Rattle.cs_faults.specs.declared.fault.Fault.{Fault as CodeFault}

pub first_append : (xs ys : List Fault) →
    first_of (xs ++ ys) ≡ first_or (first_of xs) (first_of ys)
first_append [] ys = refl
first_append (x ∷ xs) ys = refl

-- what `?` hands on
pub handed : {A : Type 0} (r : Result A CodeFault) (e : CodeFault) {g : Option Fault} →
    IsErrAnd r (λ y. y ≡ e) → Some (told e) ≡ g → found r ≡ g
handed (Ok x) e is h = absurd is
handed (Err y) e is h = ap (λ (z : CodeFault). Some (told z)) is ∙ h

pub seen : {xs ys : List Fault} {g : Option Fault} → xs ≡ ys → g ≡ first_of ys → g ≡ first_of xs
seen e h = h ∙ sym (ap first_of e)

pub moved : {A : Type 0} (f : A → List Fault) {x y : A} {g : Option Fault} → x ≡ y →
    g ≡ first_of (f x) → g ≡ first_of (f y)
moved f e h = h ∙ ap (λ z. first_of (f z)) e

pub stops : (xs ys : List Fault) {f : Fault} → Some f ≡ first_of xs → Some f ≡ first_of (xs ++ ys)
stops xs ys h = ap (λ (g : Option Fault). first_or g (first_of ys)) h ∙ sym (first_append xs ys)

pub goes_on : (xs ys : List Fault) {g : Option Fault} → None ≡ first_of xs → g ≡ first_of ys →
    g ≡ first_of (xs ++ ys)
goes_on xs ys n h = h ∙ ap (λ (g : Option Fault). first_or g (first_of ys)) n
    ∙ sym (first_append xs ys)

-- a loop over parts, whose faults stand one behind the other
module _ {A : Type 0} (whole : List A → List Fault) (part : A →
    List Fault) (cons : (x : A) (xs : List A) → whole (x ∷ xs) ≡ part x ++ whole xs) where
  at : (xs : List A) (i : ℕ) (x : A) → i < length xs → x ≡ get_or xs i x →
      whole (drop i xs) ≡ part x ++ whole (drop (suc i) xs)
  at xs i x inside is =
      ap whole (drop-cons xs i x inside) ∙ cons (get_or xs i x) (drop (suc i) xs)
      ∙ ap (λ (y : A). part y ++ whole (drop (suc i) xs)) (sym is)

  pub loop_stops : (xs : List A) (i : ℕ) (x : A) {f : Fault} → i < length xs → x ≡ get_or xs i x →
      first_of (whole xs) ≡ first_of (whole (drop i xs)) → Some f ≡ first_of (part x) →
      Some f ≡ first_of (whole xs)
  loop_stops xs i x inside is so_far h =
      seen (at xs i x inside is) (stops (part x) (whole (drop (suc i) xs)) h) ∙ sym so_far

  pub loop_goes_on : (xs : List A) (i : ℕ) (x : A) → i < length xs → x ≡ get_or xs i x →
      first_of (whole xs) ≡ first_of (whole (drop i xs)) → None ≡ first_of (part x) →
      first_of (whole xs) ≡ first_of (whole (drop (i + 1) xs))
  loop_goes_on xs i x inside is so_far h =
      rw add-one (so_far
      ∙ sym (seen (at xs i x inside is) (goes_on (part x) (whole (drop (suc i) xs)) h refl)))

-- what is left when an argument without `=>` has been seen, or has not
abbrev pub only_pairs_left : Bool → Arguments → Bool
only_pairs_left false xs = pairs_come_first xs
only_pairs_left true no_arguments = true
only_pairs_left true (more_arguments x xs) = false
