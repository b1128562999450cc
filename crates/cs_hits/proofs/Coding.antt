-- Keys whose codes are among some, and changes that touch none of them.
use Rattle.std.proofs.Common.{◌≡◌, ◌∙◌, ℕ, List, [], ◌∷◌, map, Bool, true, false, ◌||◌, refl, sym, ap, true≢false, nat_eq, eqb-true, eq-eqb}
use Rattle.std.specs.List.{list_any}
use Rattle.std.proofs.lemmas.Bool.{or_right}
use Rattle.cs_view.specs.Changes.{Edit}
use Rattle.cs_view.specs.Touched.{touched, is_touched}
use Rattle.cs_view.specs.declared.key.Key.{Key}
use Rattle.cs_codes.specs.Codes.{is_among}
use Rattle.cs_codes.specs.declared.seed.Seed.{Seed}
use Rattle.cs_interest.specs.Changed.{changes_codes}
use Rattle.cs_interest.specs.Interest.{interest_code}
use Rattle.cs_interest.specs.Laws.{TouchedHasCode}
use Rattle.cs_hits.specs.Codes.{AreSought, has_code}

pub among-map : (seed : Seed) (c : ℕ) (ks : List Key)
    → is_among c (map (interest_code seed) ks) ≡ has_code seed c ks
among-map seed c [] = refl
among-map seed c (k ∷ ks) = ap (λ b. nat_eq c (interest_code seed k) || b) (among-map seed c ks)

-- a test that one of some numbers passes
any-among : (test : ℕ → Bool) (c : ℕ) (xs : List ℕ) → is_among c xs ≡ true → test c ≡ true
    → list_any test xs ≡ true
any-among test c [] among passes = absurd (true≢false (sym among))
any-among test c (x ∷ xs) among passes =
    by_test (λ later. any-among test c xs later passes) (nat_eq c x) refl where
      by_test : (is_among c xs ≡ true → list_any test xs ≡ true) → (b : Bool) → nat_eq c x ≡ b
          → (test x || list_any test xs) ≡ true
      by_test later true same =
          ap (λ (p : Bool). p || list_any test xs) (ap test (sym (eqb-true c x same)) ∙ passes)
      by_test later false other =
          or_right (test x) (list_any test xs)
          (later (ap (λ (p : Bool). p || is_among c xs) (sym other) ∙ among))

module _ (law : TouchedHasCode) (seed : Seed) (cs : List Edit) (codes : List ℕ)
    (zero_out : is_among 0 codes ≡ false)
    (none : list_any (λ c. is_among c codes) (changes_codes seed cs) ≡ false) where
  none-of : (ks : List Key) → ((c : ℕ) → has_code seed c ks ≡ true → is_among c codes ≡ true)
      → touched ks cs ≡ false
  none-of [] all = refl
  none-of (k ∷ ks) all =
      by_test (none-of ks (λ c h. all c (or_right (nat_eq c (interest_code seed k)) (has_code seed c ks) h)))
      (is_touched cs k) refl where
        own : has_code seed (interest_code seed k) (k ∷ ks) ≡ true
        own = ap (λ (b : Bool). b || has_code seed (interest_code seed k) ks)
            (eq-eqb (interest_code seed k) (interest_code seed k) refl)

        found : is_touched cs k ≡ true
            → list_any (λ c. is_among c codes) (0 ∷ changes_codes seed cs) ≡ true
        found h = any-among (λ c. is_among c codes) (interest_code seed k) (0 ∷ changes_codes seed cs)
            (law seed cs k h) (all (interest_code seed k) own)

        nowhere : list_any (λ c. is_among c codes) (0 ∷ changes_codes seed cs) ≡ false
        nowhere = ap (λ (b : Bool). b || list_any (λ c. is_among c codes) (changes_codes seed cs)) zero_out
            ∙ none

        by_test : touched ks cs ≡ false → (b : Bool) → is_touched cs k ≡ b
            → (is_touched cs k || touched ks cs) ≡ false
        by_test rest true h = absurd (true≢false (sym (found h) ∙ nowhere))
        by_test rest false h = ap (λ (b : Bool). b || touched ks cs) h ∙ rest

-- where no code of the changes is among those of the keys, none of these is touched
pub none-touched : (law : TouchedHasCode) (seed : Seed) (cs : List Edit) (ks : List Key)
    (codes : List ℕ) → AreSought seed ks codes → is_among 0 codes ≡ false
    → list_any (λ c. is_among c codes) (changes_codes seed cs) ≡ false
    → touched ks cs ≡ false
none-touched law seed cs ks codes sought zero_out none =
    none-of law seed cs codes zero_out none ks (λ c h. sought.exact c ∙ h)
