-- Codes under which interest in keys is held, in an order in which one is sought. This project's
-- profile.
use Rattle.std.specs.Prelude.{◌≡◌, ℕ, Bool, List}
use Rattle.std.specs.Bool.{nat_eq}
use Rattle.std.specs.List.{list_any}
use Rattle.std.specs.List.Sorted.{IsNonDecreasing}
use Rattle.cs_view.specs.declared.key.Key.{Key}
use Rattle.cs_codes.specs.Codes.{is_among}
use Rattle.cs_codes.specs.declared.seed.Seed.{Seed}
use Rattle.cs_interest.specs.Interest.{interest_code}

-- interest in one of the keys is held under the code
abbrev pub has_code : Seed → ℕ → List Key → Bool
has_code seed c ks = list_any (λ k. nat_eq c (interest_code seed k)) ks

-- the codes are those of the keys, and no other
abbrev pub AreCodesOf : Seed → List Key → List ℕ → Type 0
AreCodesOf seed ks cs = (c : ℕ) → is_among c cs ≡ has_code seed c ks

-- they ascend
pub record AreSought (seed : Seed) (ks : List Key) (cs : List ℕ) : Type 0 where
  pub ascend : IsNonDecreasing cs
  pub exact : AreCodesOf seed ks cs
