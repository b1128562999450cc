-- The laws of interest.
use Rattle.std.specs.Prelude.{◌≡◌, ℕ, List, ◌∷◌, true}
use Rattle.cs_value.specs.Tree.{Tree}
use Rattle.cs_view.specs.Changes.{Edit, are_changes}
use Rattle.cs_view.specs.Keys.{has, has_all}
use Rattle.cs_view.specs.Touched.{is_touched}
use Rattle.cs_view.specs.declared.key.Key.{Key}
use Rattle.cs_codes.specs.Codes.{is_among}
use Rattle.cs_codes.specs.declared.seed.Seed.{Seed}
use Rattle.cs_interest.specs.Changed.{changes_codes}
use Rattle.cs_interest.specs.Interest.{holds, interest_code, is_asked}
use Rattle.cs_interest.specs.Narrow.{narrowest}
use Rattle.cs_interest.specs.declared.interest.Interest.{Interest}

-- a number that stands under the code of a key that changes touch is asked
abbrev pub TouchedIsAsked : Type 0
TouchedIsAsked =
    (i : Interest) (cs : List Edit) (k : Key) (n : ℕ) → are_changes cs ≡ true
    → is_touched cs k ≡ true → holds i (interest_code i.seed k) n ≡ true → is_asked i cs n ≡ true

-- a key that changes touch has its code among those of the changes, or that of every document
abbrev pub TouchedHasCode : Type 0
TouchedHasCode =
    (seed : Seed) (cs : List Edit) (k : Key) → is_touched cs k ≡ true
    → is_among (interest_code seed k) (0 ∷ changes_codes seed cs) ≡ true

-- a document that has each of some keys has the narrowest
abbrev pub NarrowestIsHad : Type 0
NarrowestIsHad =
    (ks : List Key) (d : Tree) → has_all ks d ≡ true → has (narrowest ks) d ≡ true
