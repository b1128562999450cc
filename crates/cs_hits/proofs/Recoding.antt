-- The codes of the keys that finding shares looked up, while one share after another is replaced.
use Rattle.std.proofs.Common.{◌≡◌, ◌∙◌, ◌<◌, ◌++◌, ◌∷◌, [], ℕ, zero, suc, Bool, List, length, get_or, set, map, sym, ap, arith}
use Rattle.std.proofs.lemmas.List.{map-append}
use Rattle.cs_view.specs.declared.key.Key.{Key}
use Rattle.cs_codes.specs.declared.seed.Seed.{Seed}
use Rattle.cs_interest.specs.Interest.{interest_code}
use Rattle.cs_hits.specs.Shares.{TellsCodes, shares_looked}
use Rattle.cs_hits.specs.declared.share.Share.{Share}

module _ (seed : Seed) where
  abbrev codes : List Key → List ℕ
  codes ks = map (interest_code seed) ks

  -- one share in the place of another whose keys have the same codes
  pub one-other : (ss : List Share) (i : ℕ) (s d : Share) → i < length ss
      → codes s.looked ≡ codes (get_or ss i d).looked
      → codes (shares_looked (set ss i s)) ≡ codes (shares_looked ss)
  one-other [] i s d low same = absurd (omega arith)
  one-other (x ∷ xs) zero s d low same =
      map-append (interest_code seed) s.looked (shares_looked xs)
      ∙ ap (λ cs. cs ++ codes (shares_looked xs)) same
      ∙ sym (map-append (interest_code seed) x.looked (shares_looked xs))
  one-other (x ∷ xs) (suc i) s d low same =
      map-append (interest_code seed) x.looked (shares_looked (set xs i s))
      ∙ ap (λ cs. codes x.looked ++ cs) (one-other xs i s d (omega arith) same)
      ∙ sym (map-append (interest_code seed) x.looked (shares_looked xs))

  -- what is told of two steps is told of both
  pub told-both : (old between new : List Key) (was then is : Bool)
      → TellsCodes seed old between was then → TellsCodes seed between new then is
      → TellsCodes seed old new was is
  told-both old between new was then is first second = λ unset.
      let later = second unset in
      let before = first later.0 in
      (before.0, later.1 ∙ before.1)
