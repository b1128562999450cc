-- How a last answer is found by the keys that changes touch: their codes stand in one place, with
-- its number. This project's profile.
use Rattle.std.specs.Prelude.{◌≡◌, ℕ, false, List, [], ◌∷◌, drop}
use Rattle.std.specs.Bool.{nat_eq}
use Rattle.cs_value.specs.Tree.{Pairs}
use Rattle.cs_value.specs.View.{fields}
use Rattle.cs_syntax.specs.Expression.{Expression}
use Rattle.cs_syntax.specs.Queries.{expression_of}
use Rattle.cs_view.specs.declared.key.Key.{Key}
use Rattle.cs_plan.specs.Simple.{query_keys}
use Rattle.cs_codes.specs.Codes.{is_among}
use Rattle.cs_codes.specs.declared.seed.Seed.{Seed}
use Rattle.cs_interest.specs.Interest.{holds, interest_code}
use Rattle.cs_interest.specs.Narrow.{narrowest}
use Rattle.cs_interest.specs.declared.interest.Interest.{Interest}
use Rattle.cs_hits.specs.Codes.{AreCodesOf, AreSought}
use Rattle.cs_hits.specs.Shares.{shares_looked}
use Rattle.cs_keys.specs.Keys.{all_keys}
use Rattle.cs_kept.specs.Mapped.{mapped_keys}
use Rattle.cs_kept.specs.declared.kept.Kept.{Kept}
use Rattle.cs_kept.specs.declared.kept.Kept.TheVariants.{ByRecord, InRows, InShares}

-- the narrowest of the keys that each hit of a simple query has
abbrev pub hit_key : Expression → Pairs → Key
hit_key e params = narrowest (query_keys e params)

-- the keys whose documents an answer depends on: those of its record, that of the hits of its
-- simple query, or those of its mapped one
abbrev pub interests : Kept → List Key
interests (ByRecord r) = all_keys r.keys
interests (InRows r) = hit_key (expression_of r.query) (fields r.params) ∷ []
interests (InShares m) = mapped_keys m

-- the codes that are kept with it
abbrev pub codes_of : Kept → List ℕ
codes_of (ByRecord r) = r.keys.codes.items
codes_of (InRows r) = r.codes.items
codes_of (InShares m) = m.codes.items

-- the codes of a mapped query: that of its own key, and behind it, ascending, those of the keys
-- that finding its shares looked up
pub record AreListed (seed : Seed) (own : Key) (looked : List Key) (cs : List ℕ) : Type 0 where
  pub first : cs ≡ interest_code seed own ∷ drop 1 cs
  pub behind : AreSought seed looked (drop 1 cs)

-- the codes are those of the keys, and no other
abbrev pub IsCoded : Seed → Kept → Type 0
IsCoded seed (ByRecord r) = AreCodesOf seed (all_keys r.keys) r.keys.codes.items
IsCoded seed (InRows r) =
    AreCodesOf seed (hit_key (expression_of r.query) (fields r.params) ∷ []) r.codes.items
IsCoded seed (InShares m) = AreListed seed m.own (shares_looked m.shares.items) m.codes.items

-- the number stands under the codes of the keys, and under no other
pub record IsFound (i : Interest) (number : ℕ) (k : Kept) : Type 0 where
  pub stands : (c : ℕ) → holds i c number ≡ is_among c (codes_of k)
  pub coded : IsCoded i.seed k

-- the other numbers stand where they stood
pub record KeepsOthers (number : ℕ) (old new : Interest) : Type 0 where
  pub others : (c n : ℕ) → nat_eq n number ≡ false → holds new c n ≡ holds old c n
  pub seed : new.seed ≡ old.seed
