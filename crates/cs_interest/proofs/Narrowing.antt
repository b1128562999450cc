-- A document that has each of some keys has the narrowest of them.
use Rattle.std.proofs.Common.{◌≡◌, List, [], ◌∷◌, Bool, true, false, cond, nat_lt, refl}
use Rattle.std.specs.Prelude.{fold}
use Rattle.cs_value.specs.Tree.{Tree}
use Rattle.cs_view.specs.Keys.{has, has_all}
use Rattle.cs_view.specs.declared.key.Key.{Key}
use Rattle.cs_view.specs.declared.key.Key.TheVariants.{All}
use Rattle.cs_view.proofs.Booleans.{and-left, and-right}
use Rattle.cs_interest.specs.Laws.{NarrowestIsHad}
use Rattle.cs_interest.specs.Narrow.{breadth, narrower}

either_had : (a b : Key) (d : Tree) (c : Bool) → has a d ≡ true → has b d ≡ true
    → has (cond c b a) d ≡ true
either_had a b d true h g = g
either_had a b d false h g = h

all_had : (k : Key) (ks : List Key) (d : Tree) → has k d ≡ true → has_all ks d ≡ true
    → has (fold narrower k ks) d ≡ true
all_had k [] d h g = h
all_had k (x ∷ xs) d h g =
    all_had (narrower k x) xs d
    (either_had k x d (nat_lt (breadth x) (breadth k)) h (and-left (has x d) (has_all xs d) g))
    (and-right (has x d) (has_all xs d) g)

pub narrowest_had : NarrowestIsHad
narrowest_had ks d h = all_had All ks d refl h
