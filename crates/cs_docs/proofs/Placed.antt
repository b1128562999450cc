-- What stands at the places of documents.
use Rattle.std.proofs.Common.{◌≡◌, ℕ, zero, suc, ◌<◌, List, [], ◌∷◌, length, map, get_or, Option, Some, IsSome, refl, arith}
use Rattle.cs_value.specs.Tree.{Tree}

-- a document stands at each of them
pub stands : (at : ℕ → Option Tree) (places : List ℕ) (docs : List Tree) → map at places ≡ map Some docs → (i : ℕ) → i < length places → IsSome (at (get_or places i 0))
stands at [] docs h i l = absurd (omega arith)
stands at (p ∷ places) [] h i l = cc
stands at (p ∷ places) (d ∷ docs) h zero l = let e : at p ≡ Some d = cc in rw e refl
stands at (p ∷ places) (d ∷ docs) h (suc i) l = let rest : map at places ≡ map Some docs = cc in stands at places docs rest i (omega arith)
