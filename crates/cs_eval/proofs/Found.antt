-- Hits that are found place by place.
use Rattle.std.proofs.Common.{◌≡◌, ◌∙◌, ap, ℕ, zero, suc, ◌+◌, ◌<◌, ◌≤◌, List, [], ◌∷◌, ◌++◌, length, get_or, take, map, sym, Bool, Option, Some, refl, arith}
use Rattle.std.specs.Prelude.{filter, IsSome}
use Rattle.std.proofs.lemmas.List.{take_all}
use Rattle.std.proofs.lemmas.List.Elements.{filter_more}
use Rattle.cs_value.specs.Tree.{Tree}
use Rattle.cs_view.specs.Keys.{selected}
use Rattle.cs_view.specs.declared.key.Key.{Key}

-- the places of the documents that have each of some keys
pub of_keys : (at : ℕ → Option Tree) (places items : List ℕ) (ks keys : List Key) (docs : List Tree) → places ≡ items → map at items ≡ map Some (selected ks docs) → ks ≡ keys → map at places ≡ map Some (selected keys docs)
of_keys at places items ks keys docs same found is = ap (map at) same ∙ found ∙ ap (λ (xs : List Key). map Some (selected xs docs)) is

-- at each place stands the document of the same index
stands : (at : ℕ → Option Tree) (places : List ℕ) (docs : List Tree) (i : ℕ) (d : Tree) → map at places ≡ map Some docs → i < length places → at (get_or places i 0) ≡ Some (get_or docs i d)
stands at [] docs i d h l = absurd (omega arith)
stands at (p ∷ places) [] i d h l = cc
stands at (p ∷ places) (e ∷ docs) zero d h l = cc
stands at (p ∷ places) (e ∷ docs) (suc i) d h l = let rest : map at places ≡ map Some docs = cc in stands at places docs i d rest (omega arith)

pub is_there : (at : ℕ → Option Tree) (places : List ℕ) (docs : List Tree) (i : ℕ) (d : Tree) → map at places ≡ map Some docs → i < length places → IsSome (at (get_or places i 0))
is_there at places docs i d h l = let e = stands at places docs i d h l in rw e refl

pub as_many : (at : ℕ → Option Tree) (places : List ℕ) (docs : List Tree) → map at places ≡ map Some docs → length places ≡ length docs
as_many at [] [] h = refl
as_many at [] (d ∷ docs) h = cc
as_many at (p ∷ places) [] h = cc
as_many at (p ∷ places) (d ∷ docs) h = let rest : map at places ≡ map Some docs = cc in omega (arith, as_many at places docs rest)

-- what was found among the first places, and now among one more
pub found-more : (p : Tree → Bool) (at : ℕ → Option Tree) (places : List ℕ) (docs : List Tree) (i : ℕ) (d : Tree) (before after : List Tree) → map at places ≡ map Some docs → i < length places
    → at (get_or places i 0) ≡ Some d → before ≡ filter p (take i docs) → after ≡ before ++ filter p (d ∷ []) → after ≡ filter p (take (i + 1) docs)
found-more p at places docs i d before after h l here so is =
    let same : d ≡ get_or docs i d = let e = stands at places docs i d h l in cc in
    let n = as_many at places docs h in
    is ∙ ap (λ x. x ++ filter p (d ∷ [])) so ∙ ap (λ x. filter p (take i docs) ++ filter p (x ∷ [])) same
    ∙ sym (filter_more p docs i d (omega (arith, n, l)))

-- and among all of them
pub found-all : (p : Tree → Bool) (at : ℕ → Option Tree) (places : List ℕ) (docs : List Tree) (i : ℕ) (found : List Tree) → map at places ≡ map Some docs → length places ≤ i → found ≡ filter p (take i docs) → found ≡ filter p docs
found-all p at places docs i found h l is = let n = as_many at places docs h in is ∙ ap (filter p) (take_all i docs (omega (arith, n, l)))
