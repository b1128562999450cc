-- Places that stand for documents.
use Rattle.std.proofs.Common.{◌≡◌, ℕ, ◌<◌, suc, ◌≤◌, List, [], ◌∷◌, ◌++◌, map, drop, length, get_or, refl, Option, Some, None, arith}
use Rattle.std.specs.Prelude.{IsSome}
use Rattle.std.proofs.lemmas.Grind.{common_steps}
use Rattle.std.proofs.Math.Seq.{drop-cons}

some_in : {A : Type 0} (us bs : List (Option A)) (x : Option A) (ys : List A) → us ++ x ∷ bs ≡ map Some ys → IsSome x
some_in [] bs x [] h = cc
some_in [] bs None (y ∷ ys) h = cc
some_in [] bs (Some x) (y ∷ ys) h = refl
some_in (a ∷ us) bs x [] h = cc
some_in (a ∷ us) bs x (y ∷ ys) h = some_in us bs x ys cc

pub some_at : {A : Type 0} (f : ℕ → Option A) (ps : List ℕ) (i : ℕ) (us : List (Option A)) (ys : List A) → i < length ps → us ++ map f (drop i ps) ≡ map Some ys → IsSome (f (get_or ps i 0))
some_at f ps i us ys lt h = some_in us (map f (drop (suc i) ps)) (f (get_or ps i 0)) ys (rw (drop-cons ps i 0) at h)

pub same_items : {A : Type 0} (xs ys : List A) → map Some xs ≡ map Some ys → xs ≡ ys
same_items [] [] h = refl
same_items [] (y ∷ ys) h = cc
same_items (x ∷ xs) [] h = cc
same_items (x ∷ xs) (y ∷ ys) h = let t : xs ≡ ys = same_items xs ys cc in cc

pub all_placed : {A : Type 0} (f : ℕ → Option A) (ps : List ℕ) (i : ℕ) (us : List (Option A)) (ys : List (Option A)) → length ps ≤ i → us ++ map f (drop i ps) ≡ ys → us ≡ ys
all_placed f ps i us ys le h = grind (arith, common_steps)

pub as_long : {A B C : Type 0} (f : A → C) (g : B → C) (xs : List A) (ys : List B) → map f xs ≡ map g ys → length xs ≡ length ys
as_long f g [] [] h = refl
as_long f g [] (y ∷ ys) h = cc
as_long f g (x ∷ xs) [] h = cc
as_long f g (x ∷ xs) (y ∷ ys) h = let t : map f xs ≡ map g ys = cc in omega (arith, as_long f g xs ys t)
