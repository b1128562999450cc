-- Codes of keys, order and repeats aside.
use Rattle.std.proofs.Common.{◌≡◌, ◌∙◌, ℕ, List, [], ◌∷◌, map, Bool, true, false, ◌||◌, refl, sym, ap, nat_eq}
use Rattle.std.specs.Prelude.{Contains}
use Rattle.std.specs.List.{list_any}
use Rattle.std.proofs.lemmas.List.Folds.{Any-from_list_any, list_any-from_Any}
use Rattle.cs_view.specs.declared.key.Key.{Key}
use Rattle.cs_codes.specs.Codes.{is_among}
use Rattle.cs_codes.specs.declared.seed.Seed.{Seed}
use Rattle.cs_interest.specs.Interest.{interest_code}
use Rattle.cs_keys.specs.Keys.{SameKeys}
use Rattle.cs_hits.specs.Codes.{has_code}
use Rattle.cs_hits.proofs.Coding.{among-map}
use Rattle.cs_kept.specs.Found.{AreListed, IsCoded, codes_of, interests}
use Rattle.cs_kept.specs.declared.kept.Kept.{Kept}
use Rattle.cs_kept.specs.declared.kept.Kept.TheVariants.{ByRecord, InRows, InShares}

bools : (r s : Bool) → (r ≡ true → s ≡ true) → (s ≡ true → r ≡ true) → r ≡ s
bools true s f g = sym (f refl)
bools false true f g = g refl
bools false false f g = refl

any-there : (p : Key → Bool) (xs ys : List Key) → ((k : Key) → Contains xs k → Contains ys k) → list_any p xs ≡ true → list_any p ys ≡ true
any-there p xs ys there h =
    let a = Any-from_list_any p xs h in
    let c = there a.1 (a.0, a.2, a.3) in
    list_any-from_Any p ys (c.0, a.1, c.1, c.2, a.4)

same-any : (p : Key → Bool) (xs ys : List Key) → SameKeys xs ys → list_any p xs ≡ list_any p ys
same-any p xs ys same = bools _ _ (any-there p xs ys same.there) (any-there p ys xs same.back)

-- the codes of the keys that were looked up are those of the keys that are kept
pub coded-of : (seed : Seed) (ks looked : List Key) (cs : List ℕ) → SameKeys ks looked → cs ≡ map (interest_code seed) looked → (c : ℕ) → is_among c cs ≡ has_code seed c ks
coded-of seed ks looked cs same is c = ap (is_among c) is ∙ among-map seed c looked ∙ sym (same-any (λ k. nat_eq c (interest_code seed k)) ks looked same)

-- so is each kind of answer found by its codes
pub coded-among : (seed : Seed) (k : Kept) → IsCoded seed k → (c : ℕ) → is_among c (codes_of k) ≡ has_code seed c (interests k)
coded-among seed (ByRecord r) h c = h c
coded-among seed (InRows r) h c = h c
coded-among seed (InShares m) h c = ap (is_among c) h.first ∙ ap (λ b. nat_eq c (interest_code seed m.own) || b) (h.behind.exact c)

-- keys that have the same codes, in the same order, have each of them
pub same-codes : (seed : Seed) (c : ℕ) (ks js : List Key) → map (interest_code seed) ks ≡ map (interest_code seed) js → has_code seed c ks ≡ has_code seed c js
same-codes seed c ks js is = sym (among-map seed c ks) ∙ ap (is_among c) is ∙ among-map seed c js

-- those of one key
pub coded-one : (seed : Seed) (k : Key) (cs : List ℕ) → cs ≡ interest_code seed k ∷ [] → (c : ℕ) → is_among c cs ≡ has_code seed c (k ∷ [])
coded-one seed k cs is c = ap (is_among c) is

-- where the keys that were looked up have the codes that others had, the codes are theirs
pub listed-still : (seed : Seed) (own : Key) (ks js : List Key) (cs : List ℕ) → map (interest_code seed) ks ≡ map (interest_code seed) js → AreListed seed own js cs → AreListed seed own ks cs
listed-still seed own ks js cs same listed = record {
  first = listed.first;
  behind = record {
    ascend = listed.behind.ascend;
    exact = λ c. listed.behind.exact c ∙ same-codes seed c js ks (sym same);
  };
}
