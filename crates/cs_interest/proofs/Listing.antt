-- A key that changes touch has its code among those of the changes, or that of every document.
use Rattle.std.proofs.Common.{◌≡◌, ◌∙◌, ℕ, List, [], ◌∷◌, ◌++◌, Option, None, Some, Bool, true, false, cond, ◌||◌, refl, sym, ap, true≢false, nat_eq, eq-eqb}
use Rattle.std.proofs.lemmas.Bool.{or_right, or_left}
use Rattle.std.proofs.lemmas.List.Folds.{list_any-append}
use Rattle.cs_value.specs.Tree.{Tree}
use Rattle.cs_view.specs.Changes.{Edit}
use Rattle.cs_view.specs.Document.{passes, id_of}
use Rattle.cs_view.specs.Keys.{has}
use Rattle.cs_view.specs.Touched.{touches, is_touched}
use Rattle.cs_view.specs.declared.key.Key.{Key}
use Rattle.cs_view.specs.declared.key.Key.TheVariants.{All, Id, Path, Elem, Ref}
use Rattle.cs_view.proofs.Datasets.{same_id-same}
use Rattle.cs_codes.specs.Codes.{key_codes, id_code, is_among, key_code}
use Rattle.cs_codes.specs.declared.seed.Seed.{Seed}
use Rattle.cs_codes.specs.Kept.{IsKept}
use Rattle.cs_codes.specs.Laws.{KeysAreListed}
use Rattle.cs_interest.specs.Changed.{all_codes, change_codes, changes_codes}
use Rattle.cs_interest.specs.Interest.{are_few, interest_code}
use Rattle.cs_interest.specs.Laws.{TouchedHasCode}
use Rattle.cs_interest.proofs.Touching.{either, few, here, later}

-- ---- each key of a document has its code among the document's, or that of every document
module _ (listed : KeysAreListed) (seed : Seed) (d : Tree) where
  abbrev Listed : ℕ → Type 0
  Listed c = is_among c (0 ∷ all_codes seed (Some d)) ≡ true

  among_keys : (c : ℕ) → is_among c (key_codes seed d) ≡ true → Listed c
  among_keys c h = or_right (nat_eq c 0) _ (or_right (nat_eq c (id_code seed (id_of d))) (is_among c (key_codes seed d)) h)

  own_id : (t : List ℕ) → t ≡ id_of d → Listed (id_code seed t)
  own_id t is = or_right (nat_eq (id_code seed t) 0) _ (or_left (nat_eq (id_code seed t) (id_code seed (id_of d))) (is_among (id_code seed t) (key_codes seed d)) (eq-eqb _ _ (ap (id_code seed) is)))

  by_names : (k : Key) (b : Bool) → (b ≡ true → IsKept k) → has k d ≡ true → Listed (cond b (key_code seed k) 0)
  by_names k true kept h = among_keys (key_code seed k) (listed seed k d (kept refl) h)
  by_names k false kept h = refl

  pub key_listed : (k : Key) → has k d ≡ true → Listed (interest_code seed k)
  key_listed All h = refl
  key_listed (Id t) h = own_id t (same_id-same t (id_of d) h)
  key_listed (Path ns s) h = by_names (Path ns s) (are_few ns) (few ns) h
  key_listed (Elem ns s) h = by_names (Elem ns s) (are_few ns) (few ns) h
  key_listed (Ref t) h = among_keys (key_code seed (Ref t)) (listed seed (Ref t) d tt h)

-- ---- what is listed in one of two parts is listed in both together
in_first : (c : ℕ) (xs ys : List ℕ) → is_among c (0 ∷ xs) ≡ true → is_among c (0 ∷ (xs ++ ys)) ≡ true
in_first c xs ys h = ap (λ b. nat_eq c 0 || b) (list_any-append (λ x. nat_eq c x) xs ys) ∙ here (nat_eq c 0) (is_among c xs) (is_among c ys) h

in_second : (c : ℕ) (xs ys : List ℕ) → is_among c (0 ∷ ys) ≡ true → is_among c (0 ∷ (xs ++ ys)) ≡ true
in_second c xs ys h = ap (λ b. nat_eq c 0 || b) (list_any-append (λ x. nat_eq c x) xs ys) ∙ later (nat_eq c 0) (is_among c xs) (is_among c ys) h

module _ (listed : KeysAreListed) (seed : Seed) (k : Key) where
  abbrev code : ℕ
  code = interest_code seed k

  side_listed : (o : Option Tree) → passes (has k) o ≡ true → is_among code (0 ∷ all_codes seed o) ≡ true
  side_listed None h = absurd (true≢false (sym h))
  side_listed (Some d) h = key_listed listed seed d k h

  change_listed : (e : Edit) → touches k e ≡ true → is_among code (0 ∷ change_codes seed e) ≡ true
  change_listed e h =
      either (passes (has k) e.1.0) (passes (has k) e.1.1) (is_among code (0 ∷ change_codes seed e))
      (λ a. in_first code (all_codes seed e.1.0) (all_codes seed e.1.1) (side_listed e.1.0 a))
      (λ a. in_second code (all_codes seed e.1.0) (all_codes seed e.1.1) (side_listed e.1.1 a)) h

  some_listed : (cs : List Edit) → is_touched cs k ≡ true → is_among code (0 ∷ changes_codes seed cs) ≡ true
  some_listed [] h = absurd (true≢false (sym h))
  some_listed (e ∷ es) h =
      either (touches k e) (is_touched es k) (is_among code (0 ∷ changes_codes seed (e ∷ es)))
      (λ a. in_first code (change_codes seed e) (changes_codes seed es) (change_listed e a))
      (λ a. in_second code (change_codes seed e) (changes_codes seed es) (some_listed es a)) h

pub touched_listed : KeysAreListed → TouchedHasCode
touched_listed listed seed cs k h = some_listed listed seed k cs h
