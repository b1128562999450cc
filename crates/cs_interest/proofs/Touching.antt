-- A number that stands under the code of a key that changes touch is asked.
use Rattle.std.proofs.Common.{◌≡◌, ◌∙◌, ℕ, ◌<◌, ◌≤◌, List, [], ◌∷◌, length, Option, None, Some, Bool, true, false, cond, ◌||◌, refl, sym, ap, true≢false, nat_lt, nat_eq, eqb-true, arith}
use Rattle.std.proofs.lemmas.Grind.{common_steps}
use Rattle.std.specs.BTreeSet.{BTreeSet}
use Rattle.std.specs.List.{list_any}
use Rattle.std.proofs.lemmas.Bool.{or_right, or_left}
use Rattle.cs_value.specs.Tree.{Tree}
use Rattle.cs_view.specs.Changes.{Edit, is_of_id}
use Rattle.cs_view.specs.Document.{passes, id_of}
use Rattle.cs_view.specs.Keys.{has}
use Rattle.cs_view.specs.Limits.{most_names}
use Rattle.cs_view.specs.Touched.{touches, is_touched}
use Rattle.cs_view.specs.declared.key.Key.{Key}
use Rattle.cs_view.specs.declared.key.Key.TheVariants.{All, Id, Path, Elem, Ref}
use Rattle.cs_view.proofs.Booleans.{and-left, and-right}
use Rattle.cs_view.proofs.Changed.{OwnIds, own_ids}
use Rattle.cs_view.proofs.Datasets.{same_id-same}
use Rattle.cs_codes.specs.Codes.{key_codes, id_code, is_among, key_code, side_codes}
use Rattle.cs_codes.specs.declared.seed.Seed.{Seed}
use Rattle.cs_codes.specs.Kept.{IsKept}
use Rattle.cs_codes.specs.Laws.{KeysAreListed}
use Rattle.cs_interest.specs.Interest.{are_few, interest_code, has_pair, has_some, concerned, is_asked}
use Rattle.cs_interest.specs.Laws.{TouchedIsAsked}
use Rattle.cs_interest.specs.declared.interest.Interest.{Interest}
use Rattle.cs_interest.specs.declared.pair.Pair.{Pair}

-- what follows from each of two, where one of them holds
pub either : (a b r : Bool) → (a ≡ true → r ≡ true) → (b ≡ true → r ≡ true) → (a || b) ≡ true → r ≡ true
either true b r f g h = f refl
either false b r f g h = g h

-- one of two holds: so it does with a third put between them, or behind them
pub later : (a b c : Bool) → (a || c) ≡ true → (a || (b || c)) ≡ true
later true b c h = refl
later false b c h = or_right b c h

pub here : (a b c : Bool) → (a || b) ≡ true → (a || (b || c)) ≡ true
here true b c h = refl
here false true c h = refl
here false false c h = absurd (true≢false (sym h))

-- a number under a code that is among these
some_has : (m : BTreeSet Pair) (c n : ℕ) (cs : List ℕ) → is_among c cs ≡ true → has_pair m c n ≡ true → has_some m cs n ≡ true
some_has m c n [] h g = h
some_has m c n (x ∷ xs) h g = by_test (some_has m c n xs) (nat_eq c x) refl h where
  by_test : (is_among c xs ≡ true → has_pair m c n ≡ true → has_some m xs n ≡ true) → (b : Bool) → nat_eq c x ≡ b → (b || is_among c xs) ≡ true → (has_pair m x n || has_some m xs n) ≡ true
  by_test ih true e h = or_left (has_pair m x n) (has_some m xs n) (ap (λ y. has_pair m y n) (sym (eqb-true c x e)) ∙ g)
  by_test ih false e h = or_right (has_pair m x n) (has_some m xs n) (ih h g)

module _ (listed : KeysAreListed) (seed : Seed) (m : BTreeSet Pair) (n : ℕ) (e : Edit) where
  -- one of the two sides
  side_has : (k : Key) → IsKept k → has_pair m (key_code seed k) n ≡ true → (o : Option Tree) → passes (has k) o ≡ true → has_some m (side_codes seed o) n ≡ true
  side_has k kept g None h = absurd (true≢false (sym h))
  side_has k kept g (Some d) h = some_has m (key_code seed k) n (key_codes seed d) (listed seed k d kept h) g

  kept_concerns : (k : Key) → IsKept k → has_pair m (key_code seed k) n ≡ true → touches k e ≡ true → concerned seed m n e ≡ true
  kept_concerns k kept g h =
      either (passes (has k) e.1.0) (passes (has k) e.1.1) (concerned seed m n e)
      (λ a. or_left (has_pair m (id_code seed e.0) n || has_some m (side_codes seed e.1.0) n) _ (or_right (has_pair m (id_code seed e.0) n) _ (side_has k kept g e.1.0 a)))
      (λ a. or_right (has_pair m (id_code seed e.0) n || has_some m (side_codes seed e.1.0) n) _ (side_has k kept g e.1.1 a)) h

  own_side : (t : List ℕ) (o : Option Tree) → is_of_id e.0 o ≡ true → passes (has (Id t)) o ≡ true → t ≡ e.0
  own_side t None own h = absurd (true≢false (sym h))
  own_side t (Some d) own h = same_id-same t (id_of d) h ∙ sym (same_id-same e.0 (id_of d) own)

  id_concerns : (t : List ℕ) → is_of_id e.0 e.1.0 ≡ true → is_of_id e.0 e.1.1 ≡ true → has_pair m (id_code seed t) n ≡ true → touches (Id t) e ≡ true → concerned seed m n e ≡ true
  id_concerns t before after g h = or_left (has_pair m (id_code seed e.0) n || has_some m (side_codes seed e.1.0) n) _ (or_left (has_pair m (id_code seed e.0) n) _ (is_there (own h))) where
    is_there : t ≡ e.0 → has_pair m (id_code seed e.0) n ≡ true
    is_there is = ap (λ (x : List ℕ). has_pair m (id_code seed x) n) (sym is) ∙ g

    own : touches (Id t) e ≡ true → t ≡ e.0
    own h = by_side (passes (has (Id t)) e.1.0) refl h where
      by_side : (b : Bool) → passes (has (Id t)) e.1.0 ≡ b → (b || passes (has (Id t)) e.1.1) ≡ true → t ≡ e.0
      by_side true f h = own_side t e.1.0 before f
      by_side false f h = own_side t e.1.1 after h

pub few : (ns : List (List ℕ)) → are_few ns ≡ true → (0 < length ns) × (length ns ≤ most_names)
few ns h = (grind (arith, common_steps, and-left (nat_lt 0 (length ns)) _ h), grind (arith, common_steps, and-right (nat_lt 0 (length ns)) _ h))

module _ (listed : KeysAreListed) (i : Interest) (n : ℕ) where
  abbrev concerns : Edit → Bool
  concerns e = concerned i.seed i.pairs n e

  -- the number stands under the code of every document, or the change concerns it
  abbrev Asked : Edit → Type 0
  Asked e = (has_pair i.pairs 0 n || concerns e) ≡ true

  by_names : (k : Key) (ns : List (List ℕ)) (e : Edit) → (are_few ns ≡ true → IsKept k) → has_pair i.pairs (cond (are_few ns) (key_code i.seed k) 0) n ≡ true → touches k e ≡ true → Asked e
  by_names k ns e kept g h = by_test (are_few ns) refl g where
    by_test : (b : Bool) → are_few ns ≡ b → has_pair i.pairs (cond b (key_code i.seed k) 0) n ≡ true → Asked e
    by_test true f g = or_right (has_pair i.pairs 0 n) (concerns e) (kept_concerns listed i.seed i.pairs n e k (kept f) g h)
    by_test false f g = or_left (has_pair i.pairs 0 n) (concerns e) g

  one_asked : (k : Key) (e : Edit) → is_of_id e.0 e.1.0 ≡ true → is_of_id e.0 e.1.1 ≡ true → has_pair i.pairs (interest_code i.seed k) n ≡ true → touches k e ≡ true → Asked e
  one_asked All e before after g h = or_left (has_pair i.pairs 0 n) (concerns e) g
  one_asked (Id t) e before after g h = or_right (has_pair i.pairs 0 n) (concerns e) (id_concerns listed i.seed i.pairs n e t before after g h)
  one_asked (Path ns s) e before after g h = by_names (Path ns s) ns e (few ns) g h
  one_asked (Elem ns s) e before after g h = by_names (Elem ns s) ns e (few ns) g h
  one_asked (Ref t) e before after g h = or_right (has_pair i.pairs 0 n) (concerns e) (kept_concerns listed i.seed i.pairs n e (Ref t) tt g h)

  some_asked : (k : Key) (cs : List Edit) → OwnIds cs → is_touched cs k ≡ true → has_pair i.pairs (interest_code i.seed k) n ≡ true → is_asked i cs n ≡ true
  some_asked k [] own h g = absurd (true≢false (sym h))
  some_asked k (e ∷ es) own h g = by_test (some_asked k es own.1) (touches k e) refl h where
    by_test : (is_touched es k ≡ true → has_pair i.pairs (interest_code i.seed k) n ≡ true → is_asked i es n ≡ true) → (b : Bool) → touches k e ≡ b → (b || is_touched es k) ≡ true → is_asked i (e ∷ es) n ≡ true
    by_test ih true f h = here (has_pair i.pairs 0 n) (concerns e) (list_any concerns es) (one_asked k e own.0.0 own.0.1 g f)
    by_test ih false f h = later (has_pair i.pairs 0 n) (concerns e) (list_any concerns es) (ih h g)

pub touched_asked : KeysAreListed → TouchedIsAsked
touched_asked listed i cs k n changes h g = some_asked listed i n k cs (own_ids cs changes) h g
