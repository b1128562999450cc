-- Pairs of a set: which one is put or taken out, and which stand under a code.
use Rattle.std.proofs.Common.{◌≡◌, ◌∙◌, ℕ, List, [], ◌∷◌, length, Bool, true, false, cond, ◌&&◌, ◌||◌, refl, sym, ap, Ordering, Less, Equal, Greater, is_eq, nat_cmp, nat_eq, arith, filter, true≢false}
use Rattle.std.proofs.lemmas.Grind.{common_steps}
use Rattle.std.specs.Ordering.{ordering_then}
use Rattle.std.specs.BTreeSet.{BTreeSet, keys_between}
use Rattle.std.specs.BTreeMap.{is_at}
use Rattle.std.specs.BTreeMap.Range.{range_contains}
use Rattle.std.specs.List.{list_any}
use Rattle.std.specs.List.Sorted.{IsStrictlySortedBy}
use Rattle.std.specs.declared.ops.Bound.TheVariants.{Included}
use Rattle.cs_view.specs.Changes.{Edit}
use Rattle.cs_codes.specs.Codes.{id_code, side_codes}
use Rattle.cs_codes.specs.declared.seed.Seed.{Seed}
use Rattle.cs_interest.specs.Interest.{pair, pair_cmp, has_pair, has_some, concerned, is_one, IsNumber, AreAsked}
use Rattle.cs_interest.specs.declared.interest.Interest.{Interest}
use Rattle.cs_interest.specs.declared.pair.Pair.{Pair}

pub one_number : (a b : ℕ) → is_eq (nat_cmp a b) ≡ nat_eq b a
one_number a b = grind (arith, common_steps)

pub cond_or : (a b : Bool) → cond a true b ≡ (a || b)
cond_or true b = refl
cond_or false b = refl

both : (o p : Ordering) (a b : Bool) → is_eq o ≡ a → is_eq p ≡ b → is_eq (ordering_then o p) ≡ (b && a)
both Equal p true true f g = g
both Equal p true false f g = g
both Equal p false b f g = absurd (true≢false f)
both Less p true b f g = absurd (true≢false (sym f))
both Less p false true f g = refl
both Less p false false f g = refl
both Greater p true b f g = absurd (true≢false (sym f))
both Greater p false true f g = refl
both Greater p false false f g = refl

pub one_pair : (a b c n : ℕ) → is_eq (pair_cmp (pair a b) (pair c n)) ≡ is_one b a c n
one_pair a b c n = both (nat_cmp a c) (nat_cmp b n) (nat_eq c a) (nat_eq n b) (one_number a c) (one_number b n)

-- ---- steps of the loops
-- one code more is put
pub put_more : (m x r now next was : Bool) → next ≡ cond (m && x) true now → cond (m && (x || r)) true now ≡ was → cond (m && r) true next ≡ was
put_more false x r now next was e h = e ∙ h
put_more true true true now next was e h = h
put_more true true false now next was e h = e ∙ h
put_more true false r now next was e h = ap (λ b. cond r true b) e ∙ h

pub take_more : (m x r now next was : Bool) → next ≡ cond (m && x) false now → cond (m && (x || r)) false now ≡ was → cond (m && r) false next ≡ was
take_more false x r now next was e h = e ∙ h
take_more true true true now next was e h = h
take_more true true false now next was e h = e ∙ h
take_more true false r now next was e h = ap (λ b. cond r false b) e ∙ h

pub or_more : (a r m n w : Bool) → n ≡ (a || m) → ((a || r) || m) ≡ w → (r || n) ≡ w
or_more true true m n w e h = h
or_more true false m n w e h = e ∙ h
or_more false true m n w e h = h
or_more false false m n w e h = e ∙ h

-- ---- the pairs under a code
inside : (n b : ℕ) → IsNumber n → (range_contains nat_cmp (Included 0) (Included 18446744073709551615) b && nat_eq n b) ≡ is_eq (nat_cmp n b)
inside n b h = grind (arith, common_steps)

-- a pair between the lowest and the highest of a code, with the number, is the one of both
under_one : (c n a b : ℕ) → IsNumber n → (o : Ordering) → nat_cmp c a ≡ o
    → (range_contains pair_cmp (Included (pair c 0)) (Included (pair c 18446744073709551615)) (pair a b) && nat_eq n b) ≡ is_at (pair_cmp (pair c n)) (pair a b)
under_one c n a b h Less e = rw e refl
under_one c n a b h Equal e = rw e (inside n b h)
under_one c n a b h Greater e = rw e refl

any_filter : (p q r : Pair → Bool) → ((x : Pair) → (p x && q x) ≡ r x) → (xs : List Pair) → list_any q (filter p xs) ≡ list_any r xs
any_filter p q r h [] = refl
any_filter p q r h (x ∷ xs) = first (p x) (q x) (r x) refl (h x) ∙ ap (λ b. r x || b) (any_filter p q r h xs) where
  first : (a b c : Bool) → q x ≡ b → (a && b) ≡ c → list_any q (cond a (x ∷ filter p xs) (filter p xs)) ≡ (c || list_any q (filter p xs))
  first true b c f e = ap (λ z. z || list_any q (filter p xs)) (f ∙ e)
  first false b c f e = ap (λ z. z || list_any q (filter p xs)) e

pub under : (m : BTreeSet Pair) (c n : ℕ) → IsNumber n
    → list_any (λ p. nat_eq n p.number) (keys_between pair_cmp (Included (pair c 0)) (Included (pair c 18446744073709551615)) m) ≡ has_pair m c n
under m c n h =
    any_filter (range_contains pair_cmp (Included (pair c 0)) (Included (pair c 18446744073709551615))) (λ p. nat_eq n p.number) (is_at (pair_cmp (pair c n)))
    (λ x. under_one c n x.code x.number h (nat_cmp c x.code) refl) m.keys

-- three in turn
pub in_turn : (a b c m x y z : Bool) → x ≡ (a || m) → y ≡ (b || x) → z ≡ (c || y) → z ≡ (a || b || c || m)
in_turn true true true m x y z e f g = g
in_turn true true false m x y z e f g = g ∙ f
in_turn true false true m x y z e f g = g
in_turn true false false m x y z e f g = g ∙ f ∙ e
in_turn false true true m x y z e f g = g
in_turn false true false m x y z e f g = g ∙ f
in_turn false false true m x y z e f g = g
in_turn false false false m x y z e f g = g ∙ f ∙ e

-- ---- where no pair stands nothing is asked
pub no_keys : (ps : List Pair) → length ps ≡ 0 → ps ≡ []
no_keys [] h = refl
no_keys (p ∷ ps) h = absurd (omega (arith, h))

module _ (m : BTreeSet Pair) (none : m.keys ≡ []) where
  none_held : (c n : ℕ) → has_pair m c n ≡ false
  none_held c n = ap (λ (ps : List Pair). list_any (is_at (pair_cmp (pair c n))) ps) none

  none_some : (cs : List ℕ) (n : ℕ) → has_some m cs n ≡ false
  none_some [] n = refl
  none_some (c ∷ cs) n = ap (λ b. b || has_some m cs n) (none_held c n) ∙ none_some cs n

  none_concerned : (seed : Seed) (n : ℕ) (e : Edit) → concerned seed m n e ≡ false
  none_concerned seed n e =
      ap (λ b. (b || has_some m (side_codes seed e.1.0) n) || has_some m (side_codes seed e.1.1) n) (none_held (id_code seed e.0) n)
      ∙ ap (λ b. b || has_some m (side_codes seed e.1.1) n) (none_some (side_codes seed e.1.0) n)
      ∙ none_some (side_codes seed e.1.1) n

  none_of_changes : (seed : Seed) (n : ℕ) (cs : List Edit) → list_any (concerned seed m n) cs ≡ false
  none_of_changes seed n [] = refl
  none_of_changes seed n (e ∷ es) = ap (λ b. b || list_any (concerned seed m n) es) (none_concerned seed n e) ∙ none_of_changes seed n es

none_ascend : IsStrictlySortedBy nat_cmp []
unfolding IsStrictlySortedBy
none_ascend = tt

pub none_asked : (i : Interest) → i.pairs.keys ≡ [] → (cs : List Edit) → AreAsked i cs []
none_asked i none cs = record {
  ascend = none_ascend;
  exact = λ n h. sym (ap (λ b. b || list_any (concerned i.seed i.pairs n) cs) (none_held i.pairs none 0 n) ∙ none_of_changes i.pairs none i.seed n cs);
}
