-- Ids apart from the other keys of a record: the same keys, and touched alike.
use Rattle.std.proofs.Common.{◌≡◌, ℕ, ◌<◌, ◌≤◌, ◌+◌, drop, get_or, List, [], ◌∷◌, ◌++◌, map, Bool, true, false, ◌&&◌, ◌||◌, Option, Some, None, Less, Equal, Greater, refl, sym, ap, subst, ◌∙◌, ⊎_elim, arith, length, append_assoc, Bor}
use Rattle.std.specs.Prelude.{is_some, Contains}
use Rattle.std.specs.Ordering.{match_ordering}
use Rattle.std.specs.BTreeMap.{insert_entry, is_at}
use Rattle.std.specs.List.{list_any}
use Rattle.std.specs.Map.{lookup, keys_of as names_of}
use Rattle.std.specs.Option.{option_copied}
use Rattle.std.proofs.lemmas.List.{append-nil, drop_all, drop_more}
use Rattle.std.proofs.lemmas.List.Elements.{Contains-push, Contains-push_cases, Contains-append_left, Contains-append_right, Contains-append_cases}
use Rattle.std.proofs.lemmas.Map.Lookups.{exact_bytes}
use Rattle.std.proofs.lemmas.Map.Made.{is_some-lookup}
use Rattle.cs_value.specs.Entries.{Name, compares}
use Rattle.cs_view.specs.Changes.{Edit, is_of_id}
use Rattle.cs_view.specs.Dataset.{same_id}
use Rattle.cs_view.specs.Touched.{touches, is_touched, touched}
use Rattle.cs_view.specs.declared.key.Key.{Key}
use Rattle.cs_view.specs.declared.key.Key.TheVariants.{Id}
use Rattle.cs_view.specs.View.{edit, edits}
use Rattle.cs_view.specs.declared.change.Change.{Change}
use Rattle.cs_view.proofs.Sides.{sides, touches-id}
use Rattle.cs_keys.specs.Keys.{SameKeys}

-- ---- the same keys, order and repeats aside
itself : (ks : List Key) → SameKeys ks ks
itself ks = record { there = λ k at. at; back = λ k at. at }

pub are_one : (xs ys : List Key) → xs ≡ ys → SameKeys xs ys
are_one xs ys h = record { there = λ k at. subst (λ ks. Contains ks k) h at; back = λ k at. subst (λ ks. Contains ks k) (sym h) at }

pub in_turn : (xs ys zs : List Key) → SameKeys xs ys → SameKeys ys zs → SameKeys xs zs
in_turn xs ys zs g h = record { there = λ k at. h.there k (g.there k at); back = λ k at. g.back k (h.back k at) }

single : (a k : Key) → Contains (a ∷ []) k → a ≡ k
single a k at = ⊎_elim (λ c. let low : c.0 < 0 = c.1 in absurd (omega arith)) (λ is. is) (Contains-push_cases [] a k at)

-- both with the same others before them, and behind them
with_first : (os xs ys : List Key) → SameKeys xs ys → SameKeys (os ++ xs) (os ++ ys)
with_first os xs ys h = record {
  there = λ k at. ⊎_elim (Contains-append_left os ys k) (λ c. Contains-append_right os ys k (h.there k c)) (Contains-append_cases os xs k at);
  back = λ k at. ⊎_elim (Contains-append_left os xs k) (λ c. Contains-append_right os xs k (h.back k c)) (Contains-append_cases os ys k at);
}

pub with_last : (xs ys os : List Key) → SameKeys xs ys → SameKeys (xs ++ os) (ys ++ os)
with_last xs ys os h = record {
  there = λ k at. ⊎_elim (λ c. Contains-append_left ys os k (h.there k c)) (Contains-append_right ys os k) (Contains-append_cases xs os k at);
  back = λ k at. ⊎_elim (λ c. Contains-append_left xs os k (h.back k c)) (Contains-append_right xs os k) (Contains-append_cases ys os k at);
}

pub turned : (xs ys : List Key) → SameKeys (xs ++ ys) (ys ++ xs)
turned xs ys = record {
  there = λ k at. ⊎_elim (Contains-append_right ys xs k) (Contains-append_left ys xs k) (Contains-append_cases xs ys k at);
  back = λ k at. ⊎_elim (Contains-append_right xs ys k) (Contains-append_left xs ys k) (Contains-append_cases ys xs k at);
}

-- a key that is there, and once more
had : (xs : List Key) (a : Key) → Contains xs a → SameKeys xs (xs ++ a ∷ [])
had xs a c = record {
  there = λ k at. Contains-append_left xs (a ∷ []) k at;
  back = λ k at. ⊎_elim (λ b. b) (λ is. subst (Contains xs) is c) (Contains-push_cases xs a k at);
}

-- keys with none of their own
pub whole_keys : (rest own looked : List Key) → own ≡ [] → SameKeys rest looked → SameKeys (rest ++ own) looked
whole_keys rest own looked h same = in_turn (rest ++ own) rest looked (are_one (rest ++ own) rest (ap (λ (o : List Key). rest ++ o) h ∙ append-nil rest)) same

pub rest_keys : (rest own looked : List Key) → own ≡ [] → SameKeys (rest ++ own) looked → SameKeys rest looked
rest_keys rest own looked h same = in_turn rest (rest ++ own) looked (are_one rest (rest ++ own) (sym (ap (λ (o : List Key). rest ++ o) h ∙ append-nil rest))) same

-- keys with one of their own
pub with_own : (rest own looked : List Key) (k : Key) → SameKeys rest looked → own ≡ k ∷ [] → SameKeys (rest ++ own) (looked ++ k ∷ [])
with_own rest own looked k same is =
    in_turn (rest ++ own) (rest ++ k ∷ []) (looked ++ k ∷ [])
    (are_one (rest ++ own) (rest ++ k ∷ []) (ap (λ (o : List Key). rest ++ o) is)) (with_last rest looked (k ∷ []) same)

pub own_keys : (rest own looked ks : List Key) (k : Key) → SameKeys rest looked → own ≡ k ∷ [] → ks ≡ k ∷ looked → SameKeys (rest ++ own) ks
own_keys rest own looked ks k same is all =
    in_turn (rest ++ own) (looked ++ k ∷ []) ks
    (with_own rest own looked k same is)
    (in_turn (looked ++ k ∷ []) (k ∷ looked) ks (turned looked (k ∷ [])) (are_one (k ∷ looked) ks (sym all)))

-- ---- ids
module _ {V : Type 0} where
  abbrev ids : List (Name × V) → List Key
  ids es = map (λ p. Id p.0) es

  first_id : (e : Name × V) (es : List (Name × V)) → Contains (ids (e ∷ es)) (Id e.0)
  first_id e es = Contains-append_left (Id e.0 ∷ []) (ids es) (Id e.0) (Contains-push [] (Id e.0))

  -- an id put among ids
  put-id : (es : List (Name × V)) (t : Name) (v : V) → SameKeys (ids (insert_entry compares es t v)) (ids es ++ Id t ∷ [])
  put-id [] t v = itself (Id t ∷ [])
  put-id (e ∷ es) t v =
      elim (compares t e.0) as (λ o. compares t e.0 ≡ o → SameKeys (ids (match_ordering o ((t, v) ∷ e ∷ es) ((e.0, v) ∷ es) (e ∷ insert_entry compares es t v))) (ids (e ∷ es) ++ Id t ∷ [])) [
        | Less ↦ λ h. turned (Id t ∷ []) (ids (e ∷ es))
        | Equal ↦ λ h. had (ids (e ∷ es)) (Id t) (subst (λ n. Contains (ids (e ∷ es)) (Id n)) (sym (exact_bytes t e.0 h)) (first_id e es))
        | Greater ↦ λ h. with_first (Id e.0 ∷ []) (ids (insert_entry compares es t v)) (ids es ++ Id t ∷ []) (put-id es t v)
      ] refl

  -- and the others behind them
  added-id : (es : List (Name × V)) (t : Name) (v : V) (os : List Key) → SameKeys (ids (insert_entry compares es t v) ++ os) ((ids es ++ os) ++ Id t ∷ [])
  added-id es t v os =
      let last : SameKeys (ids es ++ (Id t ∷ [] ++ os)) (ids es ++ (os ++ Id t ∷ [])) = with_first (ids es) (Id t ∷ [] ++ os) (os ++ Id t ∷ []) (turned (Id t ∷ []) os) in
      in_turn _ _ _ (with_last _ _ os (put-id es t v))
      (in_turn _ _ _ (are_one _ _ (append_assoc (ids es) (Id t ∷ []) os)) (in_turn _ _ _ last (are_one _ _ (sym (append_assoc (ids es) os (Id t ∷ []))))))

pub with-id : {V : Type 0} (old new : List (Name × V)) (t : Name) (v : V) (k : Key) (os : List Key) → new ≡ insert_entry compares old t v → Id t ≡ k → SameKeys (ids new ++ os) ((ids old ++ os) ++ k ∷ [])
with-id old new t v k os h is =
    in_turn _ _ _ (are_one _ _ (ap (λ es. ids es ++ os) h)) (in_turn _ _ _ (added-id old t v os) (are_one _ _ (ap (λ j. (ids old ++ os) ++ j ∷ []) is)))

-- one key more on either side
pub one_more : (new old done : List Key) (k : Key) → SameKeys new (old ++ k ∷ []) → SameKeys old done → SameKeys new (done ++ k ∷ [])
one_more new old done k g h = in_turn new (old ++ k ∷ []) (done ++ k ∷ []) g (with_last old done (k ∷ []) h)

-- ---- touched
swapped : (a b c d : Bool) → ((a || b) || (c || d)) ≡ ((a || c) || (b || d))
swapped true b c d = refl
swapped false true true d = refl
swapped false true false d = refl
swapped false false c d = refl

module _ {X : Type 0} where
  any-or : (p q : X → Bool) (xs : List X) → list_any (λ x. p x || q x) xs ≡ (list_any p xs || list_any q xs)
  any-or p q [] = refl
  any-or p q (x ∷ xs) = ap (λ b. (p x || q x) || b) (any-or p q xs) ∙ swapped (p x) (q x) (list_any p xs) (list_any q xs)

  any-none : (xs : List X) → list_any (λ _. false) xs ≡ false
  any-none [] = refl
  any-none (x ∷ xs) = any-none xs

touched-none : (ks : List Key) → touched ks [] ≡ false
touched-none ks = any-none ks

touched-more : (ks : List Key) (c : Edit) (cs : List Edit) → touched ks (c ∷ cs) ≡ (list_any (λ k. touches k c) ks || touched ks cs)
touched-more ks c cs = any-or (λ k. touches k c) (is_touched cs) ks

pub touched-here : (ks : List Key) (cs : List Change) (i : ℕ) (d : Change) → i < length cs
    → touched ks (edits (drop i cs)) ≡ (list_any (λ k. touches k (edit (get_or cs i d))) ks || touched ks (edits (drop (i + 1) cs)))
touched-here ks cs i d low =
    ap (λ l. touched ks (edits l)) (drop_more cs i d low) ∙ touched-more ks (edit (get_or cs i d)) (edits (drop (i + 1) cs))

pub touched-end : (ks : List Key) (cs : List Change) (i : ℕ) → length cs ≤ i → touched ks (edits (drop i cs)) ≡ false
touched-end ks cs i h = ap (λ l. touched ks (edits l)) (drop_all i cs h) ∙ touched-none ks

apart : (s a b : Bool) → ((s && a) || (s && b)) ≡ (s && (a || b))
apart true a b = refl
apart false a b = refl

none-apart : (s : Bool) → false ≡ (s && false)
none-apart true = refl
none-apart false = refl

some-id : {V : Type 0} (es : List (Name × V)) (c : Edit) → is_of_id c.0 c.1.0 ≡ true → is_of_id c.0 c.1.1 ≡ true
    → list_any (λ k. touches k c) (ids es) ≡ ((is_some c.1.0 || is_some c.1.1) && list_any (same_id c.0) (names_of es))
some-id [] c before after = none-apart (is_some c.1.0 || is_some c.1.1)
some-id (e ∷ es) c before after =
    (λ i. touches-id e.0 c before after i || some-id es c before after i) ∙ apart (is_some c.1.0 || is_some c.1.1) (same_id c.0 e.0) (list_any (same_id c.0) (names_of es))

-- an id among ids is found by a look-up of the change's
looked-up : {V : Type 0} (es : List (Name × V)) (c : Edit) → is_of_id c.0 c.1.0 ≡ true → is_of_id c.0 c.1.1 ≡ true
    → ((is_some c.1.0 || is_some c.1.1) && is_some (lookup (is_at (compares c.0)) es)) ≡ list_any (λ k. touches k c) (ids es)
looked-up es c before after = ap (λ b. (is_some c.1.0 || is_some c.1.1) && b) (is_some-lookup (is_at (compares c.0)) es) ∙ sym (some-id es c before after)

copied : {V : Type 0} (o : Option (Bor V)) → is_some o ≡ is_some (option_copied o)
copied None = refl
copied (Some v) = refl

module _ {V : Type 0} (es : List (Name × V)) (c : Change) (before : is_of_id (edit c).0 (edit c).1.0 ≡ true) (after : is_of_id (edit c).0 (edit c).1.1 ≡ true) (s : Bool) (is : s ≡ (is_some c.before || is_some c.after)) where
  pub one-stands : s ≡ true → (o : Option (Bor V)) → option_copied o ≡ lookup (is_at (compares c.id)) es → (b : Bool) → b ≡ is_some o → b ≡ list_any (λ k. touches k (edit c)) (ids es)
  one-stands one o found b so =
      so ∙ copied o ∙ ap is_some found ∙ ap (λ a. a && is_some (lookup (is_at (compares c.id)) es)) (sym one ∙ is ∙ sides c) ∙ looked-up es (edit c) before after

  pub none-stands : s ≡ false → s ≡ list_any (λ k. touches k (edit c)) (ids es)
  none-stands h = h ∙ ap (λ a. a && is_some (lookup (is_at (compares c.id)) es)) (sym h ∙ is ∙ sides c) ∙ looked-up es (edit c) before after
