-- Where the code of a listener's filter is not among the codes of changes, it hears nothing of them.
use Rattle.std.proofs.Common.{◌≡◌, ◌∙◌, ℕ, List, [], ◌∷◌, ◌++◌, map, get_or, Option, Some, None, Bool, true, false, ◌||◌, refl, sym, ap, true≢false, nat_cmp, nat_eq, eqb-true}
use Rattle.std.proofs.lemmas.Bool.{or_right}
use Rattle.std.proofs.lemmas.List.Folds.{list_any-append}
use Rattle.std.specs.Prelude.{filter_map, option_map}
use Rattle.std.specs.List.{cons_option, flat_map, list_any}
use Rattle.std.specs.List.Sorted.{IsStrictlySortedBy}
use Rattle.cs_value.specs.Tree.{Tree}
use Rattle.cs_value.specs.View.{fields}
use Rattle.cs_view.specs.Changes.{Edit}
use Rattle.cs_codes.specs.Codes.{is_among}
use Rattle.cs_codes.specs.declared.seed.Seed.{Seed}
use Rattle.cs_codes.specs.Laws.{KeysAreListed}
use Rattle.cs_interest.specs.Changed.{all_codes, change_codes, changes_codes}
use Rattle.cs_interest.specs.Laws.{NarrowestIsHad}
use Rattle.cs_interest.specs.Narrow.{narrowest}
use Rattle.cs_interest.proofs.Listing.{key_listed}
use Rattle.cs_reply.specs.Reply.{Event}
use Rattle.cs_plain.specs.Holds.{holds}
use Rattle.cs_plain.specs.Keyed.{predicate_keys}
use Rattle.cs_plain.specs.Laws.{TrueHasPredicateKeys}
use Rattle.cs_plain.specs.Predicates.{filter as filter_of}
use Rattle.cs_listen.specs.Events.{Listener, sees, turned, event_of, heard, events}
use Rattle.cs_listen.specs.Listeners.{listener}
use Rattle.cs_listen.specs.Posted.{ArePosted, IsPosted, filter_code, is_posted, is_sought}
use Rattle.cs_listen.specs.Told.{all_told, own_events}
use Rattle.cs_listen.specs.declared.listening.Listening.{Listening}
use Rattle.cs_listen.specs.declared.postings.Posting.{Posting}
use Rattle.cs_listen.proofs.Merged.{left_out, merged}

-- the code is that of every document, or one of these
abbrev is_met : ℕ → List ℕ → Bool
is_met c cs = nat_eq c 0 || is_among c cs

-- ---- what is met among neither is not met among both
neither : (z a b : Bool) → (z || (a || b)) ≡ false → ((z || a) ≡ false) × ((z || b) ≡ false)
neither true a b h = absurd (true≢false h)
neither false true b h = absurd (true≢false h)
neither false false b h = (refl, h)

none_met : (c : ℕ) (xs ys : List ℕ) → is_met c (xs ++ ys) ≡ false → (is_met c xs ≡ false) × (is_met c ys ≡ false)
none_met c xs ys h = neither (nat_eq c 0) (is_among c xs) (is_among c ys) (ap (λ b. nat_eq c 0 || b) (sym (list_any-append (λ x. nat_eq c x) xs ys)) ∙ h)

module _ (has_keys : TrueHasPredicateKeys) (narrow : NarrowestIsHad) (listed : KeysAreListed) (seed : Seed) (tx moment : List ℕ) (l : Listener) where
  abbrev code : ℕ
  code = filter_code seed l.filter l.params

  not_seen : (o : Option Tree) → is_met code (all_codes seed o) ≡ false → sees l.filter l.params o ≡ false
  not_seen None h = refl
  not_seen (Some d) h = by_test (holds l.filter l.params d) refl where
    by_test : (b : Bool) → holds l.filter l.params d ≡ b → holds l.filter l.params d ≡ false
    by_test false f = f
    by_test true f =
        let keys = predicate_keys l.filter l.params in
        absurd (true≢false (sym (key_listed listed seed d (narrowest keys)
        (narrow keys d (has_keys l.filter l.params d f))) ∙ h))

  not_heard : (e : Edit) → is_met code (change_codes seed e) ≡ false → heard tx moment l e ≡ None
  not_heard e h =
      let sides = none_met code (all_codes seed e.1.0) (all_codes seed e.1.1) h in
      ap (option_map (event_of tx moment l e))
      (ap (λ b. turned b (sees l.filter l.params e.1.1)) (not_seen e.1.0 sides.0)
      ∙ ap (turned false) (not_seen e.1.1 sides.1))

  none_heard : (cs : List Edit) → is_met code (changes_codes seed cs) ≡ false → filter_map (heard tx moment l) cs ≡ []
  none_heard [] h = refl
  none_heard (e ∷ es) h =
      let parts = none_met code (change_codes seed e) (changes_codes seed es) h in
      by_first (heard tx moment l e) (not_heard e parts.0) (none_heard es parts.1)
    where
      by_first : (o : Option Event) → o ≡ None → filter_map (heard tx moment l) es ≡ [] → cons_option o (filter_map (heard tx moment l) es) ≡ []
      by_first None is h = h
      by_first (Some x) is h = absurd (cc)

-- ---- listeners that are found by their numbers are told what they hear
module _ (n : ℕ) (ps : List Posting) where
  among_posted : (c : ℕ) (cs : List ℕ) → is_posted c n ps ≡ true → is_among c cs ≡ true
      → list_any (λ x. is_posted x n ps) cs ≡ true
  among_posted c [] posted among = among
  among_posted c (x ∷ xs) posted among = by_test (among_posted c xs posted) (nat_eq c x) refl
    where
      by_test : (is_among c xs ≡ true → list_any (λ y. is_posted y n ps) xs ≡ true) → (b : Bool) → nat_eq c x ≡ b
          → (is_posted x n ps || list_any (λ y. is_posted y n ps) xs) ≡ true
      by_test rest true e = ap (λ b. b || list_any (λ y. is_posted y n ps) xs) (ap (λ y. is_posted y n ps) (sym (eqb-true c x e)) ∙ posted)
      by_test rest false e = or_right (is_posted x n ps) _ (rest (ap (λ b. b || is_among c xs) (sym e) ∙ among))

  -- what is not sought is not posted under a code that is met
  unmet : (c : ℕ) (cs : List ℕ) → is_posted c n ps ≡ true → is_sought n ps cs ≡ false → is_met c cs ≡ false
  unmet c cs posted none = by_tests (nat_eq c 0) (is_among c cs) refl refl where
    by_tests : (a b : Bool) → nat_eq c 0 ≡ a → is_among c cs ≡ b → (nat_eq c 0 || is_among c cs) ≡ false
    by_tests true b e f = absurd (true≢false (
        sym (ap (λ z. z || list_any (λ x. is_posted x n ps) cs) (ap (λ y. is_posted y n ps) (sym (eqb-true c 0 e)) ∙ posted)) ∙ none))
    by_tests false true e f = absurd (true≢false (sym (or_right (is_posted 0 n ps) _ (among_posted c cs posted f)) ∙ none))
    by_tests false false e f = ap (λ z. z || is_among c cs) e ∙ f

module _ (has_keys : TrueHasPredicateKeys) (narrow : NarrowestIsHad) (listed : KeysAreListed) (seed : Seed) (postings : List Posting) (sought : List ℕ) (tx moment : List ℕ) (cs : List Edit)
    (found : (n : ℕ) → is_among n sought ≡ is_sought n postings (changes_codes seed cs)) where
  not_told : (l : Listening) → IsPosted seed postings l → is_among l.number sought ≡ false
      → own_events tx moment cs l ≡ []
  not_told l posted none =
      none_heard has_keys narrow listed seed tx moment (listener l) cs
      (unmet l.number postings (filter_code seed (filter_of l.predicate) (fields l.params)) (changes_codes seed cs) posted
      (sym (found l.number) ∙ none))

  all_events : (ls : List Listening) → flat_map (own_events tx moment cs) ls ≡ events tx moment cs (map listener ls)
  all_events [] = refl
  all_events (l ∷ ls) = ap (λ es. own_events tx moment cs l ++ es) (all_events ls)

  pub told_is_heard : (next : ℕ) (ls : List Listening) → ArePosted seed postings next ls
      → IsStrictlySortedBy nat_cmp sought
      → all_told tx moment cs ls sought ≡ events tx moment cs (map listener ls)
  told_is_heard next ls posted sorted =
      merged (λ (l : Listening). l.number) (own_events tx moment cs) ls sought posted.ascend sorted
      ∙ left_out (λ (l : Listening). l.number) (own_events tx moment cs) (λ l. is_among l.number sought) ls
      (λ k d low. not_told (get_or ls k d) (posted.posted k d low))
      ∙ all_events ls
