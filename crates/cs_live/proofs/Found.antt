-- That entries are found by their keys, once one was put, taken out or refreshed.
use Rattle.std.proofs.Common.{◌≡◌, ◌≢◌, ◌∙◌, ℕ, zero, suc, ◌<◌, ◌≤◌, ◌+◌, List, [], ◌∷◌, ◌++◌, length, get_or, set, take, drop, Bool, true, false, cond, ◌||◌, refl, sym, ap, subst, true≢false, nat_eq, eq-eqb, eqb-true, ne_eqb, ⊎_elim, arith, Result, Ok, Err, OnErr}
use Rattle.std.specs.List.{remove, All}
use Rattle.std.proofs.lemmas.Bool.{cases_eq, cases_lt}
use Rattle.std.proofs.lemmas.List.{get_or-map, get_or-set_same, get_or-set_other, map-append}
use Rattle.std.proofs.lemmas.List.Edits.{get_or-remove_below, get_or-remove_above}
use Rattle.std.proofs.lemmas.List.Elements.{All-nil, All-push, All-set, All-weaker, All-take, All-drop, All-append}
use Rattle.std.proofs.lemmas.List.Folds.{list_any-append}
use Rattle.std.proofs.lemmas.List.Quantifiers.{all_pairs_remove, all_pairs_push}
use Rattle.std.proofs.Math.Seq.{map-set_same}
use Rattle.std.proofs.lemmas.Grind.{common_steps}
use Rattle.cs_view.proofs.Booleans.{or-left, or-right}
use Rattle.cs_codes.specs.Codes.{is_among}
use Rattle.cs_codes.specs.declared.seed.Seed.{Seed}
use Rattle.cs_interest.specs.Interest.{holds, is_of, Entered, Left}
use Rattle.cs_interest.specs.declared.interest.Interest.{Interest}
use Rattle.cs_kept.specs.Found.{IsFound, IsCoded, KeepsOthers, codes_of}
use Rattle.cs_kept.proofs.Found.{others-found, keeps-entered, keeps-left, stands-entered, stands-left}
use Rattle.cs_live.specs.Found.{AreFoundBy, Ascend, numbers}
use Rattle.cs_live.specs.declared.entry.Entry.{Entry}

-- ---- numbers
pub number-at : (es : List Entry) (j : ℕ) (d : Entry) (x : ℕ) → j < length es → get_or (numbers es) j x ≡ (get_or es j d).number
number-at es j d x low = get_or-map (λ (e : Entry). e.number) es j d x low

pub among-at : (es : List Entry) (j : ℕ) (d : Entry) → j < length es → is_among (get_or es j d).number (numbers es) ≡ true
among-at [] j d low = absurd (omega arith)
among-at (e ∷ es) zero d low = ap (λ b. b || is_among e.number (numbers es)) (eq-eqb e.number e.number refl)
among-at (e ∷ es) (suc j) d low = later (nat_eq (get_or es j d).number e.number) _ (among-at es j d (omega arith)) where
  later : (a b : Bool) → b ≡ true → (a || b) ≡ true
  later true b h = refl
  later false b h = h

pub not-among : (n : ℕ) (es : List Entry) → All (λ e. e.number ≢ n) es → is_among n (numbers es) ≡ false
not-among n [] h = refl
not-among n (e ∷ es) h = (λ i. ne_eqb n e.number (λ s. h 0 e (omega arith) (sym s)) i || not-among n es (λ k d low. h (suc k) d (omega arith)) i)

pub fresh : (next : ℕ) (es : List Entry) → All (λ e. e.number < next) es → is_among next (numbers es) ≡ false
fresh next es below = not-among next es (All-weaker (λ e. e.number < next) (λ e. e.number ≢ next) (λ e low is. omega (arith, low, is)) es below)

-- two entries at different places have different numbers
pub apart : (es : List Entry) (j q : ℕ) (d : Entry) → Ascend es → j ≢ q → j < length es → q < length es → nat_eq (get_or es j d).number (get_or es q d).number ≡ false
apart es j q d h other low there =
    ⊎_elim (λ below. let l = h j q d below there in ne_eqb _ _ (λ s. omega (arith, l, s)))
    (λ above. let l = h q j d (omega (arith, above, other)) low in ne_eqb _ _ (λ s. omega (arith, l, s))) (cases_lt j q)

-- ---- all entries
pub found-none : (i : Interest) → ((c n : ℕ) → holds i c n ≡ false) → AreFoundBy i 0 []
found-none i none = record {
  found = All-nil (λ e. IsFound i e.number e.kept);
  others = λ c n h. none c n;
  ascend = λ a b d lt low. absurd (omega arith);
  below = All-nil (λ e. e.number < 0);
  bound = omega arith;
}

-- an interest that is the same
pub found-same : (i j : Interest) (next : ℕ) (es : List Entry) → ((c n : ℕ) → holds j c n ≡ holds i c n) → j.seed ≡ i.seed → AreFoundBy i next es → AreFoundBy j next es
found-same i j next es same s h = record {
  found = All-weaker (λ e. IsFound i e.number e.kept) (λ e. IsFound j e.number e.kept)
      (λ e f. record { stands = λ c. same c e.number ∙ f.stands c; coded = subst (λ (x : Seed). IsCoded x e.kept) (sym s) f.coded }) es h.found;
  others = λ c n g. same c n ∙ h.others c n g;
  ascend = h.ascend;
  below = h.below;
  bound = h.bound;
}

-- a new number that left again what it had entered
pub found-left : (i j : Interest) (next : ℕ) (es : List Entry) (cs : List ℕ) → Left next cs i j → j.seed ≡ i.seed → AreFoundBy i next es → AreFoundBy j next es
found-left i j next es cs left s h = found-same i j next es same s h where
  none : (c : ℕ) → holds i c next ≡ false
  none c = h.others c next (fresh next es h.below)

  still : (a : Bool) → cond a false false ≡ false
  still true = refl
  still false = refl

  by_test : (c n : ℕ) (b : Bool) → nat_eq n next ≡ b → holds j c n ≡ holds i c n
  by_test c n true e =
      let is : holds i c n ≡ false = ap (holds i c) (eqb-true n next e) ∙ none c in
      left c n ∙ ap (λ x. cond (is_of next cs c n) false x) is ∙ still (is_of next cs c n) ∙ sym is
  by_test c n false e = (keeps-left i j next cs left s).others c n e

  same : (c n : ℕ) → holds j c n ≡ holds i c n
  same c n = by_test c n (nat_eq n next) refl

numbers-push : (es : List Entry) (e : Entry) (n : ℕ) → is_among n (numbers (es ++ e ∷ [])) ≡ (is_among n (numbers es) || (nat_eq n e.number || false))
numbers-push es e n = ap (is_among n) (map-append (λ (x : Entry). x.number) es (e ∷ [])) ∙ list_any-append (λ x. nat_eq n x) (numbers es) (e.number ∷ [])

-- one entry more, the last
pub found-pushed : (i j : Interest) (next : ℕ) (es : List Entry) (e : Entry) → e.number ≡ next → IsCoded i.seed e.kept → Entered e.number (codes_of e.kept) i j → j.seed ≡ i.seed → next + 1 ≤ 18446744073709551615 → AreFoundBy i next es → AreFoundBy j (next + 1) (es ++ e ∷ [])
found-pushed i j next es e is coded entered s bound h =
    let keeps = keeps-entered i j e.number (codes_of e.kept) entered s in
    let none : (c : ℕ) → holds i c e.number ≡ false = λ c. h.others c e.number (ap (λ n. is_among n (numbers es)) is ∙ fresh next es h.below) in
    record {
      found = All-push (λ x. IsFound j x.number x.kept) es e
          (λ k d low. let under : (get_or es k d).number < next = h.below k d low in others-found i j e.number (get_or es k d).number (get_or es k d).kept keeps (ne_eqb _ _ (λ same. omega (arith, under, same, is))) (h.found k d low))
          (record { stands = stands-entered i j e.number (codes_of e.kept) entered none; coded = subst (λ (x : Seed). IsCoded x e.kept) (sym s) coded });
      others = λ c n g.
          let both = sym (numbers-push es e n) ∙ g in
          keeps.others c n (or-left (nat_eq n e.number) false (or-right (is_among n (numbers es)) _ both)) ∙ h.others c n (or-left (is_among n (numbers es)) _ both);
      ascend = all_pairs_push (λ (a b : Entry). a.number < b.number) es e h.ascend (λ k d low. let under : (get_or es k d).number < next = h.below k d low in omega (arith, under, is));
      below = All-push (λ (x : Entry). x.number < next + 1) es e (λ k d low. let under : (get_or es k d).number < next = h.below k d low in omega (arith, under)) (omega (arith, is));
      bound = bound;
    }

among-removed : (n : ℕ) (es : List Entry) (q : ℕ) (d : Entry) → q < length es → is_among n (numbers (remove es q)) ≡ false → nat_eq n (get_or es q d).number ≡ false → is_among n (numbers es) ≡ false
among-removed n [] q d low h other = absurd (omega arith)
among-removed n (e ∷ es) zero d low h other = rw (other, h) refl
among-removed n (e ∷ es) (suc q) d low h other = rw (or-left (nat_eq n e.number) _ h, among-removed n es q d (omega arith) (or-right (nat_eq n e.number) _ h) other) refl

-- one entry less
pub found-removed : (i j : Interest) (next : ℕ) (es : List Entry) (q : ℕ) (e : Entry) → q < length es → e ≡ get_or es q e → Left e.number (codes_of e.kept) i j → j.seed ≡ i.seed → AreFoundBy i next es → AreFoundBy j next (remove es q)
found-removed i j next es q e low is left s h = record {
  found = found;
  others = λ c n g. by_test c n (nat_eq n e.number) refl g;
  ascend = all_pairs_remove (λ (a b : Entry). a.number < b.number) es q low h.ascend;
  below = All-append (λ (x : Entry). x.number < next) (take q es) (drop (suc q) es) (All-take (λ (x : Entry). x.number < next) q es h.below) (All-drop (λ (x : Entry). x.number < next) (suc q) es h.below);
  bound = h.bound;
} where
  keeps : KeepsOthers e.number i j
  keeps = keeps-left i j e.number (codes_of e.kept) left s

  here : IsFound i e.number e.kept
  here = subst (λ (x : Entry). IsFound i x.number x.kept) (sym is) (h.found q e low)

  there : (d : Entry) → (get_or es q d).number ≡ e.number
  there d = ap (λ (x : Entry). x.number) (sym (is ∙ same)) where
    same : get_or es q e ≡ get_or es q d
    same = grind (arith, common_steps)

  stays : (k : ℕ) (d : Entry) → k < length es → k ≢ q → IsFound j (get_or es k d).number (get_or es k d).kept
  stays k d within other = others-found i j e.number (get_or es k d).number (get_or es k d).kept keeps
      (subst (λ n. nat_eq (get_or es k d).number n ≡ false) (there d) (apart es k q d h.ascend other within low)) (h.found k d within)

  found : All (λ x. IsFound j x.number x.kept) (remove es q)
  found k d within =
      ⊎_elim (λ below. subst (λ (x : Entry). IsFound j x.number x.kept) (sym (get_or-remove_below es q d k below low)) (stays k d (omega arith) (λ x. omega arith)))
      (λ above. subst (λ (x : Entry). IsFound j x.number x.kept) (sym (get_or-remove_above es q d k above low)) (stays (k + 1) d (grind (arith, common_steps, within)) (λ x. omega arith))) (cases_lt k q)

  by_test : (c n : ℕ) (b : Bool) → nat_eq n e.number ≡ b → is_among n (numbers (remove es q)) ≡ false → holds j c n ≡ false
  by_test c n true x g = ap (holds j c) (eqb-true n e.number x) ∙ stands-left i j e.number (codes_of e.kept) left here.stands c
  by_test c n false x g = keeps.others c n x ∙ h.others c n (among-removed n es q e low g (subst (λ m. nat_eq n m ≡ false) (sym (there e)) x))

-- one entry in the place of another of its number
pub found-set : (i j : Interest) (next : ℕ) (es : List Entry) (q : ℕ) (e : Entry) → q < length es → ((d : Entry) → e.number ≡ (get_or es q d).number) → KeepsOthers e.number i j → IsFound j e.number e.kept → AreFoundBy i next es → AreFoundBy j next (set es q e)
found-set i j next es q e low same keeps now h = record {
  found = found;
  others = λ c n g. keeps.others c n (other n (subst (λ l. is_among n l ≡ false) all g)) ∙ h.others c n (subst (λ l. is_among n l ≡ false) all g);
  ascend = λ a b d lt within. let inside : b < length es = grind (arith, common_steps, within) in let l = h.ascend a b d lt inside in omega (arith, l, number a d (omega arith), number b d inside);
  below = All-set (λ (x : Entry). x.number < next) es q e (let l = h.below q e low in omega (arith, l, same e)) h.below;
  bound = h.bound;
} where
  all : numbers (set es q e) ≡ numbers es
  all = map-set_same (λ (x : Entry). x.number) es q e e (same e)

  other : (n : ℕ) → is_among n (numbers es) ≡ false → nat_eq n e.number ≡ false
  other n g = ne_eqb n e.number (λ is. true≢false (sym (ap (λ m. is_among m (numbers es)) (is ∙ same e) ∙ among-at es q e low) ∙ g))

  number : (k : ℕ) (d : Entry) → k < length es → (get_or (set es q e) k d).number ≡ (get_or es k d).number
  number k d within =
      ⊎_elim (λ is. ap (λ m. (get_or (set es q e) m d).number) is ∙ ap (λ (x : Entry). x.number) (get_or-set_same es q e d low) ∙ same d ∙ ap (λ m. (get_or es m d).number) (sym is))
      (λ apart. ap (λ (x : Entry). x.number) (get_or-set_other es q k e d apart)) (cases_eq k q)

  found : All (λ x. IsFound j x.number x.kept) (set es q e)
  found k d within =
      let inside : k < length es = grind (arith, common_steps, within) in
      ⊎_elim (λ is. subst (λ (x : Entry). IsFound j x.number x.kept) (sym (ap (λ m. get_or (set es q e) m d) is ∙ get_or-set_same es q e d low)) now)
      (λ differs. subst (λ (x : Entry). IsFound j x.number x.kept) (sym (get_or-set_other es q k e d differs))
      (others-found i j e.number (get_or es k d).number (get_or es k d).kept keeps (subst (λ n. nat_eq (get_or es k d).number n ≡ false) (sym (same d)) (apart es k q d h.ascend differs inside low)) (h.found k d inside))) (cases_eq k q)

-- ---- one number that left its old codes and entered new ones
pub undone : (i j k : Interest) (m n : ℕ) (cs ds : List ℕ) → n ≡ m → ds ≡ cs → Entered m cs i j → Left n ds j k → Left m cs i k
undone i j k m n cs ds number same entered left c x =
    left c x ∙ (λ y. cond (is_of (number y) (same y) c x) false (entered c x y)) ∙ once (is_of m cs c x) (holds i c x)
  where
    once : (a b : Bool) → cond a false (cond a true b) ≡ cond a false b
    once true b = refl
    once false b = refl

-- what holds, holds where there is an error too
pub on_err : {A E : Type 0} {P : Type 0} (r : Result A E) → P → OnErr r P
on_err (Ok a) p = tt
on_err (Err e) p = p
