-- A text that is added to those that were seen.
use Rattle.std.proofs.Common.{◌≡◌, ℕ, List, [], ◌∷◌, Bool, true, false, refl, sym, ap, ◌∙◌, nat_cmp, Bor}
use Rattle.std.specs.Prelude.{◌||◌}
use Rattle.std.specs.BTreeMap.{is_at}
use Rattle.std.specs.BTreeSet.{insert_key, contains_by}
use Rattle.std.specs.Cmp.Lexicographic.{slice_cmp}
use Rattle.std.specs.List.{list_any}
use Rattle.std.specs.Ordering.{is_eq, int_cmp, match_ordering}
use Rattle.std.specs.declared.cmp.Ordering.{Ordering}
use Rattle.std.specs.declared.cmp.Ordering.TheVariants.{Less, Equal, Greater}
use Rattle.std.proofs.lemmas.Map.Lookups.{exact_bytes}
use Rattle.std.proofs.lemmas.Map.Text.{is_eq-slice_cmp}
use Rattle.cs_value.specs.Tree.{Tree, null, boolean, integer, text, list, object}
use Rattle.cs_ops.specs.Equal.{equal}
use Rattle.cs_func.specs.Seen.{has_seen}
use Rattle.cs_func.specs.declared.seen.Seen.{Seen}

or_swap : (a b c : Bool) → (a || (b || c)) ≡ (b || (a || c))
or_swap true true c = refl
or_swap true false c = refl
or_swap false b c = refl

or_same : (a c : Bool) → (a || c) ≡ (a || (a || c))
or_same true c = refl
or_same false c = refl

abbrev is_text : {K : Type 0} (f : K → List ℕ) → List ℕ → K → Bool
is_text f t = is_at (λ x. slice_cmp nat_cmp t (f x))

by_order : {K : Type 0} (f : K → List ℕ) (t : List ℕ) (k x : K) (xs more : List K) (o : Ordering) → slice_cmp nat_cmp (f k) (f x) ≡ o
    → list_any (is_text f t) more ≡ (is_text f t k || list_any (is_text f t) xs)
    → list_any (is_text f t) (match_ordering o (k ∷ x ∷ xs) (x ∷ xs) (x ∷ more)) ≡ (is_text f t k || (is_text f t x || list_any (is_text f t) xs))
by_order f t k x xs more Less is rest = refl
by_order f t k x xs more Equal is rest =
    let same : is_text f t k ≡ is_text f t x = ap (λ y. is_eq (slice_cmp nat_cmp t y)) (exact_bytes (f k) (f x) is) in
    or_same (is_text f t x) (list_any (is_text f t) xs) ∙ ap (λ b. b || (is_text f t x || list_any (is_text f t) xs)) (sym same)
by_order f t k x xs more Greater is rest = ap (λ b. is_text f t x || b) rest ∙ or_swap (is_text f t x) (is_text f t k) (list_any (is_text f t) xs)

false_or : (a : Bool) → a ≡ (a || false)
false_or true = refl
false_or false = refl

pub any-insert_key : {K : Type 0} (f : K → List ℕ) (t : List ℕ) (ks : List K) (k : K) → list_any (is_text f t) (insert_key (λ x y. slice_cmp nat_cmp (f x) (f y)) ks k) ≡ (is_text f t k || list_any (is_text f t) ks)
any-insert_key f t [] k = refl
any-insert_key f t (x ∷ xs) k = by_order f t k x xs _ (slice_cmp nat_cmp (f k) (f x)) refl (any-insert_key f t xs k)

one_text : (old new : Seen) (v : List ℕ) → new.null ≡ old.null → new.yes ≡ old.yes → new.no ≡ old.no → new.numbers ≡ old.numbers
    → ((t : List ℕ) → has_seen new (text t) ≡ (is_eq (slice_cmp nat_cmp t v) || has_seen old (text t)))
    → (t : Tree) → has_seen new t ≡ (equal t (text v) || has_seen old t)
one_text old new v n y o m h null = n
one_text old new v n y o m h (boolean true) = y
one_text old new v n y o m h (boolean false) = o
one_text old new v n y o m h (integer k) = ap (λ s. contains_by (int_cmp k) s) m
one_text old new v n y o m h (text t) = h t ∙ ap (λ b. b || has_seen old (text t)) (is_eq-slice_cmp t v)
one_text old new v n y o m h (list ts) = refl
one_text old new v n y o m h (object ps) = refl

-- what was seen once a text was added
pub text_added : (old new : Seen) (v : Bor (List ℕ)) (u : Tree) → u ≡ text v.now → new.null ≡ old.null → new.yes ≡ old.yes → new.no ≡ old.no → new.numbers ≡ old.numbers
    → new.texts.keys ≡ insert_key (λ (x y : Bor (List ℕ)). slice_cmp nat_cmp x.now y.now) old.texts.keys v
    → (t : Tree) → has_seen new t ≡ (equal t u || has_seen old t)
text_added old new v u is n y o m keys t =
    one_text old new v.now n y o m (λ s. ap (list_any (is_text (λ (x : Bor (List ℕ)). x.now) s)) keys ∙ any-insert_key (λ (x : Bor (List ℕ)). x.now) s old.texts.keys v) t
    ∙ ap (λ (w : Tree). equal t w || has_seen old t) (sym is)
