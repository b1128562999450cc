-- A document that has a key has the key's code among its codes.
use Rattle.std.proofs.Common.{◌≡◌, ℕ, ℤ, ◌-◌, ◌<◌, ◌≤◌, ◌==◌, length, List, [], ◌∷◌, ◌++◌, map, Option, Some, None, Ordering, Less, Equal, Greater, nat_cmp, Bool, true, false, cond, ◌||◌, refl, sym, ap, ◌∙◌, subst, bytes_eq, arith, true≢false, eq-eqb, ne_eqb}
use Rattle.std.specs.Cmp.Lexicographic.{slice_cmp}
use Rattle.std.specs.Ordering.{match_ordering}
use Rattle.std.specs.List.{list_any}
use Rattle.std.specs.Bool.{nat_eq}
use Rattle.std.specs.Prelude.{option_and_then}
use Rattle.std.specs.Option.{option_to_list}
use Rattle.std.proofs.lemmas.List.Folds.{list_any-append}
use Rattle.std.proofs.lemmas.Bool.Decides.{Decides-int_eq}
use Rattle.std.proofs.lemmas.Slice.Eq.{bytes_eq-Decides}
use Rattle.std.proofs.lemmas.Map.Lookups.{exact_bytes}
use Rattle.std.proofs.Math.Bool.{or-true}
use Rattle.cs_value.specs.Tree.{Tree, null, boolean, integer, text, list, object, Trees, no_trees, more_trees, Pairs, no_pairs, more_pairs, members}
use Rattle.cs_value.specs.Pairs.{find}
use Rattle.cs_value.specs.Words.{followed, ref_of}
use Rattle.cs_view.specs.Document.{passes}
use Rattle.cs_view.specs.Keys.{has, equals, has_element, has_ref, some_has_ref, some_pair_has_ref}
use Rattle.cs_view.specs.declared.key.Scalar.{Scalar}
use Rattle.cs_view.specs.declared.key.Scalar.TheVariants.{Bool as Boolean, Num, Text}
use Rattle.cs_view.specs.declared.key.Key.{Key}
use Rattle.cs_view.specs.declared.key.Key.TheVariants.{All, Id, Path, Elem, Ref}
use Rattle.cs_view.specs.Limits.{most_names}
use Rattle.cs_codes.specs.Codes.{Hash, start, with_text, with_names, with_value, with_element, boolean_code, scalar_code, ref_code, key_code, scalar_codes, elements_codes, here, inside, pairs_inside, own_refs, refs, trees_refs, pairs_refs, key_codes, is_among}
use Rattle.cs_codes.specs.declared.seed.Seed.{Seed}
use Rattle.cs_codes.specs.Kept.{IsKept}

first : (c : ℕ) → is_among c (c ∷ []) ≡ true
first c = ap (λ b. b || false) (eq-eqb c c refl)

pub among-left : (c : ℕ) (xs ys : List ℕ) → is_among c xs ≡ true → is_among c (xs ++ ys) ≡ true
among-left c xs ys h = list_any-append (λ x. nat_eq c x) xs ys ∙ ap (λ b. b || is_among c ys) h

pub among-right : (c : ℕ) (xs ys : List ℕ) → is_among c ys ≡ true → is_among c (xs ++ ys) ≡ true
among-right c xs ys h = list_any-append (λ x. nat_eq c x) xs ys ∙ ap (λ b. is_among c xs || b) h ∙ or-true (is_among c xs)

pub scalar_listed : (s : Scalar) (hash : Hash) (t : Tree) → equals s t ≡ true → is_among (scalar_code hash s) (scalar_codes hash t) ≡ true
scalar_listed (Boolean true) hash (boolean true) h = first (boolean_code hash true)
scalar_listed (Boolean false) hash (boolean false) h = first (boolean_code hash false)
scalar_listed (Num n) hash (integer m) h = subst (λ (k : ℤ). is_among (scalar_code hash (Num n)) (scalar_code hash (Num k) ∷ []) ≡ true) (sym ((Decides-int_eq m n).0 h)) (first (scalar_code hash (Num n)))
scalar_listed (Text t) hash (text s) h = subst (λ (k : List ℕ). is_among (scalar_code hash (Text t)) (scalar_code hash (Text k) ∷ []) ≡ true) (sym ((bytes_eq-Decides s t).0 h)) (first (scalar_code hash (Text t)))
scalar_listed s hash t h = absurd (true≢false (sym h))

pub elements_listed : (s : Scalar) (hash : Hash) (ts : Trees) → list_any (equals s) (members ts) ≡ true → is_among (scalar_code hash s) (elements_codes hash ts) ≡ true
elements_listed s hash no_trees h = h
elements_listed s hash (more_trees t ts) h = by_first (elements_listed s hash ts) (equals s t) refl h where
  by_first : (list_any (equals s) (members ts) ≡ true → is_among (scalar_code hash s) (elements_codes hash ts) ≡ true) → (b : Bool) → equals s t ≡ b → (b || list_any (equals s) (members ts)) ≡ true
      → is_among (scalar_code hash s) (scalar_codes hash t ++ elements_codes hash ts) ≡ true
  by_first ih true e h = among-left _ (scalar_codes hash t) (elements_codes hash ts) (scalar_listed s hash t e)
  by_first ih false e h = among-right _ (scalar_codes hash t) (elements_codes hash ts) (ih h)

-- ---- the key of an attribute path: of a value, or of an element of a list
abbrev pub test : Bool → Scalar → Tree → Bool
test false s = equals s
test true s = has_element s

abbrev pub spot : Bool → Hash → Hash
spot false hash = with_value hash
spot true hash = with_element hash

here_listed : (e : Bool) (s : Scalar) (hash : Hash) (t : Tree) → test e s t ≡ true → is_among (scalar_code (spot e hash) s) (here hash t) ≡ true
here_listed false s hash null h = scalar_listed s (with_value hash) null h
here_listed false s hash (boolean b) h = scalar_listed s (with_value hash) (boolean b) h
here_listed false s hash (integer n) h = scalar_listed s (with_value hash) (integer n) h
here_listed false s hash (text u) h = scalar_listed s (with_value hash) (text u) h
here_listed false s hash (list ts) h = absurd (true≢false (sym (scalar_listed s (with_value hash) (list ts) h)))
here_listed false s hash (object ps) h = scalar_listed s (with_value hash) (object ps) h
here_listed true s hash (list ts) h = elements_listed s (with_element hash) ts h
here_listed true s hash null h = h
here_listed true s hash (boolean b) h = absurd (true≢false (sym h))
here_listed true s hash (integer n) h = absurd (true≢false (sym h))
here_listed true s hash (text u) h = absurd (true≢false (sym h))
here_listed true s hash (object ps) h = h

-- at the end of these names
abbrev pub Reaches : Bool → Scalar → List (List ℕ) → ℕ → Type 0
Reaches e s ns room = (hash : Hash) (t : Tree) → passes (test e s) (followed ns t) ≡ true → is_among (scalar_code (spot e (with_names hash ns)) s) (here hash t ++ inside room hash t) ≡ true

in_pairs : (e : Bool) (s : Scalar) (n : List ℕ) (ns : List (List ℕ)) (room : ℕ) (hash : Hash) → Reaches e s ns (room - 1) → (ps : Pairs) → passes (test e s) (option_and_then (followed ns) (find n ps)) ≡ true
    → is_among (scalar_code (spot e (with_names hash (n ∷ ns))) s) (pairs_inside room hash ps) ≡ true
in_pairs e s n ns room hash ih no_pairs h = absurd (true≢false (sym h))
in_pairs e s n ns room hash ih (more_pairs k t ps) h = by_order (in_pairs e s n ns room hash ih ps) (slice_cmp nat_cmp n k) refl h where
  apart : is_among (scalar_code (spot e (with_names hash (n ∷ ns))) s) (pairs_inside room hash ps) ≡ true
      → is_among (scalar_code (spot e (with_names hash (n ∷ ns))) s) (here (with_text hash k) t ++ inside (room - 1) (with_text hash k) t ++ pairs_inside room hash ps) ≡ true
  apart h = among-right _ (here (with_text hash k) t ++ inside (room - 1) (with_text hash k) t) (pairs_inside room hash ps) h

  own : (m : List ℕ) → m ≡ k → passes (test e s) (followed ns t) ≡ true
      → is_among (scalar_code (spot e (with_names (with_text hash m) ns)) s) (here (with_text hash k) t ++ inside (room - 1) (with_text hash k) t ++ pairs_inside room hash ps) ≡ true
  own m is h = subst (λ (j : List ℕ). is_among (scalar_code (spot e (with_names (with_text hash j) ns)) s) (here (with_text hash k) t ++ inside (room - 1) (with_text hash k) t ++ pairs_inside room hash ps) ≡ true) (sym is)
      (among-left _ (here (with_text hash k) t ++ inside (room - 1) (with_text hash k) t) (pairs_inside room hash ps) (ih (with_text hash k) t h))

  by_order : (passes (test e s) (option_and_then (followed ns) (find n ps)) ≡ true → is_among (scalar_code (spot e (with_names hash (n ∷ ns))) s) (pairs_inside room hash ps) ≡ true)
      → (o : Ordering) → slice_cmp nat_cmp n k ≡ o → passes (test e s) (option_and_then (followed ns) (match_ordering o (find n ps) (Some t) (find n ps))) ≡ true
      → is_among (scalar_code (spot e (with_names hash (n ∷ ns))) s) (here (with_text hash k) t ++ inside (room - 1) (with_text hash k) t ++ pairs_inside room hash ps) ≡ true
  by_order rest Less is h = apart (rest h)
  by_order rest Greater is h = apart (rest h)
  by_order rest Equal is h = own n (exact_bytes n k is) h

not_zero : (r : ℕ) → 0 < r → (r == 0) ≡ false
not_zero r h = ne_eqb r 0 (λ e. omega (arith, e, h))

none_follows : (e : Bool) (s : Scalar) → passes (test e s) None ≡ true → ⊥
none_follows e s h = true≢false (sym h)

in_object : (e : Bool) (s : Scalar) (n : List ℕ) (ns : List (List ℕ)) (room : ℕ) (hash : Hash) → 0 < room → Reaches e s ns (room - 1) → (t : Tree) → passes (test e s) (followed (n ∷ ns) t) ≡ true
    → is_among (scalar_code (spot e (with_names hash (n ∷ ns))) s) (inside room hash t) ≡ true
in_object e s n ns room hash some ih null h = absurd (none_follows e s h)
in_object e s n ns room hash some ih (boolean b) h = absurd (none_follows e s h)
in_object e s n ns room hash some ih (integer m) h = absurd (none_follows e s h)
in_object e s n ns room hash some ih (text u) h = absurd (none_follows e s h)
in_object e s n ns room hash some ih (list ts) h = absurd (none_follows e s h)
in_object e s n ns room hash some ih (object ps) h =
    ap (λ b. is_among (scalar_code (spot e (with_names hash (n ∷ ns))) s) (cond b [] (pairs_inside room hash ps))) (not_zero room some) ∙ in_pairs e s n ns room hash ih ps h

reaches : (e : Bool) (s : Scalar) (ns : List (List ℕ)) (room : ℕ) → length ns ≤ room → Reaches e s ns room
reaches e s [] room few hash t h = among-left _ (here hash t) (inside room hash t) (here_listed e s hash t h)
reaches e s (n ∷ ns) room few hash t h = among-right _ (here hash t) (inside room hash t) (in_object e s n ns room hash (omega (arith, few)) (reaches e s ns (room - 1) (omega (arith, few))) t h)

few_listed : (seed : Seed) (e : Bool) (s : Scalar) (ns : List (List ℕ)) → 0 < length ns → length ns ≤ most_names → (d : Tree) → passes (test e s) (followed ns d) ≡ true → is_among (scalar_code (spot e (with_names (start seed) ns)) s) (inside most_names (start seed) d) ≡ true
few_listed seed e s [] some few d h = absurd (omega (arith, some))
few_listed seed e s (n ∷ ns) some few d h = in_object e s n ns most_names (start seed) (omega arith) (reaches e s ns (most_names - 1) (omega (arith, few))) d h

-- ---- references
own_listed : (seed : Seed) (target : List ℕ) (o : Option (List ℕ)) → passes (λ s. bytes_eq s target) o ≡ true → is_among (ref_code seed target) (map (ref_code seed) (option_to_list o)) ≡ true
own_listed seed target None h = h
own_listed seed target (Some s) h = subst (λ (k : List ℕ). is_among (ref_code seed target) (ref_code seed k ∷ []) ≡ true) (sym ((bytes_eq-Decides s target).0 h)) (first (ref_code seed target))

either : (a b : Bool) (c : ℕ) (xs ys : List ℕ) → (a ≡ true → is_among c xs ≡ true) → (b ≡ true → is_among c ys ≡ true) → (a || b) ≡ true → is_among c (xs ++ ys) ≡ true
either true b c xs ys f g h = among-left c xs ys (f refl)
either false b c xs ys f g h = among-right c xs ys (g h)

mutual
  pub ref_listed : (seed : Seed) (target : List ℕ) (t : Tree) → has_ref target t ≡ true → is_among (ref_code seed target) (refs seed t) ≡ true
  ref_listed seed target null h = h
  ref_listed seed target (boolean b) h = h
  ref_listed seed target (integer n) h = h
  ref_listed seed target (text s) h = h
  ref_listed seed target (list ts) h = trees_listed seed target ts h
  ref_listed seed target (object ps) h = either _ _ (ref_code seed target) (own_refs seed ps) (pairs_refs seed ps) (own_listed seed target (ref_of ps)) (pairs_listed seed target ps) h

  trees_listed : (seed : Seed) (target : List ℕ) (ts : Trees) → some_has_ref target ts ≡ true → is_among (ref_code seed target) (trees_refs seed ts) ≡ true
  trees_listed seed target no_trees h = h
  trees_listed seed target (more_trees t ts) h = either _ _ (ref_code seed target) (refs seed t) (trees_refs seed ts) (ref_listed seed target t) (trees_listed seed target ts) h

  pairs_listed : (seed : Seed) (target : List ℕ) (ps : Pairs) → some_pair_has_ref target ps ≡ true → is_among (ref_code seed target) (pairs_refs seed ps) ≡ true
  pairs_listed seed target no_pairs h = h
  pairs_listed seed target (more_pairs k t ps) h = either _ _ (ref_code seed target) (refs seed t) (pairs_refs seed ps) (ref_listed seed target t) (pairs_listed seed target ps) h

-- ---- any key that is kept
pub listed : (seed : Seed) (q : Key) (d : Tree) → IsKept q → has q d ≡ true → is_among (key_code seed q) (key_codes seed d) ≡ true
listed seed All d kept h = absurd kept
listed seed (Id t) d kept h = absurd kept
listed seed (Path ns s) d kept h = among-right _ (refs seed d) (inside most_names (start seed) d) (few_listed seed false s ns kept.0 kept.1 d h)
listed seed (Elem ns s) d kept h = among-right _ (refs seed d) (inside most_names (start seed) d) (few_listed seed true s ns kept.0 kept.1 d h)
listed seed (Ref t) d kept h = among-left _ (refs seed d) (inside most_names (start seed) d) (ref_listed seed t d h)
