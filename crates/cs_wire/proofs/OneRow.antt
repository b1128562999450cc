-- No object has the keys of two rows.
use Rattle.std.proofs.Common.{◌≡◌, ◌++◌, ◌&&◌, ◌||◌, ℕ, List, [], ◌∷◌, Bool, true, false, true≢false, not, Option, Some, is_some, Ordering, Less, Equal, Greater, nat_cmp, refl, sym, ap, ◌∙◌, arith}
use Rattle.std.specs.Cmp.Lexicographic.{slice_cmp}
use Rattle.std.specs.Ordering.{match_ordering}
use Rattle.std.specs.List.{All, AllPairs, list_all, list_any}
use Rattle.std.proofs.lemmas.Bool.{and_parts}
use Rattle.std.proofs.lemmas.List.Elements.{All-cons, All-nil}
use Rattle.std.proofs.lemmas.List.Kept.{AllPairs-cons}
use Rattle.cs_value.specs.Tree.{Tree, Pairs, no_pairs, more_pairs}
use Rattle.cs_value.specs.Pairs.{find}
use Rattle.cs_wire.specs.Commands.{is_among, key_names, has_keys}
use Rattle.cs_wire.specs.Rows.{Row, rows}
use Rattle.cs_wire.proofs.Asking.{equal_texts}

tested_at : (o : Ordering) (p : List ℕ → Bool) (k l : List ℕ) (t : Tree) (found : Option Tree) → slice_cmp nat_cmp k l ≡ o → p l ≡ true → (is_some found ≡ true → p k ≡ true)
    → is_some (match_ordering o found (Some t) found) ≡ true → p k ≡ true
tested_at Less p k l t found e here more h = more h
tested_at Equal p k l t found e here more h = ap p (equal_texts k l e) ∙ here
tested_at Greater p k l t found e here more h = more h

-- a key that is there passes what all keys pass
tested : (p : List ℕ → Bool) (k : List ℕ) (ps : Pairs) → list_all p (key_names ps) ≡ true → is_some (find k ps) ≡ true → p k ≡ true
tested p k no_pairs all there = absurd (true≢false (sym there))
tested p k (more_pairs l t ps) all there =
    let parts = and_parts (p l) (list_all p (key_names ps)) all in
    tested_at (slice_cmp nat_cmp k l) p k l t (find k ps) refl parts.0 (λ h. tested p k ps parts.1 h) there

-- the keys that s has or may have
abbrev known : Row → List (List ℕ)
known s = s.must ++ s.may

-- some key that r must have is no key of s
abbrev needs_more : Row → Row → Bool
needs_more r s = list_any (λ k. not (is_among k (known s))) r.must

abbrev apart : Row → Row → Bool
apart r s = needs_more r s || needs_more s r

stranger : (ks : List (List ℕ)) (s : Row) (ps : Pairs) → list_any (λ k. not (is_among k (known s))) ks ≡ true → list_all (λ k. is_some (find k ps)) ks ≡ true → has_keys s.must s.may ps ≡ true → ⊥
stranger [] s ps some all h = true≢false (sym some)
stranger (k ∷ ks) s ps some all h =
    let parts = and_parts (is_some (find k ps)) (list_all (λ k. is_some (find k ps)) ks) all in
    let has = and_parts (list_all (λ k. is_some (find k ps)) s.must) (list_all (λ k. is_among k (known s)) (key_names ps)) h in
    let among : is_among k (known s) ≡ true = tested (λ k. is_among k (known s)) k ps has.1 parts.0 in
    let rest : list_any (λ k. not (is_among k (known s))) ks ≡ true = ap (λ b. not b || list_any (λ k. not (is_among k (known s))) ks) (sym among) ∙ some in
    stranger ks s ps rest parts.1 h

abbrev Excludes : Pairs → Row → Row → Type 0
Excludes ps r s = has_keys r.must r.may ps ≡ true → has_keys s.must s.may ps ≡ true → ⊥

excluded_by : (r s : Row) (ps : Pairs) → needs_more r s ≡ true → Excludes ps r s
excluded_by r s ps e h k =
    stranger r.must s ps e (and_parts (list_all (λ k. is_some (find k ps)) r.must) (list_all (λ k. is_among k (known r)) (key_names ps)) h).0 k

excluded_or : (b : Bool) (r s : Row) (ps : Pairs) → needs_more r s ≡ b → (b || needs_more s r) ≡ true → Excludes ps r s
excluded_or true r s ps e h = excluded_by r s ps e
excluded_or false r s ps e h = λ one other. excluded_by s r ps h other one

excluded : (r s : Row) (ps : Pairs) → apart r s ≡ true → Excludes ps r s
excluded r s ps e = excluded_or (needs_more r s) r s ps refl e

abbrev all_apart : List Row → Bool
all_apart [] = true
all_apart (r ∷ rs) = list_all (apart r) rs && all_apart rs

each_excluded : (r : Row) (rs : List Row) (ps : Pairs) → list_all (apart r) rs ≡ true → All (Excludes ps r) rs
each_excluded r [] ps e = All-nil (Excludes ps r)
each_excluded r (s ∷ rs) ps e =
    let parts = and_parts (apart r s) (list_all (apart r) rs) e in
    All-cons (Excludes ps r) s rs (excluded r s ps parts.0) (each_excluded r rs ps parts.1)

pairs_excluded : (rs : List Row) (ps : Pairs) → all_apart rs ≡ true → AllPairs (Excludes ps) rs
pairs_excluded [] ps e = λ i j d lt lt2. absurd (omega arith)
pairs_excluded (r ∷ rs) ps e =
    let parts = and_parts (list_all (apart r) rs) (all_apart rs) e in
    AllPairs-cons (Excludes ps) r rs (each_excluded r rs ps parts.0) (pairs_excluded rs ps parts.1)

-- of any two rows, an object has not the keys of both: the order of the rows decides nothing
pub one_row : (ps : Pairs) → AllPairs (λ r s. has_keys r.must r.may ps ≡ true → has_keys s.must s.may ps ≡ true → ⊥) rows
one_row ps = pairs_excluded rows ps refl
