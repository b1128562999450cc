-- One more target looked at.
use Rattle.std.proofs.Common.{◌≡◌, ◌<◌, ◌≤◌, ◌+◌, ℕ, List, [], ◌∷◌, ◌++◌, Bool, true, false, not, ◌||◌, ◌&&◌, cond, length, get_or, drop, map, filter, refl, sym, ap, ◌∙◌, arith}
use Rattle.std.specs.List.{list_any}
use Rattle.std.proofs.lemmas.List.{at_drop_more, append_assoc}
use Rattle.std.proofs.Math.Bool.{and-false}
use Rattle.cs_jsonmatch.specs.Places.{Location}
use Rattle.cs_alter.specs.Within.{is_inside, same_part}
use Rattle.cs_targets.specs.Seen.{Seen, seen, outer_seen}
use Rattle.cs_targets.specs.declared.target.Target.{Target}

abbrev pub is_outer : List Seen → Seen → Bool
is_outer xs x = not (list_any (λ y. is_inside x.location y.location) xs)

any_seen : (ns : List (List ℕ)) (l : Location) (ts : List Target) → list_any (λ y. is_inside l y.location) (map (seen ns) ts) ≡ list_any (λ u. is_inside l u.location.items) ts
any_seen ns l [] = refl
any_seen ns l (t ∷ ts) = ap (λ b. is_inside l t.location.items || b) (any_seen ns l ts)

kept_by : (b : Bool) (x : Seen) (xs : List Seen) → cond b (x ∷ xs) xs ≡ cond b (x ∷ []) [] ++ xs
kept_by true x xs = refl
kept_by false x xs = refl

pub keep_step : (ns : List (List ℕ)) (all ts : List Target) (i : ℕ) (x : Target) (kept more whole : List Seen) (inside : Bool) → i < length ts → x ≡ get_or ts i x
    → inside ≡ list_any (λ u. is_inside x.location.items u.location.items) all → more ≡ kept ++ cond (not inside) (seen ns x ∷ []) []
    → kept ++ filter (is_outer (map (seen ns) all)) (map (seen ns) (drop i ts)) ≡ whole → more ++ filter (is_outer (map (seen ns) all)) (map (seen ns) (drop (i + 1) ts)) ≡ whole
keep_step ns all ts i x kept more whole inside here at is grown so_far =
    let rest = filter (is_outer (map (seen ns) all)) (map (seen ns) (drop (i + 1) ts)) in
    let first = at_drop_more (λ qs. filter (is_outer (map (seen ns) all)) (map (seen ns) qs)) ts i x here
    ∙ ap (λ y. filter (is_outer (map (seen ns) all)) (map (seen ns) (y ∷ drop (i + 1) ts))) (sym at) in
    let same : inside ≡ list_any (λ y. is_inside x.location.items y.location) (map (seen ns) all) = is ∙ sym (any_seen ns x.location.items all) in
    ap (λ m. m ++ rest) (grown ∙ ap (λ b. kept ++ cond (not b) (seen ns x ∷ []) []) same)
    ∙ append_assoc kept (cond (is_outer (map (seen ns) all) (seen ns x)) (seen ns x ∷ []) []) rest
    ∙ ap (λ m. kept ++ m) (sym (kept_by (is_outer (map (seen ns) all) (seen ns x)) (seen ns x) rest)) ∙ ap (λ m. kept ++ m) (sym first) ∙ so_far

-- a location is not met on the way to itself
inside_itself : (l : Location) → is_inside l l ≡ false
inside_itself [] = refl
inside_itself (x ∷ l) = ap (λ b. same_part x x && b) (inside_itself l) ∙ and-false (same_part x x)

-- a target alone is kept
alone_is_outer : (x : Seen) → outer_seen (x ∷ []) ≡ x ∷ []
alone_is_outer x = ap (λ b. cond (not (b || false)) (x ∷ []) []) (inside_itself x.location)

pub alone : (ns : List (List ℕ)) (ts : List Target) (x : Target) → 1 ≤ length ts → length ts < 2 → x ≡ get_or ts 0 x → seen ns x ∷ [] ≡ outer_seen (map (seen ns) ts)
alone ns [] x some few at = absurd (omega arith)
alone ns (t ∷ []) x some few at = ap (λ y. seen ns y ∷ []) at ∙ sym (alone_is_outer (seen ns t))
alone ns (t ∷ u ∷ ts) x some few at = absurd (omega arith)
