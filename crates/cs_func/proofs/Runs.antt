-- A step of a run, and what a further `**` makes of an earlier one.
use Rattle.std.proofs.Common.{◌≡◌, ℕ, zero, suc, ◌+◌, ◌<◌, List, [], ◌∷◌, length, take, drop, get_or, Bool, true, false, not, cond, refl, sym, ap, ◌∙◌, arith, bytes_eq, true≢false}
use Rattle.std.specs.Prelude.{◌&&◌, ◌||◌, codes, ◌==◌, nat_lt}
use Rattle.std.proofs.lemmas.Bool.Decides.{nat_tests}
use Rattle.std.specs.List.{list_all, list_any, onto_first}
use Rattle.std.proofs.lemmas.Slice.Eq.{bytes_eq-Decides}
use Rattle.std.proofs.lemmas.Bool.{and_from}
use Rattle.cs_func.specs.PathPattern.{is_dot, part_matches}
use Rattle.cs_func.specs.Run.{LeadsTo}
use Rattle.cs_func.specs.Segments.{segments, is_any, after_some, after_one, segments_match}

-- a text cut at its first dot
pub split-at : (xs : List ℕ) (i d : ℕ) → i < length xs → list_any is_dot (take i xs) ≡ false → is_dot (get_or xs i d) ≡ true → segments xs ≡ take i xs ∷ segments (drop (i + 1) xs)
split-at [] i d l plain dot = absurd (omega arith)
split-at (x ∷ xs) zero d l plain dot = rw dot refl
split-at (x ∷ xs) (suc i) d l plain dot =
    let p = no_dot (is_dot x) _ plain in
    let n : suc i + 1 ≡ suc (i + 1) = omega arith in
    rw (p.0, n) (ap (onto_first x) (split-at xs i d (omega arith) p.1 dot))
  where
    no_dot : (a b : Bool) → (a || b) ≡ false → (a ≡ false) × (b ≡ false)
    no_dot true b h = absurd (true≢false h)
    no_dot false b h = (refl, h)

pub split-none : (xs : List ℕ) → list_any is_dot xs ≡ false → segments xs ≡ xs ∷ []
split-none [] h = refl
split-none (x ∷ xs) h =
    let p = no_dot (is_dot x) _ h in
    rw p.0 (ap (onto_first x) (split-none xs p.1))
  where
    no_dot : (a b : Bool) → (a || b) ≡ false → (a ≡ false) × (b ≡ false)
    no_dot true b k = absurd (true≢false k)
    no_dot false b k = (refl, k)

is-any : (part : List ℕ) → is_any part ≡ true → part ≡ codes "**"
is-any part h = (bytes_eq-Decides part (codes "**")).0 h

-- one part fits one segment
pub one-step : (p s : List ℕ) (ps ss : List (List ℕ)) → is_any p ≡ false → part_matches p s ≡ true → segments_match (p ∷ ps) (s ∷ ss) ≡ segments_match ps ss
one-step p s ps ss not_any fits = ap (λ a. cond a (after_some (segments_match ps) (s ∷ ss)) (after_one p (segments_match ps) (s ∷ ss))) not_any ∙ ap (λ b. b && segments_match ps ss) fits

pub one-fails : (p s : List ℕ) (ps ss : List (List ℕ)) → is_any p ≡ false → part_matches p s ≡ false → segments_match (p ∷ ps) (s ∷ ss) ≡ false
one-fails p s ps ss not_any fails = ap (λ a. cond a (after_some (segments_match ps) (s ∷ ss)) (after_one p (segments_match ps) (s ∷ ss))) not_any ∙ ap (λ b. b && segments_match ps ss) fails

pub none-left : (p : List ℕ) (ps : List (List ℕ)) → is_any p ≡ false → segments_match (p ∷ ps) [] ≡ false
none-left p ps not_any = rw not_any refl

second : (a b : Bool) → (a && b) ≡ true → b ≡ true
second true b h = h
second false b h = absurd (true≢false (sym h))

one-further : (p : List ℕ) (f : List (List ℕ) → Bool) (s : List ℕ) (ss : List (List ℕ)) (j : ℕ) → after_one p f (drop j (s ∷ ss)) ≡ true → f (drop j ss) ≡ true
one-further p f s ss zero h = second (part_matches p s) (f ss) h
one-further p f s [] (suc j) h = absurd (none j h)
  where
    none : (k : ℕ) → after_one p f (drop k []) ≡ true → ⊥
    none zero k = true≢false (sym k)
    none (suc n) k = true≢false (sym k)
one-further p f s (t ∷ ss) (suc j) h = one-further p f t ss j h

pub step-further : (p s : List ℕ) (ps ss : List (List ℕ)) → is_any p ≡ false → (j : ℕ) → segments_match (p ∷ ps) (drop j (s ∷ ss)) ≡ true → segments_match ps (drop j ss) ≡ true
step-further p s ps ss not_any j h = one-further p (segments_match ps) s ss j (sym (ap (λ a. cond a (after_some (segments_match ps) (drop j (s ∷ ss))) (after_one p (segments_match ps) (drop j (s ∷ ss)))) not_any) ∙ h)

-- what a `**` leaves from further on, it leaves from here
later-some : (f : List (List ℕ) → Bool) (ss : List (List ℕ)) (j : ℕ) → after_some f (drop j ss) ≡ true → after_some f ss ≡ true
later-some f ss zero h = h
later-some f [] (suc j) h = h
later-some f (s ∷ ss) (suc j) h = rw (later-some f ss j h) (or_true (f ss))
  where
    or_true : (a : Bool) → (a || true) ≡ true
    or_true true = refl
    or_true false = refl

some-place : (f : List (List ℕ) → Bool) (ss : List (List ℕ)) → after_some f ss ≡ true → (j : ℕ) × (f (drop (suc j) ss) ≡ true)
some-place f [] h = absurd (true≢false (sym h))
some-place f (s ∷ ss) h = by_first (f ss) refl h (some-place f ss)
  where
    by_first : (a : Bool) → f ss ≡ a → (a || after_some f ss) ≡ true → (after_some f ss ≡ true → (j : ℕ) × (f (drop (suc j) ss) ≡ true)) → (j : ℕ) × (f (drop (suc j) (s ∷ ss)) ≡ true)
    by_first true is k ih = (0, is)
    by_first false is k ih = let found = ih k in (suc found.0, found.1)

absorbed : (m x : Bool) → (x ≡ true → m ≡ true) → (m || x) ≡ m
absorbed true x h = refl
absorbed false true h = sym (h refl)
absorbed false false h = refl

-- where a run leads to a `**`, an earlier one need not try again
pub jump : (ps ss later rest : List (List ℕ)) → LeadsTo ps ss later rest → (segments_match ps ss || after_some (segments_match ps) ss) ≡ after_some (segments_match later) rest
jump ps ss later rest r =
    ap (λ m. m || after_some (segments_match ps) ss) r.same
    ∙ absorbed (after_some (segments_match later) rest) (after_some (segments_match ps) ss)
    (λ h. let found = some-place (segments_match ps) ss h in later-some (segments_match later) rest (suc found.0) (r.further (suc found.0) found.1))

pub same-step : (before : Bool) (P S : List (List ℕ)) (p s : List ℕ) (ps ss : List (List ℕ)) → P ≡ p ∷ ps → S ≡ s ∷ ss → is_any p ≡ false → part_matches p s ≡ true → before ≡ segments_match P S → before ≡ segments_match ps ss
same-step before P S p s ps ss eP eS not_any fits h = h ∙ ap (λ (x : List (List ℕ)). segments_match x S) eP ∙ ap (segments_match (p ∷ ps)) eS ∙ one-step p s ps ss not_any fits

pub further-step : (P S : List (List ℕ)) (p s : List ℕ) (ps ss : List (List ℕ)) → P ≡ p ∷ ps → S ≡ s ∷ ss → is_any p ≡ false → (j : ℕ) → segments_match P (drop j S) ≡ true → segments_match ps (drop j ss) ≡ true
further-step P S p s ps ss eP eS not_any j h =
    step-further p s ps ss not_any j (sym (ap (λ (x : List (List ℕ)). segments_match x (drop j S)) eP ∙ ap (λ (x : List (List ℕ)). segments_match (p ∷ ps) (drop j x)) eS) ∙ h)

pub rest-step : (P S : List (List ℕ)) (s : List ℕ) (ss later rest : List (List ℕ)) (all : Bool) → S ≡ s ∷ ss → LeadsTo P ss later rest → all ≡ after_some (segments_match P) S → all ≡ after_some (segments_match later) rest
rest-step P S s ss later rest all eS r h = h ∙ ap (after_some (segments_match P)) eS ∙ jump P ss later rest r

plain-all : (u : List ℕ) → list_any is_dot u ≡ false → list_all (λ b. not (is_dot b)) u ≡ true
plain-all [] h = refl
plain-all (b ∷ u) h =
    let p = no_dot (is_dot b) _ h in
    rw p.0 (plain-all u p.1)
  where
    no_dot : (a b : Bool) → (a || b) ≡ false → (a ≡ false) × (b ≡ false)
    no_dot true b k = absurd (true≢false k)
    no_dot false b k = (refl, k)

positive : (n : ℕ) → nat_lt 0 (suc n) ≡ true
positive n = grind (arith, nat_tests)

not_zero : (n : ℕ) → (suc n == 0) ≡ false
not_zero n = grind (arith, nat_tests)

pub star-fits : (part star u : List ℕ) (e : Bool) → bytes_eq part star ≡ true → star ≡ codes "*" → list_any is_dot u ≡ false → e ≡ (length u == 0) → not e ≡ part_matches part u
star-fits part star [] e same is plain h = ap not h ∙ sym (ap (λ p. part_matches p []) ((bytes_eq-Decides part star).0 same ∙ is))
star-fits part star (b ∷ u) e same is plain h =
    ap not (h ∙ not_zero (length u)) ∙ sym (ap (λ p. part_matches p (b ∷ u)) ((bytes_eq-Decides part star).0 same ∙ is) ∙ and_from _ _ (positive (length u)) (plain-all (b ∷ u) plain))
