-- A pattern matches a text exactly where its parts match the text's segments.
use Rattle.std.proofs.Common.{◌≡◌, ℕ, List, [], ◌∷◌, ◌++◌, length, Bool, true, false, not, cond, refl, sym, ap, ◌∙◌, append_assoc, bytes_eq, true≢false}
use Rattle.std.specs.Prelude.{◌&&◌, ◌||◌, nat_lt, codes}
use Rattle.std.specs.List.{list_all, list_any, onto_first}
use Rattle.std.proofs.lemmas.Slice.Eq.{bytes_eq-Decides}
use Rattle.std.proofs.lemmas.Bool.{false_from_ne_true}
use Rattle.std.proofs.Math.Bool.{and-false, and-true, or-false, or-true}
use Rattle.cs_func.specs.PathPattern.{is_dot, part_matches, some_cut, parts_match, path_matches}
use Rattle.cs_func.specs.Segments.{segments, is_any, after_some, after_one, segments_match}

or_assoc : (a b c : Bool) → (a || (b || c)) ≡ ((a || b) || c)
or_assoc true b c = refl
or_assoc false b c = refl

append-none : (xs : List ℕ) → xs ++ [] ≡ xs
append-none [] = refl
append-none (x ∷ xs) = ap (λ ys. x ∷ ys) (append-none xs)

any-append : (xs ys : List ℕ) → list_any is_dot (xs ++ ys) ≡ (list_any is_dot xs || list_any is_dot ys)
any-append [] ys = refl
any-append (x ∷ xs) ys = ap (λ b. is_dot x || b) (any-append xs ys) ∙ or_assoc (is_dot x) (list_any is_dot xs) (list_any is_dot ys)

any-push : (xs : List ℕ) (b : ℕ) → list_any is_dot (xs ++ b ∷ []) ≡ (list_any is_dot xs || is_dot b)
any-push xs b = any-append xs (b ∷ []) ∙ ap (λ c. list_any is_dot xs || c) (or-false (is_dot b))

all-dotted : (u : List ℕ) → list_any is_dot u ≡ true → list_all (λ b. not (is_dot b)) u ≡ false
all-dotted [] h = absurd (true≢false (sym h))
all-dotted (b ∷ u) h = by_byte (is_dot b) h (all-dotted u)
  where
    by_byte : (d : Bool) → (d || list_any is_dot u) ≡ true → (list_any is_dot u ≡ true → list_all (λ b. not (is_dot b)) u ≡ false) → (not d && list_all (λ b. not (is_dot b)) u) ≡ false
    by_byte true k ih = refl
    by_byte false k ih = ih k

-- a part other than `**` matches no text that has a dot
one-dotted : (p u : List ℕ) → is_any p ≡ false → list_any is_dot p ≡ false → list_any is_dot u ≡ true → part_matches p u ≡ false
one-dotted p u not_any plain dotted = rw not_any (by_star (bytes_eq p (codes "*")))
  where
    differ : bytes_eq p u ≡ true → ⊥
    differ h = true≢false (sym dotted ∙ ap (list_any is_dot) (sym ((bytes_eq-Decides p u).0 h)) ∙ plain)

    by_star : (s : Bool) → cond s (nat_lt 0 (length u) && list_all (λ b. not (is_dot b)) u) (bytes_eq p u) ≡ false
    by_star true = ap (λ b. nat_lt 0 (length u) && b) (all-dotted u dotted) ∙ and-false (nat_lt 0 (length u))
    by_star false = false_from_ne_true (bytes_eq p u) differ

some_cut-same : (f h : List ℕ → List ℕ → Bool) → ((u v : List ℕ) → f u v ≡ h u v) → (before text : List ℕ) → some_cut f before text ≡ some_cut h before text
some_cut-same f h same before [] = refl
some_cut-same f h same before (b ∷ bs) =
    ap (λ x. (is_dot b && x) || some_cut f (before ++ b ∷ []) bs) (same before bs)
    ∙ ap (λ x. (is_dot b && h before bs) || x) (some_cut-same f h same (before ++ b ∷ []) bs)

-- `**`: each cut at a dot leaves what is left after some segments
any-onto_first : (g : List (List ℕ) → Bool) → g [] ≡ false → (b : ℕ) (ss : List (List ℕ)) → after_some g (onto_first b ss) ≡ after_some g ss
any-onto_first g none b [] = or-false (g []) ∙ none
any-onto_first g none b (s ∷ ss) = refl

any-cuts : (g : List (List ℕ) → Bool) → g [] ≡ false → (before text : List ℕ) → some_cut (λ u v. g (segments v)) before text ≡ after_some g (segments text)
any-cuts g none before [] = sym (or-false (g []) ∙ none)
any-cuts g none before (b ∷ bs) = by_byte (is_dot b) (any-cuts g none (before ++ b ∷ []) bs)
  where
    by_byte : (d : Bool) → some_cut (λ u v. g (segments v)) (before ++ b ∷ []) bs ≡ after_some g (segments bs)
        → ((d && g (segments bs)) || some_cut (λ u v. g (segments v)) (before ++ b ∷ []) bs) ≡ after_some g (cond d ([] ∷ segments bs) (onto_first b (segments bs)))
    by_byte true ih = ap (λ x. g (segments bs) || x) ih
    by_byte false ih = ih ∙ sym (any-onto_first g none b (segments bs))

-- another part: only the cut at the first dot can pass
dotted-cuts : (p : List ℕ) → is_any p ≡ false → list_any is_dot p ≡ false → (g : List ℕ → Bool) (before text : List ℕ) → list_any is_dot before ≡ true → some_cut (λ u v. part_matches p u && g v) before text ≡ false
dotted-cuts p not_any plain g before [] dotted = refl
dotted-cuts p not_any plain g before (b ∷ bs) dotted =
    ap (λ x. (is_dot b && (x && g bs)) || some_cut (λ u v. part_matches p u && g v) (before ++ b ∷ []) bs) (one-dotted p before not_any plain dotted)
    ∙ ap (λ x. x || some_cut (λ u v. part_matches p u && g v) (before ++ b ∷ []) bs) (and-false (is_dot b))
    ∙ dotted-cuts p not_any plain g (before ++ b ∷ []) bs (any-push before b ∙ ap (λ x. x || is_dot b) dotted)

abbrev first_fits : List ℕ → (List (List ℕ) → Bool) → List ℕ → List (List ℕ) → Bool
first_fits p g before [] = false
first_fits p g before (s ∷ ss) = part_matches p (before ++ s) && g ss

first-onto_first : (p : List ℕ) (g : List (List ℕ) → Bool) → g [] ≡ false → (before : List ℕ) (b : ℕ) (ss : List (List ℕ)) → first_fits p g (before ++ b ∷ []) ss ≡ first_fits p g before (onto_first b ss)
first-onto_first p g none before b [] = sym (ap (λ x. part_matches p (before ++ b ∷ []) && x) none ∙ and-false (part_matches p (before ++ b ∷ [])))
first-onto_first p g none before b (s ∷ ss) = ap (λ u. part_matches p u && g ss) (append_assoc before (b ∷ []) s)

one-cuts : (p : List ℕ) → is_any p ≡ false → list_any is_dot p ≡ false → (g : List (List ℕ) → Bool) → g [] ≡ false → (before text : List ℕ) → some_cut (λ u v. part_matches p u && g (segments v)) before text ≡ first_fits p g before (segments text)
one-cuts p not_any plain g none before [] = sym (ap (λ x. part_matches p (before ++ []) && x) none ∙ and-false (part_matches p (before ++ [])))
one-cuts p not_any plain g none before (b ∷ bs) = by_byte (is_dot b) refl (one-cuts p not_any plain g none (before ++ b ∷ []) bs)
  where
    by_byte : (d : Bool) → is_dot b ≡ d → some_cut (λ u v. part_matches p u && g (segments v)) (before ++ b ∷ []) bs ≡ first_fits p g (before ++ b ∷ []) (segments bs) → ((d && (part_matches p before && g (segments bs))) || some_cut (λ u v. part_matches p u && g (segments v)) (before ++ b ∷ []) bs) ≡ first_fits p g before (cond d ([] ∷ segments bs) (onto_first b (segments bs)))
    by_byte true is ih =
        ap (λ x. (part_matches p before && g (segments bs)) || x) (dotted-cuts p not_any plain (λ v. g (segments v)) (before ++ b ∷ []) bs (any-push before b ∙ ap (λ x. list_any is_dot before || x) is ∙ or-true (list_any is_dot before)))
        ∙ or-false (part_matches p before && g (segments bs))
        ∙ ap (λ u. part_matches p u && g (segments bs)) (sym (append-none before))
    by_byte false is ih = ih ∙ first-onto_first p g none before b (segments bs)

-- the last part: `**` matches all segments, another one
all-pass : (s : List ℕ) (ss : List (List ℕ)) → after_some (segments_match []) (s ∷ ss) ≡ true
all-pass s [] = refl
all-pass s (t ∷ ss) = all-pass t ss

any-last : (text : List ℕ) → after_some (segments_match []) (segments text) ≡ true
any-last [] = refl
any-last (b ∷ bs) = by_byte (is_dot b)
  where
    onto : (ss : List (List ℕ)) → after_some (segments_match []) (onto_first b ss) ≡ true
    onto [] = refl
    onto (s ∷ ss) = all-pass (b ∷ s) ss

    by_byte : (d : Bool) → after_some (segments_match []) (cond d ([] ∷ segments bs) (onto_first b (segments bs))) ≡ true
    by_byte true = all-pass [] (segments bs)
    by_byte false = onto (segments bs)

pub ended : (text : List ℕ) → segments_match [] (segments text) ≡ false
ended [] = refl
ended (b ∷ bs) = by_byte (is_dot b)
  where
    onto : (ss : List (List ℕ)) → segments_match [] (onto_first b ss) ≡ false
    onto [] = refl
    onto (s ∷ ss) = refl

    by_byte : (d : Bool) → segments_match [] (cond d ([] ∷ segments bs) (onto_first b (segments bs))) ≡ false
    by_byte true = refl
    by_byte false = onto (segments bs)

last-onto_first : (p before : List ℕ) (b : ℕ) (bs : List ℕ) → first_fits p (segments_match []) (before ++ b ∷ []) (segments bs) ≡ first_fits p (segments_match []) before (onto_first b (segments bs))
last-onto_first p before b bs = by_segments (segments bs) (some_segment bs)
  where
    some_segment : (text : List ℕ) → (segments text ≡ [] → ⊥)
    some_segment text e = true≢false (ap (segments_match []) (sym e) ∙ ended text)

    by_segments : (ss : List (List ℕ)) → (ss ≡ [] → ⊥) → first_fits p (segments_match []) (before ++ b ∷ []) ss ≡ first_fits p (segments_match []) before (onto_first b ss)
    by_segments [] h = absurd (h refl)
    by_segments (s ∷ ss) h = ap (λ u. part_matches p u && segments_match [] ss) (append_assoc before (b ∷ []) s)

one-last : (p : List ℕ) → is_any p ≡ false → list_any is_dot p ≡ false → (before text : List ℕ) → part_matches p (before ++ text) ≡ first_fits p (segments_match []) before (segments text)
one-last p not_any plain before [] = sym (and-true (part_matches p (before ++ [])))
one-last p not_any plain before (b ∷ bs) = by_byte (is_dot b) refl (one-last p not_any plain (before ++ b ∷ []) bs)
  where
    by_byte : (d : Bool) → is_dot b ≡ d → part_matches p ((before ++ b ∷ []) ++ bs) ≡ first_fits p (segments_match []) (before ++ b ∷ []) (segments bs) → part_matches p (before ++ b ∷ bs) ≡ first_fits p (segments_match []) before (cond d ([] ∷ segments bs) (onto_first b (segments bs)))
    by_byte true is ih =
        one-dotted p (before ++ b ∷ bs) not_any plain (any-append before (b ∷ bs) ∙ ap (λ x. list_any is_dot before || (x || list_any is_dot bs)) is ∙ or-true (list_any is_dot before))
        ∙ sym (ap (λ x. part_matches p (before ++ []) && x) (ended bs) ∙ and-false (part_matches p (before ++ [])))
    by_byte false is ih =
        ap (part_matches p) (sym (append_assoc before (b ∷ []) bs)) ∙ ih ∙ last-onto_first p before b bs

from_first : (p : List ℕ) (g : List (List ℕ) → Bool) (ss : List (List ℕ)) → first_fits p g [] ss ≡ after_one p g ss
from_first p g [] = refl
from_first p g (s ∷ ss) = refl

abbrev NoDots : List (List ℕ) → Type 0
NoDots [] = Unit {0}
NoDots (p ∷ ps) = (list_any is_dot p ≡ false) × NoDots ps

segments-no_dots : (text : List ℕ) → NoDots (segments text)
segments-no_dots [] = (refl, tt)
segments-no_dots (b ∷ bs) = by_byte (is_dot b) refl (segments-no_dots bs)
  where
    onto : (ss : List (List ℕ)) → is_dot b ≡ false → NoDots ss → NoDots (onto_first b ss)
    onto [] is h = (or-false (is_dot b) ∙ is, tt)
    onto (s ∷ ss) is h = (ap (λ x. x || list_any is_dot s) is ∙ h.0, h.1)

    by_byte : (d : Bool) → is_dot b ≡ d → NoDots (segments bs) → NoDots (cond d ([] ∷ segments bs) (onto_first b (segments bs)))
    by_byte true is ih = (refl, ih)
    by_byte false is ih = onto (segments bs) is ih

none_left : (p : List ℕ) (ps : List (List ℕ)) → segments_match (p ∷ ps) [] ≡ false
none_left p ps = by_any (is_any p)
  where
    by_any : (a : Bool) → cond a false false ≡ false
    by_any true = refl
    by_any false = refl

any-is : (p u : List ℕ) → is_any p ≡ true → part_matches p u ≡ true
any-is p u h = rw h refl

matched : (p : List ℕ) (ps : List (List ℕ)) → NoDots (p ∷ ps) → (text : List ℕ) → parts_match (p ∷ ps) text ≡ segments_match (p ∷ ps) (segments text)
matched p [] h text = by_any (is_any p) refl
  where
    by_any : (a : Bool) → is_any p ≡ a → part_matches p text ≡ cond a (after_some (segments_match []) (segments text)) (after_one p (segments_match []) (segments text))
    by_any true is = any-is p text is ∙ sym (any-last text)
    by_any false is = one-last p is h.0 [] text ∙ from_first p (segments_match []) (segments text)
matched p (q ∷ ps) h text = by_any (is_any p) refl (matched q ps h.1)
  where
    by_any : (a : Bool) → is_any p ≡ a → ((v : List ℕ) → parts_match (q ∷ ps) v ≡ segments_match (q ∷ ps) (segments v)) → some_cut (λ u v. part_matches p u && parts_match (q ∷ ps) v) [] text ≡ cond a (after_some (segments_match (q ∷ ps)) (segments text)) (after_one p (segments_match (q ∷ ps)) (segments text))
    by_any true is rest =
        some_cut-same (λ u v. part_matches p u && parts_match (q ∷ ps) v) (λ u v. segments_match (q ∷ ps) (segments v)) (λ u v. ap (λ x. x && parts_match (q ∷ ps) v) (any-is p u is) ∙ rest v) [] text
        ∙ any-cuts (segments_match (q ∷ ps)) (none_left q ps) [] text
    by_any false is rest =
        some_cut-same (λ u v. part_matches p u && parts_match (q ∷ ps) v) (λ u v. part_matches p u && segments_match (q ∷ ps) (segments v)) (λ u v. ap (λ x. part_matches p u && x) (rest v)) [] text
        ∙ one-cuts p is h.0 (segments_match (q ∷ ps)) (none_left q ps) [] text
        ∙ from_first p (segments_match (q ∷ ps)) (segments text)

both_ended : (ps : List (List ℕ)) (text : List ℕ) → (ps ≡ [] → ⊥) → NoDots ps → parts_match ps text ≡ segments_match ps (segments text)
both_ended [] text h k = absurd (h refl)
both_ended (p ∷ ps) text h k = matched p ps k text

pub path-segments : (pattern text : List ℕ) → path_matches pattern text ≡ segments_match (segments pattern) (segments text)
path-segments pattern text = both_ended (segments pattern) text (λ e. true≢false (ap (segments_match []) (sym e) ∙ ended pattern)) (segments-no_dots pattern)

pub path-is : (pattern text p t : List ℕ) → p ≡ pattern → t ≡ text → segments_match (segments p) (segments t) ≡ path_matches pattern text
path-is pattern text p t eP eT = ap (λ x. segments_match (segments x) (segments t)) eP ∙ ap (λ x. segments_match (segments pattern) (segments x)) eT ∙ sym (path-segments pattern text)
