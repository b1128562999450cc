-- Lists of listeners, one by one.
use Rattle.std.proofs.Common.{◌≡◌, ◌<◌, ◌+◌, ◌∙◌, ℕ, suc, List, [], ◌∷◌, ◌++◌, map, length, get_or, drop, refl, sym, ap, arith, Bool, true, false, cond, Option, Some, None}
use Rattle.std.proofs.lemmas.List.{append_assoc}
use Rattle.std.proofs.Common.{drop-cons}
use Rattle.std.specs.Prelude.{filter, filter_map, not, option_to_list}
use Rattle.std.specs.List.{cons_option}
use Rattle.cs_listen.specs.Listeners.{listener, has_name, without}
use Rattle.cs_listen.specs.declared.listening.Listening.{Listening}

-- the listeners without those of a name are those without it
pub without_map : (name : List ℕ) (ls : List Listening)
    → map listener (filter (λ l. not (has_name name (listener l))) ls)
    ≡ without name (map listener ls)
without_map name [] = refl
without_map name (l ∷ ls) = more (not (has_name name (listener l))) (without_map name ls)
  where
    more : (b : Bool) → map listener (filter (λ l. not (has_name name (listener l))) ls)
        ≡ without name (map listener ls)
        → map listener (cond b (l ∷ filter (λ l. not (has_name name (listener l))) ls)
        (filter (λ l. not (has_name name (listener l))) ls))
        ≡ cond b (listener l ∷ without name (map listener ls)) (without name (map listener ls))
    more true h = ap (λ zs. listener l ∷ zs) h
    more false h = h

pub cons_of : {A : Type 0} (o : Option A) (xs : List A)
    → cons_option o xs ≡ option_to_list o ++ xs
cons_of None xs = refl
cons_of (Some x) xs = refl

next : {A : Type 0} (xs : List A) (i : ℕ) (x : A) → i < length xs → x ≡ get_or xs i x
    → drop i xs ≡ x ∷ drop (i + 1) xs
next xs i x inside is =
    let e : suc i ≡ i + 1 = omega arith in
    drop-cons xs i x inside
    ∙ (ap (λ z. z ∷ drop (suc i) xs) (sym is) ∙ ap (λ j. x ∷ drop j xs) e)

-- one more element of a list whose elements may give something
pub gathered : {A B C : Type 0} (view : A → C) (f : C → Option B) (before now : List B)
    (xs : List A) (i : ℕ) (x : A) → i < length xs → x ≡ get_or xs i x
    → now ≡ before ++ option_to_list (f (view x))
    → now ++ filter_map f (map view (drop (i + 1) xs))
    ≡ before ++ filter_map f (map view (drop i xs))
gathered view f before now xs i x inside is more =
    ap (λ ys. ys ++ filter_map f (map view (drop (i + 1) xs))) more
    ∙ (append_assoc before (option_to_list (f (view x))) (filter_map f (map view (drop (i + 1) xs)))
    ∙ (ap (λ ys. before ++ ys) (sym (cons_of (f (view x)) (filter_map f (map view (drop (i + 1) xs)))))
    ∙ ap (λ ys. before ++ filter_map f (map view ys)) (sym (next xs i x inside is))))
