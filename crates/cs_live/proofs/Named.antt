-- Where the entry of a name stands.
use Rattle.std.proofs.Common.{◌≡◌, ℕ, zero, suc, ◌<◌, List, [], ◌∷◌, length, take, drop, map, get_or, true, false, None, refl, ap, arith}
use Rattle.std.specs.List.{remove, All}
use Rattle.std.proofs.lemmas.List.Elements.{All-take, All-drop, All-append}
use Rattle.cs_value.specs.Tree.{Tree}
use Rattle.cs_live.specs.Lives.{has_live_name, is_named, without_name, answer_of}
use Rattle.cs_live.specs.Entries.{live_query, IsAt}
use Rattle.cs_live.specs.Fits.{FitsOne}
use Rattle.cs_live.specs.declared.entry.Entry.{Entry}
use Rattle.cs_view.proofs.Booleans.{or-left, or-right}

-- none of the first entries has the name
pub not_named : (name : List ℕ) (es : List Entry) (i : ℕ) (d : Entry) → i < length es → is_named name (map live_query (take i es)) ≡ false → has_live_name name (live_query (get_or es i d)) ≡ false → is_named name (map live_query (take (suc i) es)) ≡ false
not_named name [] i d low h free = absurd (omega arith)
not_named name (e ∷ es) zero d low h free = rw free refl
not_named name (e ∷ es) (suc i) d low h free =
    let first = or-left (has_live_name name (live_query e)) _ h in
    let rest = not_named name es i d (omega arith) (or-right (has_live_name name (live_query e)) _ h) free in
    rw (first, rest) refl

pub found_at : (name : List ℕ) (es : List Entry) (i : ℕ) (d : Entry) → i < length es → is_named name (map live_query (take i es)) ≡ false → has_live_name name (live_query (get_or es i d)) ≡ true → IsAt name es i
found_at name [] i d low h taken = absurd (omega arith)
found_at name (e ∷ es) zero d low h taken = record { within = low; named = rw taken refl; left = rw taken refl; answer = λ o. rw taken refl }
found_at name (e ∷ es) (suc i) d low h taken =
    let first = or-left (has_live_name name (live_query e)) _ h in
    let rest = found_at name es i d (omega arith) (or-right (has_live_name name (live_query e)) _ h) taken in
    record { within = low; named = rw (first, rest.named) refl; left = rw first (ap (λ l. live_query e ∷ l) rest.left); answer = λ o. rw first (rest.answer o) }

-- where none has the name, none is removed
pub none_left : (name : List ℕ) (es : List Entry) → is_named name (map live_query es) ≡ false → map live_query es ≡ without_name name (map live_query es)
none_left name [] h = refl
none_left name (e ∷ es) h = rw (or-left (has_live_name name (live_query e)) _ h) (ap (λ l. live_query e ∷ l) (none_left name es (or-right (has_live_name name (live_query e)) _ h)))

pub none_answers : (name : List ℕ) (es : List Entry) → is_named name (map live_query es) ≡ false → None ≡ answer_of name (map live_query es)
none_answers name [] h = refl
none_answers name (e ∷ es) h = rw (or-left (has_live_name name (live_query e)) _ h) (none_answers name es (or-right (has_live_name name (live_query e)) _ h))

pub fits_left : (docs : List Tree) (es : List Entry) (i : ℕ) → All (FitsOne docs) es → All (FitsOne docs) (remove es i)
fits_left docs es i h = All-append (FitsOne docs) (take i es) (drop (suc i) es) (All-take (FitsOne docs) i es h) (All-drop (FitsOne docs) (suc i) es h)
