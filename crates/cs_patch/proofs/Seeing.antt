-- What the definitions make of targets, and what the code makes of what it sees of them.
use Rattle.std.proofs.Common.{◌≡◌, ℕ, List, [], ◌∷◌, ◌||◌, Bool, true, false, not, cond, Option, Some, None, map, filter, refl, sym, ap, ◌∙◌, Result}
use Rattle.std.specs.List.{list_any}
use Rattle.cs_value.specs.Tree.{Tree, null, boolean, integer, text, list, object}
use Rattle.cs_jsonmatch.specs.Path.{Step, Path}
use Rattle.cs_jsonmatch.specs.Verdict.{PathReading, spelled, bad_path}
use Rattle.cs_jsonmatch.specs.Places.{Location, places}
use Rattle.cs_alter.specs.Within.{changed, removed, is_inside, recount}
use Rattle.cs_alter.specs.Inserted.{Side, insert_into}
use Rattle.cs_patch.specs.Readings.{places_at}
use Rattle.cs_targets.specs.Targets.{Target, location, if_some, targets_from, outermost}
use Rattle.cs_patch.specs.Operations.{Refusal, refused, bounded, each, first_refusal, or_else, fixed_at, number_refusal, list_refusal, number_check, list_check, insert_at_parents, count_by, fixed_check, unset_by, by_reading}
use Rattle.cs_alter.specs.Alterations.{counted}
use Rattle.cs_targets.specs.Seen.{Seen, seen_of, value_of, outer_seen, each_seen}
use Rattle.cs_patch.specs.Asked.{number_of, list_at, check_of, first_seen}
use Rattle.cs_patch.specs.Outcomes.{outcome_of, removal, Answers}
use Rattle.cs_alter.specs.declared.alteration.Change.{Change}
use Rattle.cs_patch.specs.declared.refusal.Ask.TheVariants as ask
use Rattle.cs_patch.specs.declared.stop.Stop.{Stop}

pub each_same : (f : Seen → Tree → Tree) (ts : List Target) (v : Tree) → each (λ t. f (seen_of t)) ts v ≡ each_seen f (map seen_of ts) v
each_same f [] v = refl
each_same f (t ∷ ts) v = ap (f (seen_of t)) (each_same f ts v)

pub first_same : (check : Target → Option Refusal) (asked : Seen → Option Refusal) → ((t : Target) → check t ≡ asked (seen_of t)) → (ts : List Target) → first_refusal check ts ≡ first_seen asked (map seen_of ts)
first_same check asked same [] = refl
first_same check asked same (t ∷ ts) = ap (λ r. if_some Some r (check t)) (first_same check asked same ts) ∙ ap (if_some Some (first_seen asked (map seen_of ts))) (same t)

any_same : (l : Location) (ts : List Target) → list_any (λ u. is_inside l (location u)) ts ≡ list_any (λ y. is_inside l y.location) (map seen_of ts)
any_same l [] = refl
any_same l (t ∷ ts) = ap (λ b. is_inside l (location t) || b) (any_same l ts)

map_cond : (b : Bool) (t : Target) (ts : List Target) → map seen_of (cond b (t ∷ ts) ts) ≡ cond b (seen_of t ∷ map seen_of ts) (map seen_of ts)
map_cond true t ts = refl
map_cond false t ts = refl

filter_same : (all ts : List Target) → map seen_of (filter (λ t. not (list_any (λ u. is_inside (location t) (location u)) all)) ts) ≡ filter (λ x. not (list_any (λ y. is_inside x.location y.location) (map seen_of all))) (map seen_of ts)
filter_same all [] = refl
filter_same all (t ∷ ts) =
    map_cond (not (list_any (λ u. is_inside (location t) (location u)) all)) t (filter (λ t. not (list_any (λ u. is_inside (location t) (location u)) all)) ts)
    ∙ ap (λ b. cond (not b) (seen_of t ∷ map seen_of (filter (λ t. not (list_any (λ u. is_inside (location t) (location u)) all)) ts)) (map seen_of (filter (λ t. not (list_any (λ u. is_inside (location t) (location u)) all)) ts))) (any_same (location t) all)
    ∙ ap (λ xs. cond (not (list_any (λ y. is_inside (location t) y.location) (map seen_of all))) (seen_of t ∷ xs) xs) (filter_same all ts)

pub outer_same : (ts : List Target) → map seen_of (outermost ts) ≡ outer_seen (map seen_of ts)
outer_same ts = filter_same ts ts

number_same : (path : List ℕ) (c : Change) (o : Option Tree) → number_refusal path (counted c) o ≡ number_of path c (value_of o)
number_same path c None = refl
number_same path c (Some null) = refl
number_same path c (Some (boolean b)) = refl
number_same path c (Some (integer n)) = refl
number_same path c (Some (text s)) = refl
number_same path c (Some (list ts)) = refl
number_same path c (Some (object ps)) = refl

count_same : (t : List ℕ) (c : Change) (p : Path) (v : Tree)
    → count_by (counted c) t p v
    ≡ outcome_of t (ask.Number c) (recount (counted c)) (outer_seen (map seen_of (targets_from v [] (places p v)))) v
count_same t c p v =
    let ts = outermost (targets_from v [] (places p v)) in
    ap (λ w. if_some refused (bounded w) (first_refusal (number_check t (counted c)) ts)) (each_same (λ x. changed x.place (recount (counted c))) ts v)
    ∙ ap (if_some refused (bounded (each_seen (λ x. changed x.place (recount (counted c))) (map seen_of ts) v)))
    (first_same (number_check t (counted c)) (check_of (ask.Number c) t) (λ u. ap (or_else (fixed_at (location u))) (number_same t c u.value)) ts)
    ∙ ap (λ xs. outcome_of t (ask.Number c) (recount (counted c)) xs v) (outer_same (targets_from v [] (places p v)))

pub some_same : {A : Type 0} (a b : A) → Some a ≡ Some b → a ≡ b
some_same a b h = cc

pub count_answers : (t : List ℕ) (c : Change) (q : PathReading) (v new : Tree) (r : Result (Unit {0}) Stop) (ls : List Location)
    → places_at q v ≡ Some ls
    → Answers t r new (outcome_of t (ask.Number c) (recount (counted c)) (outer_seen (map seen_of (targets_from v [] ls))) v)
    → Answers t r new (by_reading t (count_by (counted c) t) q v)
count_answers t c (bad_path at) v new r ls read h = absurd cc
count_answers t c (spelled p) v new r ls read h =
    let whole : outcome_of t (ask.Number c) (recount (counted c)) (outer_seen (map seen_of (targets_from v [] ls))) v ≡ count_by (counted c) t p v =
    ap (λ ks. outcome_of t (ask.Number c) (recount (counted c)) (outer_seen (map seen_of (targets_from v [] ks))) v) (sym (some_same (places p v) ls read))
    ∙ sym (count_same t c p v) in
    rw (← whole) h

unset_same : (t : List ℕ) (p : Path) (v : Tree) → unset_by p v ≡ removal t (outer_seen (map seen_of (targets_from v [] (places p v)))) v
unset_same t p v =
    let ts = outermost (targets_from v [] (places p v)) in
    ap (λ w. if_some refused (bounded w) (first_refusal fixed_check ts)) (each_same (λ x. removed x.place) ts v)
    ∙ ap (if_some refused (bounded (each_seen (λ x. removed x.place) (map seen_of ts) v))) (first_same fixed_check (check_of ask.Free t) (λ u. refl) ts)
    ∙ ap (λ xs. removal t xs v) (outer_same (targets_from v [] (places p v)))

pub unset_answers : (t : List ℕ) (q : PathReading) (v new : Tree) (r : Result (Unit {0}) Stop) (ls : List Location)
    → places_at q v ≡ Some ls
    → Answers t r new (removal t (outer_seen (map seen_of (targets_from v [] ls))) v) → Answers t r new (by_reading t unset_by q v)
unset_answers t (bad_path at) v new r ls read h = absurd cc
unset_answers t (spelled p) v new r ls read h =
    let whole : removal t (outer_seen (map seen_of (targets_from v [] ls))) v ≡ unset_by p v =
    ap (λ ks. removal t (outer_seen (map seen_of (targets_from v [] ks))) v) (sym (some_same (places p v) ls read))
    ∙ sym (unset_same t p v) in
    rw (← whole) h

list_same : (path : List ℕ) (o : Option Tree) → list_refusal path o ≡ list_at path (value_of o)
list_same path None = refl
list_same path (Some null) = refl
list_same path (Some (boolean b)) = refl
list_same path (Some (integer n)) = refl
list_same path (Some (text s)) = refl
list_same path (Some (list ts)) = refl
list_same path (Some (object ps)) = refl

insert_same : (side : Side) (items : List Tree) (t : List ℕ) (s : Step) (p : Path) (v : Tree)
    → insert_at_parents side items t s p v
    ≡ outcome_of t ask.List (insert_into side s items) (outer_seen (map seen_of (targets_from v [] (places p v)))) v
insert_same side items t s p v =
    let f = insert_into side s items in
    let ts = outermost (targets_from v [] (places p v)) in
    ap (λ w. if_some refused (bounded w) (first_refusal (list_check t) ts)) (each_same (λ x. changed x.place f) ts v)
    ∙ ap (if_some refused (bounded (each_seen (λ x. changed x.place f) (map seen_of ts) v)))
    (first_same (list_check t) (check_of ask.List t) (λ u. ap (or_else (fixed_at (location u))) (list_same t u.value)) ts)
    ∙ ap (λ xs. outcome_of t ask.List f xs v) (outer_same (targets_from v [] (places p v)))

-- two functions that agree everywhere are one
pub alike : (f g : Tree → Tree) → ((t : Tree) → f t ≡ g t) → f ≡ g
alike f g h = λ i t. h t i

pub insert_answers : (t : List ℕ) (side : Side) (items : List Tree) (s : Step) (p : Path) (v new : Tree) (r : Result (Unit {0}) Stop) (ls : List Location) (g : Tree → Tree)
    → g ≡ insert_into side s items → ls ≡ places p v
    → Answers t r new (outcome_of t ask.List g (outer_seen (map seen_of (targets_from v [] ls))) v)
    → Answers t r new (insert_at_parents side items t s p v)
insert_answers t side items s p v new r ls g same is h =
    let whole : outcome_of t ask.List g (outer_seen (map seen_of (targets_from v [] ls))) v ≡ insert_at_parents side items t s p v =
    ap (λ f. outcome_of t ask.List f (outer_seen (map seen_of (targets_from v [] ls))) v) same
    ∙ ap (λ ks. outcome_of t ask.List (insert_into side s items) (outer_seen (map seen_of (targets_from v [] ks))) v) is
    ∙ sym (insert_same side items t s p v) in
    rw (← whole) h
