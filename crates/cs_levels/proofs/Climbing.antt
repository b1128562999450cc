-- Open levels of a chain, over plain variables.
use Rattle.std.proofs.Common.{◌≡◌, List, [], ◌∷◌, ◌++◌, map, refl, sym}
use Rattle.std.proofs.Common.{ap}
use Rattle.std.proofs.Common.{◌∙◌, append_assoc, Bool, true, false, Option, Some}
use Rattle.std.specs.Prelude.{flat_map, IfOk, Result, Ok, Err}
use Rattle.std.specs.Vec.Iter.{into_iter_items}
use Rattle.std.specs.Option.{option_map_or}
use Rattle.std.proofs.lemmas.List.{append-nil}
use Rattle.cs_value.specs.Words.{as_list, list_of}
use Rattle.cs_value.specs.Tree.{Tree, null}
use Rattle.cs_parts.specs.declared.item.Item.{Item}
use Rattle.cs_meaning.specs.Joining.{flat_elements}
use Rattle.cs_parts.specs.Parts.{item}
use Rattle.cs_levels.specs.Levels.{added, results, one_by_one, level_list}
use Rattle.cs_levels.specs.Levels.{level_given, unwound, Waiting}
use Rattle.cs_levels.specs.Levels.{waiting, levels_waiting}
use Rattle.cs_levels.specs.declared.levels.Remaining.{Remaining}
use Rattle.cs_levels.specs.declared.levels.Level.{Level}

-- the innermost level
pub unwound_push : (rest : Remaining → Tree → Tree) (ls : List Level) (l : Level) (v : Tree)
    → unwound rest (ls ++ l ∷ []) v ≡ unwound rest ls (level_given rest l v)
unwound_push rest [] l v = refl
unwound_push rest (k ∷ ls) l v = ap (level_given rest k) (unwound_push rest ls l v)

pub waiting_push : (ls : List Level) (l : Level)
    → levels_waiting (ls ++ l ∷ []) ≡ waiting l.rest (map item (into_iter_items l.left)) ++
    levels_waiting ls
waiting_push [] l = sym (append-nil (waiting l.rest (map item (into_iter_items l.left))))
waiting_push (k ∷ ls) l =
    ap (λ (ws : List Waiting). ws ++ waiting k.rest (map item (into_iter_items k.left)))
    (waiting_push ls l)
    ∙ append_assoc (waiting l.rest (map item (into_iter_items l.left))) (levels_waiting ls)
    (waiting k.rest (map item (into_iter_items k.left)))

-- a value that waits
abbrev pub wait : Remaining → Tree → Waiting
wait r v = record { rest = r; value = v }

-- a level with one element fewer
results_more : (joins : Bool) (f : Tree → Tree) (x : Item) (xs : List Item) (v : Tree)
    → v ≡ item x
    → added joins (f v) ++ results joins f (map item xs) ≡ results joins f (map item (x ∷ xs))
results_more joins f x xs v is = ap
    (λ (t : Tree). added joins (f t) ++ results joins f (map item xs)) is

given_is : (rest : Remaining → Tree → Tree) (l k : Level) (x : Item) (v : Tree)
    → k.rest ≡ l.rest → k.joins ≡ l.joins → k.out.items ≡ l.out.items
    → into_iter_items l.left ≡ x ∷ into_iter_items k.left → v ≡ item x
    → level_given rest k (rest l.rest v) ≡ level_list rest l
given_is rest l k x v is-rest is-joins is-out is-left is-v =
    let f = rest l.rest in let js = into_iter_items k.left in
    ap (λ (r : Remaining). list_of
    (map item k.out.items ++ (added k.joins (f v) ++ results k.joins (rest r) (map item js))))
    is-rest
    ∙ (ap (λ (b : Bool). list_of
    (map item k.out.items ++ (added b (f v) ++ results b f (map item js)))) is-joins
    ∙ (ap (λ (os : List Item). list_of
    (map item os ++ (added l.joins (f v) ++ results l.joins f (map item js)))) is-out
    ∙ (ap (λ (ts : List Tree). list_of (map item l.out.items ++ ts))
    (results_more l.joins f x js v is-v)
    ∙ ap (λ (xs : List Item). list_of (map item l.out.items ++ results l.joins f (map item xs)))
    (sym is-left))))

pub advanced_value : (rest : Remaining → Tree → Tree) (ls : List Level) (l k : Level) (x : Item)
    (v : Tree)
    → k.rest ≡ l.rest → k.joins ≡ l.joins → k.out.items ≡ l.out.items
    → into_iter_items l.left ≡ x ∷ into_iter_items k.left → v ≡ item x
    → unwound rest (ls ++ k ∷ []) (rest l.rest v) ≡ unwound rest ls (level_list rest l)
advanced_value rest ls l k x v is-rest is-joins is-out is-left is-v =
    unwound_push rest ls k (rest l.rest v)
    ∙ ap (unwound rest ls) (given_is rest l k x v is-rest is-joins is-out is-left is-v)

pub advanced_order : (ls : List Level) (l k : Level) (x : Item) (v : Tree)
    → k.rest ≡ l.rest → into_iter_items l.left ≡ x ∷ into_iter_items k.left → v ≡ item x
    → record { rest = l.rest; value = v } ∷ levels_waiting (ls ++ k ∷ []) ≡ waiting l.rest
    (map item (into_iter_items l.left)) ++ levels_waiting ls
advanced_order ls l k x v is-rest is-left is-v =
    let js = into_iter_items k.left in
    ap (λ (ws : List Waiting). record { rest = l.rest; value = v } ∷ ws) (waiting_push ls k)
    ∙ (ap (λ (r : Remaining). record { rest = l.rest; value = v } ∷
    (waiting r (map item js) ++ levels_waiting ls)) is-rest
    ∙ (ap (λ (t : Tree). record { rest = l.rest; value = t } ∷
    (waiting l.rest (map item js) ++ levels_waiting ls)) is-v
    ∙ ap (λ (xs : List Item). waiting l.rest (map item xs) ++ levels_waiting ls) (sym is-left)))

-- a level after a result
pub given_list : (rest : Remaining → Tree → Tree) (l k : Level) (v : Tree)
    → map item k.out.items ≡ map item l.out.items ++ added l.joins v → k.rest ≡ l.rest
    → k.joins ≡ l.joins → into_iter_items k.left ≡ into_iter_items l.left
    → level_list rest k ≡ level_given rest l v
given_list rest l k v is-out is-rest is-joins is-left =
    let ts = map item (into_iter_items l.left) in
    ap (λ (os : List Tree). list_of
    (os ++ results k.joins (rest k.rest) (map item (into_iter_items k.left)))) is-out
    ∙ (ap (λ (r : Remaining). list_of
    ((map item l.out.items ++ added l.joins v) ++ results k.joins (rest r)
    (map item (into_iter_items k.left)))) is-rest
    ∙ (ap (λ (b : Bool). list_of
    ((map item l.out.items ++ added l.joins v) ++ results b (rest l.rest)
    (map item (into_iter_items k.left)))) is-joins
    ∙ (ap (λ (xs : List Item). list_of
    ((map item l.out.items ++ added l.joins v) ++ results l.joins (rest l.rest)
    (map item xs))) is-left
    ∙ ap list_of
    (append_assoc (map item l.out.items) (added l.joins v)
    (results l.joins (rest l.rest) ts)))))

pub given_waiting : (l k : Level) → k.rest ≡ l.rest
    → into_iter_items k.left ≡ into_iter_items l.left
    → waiting k.rest (map item (into_iter_items k.left)) ≡ waiting l.rest
    (map item (into_iter_items l.left))
given_waiting l k is-rest is-left = ap
    (λ (r : Remaining). waiting r (map item (into_iter_items k.left))) is-rest
    ∙ ap (λ (xs : List Item). waiting l.rest (map item xs)) is-left

-- what comes of a level that is taken off and given a result
pub popped_value : (rest : Remaining → Tree → Tree) (ls os : List Level) (l k : Level) (v : Tree)
    → os ≡ ls ++ l ∷ [] → map item k.out.items ≡ map item l.out.items ++ added l.joins v
    → k.rest ≡ l.rest → k.joins ≡ l.joins → into_iter_items k.left ≡ into_iter_items l.left
    → unwound rest ls (level_list rest k) ≡ unwound rest os v
popped_value rest ls os l k v is is-out is-rest is-joins is-left =
    ap (unwound rest ls) (given_list rest l k v is-out is-rest is-joins is-left)
    ∙ (sym (unwound_push rest ls l v) ∙ ap (λ (xs : List Level). unwound rest xs v) (sym is))

pub popped_order : (ls os : List Level) (l k : Level) → os ≡ ls ++ l ∷ [] → k.rest ≡ l.rest
    → into_iter_items k.left ≡ into_iter_items l.left
    → waiting k.rest (map item (into_iter_items k.left)) ++ levels_waiting ls ≡ levels_waiting os
popped_order ls os l k is is-rest is-left =
    ap (λ (ws : List Waiting). ws ++ levels_waiting ls) (given_waiting l k is-rest is-left)
    ∙ (sym (waiting_push ls l) ∙ ap levels_waiting (sym is))

-- the lists that levels give
mapped_results : (f : Tree → Tree) (ts : List Tree) → results false f ts ≡ map f ts
mapped_results f [] = refl
mapped_results f (t ∷ ts) = ap (λ (us : List Tree). f t ∷ us) (mapped_results f ts)

joined_results : (f : Tree → Tree) (ts : List Tree)
    → results true f ts ≡ flat_map flat_elements (map f ts)
joined_results f [] = refl
joined_results f (t ∷ ts) = ap (λ (us : List Tree). flat_elements (f t) ++ us) (joined_results f ts)

pub opened_value : (joins : Bool) (f : Tree → Tree) (v : Tree) (ts : List Tree)
    → as_list v ≡ Some ts → list_of (results joins f ts) ≡ one_by_one joins f v
opened_value true f v ts h = ap list_of (joined_results f ts)
    ∙ sym (ap
    (λ (o : Option (List Tree)). option_map_or (λ us. list_of (flat_map flat_elements (map f us))) o
    null) h)
opened_value false f v ts h = ap list_of (mapped_results f ts)
    ∙ sym (ap (λ (o : Option (List Tree)). option_map_or (λ us. list_of (map f us)) o null) h)

pub ok_then : {A E : Type 0} (r : Result A E) {P Q : A → Type 0} → ((x : A) → P x → Q x)
    → IfOk r P → IfOk r Q
ok_then (Ok x) f h = f x h
ok_then (Err e) f h = tt

-- a list that is opened
pub opened_list : (rest : Remaining → Tree → Tree) (l : Level) (v : Tree) (ts : List Tree)
    → l.out.items ≡ [] → map item (into_iter_items l.left) ≡ ts → as_list v ≡ Some ts
    → level_list rest l ≡ one_by_one l.joins (rest l.rest) v
opened_list rest l v ts no-out is-left is =
    ap (λ (os : List Item). list_of
    (map item os ++ results l.joins (rest l.rest) (map item (into_iter_items l.left)))) no-out
    ∙ (ap (λ (us : List Tree). list_of (results l.joins (rest l.rest) us)) is-left
    ∙ opened_value l.joins (rest l.rest) v ts is)
