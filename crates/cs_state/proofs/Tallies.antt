-- How many replies a line has, by their kinds.
use Rattle.std.proofs.Common.{◌≡◌, refl, sym, ap, subst, arith, ℕ, suc, ◌+◌, List, [], ◌∷◌, ◌++◌, map, length, Bool, true, false, cond}
use Rattle.std.specs.Prelude.{count_by}
use Rattle.std.proofs.lemmas.List.{length-append}
use Rattle.std.proofs.lemmas.List.Sums.{sum_by-cons}
use Rattle.cs_gen.specs.Summary.{is_event, is_live, is_refusal}
use Rattle.cs_gen.specs.Tally.{IsTally}
use Rattle.cs_gen.specs.declared.tally.Tally.{Tally}
use Rattle.cs_live.specs.Lives.{Said}
use Rattle.cs_reply.specs.Reply.{Reply, Event, Operation, committed, event}
use Rattle.cs_machine.specs.Expected.{counted}
use Rattle.cs_machine.specs.Replies.{said}
use Rattle.cs_machine.specs.Rows.{live_reply}
use Rattle.cs_state.specs.Does.{IsTallyOf}

abbrev counts : Bool → ℕ
counts b = cond b 1 0

count-cons : (p : Reply → Bool) (r : Reply) (rs : List Reply)
    → count_by p (r ∷ rs) ≡ counts (p r) + count_by p rs
count-cons p r rs = sum_by-cons (λ x. cond (p x) 1 0) r rs

count-append : (p : Reply → Bool) (rs qs : List Reply)
    → count_by p (rs ++ qs) ≡ count_by p rs + count_by p qs
count-append p [] qs = let none : count_by p [] ≡ 0 = refl in omega (arith, none)
count-append p (r ∷ rs) qs =
    let here = count-cons p r (rs ++ qs) in
    let there = count-cons p r rs in
    let rest = count-append p rs qs in
    omega (arith, here, there, rest)

-- none of the replies is of the kind
count_none : {A : Type 0} (p : Reply → Bool) (f : A → Reply) (xs : List A)
    → ((x : A) → p (f x) ≡ false)
    → count_by p (map f xs) ≡ 0
count_none p f [] none = refl
count_none p f (x ∷ xs) none =
    let here : count_by p (map f (x ∷ xs)) ≡ counts (p (f x)) + count_by p (map f xs) =
    count-cons p (f x) (map f xs) in
    let one : counts (p (f x)) ≡ 0 = ap counts (none x) in
    let rest = count_none p f xs none in
    omega (arith, here, one, rest)

-- all of them are
count_all : {A : Type 0} (p : Reply → Bool) (f : A → Reply) (xs : List A)
    → ((x : A) → p (f x) ≡ true)
    → count_by p (map f xs) ≡ length xs
count_all p f [] all = refl
count_all p f (x ∷ xs) all =
    let here : count_by p (map f (x ∷ xs)) ≡ counts (p (f x)) + count_by p (map f xs) =
    count-cons p (f x) (map f xs) in
    let one : counts (p (f x)) ≡ 1 = ap counts (all x) in
    let rest = count_all p f xs all in
    omega (arith, here, one, rest)

-- events and answers behind a reply of another kind
count_told : (p : Reply → Bool) (first : Reply) (es : List Event) (ns : List Said)
    → p first ≡ false
    → count_by p (first ∷ (map event es ++ map live_reply ns))
    ≡ count_by p (map event es) + count_by p (map live_reply ns)
count_told p first es ns other =
    let here = count-cons p first (map event es ++ map live_reply ns) in
    let one : counts (p first) ≡ 0 = ap counts other in
    let rest = count-append p (map event es) (map live_reply ns) in
    omega (arith, here, one, rest)

length_map : {A : Type 0} (f : A → Reply) (xs : List A) → length (map f xs) ≡ length xs
length_map f [] = refl
length_map f (x ∷ xs) = ap suc (length_map f xs)

counted-said : (rs : List Reply) → map counted (map said rs) ≡ rs
counted-said [] = refl
counted-said (r ∷ rs) = ap (λ qs. r ∷ qs) (counted-said rs)

tally_told : (t : Tally) (tx : List ℕ) (os : List (List ℕ × Operation)) (es : List Event)
    (ns : List Said)
    → IsTallyOf t (length es) (length ns)
    → IsTally t (committed tx os ∷ (map event es ++ map live_reply ns))
tally_told t tx os es ns h =
    let first = committed tx os in
    let long = length-append (map event es) (map live_reply ns) in
    let some : length (map event es) ≡ length es = length_map event es in
    let others : length (map live_reply ns) ≡ length ns = length_map live_reply ns in
    let heard = count_told is_event first es ns refl in
    let heard_all = count_all is_event event es (λ e. refl) in
    let heard_none = count_none is_event live_reply ns (λ n. refl) in
    let answered = count_told is_live first es ns refl in
    let answered_none = count_none is_live event es (λ e. refl) in
    let answered_all = count_all is_live live_reply ns (λ n. refl) in
    let refused = count_told is_refusal first es ns refl in
    let refused_none = count_none is_refusal event es (λ e. refl) in
    let refused_no_more = count_none is_refusal live_reply ns (λ n. refl) in
    let replies = h.replies in
    let events = h.events_are in
    let answers = h.answers_are in
    let none = h.none in
    record {
      replies = omega (arith, replies, long, some, others);
      events = omega (arith, events, heard, heard_all, heard_none);
      live = omega (arith, answers, answered, answered_none, answered_all);
      refused = omega (arith, none, refused, refused_none, refused_no_more);
    }

-- the tally of an accepted transaction's replies
pub tally_of : (t : Tally) (tx : List ℕ) (os : List (List ℕ × Operation)) (es : List Event)
    (ns : List Said)
    → IsTallyOf t (length es) (length ns)
    → IsTally t (map counted (map said (committed tx os ∷ (map event es ++ map live_reply ns))))
tally_of t tx os es ns h =
    subst (λ rs. IsTally t rs)
    (sym (counted-said (committed tx os ∷ (map event es ++ map live_reply ns))))
    (tally_told t tx os es ns h)
