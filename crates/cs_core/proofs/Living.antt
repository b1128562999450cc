-- The names of live queries and listeners.
use Rattle.std.proofs.Common.{◌≡◌, refl, sym, ap, ◌∙◌, ℕ, List, [], ◌∷◌, ◌++◌, length, Bool, true, false, cond, ◌||◌}
use Rattle.std.specs.Bool.{nat_le}
use Rattle.std.proofs.lemmas.Bool.{lt-leb}
use Rattle.std.proofs.lemmas.Slice.Eq.{bytes_eq-Decides}
use Rattle.cs_view.proofs.Booleans.{or-left, or-right}
use Rattle.cs_live.specs.Fits.{HasRoom}
use Rattle.cs_live.specs.Lives.{LiveQuery, has_live_name, is_named, made, without_name}
use Rattle.cs_value.specs.Tree.{Pairs}
use Rattle.cs_syntax.specs.Expression.{Expression}
use Rattle.cs_interest.specs.Limits.{most_subscriptions}
use Rattle.cs_reply.specs.Refusal.{full_subscriptions, name_used}
use Rattle.cs_machine.specs.Fold.{Stepped}
use Rattle.cs_machine.specs.Refused.{refuse}
use Rattle.cs_machine.specs.Rows.{subscribing}
use Rattle.cs_machine.specs.State.{State, is_taken, with_lives}
use Rattle.cs_core.specs.Core.{with_one_live}
use Rattle.cs_listen.specs.Events.{Listener}
use Rattle.cs_listen.specs.Listeners.{has_name, is_listening, without}

-- where none has the name, none goes
pub none_goes : (name : List ℕ) (es : List LiveQuery) → is_named name es ≡ false
    → without_name name es ≡ es
none_goes name [] h = refl
none_goes name (e ∷ es) h =
    rw (or-left (has_live_name name e) _ h)
    (ap (λ l. e ∷ l) (none_goes name es (or-right (has_live_name name e) _ h)))

-- the last goes, where it alone has the name
pub last_goes : (name : List ℕ) (es : List LiveQuery) (e : LiveQuery) → is_named name es ≡ false
    → has_live_name name e ≡ true
    → without_name name (es ++ e ∷ []) ≡ es
last_goes name [] e h has = rw has refl
last_goes name (x ∷ xs) e h has =
    rw (or-left (has_live_name name x) _ h)
    (ap (λ l. x ∷ l) (last_goes name xs e (or-right (has_live_name name x) _ h) has))

-- where no listener has the name, none goes
pub none_leaves : (name : List ℕ) (ls : List Listener) → is_listening name ls ≡ false
    → without name ls ≡ ls
none_leaves name [] h = refl
none_leaves name (l ∷ ls) h =
    rw (or-left (has_name name l) _ h)
    (ap (λ x. l ∷ x) (none_leaves name ls (or-right (has_name name l) _ h)))

or-true : (b : Bool) → b || true ≡ true
or-true true = refl
or-true false = refl

-- where a listener has the name, none other is made
pub taken_by_listener : (s : State) (name text : List ℕ) (count : ℕ) (next : Stepped State)
    → text ≡ name
    → is_listening text s.listeners ≡ true
    → subscribing s name count next ≡ refuse s (name_used text)
taken_by_listener s name text count next same has =
    let taken : is_taken text s ≡ true =
    ap (λ b. is_named text s.lives || b) has ∙ or-true (is_named text s.lives) in
    ap (λ n. subscribing s n count next) (sym same) ∙ rw taken refl

-- where none has the name and there is room, one more is made
pub made_with_room : (s : State) (name text : List ℕ) (next : Stepped State)
    → text ≡ name
    → is_listening text s.listeners ≡ false
    → HasRoom name s.lives
    → subscribing s name (length s.lives) next ≡ next
made_with_room s name text next same none room =
    let full = refuse s (full_subscriptions most_subscriptions) in
    let free : is_taken name s ≡ false =
    ap (λ b. b || is_listening name s.listeners) room.0
    ∙ ap (λ n. is_listening n s.listeners) (sym same) ∙ none in
    ap (λ b. cond b (refuse s (name_used name))
    (cond (nat_le most_subscriptions (length s.lives)) full next)) free
    ∙ ap (λ b. cond b full next) (lt-leb most_subscriptions (length s.lives) room.1)

-- a live query that was made last is taken back
pub taken_back : (s t : State) (name text : List ℕ) (q : Expression) (params : Pairs)
    → t ≡ with_one_live (made s.docs name q params) s
    → HasRoom name s.lives
    → text ≡ name
    → with_lives (without_name text t.lives) t ≡ s
taken_back s t name text q params is room same =
    ap (λ (x : State). with_lives (without_name text x.lives) x) is
    ∙ ap (λ n. with_lives (without_name n (s.lives ++ made s.docs name q params ∷ [])) s) same
    ∙ ap (λ l. with_lives l s)
    (last_goes name s.lives (made s.docs name q params) room.0 ((bytes_eq-Decides name name).1 refl))
