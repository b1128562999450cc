-- What an accepted transaction has written.
use Rattle.std.proofs.Common.{◌≡◌, refl, ap, ◌∙◌, sym, arith, ◌<◌, ℕ, List, [], ◌∷◌, ◌++◌, length, map, suc, ◌+◌, ◌≤◌, get_or, drop, drop-cons}
use Rattle.std.proofs.lemmas.List.{append_assoc, append-nil, drop_all, drop_more, get_or-map, length-map}
use Rattle.cs_value.specs.Tree.{Tree, null}
use Rattle.cs_view.specs.Changes.{Edit}
use Rattle.cs_gen.specs.declared.tally.Tally.{Tally}
use Rattle.cs_live.specs.Entries.{said}
use Rattle.cs_live.specs.Lives.{Said, news, worded}
use Rattle.cs_live.specs.declared.entry.LiveLine.{LiveLine}
use Rattle.cs_reply.specs.Reply as plain
use Rattle.cs_reply.specs.View.{Appended}
use Rattle.cs_listen.specs.Events.{events}
use Rattle.cs_machine.specs.Rows.{outcome, installed, live_reply}
use Rattle.cs_machine.specs.State.{State}
use Rattle.cs_state.specs.State.{state, IsUsable}
use Rattle.cs_state.specs.Does.{Does, IsTallyOf, heard_lines, lines_of, live_lines}
use Rattle.cs_state.specs.declared.state.State.{State as Held}
use Rattle.cs_state.proofs.Tallies.{tally_of}

next : {A : Type 0} (xs : List A) (i : ℕ) (x : A) → i < length xs → x ≡ get_or xs i x
    → drop i xs ≡ x ∷ drop (i + 1) xs
next xs i x inside is =
    let e : suc i ≡ i + 1 = omega arith in
    drop-cons xs i x inside
    ∙ (ap (λ z. z ∷ drop (suc i) xs) (sym is) ∙ ap (λ j. x ∷ drop j xs) e)

-- one reply more was written
pub told_one : {A B : Type 0} (seen : A → B) (reply : B → plain.Reply) (n : ℕ)
    (before now : List ℕ) (xs : List A) (i : ℕ) (x : A)
    → i < length xs
    → x ≡ get_or xs i x
    → Appended before now (plain.reply_tree n (reply (seen x)))
    → now ++ lines_of n (map reply (map seen (drop (i + 1) xs)))
    ≡ before ++ lines_of n (map reply (map seen (drop i xs)))
told_one seen reply n before now xs i x inside is more =
    let rest = lines_of n (map reply (map seen (drop (i + 1) xs))) in
    let line = plain.written_line (plain.reply_tree n (reply (seen x))) in
    ap (λ v. v ++ rest) more
    ∙ (append_assoc before line rest
    ∙ ap (λ v. before ++ lines_of n (map reply (map seen v))) (sym (next xs i x inside is)))

-- the answer of one live query more was written
pub told_more : (n : ℕ) (before now : List ℕ) (answers : List LiveLine) (told : List Said)
    (i : ℕ) (x : LiveLine)
    → i < length answers
    → map said answers ≡ map worded told
    → x ≡ get_or answers i x
    → ((s : Said) → said x ≡ worded s → Appended before now (plain.reply_tree n (live_reply s)))
    → now ++ live_lines n (drop (i + 1) told) ≡ before ++ live_lines n (drop i told)
told_more n before now answers told i x inside are is more =
    let none : Said = ([], null) in
    let one = get_or told i none in
    let long : length answers ≡ length told
    = sym (length-map answers said) ∙ ap length are ∙ length-map told worded in
    let there : i < length told = omega (arith, inside, long) in
    let seen : said x ≡ worded one
    = ap said is ∙ sym (get_or-map said answers i x (said x) inside)
    ∙ ap (λ l. get_or l i (said x)) are ∙ get_or-map worded told i none (said x) there in
    let rest = live_lines n (drop (i + 1) told) in
    let line = plain.written_line (plain.reply_tree n (live_reply one)) in
    ap (λ v. v ++ rest) (more one seen)
    ∙ (append_assoc before line rest
    ∙ ap (λ v. before ++ live_lines n v) (sym (drop_more told i none there)))

-- all were written
pub all_told : (n : ℕ) (out : List ℕ) (answers : List LiveLine) (told : List Said) (i : ℕ)
    → length answers ≤ i
    → map said answers ≡ map worded told
    → out ++ live_lines n (drop i told) ≡ out
all_told n out answers told i past are =
    let long : length answers ≡ length told
    = sym (length-map answers said) ∙ ap length are ∙ length-map told worded in
    ap (λ v. out ++ live_lines n v) (drop_all i told (omega (arith, past, long))) ∙ append-nil out

-- there are as many of them as there is to tell
pub told_many : (answers : List LiveLine) (told : List Said)
    → map said answers ≡ map worded told → length told ≡ length answers
told_many answers told are =
    sym (length-map told worded) ∙ ap length (sym are) ∙ length-map answers said

lines-append : (n : ℕ) (rs qs : List plain.Reply)
    → lines_of n (rs ++ qs) ≡ lines_of n rs ++ lines_of n qs
lines-append n [] qs = refl
lines-append n (r ∷ rs) qs =
    let line = plain.written_line (plain.reply_tree n r) in
    ap (λ v. line ++ v) (lines-append n rs qs)
    ∙ sym (append_assoc line (lines_of n rs) (lines_of n qs))

-- what an accepted transaction says and leaves
pub says_installed : (before mid told written : List ℕ) (tally : Tally) (held : Held) (s : State)
    (n : ℕ) (tx : List ℕ) (after : List Tree) (cs : List Edit)
    → state held ≡ (installed s tx after cs).state
    → IsUsable held
    → Appended before mid (plain.reply_tree n (plain.committed tx (map outcome cs)))
    → told ≡ mid ++ heard_lines n (events tx s.moment cs s.listeners)
    → written ≡ told ++ live_lines n (news after s.lives)
    → IsTallyOf tally (length (events tx s.moment cs s.listeners)) (length (news after s.lives))
    → Does before written tally held n (installed s tx after cs)
says_installed before mid told written tally held s n tx after cs is usable h g k t =
    let es = events tx s.moment cs s.listeners in
    let ns = news after s.lives in
    let line = plain.written_line (plain.reply_tree n (plain.committed tx (map outcome cs))) in
    let heard = heard_lines n es in
    let answers = live_lines n ns in
    record {
      written = k ∙ ap (λ v. v ++ answers) (g ∙ ap (λ v. v ++ heard) h)
          ∙ append_assoc (before ++ line) heard answers
          ∙ append_assoc before line (heard ++ answers)
          ∙ ap (λ v. before ++ (line ++ v))
          (sym (lines-append n (map plain.event es) (map live_reply ns)));
      tallied = tally_of tally tx (map outcome cs) es ns t;
      state_is = is;
      usable = usable;
    }
