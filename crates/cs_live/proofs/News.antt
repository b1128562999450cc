-- The lines of a commit, entry by entry.
use Rattle.std.proofs.Common.{◌≡◌, ℕ, List, [], ◌∷◌, ◌++◌, Bool, true, false, cond, refl, sym, ap, ◌∙◌, ◌<◌, ◌+◌, set, get_or, take_all, subst, arith, append_assoc, append-nil}
use Rattle.std.specs.Prelude.{map, length, take, drop, ◌≤◌}
use Rattle.std.specs.List.{All, AllZip}
use Rattle.std.proofs.lemmas.List.Elements.{All-nil, All-cons, All-push, AllZip-push, All-get_or}
use Rattle.std.proofs.lemmas.List.{map-append, take_more, take_more_set, drop_more}
use Rattle.std.proofs.lemmas.Grind.{common_steps}
use Rattle.cs_value.specs.Tree.{Tree}
use Rattle.cs_view.specs.Changes.{Edit}
use Rattle.cs_live.specs.Lives.{LiveQuery, Worded, worded, say, refreshed, all_refreshed, is_stale, news, news_of}
use Rattle.cs_live.specs.Entries.{live_query}
use Rattle.cs_kept.specs.Fits.{KeepsRecord, IsQuiet}
use Rattle.cs_live.specs.Fits.{FitsOne, Refreshes}
use Rattle.cs_live.specs.declared.entry.Entry.{Entry}

stale-first : (docs : List Tree) (e : LiveQuery) (es : List LiveQuery) (b : Bool) → is_stale docs e ≡ b → news docs (e ∷ es) ≡ cond b (say (refreshed docs e) ∷ []) [] ++ news docs es
stale-first docs e es true h = rw h refl
stale-first docs e es false h = rw h refl

news-first : (docs : List Tree) (e : LiveQuery) (es : List LiveQuery) → news docs (e ∷ es) ≡ news_of docs e ++ news docs es
news-first docs e es = stale-first docs e es (is_stale docs e) refl

pub news-more : (docs : List Tree) (es : List LiveQuery) (e : LiveQuery) → news docs (es ++ e ∷ []) ≡ news docs es ++ news_of docs e
news-more docs [] e = news-first docs e [] ∙ append-nil (news_of docs e)
news-more docs (x ∷ xs) e = news-first docs x (xs ++ e ∷ []) ∙ ap (λ l. news_of docs x ++ l) (news-more docs xs e) ∙ sym (append_assoc (news_of docs x) (news docs xs) (news_of docs e)) ∙ ap (λ l. l ++ news_of docs e) (sym (news-first docs x xs))

-- what holds of refreshed lists
pub refreshed-lives : (docs : List Tree) (cs : List Edit) (old new : List Entry) → AllZip (Refreshes docs cs) old new → map live_query new ≡ all_refreshed docs (map live_query old)
refreshed-lives docs cs [] [] h = refl
refreshed-lives docs cs [] (y ∷ ys) h = absurd h
refreshed-lives docs cs (x ∷ xs) [] h = absurd h
refreshed-lives docs cs (x ∷ xs) (y ∷ ys) h = λ i. h.0.live i ∷ refreshed-lives docs cs xs ys h.1 i

pub refreshed-fits : (docs : List Tree) (cs : List Edit) (old new : List Entry) → AllZip (Refreshes docs cs) old new → All (FitsOne docs) new
refreshed-fits docs cs [] [] h = All-nil (FitsOne docs)
refreshed-fits docs cs [] (y ∷ ys) h = absurd h
refreshed-fits docs cs (x ∷ xs) [] h = absurd h
refreshed-fits docs cs (x ∷ xs) (y ∷ ys) h = All-cons (FitsOne docs) y ys h.0.fits (refreshed-fits docs cs xs ys h.1)

pub refreshed-records : (docs : List Tree) (cs : List Edit) (old new : List Entry) → AllZip (Refreshes docs cs) old new → AllZip (λ a b. KeepsRecord cs a.kept b.kept) old new
refreshed-records docs cs [] [] h = tt
refreshed-records docs cs [] (y ∷ ys) h = absurd h
refreshed-records docs cs (x ∷ xs) [] h = absurd h
refreshed-records docs cs (x ∷ xs) (y ∷ ys) h = (h.0.records, refreshed-records docs cs xs ys h.1)

-- ---- a loop over the entries
-- what is left begins with the same entry in both lists
pub here-same : {X : Type 0} (xs ys : List X) (i : ℕ) (d : X) → i < length xs → length xs ≡ length ys → drop i xs ≡ drop i ys → get_or xs i d ≡ get_or ys i d
here-same xs ys i d low long h =
    let a = drop_more xs i d low in
    let b = drop_more ys i d (omega arith) in
    let both : get_or xs i d ∷ drop (i + 1) xs ≡ get_or ys i d ∷ drop (i + 1) ys = sym a ∙ h ∙ b in cc

pub rest-same : {X : Type 0} (xs ys : List X) (i : ℕ) (d : X) → i < length xs → length xs ≡ length ys → drop i xs ≡ drop i ys → drop (i + 1) xs ≡ drop (i + 1) ys
rest-same xs ys i d low long h =
    let a = drop_more xs i d low in
    let b = drop_more ys i d (omega arith) in
    let both : get_or xs i d ∷ drop (i + 1) xs ≡ get_or ys i d ∷ drop (i + 1) ys = sym a ∙ h ∙ b in cc

pub rest-more : (items old : List Entry) (i : ℕ) (d e : Entry) → i < length items → length items ≡ length old → drop i items ≡ drop i old → drop (i + 1) (set items i e) ≡ drop (i + 1) old
rest-more items old i d e low long h = let r = rest-same items old i d low long h in grind (arith, common_steps, r)

pub refreshed-more : (docs : List Tree) (cs : List Edit) (items old : List Entry) (i : ℕ) (d e : Entry) → i < length items → length items ≡ length old → drop i items ≡ drop i old
    → AllZip (Refreshes docs cs) (take i old) (take i items) → Refreshes docs cs (get_or items i d) e → AllZip (Refreshes docs cs) (take (i + 1) old) (take (i + 1) (set items i e))
refreshed-more docs cs items old i d e low long h so m =
    rw (take_more old i d (omega arith), take_more_set items i e low)
    (AllZip-push (Refreshes docs cs) (take i old) (take i items) (get_or old i d) e so (subst (λ x. Refreshes docs cs x e) (here-same items old i d low long h) m))

pub lines-more : (docs : List Tree) (items old : List Entry) (i : ℕ) (d : Entry) (before after : List Worded) → i < length items → length items ≡ length old → drop i items ≡ drop i old
    → before ≡ map worded (news docs (map live_query (take i old))) → after ≡ before ++ map worded (news_of docs (live_query (get_or items i d))) → after ≡ map worded (news docs (map live_query (take (i + 1) old)))
lines-more docs items old i d before after low long h so is =
    let front = news docs (map live_query (take i old)) in
    is ∙ ap (λ l. l ++ map worded (news_of docs (live_query (get_or items i d)))) so
    ∙ ap (λ x. map worded front ++ map worded (news_of docs (live_query x))) (here-same items old i d low long h)
    ∙ sym (map-append worded front (news_of docs (live_query (get_or old i d))))
    ∙ ap (map worded) (sym (news-more docs (map live_query (take i old)) (live_query (get_or old i d)))
    ∙ ap (news docs) (sym (map-append live_query (take i old) (get_or old i d ∷ [])) ∙ ap (map live_query) (sym (take_more old i d (omega arith)))))

pub fits-here : (docs : List Tree) (items old : List Entry) (i : ℕ) (d : Entry) → i < length items → length items ≡ length old → drop i items ≡ drop i old → All (FitsOne docs) old → FitsOne docs (get_or items i d)
fits-here docs items old i d low long h all = subst (FitsOne docs) (sym (here-same items old i d low long h)) (All-get_or (FitsOne docs) old i d (omega arith) all)

pub quiet-here : (cs : List Edit) (items old : List Entry) (i : ℕ) (d : Entry) → i < length items → length items ≡ length old → drop i items ≡ drop i old → All (λ e. IsQuiet cs e.kept) old → IsQuiet cs (get_or items i d).kept
quiet-here cs items old i d low long h all = subst (λ (e : Entry). IsQuiet cs e.kept) (sym (here-same items old i d low long h)) (All-get_or (λ e. IsQuiet cs e.kept) old i d (omega arith) all)

-- the whole list, once the loop has ended
pub refreshed-all : (docs : List Tree) (cs : List Edit) (items old : List Entry) (i : ℕ) → length items ≤ i → length items ≡ length old → AllZip (Refreshes docs cs) (take i old) (take i items) → AllZip (Refreshes docs cs) old items
refreshed-all docs cs items old i past long so = rw (take_all i old (omega arith), take_all i items past) at so

-- one entry more, the last
pub fits-entered : (docs : List Tree) (old new : List Entry) (e : Entry) → new ≡ old ++ e ∷ [] → All (FitsOne docs) old → FitsOne docs e → All (FitsOne docs) new
fits-entered docs old new e is fits one = subst (λ (xs : List Entry). All (FitsOne docs) xs) (sym is) (All-push (FitsOne docs) old e fits one)
