-- The entries of a commit's numbers, brought behind its changes one after the other.
use Rattle.std.proofs.Common.{◌≡◌, ◌≢◌, ◌∙◌, ℕ, zero, suc, ◌<◌, ◌≤◌, ◌+◌, ◌-◌, List, [], ◌∷◌, ◌++◌, map, length, get_or, take, drop, false, refl, sym, ap, subst, true≢false, nat_eq, nat_cmp, ⊎_elim, arith, append-nil, take_all, Result, Ok, Err, Less, Greater, ne_eqb}
use Rattle.std.specs.List.{All, AllZip}
use Rattle.std.specs.List.Sorted.{IsSearchInRange, IsBinarySearchResult, IsStrictlySortedBy}
use Rattle.std.specs.Ordering.{is_lt, is_gt, ordering_index}
use Rattle.std.proofs.lemmas.Bool.{cases_eq, cases_lt}
use Rattle.std.proofs.lemmas.Cmp.{nat_cmp_total, tied_itself}
use Rattle.std.proofs.lemmas.Grind.{common_steps}
use Rattle.std.proofs.lemmas.List.{set-get_or, get_or-drop}
use Rattle.std.proofs.lemmas.List.Folds.{list_any_none}
use Rattle.std.proofs.lemmas.Map.Keys.{below_from_sorted}
use Rattle.std.proofs.lemmas.Map.Lookups.{exact_unsigned}
use Rattle.std.proofs.Math.Seq.{map-set_same}
use Rattle.cs_value.specs.Tree.{Tree}
use Rattle.cs_view.specs.Changes.{Edit}
use Rattle.cs_codes.specs.Codes.{is_among}
use Rattle.cs_live.specs.Brought.{AtNumber, Brings, BringsAt, BringsNone, BringsOne, Still, StillUnasked}
use Rattle.cs_live.specs.Entries.{live_query}
use Rattle.cs_live.specs.Fits.{Refreshes}
use Rattle.cs_live.specs.Found.{Ascend, IsNumberPlace, numbers}
use Rattle.cs_live.specs.Lives.{Worded, worded, news, news_of}
use Rattle.cs_live.specs.declared.entry.Entry.{Entry}
use Rattle.cs_live.proofs.Found.{not-among, among-at, number-at}
use Rattle.cs_live.proofs.News.{here-same, rest-same, rest-more, refreshed-more, refreshed-all, lines-more}

-- ---- what a binary search by the numbers answers
less-differs : (a n : ℕ) → nat_cmp a n ≡ Less → a ≢ n
less-differs a n h is = true≢false (ap is_lt (sym h ∙ ap (λ m. nat_cmp m n) is ∙ tied_itself nat_cmp_total n))

greater-differs : (a n : ℕ) → nat_cmp a n ≡ Greater → a ≢ n
greater-differs a n h is = true≢false (ap is_gt (sym h ∙ ap (λ m. nat_cmp m n) is ∙ tied_itself nat_cmp_total n))

index-rises : (a b n : ℕ) → a ≤ b → ordering_index (nat_cmp a n) ≤ ordering_index (nat_cmp b n)
index-rises a b n h = grind (arith, common_steps)

rises : (n : ℕ) (es : List Entry) → Ascend es → (i j : ℕ) (d : Entry) → i ≤ j → j < length es → ordering_index (nat_cmp (get_or es i d).number n) ≤ ordering_index (nat_cmp (get_or es j d).number n)
rises n es h i j d le low =
    index-rises _ _ n (⊎_elim (λ (is : i ≡ j). let s = ap (λ k. (get_or es k d).number) is in omega (arith, s)) (λ (differs : i ≢ j). let l = h i j d (omega (arith, le, differs)) low in omega (arith, l)) (cases_eq i j))

pub sought-number : (n : ℕ) (es : List Entry) → Ascend es → (r : Result ℕ ℕ) → IsSearchInRange r (length es) → IsBinarySearchResult (λ (e : Entry). nat_cmp e.number n) es r → IsNumberPlace n es r
sought-number n es h (Ok i) l e = (l, λ d. exact_unsigned _ _ (e d))
sought-number n es h (Err i) l e =
    let p = e (rises n es h) in
    not-among n es (λ k d low. ⊎_elim (λ below. less-differs _ n (p.0 k d (omega arith) below)) (λ above. greater-differs _ n (p.1 k d above low)) (cases_lt k i))

-- ---- the entries before a place are refreshed, with their lines, and those from there on are as
-- they were
pub record Brought (docs : List Tree) (cs : List Edit) (old items : List Entry) (out : List Worded) (p : ℕ) : Type 0 where
  pub within : p ≤ length old
  pub long : length items ≡ length old
  pub same : numbers items ≡ numbers old
  pub lines : out ≡ map worded (news docs (map live_query (take p old)))
  pub refreshed : AllZip (Refreshes docs cs) (take p old) (take p items)
  pub rest : drop p items ≡ drop p old

module _ (docs : List Tree) (cs : List Edit) where
  start : (old : List Entry) → Brought docs cs old old [] 0
  start old = record { within = omega arith; long = refl; same = refl; lines = refl; refreshed = tt; rest = refl }

  -- an entry that stays as it is
  skip-one : (old items : List Entry) (lines : List Worded) (p : ℕ) (d : Entry) → p < length old → Still docs cs (get_or old p d) → Brought docs cs old items lines p → Brought docs cs old items lines (p + 1)
  skip-one old items lines p d low still b =
      let within : p < length items = omega (arith, low, b.long) in
      let one : get_or items p d ≡ get_or old p d = here-same items old p d within b.long b.rest in
      let silent : news_of docs (live_query (get_or items p d)) ≡ [] = ap (λ (e : Entry). news_of docs (live_query e)) one ∙ still.silent in
      let refreshes : Refreshes docs cs (get_or items p d) (get_or items p d) = subst (λ (e : Entry). Refreshes docs cs e e) (sym one) still.refreshes in
      record {
        within = omega (arith, low);
        long = b.long;
        same = b.same;
        lines = lines-more docs items old p d lines lines within b.long b.rest b.lines (sym (append-nil lines) ∙ ap (λ l. lines ++ map worded l) (sym silent));
        refreshed = subst (λ (l : List Entry). AllZip (Refreshes docs cs) (take (p + 1) old) (take (p + 1) l)) (set-get_or items p d)
            (refreshed-more docs cs items old p d (get_or items p d) within b.long b.rest b.refreshed refreshes);
        rest = rest-same items old p d within b.long b.rest;
      }

  skip : (old items : List Entry) (lines : List Worded) (p k : ℕ) (d : Entry) → p + k ≤ length old → ((j : ℕ) → p ≤ j → j < p + k → Still docs cs (get_or old j d)) → Brought docs cs old items lines p → Brought docs cs old items lines (p + k)
  skip old items lines p zero d low still b = let none : p ≡ p + 0 = omega arith in subst (λ q. Brought docs cs old items lines q) none b
  skip old items lines p (suc k) d low still b =
      let so = skip old items lines p k d (omega (arith, low)) (λ j from to. still j from (omega (arith, to))) b in
      let next : p + k + 1 ≡ p + suc k = omega arith in
      subst (λ q. Brought docs cs old items lines q) next (skip-one old items lines (p + k) d (omega (arith, low)) (still (p + k) (omega arith) (omega arith)) so)

  skip-to : (old items : List Entry) (lines : List Worded) (p q : ℕ) (d : Entry) → p ≤ q → q ≤ length old → ((j : ℕ) → p ≤ j → j < q → Still docs cs (get_or old j d)) → Brought docs cs old items lines p → Brought docs cs old items lines q
  skip-to old items lines p q d le low still b =
      let is : p + (q - p) ≡ q = omega (arith, le) in
      subst (λ r. Brought docs cs old items lines r) is (skip old items lines p (q - p) d (omega (arith, low, le)) (λ j from to. still j from (omega (arith, to, le))) b)

  -- an entry that is refreshed
  step-one : (old items new : List Entry) (before after : List Worded) (q : ℕ) → q < length old → Brought docs cs old items before q → BringsAt docs cs items new before after q → Brought docs cs old new after (q + 1)
  step-one old items new before after q low b brings =
      let e = brings.entry in
      let within : q < length items = omega (arith, low, b.long) in
      subst (λ (l : List Entry). Brought docs cs old l after (q + 1)) (sym brings.is) (record {
        within = omega (arith, low);
        long = grind (arith, common_steps, b.long);
        same = map-set_same (λ (x : Entry). x.number) items q e e ((brings.refreshed e).number) ∙ b.same;
        lines = lines-more docs items old q e before after within b.long b.rest b.lines (brings.lines e);
        refreshed = refreshed-more docs cs items old q e e within b.long b.rest b.refreshed (brings.refreshed e);
        rest = rest-more items old q e e within b.long b.rest;
      })

-- ---- the loop: so many of the numbers are done
pub record Loop (docs : List Tree) (cs : List Edit) (old items : List Entry) (out : List Worded) (ns : List ℕ) (i : ℕ) : Type 0 where
  pub p : ℕ
  pub brought : Brought docs cs old items out p
  pub done : (j k x : ℕ) (d : Entry) → p ≤ j → j < length old → k < i → (get_or old j d).number ≢ get_or ns k x
  pub next : (j k x : ℕ) (d : Entry) → j < p → i ≤ k → k < length ns → (get_or old j d).number < get_or ns k x

pub loop-start : (docs : List Tree) (cs : List Edit) (old : List Entry) (ns : List ℕ) → Loop docs cs old old [] ns 0
loop-start docs cs old ns = record { p = 0; brought = start docs cs old; done = λ j k x d from low under. absurd (omega (arith, under)); next = λ j k x d under from low. absurd (omega (arith, under)) }

none-there : (n : ℕ) (ns : List ℕ) → ((k x : ℕ) → k < length ns → n ≢ get_or ns k x) → is_among n ns ≡ false
none-there n ns h = list_any_none (λ x. nat_eq n x) ns (λ k d low. ne_eqb n (get_or ns k d) (h k d low))

module _ (docs : List Tree) (cs : List Edit) (old : List Entry) (ns : List ℕ) (sorted : IsStrictlySortedBy nat_cmp ns) (h : Ascend old) (unasked : StillUnasked docs cs old ns) where
  number-of : (items : List Entry) (lines : List Worded) (p j : ℕ) (d : Entry) → j < length old → Brought docs cs old items lines p → (get_or items j d).number ≡ (get_or old j d).number
  number-of items lines p j d low b =
      sym (number-at items j d 0 (omega (arith, low, b.long))) ∙ ap (λ l. get_or l j 0) b.same ∙ number-at old j d 0 low

  step-none : (items new : List Entry) (before after : List Worded) (i n x : ℕ) → i < length ns → n ≡ get_or ns i x → Loop docs cs old items before ns i → BringsNone n items new before after → Loop docs cs old new after ns (i + 1)
  step-none items new before after i n x low is l brings = record {
    p = l.p;
    brought = subst (λ (es : List Entry). Brought docs cs old es after l.p) (sym brings.is) (subst (λ (s : List Worded). Brought docs cs old items s l.p) (sym brings.lines) l.brought);
    done = λ j k y d from under before. ⊎_elim (λ (last : k ≡ i). here j k y d under last) (λ (earlier : k ≢ i). l.done j k y d from under (omega (arith, before, earlier))) (cases_eq k i);
    next = λ j k y d under from within. l.next j k y d under (omega (arith, from)) within;
  } where
    there : (k y : ℕ) → k ≡ i → get_or ns k y ≡ n
    there k y last = let low' : i < length ns = low in let a : get_or ns i y ≡ get_or ns i x = grind (arith, common_steps, low') in ap (λ m. get_or ns m y) last ∙ a ∙ sym is

    here : (j k y : ℕ) (d : Entry) → j < length old → k ≡ i → (get_or old j d).number ≢ get_or ns k y
    here j k y d under last same =
        true≢false (sym (ap (λ m. is_among m (numbers old)) (sym (there k y last) ∙ sym same) ∙ among-at old j d under) ∙ ap (λ l. is_among n l) (sym l.brought.same) ∙ brings.none)

  step-found : (items new : List Entry) (before after : List Worded) (i n x : ℕ) → i < length ns → n ≡ get_or ns i x → Loop docs cs old items before ns i → BringsOne docs cs n items new before after → Loop docs cs old new after ns (i + 1)
  step-found items new before after i n x low is l one = record {
    p = q + 1;
    brought = step-one docs cs old items new before after q there (skip-to docs cs old items before l.p q d from (omega (arith, there)) between l.brought) one.brings;
    done = λ j k y f far under before. ⊎_elim (λ (last : k ≡ i). later j k y f far under last) (λ (earlier : k ≢ i). l.done j k y f (omega (arith, from, far)) under (omega (arith, before, earlier))) (cases_eq k i);
    next = λ j k y f under far within. above j k y f under far within;
  } where
    q : ℕ
    q = one.place

    d : Entry
    d = one.brings.entry

    there : q < length old
    there = let w = one.within in let s = l.brought.long in omega (arith, w, s)

    same : (y : ℕ) → get_or ns i y ≡ n
    same y = let low' : i < length ns = low in let a : get_or ns i y ≡ get_or ns i x = grind (arith, common_steps, low') in a ∙ sym is

    number : (f : Entry) → (get_or old q f).number ≡ n
    number f = sym (number-of items before l.p q f there l.brought) ∙ one.named f

    from : l.p ≤ q
    from = ⊎_elim (λ (under : q < l.p). let a = l.next q i x d under (omega arith) low in let b = number d in absurd (omega (arith, a, b, is))) (λ le. le) (cases_lt q l.p)

    rises-to : (k y : ℕ) → i < k → k < length ns → n < get_or ns k y
    rises-to k y far within = let a = below_from_sorted ns i k y sorted far within in let b = same y in omega (arith, a, b)

    below : (j : ℕ) (f : Entry) → j < q → (get_or old j f).number < n
    below j f under = let a = h j q f under there in let b = number f in omega (arith, a, b)

    between : (j : ℕ) → l.p ≤ j → j < q → Still docs cs (get_or old j d)
    between j far under = unasked j d (omega (arith, under, there)) (none-there _ ns (λ k y within. ⊎_elim
        (λ (earlier : k < i). l.done j k y d far (omega (arith, under, there)) earlier)
        (λ (later : i ≤ k). let a = below j d under in ⊎_elim
        (λ (at : k ≡ i). let b = same y in let c = ap (λ m. get_or ns m y) at in λ eq. omega (arith, a, b, c, eq))
        (λ (past : k ≢ i). let b = rises-to k y (omega (arith, later, past)) within in λ eq. omega (arith, a, b, eq)) (cases_eq k i))
        (cases_lt k i)))

    later : (j k y : ℕ) (f : Entry) → q + 1 ≤ j → j < length old → k ≡ i → (get_or old j f).number ≢ get_or ns k y
    later j k y f far under last eq = let a = h q j f (omega (arith, far)) under in let b = number f in let c = ap (λ m. get_or ns m y) last in let s = same y in omega (arith, a, b, c, s, eq)

    above : (j k y : ℕ) (f : Entry) → j < q + 1 → i + 1 ≤ k → k < length ns → (get_or old j f).number < get_or ns k y
    above j k y f under far within =
        let a = rises-to k y (omega (arith, far)) within in
        ⊎_elim (λ (before : j < q). let b = below j f before in omega (arith, a, b)) (λ (at : q ≤ j). let e : j ≡ q = omega (arith, under, at) in let b = number f in let c = ap (λ m. (get_or old m f).number) e in omega (arith, a, b, c)) (cases_lt j q)

  pub loop-step : (items new : List Entry) (before after : List Worded) (i n x : ℕ) → i < length ns → n ≡ get_or ns i x → Loop docs cs old items before ns i → Brings docs cs n items new before after → Loop docs cs old new after ns (i + 1)
  loop-step items new before after i n x low is l brings = ⊎_elim (step-none items new before after i n x low is l) (step-found items new before after i n x low is l) brings

  -- what holds of all entries as they were holds of the one that comes next
  pub loop-next : (P : Entry → Type 0) (items : List Entry) (lines : List Worded) (i n x : ℕ) → i < length ns → n ≡ get_or ns i x → Loop docs cs old items lines ns i → All P old → AtNumber n P items
  loop-next P items lines i n x low is l all k d within named =
      let inside : k < length old = let s = l.brought.long in omega (arith, within, s) in
      let number : (get_or old k d).number ≡ n = sym (number-of items lines l.p k d inside l.brought) ∙ named in
      let from : l.p ≤ k = ⊎_elim (λ (under : k < l.p). let a = l.next k i x d under (omega arith) low in absurd (omega (arith, a, number, is))) (λ le. le) (cases_lt k l.p) in
      let as_was : get_or items k d ≡ get_or old k d = kept items l.p k d from l.brought.rest in
      subst P (sym as_was) (all k d inside)
    where
      kept : (items : List Entry) (p k : ℕ) (d : Entry) → p ≤ k → drop p items ≡ drop p old → get_or items k d ≡ get_or old k d
      kept items p k d from rest =
          let shift : k ≡ p + (k - p) = omega (arith, from) in
          ap (λ m. get_or items m d) shift ∙ sym (get_or-drop p items (k - p) d) ∙ ap (λ l. get_or l (k - p) d) rest ∙ get_or-drop p old (k - p) d ∙ ap (λ m. get_or old m d) (sym shift)

  to-end : (items : List Entry) (lines : List Worded) (i : ℕ) → length ns ≤ i → Loop docs cs old items lines ns i → (d : Entry) → Brought docs cs old items lines (length old)
  to-end items lines i past l d =
      skip-to docs cs old items lines l.p (length old) d l.brought.within (omega arith)
      (λ j from low. unasked j d low (none-there _ ns (λ k y within. l.done j k y d from low (omega (arith, within, past))))) l.brought

none-refreshed : (docs : List Tree) (cs : List Edit) (items : List Entry) → length items ≡ 0 → AllZip (Refreshes docs cs) [] items
none-refreshed docs cs [] h = tt
none-refreshed docs cs (e ∷ es) h = absurd (omega (arith, h))

module _ (docs : List Tree) (cs : List Edit) (ns : List ℕ) (sorted : IsStrictlySortedBy nat_cmp ns) where
  pub loop-end : (old items : List Entry) (lines : List Worded) (i : ℕ) → Ascend old → StillUnasked docs cs old ns → length ns ≤ i → Loop docs cs old items lines ns i
      → (lines ≡ map worded (news docs (map live_query old))) × AllZip (Refreshes docs cs) old items
  loop-end [] items lines i h unasked past l =
      let b = l.brought in let none : l.p ≡ 0 = let w = b.within in omega (arith, w) in
      let start : Brought docs cs [] items lines 0 = subst (λ q. Brought docs cs [] items lines q) none b in
      (start.lines, none-refreshed docs cs items start.long)
  loop-end (e ∷ es) items lines i h unasked past l =
      let b = to-end docs cs (e ∷ es) ns sorted h unasked items lines i past l e in (
        b.lines ∙ ap (λ k. map worded (news docs (map live_query k))) (take_all (length (e ∷ es)) (e ∷ es) (omega arith)),
        refreshed-all docs cs items (e ∷ es) (length (e ∷ es)) (let w = b.long in omega (arith, w)) b.long b.refreshed,
      )
