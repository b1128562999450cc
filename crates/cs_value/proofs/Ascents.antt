-- Pairs whose names ascend: what a change of them leaves in order, and where a name goes.
use Rattle.std.proofs.Common.{◌≡◌, ℕ, zero, suc, List, [], ◌∷◌, ◌++◌, length, Some, Result, Ok, Err, OnOk, OnErr, Ordering, Less, Equal, Greater, Bool, true, false, cond, refl, sym, ap, ◌∙◌, subst, append_assoc, length-append, ◌+◌, ◌-◌, arith}
use Rattle.std.proofs.lemmas.Cmp.{nat_list_cmp_total}
use Rattle.std.specs.List.{AllByRecursion, slice_get}
use Rattle.std.specs.List.Sorted.{IsStrictlySortedBy}
use Rattle.std.specs.Map.{keys_of, remove_entry}
use Rattle.std.specs.BTreeMap.{insert_entry}
use Rattle.std.specs.Ordering.{match_ordering, ordering_reverse}
use Rattle.std_collections.specs.Layout.BTreeMap.{seek, one_further}
use Rattle.cs_value.specs.Entries.{Name, Ascend, compares}

abbrev Entries : Type 0 → Type 0
Entries V = List (Name × V)

pub empty : (V : Type 0) → Ascend {V = V} []
unfolding IsStrictlySortedBy
empty V = tt

below_all : (k l : Name) (ks : List Name) → compares k l ≡ Less
    → AllByRecursion (λ y. compares l y ≡ Less) ks
    → AllByRecursion (λ y. compares k y ≡ Less) ks
below_all k l [] h a = tt
below_all k l (m ∷ ks) h a = (nat_list_cmp_total.trans k l m h a.0, below_all k l ks h a.1)

above_both : (text : List ℕ) (k l : Name) → compares text l ≡ Greater → compares k l ≡ Less
    → compares text k ≡ Greater
above_both text k l h below =
    let under = nat_list_cmp_total.antisymm l text ∙ ap ordering_reverse h in
    let first = nat_list_cmp_total.trans k l text below under in
    nat_list_cmp_total.antisymm text k ∙ ap ordering_reverse first

module _ {V : Type 0} where
  module _ (k : Name) (v : V) where
    -- e ∷ es with a pair that stands to the first as o says, where rest are the others with it
    abbrev put_at : Ordering → Name × V → Entries V → Entries V → Entries V
    put_at o e es rest = match_ordering o ((k, v) ∷ e ∷ es) ((e.0, v) ∷ es) (e ∷ rest)

    all_put : (P : Name → Type 0) (o : Ordering) (e : Name × V) (es rest : Entries V) → P k → P e.0
        → AllByRecursion P (keys_of es) → AllByRecursion P (keys_of rest)
        → AllByRecursion P (keys_of (put_at o e es rest))
    all_put P Less e es rest p q a b = (p, (q, a))
    all_put P Equal e es rest p q a b = (q, a)
    all_put P Greater e es rest p q a b = (q, b)

    all_insert_entry : (P : Name → Type 0) (es : Entries V) → P k → AllByRecursion P (keys_of es)
        → AllByRecursion P (keys_of (insert_entry compares es k v))
    all_insert_entry P [] p a = (p, tt)
    all_insert_entry P (e ∷ es) p a =
        all_put P (compares k e.0) e es _ p a.0 a.1 (all_insert_entry P es p a.1)

    ordered : (o : Ordering) (e : Name × V) (es rest : Entries V) → compares k e.0 ≡ o
        → Ascend (e ∷ es) → Ascend rest
        → (compares e.0 k ≡ Less → AllByRecursion (λ y. compares e.0 y ≡ Less) (keys_of rest))
        → Ascend (put_at o e es rest)
    unfolding IsStrictlySortedBy
    ordered Less e es rest h s t a = ((h, below_all k e.0 (keys_of es) h s.0), s)
    ordered Equal e es rest h s t a = s
    ordered Greater e es rest h s t a =
        (a (nat_list_cmp_total.antisymm e.0 k ∙ ap ordering_reverse h), t)

    -- pairs stay in order when one is put among them
    pub Ascend-insert_entry : (es : Entries V) → Ascend es
        → Ascend (insert_entry compares es k v)
    unfolding IsStrictlySortedBy
    Ascend-insert_entry [] s = (tt, tt)
    Ascend-insert_entry (e ∷ es) s =
        ordered (compares k e.0) e es _ refl s (Ascend-insert_entry es s.1)
        (λ below. all_insert_entry (λ y. compares e.0 y ≡ Less) es below s.0)

  -- whether or not there was memory for it
  pub Ascend-put : {A B : Type 0} (r : Result A B) (old new : Entries V) (k : Name) (v : V)
      → Ascend old
      → OnOk r (new ≡ insert_entry compares old k v) → OnErr r (new ≡ old) → Ascend new
  Ascend-put (Ok a) old new k v s is _ = subst Ascend (sym is) (Ascend-insert_entry k v old s)
  Ascend-put (Err b) old new k v s _ is = subst Ascend (sym is) s

  all_cond : (P : Name → Type 0) (b : Bool) (e : Name × V) (es rest : Entries V)
      → AllByRecursion P (keys_of (e ∷ es)) → AllByRecursion P (keys_of rest)
      → AllByRecursion P (keys_of (cond b es (e ∷ rest)))
  all_cond P true e es rest a r = a.1
  all_cond P false e es rest a r = (a.0, r)

  all_remove_entry : (P : Name → Type 0) (test : Name → Bool) (es : Entries V)
      → AllByRecursion P (keys_of es) → AllByRecursion P (keys_of (remove_entry test es))
  all_remove_entry P test [] a = tt
  all_remove_entry P test (e ∷ es) a =
      all_cond P (test e.0) e es _ a (all_remove_entry P test es a.1)

  ascend_cond : (b : Bool) (e : Name × V) (es rest : Entries V) → Ascend (e ∷ es)
      → Ascend (e ∷ rest) → Ascend (cond b es (e ∷ rest))
  unfolding IsStrictlySortedBy
  ascend_cond true e es rest s t = s.1
  ascend_cond false e es rest s t = t

  -- and when one is taken out
  pub Ascend-remove_entry : (test : Name → Bool) (es : Entries V) → Ascend es
      → Ascend (remove_entry test es)
  unfolding IsStrictlySortedBy
  Ascend-remove_entry test [] s = tt
  Ascend-remove_entry test (e ∷ es) s =
      ascend_cond (test e.0) e es _ s (
        all_remove_entry
            (λ y. compares e.0 y ≡ Less) test es s.0,
        Ascend-remove_entry test es s.1,
      )

  all_sooner : (P : Name → Type 0) (es fs : Entries V)
      → AllByRecursion P (keys_of (es ++ fs)) → AllByRecursion P (keys_of es)
  all_sooner P [] fs a = tt
  all_sooner P (e ∷ es) fs a = (a.0, all_sooner P es fs a.1)

  pub ascend_sooner : (es fs : Entries V) → Ascend (es ++ fs) → Ascend es
  unfolding IsStrictlySortedBy
  ascend_sooner [] fs s = tt
  ascend_sooner (e ∷ es) fs s =
      (all_sooner (λ y. compares e.0 y ≡ Less) es fs s.0, ascend_sooner es fs s.1)

  ascend_later : (es fs : Entries V) → Ascend (es ++ fs) → Ascend fs
  unfolding IsStrictlySortedBy
  ascend_later [] fs s = s
  ascend_later (e ∷ es) fs s = ascend_later es fs s.1

  put_first : (e : Name × V) (fs : Entries V) → Ascend (e ∷ fs)
      → insert_entry compares fs e.0 e.1 ≡ e ∷ fs
  unfolding IsStrictlySortedBy
  put_first e [] s = refl
  put_first e (f ∷ fs) s =
      ap (λ o. put_at e.0 e.1 o f fs (insert_entry compares fs e.0 e.1)) s.0.0

  last_above : (P : Name → Type 0) (es : Entries V) (e : Name × V)
      → AllByRecursion P (keys_of (es ++ e ∷ [])) → P e.0
  last_above P [] e a = a.0
  last_above P (f ∷ es) e a = last_above P es e a.1

  -- a pair whose name is above all others goes last
  pub put_above : (es : Entries V) (e : Name × V) → Ascend (es ++ e ∷ [])
      → insert_entry compares es e.0 e.1 ≡ es ++ e ∷ []
  unfolding IsStrictlySortedBy
  put_above [] e s = refl
  put_above (f ∷ es) e s =
      let above : compares e.0 f.0 ≡ Greater = nat_list_cmp_total.antisymm e.0 f.0
      ∙ ap ordering_reverse (last_above (λ y. compares f.0 y ≡ Less) es e s.0) in
      ap (λ o. put_at e.0 e.1 o f es (insert_entry compares es e.0 e.1)) above
      ∙ ap (λ xs. f ∷ xs) (put_above es e s.1)

  -- pairs stay in order when one goes last, whether or not there was memory for it
  pub Ascend-last : {A B : Type 0} (r : Result A B) (old new : Entries V) (e : Name × V)
      → Ascend old → Ascend (old ++ e ∷ [])
      → OnOk r (new ≡ old ++ e ∷ []) → OnErr r (new ≡ old) → Ascend new
  Ascend-last (Ok a) old new e s t is _ = subst Ascend (sym is) t
  Ascend-last (Err b) old new e s t _ is = subst Ascend (sym is) s

  -- the last of some pairs, put into a tree of those after it
  pub moved : (all row rest tree new : Entries V) (e : Name × V) → Ascend all → row ++ tree ≡ all
      → row ≡ rest ++ e ∷ [] → new ≡ insert_entry compares tree e.0 e.1
      → (rest ++ new ≡ all) × (length rest + length new ≡ length row + length tree)
      × (new ≡ e ∷ tree)
  moved all row rest tree new e s is last made =
      let split : rest ++ e ∷ tree ≡ all = sym (append_assoc rest (e ∷ []) tree)
      ∙ ap (λ es. es ++ tree) (sym last) ∙ is in
      let first = put_first e tree (ascend_later rest (e ∷ tree) (subst Ascend (sym split) s)) in (
        ap (λ es. rest ++ es) (made ∙ first) ∙ split,
        omega (arith, ap length (made ∙ first), ap length last, length-append rest (e ∷ [])),
        made ∙ first,
      )

  module _ (text : List ℕ) where
    further : (f : Name × V) (es : Entries V) → compares text f.0 ≡ Greater
        → seek (compares text) es ≡ Err (length es)
        → seek (compares text) (f ∷ es) ≡ Err (suc (length es))
    further f es h r =
        ap (λ o. match_ordering o (Err 0) (Ok 0) (one_further (seek (compares text) es))) h
        ∙ ap one_further r

    above : (f : Name × V) (es : Entries V) (i : ℕ) (e : Name × V) → i ≡ length es
        → Ascend (f ∷ es) → Some e ≡ slice_get (f ∷ es) i
        → compares text e.0 ≡ Greater → (compares text f.0 ≡ Greater)
        × (seek (compares text) (f ∷ es) ≡ Err (suc (length es)))
    unfolding IsStrictlySortedBy
    above f [] zero e len s is h =
        let same : e ≡ f = cc in
        let first = ap (λ x. compares text x.0) (sym same) ∙ h in
        (first, further f [] first refl)
    above f [] (suc i) e len s is h = absurd (omega arith)
    above f (g ∷ es) zero e len s is h = absurd (omega arith)
    above f (g ∷ es) (suc i) e len s is h =
        let rest = above g es i e (omega arith) s.1 is h in
        let first = above_both text f.0 g.0 rest.0 s.0.0 in
        (first, further f (g ∷ es) first rest.1)

    -- a text above the last name is above each name
    pub above_last : (es : Entries V) (e : Name × V) → Ascend es
        → Some e ≡ slice_get es (length es - 1) → compares text e.0 ≡ Greater
        → seek (compares text) es ≡ Err (length es)
    above_last [] e s is h = absurd (cc)
    above_last (f ∷ es) e s is h = (above f es (length (f ∷ es) - 1) e (omega arith) s is h).1
