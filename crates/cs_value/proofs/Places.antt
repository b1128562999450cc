-- What stands at the place of a name among pairs in order.
use Rattle.std.proofs.Common.{◌≡◌, ℕ, zero, suc, ◌<◌, List, [], ◌∷◌, length, get_or, set, Some, None, Ok, Err, Less, Greater, Bool, true, cond, is_eq, ap, sym, subst, ◌∙◌, refl, arith}
use Rattle.std.proofs.lemmas.Cmp.{nat_list_cmp_total}
use Rattle.std.proofs.lemmas.Map.{lookup-none}
use Rattle.std.specs.Cmp.{Equal-is}
use Rattle.std.specs.List.{AllByRecursion, remove, slice_get}
use Rattle.std.specs.List.Sorted.{IsStrictlySortedBy}
use Rattle.std.specs.Map.{keys_of, values_of, lookup, remove_entry}
use Rattle.std.specs.BTreeMap.{insert_entry, is_at}
use Rattle.std.specs.Ordering.{ordering_reverse}
use Rattle.std_collections.specs.BTreeMap.Comparable.{le_lt_trans}
use Rattle.std_collections.specs.Layout.BTreeMap.{seek}
use Rattle.std_collections.specs.Layout.Columns.{set_value_at}
use Rattle.std_collections.proofs.Entries.{NonePasses, cond-false}
use Rattle.std_collections.proofs.Seek.{seek-Ok, found_at, missing_at, insert_entry-Ok}
use Rattle.cs_value.specs.Entries.{Name, Ascend, compares}

module _ {V : Type 0} where
  value_at : (es : List (Name × V)) (i : ℕ) (d : Name × V) → i < length es
      → slice_get (values_of es) i ≡ Some (get_or es i d).1
  value_at [] i d h = absurd (omega arith)
  value_at (e ∷ es) zero d h = refl
  value_at (e ∷ es) (suc i) d h = value_at es i d (omega arith)

  written : (es : List (Name × V)) (i : ℕ) (d : Name × V) (v : V) → i < length es
      → set es i ((get_or es i d).0, v) ≡ set_value_at es i v
  written [] i d v h = absurd (omega arith)
  written (e ∷ es) zero d v h = refl
  written (e ∷ es) (suc i) d v h = ap (λ xs. e ∷ xs) (written es i d v (omega arith))

  remove_none : (test : Name → Bool) (es : List (Name × V)) → NonePasses test es
      → remove_entry test es ≡ es
  remove_none test [] h = refl
  remove_none test (e ∷ es) h = cond-false _ _ h.0 ∙ ap (λ xs. e ∷ xs) (remove_none test es h.1)

  pub written_over : (es : List (Name × V)) (i : ℕ) (d : Name × V) (k : Name) (v : V)
      → seek (compares k) es ≡ Ok i
      → set es i ((get_or es i d).0, v) ≡ insert_entry compares es k v
  written_over es i d k v h = written es i d v (seek-Ok (compares k) es i h).0
      ∙ insert_entry-Ok compares k v es i h

  one_of : (P : Name → Type 0) (es : List (Name × V)) (i : ℕ) (e : Name × V)
      → AllByRecursion P (keys_of es) → i < length es → e ≡ get_or es i e → P e.0
  one_of P [] i e a h is = absurd (omega arith)
  one_of P (f ∷ es) zero e a h is = subst (λ x. P x.0) (sym is) a.0
  one_of P (f ∷ es) (suc i) e a h is = one_of P es i e a.1 (omega arith) is

  -- a pair that has the name is the one that is found
  pub sole : (text : List ℕ) (es : List (Name × V)) (i : ℕ) (e : Name × V) → Ascend es
      → i < length es → e ≡ get_or es i e → is_at (compares text) e.0 ≡ true
      → lookup (is_at (compares text)) es ≡ Some e.1
  unfolding IsStrictlySortedBy
  sole text [] i e s h is at = absurd (omega arith)
  sole text (f ∷ es) zero e s h is at =
      let here = ap (λ x. is_at (compares text) x.0) (sym is) ∙ at in
      ap (λ b. cond b (Some f.1) (lookup (is_at (compares text)) es)) here
      ∙ ap (λ x. Some x.1) (sym is)
  sole text (f ∷ es) (suc i) e s h is at =
      let under = one_of (λ y. compares f.0 y ≡ Less) es i e s.0 (omega arith) is in
      let over = nat_list_cmp_total.antisymm e.0 f.0 ∙ ap ordering_reverse under in
      let same = (Equal-is (compares text e.0)).0 at in
      let above : compares text f.0 ≡ Greater =
      nat_list_cmp_total.congr text e.0 f.0 same ∙ over in
      ap (λ o. cond (is_eq o) (Some f.1) (lookup (is_at (compares text)) es)) above
      ∙ sole text es i e s.1 (omega arith) is at

  module _ (text : List ℕ) (es : List (Name × V)) (i : ℕ) where
    pub found : (d : Name × V) → seek (compares text) es ≡ Ok i
        → lookup (is_at (compares text)) es ≡ Some (get_or es i d).1
    found d h = (found_at (compares text) es i h).value
        ∙ value_at es i d (seek-Ok (compares text) es i h).0

    pub removed : seek (compares text) es ≡ Ok i
        → remove es i ≡ remove_entry (is_at (compares text)) es
    removed h = (found_at (compares text) es i h).removes

    missing : Ascend es → seek (compares text) es ≡ Err i → NonePasses (is_at (compares text)) es
    missing s h =
        missing_at (compares text)
        (λ x y. le_lt_trans nat_list_cmp_total text x y) es i s h

    pub absent : Ascend es → seek (compares text) es ≡ Err i
        → lookup (is_at (compares text)) es ≡ None
    absent s h = lookup-none (is_at (compares text)) es (missing s h)

    pub unchanged : Ascend es → seek (compares text) es ≡ Err i
        → remove_entry (is_at (compares text)) es ≡ es
    unchanged s h = remove_none (is_at (compares text)) es (missing s h)
