-- The pairs of a copy that is being made, beside those that it is made of.
use Rattle.std.proofs.Common.{◌≡◌, List, [], ◌∷◌, ◌++◌, map, refl, sym, ap, ◌∙◌, subst, append_assoc}
use Rattle.std.proofs.lemmas.List.{map-append}
use Rattle.std.specs.List.Sorted.{IsStrictlySortedBy}
use Rattle.std.specs.Map.{keys_of}
use Rattle.cs_value.specs.Entries.{Ascend, compares}
use Rattle.cs_value.specs.View.{tree}
use Rattle.cs_value.specs.declared.val.Val.{Val}
use Rattle.cs_value.proofs.Ascents.{ascend_sooner}
use Rattle.cs_value.proofs.Views.{Entry, plain}

names-plain : (es : List Entry) → keys_of es ≡ map (λ p. p.0) (plain es)
names-plain [] = refl
names-plain (e ∷ es) = ap (λ ks. e.0 ∷ ks) (names-plain es)

module _ (made done : List Entry) (e : Entry) (value : Val) (same : plain made ≡ plain done) where
  same_names : keys_of (made ++ (e.0, value) ∷ []) ≡ keys_of (done ++ e ∷ [])
  same_names =
      map-append (λ p. p.0) made ((e.0, value) ∷ [])
      ∙ ap (λ ks. ks ++ e.0 ∷ [])
      (names-plain made ∙ ap (map (λ p. p.0)) same ∙ sym (names-plain done))
      ∙ sym (map-append (λ p. p.0) done (e ∷ []))

  -- the name of the next pair is above those of the copy
  pub next_above : (left : List Entry) → Ascend (done ++ e ∷ left)
      → Ascend (made ++ (e.0, value) ∷ [])
  unfolding IsStrictlySortedBy
  next_above left s =
      subst (IsStrictlySortedBy compares) (sym same_names)
      (ascend_sooner (done ++ e ∷ []) left (subst Ascend (sym (append_assoc done (e ∷ []) left)) s))

  -- and with it the copy is that of one pair more
  pub next_same : tree value ≡ tree e.1 → plain (made ++ (e.0, value) ∷ []) ≡ plain (done ++ e ∷ [])
  next_same is =
      map-append (λ e. (e.0, tree e.1)) made ((e.0, value) ∷ [])
      ∙ ap (λ ps. ps ++ (e.0, tree value) ∷ []) same
      ∙ ap (λ t. plain done ++ (e.0, t) ∷ []) is
      ∙ sym (map-append (λ e. (e.0, tree e.1)) done (e ∷ []))
