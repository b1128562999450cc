-- A tree's pairs, whose names are Strings, beside the pairs that a map stands for.
use Rattle.std.proofs.Common.{◌≡◌, List, [], ◌∷◌, length, suc, Some, Ordering, Less, Equal, Greater, Bool, true, false, cond, is_eq, String, Global, string_bytes, string_cmp, refl, ap, ◌∙◌}
use Rattle.std.specs.Map.{lookup, remove_entry}
use Rattle.std.specs.BTreeMap.{insert_entry, is_at}
use Rattle.std.specs.Ordering.{match_ordering}
use Rattle.cs_value.specs.Entries.{Name, compares, named}

module _ {V : Type 0} where
  pub length-named : (es : List (String Global × V)) → length (named es) ≡ length es
  length-named [] = refl
  length-named (e ∷ es) = ap suc (length-named es)

  pub lookup-named : (text : Name) (es : List (String Global × V))
      → lookup (is_at (compares text)) (named es)
      ≡ lookup (is_at (λ k. compares text (string_bytes k))) es
  lookup-named text [] = refl
  lookup-named text (e ∷ es) =
      ap (λ r. cond (is_eq (compares text (string_bytes e.0))) (Some e.1) r) (lookup-named text es)

  named-cond : (b : Bool) (e : String Global × V) (es rest : List (String Global × V))
      → named (cond b es (e ∷ rest))
      ≡ cond b (named es) ((string_bytes e.0, e.1) ∷ named rest)
  named-cond true e es rest = refl
  named-cond false e es rest = refl

  pub named-remove_entry : (text : Name) (es : List (String Global × V))
      → named (remove_entry (is_at (λ k. compares text (string_bytes k))) es)
      ≡ remove_entry (is_at (compares text)) (named es)
  named-remove_entry text [] = refl
  named-remove_entry text (e ∷ es) =
      named-cond (is_eq (compares text (string_bytes e.0))) e es _
      ∙ ap
      (λ r. cond (is_eq (compares text (string_bytes e.0))) (named es) ((string_bytes e.0, e.1) ∷ r))
      (named-remove_entry text es)

  named-by : (o : Ordering) (a b c : List (String Global × V))
      → named (match_ordering o a b c) ≡ match_ordering o (named a) (named b) (named c)
  named-by Less a b c = refl
  named-by Equal a b c = refl
  named-by Greater a b c = refl

  pub named-insert_entry : (es : List (String Global × V)) (k : String Global) (v : V)
      → named (insert_entry string_cmp es k v)
      ≡ insert_entry compares (named es) (string_bytes k) v
  named-insert_entry [] k v = refl
  named-insert_entry (e ∷ es) k v =
      named-by (string_cmp k e.0) _ _ _
      ∙ ap
      (λ r. match_ordering (string_cmp k e.0)
      ((string_bytes k, v) ∷ (string_bytes e.0, e.1) ∷ named es)
      ((string_bytes e.0, v) ∷ named es) ((string_bytes e.0, e.1) ∷ r))
      (named-insert_entry es k v)
