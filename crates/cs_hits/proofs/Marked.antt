-- Changes of ids that have other marks than an id do not touch it.
use Rattle.std.proofs.Common.{◌≡◌, ◌∙◌, ℕ, List, [], ◌∷◌, Bool, true, false, ◌&&◌, ◌||◌, Option, Some, refl, sym, ap, true≢false, eq-eqb}
use Rattle.std.specs.Prelude.{is_some, unwrap_or}
use Rattle.std.specs.Bool.{nat_eq}
use Rattle.cs_view.specs.Changes.{are_changes}
use Rattle.cs_view.specs.Dataset.{same_id}
use Rattle.cs_view.specs.Touched.{touched, touches, is_touched}
use Rattle.cs_view.specs.View.{edit, edits}
use Rattle.cs_view.specs.declared.change.Change.{Change}
use Rattle.cs_view.specs.declared.key.Key.{Key}
use Rattle.cs_view.specs.declared.key.Key.TheVariants.{Id, All, Path, Elem, Ref}
use Rattle.cs_view.proofs.Booleans.{or-left, or-right}
use Rattle.cs_view.proofs.Changed.{OwnIds, own_ids}
use Rattle.cs_view.proofs.Datasets.{same_id-same}
use Rattle.cs_view.proofs.Sides.{touches-id}
use Rattle.cs_codes.specs.Codes.{is_among}
use Rattle.cs_hits.specs.Looked.{mark, marks, sole_mark}

-- an id of another mark is another one
other-id : (x y : List ℕ) → nat_eq (mark x) (mark y) ≡ false → same_id y x ≡ false
other-id x y differ = by_test (same_id y x) refl where
  by_test : (s : Bool) → same_id y x ≡ s → s ≡ false
  by_test false same = refl
  by_test true same =
      absurd (true≢false (sym (eq-eqb (mark x) (mark y) (ap mark (sym (same_id-same y x same)))) ∙ differ))

nowhere : (a s : Bool) → s ≡ false → (a && s) ≡ false
nowhere true s h = h
nowhere false s h = refl

untouched-id : (x : List ℕ) (cs : List Change) → OwnIds (edits cs)
    → is_among (mark x) (marks cs) ≡ false → is_touched (edits cs) (Id x) ≡ false
untouched-id x [] own none = refl
untouched-id x (c ∷ cs) own none =
    let other : same_id c.id x ≡ false = other-id x c.id (or-left _ (is_among (mark x) (marks cs)) none) in
    let here : touches (Id x) (edit c) ≡ false = touches-id x (edit c) own.0.0 own.0.1 ∙ nowhere _ _ other in
    ap (λ (p : Bool). p || is_touched (edits cs) (Id x)) here
    ∙ untouched-id x cs own.1 (or-right (nat_eq (mark x) (mark c.id)) _ none)

abbrev value_of : Option ℕ → ℕ
value_of o = unwrap_or o 0

-- the only key
sole-untouched : (m : ℕ) (ks : List Key) (cs : List Change) → Some m ≡ sole_mark ks → OwnIds (edits cs)
    → is_among m (marks cs) ≡ false → touched ks (edits cs) ≡ false
sole-untouched m [] cs is own none = refl
sole-untouched m (Id x ∷ []) cs is own none =
    ap (λ (p : Bool). p || false)
    (untouched-id x cs own (ap (λ (n : ℕ). is_among n (marks cs)) (sym (ap value_of is)) ∙ none))
sole-untouched m (Id x ∷ (_ ∷ _)) cs is own none = absurd (true≢false (ap is_some is))
sole-untouched m (All ∷ _) cs is own none = absurd (true≢false (ap is_some is))
sole-untouched m (Path _ _ ∷ _) cs is own none = absurd (true≢false (ap is_some is))
sole-untouched m (Elem _ _ ∷ _) cs is own none = absurd (true≢false (ap is_some is))
sole-untouched m (Ref _ ∷ _) cs is own none = absurd (true≢false (ap is_some is))

pub marked-otherwise : (m : ℕ) (ks : List Key) (cs : List Change) → Some m ≡ sole_mark ks
    → are_changes (edits cs) ≡ true → is_among m (marks cs) ≡ false
    → touched ks (edits cs) ≡ false
marked-otherwise m ks cs is changes none = sole-untouched m ks cs is (own_ids (edits cs) changes) none
