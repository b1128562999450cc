-- The entries of an index that keeps the keys of more kinds.
use Rattle.std.proofs.Common.{◌≡◌, ℕ, List, [], ◌∷◌, ◌++◌, Option, Some, None, Bool, true, false, cond, ◌||◌, refl, sym, ap, ◌∙◌, true≢false, nat_eq}
use Rattle.std.proofs.lemmas.List.Folds.{list_any-append}
use Rattle.std.specs.BTreeSet.{BTreeSet}
use Rattle.cs_value.specs.Tree.{Tree}
use Rattle.cs_view.specs.Changes.{Edit}
use Rattle.cs_view.specs.Dataset.{standing}
use Rattle.cs_docs.specs.Gathered.{entering}
use Rattle.cs_docs.specs.Store.{docs}
use Rattle.cs_docs.specs.declared.docs.Docs.{Docs}
use Rattle.cs_codes.specs.Codes.{is_among}
use Rattle.cs_codes.specs.Kinds.{kind_codes, kinds_codes, coded, side_coded}
use Rattle.cs_codes.specs.declared.coding.Coding.{Coding}
use Rattle.cs_codes.specs.declared.kind.KeyKind.{KeyKind}
use Rattle.cs_codes.specs.declared.seed.Seed.{Seed}
use Rattle.cs_index.specs.Entries.{entry, has_entry, is_in, puts, or_some, AreEntriesOf, Grows}
use Rattle.cs_index.specs.declared.entry.Entry.{Entry}
use Rattle.cs_index.proofs.Applied.{built}

grouped : (a b c : Bool) → (a || (b || c)) ≡ ((a || b) || c)
grouped true b c = refl
grouped false b c = refl

-- a code of several kinds is one of the former or of the latter
among_either : (c : ℕ) (seed : Seed) (ks js : List KeyKind) (t : Tree) → is_among c (kinds_codes seed (ks ++ js) t) ≡ (is_among c (kinds_codes seed ks t) || is_among c (kinds_codes seed js t))
among_either c seed [] js t = refl
among_either c seed (k ∷ ks) js t =
    list_any-append (λ x. nat_eq c x) (kind_codes seed k t) (kinds_codes seed (ks ++ js) t)
    ∙ ap (λ b. is_among c (kind_codes seed k t) || b) (among_either c seed ks js t)
    ∙ grouped (is_among c (kind_codes seed k t)) (is_among c (kinds_codes seed ks t)) (is_among c (kinds_codes seed js t))
    ∙ ap (λ b. b || is_among c (kinds_codes seed js t)) (sym (list_any-append (λ x. nat_eq c x) (kind_codes seed k t) (kinds_codes seed ks t)))

-- an index that keeps no keys is that of any store
pub nothing_kept : (coding : Coding) (m : BTreeSet Entry) (d : Docs) → coding.kinds.items ≡ [] → AreEntriesOf coding m d
nothing_kept coding m d empty x c p at has = absurd (true≢false (sym has ∙ none (standing x (docs d)))) where
  none : (o : Option Tree) → is_among c (side_coded coding o) ≡ false
  none None = refl
  none (Some t) = ap (λ (ks : List KeyKind). is_among c (kinds_codes coding.seed ks t)) empty

-- it is that of the store still, with more entries
pub grown : (one all : Coding) (d : Docs) (m n : BTreeSet Entry) → all.seed ≡ one.seed → all.kinds.items ≡ one.kinds.items → Grows m n → AreEntriesOf one m d → AreEntriesOf all n d
grown one all d m n seeds kinds grows old x c p at has = grows (entry c p) (old x c p at (sym (same (standing x (docs d))) ∙ has)) where
  same : (o : Option Tree) → is_among c (side_coded all o) ≡ is_among c (side_coded one o)
  same None = refl
  same (Some t) =
      ap (λ (s : Seed). is_among c (kinds_codes s all.kinds.items t)) seeds
      ∙ ap (λ (ks : List KeyKind). is_among c (kinds_codes one.seed ks t)) kinds

-- the kinds of one coding and of another are those of a third
pub joined : (one more all : Coding) (d : Docs) (m n : BTreeSet Entry) → more.seed ≡ one.seed → all.seed ≡ one.seed → all.kinds.items ≡ one.kinds.items ++ more.kinds.items → Grows m n → AreEntriesOf one m d → AreEntriesOf more n d → AreEntriesOf all n d
joined one more all d m n seed seeds kinds grows old new x c p at has = by_doc (standing x (docs d)) refl where
  either : (t : Tree) → standing x (docs d) ≡ Some t → (is_among c (coded one t) || is_among c (coded more t)) ≡ true
  either t h =
      ap (λ (s : Seed). is_among c (coded one t) || is_among c (kinds_codes s more.kinds.items t)) seed
      ∙ sym (among_either c one.seed one.kinds.items more.kinds.items t)
      ∙ ap (λ (ks : List KeyKind). is_among c (kinds_codes one.seed ks t)) (sym kinds)
      ∙ ap (λ (s : Seed). is_among c (kinds_codes s all.kinds.items t)) (sym seeds)
      ∙ ap (λ (o : Option Tree). is_among c (side_coded all o)) (sym h)
      ∙ has

  by_doc : (o : Option Tree) → standing x (docs d) ≡ o → has_entry n (entry c p) ≡ true
  by_doc None h = absurd (true≢false (sym has ∙ ap (λ (o : Option Tree). is_among c (side_coded all o)) h))
  by_doc (Some t) h = by_kind (is_among c (coded one t)) refl where
    by_kind : (b : Bool) → is_among c (coded one t) ≡ b → has_entry n (entry c p) ≡ true
    by_kind true e = grows (entry c p) (old x c p at (ap (λ (o : Option Tree). is_among c (side_coded one o)) h ∙ e))
    by_kind false e = new x c p at (ap (λ (o : Option Tree). is_among c (side_coded more o)) h ∙ (ap (λ b. b || is_among c (coded more t)) (sym e) ∙ either t h))

passed_on : (test : Edit → Bool) (cs : List Edit) (a b : Bool) → cond (or_some test cs a) true b ≡ or_some test cs (cond a true b)
passed_on test [] a b = refl
passed_on test (c ∷ cs) a b = passed_on test cs (cond (test c) true a) b ∙ ap (or_some test cs) (moved (test c) a b) where
  moved : (x a b : Bool) → cond (cond x true a) true b ≡ cond x true (cond a true b)
  moved true a b = refl
  moved false a b = refl

-- the entries of all documents are put among others
pub entered : (more : Coding) (d : Docs) (m n : BTreeSet Entry) (es : List Entry) → ((q : Entry) → has_entry n q ≡ cond (is_in q es) true (has_entry m q)) → ((q : Entry) → is_in q es ≡ or_some (puts more d q) (entering (docs d)) false)
    → AreEntriesOf more n d
entered more d m n es gain listed =
    built more d n (has_entry m) (λ q.
    gain q
    ∙ ap (λ a. cond a true (has_entry m q)) (listed q)
    ∙ passed_on (puts more d q) (entering (docs d)) false (has_entry m q))
