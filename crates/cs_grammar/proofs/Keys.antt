-- The entries of an object by what stands first: a text before a colon is a key, and an entry that
-- begins with no key has none.
use Rattle.std.proofs.Common.{◌≡◌, ℕ, List, [], ◌∷◌, ◌++◌, Option, Some, None, refl, sym, ap, ◌∙◌}
use Rattle.std.specs.Option.{option_map}
use Rattle.cs_syntax.specs.declared.sign.Sign.TheVariants as sign
use Rattle.cs_syntax.specs.Expression.{Tok, number_tok, text_tok, param_tok, word_tok, sign_tok, Expression, text_literal, Entry, keyed, bare}
use Rattle.cs_grammar.specs.Answers.{after_key}
use Rattle.cs_grammar.specs.Reading.{expr, entries_from, keyed_from, next_entry, Outcome, fail, got, after, Reads}
use Rattle.cs_syntax.specs.Brackets.{text_alone}
use Rattle.cs_grammar.proofs.Behind.{after_is}
use Rattle.cs_grammar.proofs.Steps.{reads_at}
use Rattle.cs_grammar.proofs.StepsInside.{reads_entry, reads_keyed, reads_keyed_fail, reads_bare, reads_no_key}
use Rattle.cs_grammar.proofs.Complete.{text_reads}
use Rattle.cs_grammar.proofs.TextAlone.{text_expr}
use Rattle.cs_grammar.proofs.Sound.{reads_sound}

some_same : {A : Type 0} {x y : A} → Some x ≡ Some y → x ≡ y
some_same h = cc

mapped : (x : Option (List Tok)) (t : List ℕ) {k : List ℕ} {r : List Tok} →
    option_map {U = List ℕ × List Tok} (λ s. (t, s)) x ≡ Some (k, r) → (t ≡ k) × (x ≡ Some r)
mapped (Some s) t h = let p = some_same h in (ap (λ z. z.0) p, ap (λ z. Some z.1) p)
mapped None t h = absurd (cc)

key_is : (ts : List Tok) {k : List ℕ} {r : List Tok} → after_key ts ≡ Some (k, r) →
    ts ≡ text_tok k ∷ sign_tok sign.Colon ∷ r
key_is [] h = absurd (cc)
key_is (number_tok n ∷ ts) h = absurd (cc)
key_is (text_tok t ∷ ts) {k = k} h =
    let m = mapped (after sign.Colon ts) t h in
    ap (λ s. text_tok s ∷ ts) m.0 ∙ ap (λ s. text_tok k ∷ s) (after_is sign.Colon ts m.1)
key_is (param_tok p ∷ ts) h = absurd (cc)
key_is (word_tok w ∷ ts) h = absurd (cc)
key_is (sign_tok s ∷ ts) h = absurd (cc)

-- a key and its value
module _ {ts r : List Tok} {k : List ℕ} {xs : List Entry} (h : after_key ts ≡ Some (k, r)) where
  pub reads_key_entry : {s : List Tok} {v : Expression} {o : Outcome} → Reads expr r (got v s) →
      Reads (next_entry (xs ++ (keyed k v ∷ []))) s o → Reads (entries_from xs) ts o
  reads_key_entry a n =
      reads_at (key_is ts h) (reads_entry refl refl (text_reads k r) (reads_keyed refl refl a n))

  pub reads_key_entry_fail : Reads expr r fail → Reads (entries_from xs) ts fail
  reads_key_entry_fail a =
      reads_at (key_is ts h) (reads_entry refl refl (text_reads k r) (reads_keyed_fail refl refl a))

-- an expression that has a key is the text
text_is : (e : Expression) {k : List ℕ} → text_alone e ≡ Some k → e ≡ text_literal k
text_is (text_literal t) h = cc
text_is _ h = absurd (cc)

-- what is read as a text alone is its token
text_stands : {ts r : List Tok} {e : Expression} (k : List ℕ) → Reads expr ts (got e r) →
    e ≡ text_literal k → ts ≡ text_tok k ∷ r
text_stands {r = r} k a is =
    let s = reads_sound a in
    s.took.is ∙ ap (λ b. b ++ r) (text_expr k s.fact.spelled (sym s.fact.is ∙ is))

unmapped : (x : Option (List Tok)) (k : List ℕ) → option_map {U = List ℕ × List Tok} (λ s. (k, s)) x ≡ None → x ≡ None
unmapped None k h = refl
unmapped (Some s) k h = absurd (cc)

-- an entry that begins with no key is bare
pub reads_keyless : {ts r : List Tok} {e : Expression} {xs : List Entry} {o : Outcome} →
    after_key ts ≡ None → Reads expr ts (got e r) → after sign.FatArrow r ≡ None →
    Reads (next_entry (xs ++ (bare e ∷ []))) r o → Reads (keyed_from xs e) r o
reads_keyless {r = r} {e = e} {xs = xs} {o = o} h a i n = by_key (text_alone e) refl
  where
    by_key : (x : Option (List ℕ)) → text_alone e ≡ x → Reads (keyed_from xs e) r o
    by_key None j = reads_no_key i j n
    by_key (Some k) j =
        let stands = text_stands k a (text_is e j) in
        reads_bare i (unmapped (after sign.Colon r) k (ap after_key (sym stands) ∙ h)) n
