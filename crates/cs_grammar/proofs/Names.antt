-- What is read behind `|` where a name stands.
use Rattle.std.proofs.Common.{◌≡◌, ℕ, List, Option, Some, None, refl, sym, ap, ◌∙◌, subst}
use Rattle.std.specs.Option.{option_map, option_and_then}
use Rattle.cs_syntax.specs.declared.sign.Sign.TheVariants as sign
use Rattle.cs_syntax.specs.Expression.{Tok, Expression, Step}
use Rattle.cs_grammar.specs.Reading.{Outcome, fail, after, after_word, name_of_words, read_keyed_pipe, pipe_from, Gives, Reads}
use Rattle.cs_grammar.specs.Answers.{after_colons, after_name}
use Rattle.cs_grammar.proofs.Given.{by_none, by_some, by_step}
use Rattle.cs_grammar.proofs.Behind.{no_word}
use Rattle.cs_grammar.proofs.StepsInside.{reads_pipe_alone, reads_pipe_open, reads_pipe_name_alone, reads_pipe_name_open}

-- a name is a word, or two
data Named (ts : List Tok) (w : List ℕ) (r : List Tok) : Type 0 where
  one : after_word ts ≡ Some (w, r) → after sign.ColonColon r ≡ None → Named ts w r
  two : (v : List ℕ) (q : List Tok) (s : List Tok) (u : List ℕ) → after_word ts ≡ Some (v, q) →
      after sign.ColonColon q ≡ Some s → after_word s ≡ Some (u, r) → name_of_words v u ≡ w → Named ts w r

some_same : {A : Type 0} {x y : A} → Some x ≡ Some y → x ≡ y
some_same h = cc

pair_of : (x y : List ℕ × List Tok) → Some x ≡ Some y → (x.0 ≡ y.0) × (x.1 ≡ y.1)
pair_of x y h =
    let p = some_same h in
    (ap (λ z. z.0) p, ap (λ z. z.1) p)

named : (ts : List Tok) (w : List ℕ) (r : List Tok) → after_name ts ≡ Some (w, r) → Named ts w r
named ts w r h = by_first (after_word ts) refl h
  where
    by_second : (v : List ℕ) (q s : List Tok) (x : Option (List ℕ × List Tok)) →
        after_word ts ≡ Some (v, q) → after sign.ColonColon q ≡ Some s → after_word s ≡ x →
        option_map {U = List ℕ × List Tok} (λ y. (name_of_words v y.0, y.1)) x ≡ Some (w, r) →
        Named ts w r
    by_second v q s (Some y) i j k h =
        let p = pair_of (name_of_words v y.0, y.1) (w, r) h in
        two v q s y.0 i j (k ∙ ap (λ z. Some (y.0, z)) p.1) p.0
    by_second v q s None i j k h = absurd (cc)

    by_colons : (v : List ℕ) (q : List Tok) (x : Option (List Tok)) →
        after_word ts ≡ Some (v, q) → after sign.ColonColon q ≡ x →
        after_colons v q x ≡ Some (w, r) → Named ts w r
    by_colons v q (Some s) i j h = by_second v q s (after_word s) i j refl h
    by_colons v q None i j h =
        let p = pair_of (v, q) (w, r) h in
        one (i ∙ ap (λ z. Some (z, q)) p.0
        ∙ ap (λ z. Some (w, z)) p.1) (subst (λ z. after sign.ColonColon z ≡ None) p.1 j)

    by_first : (x : Option (List ℕ × List Tok)) → after_word ts ≡ x →
        option_and_then (λ y. after_colons y.0 y.1 (after sign.ColonColon y.1)) x ≡ Some (w, r) →
        Named ts w r
    by_first (Some y) i h = by_colons y.0 y.1 (after sign.ColonColon y.1) i refl h
    by_first None i h = absurd (cc)

module _ {ts r : List Tok} {w : List ℕ} {e : Expression} {ss : List Step} (h : after_name ts
    ≡ Some (w, r)) where
  pub reads_named_open : after sign.OpenParen r ≡ None → Reads (pipe_from e ss) ts fail
  reads_named_open i = by_name (named ts w r h)
    where
      by_name : Named ts w r → Reads (pipe_from e ss) ts fail
      by_name (one j k) = reads_pipe_alone j k i
      by_name (two v q s u j k l m) = reads_pipe_name_alone j k l i

  pub reads_named_pipe : {s : List Tok} {o : Outcome} → after sign.OpenParen r ≡ Some s →
      Gives (λ f. read_keyed_pipe f e ss w s) o → Reads (pipe_from e ss) ts o
  reads_named_pipe {s = s} {o = o} i a = by_name (named ts w r h)
    where
      by_name : Named ts w r → Reads (pipe_from e ss) ts o
      by_name (one j k) =
          by_step (by_none _ _ (no_word sign.OpenBrace ts j)
          (by_some _ _ j (by_none _ _ k (by_some _ _ i a))))
      by_name (two v q p u j k l m) =
          by_step (by_none _ _ (no_word sign.OpenBrace ts j)
          (by_some _ _ j
          (by_some _ _ k
          (by_some _ _ l
          (by_some _ _ i (subst (λ z. Gives (λ f. read_keyed_pipe f e ss z s) o) (sym m)
          a))))))

pub reads_no_name : {ts : List Tok} {e : Expression} {ss : List Step} →
    after sign.OpenBrace ts ≡ None → after_name ts ≡ None → Reads (pipe_from e ss) ts fail
reads_no_name {ts = ts} {e = e} {ss = ss} a h = by_first (after_word ts) refl h
  where
    by_second : (v : List ℕ) (q s : List Tok) (x : Option (List ℕ × List Tok)) →
        after_word ts ≡ Some (v, q) → after sign.ColonColon q ≡ Some s → after_word s ≡ x →
        option_map {U = List ℕ × List Tok} (λ y. (name_of_words v y.0, y.1)) x ≡ None →
        Reads (pipe_from e ss) ts fail
    by_second v q s (Some y) i j k h = absurd (cc)
    by_second v q s None i j k h = reads_pipe_name_open i j k

    by_colons : (v : List ℕ) (q : List Tok) (x : Option (List Tok)) →
        after_word ts ≡ Some (v, q) → after sign.ColonColon q ≡ x → after_colons v q x ≡ None →
        Reads (pipe_from e ss) ts fail
    by_colons v q (Some s) i j h = by_second v q s (after_word s) i j refl h
    by_colons v q None i j h = absurd (cc)

    by_first : (x : Option (List ℕ × List Tok)) → after_word ts ≡ x →
        option_and_then (λ y. after_colons y.0 y.1 (after sign.ColonColon y.1)) x ≡ None →
        Reads (pipe_from e ss) ts fail
    by_first (Some y) i h = by_colons y.0 y.1 (after sign.ColonColon y.1) i refl h
    by_first None i h = reads_pipe_open a i
