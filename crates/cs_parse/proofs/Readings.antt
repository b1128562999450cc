-- A text is read in one way at most.
use Rattle.std.proofs.Common.{unwrap_or, ◌≡◌, refl, sym, ap, subst, ◌∙◌, ℕ, List, Option, Some, None}
use Rattle.std.proofs.lemmas.Option.{none-some}
use Rattle.cs_syntax.specs.declared.token.Token.{Token}
use Rattle.cs_syntax.specs.Expression.{Tok, Expression}
use Rattle.cs_syntax.specs.Lex.{IsTokens, IsBadAt, meanings}
use Rattle.cs_grammar.specs.Spells.{Spells}
use Rattle.cs_parse.specs.Depth.{IsTooDeep}
use Rattle.cs_parse.specs.Verdict.{Reading, query, bad_token, too_deep, no_syntax, faulty, Lexed, Spelled, IsRead}

-- what is known of tokens and of expressions
pub record Laws : Type 0 where
  pub one_list : (text : List ℕ) (ts us : List Token) → IsTokens text 0 ts → IsTokens text 0 us →
      ts ≡ us
  pub not_both : (text : List ℕ) (ts : List Token) (at : ℕ) → IsTokens text 0 ts →
      ¬ (IsBadAt text 0 at)
  pub one_place : (text : List ℕ) (a b : ℕ) → IsBadAt text 0 a → IsBadAt text 0 b → a ≡ b
  pub one_expression : (ts : List Tok) (e f : Expression) → Spells ts e → Spells ts f → e ≡ f

not_some : {A : Type 0} {o : Option A} {a : A} → o ≡ None → o ≡ Some a → ⊥
not_some {A} {o} {a} e f = none-some a (sym e ∙ f)

same : {A : Type 0} {o : Option A} {a b : A} → o ≡ Some a → o ≡ Some b → a ≡ b
same {A} {o} {a} {b} e f = ap (λ x. unwrap_or x a) (sym e ∙ f)

module _ (laws : Laws) (text : List ℕ) where
  -- two facts on the tokens of the text are of the same tokens
  both : (φ ψ : List Tok → Type 0) → Lexed text φ → Lexed text ψ → (ts : List Tok) × φ ts × ψ ts
  both φ ψ a b = (
    meanings text a.0,
    a.2,
    subst (λ ts. ψ (meanings text ts))
        (laws.one_list text b.0 a.0 b.1 a.1) b.2,
  )

  abbrev Speaks : (Expression → Type 0) → List Tok → Type 0
  Speaks φ ts = ¬ (IsTooDeep ts) × (e : Expression) × Spells ts e × φ e

  abbrev Silent : List Tok → Type 0
  Silent ts = ¬ (IsTooDeep ts) × ((e : Expression) → ¬ (Spells ts e))

  -- two facts on the expression of the text are of the same expression
  spelled_both : (φ ψ : Expression → Type 0) → Spelled text φ → Spelled text ψ →
      (e : Expression) × φ e × ψ e
  spelled_both φ ψ a b =
      let x = both (Speaks φ) (Speaks ψ) a b in
      (x.1.1, x.1.3, subst ψ (laws.one_expression x.0 x.2.1 x.1.1 x.2.2 x.1.2) x.2.3)

  not_deep : (φ : Expression → Type 0) → Spelled text φ → ¬ (Lexed text IsTooDeep)
  not_deep φ a b = let x = both (Speaks φ) IsTooDeep a b in x.1.0 x.2

  has_syntax : (φ : Expression → Type 0) → Spelled text φ → ¬ (IsRead text no_syntax)
  has_syntax φ a b = let x = both (Speaks φ) Silent a b in x.2.1 x.1.1 x.1.2

  clash : IsRead text too_deep → ¬ (IsRead text no_syntax)
  clash a b = let x = both IsTooDeep Silent a b in x.2.0 x.1

  pub one_reading : (r s : Reading) → IsRead text r → IsRead text s → r ≡ s
  one_reading (query e) (query f) a b = let x = spelled_both _ _ a b in
      ap query (sym x.1.0 ∙ x.2.0)
  one_reading (query e) (bad_token at) a b = absurd (laws.not_both text a.0 at a.1 b)
  one_reading (query e) too_deep a b = absurd (not_deep _ a b)
  one_reading (query e) no_syntax a b = absurd (has_syntax _ a b)
  one_reading (query e) (faulty f) a b = let x = spelled_both _ _ a b in
      absurd (not_some x.1.1 x.2)
  one_reading (bad_token at) (query f) a b = absurd (laws.not_both text b.0 at b.1 a)
  one_reading (bad_token at) (bad_token other) a b =
      ap bad_token (laws.one_place text at other a b)
  one_reading (bad_token at) too_deep a b = absurd (laws.not_both text b.0 at b.1 a)
  one_reading (bad_token at) no_syntax a b = absurd (laws.not_both text b.0 at b.1 a)
  one_reading (bad_token at) (faulty f) a b = absurd (laws.not_both text b.0 at b.1 a)
  one_reading too_deep (query f) a b = absurd (not_deep _ b a)
  one_reading too_deep (bad_token at) a b = absurd (laws.not_both text a.0 at a.1 b)
  one_reading too_deep too_deep a b = refl
  one_reading too_deep no_syntax a b = absurd (clash a b)
  one_reading too_deep (faulty f) a b = absurd (not_deep _ b a)
  one_reading no_syntax (query f) a b = absurd (has_syntax _ b a)
  one_reading no_syntax (bad_token at) a b = absurd (laws.not_both text a.0 at a.1 b)
  one_reading no_syntax too_deep a b = absurd (clash b a)
  one_reading no_syntax no_syntax a b = refl
  one_reading no_syntax (faulty f) a b = absurd (has_syntax _ b a)
  one_reading (faulty f) (query g) a b = let x = spelled_both _ _ a b in
      absurd (not_some x.2.1 x.1)
  one_reading (faulty f) (bad_token at) a b = absurd (laws.not_both text a.0 at a.1 b)
  one_reading (faulty f) too_deep a b = absurd (not_deep _ a b)
  one_reading (faulty f) no_syntax a b = absurd (has_syntax _ a b)
  one_reading (faulty f) (faulty g) a b = let x = spelled_both _ _ a b in ap faulty (same x.1 x.2)
