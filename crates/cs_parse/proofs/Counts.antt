-- Counting brackets from the left.
use Rattle.std.proofs.Common.{◌≡◌, sym, ap, subst, arith, ◌∙◌, ℕ, ◌+◌, ◌≤◌, ◌<◌, ◌⊎◌, inl, inr, List, [], ◌∷◌, ◌++◌, Bool, true, false, length, min}
use Rattle.std.specs.Prelude.{take, if◌then◌else◌}
use Rattle.std.proofs.lemmas.List.{take_all, take_min, take-append-le, length_push}
use Rattle.std.proofs.lemmas.Bool.{cases_lt}
use Rattle.cs_syntax.specs.declared.sign.Sign.{Sign}
use Rattle.cs_syntax.specs.Expression.{Tok}
use Rattle.cs_parse.specs.declared.depth.Depth.{Depth}
use Rattle.cs_parse.specs.Counted.{IsDepthOf}
use Rattle.cs_parse.specs.Depth.{count_of, is_sign_that, opens, closes, IsTooDeep}

abbrev pub bit : Bool → ℕ
bit b = if b then 1 else 0

bit_small : (b : Bool) → bit b ≤ 1
bit_small true = omega arith
bit_small false = omega arith

-- as many brackets as tokens, at most
pub count_small : (φ : Sign → Bool) (ts : List Tok) → count_of φ ts ≤ length ts
count_small φ [] = omega arith
count_small φ (t ∷ ts) =
    let one = bit_small (is_sign_that φ t) in
    let rest = count_small φ ts in
    omega arith

-- one token more
count_push : (φ : Sign → Bool) (ts : List Tok) (t : Tok) →
    count_of φ (ts ++ (t ∷ [])) ≡ count_of φ ts + bit (is_sign_that φ t)
count_push φ [] t = omega arith
count_push φ (u ∷ ts) t =
    let rest = count_push φ ts t in
    omega arith

-- behind n of the tokens the brackets are too deep
abbrev DeepBehind : List Tok → Type 0
DeepBehind ts = count_of closes ts + 48 < count_of opens ts

module _ (ts : List Tok) (t : Tok) where
  -- brackets that are too deep stay so
  deep_kept : IsTooDeep ts → IsTooDeep (ts ++ (t ∷ []))
  deep_kept d =
      let n = min d.0 (length ts) in
      let before : take n (ts ++ (t ∷ [])) ≡ take d.0 ts =
      take-append-le n ts (t ∷ []) (omega arith) ∙ take_min d.0 ts in
      (n, subst DeepBehind (sym before) d.1)

  -- they are too deep at the last token
  deep_last : DeepBehind (ts ++ (t ∷ [])) → IsTooDeep (ts ++ (t ∷ []))
  deep_last d =
      let all = take_all (length (ts ++ (t ∷ []))) (ts ++ (t ∷ [])) (omega arith) in
      (length (ts ++ (t ∷ [])), subst DeepBehind (sym all) d)

  -- and at no other token than at those before it
  deep_more : IsTooDeep (ts ++ (t ∷ [])) → IsTooDeep ts ⊎ DeepBehind (ts ++ (t ∷ []))
  deep_more d = by_place (cases_lt (length ts) d.0)
    where
      by_place : (length ts < d.0) ⊎ (d.0 ≤ length ts) →
          IsTooDeep ts ⊎ DeepBehind (ts ++ (t ∷ []))
      by_place (inl l) =
          let size = length_push ts t in
          inr (subst DeepBehind (take_all d.0 (ts ++ (t ∷ [])) (omega arith)) d.1)
      by_place (inr l) = inl (d.0, subst DeepBehind (take-append-le d.0 ts (t ∷ []) l) d.1)

-- what is counted with one token more, where the brackets are too deep at it and where they are not
module _ (ts : List Tok) (t : Tok) (d e : Depth) (counted : IsDepthOf ts d)
    (opened : e.opened ≡ d.opened + bit (is_sign_that opens t))
    (closed : e.closed ≡ d.closed + bit (is_sign_that closes t)) where
  opened_more : e.opened ≡ count_of opens (ts ++ (t ∷ []))
  opened_more =
      opened ∙ ap (λ n. n + bit (is_sign_that opens t)) counted.opened
      ∙ sym (count_push opens ts t)

  closed_more : e.closed ≡ count_of closes (ts ++ (t ∷ []))
  closed_more =
      closed ∙ ap (λ n. n + bit (is_sign_that closes t)) counted.closed
      ∙ sym (count_push closes ts t)

  pub above_more : e.closed + 48 < e.opened → e.exceeded ≡ true → IsDepthOf (ts ++ (t ∷ [])) e
  above_more above is = record {
    opened = opened_more;
    closed = closed_more;
    exceeded = (λ _. deep_last ts t (omega (arith, opened_more, closed_more)), λ _. is);
  }

  pub within_more : e.opened ≤ e.closed + 48 → e.exceeded ≡ d.exceeded →
      IsDepthOf (ts ++ (t ∷ [])) e
  within_more below same = record {
    opened = opened_more;
    closed = closed_more;
    exceeded = (λ h. deep_kept ts t (counted.exceeded.0 (sym same ∙ h)), λ h. by_case (deep_more ts t h));
  }
    where
      by_case : IsTooDeep ts ⊎ DeepBehind (ts ++ (t ∷ [])) → e.exceeded ≡ true
      by_case (inl deep) = same ∙ counted.exceeded.1 deep
      by_case (inr last) = absurd (omega (arith, opened_more, closed_more))
