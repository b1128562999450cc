-- A text alone is spelled by its token alone.
use Rattle.std.proofs.Common.{◌≡◌, ℕ, List, [], ◌∷◌, ◌++◌, Bool, true, false, Some, None, ◌∙◌, append-nil}
use Rattle.std.specs.Prelude.{codes, if◌then◌else◌}
use Rattle.std.specs.Str.{bytes_eq}
use Rattle.cs_syntax.specs.declared.tree.BinSign.{BinSign}
use Rattle.cs_syntax.specs.declared.tree.PreSign.{PreSign}
use Rattle.cs_syntax.specs.Expression.{Tok, text_tok, Expression, null_literal, bool_literal, text_literal, run_of, prefix_of}
use Rattle.cs_grammar.specs.Spells.{IsExpr, expr_and, expr_or, IsAnd, and_cmp, and_more, IsCmp, cmp_sum, cmp_op, cmp_match, cmp_in, cmp_range, IsSum, sum_prod, sum_more, IsProd, prod_neg, prod_more, IsNeg, neg_pow, neg_minus, IsPow, pow_pre, pow_more, IsPre, pre_chain, pre_more, IsChain, chain_base, IsBase, base_constant, base_number, base_text, base_param, base_word, base_this, base_everything, base_parent, base_round, base_call, base_call_with, base_array, base_object, steps_none, steps_more, steps_arrow}

module _ (k : List ℕ) where
  -- a constant is no text
  not_text : (n t f : Bool) {e : Expression} →
      (if n then Some null_literal
      else (if t then Some (bool_literal true)
      else (if f then Some (bool_literal false) else None))) ≡ Some e → e ≡ text_literal k → ⊥
  not_text true t f h i = cc
  not_text false true f h i = cc
  not_text false false true h i = cc
  not_text false false false h i = cc

  -- neither is a run with one operator more
  run_more : (e : Expression) (xs : List (BinSign × Expression)) (x : BinSign × Expression) →
      run_of e (xs ++ (x ∷ [])) ≡ text_literal k → ⊥
  run_more e [] x i = cc
  run_more e (y ∷ ys) x i = cc

  text_base : {a : List Tok} {e : Expression} → IsBase a e → e ≡ text_literal k →
      a ≡ text_tok k ∷ []
  text_base (base_constant w h) i =
      absurd (not_text (bytes_eq w (codes "null")) (bytes_eq w (codes "true"))
      (bytes_eq w (codes "false")) h i)
  text_base (base_number n) i = absurd (cc)
  text_base (base_text t) i = cc
  text_base (base_param p) i = absurd (cc)
  text_base (base_word w h) i = absurd (cc)
  text_base base_this i = absurd (cc)
  text_base base_everything i = absurd (cc)
  text_base (base_parent h) i = absurd (cc)
  text_base (base_round h) i = absurd (cc)
  text_base (base_call h) i = absurd (cc)
  text_base (base_call_with h j) i = absurd (cc)
  text_base (base_array h) i = absurd (cc)
  text_base (base_object h) i = absurd (cc)

  text_chain : {a : List Tok} {e : Expression} → IsChain a e → e ≡ text_literal k →
      a ≡ text_tok k ∷ []
  text_chain (chain_base h (steps_more s t)) i = absurd (cc)
  text_chain (chain_base h (steps_arrow w s t)) i = absurd (cc)
  text_chain (chain_base {a = a} h steps_none) i = append-nil a ∙ text_base h i

  text_pre : {a : List Tok} {ps : List PreSign} {e : Expression} → IsPre a ps e →
      prefix_of ps e ≡ text_literal k → a ≡ text_tok k ∷ []
  text_pre (pre_chain h) i = text_chain h i
  text_pre (pre_more s h j) i = absurd (cc)

  text_pow : {a : List Tok} {e : Expression} {xs : List (BinSign × Expression)} → IsPow a e xs →
      run_of e xs ≡ text_literal k → a ≡ text_tok k ∷ []
  text_pow (pow_pre h) i = text_pre h i
  text_pow (pow_more h j) i = absurd (cc)

  text_neg : {a : List Tok} {ps : List PreSign} {e : Expression} → IsNeg a ps e →
      prefix_of ps e ≡ text_literal k → a ≡ text_tok k ∷ []
  text_neg (neg_pow h) i = text_pow h i
  text_neg (neg_minus h) i = absurd (cc)

  text_prod : {a : List Tok} {e : Expression} {xs : List (BinSign × Expression)} → IsProd a e xs →
      run_of e xs ≡ text_literal k → a ≡ text_tok k ∷ []
  text_prod (prod_neg h) i = text_neg h i
  text_prod (prod_more {e = e} {xs = xs} s h p j) i = absurd (run_more e xs _ i)

  text_sum : {a : List Tok} {e : Expression} {xs : List (BinSign × Expression)} → IsSum a e xs →
      run_of e xs ≡ text_literal k → a ≡ text_tok k ∷ []
  text_sum (sum_prod h) i = text_prod h i
  text_sum (sum_more {e = e} {xs = xs} s h p j) i = absurd (run_more e xs _ i)

  text_cmp : {a : List Tok} {e : Expression} → IsCmp a e → e ≡ text_literal k → a ≡ text_tok k ∷ []
  text_cmp (cmp_sum h) i = text_sum h i
  text_cmp (cmp_op s h p j) i = absurd (cc)
  text_cmp (cmp_match h j) i = absurd (cc)
  text_cmp (cmp_in h j) i = absurd (cc)
  text_cmp (cmp_range s h j p l) i = absurd (cc)

  text_and : {a : List Tok} {e : Expression} {xs : List (BinSign × Expression)} → IsAnd a e xs →
      run_of e xs ≡ text_literal k → a ≡ text_tok k ∷ []
  text_and (and_cmp h) i = text_cmp h i
  text_and (and_more {e = e} {xs = xs} h j) i = absurd (run_more e xs _ i)

  pub text_expr : {a : List Tok} {e : Expression} {xs : List (BinSign × Expression)} →
      IsExpr a e xs → run_of e xs ≡ text_literal k → a ≡ text_tok k ∷ []
  text_expr (expr_and h) i = text_and h i
  text_expr (expr_or {e = e} {xs = xs} h j) i = absurd (run_more e xs _ i)
