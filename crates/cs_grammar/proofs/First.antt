-- What the tokens of an expression begin with, and so what they do not begin with.
use Rattle.std.proofs.Common.{◌≡◌, ℕ, List, [], ◌∷◌, ◌++◌, Bool, true, false, Some, None, refl, sym, ap, ◌∙◌, true≢false}
use Rattle.std.specs.Prelude.{if◌then◌else◌}
use Rattle.std.specs.Option.{option_map}
use Rattle.cs_syntax.specs.declared.sign.Sign.{Sign}
use Rattle.cs_syntax.specs.declared.sign.Sign.TheVariants as sign
use Rattle.cs_syntax.specs.declared.tree.BinSign.{BinSign}
use Rattle.cs_syntax.specs.declared.tree.PreSign.{PreSign}
use Rattle.cs_syntax.specs.Expression.{Tok, number_tok, text_tok, param_tok, word_tok, sign_tok, Expression, Argument, OrderKey}
use Rattle.cs_grammar.specs.Spells.{prefix_op, IsName, name_word, name_within, AreCarets, carets_one, carets_more, IsExpr, expr_and, expr_or, IsAnd, and_cmp, and_more, IsCmp, cmp_sum, cmp_op, cmp_match, cmp_in, cmp_range, IsSum, sum_prod, sum_more, IsProd, prod_neg, prod_more, IsNeg, neg_pow, neg_minus, IsPow, pow_pre, pow_more, IsPre, pre_chain, pre_more, IsChain, chain_base, IsBase, base_constant, base_number, base_text, base_param, base_word, base_this, base_everything, base_parent, base_round, base_call, base_call_with, base_array, base_object, AreArguments, arguments_last, arguments_more, IsArgument, argument_one, argument_when, AreKeys, keys_last, keys_more, IsKey, key_plain, key_asc, key_desc}
use Rattle.cs_grammar.specs.Reading.{same_sign, after, after_sign}
use Rattle.cs_grammar.proofs.Behind.{same_sign_same}
use Rattle.cs_grammar.proofs.Steps.{begins_base}

-- a token stands first, and where it is a sign, it is one of the table
pub data Begins (φ : Sign → Bool) : List Tok → Type 0 where
  by_number : (n : List ℕ) (r : List Tok) → Begins φ (number_tok n ∷ r)
  by_text : (t : List ℕ) (r : List Tok) → Begins φ (text_tok t ∷ r)
  by_param : (p : List ℕ) (r : List Tok) → Begins φ (param_tok p ∷ r)
  by_word : (w : List ℕ) (r : List Tok) → Begins φ (word_tok w ∷ r)
  by_sign : (s : Sign) (r : List Tok) → φ s ≡ true → Begins φ (sign_tok s ∷ r)

pub begins_append : {φ : Sign → Bool} {a : List Tok} (b : List Tok) → Begins φ a →
    Begins φ (a ++ b)
begins_append b (by_number n r) = by_number n (r ++ b)
begins_append b (by_text t r) = by_text t (r ++ b)
begins_append b (by_param p r) = by_param p (r ++ b)
begins_append b (by_word w r) = by_word w (r ++ b)
begins_append b (by_sign s r h) = by_sign s (r ++ b) h

-- a table that has more signs
wider : {φ ψ : Sign → Bool} {a : List Tok} → ((s : Sign) → φ s ≡ true → ψ s ≡ true) → Begins φ a →
    Begins ψ a
wider h (by_number n r) = by_number n r
wider h (by_text t r) = by_text t r
wider h (by_param p r) = by_param p r
wider h (by_word w r) = by_word w r
wider h (by_sign s r i) = by_sign s r (h s i)

-- the signs that an operand of `**` and an expression begin with
abbrev pub begins_pre : Sign → Bool
begins_pre sign.Plus = true
begins_pre sign.Not = true
begins_pre s = begins_base s

abbrev pub begins_expr : Sign → Bool
begins_expr sign.Minus = true
begins_expr s = begins_pre s

base_pre : (s : Sign) → begins_base s ≡ true → begins_pre s ≡ true
base_pre sign.Plus h = refl
base_pre sign.Not h = refl
base_pre _ h = h

pre_expr : (s : Sign) → begins_pre s ≡ true → begins_expr s ≡ true
pre_expr sign.Minus h = refl
pre_expr _ h = h

prefix_pre : (s : Sign) {p : PreSign} → prefix_op s ≡ Some p → begins_pre s ≡ true
prefix_pre sign.Plus h = refl
prefix_pre sign.Not h = refl
prefix_pre _ h = absurd (cc)

-- a sign that is not in the table does not stand first
unlike : (φ : Sign → Bool) (s t : Sign) → φ s ≡ false → φ t ≡ true → same_sign s t ≡ false
unlike φ s t h i = by_case (same_sign s t) refl
  where
    by_case : (b : Bool) → same_sign s t ≡ b → same_sign s t ≡ false
    by_case true j = absurd (true≢false (sym i ∙ ap φ (sym (same_sign_same s t j)) ∙ h))
    by_case false j = j

pub not_first : {φ : Sign → Bool} {a : List Tok} (s : Sign) → φ s ≡ false → Begins φ a →
    (r : List Tok) → after s (a ++ r) ≡ None
not_first s h (by_number n q) r = refl
not_first s h (by_text t q) r = refl
not_first s h (by_param p q) r = refl
not_first s h (by_word w q) r = refl
not_first {φ = φ} s h (by_sign t q i) r =
    ap (λ b. if b then Some (q ++ r) else None) (unlike φ s t h i)

-- a base begins with no prefix operator
no_prefix : (s : Sign) → begins_base s ≡ true → prefix_op s ≡ None
no_prefix sign.Plus h = absurd (cc)
no_prefix sign.Not h = absurd (cc)
no_prefix _ h = refl

pub no_prefix_first : {a : List Tok} → Begins begins_base a → (r : List Tok) →
    after_sign prefix_op (a ++ r) ≡ None
no_prefix_first (by_number n q) r = refl
no_prefix_first (by_text t q) r = refl
no_prefix_first (by_param p q) r = refl
no_prefix_first (by_word w q) r = refl
no_prefix_first (by_sign s q i) r = ap (option_map (λ b. (b, q ++ r))) (no_prefix s i)

-- what each level begins with
name_begins : {a : List Tok} {w : List ℕ} → IsName a w → Begins begins_base a
name_begins (name_word w) = by_word w []
name_begins (name_within v w) = by_word v _

carets_begin : {a : List Tok} {n : ℕ} → AreCarets a n → Begins begins_base a
carets_begin carets_one = by_sign sign.Caret [] refl
carets_begin (carets_more h) = by_sign sign.Caret _ refl

pub base_begins : {a : List Tok} {e : Expression} → IsBase a e → Begins begins_base a
base_begins (base_constant w h) = by_word w []
base_begins (base_number n) = by_number n []
base_begins (base_text t) = by_text t []
base_begins (base_param p) = by_param p []
base_begins (base_word w h) = by_word w []
base_begins base_this = by_sign sign.At [] refl
base_begins base_everything = by_sign sign.Star [] refl
base_begins (base_parent h) = carets_begin h
base_begins (base_round h) = by_sign sign.OpenParen _ refl
base_begins (base_call h) = begins_append _ (name_begins h)
base_begins (base_call_with h k) = begins_append _ (name_begins h)
base_begins (base_array h) = by_sign sign.OpenBracket _ refl
base_begins (base_object h) = by_sign sign.OpenBrace _ refl

pub chain_begins : {a : List Tok} {e : Expression} → IsChain a e → Begins begins_base a
chain_begins (chain_base h k) = begins_append _ (base_begins h)

pub pre_begins : {a : List Tok} {ps : List PreSign} {e : Expression} → IsPre a ps e →
    Begins begins_pre a
pre_begins (pre_chain h) = wider base_pre (chain_begins h)
pre_begins (pre_more s h k) = by_sign s _ (prefix_pre s h)

pub pow_begins : {a : List Tok} {e : Expression} {xs : List (BinSign × Expression)} →
    IsPow a e xs → Begins begins_pre a
pow_begins (pow_pre h) = pre_begins h
pow_begins (pow_more h k) = begins_append _ (pre_begins h)

neg_begins : {a : List Tok} {ps : List PreSign} {e : Expression} → IsNeg a ps e →
    Begins begins_expr a
neg_begins (neg_pow h) = wider pre_expr (pow_begins h)
neg_begins (neg_minus h) = by_sign sign.Minus _ refl

prod_begins : {a : List Tok} {e : Expression} {xs : List (BinSign × Expression)} → IsProd a e xs →
    Begins begins_expr a
prod_begins (prod_neg h) = neg_begins h
prod_begins (prod_more s h k l) = begins_append _ (prod_begins h)

pub sum_begins : {a : List Tok} {e : Expression} {xs : List (BinSign × Expression)} →
    IsSum a e xs → Begins begins_expr a
sum_begins (sum_prod h) = prod_begins h
sum_begins (sum_more s h k l) = begins_append _ (sum_begins h)

cmp_begins : {a : List Tok} {e : Expression} → IsCmp a e → Begins begins_expr a
cmp_begins (cmp_sum h) = sum_begins h
cmp_begins (cmp_op s h k l) = begins_append _ (sum_begins h)
cmp_begins (cmp_match h k) = begins_append _ (sum_begins h)
cmp_begins (cmp_in h k) = begins_append _ (sum_begins h)
cmp_begins (cmp_range s h k l m) = begins_append _ (sum_begins h)

and_begins : {a : List Tok} {e : Expression} {xs : List (BinSign × Expression)} → IsAnd a e xs →
    Begins begins_expr a
and_begins (and_cmp h) = cmp_begins h
and_begins (and_more h k) = begins_append _ (and_begins h)

pub expr_begins : {a : List Tok} {e : Expression} {xs : List (BinSign × Expression)} →
    IsExpr a e xs → Begins begins_expr a
expr_begins (expr_and h) = and_begins h
expr_begins (expr_or h k) = begins_append _ (expr_begins h)

-- arguments and keys
argument_begins : {a : List Tok} {x : Argument} → IsArgument a x → Begins begins_expr a
argument_begins (argument_one h) = expr_begins h
argument_begins (argument_when h k) = begins_append _ (expr_begins h)

pub arguments_begin : {a : List Tok} {xs : List Argument} → AreArguments a xs →
    Begins begins_expr a
arguments_begin (arguments_last h) = argument_begins h
arguments_begin (arguments_more h k) = begins_append _ (argument_begins h)

key_begins : {a : List Tok} {k : OrderKey} → IsKey a k → Begins begins_expr a
key_begins (key_plain h) = expr_begins h
key_begins (key_asc h) = begins_append _ (expr_begins h)
key_begins (key_desc h) = begins_append _ (expr_begins h)

pub keys_begin : {a : List Tok} {ks : List OrderKey} → AreKeys a ks → Begins begins_expr a
keys_begin (keys_last h) = key_begins h
keys_begin (keys_more h k) = begins_append _ (key_begins h)
