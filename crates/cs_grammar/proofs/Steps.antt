-- What each step of reading gives: expressions, operators and bases. A rule asks for what stands
-- first, and not for what does not stand there: where one sign stands, no other does.
use Rattle.std.proofs.Common.{◌≡◌, ℕ, suc, List, [], ◌∷◌, ◌++◌, Bool, true, false, Some, None, refl, sym, subst, true≢false}
use Rattle.std.specs.Prelude.{codes}
use Rattle.cs_grammar.specs.declared.level.Level.{Level}
use Rattle.cs_grammar.specs.declared.level.Level.TheVariants as level
use Rattle.cs_syntax.specs.declared.sign.Sign.{Sign}
use Rattle.cs_syntax.specs.declared.sign.Sign.TheVariants as sign
use Rattle.cs_syntax.specs.declared.tree.BinSign.{BinSign}
use Rattle.cs_syntax.specs.declared.tree.BinSign.TheVariants as op
use Rattle.cs_syntax.specs.declared.tree.PreSign.{PreSign}
use Rattle.cs_syntax.specs.declared.tree.PreSign.TheVariants as pre
use Rattle.cs_syntax.specs.Expression.{Tok, number_tok, text_tok, param_tok, sign_tok, Expression, number_literal, text_literal, param, this, everything, parent, round, call, within, between, arguments_of, run_of, prefix_of}
use Rattle.cs_grammar.specs.Spells.{constant_of, comparison_op, prefix_op, range_of}
use Rattle.cs_grammar.specs.Reading.{Goal, expr, expr_from, conjunction, cmp, cmp_from, sum, product, run_from, neg_from, pow, pow_from, pre_from, link, base, carets_from, steps_from, args_from, elements_from, entries_from, Outcome, fail, got, after, after_sign, after_word, after_keyword, after_caret, op_of, operand_of, plain_word, name_of_words, read_sign, Gives, Reads}
use Rattle.cs_grammar.proofs.Given.{by_const, by_call, by_bind, by_fail, by_some, by_none, by_step}
use Rattle.cs_grammar.proofs.Behind.{after_is, after_word_is, signs_apart, no_sign, keywords_apart}

-- a first part, and what goes on behind it
module _ {ts r : List Tok} {e : Expression} {o : Outcome} where
  pub reads_expr : Reads sum ts (got e r) → Reads (expr_from e) r o → Reads expr ts o
  reads_expr a b = by_step (by_bind _ (by_call a) (by_call b))

  pub reads_conjunction : Reads cmp ts (got e r) → Reads (run_from level.And e []) r o →
      Reads conjunction ts o
  reads_conjunction a b = by_step (by_bind _ (by_call a) (by_call b))

  pub reads_cmp : Reads sum ts (got e r) → Reads (cmp_from e) r o → Reads cmp ts o
  reads_cmp a b = by_step (by_bind _ (by_call a) (by_call b))

  pub reads_sum : Reads product ts (got e r) → Reads (run_from level.Sum e []) r o → Reads sum ts o
  reads_sum a b = by_step (by_bind _ (by_call a) (by_call b))

  pub reads_product : Reads (neg_from []) ts (got e r) → Reads (run_from level.Product e []) r o →
      Reads product ts o
  reads_product a b = by_step (by_bind _ (by_call a) (by_call b))

  pub reads_pow : Reads (pre_from []) ts (got e r) → Reads (pow_from e []) r o → Reads pow ts o
  reads_pow a b = by_step (by_bind _ (by_call a) (by_call b))

  pub reads_link : Reads base ts (got e r) → Reads (steps_from e []) r o → Reads link ts o
  reads_link a b = by_step (by_bind _ (by_call a) (by_call b))

-- no first part
module _ {ts : List Tok} where
  pub reads_expr_fail : Reads sum ts fail → Reads expr ts fail
  reads_expr_fail a = by_step (by_fail _ (by_call a))

  pub reads_conjunction_fail : Reads cmp ts fail → Reads conjunction ts fail
  reads_conjunction_fail a = by_step (by_fail _ (by_call a))

  pub reads_cmp_fail : Reads sum ts fail → Reads cmp ts fail
  reads_cmp_fail a = by_step (by_fail _ (by_call a))

  pub reads_sum_fail : Reads product ts fail → Reads sum ts fail
  reads_sum_fail a = by_step (by_fail _ (by_call a))

  pub reads_product_fail : Reads (neg_from []) ts fail → Reads product ts fail
  reads_product_fail a = by_step (by_fail _ (by_call a))

  pub reads_pow_fail : Reads (pre_from []) ts fail → Reads pow ts fail
  reads_pow_fail a = by_step (by_fail _ (by_call a))

  pub reads_link_fail : Reads base ts fail → Reads link ts fail
  reads_link_fail a = by_step (by_fail _ (by_call a))

-- an expression behind its first sum: the rest of a comparison, then of `&&`, then of `||`
module _ {ts : List Tok} {e : Expression} where
  pub reads_expr_from : {r s : List Tok} {c d : Expression} {o : Outcome} →
      Reads (cmp_from e) ts (got c r) → Reads (run_from level.And c []) r (got d s) →
      Reads (run_from level.Or d []) s o → Reads (expr_from e) ts o
  reads_expr_from a b c = by_step (by_bind _ (by_call a) (by_bind _ (by_call b) (by_call c)))

  pub reads_expr_from_cmp_fail : Reads (cmp_from e) ts fail → Reads (expr_from e) ts fail
  reads_expr_from_cmp_fail a = by_step (by_fail _ (by_call a))

  pub reads_expr_from_and_fail : {r : List Tok} {c : Expression} →
      Reads (cmp_from e) ts (got c r) → Reads (run_from level.And c []) r fail →
      Reads (expr_from e) ts fail
  reads_expr_from_and_fail a b = by_step (by_bind _ (by_call a) (by_fail _ (by_call b)))

-- a comparison behind its first sum
module _ {ts : List Tok} {e : Expression} where
  pub reads_cmp_op : {p : BinSign} {r s : List Tok} {b : Expression} →
      after_sign comparison_op ts ≡ Some (p, r) → Reads sum r (got b s) →
      Reads (cmp_from e) ts (got (run_of e ((p, b) ∷ [])) s)
  reads_cmp_op h a = by_step (by_some _ _ h (by_bind _ (by_call a) (by_const _)))

  pub reads_cmp_op_fail : {p : BinSign} {r : List Tok} →
      after_sign comparison_op ts ≡ Some (p, r) → Reads sum r fail → Reads (cmp_from e) ts fail
  reads_cmp_op_fail h a = by_step (by_some _ _ h (by_fail _ (by_call a)))

  pub reads_match : {r s : List Tok} {b : Expression} →
      after_keyword (codes "match") ts ≡ Some r → Reads sum r (got b s) →
      Reads (cmp_from e) ts (got (run_of e ((op.Match, b) ∷ [])) s)
  reads_match h a =
      by_step (by_none _ _ (no_sign comparison_op (codes "match") ts h)
      (by_some _ _ h (by_bind _ (by_call a) (by_const _))))

  pub reads_match_fail : {r : List Tok} → after_keyword (codes "match") ts ≡ Some r →
      Reads sum r fail → Reads (cmp_from e) ts fail
  reads_match_fail h a =
      by_step (by_none _ _ (no_sign comparison_op (codes "match") ts h)
      (by_some _ _ h (by_fail _ (by_call a))))

  pub reads_cmp_end : after_sign comparison_op ts ≡ None →
      after_keyword (codes "match") ts ≡ None → after_keyword (codes "in") ts ≡ None →
      Reads (cmp_from e) ts (got e ts)
  reads_cmp_end h i j = by_step (by_none _ _ h (by_none _ _ i (by_none _ _ j (by_const _))))

-- `in`, alone and with a range
module _ {ts r : List Tok} {e : Expression} (h : after_keyword (codes "in") ts ≡ Some r) where
  pub reads_in : {s : List Tok} {b : Expression} → Reads sum r (got b s) →
      after_sign range_of s ≡ None → Reads (cmp_from e) ts (got (within e b) s)
  reads_in a k =
      by_step (by_none _ _ (no_sign comparison_op (codes "in") ts h)
      (by_none _ _ (keywords_apart (codes "match") (codes "in") ts h refl)
      (by_some _ _ h (by_bind _ (by_call a) (by_none _ _ k (by_const _))))))

  pub reads_in_fail : Reads sum r fail → Reads (cmp_from e) ts fail
  reads_in_fail a =
      by_step (by_none _ _ (no_sign comparison_op (codes "in") ts h)
      (by_none _ _ (keywords_apart (codes "match") (codes "in") ts h refl)
      (by_some _ _ h (by_fail _ (by_call a)))))

  pub reads_range : {closed : Bool} {s t u : List Tok} {b c : Expression} →
      Reads sum r (got b s) → after_sign range_of s ≡ Some (closed, t) → Reads sum t (got c u) →
      Reads (cmp_from e) ts (got (between e b c closed) u)
  reads_range a k d =
      by_step
      (by_none _ _ (no_sign comparison_op (codes "in") ts h)
      (by_none _ _ (keywords_apart (codes "match") (codes "in") ts h refl)
      (by_some _ _ h
      (by_bind _ (by_call a) (by_some _ _ k (by_bind _ (by_call d) (by_const _)))))))

  pub reads_range_fail : {closed : Bool} {s t : List Tok} {b : Expression} →
      Reads sum r (got b s) → after_sign range_of s ≡ Some (closed, t) → Reads sum t fail →
      Reads (cmp_from e) ts fail
  reads_range_fail a k d =
      by_step
      (by_none _ _ (no_sign comparison_op (codes "in") ts h)
      (by_none _ _ (keywords_apart (codes "match") (codes "in") ts h refl)
      (by_some _ _ h (by_bind _ (by_call a) (by_some _ _ k (by_fail _ (by_call d)))))))

-- a run that groups from the left: an operator and its operand, or the end
module _ {l : Level} {ts : List Tok} {e : Expression} {xs : List (BinSign × Expression)} where
  pub reads_run : {p : BinSign} {r s : List Tok} {b : Expression} {o : Outcome} →
      after_sign (op_of l) ts ≡ Some (p, r) → Reads (operand_of l) r (got b s) →
      Reads (run_from l e (xs ++ ((p, b) ∷ []))) s o → Reads (run_from l e xs) ts o
  reads_run h a b = by_step (by_some _ _ h (by_bind _ (by_call a) (by_call b)))

  pub reads_run_operand_fail : {p : BinSign} {r : List Tok} →
      after_sign (op_of l) ts ≡ Some (p, r) → Reads (operand_of l) r fail →
      Reads (run_from l e xs) ts fail
  reads_run_operand_fail h a = by_step (by_some _ _ h (by_fail _ (by_call a)))

  pub reads_run_end : after_sign (op_of l) ts ≡ None →
      Reads (run_from l e xs) ts (got (run_of e xs) ts)
  reads_run_end h = by_step (by_none _ _ h (by_const _))

-- `-` in front
module _ {ts : List Tok} {ps : List PreSign} where
  pub reads_minus : {r : List Tok} {o : Outcome} → after sign.Minus ts ≡ Some r →
      Reads (neg_from (ps ++ (pre.Minus ∷ []))) r o → Reads (neg_from ps) ts o
  reads_minus h a = by_step (by_some _ _ h (by_call a))

  pub reads_neg : {r : List Tok} {e : Expression} → after sign.Minus ts ≡ None →
      Reads pow ts (got e r) → Reads (neg_from ps) ts (got (prefix_of ps e) r)
  reads_neg h a = by_step (by_none _ _ h (by_bind _ (by_call a) (by_const _)))

  pub reads_neg_fail : after sign.Minus ts ≡ None → Reads pow ts fail → Reads (neg_from ps) ts fail
  reads_neg_fail h a = by_step (by_none _ _ h (by_fail _ (by_call a)))

-- `**`
module _ {ts : List Tok} {e : Expression} {xs : List (BinSign × Expression)} where
  pub reads_stars : {r s : List Tok} {b : Expression} {o : Outcome} →
      after sign.StarStar ts ≡ Some r → Reads (pre_from []) r (got b s) →
      Reads (pow_from e (xs ++ ((op.Pow, b) ∷ []))) s o → Reads (pow_from e xs) ts o
  reads_stars h a b = by_step (by_some _ _ h (by_bind _ (by_call a) (by_call b)))

  pub reads_stars_fail : {r : List Tok} → after sign.StarStar ts ≡ Some r →
      Reads (pre_from []) r fail → Reads (pow_from e xs) ts fail
  reads_stars_fail h a = by_step (by_some _ _ h (by_fail _ (by_call a)))

  pub reads_pow_end : after sign.StarStar ts ≡ None →
      Reads (pow_from e xs) ts (got (run_of e xs) ts)
  reads_pow_end h = by_step (by_none _ _ h (by_const _))

-- `+` and `!` in front
module _ {ts : List Tok} {ps : List PreSign} where
  pub reads_prefix : {p : PreSign} {r : List Tok} {o : Outcome} →
      after_sign prefix_op ts ≡ Some (p, r) → Reads (pre_from (ps ++ (p ∷ []))) r o →
      Reads (pre_from ps) ts o
  reads_prefix h a = by_step (by_some _ _ h (by_call a))

  pub reads_pre : {r : List Tok} {e : Expression} → after_sign prefix_op ts ≡ None →
      Reads link ts (got e r) → Reads (pre_from ps) ts (got (prefix_of ps e) r)
  reads_pre h a = by_step (by_none _ _ h (by_bind _ (by_call a) (by_const _)))

  pub reads_pre_fail : after_sign prefix_op ts ≡ None → Reads link ts fail →
      Reads (pre_from ps) ts fail
  reads_pre_fail h a = by_step (by_none _ _ h (by_fail _ (by_call a)))

-- what reading gives from tokens that are the same
pub reads_at : {g : Goal} {ts us : List Tok} {o : Outcome} → ts ≡ us → Reads g us o → Reads g ts o
reads_at {g = g} {o = o} h a = subst (λ z. Reads g z o) (sym h) a

-- bases that are one token
module _ {ts r : List Tok} where
  pub reads_number : {n : List ℕ} → ts ≡ number_tok n ∷ r →
      Reads base ts (got (number_literal n) r)
  reads_number h = reads_at h (by_step (by_const _))

  pub reads_text : {t : List ℕ} → ts ≡ text_tok t ∷ r → Reads base ts (got (text_literal t) r)
  reads_text h = reads_at h (by_step (by_const _))

  pub reads_param : {p : List ℕ} → ts ≡ param_tok p ∷ r → Reads base ts (got (param p) r)
  reads_param h = reads_at h (by_step (by_const _))

  pub reads_this : after sign.At ts ≡ Some r → Reads base ts (got this r)
  reads_this h = reads_at (after_is sign.At ts h) (by_step (by_const _))

  pub reads_everything : after sign.Star ts ≡ Some r → Reads base ts (got everything r)
  reads_everything h = reads_at (after_is sign.Star ts h) (by_step (by_const _))

-- a word alone, a call by one word, and one by two
module _ {ts r : List Tok} {w : List ℕ} (h : after_word ts ≡ Some (w, r)) where
  pub reads_word : after sign.OpenParen r ≡ None → after sign.ColonColon r ≡ None →
      Reads base ts (got (plain_word w (constant_of w)) r)
  reads_word i j =
      reads_at (after_word_is ts h) (by_step (by_none _ _ i (by_none _ _ j (by_const _))))

  pub reads_call : {s t : List Tok} → after sign.OpenParen r ≡ Some s →
      after sign.CloseParen s ≡ Some t → Reads base ts (got (call w (arguments_of [])) t)
  reads_call i j =
      reads_at (after_word_is ts h) (by_step (by_some _ _ i (by_some _ _ j (by_const _))))

  pub reads_call_with : {s : List Tok} {o : Outcome} → after sign.OpenParen r ≡ Some s →
      after sign.CloseParen s ≡ None → Reads (args_from w []) s o → Reads base ts o
  reads_call_with i j a =
      reads_at (after_word_is ts h) (by_step (by_some _ _ i (by_none _ _ j (by_call a))))

  module _ {s : List Tok} (i : after sign.ColonColon r ≡ Some s) where
    pub reads_name_open : after_word s ≡ None → Reads base ts fail
    reads_name_open j =
        reads_at (after_word_is ts h)
        (by_step (by_none _ _ (signs_apart sign.OpenParen sign.ColonColon r i refl)
        (by_some _ _ i (by_none _ _ j (by_const _)))))

    module _ {v : List ℕ} {t : List Tok} (j : after_word s ≡ Some (v, t)) where
      pub reads_name_alone : after sign.OpenParen t ≡ None → Reads base ts fail
      reads_name_alone k =
          reads_at (after_word_is ts h)
          (by_step (by_none _ _ (signs_apart sign.OpenParen sign.ColonColon r i refl)
          (by_some _ _ i (by_some _ _ j (by_none _ _ k (by_const _))))))

      pub reads_name_call : {u q : List Tok} → after sign.OpenParen t ≡ Some u →
          after sign.CloseParen u ≡ Some q →
          Reads base ts (got (call (name_of_words w v) (arguments_of [])) q)
      reads_name_call k l =
          reads_at (after_word_is ts h)
          (by_step (by_none _ _ (signs_apart sign.OpenParen sign.ColonColon r i refl)
          (by_some _ _ i (by_some _ _ j (by_some _ _ k (by_some _ _ l (by_const _)))))))

      pub reads_name_call_with : {u : List Tok} {o : Outcome} → after sign.OpenParen t ≡ Some u →
          after sign.CloseParen u ≡ None → Reads (args_from (name_of_words w v) []) u o → Reads base ts o
      reads_name_call_with k l a =
          reads_at (after_word_is ts h)
          (by_step (by_none _ _ (signs_apart sign.OpenParen sign.ColonColon r i refl)
          (by_some _ _ i (by_some _ _ j (by_some _ _ k (by_none _ _ l (by_call a)))))))

-- bases that a sign begins
module _ {ts r : List Tok} where
  pub reads_round : {s t : List Tok} {e : Expression} → after sign.OpenParen ts ≡ Some r →
      Reads expr r (got e s) → after sign.CloseParen s ≡ Some t → Reads base ts (got (round e) t)
  reads_round h a i =
      reads_at (after_is sign.OpenParen ts h)
      (by_step (by_bind _ (by_call a) (by_some _ _ i (by_const _))))

  pub reads_round_fail : after sign.OpenParen ts ≡ Some r → Reads expr r fail → Reads base ts fail
  reads_round_fail h a = reads_at (after_is sign.OpenParen ts h) (by_step (by_fail _ (by_call a)))

  pub reads_round_open : {s : List Tok} {e : Expression} → after sign.OpenParen ts ≡ Some r →
      Reads expr r (got e s) → after sign.CloseParen s ≡ None → Reads base ts fail
  reads_round_open h a i =
      reads_at (after_is sign.OpenParen ts h)
      (by_step (by_bind _ (by_call a) (by_none _ _ i (by_const _))))

  pub reads_array : {o : Outcome} → after sign.OpenBracket ts ≡ Some r →
      Reads (elements_from []) r o → Reads base ts o
  reads_array h a = reads_at (after_is sign.OpenBracket ts h) (by_step (by_call a))

  pub reads_object : {o : Outcome} → after sign.OpenBrace ts ≡ Some r →
      Reads (entries_from []) r o → Reads base ts o
  reads_object h a = reads_at (after_is sign.OpenBrace ts h) (by_step (by_call a))

  pub reads_parent : {o : Outcome} → after sign.Caret ts ≡ Some r → Reads (carets_from 1) r o →
      Reads base ts o
  reads_parent h a = reads_at (after_is sign.Caret ts h) (by_step (by_call a))

-- carets
module _ {ts : List Tok} {n : ℕ} where
  pub reads_caret : {r : List Tok} {o : Outcome} → after_caret ts ≡ Some r →
      Reads (carets_from (suc n)) r o → Reads (carets_from n) ts o
  reads_caret h a = by_step (by_some _ _ h (by_call a))

  pub reads_carets_end : after_caret ts ≡ None → Reads (carets_from n) ts (got (parent n) ts)
  reads_carets_end h = by_step (by_none _ _ h (by_const _))

-- whether a base begins with the sign
abbrev pub begins_base : Sign → Bool
begins_base sign.OpenParen = true
begins_base sign.OpenBracket = true
begins_base sign.OpenBrace = true
begins_base sign.At = true
begins_base sign.Star = true
begins_base sign.Caret = true
begins_base _ = false

-- no base
pub reads_nothing : {ts : List Tok} → ts ≡ [] → Reads base ts fail
reads_nothing h = reads_at h (by_step (by_const _))

no_base_sign : (s : Sign) (r : List Tok) → begins_base s ≡ false →
    Gives (λ f. read_sign f s r) fail
no_base_sign sign.OpenParen r h = absurd (true≢false h)
no_base_sign sign.OpenBracket r h = absurd (true≢false h)
no_base_sign sign.OpenBrace r h = absurd (true≢false h)
no_base_sign sign.At r h = absurd (true≢false h)
no_base_sign sign.Star r h = absurd (true≢false h)
no_base_sign sign.Caret r h = absurd (true≢false h)
no_base_sign _ r h = by_const _

pub reads_no_base : {ts r : List Tok} (s : Sign) → ts ≡ sign_tok s ∷ r → begins_base s ≡ false →
    Reads base ts fail
reads_no_base s h i = reads_at h (by_step (no_base_sign s _ i))
