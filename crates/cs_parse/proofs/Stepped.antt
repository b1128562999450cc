-- One step of reading gives the same over two oracles that do below the step.
use Rattle.std.proofs.Common.{◌≡◌, ℕ, suc, ◌+◌, ◌*◌, ◌<◌, ◌≤◌, List, [], ◌∷◌, length, Option, Some, arith}
use Rattle.std.specs.Prelude.{codes}
use Rattle.cs_grammar.specs.declared.level.Level.{Level}
use Rattle.cs_grammar.specs.declared.level.Level.TheVariants as level
use Rattle.cs_syntax.specs.declared.sign.Sign.{Sign}
use Rattle.cs_syntax.specs.declared.sign.Sign.TheVariants as sign
use Rattle.cs_syntax.specs.declared.tree.BinSign.{BinSign}
use Rattle.cs_syntax.specs.declared.tree.PreSign.{PreSign}
use Rattle.cs_syntax.specs.Expression.{Tok, number_tok, text_tok, param_tok, word_tok, sign_tok, Expression, Step, Entry, Element, Argument, OrderKey}
use Rattle.cs_grammar.specs.Spells.{comparison_op, prefix_op, range_of}
use Rattle.cs_grammar.specs.Reading.{Goal, expr, expr_from, conjunction, cmp, cmp_from, sum, product, run_from, neg_from, pow, pow_from, pre_from, link, base, carets_from, steps_from, arrow_from, bracket_from, pipe_from, keys_from, next_key, args_from, arg_from, next_arg, elements_from, next_element, entries_from, keyed_from, next_entry, Outcome, fail, got, bind, Oracle, match_after, expect, after, after_sign, after_word, after_keyword, after_attribute, after_caret, op_of, operand_of, read_goal, read_call, read_word, read_sign, read_projection, read_keyed_pipe, read_in, read_spread, read_expr_from, read_cmp, read_run, read_neg, read_pow, read_pre, read_base, read_carets, read_steps, read_arrow, read_bracket, read_pipe, read_keys, read_next_key, read_arg, read_next_arg, read_elements, read_next_element, read_entries, read_keyed, read_next_entry}
use Rattle.cs_syntax.specs.Brackets.{text_alone}
use Rattle.cs_parse.proofs.Same.{Same, same_fail, same_got, weaker, same_bind, same_match, shorter_sign, shorter_table, shorter_word, shorter_keyword, shorter_attribute, shorter_caret}

-- how many steps may nest before a token is taken: a goal that is reached without one has a lower
-- rank than the goal before it
abbrev pub rank : Goal → ℕ
rank expr = 7
rank (expr_from e) = 1
rank conjunction = 8
rank cmp = 7
rank sum = 6
rank product = 5
rank (neg_from ps) = 4
rank pow = 3
rank (pre_from ps) = 2
rank link = 1
rank (arrow_from e ss) = 1
rank (bracket_from e ss) = 7
rank (keys_from e ss w ks) = 8
rank (args_from w xs) = 8
rank (arg_from w xs e) = 1
rank (elements_from xs) = 8
rank (entries_from xs) = 8
rank (keyed_from xs e) = 1
rank _ = 0

-- both oracles give the same wherever fewer than n steps are left
pub record Agree (f p : Oracle) (n : ℕ) : Type 0 where
  pub agree : (g : Goal) (ts : List Tok) → 9 * length ts + rank g < n →
      Same (length ts) (f g ts) (p g ts)

-- what is made of an oracle gives the same over both
pub record Holds (f p : Oracle) (n : ℕ) (φ : Oracle → Outcome) : Type 0 where
  pub same : Same n (φ f) (φ p)

module _ {f p : Oracle} {n : ℕ} where
  by_got : (e : Expression) (r : List Tok) → length r ≤ n → Holds f p n (λ o. got e r)
  by_got e r h = record { same = same_got e r h }

  by_fail : Holds f p n (λ o. fail)
  by_fail = record { same = same_fail }

  by_bind : {m : ℕ} {φ : Oracle → Outcome} (k : Oracle → Expression → List Tok → Outcome) →
      Holds f p m φ →
      ((e : Expression) (r : List Tok) → length r ≤ m → Holds f p n (λ o. k o e r)) →
      Holds f p n (λ o. bind (φ o) (k o))
  by_bind k a b = record { same = same_bind (k f) (k p) a.same (λ e r h. (b e r h).same) }

  by_match : {A : Type 0} (x : Option A) (k : Oracle → A → Outcome) (d : Oracle → Outcome) →
      ((a : A) → x ≡ Some a → Holds f p n (λ o. k o a)) → Holds f p n d →
      Holds f p n (λ o. match_after x (k o) (d o))
  by_match x k d a b =
      record { same = same_match x (k f) (k p) (d f) (d p) (λ v h. (a v h).same) b.same }

  by_sign : (s : Sign) (ts : List Tok) (k : Oracle → List Tok → Outcome) (d : Oracle → Outcome) →
      ((r : List Tok) → length r < length ts → Holds f p n (λ o. k o r)) → Holds f p n d →
      Holds f p n (λ o. match_after (after s ts) (k o) (d o))
  by_sign s ts k d a b = by_match (after s ts) k d (λ r h. a r (shorter_sign s ts h)) b

  by_expect : (s : Sign) (ts : List Tok) (k : Oracle → List Tok → Outcome) →
      ((r : List Tok) → length r < length ts → Holds f p n (λ o. k o r)) →
      Holds f p n (λ o. expect s ts (k o))
  by_expect s ts k a = by_sign s ts k (λ o. fail) a by_fail

  by_table : {A : Type 0} (φ : Sign → Option A) (ts : List Tok) (k : Oracle → A × List Tok →
      Outcome) (d : Oracle → Outcome) →
      ((x : A × List Tok) → length x.1 < length ts → Holds f p n (λ o. k o x)) → Holds f p n d →
      Holds f p n (λ o. match_after (after_sign φ ts) (k o) (d o))
  by_table φ ts k d a b = by_match (after_sign φ ts) k d (λ x h. a x (shorter_table φ ts x h)) b

  by_word : (ts : List Tok) (k : Oracle → List ℕ × List Tok → Outcome) (d : Oracle → Outcome) →
      ((x : List ℕ × List Tok) → length x.1 < length ts → Holds f p n (λ o. k o x)) →
      Holds f p n d → Holds f p n (λ o. match_after (after_word ts) (k o) (d o))
  by_word ts k d a b = by_match (after_word ts) k d (λ x h. a x (shorter_word ts x h)) b

  by_keyword : (w : List ℕ) (ts : List Tok) (k : Oracle → List Tok → Outcome) (d : Oracle →
      Outcome) →
      ((r : List Tok) → length r < length ts → Holds f p n (λ o. k o r)) → Holds f p n d →
      Holds f p n (λ o. match_after (after_keyword w ts) (k o) (d o))
  by_keyword w ts k d a b =
      by_match (after_keyword w ts) k d (λ r h. a r (shorter_keyword w ts h)) b

module _ {f p : Oracle} {N : ℕ} (H : Agree f p N) where
  by_call : {n : ℕ} (g : Goal) (ts : List Tok) → length ts ≤ n → 9 * length ts + rank g < N →
      Holds f p n (λ o. o g ts)
  by_call g ts l d = record { same = weaker l (H.agree g ts d) }

  -- a call, and what is read behind it
  by_first : {n : ℕ} (g : Goal) (ts : List Tok) (k : Oracle → Expression → List Tok → Outcome) →
      9 * length ts + rank g < N →
      ((e : Expression) (r : List Tok) → length r ≤ length ts → Holds f p n (λ o. k o e r)) →
      Holds f p n (λ o. bind (o g ts) (k o))
  by_first g ts k d a = by_bind k (record { same = H.agree g ts d }) a

  h_expr_from : (e : Expression) (ts : List Tok) → 9 * length ts + 1 < suc N →
      Holds f p (length ts) (λ o. read_expr_from o e ts)
  h_expr_from e ts d =
      by_first (cmp_from e) ts _ (omega arith) (λ c r h.
      by_first (run_from level.And c []) r _ (omega arith)
      (λ b s i. by_call (run_from level.Or b []) s (omega arith) (omega arith)))

  h_in : {n : ℕ} (e : Expression) (r : List Tok) → length r ≤ n → 9 * length r + 6 < N →
      Holds f p n (λ o. read_in o e r)
  h_in {n = n} e r l d =
      by_first sum r _ d (λ b s h.
      by_table range_of s _ _
      (λ x i. by_first sum x.1 _ (omega arith) (λ c u j. by_got _ u (omega arith)))
      (by_got _ s (omega arith)))

  h_cmp : (e : Expression) (ts : List Tok) → 9 * length ts + 0 < suc N →
      Holds f p (length ts) (λ o. read_cmp o e ts)
  h_cmp e ts d =
      by_table comparison_op ts _ _
      (λ x i. by_first sum x.1 _ (omega arith) (λ b s j. by_got _ s (omega arith)))
      (by_keyword (codes "match") ts _ _
      (λ r i. by_first sum r _ (omega arith) (λ b s j. by_got _ s (omega arith)))
      (by_keyword (codes "in") ts _ _ (λ r i. h_in e r (omega arith) (omega arith))
      (by_got e ts (omega arith))))

  rank_operand : (l : Level) → rank (operand_of l) ≤ 8
  rank_operand level.Or = omega arith
  rank_operand level.And = omega arith
  rank_operand level.Sum = omega arith
  rank_operand level.Product = omega arith

  h_run : (l : Level) (e : Expression) (xs : List (BinSign × Expression)) (ts : List Tok) →
      9 * length ts + 0 < suc N → Holds f p (length ts) (λ o. read_run o l e xs ts)
  h_run l e xs ts d =
      by_table (op_of l) ts _ _
      (λ x i. by_first (operand_of l) x.1 _ (let k = rank_operand l in
      omega arith) (λ b s j. by_call (run_from l e _) s (omega arith) (omega arith)))
      (by_got _ ts (omega arith))

  h_neg : (ps : List PreSign) (ts : List Tok) → 9 * length ts + 4 < suc N →
      Holds f p (length ts) (λ o. read_neg o ps ts)
  h_neg ps ts d =
      by_sign sign.Minus ts _ _ (λ r h. by_call (neg_from _) r (omega arith) (omega arith))
      (by_first pow ts _ (omega arith) (λ e r h. by_got _ r h))

  h_pow : (e : Expression) (xs : List (BinSign × Expression)) (ts : List Tok) →
      9 * length ts + 0 < suc N → Holds f p (length ts) (λ o. read_pow o e xs ts)
  h_pow e xs ts d =
      by_sign sign.StarStar ts _ _
      (λ r h. by_first (pre_from []) r _ (omega arith)
      (λ b s i. by_call (pow_from e _) s (omega arith) (omega arith)))
      (by_got _ ts (omega arith))

  h_pre : (ps : List PreSign) (ts : List Tok) → 9 * length ts + 2 < suc N →
      Holds f p (length ts) (λ o. read_pre o ps ts)
  h_pre ps ts d =
      by_table prefix_op ts _ _ (λ x h. by_call (pre_from _) x.1 (omega arith) (omega arith))
      (by_first link ts _ (omega arith) (λ e r h. by_got _ r h))

  -- behind the bracket that opens a call
  h_call : {n : ℕ} (w : List ℕ) (r : List Tok) → length r ≤ n → 9 * length r + 8 < N →
      Holds f p n (λ o. read_call o w r)
  h_call w r l d =
      by_sign sign.CloseParen r _ _ (λ s h. by_got _ s (omega arith))
      (by_call (args_from w []) r l d)

  h_word : {n : ℕ} (w : List ℕ) (r : List Tok) → length r ≤ n → 9 * length r < N →
      Holds f p n (λ o. read_word o w r)
  h_word w r l d =
      by_sign sign.OpenParen r _ _ (λ s h. h_call w s (omega arith) (omega arith))
      (by_sign sign.ColonColon r _ _
      (λ s h. by_word s _ _
      (λ x i. by_expect sign.OpenParen x.1 _ (λ t j. h_call _ t (omega arith) (omega arith)))
      by_fail)
      (by_got _ r l))

  h_sign : {n : ℕ} (s : Sign) (r : List Tok) → length r ≤ n → 9 * length r + 8 < N →
      Holds f p n (λ o. read_sign o s r)
  h_sign sign.OpenParen r l d =
      by_first expr r _ (omega arith)
      (λ e t h. by_expect sign.CloseParen t _ (λ u i. by_got _ u (omega arith)))
  h_sign sign.OpenBracket r l d = by_call (elements_from []) r l d
  h_sign sign.OpenBrace r l d = by_call (entries_from []) r l d
  h_sign sign.At r l d = by_got _ r l
  h_sign sign.Star r l d = by_got _ r l
  h_sign sign.Caret r l d = by_call (carets_from 1) r l (omega arith)
  h_sign _ r l d = by_fail

  h_base : (ts : List Tok) → 9 * length ts + 0 < suc N →
      Holds f p (length ts) (λ o. read_base o ts)
  h_base [] d = by_fail
  h_base (number_tok n ∷ r) d = by_got _ r (omega arith)
  h_base (text_tok n ∷ r) d = by_got _ r (omega arith)
  h_base (param_tok n ∷ r) d = by_got _ r (omega arith)
  h_base (word_tok w ∷ r) d = h_word w r (omega arith) (omega arith)
  h_base (sign_tok x ∷ r) d = h_sign x r (omega arith) (omega arith)

  h_carets : (m : ℕ) (ts : List Tok) → 9 * length ts + 0 < suc N →
      Holds f p (length ts) (λ o. read_carets o m ts)
  h_carets m ts d = by_match (after_caret ts) _ _ (λ r h. let l = shorter_caret ts h in
      by_call (carets_from (suc m)) r (omega arith) (omega arith)) (by_got _ ts (omega arith))

  h_projection : {n : ℕ} (e : Expression) (ss : List Step) (r : List Tok) → length r ≤ n →
      9 * length r + 8 < N → Holds f p n (λ o. read_projection o e ss r)
  h_projection e ss r l d =
      by_first (entries_from []) r _ d
      (λ b s h. by_call (steps_from e _) s (omega arith) (omega arith))

  h_steps : (e : Expression) (ss : List Step) (ts : List Tok) → 9 * length ts + 0 < suc N →
      Holds f p (length ts) (λ o. read_steps o e ss ts)
  h_steps e ss ts d =
      by_sign sign.Dot ts _ _
      (λ r h. by_word r _ _ (λ x i. by_call (steps_from e _) x.1 (omega arith) (omega arith))
      by_fail)
      (by_sign sign.Arrow ts _ _ (λ r h. by_call (arrow_from e _) r (omega arith) (omega arith))
      (by_sign sign.OpenBracket ts _ _
      (λ r h. by_call (bracket_from e ss) r (omega arith) (omega arith))
      (by_sign sign.OpenBrace ts _ _ (λ r h. h_projection e ss r (omega arith) (omega arith))
      (by_sign sign.Pipe ts _ _ (λ r h. by_call (pipe_from e ss) r (omega arith) (omega arith))
      (by_got _ ts (omega arith))))))

  h_arrow : (e : Expression) (ss : List Step) (ts : List Tok) → 9 * length ts + 1 < suc N →
      Holds f p (length ts) (λ o. read_arrow o e ss ts)
  h_arrow e ss ts d =
      by_match (after_attribute ts) _ _ (λ x h. let l = shorter_attribute ts x h in
      by_call (steps_from e _) x.1 (omega arith) (omega arith))
      (by_call (steps_from e ss) ts (omega arith) (omega arith))

  h_bracket : (e : Expression) (ss : List Step) (ts : List Tok) → 9 * length ts + 7 < suc N →
      Holds f p (length ts) (λ o. read_bracket o e ss ts)
  h_bracket e ss ts d =
      by_sign sign.CloseBracket ts _ _
      (λ r h. by_call (steps_from e _) r (omega arith) (omega arith))
      (by_first sum ts _ (omega arith) (λ a r h.
      by_table range_of r _ _
      (λ x i. by_first sum x.1 _ (omega arith)
      (λ b t j. by_expect sign.CloseBracket t _
      (λ u k. by_call (steps_from e _) u (omega arith) (omega arith))))
      (by_first (expr_from a) r _ (omega arith)
      (λ c t j. by_expect sign.CloseBracket t _
      (λ u k. by_call (steps_from e _) u (omega arith) (omega arith))))))

  h_keyed_pipe : {n : ℕ} (e : Expression) (ss : List Step) (w : List ℕ) (r : List Tok) →
      length r ≤ n → 9 * length r + 8 < N → Holds f p n (λ o. read_keyed_pipe o e ss w r)
  h_keyed_pipe e ss w r l d =
      by_sign sign.CloseParen r _ _
      (λ s h. by_call (steps_from e _) s (omega arith) (omega arith))
      (by_call (keys_from e ss w []) r l d)

  h_pipe : (e : Expression) (ss : List Step) (ts : List Tok) → 9 * length ts + 0 < suc N →
      Holds f p (length ts) (λ o. read_pipe o e ss ts)
  h_pipe e ss ts d =
      by_sign sign.OpenBrace ts _ _ (λ r h. h_projection e ss r (omega arith) (omega arith))
      (by_word ts _ _
      (λ x h. by_sign sign.ColonColon x.1 _ _
      (λ s i. by_word s _ _
      (λ y j. by_expect sign.OpenParen y.1 _
      (λ t k. h_keyed_pipe e ss _ t (omega arith) (omega arith))) by_fail)
      (by_expect sign.OpenParen x.1 _ (λ t k. h_keyed_pipe e ss _ t (omega arith) (omega arith))))
      by_fail)

  h_keys : (e : Expression) (ss : List Step) (w : List ℕ) (ks : List OrderKey) (ts : List Tok) →
      9 * length ts + 8 < suc N → Holds f p (length ts) (λ o. read_keys o e ss w ks ts)
  h_keys e ss w ks ts d =
      by_first expr ts _ (omega arith) (λ k r h.
      by_keyword (codes "asc") r _ _
      (λ s i. by_call (next_key e ss w _) s (omega arith) (omega arith))
      (by_keyword (codes "desc") r _ _
      (λ s i. by_call (next_key e ss w _) s (omega arith) (omega arith))
      (by_call (next_key e ss w _) r h (omega arith))))

  h_next_key : (e : Expression) (ss : List Step) (w : List ℕ) (ks : List OrderKey)
      (ts : List Tok) → 9 * length ts + 0 < suc N →
      Holds f p (length ts) (λ o. read_next_key o e ss w ks ts)
  h_next_key e ss w ks ts d =
      by_sign sign.Comma ts _ _
      (λ s h. by_call (keys_from e ss w ks) s (omega arith) (omega arith))
      (by_expect sign.CloseParen ts _
      (λ s h. by_call (steps_from e _) s (omega arith) (omega arith)))

  h_arg : (w : List ℕ) (xs : List Argument) (e : Expression) (ts : List Tok) →
      9 * length ts + 1 < suc N → Holds f p (length ts) (λ o. read_arg o w xs e ts)
  h_arg w xs e ts d =
      by_sign sign.FatArrow ts _ _
      (λ r h. by_first expr r _ (omega arith)
      (λ v s i. by_call (next_arg w _) s (omega arith) (omega arith)))
      (by_call (next_arg w _) ts (omega arith) (omega arith))

  h_next_arg : (w : List ℕ) (xs : List Argument) (ts : List Tok) → 9 * length ts + 0 < suc N →
      Holds f p (length ts) (λ o. read_next_arg o w xs ts)
  h_next_arg w xs ts d =
      by_sign sign.Comma ts _ _ (λ s h. by_call (args_from w xs) s (omega arith) (omega arith))
      (by_expect sign.CloseParen ts _ (λ s h. by_got _ s (omega arith)))

  h_elements : (xs : List Element) (ts : List Tok) → 9 * length ts + 8 < suc N →
      Holds f p (length ts) (λ o. read_elements o xs ts)
  h_elements xs ts d =
      by_sign sign.CloseBracket ts _ _ (λ r h. by_got _ r (omega arith))
      (by_sign sign.DotDotDot ts _ _
      (λ r h. by_first expr r _ (omega arith)
      (λ e s i. by_call (next_element _) s (omega arith) (omega arith)))
      (by_first expr ts _ (omega arith) (λ e r h. by_call (next_element _) r h (omega arith))))

  h_next_element : (xs : List Element) (ts : List Tok) → 9 * length ts + 0 < suc N →
      Holds f p (length ts) (λ o. read_next_element o xs ts)
  h_next_element xs ts d =
      by_sign sign.Comma ts _ _ (λ s h. by_call (elements_from xs) s (omega arith) (omega arith))
      (by_expect sign.CloseBracket ts _ (λ s h. by_got _ s (omega arith)))

  h_spread : {n : ℕ} (xs : List Entry) (r : List Tok) → length r ≤ n → 9 * length r + 8 < N →
      Holds f p n (λ o. read_spread o xs r)
  h_spread xs r l d =
      by_sign sign.Comma r _ _ (λ _ h. by_call (next_entry _) r l (omega arith))
      (by_sign sign.CloseBrace r _ _ (λ _ h. by_call (next_entry _) r l (omega arith))
      (by_first expr r _ (omega arith)
      (λ e s h. by_call (next_entry _) s (omega arith) (omega arith))))

  h_keyed : (xs : List Entry) (e : Expression) (ts : List Tok) → 9 * length ts + 1 < suc N →
      Holds f p (length ts) (λ o. read_keyed o xs e ts)
  h_keyed xs e ts d =
      by_sign sign.FatArrow ts _ _
      (λ s h. by_first expr s _ (omega arith)
      (λ v t i. by_call (next_entry _) t (omega arith) (omega arith)))
      (by_match (text_alone e) _ _
      (λ k is. by_sign sign.Colon ts _ _
      (λ s h. by_first expr s _ (omega arith)
      (λ v t i. by_call (next_entry _) t (omega arith) (omega arith)))
      (by_call (next_entry _) ts (omega arith) (omega arith)))
      (by_call (next_entry _) ts (omega arith) (omega arith)))

  h_entries : (xs : List Entry) (ts : List Tok) → 9 * length ts + 8 < suc N →
      Holds f p (length ts) (λ o. read_entries o xs ts)
  h_entries xs ts d =
      by_sign sign.CloseBrace ts _ _ (λ r h. by_got _ r (omega arith))
      (by_sign sign.DotDotDot ts _ _ (λ r h. h_spread xs r (omega arith) (omega arith))
      (by_first expr ts _ (omega arith) (λ e r h. by_call (keyed_from xs e) r h (omega arith))))

  h_next_entry : (xs : List Entry) (ts : List Tok) → 9 * length ts + 0 < suc N →
      Holds f p (length ts) (λ o. read_next_entry o xs ts)
  h_next_entry xs ts d =
      by_sign sign.Comma ts _ _ (λ s h. by_call (entries_from xs) s (omega arith) (omega arith))
      (by_expect sign.CloseBrace ts _ (λ s h. by_got _ s (omega arith)))

  -- one step
  stepped : (g : Goal) (ts : List Tok) → 9 * length ts + rank g < suc N →
      Holds f p (length ts) (λ o. read_goal o g ts)
  stepped expr ts d =
      by_first sum ts _ (omega arith) (λ e r h. by_call (expr_from e) r h (omega arith))
  stepped (expr_from e) ts d = h_expr_from e ts d
  stepped conjunction ts d =
      by_first cmp ts _ (omega arith)
      (λ c r h. by_call (run_from level.And c []) r h (omega arith))
  stepped cmp ts d =
      by_first sum ts _ (omega arith) (λ e r h. by_call (cmp_from e) r h (omega arith))
  stepped (cmp_from e) ts d = h_cmp e ts d
  stepped sum ts d =
      by_first product ts _ (omega arith)
      (λ e r h. by_call (run_from level.Sum e []) r h (omega arith))
  stepped product ts d =
      by_first (neg_from []) ts _ (omega arith)
      (λ e r h. by_call (run_from level.Product e []) r h (omega arith))
  stepped (run_from l e xs) ts d = h_run l e xs ts d
  stepped (neg_from ps) ts d = h_neg ps ts d
  stepped pow ts d =
      by_first (pre_from []) ts _ (omega arith)
      (λ e r h. by_call (pow_from e []) r h (omega arith))
  stepped (pow_from e xs) ts d = h_pow e xs ts d
  stepped (pre_from ps) ts d = h_pre ps ts d
  stepped link ts d =
      by_first base ts _ (omega arith) (λ e r h. by_call (steps_from e []) r h (omega arith))
  stepped base ts d = h_base ts d
  stepped (carets_from n) ts d = h_carets n ts d
  stepped (steps_from e ss) ts d = h_steps e ss ts d
  stepped (arrow_from e ss) ts d = h_arrow e ss ts d
  stepped (bracket_from e ss) ts d = h_bracket e ss ts d
  stepped (pipe_from e ss) ts d = h_pipe e ss ts d
  stepped (keys_from e ss w ks) ts d = h_keys e ss w ks ts d
  stepped (next_key e ss w ks) ts d = h_next_key e ss w ks ts d
  stepped (args_from w xs) ts d =
      by_first expr ts _ (omega arith) (λ e r h. by_call (arg_from w xs e) r h (omega arith))
  stepped (arg_from w xs e) ts d = h_arg w xs e ts d
  stepped (next_arg w xs) ts d = h_next_arg w xs ts d
  stepped (elements_from xs) ts d = h_elements xs ts d
  stepped (next_element xs) ts d = h_next_element xs ts d
  stepped (entries_from xs) ts d = h_entries xs ts d
  stepped (keyed_from xs e) ts d = h_keyed xs e ts d
  stepped (next_entry xs) ts d = h_next_entry xs ts d

  pub step_agrees : Agree (read_goal f) (read_goal p) (suc N)
  step_agrees = record { agree = λ g ts d. (stepped g ts d).same }
