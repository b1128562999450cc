-- What the tokens spell is read, whatever follows that does not go on with it.
use Rattle.std.proofs.Common.{◌≡◌, ℕ, suc, ◌+◌, List, [], ◌∷◌, ◌++◌, false, Some, None, refl, sym, ap, ◌∙◌, subst, append_assoc, append-nil, arith}
use Rattle.std.specs.Prelude.{codes, if◌then◌else◌}
use Rattle.cs_grammar.specs.declared.level.Level.TheVariants as level
use Rattle.cs_syntax.specs.declared.sign.Sign.TheVariants as sign
use Rattle.cs_syntax.specs.declared.tree.BinSign.{BinSign}
use Rattle.cs_syntax.specs.declared.tree.BinSign.TheVariants as op
use Rattle.cs_syntax.specs.declared.tree.PreSign.{PreSign}
use Rattle.cs_syntax.specs.declared.tree.PreSign.TheVariants as pre
use Rattle.cs_syntax.specs.Expression.{Tok, text_tok, word_tok, sign_tok, Expression, text_literal, this, parent, round, call, array, object_literal, within, between, Step, attr, deref, pipe, Entry, spread, Element, Argument, OrderKey, entries_of, elements_of, arguments_of, keys_of, run_of, chain_of, prefix_of}
use Rattle.cs_grammar.specs.Spells.{is_keyword, comparison_op, prefix_op, range_of, IsName, name_word, name_within, AreCarets, carets_one, carets_more, IsExpr, expr_and, expr_or, IsAnd, and_cmp, and_more, IsCmp, cmp_sum, cmp_op, cmp_match, cmp_in, cmp_range, IsSum, sum_prod, sum_more, IsProd, prod_neg, prod_more, IsNeg, neg_pow, neg_minus, IsPow, pow_pre, pow_more, IsPre, pre_chain, pre_more, IsChain, chain_base, IsBase, base_constant, base_number, base_text, base_param, base_word, base_this, base_everything, base_parent, base_round, base_call, base_call_with, base_array, base_object, AreElements, elements_none, elements_last, elements_more, IsElement, element_one, element_spread, AreArguments, arguments_last, arguments_more, IsArgument, argument_one, argument_when, AreSteps, steps_none, steps_more, steps_arrow, IsStep, step_attr, step_deref, step_each, step_slice, step_bracket, step_project, step_piped_project, step_pipe, step_pipe_with, AreKeys, keys_last, keys_more, IsKey, key_plain, key_asc, key_desc, AreEntries, entries_none, entries_last, entries_more, IsEntry, entry_keyed, entry_bare, entry_when, entry_spread_this, entry_spread}
use Rattle.cs_grammar.specs.Reading.{expr, expr_from, conjunction, cmp, cmp_from, sum, product, run_from, neg_from, pow, pow_from, pre_from, link, base, carets_from, steps_from, keys_from, next_key, args_from, next_arg, elements_from, next_element, entries_from, next_entry, Outcome, got, after, after_sign, after_keyword, after_attribute, after_caret, op_of, plain_word, Reads}
use Rattle.cs_grammar.proofs.Behind.{sign_found}
use Rattle.cs_grammar.proofs.Steps.{reads_expr, reads_conjunction, reads_cmp, reads_sum, reads_product, reads_pow, reads_link, reads_expr_from, reads_cmp_op, reads_match, reads_in, reads_range, reads_cmp_end, reads_run, reads_run_end, reads_minus, reads_neg, reads_stars, reads_pow_end, reads_prefix, reads_pre, reads_number, reads_text, reads_param, reads_this, reads_everything, reads_word, reads_call, reads_call_with, reads_name_call, reads_name_call_with, reads_round, reads_array, reads_object, reads_parent, reads_caret, reads_carets_end}
use Rattle.cs_grammar.proofs.StepsInside.{reads_attr, reads_arrow, reads_square, reads_pipe, reads_projection, reads_piped_projection, reads_steps_end, reads_attribute, reads_no_attribute, reads_each, reads_slice, reads_bracket, reads_pipe_call, reads_pipe_call_with, reads_pipe_name_call, reads_pipe_name_call_with, reads_key_asc, reads_key_desc, reads_key, reads_key_comma, reads_keys_close, reads_arg, reads_when_argument, reads_argument, reads_arg_comma, reads_args_close, reads_elements_close, reads_spread_element, reads_element, reads_element_comma, reads_array_close, reads_entries_close, reads_entry, reads_entry_comma, reads_object_close, reads_spread_this_comma, reads_spread_this_close, reads_spread, reads_when, reads_keyed, reads_bare}
use Rattle.cs_grammar.proofs.First.{not_first, no_prefix_first, chain_begins, pow_begins, sum_begins, expr_begins, arguments_begin, keys_begin}
use Rattle.cs_grammar.proofs.Ends.{EndsBase, EndsChain, EndsPow, EndsProduct, EndsCmp, EndsAnd, EndsExpr, stars_end, product_end, sum_end, comparison_end, range_end, range_no_comparison, match_end, in_end, and_end, or_end, close_paren_end, close_bracket_end, close_brace_end, comma_end, fat_arrow_end, asc_end, desc_end, steps_end_base, steps_no_attribute}

-- a sum is read first, and then what goes on behind it: an expression, a conjunction, a comparison
pub record SumFirst (ts : List Tok) (o : Outcome) : Type 0 where
  pub left : Expression
  pub behind : List Tok
  pub reads : Reads sum ts (got left behind)
  pub range : after_sign range_of behind ≡ None
  pub goes_on : Reads (expr_from left) behind o

pub record AndFirst (ts : List Tok) (o : Outcome) : Type 0 where
  pub left : Expression
  pub behind : List Tok
  pub reads : Reads sum ts (got left behind)
  pub range : after_sign range_of behind ≡ None
  pub compared : Expression
  pub rest : List Tok
  pub compares : Reads (cmp_from left) behind (got compared rest)
  pub goes_on : Reads (run_from level.And compared []) rest o

pub record CmpFirst (ts : List Tok) (e : Expression) (r : List Tok) : Type 0 where
  pub left : Expression
  pub behind : List Tok
  pub reads : Reads sum ts (got left behind)
  pub range : after_sign range_of behind ≡ None
  pub goes_on : Reads (cmp_from left) behind (got e r)

-- an operand of `**` is read first, and then the others
pub record PowFirst (ts : List Tok) (f : Expression) (xs : List (BinSign
    × Expression)) (r : List Tok) : Type 0 where
  pub behind : List Tok
  pub reads : Reads (pre_from []) ts (got f behind)
  pub goes_on : (e : Expression) (acc : List (BinSign × Expression)) →
      Reads (pow_from e (acc ++ xs)) r (got (run_of e (acc ++ xs)) r) →
      Reads (pow_from e acc) behind (got (run_of e (acc ++ xs)) r)

-- what an entry is followed by
pub data IsEntryEnd : List Tok → Type 0 where
  by_comma : (r : List Tok) → IsEntryEnd (sign_tok sign.Comma ∷ r)
  by_brace : (r : List Tok) → IsEntryEnd (sign_tok sign.CloseBrace ∷ r)

-- what it says of each level that it is read where r follows
module _ (r : List Tok) where
  abbrev pub ExprReads : List Tok → Expression → List (BinSign × Expression) → Type 0
  ExprReads a e xs = EndsAnd r → (o : Outcome) → Reads (run_from level.Or e xs) r o →
      SumFirst (a ++ r) o

  abbrev pub AndReads : List Tok → Expression → List (BinSign × Expression) → Type 0
  AndReads a e xs = EndsCmp r → (o : Outcome) → Reads (run_from level.And e xs) r o →
      AndFirst (a ++ r) o

  abbrev pub CmpReads : List Tok → Expression → Type 0
  CmpReads a e = EndsCmp r → CmpFirst (a ++ r) e r

  abbrev pub SumReads : List Tok → Expression → List (BinSign × Expression) → Type 0
  SumReads a e xs = EndsProduct r → (o : Outcome) → Reads (run_from level.Sum e xs) r o →
      Reads sum (a ++ r) o

  abbrev pub ProdReads : List Tok → Expression → List (BinSign × Expression) → Type 0
  ProdReads a e xs = EndsPow r → (o : Outcome) → Reads (run_from level.Product e xs) r o →
      Reads product (a ++ r) o

  abbrev pub NegReads : List Tok → List PreSign → Expression → Type 0
  NegReads a ps e = EndsPow r → (acc : List PreSign) →
      Reads (neg_from acc) (a ++ r) (got (prefix_of (acc ++ ps) e) r)

  abbrev pub PowReads : List Tok → Expression → List (BinSign × Expression) → Type 0
  PowReads a f xs = EndsPow r → PowFirst (a ++ r) f xs r

  abbrev pub PreReads : List Tok → List PreSign → Expression → Type 0
  PreReads a ps e = EndsChain r → (acc : List PreSign) →
      Reads (pre_from acc) (a ++ r) (got (prefix_of (acc ++ ps) e) r)

  abbrev pub ChainReads : List Tok → Expression → Type 0
  ChainReads a e = EndsChain r → Reads link (a ++ r) (got e r)

  abbrev pub BaseReads : List Tok → Expression → Type 0
  BaseReads a e = EndsBase r → Reads base (a ++ r) (got e r)

  abbrev pub StepsRead : List Tok → List Step → Type 0
  StepsRead b ss = EndsChain r → (e : Expression) (acc : List Step) →
      Reads (steps_from e acc) (b ++ r) (got (chain_of e (acc ++ ss)) r)

  abbrev pub StepReads : List Tok → Step → Type 0
  StepReads a s = after_attribute r ≡ None → (e : Expression) (acc : List Step) (o : Outcome) →
      Reads (steps_from e (acc ++ (s ∷ []))) r o →
      Reads (steps_from e acc) (a ++ r) o

  abbrev pub KeysRead : List Tok → List OrderKey → Type 0
  KeysRead b ks =
      (e : Expression) (ss : List Step) (w : List ℕ) (acc : List OrderKey) (o : Outcome) →
      Reads (steps_from e (ss ++ (pipe w (keys_of (acc ++ ks)) ∷ []))) r o →
      Reads (keys_from e ss w acc) (b ++ (sign_tok sign.CloseParen ∷ r)) o

  abbrev pub KeyReads : List Tok → OrderKey → Type 0
  KeyReads a k = EndsExpr r → after_keyword (codes "asc") r ≡ None →
      after_keyword (codes "desc") r ≡ None →
      (e : Expression) (ss : List Step) (w : List ℕ) (acc : List OrderKey) (o : Outcome) →
      Reads (next_key e ss w (acc ++ (k ∷ []))) r o → Reads (keys_from e ss w acc) (a ++ r) o

  abbrev pub ArgumentsRead : List Tok → List Argument → Type 0
  ArgumentsRead b xs = (w : List ℕ) (acc : List Argument) →
      Reads (args_from w acc) (b
      ++ (sign_tok sign.CloseParen ∷ r)) (got (call w (arguments_of (acc ++ xs))) r)

  abbrev pub ArgumentReads : List Tok → Argument → Type 0
  ArgumentReads a x = EndsExpr r → after sign.FatArrow r ≡ None →
      (w : List ℕ) (acc : List Argument) (o : Outcome) → Reads (next_arg w (acc ++ (x ∷ []))) r o →
      Reads (args_from w acc) (a ++ r) o

  abbrev pub ElementsRead : List Tok → List Element → Type 0
  ElementsRead b xs = (acc : List Element) →
      Reads (elements_from acc) (b
      ++ (sign_tok sign.CloseBracket ∷ r)) (got (array (elements_of (acc ++ xs))) r)

  abbrev pub ElementReads : List Tok → Element → Type 0
  ElementReads a x = EndsExpr r → (acc : List Element) (o : Outcome) →
      Reads (next_element (acc ++ (x ∷ []))) r o → Reads (elements_from acc) (a ++ r) o

  abbrev pub EntriesRead : List Tok → List Entry → Type 0
  EntriesRead b xs = (acc : List Entry) →
      Reads (entries_from acc) (b
      ++ (sign_tok sign.CloseBrace ∷ r)) (got (object_literal (entries_of (acc ++ xs))) r)

  abbrev pub EntryReads : List Tok → Entry → Type 0
  EntryReads a x = IsEntryEnd r → (acc : List Entry) (o : Outcome) →
      Reads (next_entry (acc ++ (x ∷ []))) r o → Reads (entries_from acc) (a ++ r) o

-- from the first sum on
whole : {ts : List Tok} {o : Outcome} → SumFirst ts o → Reads expr ts o
whole f = reads_expr f.reads f.goes_on

cmp_whole : {ts r : List Tok} {e : Expression} → CmpFirst ts e r → Reads cmp ts (got e r)
cmp_whole f = reads_cmp f.reads f.goes_on

and_whole : {ts : List Tok} {o : Outcome} → AndFirst ts o → Reads conjunction ts o
and_whole f = reads_conjunction (reads_cmp f.reads f.compares) f.goes_on

pow_whole : {ts r : List Tok} {e : Expression} {xs : List (BinSign × Expression)} → EndsPow r →
    PowFirst ts e xs r → Reads pow ts (got (run_of e xs) r)
pow_whole {e = e} h f = reads_pow f.reads (f.goes_on e [] (reads_pow_end h.stars))

finish : {ts : List Tok} {e : Expression} {xs : List (BinSign × Expression)} (r : List Tok) →
    EndsExpr r →
    (EndsAnd r → (o : Outcome) → Reads (run_from level.Or e xs) r o → SumFirst ts o) →
    Reads expr ts (got (run_of e xs) r)
finish r k h = whole (h k.conjunction _ (reads_run_end k.or))

-- an entry's end
entry_expr_end : {r : List Tok} → IsEntryEnd r → EndsExpr r
entry_expr_end (by_comma r) = comma_end r
entry_expr_end (by_brace r) = close_brace_end r

entry_no_arrow : {r : List Tok} → IsEntryEnd r → after sign.FatArrow r ≡ None
entry_no_arrow (by_comma r) = refl
entry_no_arrow (by_brace r) = refl

entry_no_colon : {r : List Tok} → IsEntryEnd r → after sign.Colon r ≡ None
entry_no_colon (by_comma r) = refl
entry_no_colon (by_brace r) = refl

spread_this_reads : {r : List Tok} (acc : List Entry) (o : Outcome) → IsEntryEnd r →
    Reads (next_entry (acc ++ (spread this ∷ []))) r o →
    Reads (entries_from acc) (sign_tok sign.DotDotDot ∷ r) o
spread_this_reads acc o (by_comma r) n = reads_spread_this_comma refl refl n
spread_this_reads acc o (by_brace r) n = reads_spread_this_close refl refl n

-- a text alone, where `:` follows
pub text_reads : (k : List ℕ) (r : List Tok) →
    Reads expr (text_tok k ∷ sign_tok sign.Colon ∷ r)
    (got (text_literal k) (sign_tok sign.Colon ∷ r))
text_reads k r =
    reads_expr
    (reads_sum
    (reads_product
    (reads_neg refl
    (reads_pow (reads_pre refl
    (reads_link (reads_text refl) (reads_steps_end refl refl refl refl refl)))
    (reads_pow_end refl)))
    (reads_run_end refl))
    (reads_run_end refl))
    (reads_expr_from (reads_cmp_end refl refl refl) (reads_run_end refl) (reads_run_end refl))

-- carets
record CaretsRead (a : List Tok) (n : ℕ) (r : List Tok) : Type 0 where
  behind : List Tok
  is : a ≡ sign_tok sign.Caret ∷ behind
  reads : (m : ℕ) → Reads (carets_from (suc m)) (behind ++ r) (got (parent (m + n)) r)

carets_read : {a : List Tok} {n : ℕ} → AreCarets a n → (r : List Tok) → after_caret r ≡ None →
    CaretsRead a n r
carets_read carets_one r k = record {
  behind = [];
  is = refl;
  reads = λ m. let e : suc m ≡ m + 1 = omega arith in
      subst (λ z. Reads (carets_from (suc m)) r (got (parent z) r)) e (reads_carets_end k);
}
carets_read (carets_more {a = a} {n = n} h) r k =
    let c = carets_read h r k in
    record {
      behind = sign_tok sign.Dot ∷ a;
      is = refl;
      reads = λ m.
          let e : suc m + n ≡ m + suc n = omega arith in
          subst (λ z. Reads (carets_from (suc m)) (sign_tok sign.Dot ∷ (a
          ++ r)) (got (parent z) r)) e
          (subst (λ z. Reads (carets_from (suc m)) (sign_tok sign.Dot ∷ (z
          ++ r)) (got (parent (suc m + n)) r)) (sym c.is)
          (reads_caret refl (c.reads (suc m))));
    }

parent_reads : {a : List Tok} {n : ℕ} → AreCarets a n → (r : List Tok) → after_caret r ≡ None →
    Reads base (a ++ r) (got (parent n) r)
parent_reads {n = n} h r k =
    let c = carets_read h r k in
    let e : 0 + n ≡ n = omega arith in
    subst (λ z. Reads base (z
    ++ r) (got (parent n) r)) (sym c.is)
    (reads_parent refl (subst (λ z. Reads (carets_from 1) (c.behind
    ++ r) (got (parent z) r)) e (c.reads 0)))

-- calls by a name of one word or two
call_reads : {a : List Tok} {w : List ℕ} → IsName a w → (r : List Tok) →
    Reads base (a
    ++ (sign_tok sign.OpenParen ∷ sign_tok sign.CloseParen ∷ r)) (got (call w (arguments_of [])) r)
call_reads (name_word w) r = reads_call refl refl refl
call_reads (name_within v w) r = reads_name_call refl refl refl refl refl

call_with_reads : {a : List Tok} {w : List ℕ} {o : Outcome} → IsName a w → (r : List Tok) →
    after sign.CloseParen r ≡ None → Reads (args_from w []) r o →
    Reads base (a ++ (sign_tok sign.OpenParen ∷ r)) o
call_with_reads (name_word w) r k n = reads_call_with refl refl k n
call_with_reads (name_within v w) r k n = reads_name_call_with refl refl refl refl k n

module _ {e : Expression} {acc : List Step} {o : Outcome} where
  pipe_reads : {a : List Tok} {w : List ℕ} → IsName a w → (r : List Tok) →
      Reads (steps_from e (acc ++ (pipe w (keys_of []) ∷ []))) r o →
      Reads (steps_from e acc) (sign_tok sign.Pipe ∷ (a
      ++ (sign_tok sign.OpenParen ∷ sign_tok sign.CloseParen ∷ r))) o
  pipe_reads (name_word w) r n = reads_pipe refl (reads_pipe_call refl refl refl n)
  pipe_reads (name_within v w) r n =
      reads_pipe refl (reads_pipe_name_call refl refl refl refl refl n)

  pipe_with_reads : {a : List Tok} {w : List ℕ} → IsName a w → (r : List Tok) →
      after sign.CloseParen r ≡ None → Reads (keys_from e acc w []) r o →
      Reads (steps_from e acc) (sign_tok sign.Pipe ∷ (a ++ (sign_tok sign.OpenParen ∷ r))) o
  pipe_with_reads (name_word w) r k n = reads_pipe refl (reads_pipe_call_with refl refl k n)
  pipe_with_reads (name_within v w) r k n =
      reads_pipe refl (reads_pipe_name_call_with refl refl refl refl k n)

  arrow_reads : {w : List ℕ} (r : List Tok) → is_keyword w ≡ false →
      Reads (steps_from e ((acc ++ (deref ∷ [])) ++ (attr w ∷ []))) r o →
      Reads (steps_from e acc) (sign_tok sign.Arrow ∷ word_tok w ∷ r) o
  arrow_reads {w = w} r h n =
      reads_arrow refl (reads_attribute (ap (λ b. if b then None else Some (w, r)) h) n)

mutual
  pub expr_reads : {a : List Tok} {e : Expression} {xs : List (BinSign × Expression)} →
      IsExpr a e xs → (r : List Tok) → ExprReads r a e xs
  expr_reads (expr_and h) r k o n =
      let f = and_reads h r k.cmp _ (reads_run_end k.and) in
      record {
        left = f.left;
        behind = f.behind;
        reads = f.reads;
        range = f.range;
        goes_on =
            reads_expr_from f.compares f.goes_on n;
      }
  expr_reads (expr_or {a = a} {b = b} h j) r k o n =
      let f = and_reads j r k.cmp _ (reads_run_end k.and) in
      subst (λ z. SumFirst z o) (sym (append_assoc a (sign_tok sign.OrOr ∷ b) r))
      (expr_reads h (sign_tok sign.OrOr ∷ (b ++ r)) (or_end (b
      ++ r)) o (reads_run refl (and_whole f) n))

  pub and_reads : {a : List Tok} {e : Expression} {xs : List (BinSign × Expression)} →
      IsAnd a e xs → (r : List Tok) → AndReads r a e xs
  and_reads (and_cmp {e = e} h) r k o n =
      let f = cmp_reads h r k in
      record {
        left = f.left;
        behind = f.behind;
        reads = f.reads;
        range = f.range;
        compared =
            e;
        rest = r;
        compares = f.goes_on;
        goes_on = n;
      }
  and_reads (and_more {a = a} {b = b} h j) r k o n =
      subst (λ z. AndFirst z o) (sym (append_assoc a (sign_tok sign.AndAnd ∷ b) r))
      (and_reads h (sign_tok sign.AndAnd ∷ (b ++ r)) (and_end (b
      ++ r)) o (reads_run refl (cmp_whole (cmp_reads j r k)) n))

  pub cmp_reads : {a : List Tok} {e : Expression} → IsCmp a e → (r : List Tok) → CmpReads r a e
  cmp_reads (cmp_sum {e = e} {xs = xs} h) r k = record {
    left = run_of e xs;
    behind = r;
    reads = sum_reads h r k.sum.product _ (reads_run_end k.sum.sum);
    range = k.range;
    goes_on = reads_cmp_end k.comparison k.matches k.within;
  }
  cmp_reads (cmp_op {a = a} {b = b} {e = e} {f = f} {xs = xs} {ys = ys} {o = o} s h p j) r k =
      let ends = comparison_end s (b ++ r) p in
      subst (λ z. CmpFirst z (run_of (run_of e xs) ((o, run_of f ys) ∷ [])) r)
      (sym (append_assoc a (sign_tok s ∷ b) r))
      (record {
        left = run_of e xs;
        behind = sign_tok s ∷ (b ++ r);
        reads = sum_reads h (sign_tok s ∷ (b ++ r)) ends.product _ (reads_run_end ends.sum);
        range = range_no_comparison s (b ++ r) p;
        goes_on = reads_cmp_op (sign_found comparison_op s (b
            ++ r) p) (sum_reads j r k.sum.product _ (reads_run_end k.sum.sum));
      })
  cmp_reads (cmp_match {a = a} {b = b} {e = e} {f = f} {xs = xs} {ys = ys} h j) r k =
      let ends = match_end (b ++ r) in
      subst (λ z. CmpFirst z (run_of (run_of e xs) ((op.Match, run_of f ys) ∷ [])) r)
      (sym (append_assoc a (word_tok (codes "match") ∷ b) r))
      (record {
        left = run_of e xs;
        behind = word_tok (codes "match") ∷ (b ++ r);
        reads = sum_reads h (word_tok (codes "match") ∷ (b
            ++ r)) ends.product _ (reads_run_end ends.sum);
        range = refl;
        goes_on = reads_match refl (sum_reads j r k.sum.product _ (reads_run_end k.sum.sum));
      })
  cmp_reads (cmp_in {a = a} {b = b} {e = e} {f = f} {xs = xs} {ys = ys} h j) r k =
      let ends = in_end (b ++ r) in
      subst (λ z. CmpFirst z (within (run_of e xs) (run_of f ys)) r)
      (sym (append_assoc a (word_tok (codes "in") ∷ b) r))
      (record {
        left = run_of e xs;
        behind = word_tok (codes "in") ∷ (b ++ r);
        reads = sum_reads h (word_tok (codes "in") ∷ (b
            ++ r)) ends.product _ (reads_run_end ends.sum);
        range = refl;
        goes_on = reads_in refl (sum_reads j r k.sum.product _ (reads_run_end k.sum.sum)) k.range;
      })
  cmp_reads (cmp_range {a = a} {b = b} {c = c} {e = e} {f = f} {g = g} {xs = xs} {ys = ys} {zs =
      zs} {closed = closed} s h j p l) r k =
      let ends = in_end (b ++ (sign_tok s ∷ (c ++ r))) in
      let inner = range_end s (c ++ r) p in
      subst (λ z. CmpFirst z (between (run_of e xs) (run_of f ys) (run_of g zs) closed) r)
      (sym (append_assoc a (word_tok (codes "in") ∷ (b ++ (sign_tok s ∷ c))) r
      ∙ ap (λ z. a ++ (word_tok (codes "in") ∷ z)) (append_assoc b (sign_tok s ∷ c) r)))
      (record {
        left = run_of e xs;
        behind = word_tok (codes "in") ∷ (b ++ (sign_tok s ∷ (c ++ r)));
        reads = sum_reads h (word_tok (codes "in") ∷ (b
            ++ (sign_tok s ∷ (c ++ r)))) ends.product _ (reads_run_end ends.sum);
        range = refl;
        goes_on =
            reads_range refl (sum_reads j (sign_tok s ∷ (c
            ++ r)) inner.product _ (reads_run_end inner.sum)) (sign_found range_of s (c
            ++ r) p)
            (sum_reads l r k.sum.product _ (reads_run_end k.sum.sum));
      })

  pub sum_reads : {a : List Tok} {e : Expression} {xs : List (BinSign × Expression)} →
      IsSum a e xs → (r : List Tok) → SumReads r a e xs
  sum_reads (sum_prod h) r k o n = reads_sum (prod_reads h r k.pow _ (reads_run_end k.product)) n
  sum_reads (sum_more {a = a} {b = b} s h p j) r k o n =
      subst (λ z. Reads sum z o) (sym (append_assoc a (sign_tok s ∷ b) r))
      (sum_reads h (sign_tok s ∷ (b ++ r)) (sum_end s (b ++ r) p) o
      (reads_run (sign_found (op_of level.Sum) s (b
      ++ r) p) (prod_reads j r k.pow _ (reads_run_end k.product)) n))

  pub prod_reads : {a : List Tok} {e : Expression} {xs : List (BinSign × Expression)} →
      IsProd a e xs → (r : List Tok) → ProdReads r a e xs
  prod_reads (prod_neg h) r k o n = reads_product (neg_reads h r k []) n
  prod_reads (prod_more {a = a} {b = b} s h p j) r k o n =
      subst (λ z. Reads product z o) (sym (append_assoc a (sign_tok s ∷ b) r))
      (prod_reads h (sign_tok s ∷ (b ++ r)) (product_end s (b
      ++ r) p) o (reads_run (sign_found (op_of level.Product) s (b
      ++ r) p) (neg_reads j r k []) n))

  pub neg_reads : {a : List Tok} {ps : List PreSign} {e : Expression} → IsNeg a ps e →
      (r : List Tok) → NegReads r a ps e
  neg_reads {a = a} (neg_pow {e = e} {xs = xs} h) r k acc =
      subst (λ z. Reads (neg_from acc) (a
      ++ r) (got (prefix_of z (run_of e xs)) r)) (sym (append-nil acc))
      (reads_neg (not_first sign.Minus refl (pow_begins h) r) (pow_whole k (pow_reads h r k)))
  neg_reads (neg_minus {a = a} {e = e} {ps = ps} h) r k acc =
      subst (λ z. Reads (neg_from acc) (sign_tok sign.Minus ∷ (a
      ++ r)) (got (prefix_of z e) r)) (append_assoc acc (pre.Minus ∷ []) ps)
      (reads_minus refl (neg_reads h r k (acc ++ (pre.Minus ∷ []))))

  pub pow_reads : {a : List Tok} {e : Expression} {xs : List (BinSign × Expression)} →
      IsPow a e xs → (r : List Tok) → PowReads r a e xs
  pow_reads (pow_pre h) r k = record {
    behind = r;
    reads = pre_reads h r k.chain [];
    goes_on = λ e acc n. subst (λ z. Reads (pow_from e z) r (got (run_of e (acc
        ++ [])) r)) (append-nil acc) n;
  }
  pow_reads (pow_more {a = a} {b = b} {e = e} {f = f} {xs = xs} {ps = ps} h j) r k =
      let more = pow_reads j r k in
      subst (λ z. PowFirst z (prefix_of ps e) ((op.Pow, f) ∷ xs) r)
      (sym (append_assoc a (sign_tok sign.StarStar ∷ b) r))
      (record {
        behind = sign_tok sign.StarStar ∷ (b ++ r);
        reads = pre_reads h (sign_tok sign.StarStar ∷ (b ++ r)) (stars_end (b ++ r)) [];
        goes_on = λ g acc n.
            reads_stars refl more.reads
            (subst (λ z. Reads (pow_from g (acc
            ++ ((op.Pow, f) ∷ []))) more.behind (got (run_of g z) r))
            (append_assoc acc ((op.Pow, f) ∷ []) xs)
            (more.goes_on g (acc ++ ((op.Pow, f) ∷ []))
            (subst (λ z. Reads (pow_from g z) r (got (run_of g z) r))
            (sym (append_assoc acc ((op.Pow, f) ∷ []) xs)) n)));
      })

  pub pre_reads : {a : List Tok} {ps : List PreSign} {e : Expression} → IsPre a ps e →
      (r : List Tok) → PreReads r a ps e
  pre_reads {a = a} (pre_chain {e = e} h) r k acc =
      subst (λ z. Reads (pre_from acc) (a ++ r) (got (prefix_of z e) r)) (sym (append-nil acc))
      (reads_pre (no_prefix_first (chain_begins h) r) (chain_reads h r k))
  pre_reads (pre_more {a = a} {e = e} {ps = ps} {p = p} s i h) r k acc =
      subst (λ z. Reads (pre_from acc) (sign_tok s ∷ (a
      ++ r)) (got (prefix_of z e) r)) (append_assoc acc (p ∷ []) ps)
      (reads_prefix (sign_found prefix_op s (a ++ r) i) (pre_reads h r k (acc ++ (p ∷ []))))

  pub chain_reads : {a : List Tok} {e : Expression} → IsChain a e → (r : List Tok) →
      ChainReads r a e
  chain_reads (chain_base {a = a} {b = b} {e = e} {ss = ss} h j) r k =
      subst (λ z. Reads link z (got (chain_of e ss) r)) (sym (append_assoc a b r))
      (reads_link (base_reads h (b ++ r) (steps_end_base j r k.base)) (steps_read j r k e []))

  pub base_reads : {a : List Tok} {e : Expression} → IsBase a e → (r : List Tok) → BaseReads r a e
  base_reads (base_constant w h) r k =
      subst (λ z. Reads base (word_tok w ∷ r) (got (plain_word w z) r)) h
      (reads_word refl k.paren k.colons)
  base_reads (base_number n) r k = reads_number refl
  base_reads (base_text t) r k = reads_text refl
  base_reads (base_param p) r k = reads_param refl
  base_reads (base_word w h) r k =
      subst (λ z. Reads base (word_tok w ∷ r) (got (plain_word w z) r)) h
      (reads_word refl k.paren k.colons)
  base_reads base_this r k = reads_this refl
  base_reads base_everything r k = reads_everything refl
  base_reads (base_parent h) r k = parent_reads h r k.caret
  base_reads (base_round {a = a} {e = e} {xs = xs} h) r k =
      subst (λ z. Reads base (sign_tok sign.OpenParen ∷ z) (got (round (run_of e xs)) r))
      (sym (append_assoc a (sign_tok sign.CloseParen ∷ []) r))
      (reads_round refl
      (finish (sign_tok sign.CloseParen ∷ r) (close_paren_end r)
      (expr_reads h (sign_tok sign.CloseParen ∷ r))) refl)
  base_reads (base_call {a = a} {w = w} h) r k =
      subst (λ z. Reads base z (got (call w (arguments_of [])) r))
      (sym (append_assoc a (sign_tok sign.OpenParen ∷ sign_tok sign.CloseParen ∷ []) r))
      (call_reads h r)
  base_reads (base_call_with {a = a} {b = b} {w = w} {xs = xs} h j) r k =
      subst (λ z. Reads base z (got (call w (arguments_of xs)) r))
      (sym (append_assoc a (sign_tok sign.OpenParen ∷ (b ++ (sign_tok sign.CloseParen ∷ []))) r
      ∙ ap (λ z. a ++ (sign_tok sign.OpenParen ∷ z))
      (append_assoc b (sign_tok sign.CloseParen ∷ []) r)))
      (call_with_reads h (b
      ++ (sign_tok sign.CloseParen ∷ r))
      (not_first sign.CloseParen refl (arguments_begin j) (sign_tok sign.CloseParen ∷ r))
      (arguments_read j r w []))
  base_reads (base_array {a = a} {xs = xs} h) r k =
      subst (λ z. Reads base (sign_tok sign.OpenBracket ∷ z) (got (array (elements_of xs)) r))
      (sym (append_assoc a (sign_tok sign.CloseBracket ∷ []) r))
      (reads_array refl (elements_read h r []))
  base_reads (base_object {a = a} {xs = xs} h) r k =
      subst (λ z. Reads base (sign_tok sign.OpenBrace ∷ z)
      (got (object_literal (entries_of xs)) r))
      (sym (append_assoc a (sign_tok sign.CloseBrace ∷ []) r))
      (reads_object refl (entries_read h r []))

  pub steps_read : {b : List Tok} {ss : List Step} → AreSteps b ss → (r : List Tok) →
      StepsRead r b ss
  steps_read steps_none r k e acc =
      subst (λ z. Reads (steps_from e acc) r (got (chain_of e z) r)) (sym (append-nil acc))
      (reads_steps_end k.dot k.arrow k.bracket k.brace k.pipe)
  steps_read (steps_more {a = a} {b = b} {s = s} {ss = ss} h j) r k e acc =
      subst (λ z. Reads (steps_from e acc) z (got (chain_of e (acc
      ++ (s ∷ ss))) r)) (sym (append_assoc a b r))
      (step_reads h (b ++ r) (steps_no_attribute j r k.attribute) e acc _
      (subst (λ z. Reads (steps_from e (acc ++ (s ∷ []))) (b
      ++ r) (got (chain_of e z) r)) (append_assoc acc (s ∷ []) ss)
      (steps_read j r k e (acc ++ (s ∷ [])))))
  steps_read (steps_arrow {b = b} {ss = ss} w h j) r k e acc =
      subst (λ z. Reads (steps_from e acc) (sign_tok sign.Arrow ∷ word_tok w ∷ (b
      ++ r)) (got (chain_of e z) r))
      (append_assoc (acc ++ (deref ∷ [])) (attr w ∷ []) ss
      ∙ append_assoc acc (deref ∷ []) (attr w ∷ ss))
      (arrow_reads (b ++ r) h (steps_read j r k e ((acc ++ (deref ∷ [])) ++ (attr w ∷ []))))

  pub step_reads : {a : List Tok} {s : Step} → IsStep a s → (r : List Tok) → StepReads r a s
  step_reads (step_attr w) r k e acc o n = reads_attr refl refl n
  step_reads step_deref r k e acc o n = reads_arrow refl (reads_no_attribute k n)
  step_reads step_each r k e acc o n = reads_square refl (reads_each refl n)
  step_reads (step_slice {a = a} {b = b} s h p j) r k e acc o n =
      let first = range_end s (b ++ (sign_tok sign.CloseBracket ∷ r)) p in
      let last = (close_bracket_end r).conjunction.cmp.sum in
      subst (λ z. Reads (steps_from e acc) (sign_tok sign.OpenBracket ∷ z) o)
      (sym (append_assoc a (sign_tok s ∷ (b ++ (sign_tok sign.CloseBracket ∷ []))) r
      ∙ ap (λ z. a ++ (sign_tok s ∷ z)) (append_assoc b (sign_tok sign.CloseBracket ∷ []) r)))
      (reads_square refl
      (reads_slice (not_first sign.CloseBracket refl (sum_begins h) _)
      (sum_reads h (sign_tok s ∷ (b
      ++ (sign_tok sign.CloseBracket ∷ r))) first.product _ (reads_run_end first.sum))
      (sign_found range_of s (b ++ (sign_tok sign.CloseBracket ∷ r)) p)
      (sum_reads j (sign_tok sign.CloseBracket ∷ r) last.product _ (reads_run_end last.sum)) refl
      n))
  step_reads (step_bracket {a = a} {e = c} {xs = xs} h) r k e acc o n =
      let first = expr_reads h (sign_tok sign.CloseBracket ∷ r) (close_bracket_end r).conjunction
      (got (run_of c xs) (sign_tok sign.CloseBracket ∷ r)) (reads_run_end refl) in
      subst (λ z. Reads (steps_from e acc) (sign_tok sign.OpenBracket ∷ z) o)
      (sym (append_assoc a (sign_tok sign.CloseBracket ∷ []) r))
      (reads_square refl (reads_bracket (not_first sign.CloseBracket refl (expr_begins h) _)
      first.reads first.range first.goes_on refl n))
  step_reads (step_project {a = a} h) r k e acc o n =
      subst (λ z. Reads (steps_from e acc) (sign_tok sign.OpenBrace ∷ z) o)
      (sym (append_assoc a (sign_tok sign.CloseBrace ∷ []) r))
      (reads_projection refl (entries_read h r []) n)
  step_reads (step_piped_project {a = a} h) r k e acc o n =
      subst (λ z. Reads (steps_from e acc) (sign_tok sign.Pipe ∷ sign_tok sign.OpenBrace ∷ z) o)
      (sym (append_assoc a (sign_tok sign.CloseBrace ∷ []) r))
      (reads_pipe refl (reads_piped_projection refl (entries_read h r []) n))
  step_reads (step_pipe {a = a} h) r k e acc o n =
      subst (λ z. Reads (steps_from e acc) (sign_tok sign.Pipe ∷ z) o)
      (sym (append_assoc a (sign_tok sign.OpenParen ∷ sign_tok sign.CloseParen ∷ []) r))
      (pipe_reads h r n)
  step_reads (step_pipe_with {a = a} {b = b} {w = w} h j) r k e acc o n =
      subst (λ z. Reads (steps_from e acc) (sign_tok sign.Pipe ∷ z) o)
      (sym (append_assoc a (sign_tok sign.OpenParen ∷ (b ++ (sign_tok sign.CloseParen ∷ []))) r
      ∙ ap (λ z. a ++ (sign_tok sign.OpenParen ∷ z))
      (append_assoc b (sign_tok sign.CloseParen ∷ []) r)))
      (pipe_with_reads h (b
      ++ (sign_tok sign.CloseParen ∷ r))
      (not_first sign.CloseParen refl (keys_begin j) (sign_tok sign.CloseParen ∷ r))
      (keys_read j r e acc w [] o n))

  pub keys_read : {b : List Tok} {ks : List OrderKey} → AreKeys b ks → (r : List Tok) →
      KeysRead r b ks
  keys_read (keys_last h) r e ss w acc o n =
      key_reads h (sign_tok sign.CloseParen ∷ r) (close_paren_end r) refl refl e ss w acc o
      (reads_keys_close refl n)
  keys_read (keys_more {a = a} {b = b} {k = k} {ks = ks} h j) r e ss w acc o n =
      subst (λ z. Reads (keys_from e ss w acc) z o)
      (sym (append_assoc a (sign_tok sign.Comma ∷ b) (sign_tok sign.CloseParen ∷ r)))
      (key_reads h (sign_tok sign.Comma ∷ (b
      ++ (sign_tok sign.CloseParen ∷ r))) (comma_end _) refl refl e ss w acc o
      (reads_key_comma refl
      (keys_read j r e ss w (acc ++ (k ∷ [])) o
      (subst (λ z. Reads (steps_from e (ss
      ++ (pipe w (keys_of z) ∷ []))) r o) (sym (append_assoc acc (k ∷ []) ks)) n))))

  pub key_reads : {a : List Tok} {k : OrderKey} → IsKey a k → (r : List Tok) → KeyReads r a k
  key_reads (key_plain h) r k i j e ss w acc o n = reads_key (finish r k (expr_reads h r)) i j n
  key_reads (key_asc {a = a} h) r k i j e ss w acc o n =
      subst (λ z. Reads (keys_from e ss w acc) z o)
      (sym (append_assoc a (word_tok (codes "asc") ∷ []) r))
      (reads_key_asc
      (finish (word_tok (codes "asc") ∷ r) (asc_end r)
      (expr_reads h (word_tok (codes "asc") ∷ r))) refl n)
  key_reads (key_desc {a = a} h) r k i j e ss w acc o n =
      subst (λ z. Reads (keys_from e ss w acc) z o)
      (sym (append_assoc a (word_tok (codes "desc") ∷ []) r))
      (reads_key_desc
      (finish (word_tok (codes "desc") ∷ r) (desc_end r)
      (expr_reads h (word_tok (codes "desc") ∷ r))) refl n)

  pub arguments_read : {b : List Tok} {xs : List Argument} → AreArguments b xs → (r : List Tok) →
      ArgumentsRead r b xs
  arguments_read (arguments_last h) r w acc =
      argument_reads h (sign_tok sign.CloseParen ∷ r) (close_paren_end r) refl w acc _
      (reads_args_close refl)
  arguments_read (arguments_more {a = a} {b = b} {x = x} {xs = xs} h j) r w acc =
      subst (λ z. Reads (args_from w acc) z (got (call w (arguments_of (acc
      ++ (x ∷ xs)))) r))
      (sym (append_assoc a (sign_tok sign.Comma ∷ b) (sign_tok sign.CloseParen ∷ r)))
      (argument_reads h (sign_tok sign.Comma ∷ (b
      ++ (sign_tok sign.CloseParen ∷ r))) (comma_end _) refl w acc _
      (reads_arg_comma refl
      (subst (λ z. Reads (args_from w (acc ++ (x ∷ []))) (b
      ++ (sign_tok sign.CloseParen ∷ r)) (got (call w (arguments_of z)) r))
      (append_assoc acc (x ∷ []) xs)
      (arguments_read j r w (acc ++ (x ∷ []))))))

  pub argument_reads : {a : List Tok} {x : Argument} → IsArgument a x → (r : List Tok) →
      ArgumentReads r a x
  argument_reads (argument_one h) r k i w acc o n =
      reads_arg (finish r k (expr_reads h r)) (reads_argument i n)
  argument_reads (argument_when {a = a} {b = b} h j) r k i w acc o n =
      subst (λ z. Reads (args_from w acc) z o)
      (sym (append_assoc a (sign_tok sign.FatArrow ∷ b) r))
      (reads_arg (finish (sign_tok sign.FatArrow ∷ (b ++ r)) (fat_arrow_end (b
      ++ r)) (expr_reads h (sign_tok sign.FatArrow ∷ (b ++ r))))
      (reads_when_argument refl (finish r k (expr_reads j r)) n))

  pub elements_read : {b : List Tok} {xs : List Element} → AreElements b xs → (r : List Tok) →
      ElementsRead r b xs
  elements_read elements_none r acc =
      subst (λ z. Reads (elements_from acc) (sign_tok sign.CloseBracket ∷ r)
      (got (array (elements_of z)) r)) (sym (append-nil acc)) (reads_elements_close refl)
  elements_read (elements_last h) r acc =
      element_reads h (sign_tok sign.CloseBracket ∷ r) (close_bracket_end r) acc _
      (reads_array_close refl)
  elements_read (elements_more {a = a} {b = b} {x = x} {xs = xs} h j) r acc =
      subst (λ z. Reads (elements_from acc) z (got (array (elements_of (acc
      ++ (x ∷ xs)))) r))
      (sym (append_assoc a (sign_tok sign.Comma ∷ b) (sign_tok sign.CloseBracket ∷ r)))
      (element_reads h (sign_tok sign.Comma ∷ (b
      ++ (sign_tok sign.CloseBracket ∷ r))) (comma_end _) acc _
      (reads_element_comma refl
      (subst (λ z. Reads (elements_from (acc ++ (x ∷ []))) (b
      ++ (sign_tok sign.CloseBracket ∷ r)) (got (array (elements_of z)) r))
      (append_assoc acc (x ∷ []) xs)
      (elements_read j r (acc ++ (x ∷ []))))))

  pub element_reads : {a : List Tok} {x : Element} → IsElement a x → (r : List Tok) →
      ElementReads r a x
  element_reads (element_one h) r k acc o n =
      reads_element (not_first sign.CloseBracket refl (expr_begins h) r)
      (not_first sign.DotDotDot refl (expr_begins h) r) (finish r k (expr_reads h r)) n
  element_reads (element_spread h) r k acc o n =
      reads_spread_element refl (finish r k (expr_reads h r)) n

  pub entries_read : {b : List Tok} {xs : List Entry} → AreEntries b xs → (r : List Tok) →
      EntriesRead r b xs
  entries_read entries_none r acc =
      subst (λ z. Reads (entries_from acc) (sign_tok sign.CloseBrace ∷ r)
      (got (object_literal (entries_of z)) r)) (sym (append-nil acc))
      (reads_entries_close refl)
  entries_read (entries_last h) r acc =
      entry_reads h (sign_tok sign.CloseBrace ∷ r) (by_brace r) acc _ (reads_object_close refl)
  entries_read (entries_more {a = a} {b = b} {x = x} {xs = xs} h j) r acc =
      subst (λ z. Reads (entries_from acc) z (got (object_literal (entries_of (acc
      ++ (x ∷ xs)))) r))
      (sym (append_assoc a (sign_tok sign.Comma ∷ b) (sign_tok sign.CloseBrace ∷ r)))
      (entry_reads h (sign_tok sign.Comma ∷ (b
      ++ (sign_tok sign.CloseBrace ∷ r))) (by_comma _) acc _
      (reads_entry_comma refl
      (subst (λ z. Reads (entries_from (acc ++ (x ∷ []))) (b
      ++ (sign_tok sign.CloseBrace ∷ r)) (got (object_literal (entries_of z)) r))
      (append_assoc acc (x ∷ []) xs)
      (entries_read j r (acc ++ (x ∷ []))))))

  pub entry_reads : {a : List Tok} {x : Entry} → IsEntry a x → (r : List Tok) → EntryReads r a x
  entry_reads (entry_keyed {a = a} k h) r c acc o n =
      reads_entry refl refl (text_reads k (a
      ++ r)) (reads_keyed refl refl (finish r (entry_expr_end c) (expr_reads h r)) n)
  entry_reads (entry_bare h) r c acc o n =
      reads_entry (not_first sign.CloseBrace refl (expr_begins h) r)
      (not_first sign.DotDotDot refl (expr_begins h) r)
      (finish r (entry_expr_end c) (expr_reads h r))
      (reads_bare (entry_no_arrow c) (entry_no_colon c) n)
  entry_reads (entry_when {a = a} {b = b} h j) r c acc o n =
      subst (λ z. Reads (entries_from acc) z o)
      (sym (append_assoc a (sign_tok sign.FatArrow ∷ b) r))
      (reads_entry (not_first sign.CloseBrace refl (expr_begins h) (sign_tok sign.FatArrow ∷ (b
      ++ r)))
      (not_first sign.DotDotDot refl (expr_begins h) (sign_tok sign.FatArrow ∷ (b ++ r)))
      (finish (sign_tok sign.FatArrow ∷ (b ++ r)) (fat_arrow_end (b
      ++ r)) (expr_reads h (sign_tok sign.FatArrow ∷ (b ++ r))))
      (reads_when refl (finish r (entry_expr_end c) (expr_reads j r)) n))
  entry_reads entry_spread_this r c acc o n = spread_this_reads acc o c n
  entry_reads (entry_spread h) r c acc o n =
      reads_spread refl (not_first sign.Comma refl (expr_begins h) r)
      (not_first sign.CloseBrace refl (expr_begins h) r)
      (finish r (entry_expr_end c) (expr_reads h r)) n

pub expr_read : {a : List Tok} {e : Expression} {xs : List (BinSign × Expression)} →
    IsExpr a e xs → (r : List Tok) → EndsExpr r → Reads expr (a ++ r) (got (run_of e xs) r)
expr_read h r k = finish r k (expr_reads h r)
