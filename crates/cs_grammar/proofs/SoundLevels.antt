-- What is read is spelled so: expressions, operators and chains.
use Rattle.std.proofs.Common.{◌≡◌, List, [], ◌∷◌, ◌++◌, Some, sym, ap, ◌∙◌, subst, append_assoc, append-nil}
use Rattle.std.specs.Prelude.{codes}
use Rattle.cs_grammar.specs.declared.level.Level.{Level}
use Rattle.cs_grammar.specs.declared.level.Level.TheVariants as level
use Rattle.cs_syntax.specs.declared.sign.Sign.{Sign}
use Rattle.cs_syntax.specs.declared.sign.Sign.TheVariants as sign
use Rattle.cs_syntax.specs.declared.tree.BinSign.{BinSign}
use Rattle.cs_syntax.specs.declared.tree.BinSign.TheVariants as op
use Rattle.cs_syntax.specs.declared.tree.PreSign.{PreSign}
use Rattle.cs_syntax.specs.declared.tree.PreSign.TheVariants as pre
use Rattle.cs_syntax.specs.Expression.{Tok, word_tok, sign_tok, Expression, within, between, run_of, prefix_of}
use Rattle.cs_grammar.specs.Spells.{comparison_op, prefix_op, range_of, IsExpr, expr_and, expr_or, IsAnd, and_cmp, and_more, IsCmp, cmp_sum, cmp_op, cmp_match, cmp_in, cmp_range, IsSum, sum_prod, sum_more, IsProd, prod_neg, prod_more, neg_pow, neg_minus, IsPow, pow_pre, pow_more, pre_chain, pre_more, IsChain, chain_base}
use Rattle.cs_grammar.specs.Reading.{Goal, expr, expr_from, conjunction, cmp, cmp_from, sum, product, run_from, neg_from, pow, pow_from, pre_from, link, base, steps_from, got, bind, Oracle, match_after, after, after_sign, after_keyword, op_of, operand_of, read_expr_from, read_in, read_cmp, read_run, read_neg, read_pow, read_pre}
use Rattle.cs_grammar.proofs.Behind.{after_is, after_sign_is, after_keyword_is}
use Rattle.cs_grammar.proofs.Taken.{bound, Split, found, missing, split, got_tree, got_rest, Took, ◌then◌, one, none, RunTree, IsRun, SoundFor, Sound, IsSound, cmp_as}

-- one operator more and its operand
is_some : {A : Type 0} {x y : A} → Some x ≡ Some y → x ≡ y
is_some h = cc

one_operator : (l : Level) (s : Sign) {p : BinSign} (a b : List Tok) (e c : Expression)
    (xs : List (BinSign × Expression)) → op_of l s ≡ Some p → IsRun l a e xs →
    SoundFor (operand_of l) b c → IsRun l (a ++ (sign_tok s ∷ b)) e (xs ++ ((p, c) ∷ []))
one_operator level.Or sign.OrOr a b e c xs h w x =
    subst (λ z. IsExpr (a ++ (sign_tok sign.OrOr ∷ b)) e (xs ++ ((z, c) ∷ []))) (is_some h)
    (subst (λ z. IsExpr (a ++ (sign_tok sign.OrOr ∷ b)) e (xs
    ++ ((op.Or, z) ∷ []))) (sym x.is) (expr_or w x.spelled))
one_operator level.And sign.AndAnd a b e c xs h w x =
    subst (λ z. IsAnd (a ++ (sign_tok sign.AndAnd ∷ b)) e (xs
    ++ ((z, c) ∷ []))) (is_some h) (and_more w x)
one_operator level.Sum s {p = p} a b e c xs h w x =
    subst (λ z. IsSum (a ++ (sign_tok s ∷ b)) e (xs
    ++ ((p, z) ∷ []))) (sym x.is) (sum_more s w h x.spelled)
one_operator level.Product s {p = p} a b e c xs h w x =
    subst (λ z. IsProd (a ++ (sign_tok s ∷ b)) e (xs
    ++ ((p, z) ∷ []))) (sym x.is) (prod_more s w h x.spelled)
one_operator _ _ a b e c xs h w x = absurd (cc)

module _ (f : Oracle) (h : IsSound f) where
  -- a first part, and what goes on behind it
  first_then : (g : Goal) (k : Expression →
      Goal) (whole : Goal) (ts : List Tok) (t : Expression) (r : List Tok) →
      ((e : Expression) (a b : List Tok) → SoundFor g a e → SoundFor (k e) b t →
      SoundFor whole (a ++ b) t) → bind (f g ts) (λ e s. f (k e) s) ≡ got t r →
      Sound whole ts t r
  first_then g k whole ts t r join eq =
      let b = bound _ (λ e s. f (k e) s) eq in
      let x = h g ts _ _ b.first in
      let y = h (k b.tree) _ _ _ b.second in
      record {
        taken = x.taken ++ y.taken;
        took = x.took then y.took;
        fact =
            join b.tree x.taken y.taken x.fact y.fact;
      }

  pub sound_expr : (ts : List Tok) (t : Expression) (r : List Tok) →
      bind (f sum ts) (λ e s. f (expr_from e) s) ≡ got t r → Sound expr ts t r
  sound_expr ts t r eq = first_then sum expr_from expr ts t r (λ e a b x y. y a x) eq

  pub sound_conjunction : (ts : List Tok) (t : Expression) (r : List Tok) →
      bind (f cmp ts) (λ e s. f (run_from level.And e []) s) ≡ got t r → Sound conjunction ts t r
  sound_conjunction ts t r eq =
      first_then cmp (λ e. run_from level.And e []) conjunction ts t r
      (λ e a b x y. y a (and_cmp x)) eq

  pub sound_cmp : (ts : List Tok) (t : Expression) (r : List Tok) →
      bind (f sum ts) (λ e s. f (cmp_from e) s) ≡ got t r → Sound cmp ts t r
  sound_cmp ts t r eq = first_then sum cmp_from cmp ts t r (λ e a b x y. y a x) eq

  pub sound_sum : (ts : List Tok) (t : Expression) (r : List Tok) →
      bind (f product ts) (λ e s. f (run_from level.Sum e []) s) ≡ got t r → Sound sum ts t r
  sound_sum ts t r eq =
      first_then product (λ e. run_from level.Sum e []) sum ts t r
      (λ e a b x y. y a (subst (λ z. IsSum a z []) (sym x.is) (sum_prod x.spelled))) eq

  pub sound_product : (ts : List Tok) (t : Expression) (r : List Tok) →
      bind (f (neg_from []) ts) (λ e s. f (run_from level.Product e []) s) ≡ got t r →
      Sound product ts t r
  sound_product ts t r eq =
      first_then (neg_from []) (λ e. run_from level.Product e []) product ts t r
      (λ e a b x y. y a (subst (λ z. IsProd a z []) (sym x.is) (prod_neg x.spelled))) eq

  pub sound_pow : (ts : List Tok) (t : Expression) (r : List Tok) →
      bind (f (pre_from []) ts) (λ e s. f (pow_from e []) s) ≡ got t r → Sound pow ts t r
  sound_pow ts t r eq =
      first_then (pre_from []) (λ e. pow_from e []) pow ts t r
      (λ e a b x y. record {
        first = e;
        rest = y.rest;
        spelled = subst (λ z. IsPow (a
            ++ b) z y.rest) (sym x.is) (y.spelled a x.signs x.operand x.spelled);
        is = y.is;
      }) eq

  pub sound_link : (ts : List Tok) (t : Expression) (r : List Tok) →
      bind (f base ts) (λ e s. f (steps_from e []) s) ≡ got t r → Sound link ts t r
  sound_link ts t r eq =
      first_then base (λ e. steps_from e []) link ts t r (λ e a b x y. subst (λ z. IsChain (a
      ++ b) z) (sym y.is) (chain_base x y.spelled)) eq

  -- behind the first sum of an expression
  pub sound_expr_from : (l : Expression) (ts : List Tok) (t : Expression) (r : List Tok) →
      read_expr_from f l ts ≡ got t r → Sound (expr_from l) ts t r
  sound_expr_from l ts t r eq =
      let b = bound _
      (λ c q. bind (f (run_from level.And c []) q) (λ d s. f (run_from level.Or d []) s)) eq in
      let d = bound _ (λ d s. f (run_from level.Or d []) s) b.second in
      let x = h (cmp_from l) ts _ _ b.first in
      let y = h (run_from level.And b.tree []) _ _ _ d.first in
      let z = h (run_from level.Or d.tree []) _ _ _ d.second in
      record {
        taken = x.taken ++ (y.taken ++ z.taken);
        took = x.took then y.took then z.took;
        fact = λ a s.
            let c = y.fact (a ++ x.taken) (and_cmp (x.fact a s)) in
            subst (λ w. RunTree IsExpr w t) (append_assoc (a ++ x.taken) y.taken z.taken
            ∙ append_assoc a x.taken (y.taken ++ z.taken))
            (z.fact ((a ++ x.taken)
            ++ y.taken) (subst (λ w. IsExpr ((a ++ x.taken)
            ++ y.taken) w []) (sym c.is) (expr_and c.spelled)));
      }

  -- a run that groups from the left
  pub sound_run : (l : Level) (e : Expression) (xs : List (BinSign
      × Expression)) (ts : List Tok) (t : Expression) (r : List Tok) →
      read_run f l e xs ts ≡ got t r →
      Sound (run_from l e xs) ts t r
  sound_run l e xs ts t r eq = by_case (split (after_sign (op_of l) ts) _ _ eq)
    where
      by_case : Split (after_sign (op_of l) ts)
          (λ x. bind (f (operand_of l) x.1) (λ b s. f (run_from l e (xs
          ++ ((x.0, b) ∷ []))) s)) (got (run_of e xs) ts) (got t r) →
          Sound (run_from l e xs) ts t r
      by_case (found v i j) =
          let b = bound _ (λ b s. f (run_from l e (xs ++ ((v.0, b) ∷ []))) s) j in
          let x = h (operand_of l) v.1 _ _ b.first in
          let y = h (run_from l e (xs ++ ((v.0, b.tree) ∷ []))) _ _ _ b.second in
          let s = after_sign_is (op_of l) ts i in
          record {
            taken = sign_tok s.sign ∷ (x.taken ++ y.taken);
            took = one s.is then x.took then y.took;
            fact = λ a w.
                subst (λ z. RunTree (IsRun l) z t)
                (append_assoc a (sign_tok s.sign ∷ x.taken) y.taken)
                (y.fact (a ++ (sign_tok s.sign ∷ x.taken))
                (one_operator l s.sign a x.taken e b.tree xs s.means w x.fact));
          }
      by_case (missing i j) = record {
        taken = [];
        took = none (got_rest j);
        fact = λ a s. subst (λ z. RunTree (IsRun l) z t) (sym (append-nil a)) (record {
          first =
              e;
          rest = xs;
          spelled = s;
          is = sym (got_tree j);
        });
      }

  -- `in`
  sound_in : (l : Expression) (ts q : List Tok) (t : Expression) (r : List Tok) →
      ts ≡ word_tok (codes "in") ∷ q → read_in f l q ≡ got t r → Sound (cmp_from l) ts t r
  sound_in l ts q t r i j =
      let b = bound _
      (λ b s. match_after (after_sign range_of s)
      (λ x. bind (f sum x.1) (λ c u. got (between l b c x.0) u)) (got (within l b) s)) j in
      let x = h sum q _ _ b.first in
      by_case b.tree b.rest x (split (after_sign range_of b.rest) _ _ b.second)
    where
      by_case : (e : Expression) (s : List Tok) (x : Sound sum q e s) →
          Split (after_sign range_of s) (λ v. bind (f sum v.1) (λ c u. got (between l e c v.0) u))
          (got (within l e) s) (got t r) → Sound (cmp_from l) ts t r
      by_case e s x (found v k m) =
          let c = bound _ (λ c u. got (between l e c v.0) u) m in
          let y = h sum v.1 _ _ c.first in
          let d = after_sign_is range_of s k in
          record {
            taken = word_tok (codes "in") ∷ (x.taken ++ (sign_tok d.sign ∷ y.taken));
            took = one i then x.took then one d.is
                then subst (λ z. Took v.1 y.taken z) (got_rest c.second) y.took;
            fact = λ a w.
                cmp_as
                (ap (λ z. between z (run_of x.fact.first x.fact.rest)
                (run_of y.fact.first y.fact.rest) v.0) (sym w.is)
                ∙ ap (λ z. between l z (run_of y.fact.first y.fact.rest) v.0) (sym x.fact.is)
                ∙ ap (λ z. between l e z v.0) (sym y.fact.is) ∙ got_tree c.second)
                (cmp_range d.sign w.spelled x.fact.spelled d.means y.fact.spelled);
          }
      by_case e s x (missing k m) = record {
        taken = word_tok (codes "in") ∷ x.taken;
        took = one i then subst (λ z. Took q x.taken z) (got_rest m) x.took;
        fact = λ a w.
            cmp_as (ap (λ z. within z (run_of x.fact.first x.fact.rest)) (sym w.is)
            ∙ ap (λ z. within l z) (sym x.fact.is)
            ∙ got_tree m) (cmp_in w.spelled x.fact.spelled);
      }

  -- the other operators of a comparison
  sound_operand : (l : Expression) (o : BinSign) (k : Tok) (ts q : List Tok) (t : Expression)
      (r : List Tok) → ts ≡ k ∷ q →
      ((a b : List Tok) (e c : Expression) (xs ys : List (BinSign × Expression)) → IsSum a e xs →
      IsSum b c ys → IsCmp (a ++ (k ∷ b)) (run_of (run_of e xs) ((o, run_of c ys) ∷ []))) →
      bind (f sum q) (λ b s. got (run_of l ((o, b) ∷ [])) s) ≡ got t r → Sound (cmp_from l) ts t r
  sound_operand l o k ts q t r i join j =
      let b = bound _ (λ b s. got (run_of l ((o, b) ∷ [])) s) j in
      let x = h sum q _ _ b.first in
      record {
        taken = k ∷ x.taken;
        took = one i then subst (λ z. Took q x.taken z) (got_rest b.second) x.took;
        fact = λ a s.
            cmp_as
            (ap (λ z. run_of z ((o, run_of x.fact.first x.fact.rest) ∷ [])) (sym s.is)
            ∙ ap (λ z. run_of l ((o, z) ∷ [])) (sym x.fact.is) ∙ got_tree b.second)
            (join a x.taken s.first x.fact.first s.rest x.fact.rest s.spelled x.fact.spelled);
      }

  pub sound_cmp_from : (l : Expression) (ts : List Tok) (t : Expression) (r : List Tok) →
      read_cmp f l ts ≡ got t r → Sound (cmp_from l) ts t r
  sound_cmp_from l ts t r eq = by_sign (split (after_sign comparison_op ts) _ _ eq)
    where
      by_in : Split (after_keyword (codes "in") ts) (read_in f l) (got l ts) (got t r) →
          Sound (cmp_from l) ts t r
      by_in (found q i j) = sound_in l ts q t r (after_keyword_is (codes "in") ts i) j
      by_in (missing i j) = record {
        taken = [];
        took = none (got_rest j);
        fact = λ a s. subst (λ z. IsCmp z t) (sym (append-nil a)) (cmp_as (sym s.is
            ∙ got_tree j) (cmp_sum s.spelled));
      }

      by_match : Split (after_keyword (codes "match") ts)
          (λ q. bind (f sum q) (λ b s. got (run_of l ((op.Match, b) ∷ [])) s))
          (match_after (after_keyword (codes "in") ts) (read_in f l) (got l ts)) (got t r) →
          Sound (cmp_from l) ts t r
      by_match (found q i j) =
          sound_operand l op.Match (word_tok (codes "match")) ts q t r
          (after_keyword_is (codes "match") ts i) (λ a b e c xs ys p q. cmp_match p q) j
      by_match (missing i j) = by_in (split (after_keyword (codes "in") ts) _ _ j)

      by_sign : Split (after_sign comparison_op ts)
          (λ x. bind (f sum x.1) (λ b s. got (run_of l ((x.0, b) ∷ [])) s))
          (match_after (after_keyword (codes "match") ts)
          (λ q. bind (f sum q) (λ b s. got (run_of l ((op.Match, b) ∷ [])) s))
          (match_after (after_keyword (codes "in") ts) (read_in f l) (got l ts))) (got t r) →
          Sound (cmp_from l) ts t r
      by_sign (found v i j) =
          let s = after_sign_is comparison_op ts i in
          sound_operand l v.0 (sign_tok s.sign) ts v.1 t r s.is
          (λ a b e c xs ys p q. cmp_op s.sign p s.means q) j
      by_sign (missing i j) = by_match (split (after_keyword (codes "match") ts) _ _ j)

  -- `-` in front
  pub sound_neg : (ps : List PreSign) (ts : List Tok) (t : Expression) (r : List Tok) →
      read_neg f ps ts ≡ got t r → Sound (neg_from ps) ts t r
  sound_neg ps ts t r eq = by_case (split (after sign.Minus ts) _ _ eq)
    where
      by_case : Split (after sign.Minus ts) (λ q. f (neg_from (ps
          ++ (pre.Minus ∷ []))) q) (bind (f pow ts) (λ e s. got (prefix_of ps e) s)) (got t r) →
          Sound (neg_from ps) ts t r
      by_case (found q i j) =
          let y = h (neg_from (ps ++ (pre.Minus ∷ []))) q _ _ j in
          record {
            taken = sign_tok sign.Minus ∷ y.taken;
            took = one (after_is sign.Minus ts i) then y.took;
            fact = record {
              signs = pre.Minus ∷ y.fact.signs;
              operand = y.fact.operand;
              spelled = neg_minus y.fact.spelled;
              is = y.fact.is
                  ∙ ap (λ z. prefix_of z y.fact.operand)
                  (append_assoc ps (pre.Minus ∷ []) y.fact.signs);
            };
          }
      by_case (missing i j) =
          let b = bound _ (λ e s. got (prefix_of ps e) s) j in
          let x = h pow ts _ _ b.first in
          record {
            taken = x.taken;
            took = subst (λ z. Took ts x.taken z) (got_rest b.second) x.took;
            fact = record {
              signs = [];
              operand = run_of x.fact.first x.fact.rest;
              spelled = neg_pow x.fact.spelled;
              is = sym (got_tree b.second) ∙ ap (λ z. prefix_of ps z) x.fact.is
                  ∙ ap (λ z. prefix_of z (run_of x.fact.first x.fact.rest)) (sym (append-nil ps));
            };
          }

  -- `**`
  pub sound_pow_from : (e : Expression) (xs : List (BinSign
      × Expression)) (ts : List Tok) (t : Expression) (r : List Tok) →
      read_pow f e xs ts ≡ got t r → Sound (pow_from e xs) ts t r
  sound_pow_from e xs ts t r eq = by_case (split (after sign.StarStar ts) _ _ eq)
    where
      by_case : Split (after sign.StarStar ts)
          (λ q. bind (f (pre_from []) q) (λ b s. f (pow_from e (xs
          ++ ((op.Pow, b) ∷ []))) s)) (got (run_of e xs) ts) (got t r) →
          Sound (pow_from e xs) ts t r
      by_case (found q i j) =
          let b = bound _ (λ b s. f (pow_from e (xs ++ ((op.Pow, b) ∷ []))) s) j in
          let x = h (pre_from []) q _ _ b.first in
          let y = h (pow_from e (xs ++ ((op.Pow, b.tree) ∷ []))) _ _ _ b.second in
          let more : IsPow (x.taken ++ y.taken) b.tree y.fact.rest =
          subst (λ z. IsPow (x.taken
          ++ y.taken) z y.fact.rest) (sym x.fact.is)
          (y.fact.spelled x.taken x.fact.signs x.fact.operand x.fact.spelled) in
          record {
            taken = sign_tok sign.StarStar ∷ (x.taken ++ y.taken);
            took = one (after_is sign.StarStar ts i) then x.took then y.took;
            fact = record {
              rest = (op.Pow, b.tree) ∷ y.fact.rest;
              is = y.fact.is ∙ ap (run_of e) (append_assoc xs ((op.Pow, b.tree) ∷ []) y.fact.rest);
              spelled = λ a ps g w. pow_more w more;
            };
          }
      by_case (missing i j) = record {
        taken = [];
        took = none (got_rest j);
        fact = record {
          rest = [];
          is = sym (got_tree j) ∙ ap (run_of e) (sym (append-nil xs));
          spelled = λ a ps g w. subst (λ z. IsPow z (prefix_of ps g) []) (sym (append-nil a))
              (pow_pre w);
        };
      }

  -- `+` and `!` in front
  pub sound_pre : (ps : List PreSign) (ts : List Tok) (t : Expression) (r : List Tok) →
      read_pre f ps ts ≡ got t r → Sound (pre_from ps) ts t r
  sound_pre ps ts t r eq = by_case (split (after_sign prefix_op ts) _ _ eq)
    where
      by_case : Split (after_sign prefix_op ts) (λ x. f (pre_from (ps
          ++ (x.0 ∷ []))) x.1) (bind (f link ts) (λ e s. got (prefix_of ps e) s)) (got t r) →
          Sound (pre_from ps) ts t r
      by_case (found v i j) =
          let y = h (pre_from (ps ++ (v.0 ∷ []))) v.1 _ _ j in
          let s = after_sign_is prefix_op ts i in
          record {
            taken = sign_tok s.sign ∷ y.taken;
            took = one s.is then y.took;
            fact = record {
              signs = v.0 ∷ y.fact.signs;
              operand = y.fact.operand;
              spelled = pre_more s.sign s.means y.fact.spelled;
              is = y.fact.is
                  ∙ ap (λ z. prefix_of z y.fact.operand) (append_assoc ps (v.0 ∷ []) y.fact.signs);
            };
          }
      by_case (missing i j) =
          let b = bound _ (λ e s. got (prefix_of ps e) s) j in
          let x = h link ts _ _ b.first in
          record {
            taken = x.taken;
            took = subst (λ z. Took ts x.taken z) (got_rest b.second) x.took;
            fact = record {
              signs = [];
              operand = b.tree;
              spelled = pre_chain x.fact;
              is = sym (got_tree b.second) ∙ ap (λ z. prefix_of z b.tree) (sym (append-nil ps));
            };
          }
