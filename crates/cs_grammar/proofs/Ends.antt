-- What follows an expression and does not go on with it.
use Rattle.std.proofs.Common.{◌≡◌, List, [], ◌∷◌, ◌++◌, Bool, true, false, Some, None, refl, sym, subst, append_assoc}
use Rattle.std.specs.Prelude.{codes}
use Rattle.cs_grammar.specs.declared.level.Level.TheVariants as level
use Rattle.cs_syntax.specs.declared.sign.Sign.{Sign}
use Rattle.cs_syntax.specs.declared.sign.Sign.TheVariants as sign
use Rattle.cs_syntax.specs.declared.tree.BinSign.{BinSign}
use Rattle.cs_syntax.specs.Expression.{Tok, word_tok, sign_tok, Step}
use Rattle.cs_grammar.specs.Spells.{sum_op, product_op, comparison_op, range_of, AreSteps, steps_none, steps_more, steps_arrow, IsStep, step_attr, step_deref, step_each, step_slice, step_bracket, step_project, step_piped_project, step_pipe, step_pipe_with}
use Rattle.cs_grammar.specs.Reading.{after, after_sign, after_keyword, after_attribute, after_caret, op_of}

-- nothing follows that goes on with a base
pub record EndsBase (r : List Tok) : Type 0 where
  pub paren : after sign.OpenParen r ≡ None
  pub colons : after sign.ColonColon r ≡ None
  pub caret : after_caret r ≡ None

-- nothing follows that goes on with a chain
pub record EndsChain (r : List Tok) : Type 0 where
  pub base : EndsBase r
  pub dot : after sign.Dot r ≡ None
  pub arrow : after sign.Arrow r ≡ None
  pub bracket : after sign.OpenBracket r ≡ None
  pub brace : after sign.OpenBrace r ≡ None
  pub pipe : after sign.Pipe r ≡ None
  pub attribute : after_attribute r ≡ None

pub record EndsPow (r : List Tok) : Type 0 where
  pub chain : EndsChain r
  pub stars : after sign.StarStar r ≡ None

pub record EndsProduct (r : List Tok) : Type 0 where
  pub pow : EndsPow r
  pub product : after_sign (op_of level.Product) r ≡ None

pub record EndsSum (r : List Tok) : Type 0 where
  pub product : EndsProduct r
  pub sum : after_sign (op_of level.Sum) r ≡ None

pub record EndsCmp (r : List Tok) : Type 0 where
  pub sum : EndsSum r
  pub comparison : after_sign comparison_op r ≡ None
  pub matches : after_keyword (codes "match") r ≡ None
  pub within : after_keyword (codes "in") r ≡ None
  pub range : after_sign range_of r ≡ None

pub record EndsAnd (r : List Tok) : Type 0 where
  pub cmp : EndsCmp r
  pub and : after_sign (op_of level.And) r ≡ None

pub record EndsExpr (r : List Tok) : Type 0 where
  pub conjunction : EndsAnd r
  pub or : after_sign (op_of level.Or) r ≡ None

ends_chain : (r : List Tok) → after sign.OpenParen r ≡ None → after sign.ColonColon r ≡ None →
    after_caret r ≡ None → after sign.Dot r ≡ None → after sign.Arrow r ≡ None →
    after sign.OpenBracket r ≡ None → after sign.OpenBrace r ≡ None → after sign.Pipe r ≡ None →
    after_attribute r ≡ None → EndsChain r
ends_chain r a b c d e f g h i =
    record {
      base = record { paren = a; colons = b; caret = c };
      dot = d;
      arrow = e;
      bracket =
          f;
      brace = g;
      pipe = h;
      attribute = i;
    }

-- by an operator
pub stars_end : (r : List Tok) → EndsChain (sign_tok sign.StarStar ∷ r)
stars_end r = ends_chain (sign_tok sign.StarStar ∷ r) refl refl refl refl refl refl refl refl refl

pub product_end : (s : Sign) {o : BinSign} (r : List Tok) → product_op s ≡ Some o →
    EndsPow (sign_tok s ∷ r)
product_end sign.Star r h =
    record {
      chain =
          ends_chain (sign_tok sign.Star ∷ r) refl refl refl refl refl refl refl refl refl;
      stars =
          refl;
    }
product_end sign.Slash r h =
    record {
      chain =
          ends_chain (sign_tok sign.Slash ∷ r) refl refl refl refl refl refl refl refl refl;
      stars =
          refl;
    }
product_end sign.Percent r h =
    record {
      chain =
          ends_chain (sign_tok sign.Percent ∷ r) refl refl refl refl refl refl refl refl refl;
      stars =
          refl;
    }
product_end _ r h = absurd (cc)

pub sum_end : (s : Sign) {o : BinSign} (r : List Tok) → sum_op s ≡ Some o →
    EndsProduct (sign_tok s ∷ r)
sum_end sign.Plus r h = record {
  pow = record {
    chain =
        ends_chain (sign_tok sign.Plus ∷ r) refl refl refl refl refl refl refl refl refl;
    stars =
        refl;
  };
  product = refl;
}
sum_end sign.Minus r h = record {
  pow = record {
    chain =
        ends_chain (sign_tok sign.Minus ∷ r) refl refl refl refl refl refl refl refl refl;
    stars =
        refl;
  };
  product = refl;
}
sum_end _ r h = absurd (cc)

-- the tokens end a sum, where nothing goes on with what stands before them
ends_sum : {r : List Tok} → EndsChain r → after sign.StarStar r ≡ None →
    after_sign (op_of level.Product) r ≡ None → after_sign (op_of level.Sum) r ≡ None → EndsSum r
ends_sum c s p q =
    record { product = record { pow = record { chain = c; stars = s }; product = p }; sum = q }

-- a sign by which a sum ends
abbrev ends_sums : Sign → Bool
ends_sums sign.OpenParen = false
ends_sums sign.ColonColon = false
ends_sums sign.Dot = false
ends_sums sign.Arrow = false
ends_sums sign.OpenBracket = false
ends_sums sign.OpenBrace = false
ends_sums sign.Pipe = false
ends_sums sign.StarStar = false
ends_sums sign.Star = false
ends_sums sign.Slash = false
ends_sums sign.Percent = false
ends_sums sign.Plus = false
ends_sums sign.Minus = false
ends_sums _ = true

sign_ends_sum : (s : Sign) (r : List Tok) → ends_sums s ≡ true → EndsSum (sign_tok s ∷ r)
sign_ends_sum sign.OpenParen r h = absurd (cc)
sign_ends_sum sign.ColonColon r h = absurd (cc)
sign_ends_sum sign.Dot r h = absurd (cc)
sign_ends_sum sign.Arrow r h = absurd (cc)
sign_ends_sum sign.OpenBracket r h = absurd (cc)
sign_ends_sum sign.OpenBrace r h = absurd (cc)
sign_ends_sum sign.Pipe r h = absurd (cc)
sign_ends_sum sign.StarStar r h = absurd (cc)
sign_ends_sum sign.Star r h = absurd (cc)
sign_ends_sum sign.Slash r h = absurd (cc)
sign_ends_sum sign.Percent r h = absurd (cc)
sign_ends_sum sign.Plus r h = absurd (cc)
sign_ends_sum sign.Minus r h = absurd (cc)
sign_ends_sum _ r h =
    ends_sum (ends_chain _ refl refl refl refl refl refl refl refl refl) refl refl refl

compares_end_sum : (s : Sign) {o : BinSign} → comparison_op s ≡ Some o → ends_sums s ≡ true
compares_end_sum sign.EqEq h = refl
compares_end_sum sign.Ne h = refl
compares_end_sum sign.Lt h = refl
compares_end_sum sign.Le h = refl
compares_end_sum sign.Gt h = refl
compares_end_sum sign.Ge h = refl
compares_end_sum _ h = absurd (cc)

pub comparison_end : (s : Sign) {o : BinSign} (r : List Tok) → comparison_op s ≡ Some o →
    EndsSum (sign_tok s ∷ r)
comparison_end s r h = sign_ends_sum s r (compares_end_sum s h)

dots_end_sum : (s : Sign) {closed : Bool} → range_of s ≡ Some closed → ends_sums s ≡ true
dots_end_sum sign.DotDot h = refl
dots_end_sum sign.DotDotDot h = refl
dots_end_sum _ h = absurd (cc)

pub range_end : (s : Sign) {closed : Bool} (r : List Tok) → range_of s ≡ Some closed →
    EndsSum (sign_tok s ∷ r)
range_end s r h = sign_ends_sum s r (dots_end_sum s h)

-- the dots of a range are no comparison
pub range_no_comparison : (s : Sign) {o : BinSign} (r : List Tok) → comparison_op s ≡ Some o →
    after_sign range_of (sign_tok s ∷ r) ≡ None
range_no_comparison sign.EqEq r h = refl
range_no_comparison sign.Ne r h = refl
range_no_comparison sign.Lt r h = refl
range_no_comparison sign.Le r h = refl
range_no_comparison sign.Gt r h = refl
range_no_comparison sign.Ge r h = refl
range_no_comparison _ r h = absurd (cc)

pub match_end : (r : List Tok) → EndsSum (word_tok (codes "match") ∷ r)
match_end r = ends_sum (ends_chain _ refl refl refl refl refl refl refl refl refl) refl refl refl

pub in_end : (r : List Tok) → EndsSum (word_tok (codes "in") ∷ r)
in_end r = ends_sum (ends_chain _ refl refl refl refl refl refl refl refl refl) refl refl refl

ends_cmp : {r : List Tok} → EndsSum r → after_sign comparison_op r ≡ None →
    after_keyword (codes "match") r ≡ None → after_keyword (codes "in") r ≡ None →
    after_sign range_of r ≡ None → EndsCmp r
ends_cmp s a b c d = record { sum = s; comparison = a; matches = b; within = c; range = d }

pub and_end : (r : List Tok) → EndsCmp (sign_tok sign.AndAnd ∷ r)
and_end r = ends_cmp (sign_ends_sum sign.AndAnd r refl) refl refl refl refl

pub or_end : (r : List Tok) → EndsAnd (sign_tok sign.OrOr ∷ r)
or_end r = record {
  cmp = ends_cmp (sign_ends_sum sign.OrOr r refl) refl refl refl refl;
  and =
      refl;
}

-- by what stands behind an expression
ends_expr : {r : List Tok} → EndsCmp r → after_sign (op_of level.And) r ≡ None →
    after_sign (op_of level.Or) r ≡ None → EndsExpr r
ends_expr c a b = record { conjunction = record { cmp = c; and = a }; or = b }

pub close_paren_end : (r : List Tok) → EndsExpr (sign_tok sign.CloseParen ∷ r)
close_paren_end r =
    ends_expr (ends_cmp (sign_ends_sum sign.CloseParen r refl) refl refl refl refl) refl refl

pub close_bracket_end : (r : List Tok) → EndsExpr (sign_tok sign.CloseBracket ∷ r)
close_bracket_end r =
    ends_expr (ends_cmp (sign_ends_sum sign.CloseBracket r refl) refl refl refl refl) refl refl

pub close_brace_end : (r : List Tok) → EndsExpr (sign_tok sign.CloseBrace ∷ r)
close_brace_end r =
    ends_expr (ends_cmp (sign_ends_sum sign.CloseBrace r refl) refl refl refl refl) refl refl

pub comma_end : (r : List Tok) → EndsExpr (sign_tok sign.Comma ∷ r)
comma_end r = ends_expr (ends_cmp (sign_ends_sum sign.Comma r refl) refl refl refl refl) refl refl

pub colon_end : (r : List Tok) → EndsExpr (sign_tok sign.Colon ∷ r)
colon_end r = ends_expr (ends_cmp (sign_ends_sum sign.Colon r refl) refl refl refl refl) refl refl

pub fat_arrow_end : (r : List Tok) → EndsExpr (sign_tok sign.FatArrow ∷ r)
fat_arrow_end r =
    ends_expr (ends_cmp (sign_ends_sum sign.FatArrow r refl) refl refl refl refl) refl refl

pub asc_end : (r : List Tok) → EndsExpr (word_tok (codes "asc") ∷ r)
asc_end r = ends_expr
    (ends_cmp (ends_sum (ends_chain _ refl refl refl refl refl refl refl refl refl) refl refl
    refl) refl refl refl refl) refl refl

pub desc_end : (r : List Tok) → EndsExpr (word_tok (codes "desc") ∷ r)
desc_end r = ends_expr
    (ends_cmp (ends_sum (ends_chain _ refl refl refl refl refl refl refl refl refl) refl refl
    refl) refl refl refl refl) refl refl

pub nothing_end : EndsExpr []
nothing_end =
    ends_expr (ends_cmp (ends_sum (ends_chain _ refl refl refl refl refl refl refl refl refl) refl
    refl refl) refl refl refl refl) refl refl

-- what stands behind a step ends a base, and is no attribute
step_ends_base : {a : List Tok} {s : Step} → IsStep a s → (r : List Tok) → EndsBase (a ++ r)
step_ends_base (step_attr w) r = record { paren = refl; colons = refl; caret = refl }
step_ends_base step_deref r = record { paren = refl; colons = refl; caret = refl }
step_ends_base step_each r = record { paren = refl; colons = refl; caret = refl }
step_ends_base (step_slice s h k l) r = record { paren = refl; colons = refl; caret = refl }
step_ends_base (step_bracket h) r = record { paren = refl; colons = refl; caret = refl }
step_ends_base (step_project h) r = record { paren = refl; colons = refl; caret = refl }
step_ends_base (step_piped_project h) r = record { paren = refl; colons = refl; caret = refl }
step_ends_base (step_pipe h) r = record { paren = refl; colons = refl; caret = refl }
step_ends_base (step_pipe_with h k) r = record { paren = refl; colons = refl; caret = refl }

step_no_attribute : {a : List Tok} {s : Step} → IsStep a s → (r : List Tok) →
    after_attribute (a ++ r) ≡ None
step_no_attribute (step_attr w) r = refl
step_no_attribute step_deref r = refl
step_no_attribute step_each r = refl
step_no_attribute (step_slice s h k l) r = refl
step_no_attribute (step_bracket h) r = refl
step_no_attribute (step_project h) r = refl
step_no_attribute (step_piped_project h) r = refl
step_no_attribute (step_pipe h) r = refl
step_no_attribute (step_pipe_with h k) r = refl

pub steps_end_base : {b : List Tok} {ss : List Step} → AreSteps b ss → (r : List Tok) →
    EndsBase r → EndsBase (b ++ r)
steps_end_base steps_none r k = k
steps_end_base (steps_more {a = a} {b = b} h j) r k =
    subst (λ z. EndsBase z) (sym (append_assoc a b r)) (step_ends_base h (b ++ r))
steps_end_base (steps_arrow w h j) r k = record { paren = refl; colons = refl; caret = refl }

pub steps_no_attribute : {b : List Tok} {ss : List Step} → AreSteps b ss → (r : List Tok) →
    after_attribute r ≡ None → after_attribute (b ++ r) ≡ None
steps_no_attribute steps_none r k = k
steps_no_attribute (steps_more {a = a} {b = b} h j) r k =
    subst (λ z. after_attribute z ≡ None) (sym (append_assoc a b r)) (step_no_attribute h (b ++ r))
steps_no_attribute (steps_arrow w h j) r k = refl
