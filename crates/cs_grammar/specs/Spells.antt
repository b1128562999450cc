-- The grammar of queries: which lists of tokens spell which expression, one case for each
-- alternative. GROQ-1.revision1 "Syntax" and "Expressions", as this project's profile has them.
-- A run of operators of one level is seen as its first operand and the operators behind it.
use Rattle.std.specs.Prelude.{◌≡◌, ℕ, suc, List, [], ◌∷◌, ◌++◌, Bool, true, false, Option, Some, None, codes, if◌then◌else◌}
use Rattle.std.specs.Str.{bytes_eq}
use Rattle.cs_syntax.specs.declared.sign.Sign.{Sign}
use Rattle.cs_syntax.specs.declared.sign.Sign.TheVariants as sign
use Rattle.cs_syntax.specs.declared.tree.BinSign.{BinSign}
use Rattle.cs_syntax.specs.declared.tree.BinSign.TheVariants as op
use Rattle.cs_syntax.specs.declared.tree.PreSign.{PreSign}
use Rattle.cs_syntax.specs.declared.tree.PreSign.TheVariants as pre
use Rattle.cs_syntax.specs.Expression.{Tok, number_tok, text_tok, param_tok, word_tok, sign_tok, Expression, null_literal, bool_literal, number_literal, text_literal, param, word, this, everything, parent, round, call, array, object_literal, within, between, Step, attr, deref, each, slice, bracket, project, pipe, Entry, keyed, bare, when, spread, Element, element, spread_element, Argument, argument, when_argument, OrderKey, order_key, entries_of, elements_of, arguments_of, keys_of, run_of, chain_of, prefix_of}

-- a word that is a constant, and so no attribute where a base stands
abbrev pub constant_of : List ℕ → Option Expression
constant_of w =
    if bytes_eq w (codes "null") then Some null_literal
    else (if bytes_eq w (codes "true") then Some (bool_literal true)
    else (if bytes_eq w (codes "false") then Some (bool_literal false) else None))

-- a word that is an operator where one may stand, and never an attribute behind `->`
abbrev pub is_keyword : List ℕ → Bool
is_keyword w =
    if bytes_eq w (codes "in") then true
    else (if bytes_eq w (codes "match") then true
    else (if bytes_eq w (codes "asc") then true else bytes_eq w (codes "desc")))

-- the operators of a sum, of a product and of a comparison by their signs
abbrev pub sum_op : Sign → Option BinSign
sum_op sign.Plus = Some op.Add
sum_op sign.Minus = Some op.Sub
sum_op _ = None

abbrev pub product_op : Sign → Option BinSign
product_op sign.Star = Some op.Mul
product_op sign.Slash = Some op.Div
product_op sign.Percent = Some op.Rem
product_op _ = None

abbrev pub comparison_op : Sign → Option BinSign
comparison_op sign.EqEq = Some op.Eq
comparison_op sign.Ne = Some op.Ne
comparison_op sign.Lt = Some op.Lt
comparison_op sign.Le = Some op.Le
comparison_op sign.Gt = Some op.Gt
comparison_op sign.Ge = Some op.Ge
comparison_op _ = None

-- the prefix operators that stand behind every `-`
abbrev pub prefix_op : Sign → Option PreSign
prefix_op sign.Plus = Some pre.Plus
prefix_op sign.Not = Some pre.Not
prefix_op _ = None

-- the dots of a range, and whether it includes its end
abbrev pub range_of : Sign → Option Bool
range_of sign.DotDot = Some true
range_of sign.DotDotDot = Some false
range_of _ = None

-- Name = Word | Word "::" Word
pub data IsName : List Tok → List ℕ → Type 0 where
  name_word : (w : List ℕ) → IsName (word_tok w ∷ []) w
  name_within : (v w : List ℕ) →
      IsName (word_tok v ∷ sign_tok sign.ColonColon ∷ word_tok w ∷ []) (v ++ (codes "::" ++ w))

-- "^" ("." "^")*, and how many
pub data AreCarets : List Tok → ℕ → Type 0 where
  carets_one : AreCarets (sign_tok sign.Caret ∷ []) 1
  carets_more : {a : List Tok} {n : ℕ} → AreCarets a n →
      AreCarets (sign_tok sign.Caret ∷ sign_tok sign.Dot ∷ a) (suc n)

mutual
  -- Expr = And | Expr "||" And
  pub data IsExpr : List Tok → Expression → List (BinSign × Expression) → Type 0 where
    expr_and : {a : List Tok} {e : Expression} {xs : List (BinSign × Expression)} → IsAnd a e xs →
        IsExpr a (run_of e xs) []
    expr_or : {a b : List Tok} {e f : Expression} {xs ys : List (BinSign × Expression)} →
        IsExpr a e xs → IsAnd b f ys →
        IsExpr (a ++ (sign_tok sign.OrOr ∷ b)) e (xs ++ ((op.Or, run_of f ys) ∷ []))

  -- And = Cmp | And "&&" Cmp
  pub data IsAnd : List Tok → Expression → List (BinSign × Expression) → Type 0 where
    and_cmp : {a : List Tok} {e : Expression} → IsCmp a e → IsAnd a e []
    and_more : {a b : List Tok} {e f : Expression} {xs : List (BinSign × Expression)} →
        IsAnd a e xs → IsCmp b f →
        IsAnd (a ++ (sign_tok sign.AndAnd ∷ b)) e (xs ++ ((op.And, f) ∷ []))

  -- Cmp = Sum | Sum CmpOp Sum | Sum "match" Sum | Sum "in" Sum | Sum "in" Sum ".." Sum | Sum "in"
  -- Sum "..." Sum
  pub data IsCmp : List Tok → Expression → Type 0 where
    cmp_sum : {a : List Tok} {e : Expression} {xs : List (BinSign × Expression)} → IsSum a e xs →
        IsCmp a (run_of e xs)
    cmp_op : {a b : List Tok} {e f : Expression} {xs ys : List (BinSign
        × Expression)} {o : BinSign} (s : Sign) →
        IsSum a e xs → comparison_op s ≡ Some o → IsSum b f ys →
        IsCmp (a ++ (sign_tok s ∷ b)) (run_of (run_of e xs) ((o, run_of f ys) ∷ []))
    cmp_match : {a b : List Tok} {e f : Expression} {xs ys : List (BinSign × Expression)} →
        IsSum a e xs → IsSum b f ys →
        IsCmp (a ++ (word_tok (codes "match") ∷ b))
        (run_of (run_of e xs) ((op.Match, run_of f ys) ∷ []))
    cmp_in : {a b : List Tok} {e f : Expression} {xs ys : List (BinSign × Expression)} →
        IsSum a e xs → IsSum b f ys →
        IsCmp (a ++ (word_tok (codes "in") ∷ b)) (within (run_of e xs) (run_of f ys))
    cmp_range : {a b c : List Tok} {e f g : Expression} {xs ys zs : List (BinSign
        × Expression)} {closed : Bool} (s : Sign) →
        IsSum a e xs → IsSum b f ys → range_of s ≡ Some closed → IsSum c g zs →
        IsCmp (a ++ (word_tok (codes "in") ∷ (b
        ++ (sign_tok s ∷ c)))) (between (run_of e xs) (run_of f ys) (run_of g zs) closed)

  -- Sum = Prod | Sum "+" Prod | Sum "-" Prod
  pub data IsSum : List Tok → Expression → List (BinSign × Expression) → Type 0 where
    sum_prod : {a : List Tok} {e : Expression} {xs : List (BinSign × Expression)} →
        IsProd a e xs → IsSum a (run_of e xs) []
    sum_more : {a b : List Tok} {e f : Expression} {xs ys : List (BinSign
        × Expression)} {o : BinSign} (s : Sign) →
        IsSum a e xs → sum_op s ≡ Some o → IsProd b f ys →
        IsSum (a ++ (sign_tok s ∷ b)) e (xs ++ ((o, run_of f ys) ∷ []))

  -- Prod = Neg | Prod "*" Neg | Prod "/" Neg | Prod "%" Neg
  pub data IsProd : List Tok → Expression → List (BinSign × Expression) → Type 0 where
    prod_neg : {a : List Tok} {e : Expression} {ps : List PreSign} → IsNeg a ps e →
        IsProd a (prefix_of ps e) []
    prod_more : {a b : List Tok} {e f : Expression} {xs : List (BinSign
        × Expression)} {ps : List PreSign} {o : BinSign} (s : Sign) →
        IsProd a e xs → product_op s ≡ Some o → IsNeg b ps f →
        IsProd (a ++ (sign_tok s ∷ b)) e (xs ++ ((o, prefix_of ps f) ∷ []))

  -- Neg = Pow | "-" Neg
  pub data IsNeg : List Tok → List PreSign → Expression → Type 0 where
    neg_pow : {a : List Tok} {e : Expression} {xs : List (BinSign × Expression)} → IsPow a e xs →
        IsNeg a [] (run_of e xs)
    neg_minus : {a : List Tok} {e : Expression} {ps : List PreSign} → IsNeg a ps e →
        IsNeg (sign_tok sign.Minus ∷ a) (pre.Minus ∷ ps) e

  -- Pow = Pre | Pre "**" Pow
  pub data IsPow : List Tok → Expression → List (BinSign × Expression) → Type 0 where
    pow_pre : {a : List Tok} {e : Expression} {ps : List PreSign} → IsPre a ps e →
        IsPow a (prefix_of ps e) []
    pow_more : {a b : List Tok} {e f : Expression} {xs : List (BinSign
        × Expression)} {ps : List PreSign} →
        IsPre a ps e → IsPow b f xs →
        IsPow (a ++ (sign_tok sign.StarStar ∷ b)) (prefix_of ps e) ((op.Pow, f) ∷ xs)

  -- Pre = Chain | "+" Pre | "!" Pre
  pub data IsPre : List Tok → List PreSign → Expression → Type 0 where
    pre_chain : {a : List Tok} {e : Expression} → IsChain a e → IsPre a [] e
    pre_more : {a : List Tok} {e : Expression} {ps : List PreSign} {p : PreSign} (s : Sign) →
        prefix_op s ≡ Some p → IsPre a ps e → IsPre (sign_tok s ∷ a) (p ∷ ps) e

  -- Chain = Base Step*
  pub data IsChain : List Tok → Expression → Type 0 where
    chain_base : {a b : List Tok} {e : Expression} {ss : List Step} → IsBase a e → AreSteps b ss →
        IsChain (a ++ b) (chain_of e ss)

  -- Base = "null" | "true" | "false" | Number | Text | Param | Word | "@" | "*" | "^" ("." "^")*
  -- | "(" Expr ")"
  --      | Name "(" ")" | Name "(" Args ")" | "[" Elems "]" | "{" Entries "}"
  pub data IsBase : List Tok → Expression → Type 0 where
    base_constant : {e : Expression} (w : List ℕ) → constant_of w ≡ Some e →
        IsBase (word_tok w ∷ []) e
    base_number : (n : List ℕ) → IsBase (number_tok n ∷ []) (number_literal n)
    base_text : (t : List ℕ) → IsBase (text_tok t ∷ []) (text_literal t)
    base_param : (p : List ℕ) → IsBase (param_tok p ∷ []) (param p)
    base_word : (w : List ℕ) → constant_of w ≡ None → IsBase (word_tok w ∷ []) (word w)
    base_this : IsBase (sign_tok sign.At ∷ []) this
    base_everything : IsBase (sign_tok sign.Star ∷ []) everything
    base_parent : {a : List Tok} {n : ℕ} → AreCarets a n → IsBase a (parent n)
    base_round : {a : List Tok} {e : Expression} {xs : List (BinSign × Expression)} →
        IsExpr a e xs →
        IsBase (sign_tok sign.OpenParen ∷ (a
        ++ (sign_tok sign.CloseParen ∷ []))) (round (run_of e xs))
    base_call : {a : List Tok} {w : List ℕ} →
        IsName a w → IsBase (a
        ++ (sign_tok sign.OpenParen ∷ sign_tok sign.CloseParen ∷ []))
        (call w (arguments_of []))
    base_call_with : {a b : List Tok} {w : List ℕ} {xs : List Argument} →
        IsName a w → AreArguments b xs →
        IsBase (a ++ (sign_tok sign.OpenParen ∷ (b
        ++ (sign_tok sign.CloseParen ∷ [])))) (call w (arguments_of xs))
    base_array : {a : List Tok} {xs : List Element} →
        AreElements a xs →
        IsBase (sign_tok sign.OpenBracket ∷ (a
        ++ (sign_tok sign.CloseBracket ∷ []))) (array (elements_of xs))
    base_object : {a : List Tok} {xs : List Entry} →
        AreEntries a xs →
        IsBase (sign_tok sign.OpenBrace ∷ (a
        ++ (sign_tok sign.CloseBrace ∷ []))) (object_literal (entries_of xs))

  -- (Elem ("," Elem)* ","?)?
  pub data AreElements : List Tok → List Element → Type 0 where
    elements_none : AreElements [] []
    elements_last : {a : List Tok} {x : Element} → IsElement a x → AreElements a (x ∷ [])
    elements_more : {a b : List Tok} {x : Element} {xs : List Element} →
        IsElement a x → AreElements b xs → AreElements (a ++ (sign_tok sign.Comma ∷ b)) (x ∷ xs)

  -- Elem = Expr | "..." Expr
  pub data IsElement : List Tok → Element → Type 0 where
    element_one : {a : List Tok} {e : Expression} {xs : List (BinSign × Expression)} →
        IsExpr a e xs → IsElement a (element (run_of e xs))
    element_spread : {a : List Tok} {e : Expression} {xs : List (BinSign × Expression)} →
        IsExpr a e xs → IsElement (sign_tok sign.DotDotDot ∷ a) (spread_element (run_of e xs))

  -- Arg ("," Arg)*
  pub data AreArguments : List Tok → List Argument → Type 0 where
    arguments_last : {a : List Tok} {x : Argument} → IsArgument a x → AreArguments a (x ∷ [])
    arguments_more : {a b : List Tok} {x : Argument} {xs : List Argument} →
        IsArgument a x → AreArguments b xs → AreArguments (a ++ (sign_tok sign.Comma ∷ b)) (x ∷ xs)

  -- Arg = Expr | Expr "=>" Expr
  pub data IsArgument : List Tok → Argument → Type 0 where
    argument_one : {a : List Tok} {e : Expression} {xs : List (BinSign × Expression)} →
        IsExpr a e xs → IsArgument a (argument (run_of e xs))
    argument_when : {a b : List Tok} {e f : Expression} {xs ys : List (BinSign × Expression)} →
        IsExpr a e xs → IsExpr b f ys →
        IsArgument (a
        ++ (sign_tok sign.FatArrow ∷ b)) (when_argument (run_of e xs) (run_of f ys))

  -- Step*, where "->" Word is the step "->" followed by the step of the word
  pub data AreSteps : List Tok → List Step → Type 0 where
    steps_none : AreSteps [] []
    steps_more : {a b : List Tok} {s : Step} {ss : List Step} → IsStep a s → AreSteps b ss →
        AreSteps (a ++ b) (s ∷ ss)
    steps_arrow : {b : List Tok} {ss : List Step} (w : List ℕ) →
        is_keyword w ≡ false → AreSteps b ss →
        AreSteps (sign_tok sign.Arrow ∷ word_tok w ∷ b) (deref ∷ attr w ∷ ss)

  -- Step = "." Word | "->" | "[" "]" | "[" Sum ".." Sum "]" | "[" Sum "..." Sum "]" | "[" Expr "]"
  --      | "{" Entries "}" | "|" "{" Entries "}" | "|" Name "(" ")" | "|" Name "(" OrderKeys ")"
  pub data IsStep : List Tok → Step → Type 0 where
    step_attr : (w : List ℕ) → IsStep (sign_tok sign.Dot ∷ word_tok w ∷ []) (attr w)
    step_deref : IsStep (sign_tok sign.Arrow ∷ []) deref
    step_each : IsStep (sign_tok sign.OpenBracket ∷ sign_tok sign.CloseBracket ∷ []) each
    step_slice : {a b : List Tok} {e f : Expression} {xs ys : List (BinSign
        × Expression)} {closed : Bool} (s : Sign) →
        IsSum a e xs → range_of s ≡ Some closed → IsSum b f ys →
        IsStep (sign_tok sign.OpenBracket ∷ (a
        ++ (sign_tok s ∷ (b
        ++ (sign_tok sign.CloseBracket ∷ []))))) (slice (run_of e xs) (run_of f ys) closed)
    step_bracket : {a : List Tok} {e : Expression} {xs : List (BinSign × Expression)} →
        IsExpr a e xs →
        IsStep (sign_tok sign.OpenBracket ∷ (a
        ++ (sign_tok sign.CloseBracket ∷ []))) (bracket (run_of e xs))
    step_project : {a : List Tok} {xs : List Entry} →
        AreEntries a xs →
        IsStep (sign_tok sign.OpenBrace ∷ (a
        ++ (sign_tok sign.CloseBrace ∷ []))) (project (entries_of xs))
    step_piped_project : {a : List Tok} {xs : List Entry} →
        AreEntries a xs →
        IsStep (sign_tok sign.Pipe ∷ sign_tok sign.OpenBrace ∷ (a
        ++ (sign_tok sign.CloseBrace ∷ []))) (project (entries_of xs))
    step_pipe : {a : List Tok} {w : List ℕ} →
        IsName a w → IsStep (sign_tok sign.Pipe ∷ (a
        ++ (sign_tok sign.OpenParen ∷ sign_tok sign.CloseParen ∷ []))) (pipe w (keys_of []))
    step_pipe_with : {a b : List Tok} {w : List ℕ} {ks : List OrderKey} →
        IsName a w → AreKeys b ks →
        IsStep (sign_tok sign.Pipe ∷ (a
        ++ (sign_tok sign.OpenParen ∷ (b
        ++ (sign_tok sign.CloseParen ∷ []))))) (pipe w (keys_of ks))

  -- OrderKey ("," OrderKey)*
  pub data AreKeys : List Tok → List OrderKey → Type 0 where
    keys_last : {a : List Tok} {k : OrderKey} → IsKey a k → AreKeys a (k ∷ [])
    keys_more : {a b : List Tok} {k : OrderKey} {ks : List OrderKey} →
        IsKey a k → AreKeys b ks → AreKeys (a ++ (sign_tok sign.Comma ∷ b)) (k ∷ ks)

  -- OrderKey = Expr | Expr "asc" | Expr "desc"
  pub data IsKey : List Tok → OrderKey → Type 0 where
    key_plain : {a : List Tok} {e : Expression} {xs : List (BinSign × Expression)} →
        IsExpr a e xs → IsKey a (order_key (run_of e xs) false)
    key_asc : {a : List Tok} {e : Expression} {xs : List (BinSign × Expression)} →
        IsExpr a e xs → IsKey (a ++ (word_tok (codes "asc") ∷ [])) (order_key (run_of e xs) false)
    key_desc : {a : List Tok} {e : Expression} {xs : List (BinSign × Expression)} →
        IsExpr a e xs → IsKey (a ++ (word_tok (codes "desc") ∷ [])) (order_key (run_of e xs) true)

  -- Entries = (Entry ("," Entry)* ","?)?
  pub data AreEntries : List Tok → List Entry → Type 0 where
    entries_none : AreEntries [] []
    entries_last : {a : List Tok} {x : Entry} → IsEntry a x → AreEntries a (x ∷ [])
    entries_more : {a b : List Tok} {x : Entry} {xs : List Entry} →
        IsEntry a x → AreEntries b xs → AreEntries (a ++ (sign_tok sign.Comma ∷ b)) (x ∷ xs)

  -- Entry = Text ":" Expr | Expr | Expr "=>" Expr | "..." | "..." Expr
  pub data IsEntry : List Tok → Entry → Type 0 where
    entry_keyed : {a : List Tok} {e : Expression} {xs : List (BinSign × Expression)} (k : List ℕ) →
        IsExpr a e xs → IsEntry (text_tok k ∷ sign_tok sign.Colon ∷ a) (keyed k (run_of e xs))
    entry_bare : {a : List Tok} {e : Expression} {xs : List (BinSign × Expression)} →
        IsExpr a e xs → IsEntry a (bare (run_of e xs))
    entry_when : {a b : List Tok} {e f : Expression} {xs ys : List (BinSign × Expression)} →
        IsExpr a e xs → IsExpr b f ys →
        IsEntry (a ++ (sign_tok sign.FatArrow ∷ b)) (when (run_of e xs) (run_of f ys))
    entry_spread_this : IsEntry (sign_tok sign.DotDotDot ∷ []) (spread this)
    entry_spread : {a : List Tok} {e : Expression} {xs : List (BinSign × Expression)} →
        IsExpr a e xs → IsEntry (sign_tok sign.DotDotDot ∷ a) (spread (run_of e xs))

-- the tokens spell the expression
abbrev pub Spells : List Tok → Expression → Type 0
Spells ts t = (e : Expression) × (xs : List (BinSign × Expression)) × IsExpr ts e xs
    × (t ≡ run_of e xs)
