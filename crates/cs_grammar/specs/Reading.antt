-- One step of reading tokens from the left, over what smaller goals give. For private clauses.
use Rattle.std.specs.Prelude.{◌≡◌, ℕ, zero, suc, ◌≤◌, List, [], ◌∷◌, ◌++◌, Bool, true, false, Option, Some, None, codes, if◌then◌else◌, nat_eq}
use Rattle.std.specs.Option.{option_map, option_and_then}
use Rattle.std.specs.Str.{bytes_eq}
use Rattle.cs_grammar.specs.declared.level.Level.{Level}
use Rattle.cs_grammar.specs.declared.level.Level.TheVariants as level
use Rattle.cs_syntax.specs.declared.sign.Sign.{Sign}
use Rattle.cs_syntax.specs.declared.sign.Sign.TheVariants as sign
use Rattle.cs_syntax.specs.declared.tree.BinSign.{BinSign}
use Rattle.cs_syntax.specs.declared.tree.BinSign.TheVariants as op
use Rattle.cs_syntax.specs.declared.tree.PreSign.{PreSign}
use Rattle.cs_syntax.specs.declared.tree.PreSign.TheVariants as pre
use Rattle.cs_syntax.specs.Expression.{Tok, number_tok, text_tok, param_tok, word_tok, sign_tok, Expression, number_literal, text_literal, param, word, this, everything, parent, round, call, array, object_literal, within, between, Step, attr, deref, each, slice, bracket, project, pipe, Entry, Entries, no_entries, keyed, bare, when, spread, Element, element, spread_element, Argument, argument, when_argument, OrderKey, order_key, entries_of, elements_of, arguments_of, keys_of, run_of, chain_of, prefix_of}
use Rattle.cs_grammar.specs.Spells.{constant_of, is_keyword, sum_op, product_op, comparison_op, prefix_op, range_of}
use Rattle.cs_syntax.specs.Brackets.{text_alone}

-- what is to be read, with what is read of it so far
pub data Goal : Type 0 where
  expr : Goal
  -- behind a sum
  expr_from : Expression → Goal
  -- an operand of `||`, and one of `&&`
  conjunction : Goal
  cmp : Goal
  cmp_from : Expression → Goal
  sum : Goal
  product : Goal
  run_from : Level → Expression → List (BinSign × Expression) → Goal
  neg_from : List PreSign → Goal
  pow : Goal
  pow_from : Expression → List (BinSign × Expression) → Goal
  pre_from : List PreSign → Goal
  link : Goal
  base : Goal
  carets_from : ℕ → Goal
  steps_from : Expression → List Step → Goal
  -- behind `->`
  arrow_from : Expression → List Step → Goal
  -- behind the bracket that opens
  bracket_from : Expression → List Step → Goal
  -- behind `|`
  pipe_from : Expression → List Step → Goal
  -- a key of a piped call, and behind one
  keys_from : Expression → List Step → List ℕ → List OrderKey → Goal
  next_key : Expression → List Step → List ℕ → List OrderKey → Goal
  -- an argument, behind its first expression, and behind an argument
  args_from : List ℕ → List Argument → Goal
  arg_from : List ℕ → List Argument → Expression → Goal
  next_arg : List ℕ → List Argument → Goal
  -- an element of an array, and behind one
  elements_from : List Element → Goal
  next_element : List Element → Goal
  -- an entry of an object, behind its first expression, and behind an entry
  entries_from : List Entry → Goal
  keyed_from : List Entry → Expression → Goal
  next_entry : List Entry → Goal

-- what reading gives: nothing yet, no expression, or one and the tokens behind it
pub data Outcome : Type 0 where
  out : Outcome
  fail : Outcome
  got : Expression → List Tok → Outcome

abbrev pub bind : Outcome → (Expression → List Tok → Outcome) → Outcome
bind out k = out
bind fail k = fail
bind (got e r) k = k e r

abbrev pub Oracle : Type 0
Oracle = Goal → List Tok → Outcome

-- a number for each sign
abbrev pub ordinal : Sign → ℕ
ordinal sign.FatArrow = 0
ordinal sign.EqEq = 1
ordinal sign.Ne = 2
ordinal sign.Le = 3
ordinal sign.Ge = 4
ordinal sign.Lt = 5
ordinal sign.Gt = 6
ordinal sign.AndAnd = 7
ordinal sign.OrOr = 8
ordinal sign.Pipe = 9
ordinal sign.Not = 10
ordinal sign.Plus = 11
ordinal sign.Minus = 12
ordinal sign.StarStar = 13
ordinal sign.Star = 14
ordinal sign.Slash = 15
ordinal sign.Percent = 16
ordinal sign.DotDotDot = 17
ordinal sign.DotDot = 18
ordinal sign.Dot = 19
ordinal sign.Arrow = 20
ordinal sign.OpenBracket = 21
ordinal sign.CloseBracket = 22
ordinal sign.OpenBrace = 23
ordinal sign.CloseBrace = 24
ordinal sign.OpenParen = 25
ordinal sign.CloseParen = 26
ordinal sign.Comma = 27
ordinal sign.ColonColon = 28
ordinal sign.Colon = 29
ordinal sign.At = 30
ordinal sign.Caret = 31

abbrev pub same_sign : Sign → Sign → Bool
same_sign s x = nat_eq (ordinal s) (ordinal x)

-- the tokens behind the sign, where it stands first
abbrev pub after : Sign → List Tok → Option (List Tok)
after s [] = None
after s (number_tok n ∷ r) = None
after s (text_tok t ∷ r) = None
after s (param_tok p ∷ r) = None
after s (word_tok w ∷ r) = None
after s (sign_tok x ∷ r) = if same_sign s x then Some r else None

-- what a sign that stands first means by a table, and the tokens behind it
abbrev pub after_sign : {A : Type 0} → (Sign → Option A) → List Tok → Option (A × List Tok)
after_sign φ [] = None
after_sign φ (number_tok n ∷ r) = None
after_sign φ (text_tok t ∷ r) = None
after_sign φ (param_tok p ∷ r) = None
after_sign φ (word_tok w ∷ r) = None
after_sign φ (sign_tok x ∷ r) = option_map (λ a. (a, r)) (φ x)

-- the word that stands first, and the tokens behind it
abbrev pub after_word : List Tok → Option (List ℕ × List Tok)
after_word [] = None
after_word (number_tok n ∷ r) = None
after_word (text_tok t ∷ r) = None
after_word (param_tok p ∷ r) = None
after_word (word_tok w ∷ r) = Some (w, r)
after_word (sign_tok x ∷ r) = None

-- the tokens behind the keyword, where it stands first
abbrev pub after_keyword : List ℕ → List Tok → Option (List Tok)
after_keyword k [] = None
after_keyword k (number_tok n ∷ r) = None
after_keyword k (text_tok t ∷ r) = None
after_keyword k (param_tok p ∷ r) = None
after_keyword k (word_tok w ∷ r) = if bytes_eq w k then Some r else None
after_keyword k (sign_tok x ∷ r) = None

-- the word that is an attribute behind `->`
abbrev pub after_attribute : List Tok → Option (List ℕ × List Tok)
after_attribute [] = None
after_attribute (number_tok n ∷ r) = None
after_attribute (text_tok t ∷ r) = None
after_attribute (param_tok p ∷ r) = None
after_attribute (word_tok w ∷ r) = if is_keyword w then None else Some (w, r)
after_attribute (sign_tok x ∷ r) = None

-- the tokens behind `.` and `^`
abbrev pub after_caret : List Tok → Option (List Tok)
after_caret ts = option_and_then (after sign.Caret) (after sign.Dot ts)

-- the operators of a level by their signs
abbrev pub op_of : Level → Sign → Option BinSign
op_of level.Or sign.OrOr = Some op.Or
op_of level.And sign.AndAnd = Some op.And
op_of level.Sum s = sum_op s
op_of level.Product s = product_op s
op_of _ _ = None

-- what an operand of a level is read as
abbrev pub operand_of : Level → Goal
operand_of level.Or = conjunction
operand_of level.And = cmp
operand_of level.Sum = product
operand_of level.Product = neg_from []

-- by whether the option has a value
abbrev pub match_after : {A : Type 0} → Option A → (A → Outcome) → Outcome → Outcome
match_after (Some r) k d = k r
match_after None k d = d

abbrev pub expect : Sign → List Tok → (List Tok → Outcome) → Outcome
expect s ts k = match_after (after s ts) k fail

-- a word that nothing follows which makes it a name
abbrev pub plain_word : List ℕ → Option Expression → Expression
plain_word w (Some e) = e
plain_word w None = word w

-- the entries of an object
abbrev pub entries_in : Expression → Entries
entries_in (object_literal xs) = xs
entries_in _ = no_entries

-- two words as one name
abbrev pub name_of_words : List ℕ → List ℕ → List ℕ
name_of_words v w = v ++ (codes "::" ++ w)

module _ (f : Oracle) where
  abbrev pub read_expr_from : Expression → List Tok → Outcome
  read_expr_from e ts =
      bind (f (cmp_from e) ts)
      (λ c r. bind (f (run_from level.And c []) r) (λ d s. f (run_from level.Or d []) s))

  abbrev pub read_in : Expression → List Tok → Outcome
  read_in e r =
      bind (f sum r)
      (λ b s. match_after (after_sign range_of s)
      (λ x. bind (f sum x.1) (λ c u. got (between e b c x.0) u)) (got (within e b) s))

  abbrev pub read_cmp : Expression → List Tok → Outcome
  read_cmp e ts =
      match_after (after_sign comparison_op ts)
      (λ x. bind (f sum x.1) (λ b s. got (run_of e ((x.0, b) ∷ [])) s))
      (match_after (after_keyword (codes "match") ts)
      (λ r. bind (f sum r) (λ b s. got (run_of e ((op.Match, b) ∷ [])) s))
      (match_after (after_keyword (codes "in") ts) (read_in e) (got e ts)))

  abbrev pub read_run : Level → Expression → List (BinSign × Expression) → List Tok → Outcome
  read_run l e xs ts =
      match_after (after_sign (op_of l) ts)
      (λ x. bind (f (operand_of l) x.1) (λ b s. f (run_from l e (xs
      ++ ((x.0, b) ∷ []))) s)) (got (run_of e xs) ts)

  abbrev pub read_neg : List PreSign → List Tok → Outcome
  read_neg ps ts =
      match_after (after sign.Minus ts) (λ r. f (neg_from (ps
      ++ (pre.Minus ∷ []))) r) (bind (f pow ts) (λ e r. got (prefix_of ps e) r))

  abbrev pub read_pow : Expression → List (BinSign × Expression) → List Tok → Outcome
  read_pow e xs ts =
      match_after (after sign.StarStar ts)
      (λ r. bind (f (pre_from []) r) (λ b s. f (pow_from e (xs
      ++ ((op.Pow, b) ∷ []))) s)) (got (run_of e xs) ts)

  abbrev pub read_pre : List PreSign → List Tok → Outcome
  read_pre ps ts =
      match_after (after_sign prefix_op ts) (λ x. f (pre_from (ps
      ++ (x.0 ∷ []))) x.1) (bind (f link ts) (λ e r. got (prefix_of ps e) r))

  abbrev pub read_call : List ℕ → List Tok → Outcome
  read_call w r =
      match_after (after sign.CloseParen r) (λ s. got (call w (arguments_of [])) s)
      (f (args_from w []) r)

  -- behind a word
  abbrev pub read_word : List ℕ → List Tok → Outcome
  read_word w r =
      match_after (after sign.OpenParen r) (read_call w)
      (match_after (after sign.ColonColon r)
      (λ s. match_after (after_word s)
      (λ x. expect sign.OpenParen x.1 (read_call (name_of_words w x.0))) fail)
      (got (plain_word w (constant_of w)) r))

  -- behind a sign with which a base begins
  abbrev pub read_sign : Sign → List Tok → Outcome
  read_sign sign.OpenParen r =
      bind (f expr r) (λ e t. expect sign.CloseParen t (λ u. got (round e) u))
  read_sign sign.OpenBracket r = f (elements_from []) r
  read_sign sign.OpenBrace r = f (entries_from []) r
  read_sign sign.At r = got this r
  read_sign sign.Star r = got everything r
  read_sign sign.Caret r = f (carets_from 1) r
  read_sign _ r = fail

  abbrev pub read_base : List Tok → Outcome
  read_base [] = fail
  read_base (number_tok n ∷ r) = got (number_literal n) r
  read_base (text_tok t ∷ r) = got (text_literal t) r
  read_base (param_tok p ∷ r) = got (param p) r
  read_base (word_tok w ∷ r) = read_word w r
  read_base (sign_tok x ∷ r) = read_sign x r

  abbrev pub read_carets : ℕ → List Tok → Outcome
  read_carets n ts =
      match_after (after_caret ts) (λ r. f (carets_from (suc n)) r) (got (parent n) ts)

  -- behind the brace that opens a projection
  abbrev pub read_projection : Expression → List Step → List Tok → Outcome
  read_projection e ss r =
      bind (f (entries_from []) r) (λ o s. f (steps_from e (ss
      ++ (project (entries_in o) ∷ []))) s)

  abbrev pub read_steps : Expression → List Step → List Tok → Outcome
  read_steps e ss ts =
      match_after (after sign.Dot ts) (λ r. match_after (after_word r) (λ x. f (steps_from e (ss
      ++ (attr x.0 ∷ []))) x.1) fail)
      (match_after (after sign.Arrow ts) (λ r. f (arrow_from e (ss ++ (deref ∷ []))) r)
      (match_after (after sign.OpenBracket ts) (λ r. f (bracket_from e ss) r)
      (match_after (after sign.OpenBrace ts) (read_projection e ss)
      (match_after (after sign.Pipe ts) (λ r. f (pipe_from e ss) r) (got (chain_of e ss) ts)))))

  abbrev pub read_arrow : Expression → List Step → List Tok → Outcome
  read_arrow e ss ts =
      match_after (after_attribute ts) (λ x. f (steps_from e (ss
      ++ (attr x.0 ∷ []))) x.1) (f (steps_from e ss) ts)

  abbrev pub read_bracket : Expression → List Step → List Tok → Outcome
  read_bracket e ss ts =
      match_after (after sign.CloseBracket ts) (λ r. f (steps_from e (ss ++ (each ∷ []))) r)
      (bind (f sum ts) (λ a r.
      match_after (after_sign range_of r)
      (λ x. bind (f sum x.1) (λ b t. expect sign.CloseBracket t (λ u. f (steps_from e (ss
      ++ (slice a b x.0 ∷ []))) u)))
      (bind (f (expr_from a) r) (λ c t. expect sign.CloseBracket t (λ u. f (steps_from e (ss
      ++ (bracket c ∷ []))) u)))))

  -- behind the bracket that opens the keys of a piped call
  abbrev pub read_keyed_pipe : Expression → List Step → List ℕ → List Tok → Outcome
  read_keyed_pipe e ss w r =
      match_after (after sign.CloseParen r) (λ s. f (steps_from e (ss
      ++ (pipe w (keys_of []) ∷ []))) s) (f (keys_from e ss w []) r)

  abbrev pub read_pipe : Expression → List Step → List Tok → Outcome
  read_pipe e ss ts =
      match_after (after sign.OpenBrace ts) (read_projection e ss)
      (match_after (after_word ts)
      (λ x. match_after (after sign.ColonColon x.1)
      (λ s. match_after (after_word s)
      (λ y. expect sign.OpenParen y.1 (read_keyed_pipe e ss (name_of_words x.0 y.0))) fail)
      (expect sign.OpenParen x.1 (read_keyed_pipe e ss x.0)))
      fail)

  abbrev pub read_keys : Expression → List Step → List ℕ → List OrderKey → List Tok → Outcome
  read_keys e ss w ks ts =
      bind (f expr ts) (λ k r.
      match_after (after_keyword (codes "asc") r) (λ s. f (next_key e ss w (ks
      ++ (order_key k false ∷ []))) s)
      (match_after (after_keyword (codes "desc") r) (λ s. f (next_key e ss w (ks
      ++ (order_key k true ∷ []))) s)
      (f (next_key e ss w (ks ++ (order_key k false ∷ []))) r)))

  abbrev pub read_next_key : Expression → List Step → List ℕ → List OrderKey → List Tok → Outcome
  read_next_key e ss w ks ts =
      match_after (after sign.Comma ts) (λ s. f (keys_from e ss w ks) s)
      (expect sign.CloseParen ts (λ s. f (steps_from e (ss ++ (pipe w (keys_of ks) ∷ []))) s))

  abbrev pub read_arg : List ℕ → List Argument → Expression → List Tok → Outcome
  read_arg w xs e ts =
      match_after (after sign.FatArrow ts) (λ r. bind (f expr r) (λ v s. f (next_arg w (xs
      ++ (when_argument e v ∷ []))) s))
      (f (next_arg w (xs ++ (argument e ∷ []))) ts)

  abbrev pub read_next_arg : List ℕ → List Argument → List Tok → Outcome
  read_next_arg w xs ts =
      match_after (after sign.Comma ts) (λ s. f (args_from w xs) s)
      (expect sign.CloseParen ts (λ s. got (call w (arguments_of xs)) s))

  abbrev pub read_elements : List Element → List Tok → Outcome
  read_elements xs ts =
      match_after (after sign.CloseBracket ts) (λ r. got (array (elements_of xs)) r)
      (match_after (after sign.DotDotDot ts) (λ r. bind (f expr r) (λ e s. f (next_element (xs
      ++ (spread_element e ∷ []))) s))
      (bind (f expr ts) (λ e r. f (next_element (xs ++ (element e ∷ []))) r)))

  abbrev pub read_next_element : List Element → List Tok → Outcome
  read_next_element xs ts =
      match_after (after sign.Comma ts) (λ s. f (elements_from xs) s)
      (expect sign.CloseBracket ts (λ s. got (array (elements_of xs)) s))

  -- behind `...` where an entry stands
  abbrev pub read_spread : List Entry → List Tok → Outcome
  read_spread xs r =
      match_after (after sign.Comma r) (λ _. f (next_entry (xs ++ (spread this ∷ []))) r)
      (match_after (after sign.CloseBrace r) (λ _. f (next_entry (xs ++ (spread this ∷ []))) r)
      (bind (f expr r) (λ e s. f (next_entry (xs ++ (spread e ∷ []))) s)))

  abbrev pub read_keyed : List Entry → Expression → List Tok → Outcome
  read_keyed xs e r =
      match_after (after sign.FatArrow r) (λ s. bind (f expr s) (λ v t. f (next_entry (xs
      ++ (when e v ∷ []))) t))
      (match_after (text_alone e)
      (λ k. match_after (after sign.Colon r) (λ s. bind (f expr s) (λ v t. f (next_entry (xs
      ++ (keyed k v ∷ []))) t)) (f (next_entry (xs ++ (bare e ∷ []))) r))
      (f (next_entry (xs ++ (bare e ∷ []))) r))

  abbrev pub read_entries : List Entry → List Tok → Outcome
  read_entries xs ts =
      match_after (after sign.CloseBrace ts) (λ r. got (object_literal (entries_of xs)) r)
      (match_after (after sign.DotDotDot ts) (read_spread xs)
      (bind (f expr ts) (λ e r. f (keyed_from xs e) r)))

  abbrev pub read_next_entry : List Entry → List Tok → Outcome
  read_next_entry xs ts =
      match_after (after sign.Comma ts) (λ s. f (entries_from xs) s)
      (expect sign.CloseBrace ts (λ s. got (object_literal (entries_of xs)) s))

  abbrev pub read_goal : Goal → List Tok → Outcome
  read_goal expr ts = bind (f sum ts) (λ e r. f (expr_from e) r)
  read_goal (expr_from e) ts = read_expr_from e ts
  read_goal conjunction ts = bind (f cmp ts) (λ c r. f (run_from level.And c []) r)
  read_goal cmp ts = bind (f sum ts) (λ e r. f (cmp_from e) r)
  read_goal (cmp_from e) ts = read_cmp e ts
  read_goal sum ts = bind (f product ts) (λ e r. f (run_from level.Sum e []) r)
  read_goal product ts = bind (f (neg_from []) ts) (λ e r. f (run_from level.Product e []) r)
  read_goal (run_from l e xs) ts = read_run l e xs ts
  read_goal (neg_from ps) ts = read_neg ps ts
  read_goal pow ts = bind (f (pre_from []) ts) (λ e r. f (pow_from e []) r)
  read_goal (pow_from e xs) ts = read_pow e xs ts
  read_goal (pre_from ps) ts = read_pre ps ts
  read_goal link ts = bind (f base ts) (λ e r. f (steps_from e []) r)
  read_goal base ts = read_base ts
  read_goal (carets_from n) ts = read_carets n ts
  read_goal (steps_from e ss) ts = read_steps e ss ts
  read_goal (arrow_from e ss) ts = read_arrow e ss ts
  read_goal (bracket_from e ss) ts = read_bracket e ss ts
  read_goal (pipe_from e ss) ts = read_pipe e ss ts
  read_goal (keys_from e ss w ks) ts = read_keys e ss w ks ts
  read_goal (next_key e ss w ks) ts = read_next_key e ss w ks ts
  read_goal (args_from w xs) ts = bind (f expr ts) (λ e r. f (arg_from w xs e) r)
  read_goal (arg_from w xs e) ts = read_arg w xs e ts
  read_goal (next_arg w xs) ts = read_next_arg w xs ts
  read_goal (elements_from xs) ts = read_elements xs ts
  read_goal (next_element xs) ts = read_next_element xs ts
  read_goal (entries_from xs) ts = read_entries xs ts
  read_goal (keyed_from xs e) ts = read_keyed xs e ts
  read_goal (next_entry xs) ts = read_next_entry xs ts

-- reading in at most n steps on a path
unfoldable pub read : ℕ → Oracle
read zero g ts = out
read (suc n) g ts = read_goal (read n) g ts

-- an outcome that enough steps give
pub record Gives (φ : Oracle → Outcome) (o : Outcome) : Type 0 where
  pub enough : ℕ
  pub from : (n : ℕ) → enough ≤ n → φ (read n) ≡ o

pub record Reads (g : Goal) (ts : List Tok) (o : Outcome) : Type 0 where
  pub given : Gives (λ f. f g ts) o
