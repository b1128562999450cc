-- What each step of reading gives: the steps of a chain, and what stands in brackets. A rule asks
-- for what stands first, and not for what does not stand there.
use Rattle.std.proofs.Common.{◌≡◌, ℕ, List, [], ◌∷◌, ◌++◌, Bool, true, false, Option, Some, None, refl}
use Rattle.std.specs.Prelude.{codes}
use Rattle.cs_syntax.specs.declared.sign.Sign.TheVariants as sign
use Rattle.cs_syntax.specs.Expression.{Tok, Expression, this, call, array, object_literal, Step, attr, deref, each, slice, bracket, project, pipe, Entry, keyed, bare, when, spread, Element, element, spread_element, Argument, argument, when_argument, OrderKey, order_key, entries_of, elements_of, arguments_of, keys_of, chain_of}
use Rattle.cs_grammar.specs.Spells.{range_of}
use Rattle.cs_grammar.specs.Reading.{expr, expr_from, sum, steps_from, arrow_from, bracket_from, pipe_from, keys_from, next_key, args_from, arg_from, next_arg, elements_from, next_element, entries_from, keyed_from, next_entry, Outcome, fail, got, after, after_sign, after_word, after_keyword, after_attribute, entries_in, name_of_words, read_keyed, Gives, Reads}
use Rattle.cs_syntax.specs.Brackets.{text_alone}
use Rattle.cs_grammar.proofs.Given.{by_const, by_call, by_bind, by_fail, by_some, by_none, by_step}
use Rattle.cs_grammar.proofs.Behind.{signs_apart, no_word, keywords_apart}

-- steps of a chain
module _ {ts r : List Tok} {e : Expression} {ss : List Step} where
  pub reads_attr : {s : List Tok} {w : List ℕ} {o : Outcome} → after sign.Dot ts ≡ Some r →
      after_word r ≡ Some (w, s) → Reads (steps_from e (ss ++ (attr w ∷ []))) s o →
      Reads (steps_from e ss) ts o
  reads_attr h i a = by_step (by_some _ _ h (by_some _ _ i (by_call a)))

  pub reads_attr_fail : after sign.Dot ts ≡ Some r → after_word r ≡ None →
      Reads (steps_from e ss) ts fail
  reads_attr_fail h i = by_step (by_some _ _ h (by_none _ _ i (by_const _)))

  pub reads_arrow : {o : Outcome} → after sign.Arrow ts ≡ Some r →
      Reads (arrow_from e (ss ++ (deref ∷ []))) r o → Reads (steps_from e ss) ts o
  reads_arrow h a =
      by_step (by_none _ _ (signs_apart sign.Dot sign.Arrow ts h refl) (by_some _ _ h (by_call a)))

  pub reads_square : {o : Outcome} → after sign.OpenBracket ts ≡ Some r →
      Reads (bracket_from e ss) r o → Reads (steps_from e ss) ts o
  reads_square h a =
      by_step
      (by_none _ _ (signs_apart sign.Dot sign.OpenBracket ts h refl)
      (by_none _ _ (signs_apart sign.Arrow sign.OpenBracket ts h refl)
      (by_some _ _ h (by_call a))))

  pub reads_pipe : {o : Outcome} → after sign.Pipe ts ≡ Some r → Reads (pipe_from e ss) r o →
      Reads (steps_from e ss) ts o
  reads_pipe h a =
      by_step
      (by_none _ _ (signs_apart sign.Dot sign.Pipe ts h refl)
      (by_none _ _ (signs_apart sign.Arrow sign.Pipe ts h refl)
      (by_none _ _ (signs_apart sign.OpenBracket sign.Pipe ts h refl)
      (by_none _ _ (signs_apart sign.OpenBrace sign.Pipe ts h refl)
      (by_some _ _ h (by_call a))))))

-- a projection, without and with `|`
module _ {ts r : List Tok} {e : Expression} {ss : List Step} (h : after sign.OpenBrace ts
    ≡ Some r) where
  pub reads_projection : {s : List Tok} {x : Expression} {o : Outcome} →
      Reads (entries_from []) r (got x s) →
      Reads (steps_from e (ss ++ (project (entries_in x) ∷ []))) s o →
      Reads (steps_from e ss) ts o
  reads_projection a b =
      by_step
      (by_none _ _ (signs_apart sign.Dot sign.OpenBrace ts h refl)
      (by_none _ _ (signs_apart sign.Arrow sign.OpenBrace ts h refl)
      (by_none _ _ (signs_apart sign.OpenBracket sign.OpenBrace ts h refl)
      (by_some _ _ h (by_bind _ (by_call a) (by_call b))))))

  pub reads_projection_fail : Reads (entries_from []) r fail → Reads (steps_from e ss) ts fail
  reads_projection_fail a =
      by_step
      (by_none _ _ (signs_apart sign.Dot sign.OpenBrace ts h refl)
      (by_none _ _ (signs_apart sign.Arrow sign.OpenBrace ts h refl)
      (by_none _ _ (signs_apart sign.OpenBracket sign.OpenBrace ts h refl)
      (by_some _ _ h (by_fail _ (by_call a))))))

  pub reads_piped_projection : {s : List Tok} {x : Expression} {o : Outcome} →
      Reads (entries_from []) r (got x s) →
      Reads (steps_from e (ss ++ (project (entries_in x) ∷ []))) s o → Reads (pipe_from e ss) ts o
  reads_piped_projection a b = by_step (by_some _ _ h (by_bind _ (by_call a) (by_call b)))

  pub reads_piped_projection_fail : Reads (entries_from []) r fail → Reads (pipe_from e ss) ts fail
  reads_piped_projection_fail a = by_step (by_some _ _ h (by_fail _ (by_call a)))

-- the end of a chain, what stands behind `->`, and a bracket without a sum
module _ {ts : List Tok} {e : Expression} {ss : List Step} where
  pub reads_steps_end : after sign.Dot ts ≡ None → after sign.Arrow ts ≡ None →
      after sign.OpenBracket ts ≡ None → after sign.OpenBrace ts ≡ None →
      after sign.Pipe ts ≡ None → Reads (steps_from e ss) ts (got (chain_of e ss) ts)
  reads_steps_end h i j k l =
      by_step (by_none _ _ h
      (by_none _ _ i (by_none _ _ j (by_none _ _ k (by_none _ _ l (by_const _))))))

  pub reads_attribute : {w : List ℕ} {r : List Tok} {o : Outcome} →
      after_attribute ts ≡ Some (w, r) → Reads (steps_from e (ss ++ (attr w ∷ []))) r o →
      Reads (arrow_from e ss) ts o
  reads_attribute h a = by_step (by_some _ _ h (by_call a))

  pub reads_no_attribute : {o : Outcome} → after_attribute ts ≡ None →
      Reads (steps_from e ss) ts o → Reads (arrow_from e ss) ts o
  reads_no_attribute h a = by_step (by_none _ _ h (by_call a))

  pub reads_square_fail : after sign.CloseBracket ts ≡ None → Reads sum ts fail →
      Reads (bracket_from e ss) ts fail
  reads_square_fail h a = by_step (by_none _ _ h (by_fail _ (by_call a)))

-- behind the bracket that opens a step
module _ {ts r : List Tok} {e : Expression} {ss : List Step} where
  pub reads_each : {o : Outcome} → after sign.CloseBracket ts ≡ Some r →
      Reads (steps_from e (ss ++ (each ∷ []))) r o → Reads (bracket_from e ss) ts o
  reads_each h a = by_step (by_some _ _ h (by_call a))

  module _ {a : Expression} (h : after sign.CloseBracket ts
      ≡ None) (x : Reads sum ts (got a r)) where
    pub reads_slice : {closed : Bool} {s t u : List Tok} {b : Expression} {o : Outcome} →
        after_sign range_of r ≡ Some (closed, s) → Reads sum s (got b t) →
        after sign.CloseBracket t ≡ Some u →
        Reads (steps_from e (ss ++ (slice a b closed ∷ []))) u o →
        Reads (bracket_from e ss) ts o
    reads_slice i y j z =
        by_step (by_none _ _ h
        (by_bind _ (by_call x)
        (by_some _ _ i (by_bind _ (by_call y) (by_some _ _ j (by_call z))))))

    pub reads_slice_fail : {closed : Bool} {s : List Tok} →
        after_sign range_of r ≡ Some (closed, s) → Reads sum s fail →
        Reads (bracket_from e ss) ts fail
    reads_slice_fail i y =
        by_step (by_none _ _ h (by_bind _ (by_call x) (by_some _ _ i (by_fail _ (by_call y)))))

    pub reads_slice_open : {closed : Bool} {s t : List Tok} {b : Expression} →
        after_sign range_of r ≡ Some (closed, s) → Reads sum s (got b t) →
        after sign.CloseBracket t ≡ None → Reads (bracket_from e ss) ts fail
    reads_slice_open i y j =
        by_step (by_none _ _ h
        (by_bind _ (by_call x)
        (by_some _ _ i (by_bind _ (by_call y) (by_none _ _ j (by_const _))))))

    pub reads_bracket : {t u : List Tok} {c : Expression} {o : Outcome} →
        after_sign range_of r ≡ None → Reads (expr_from a) r (got c t) →
        after sign.CloseBracket t ≡ Some u → Reads (steps_from e (ss ++ (bracket c ∷ []))) u o →
        Reads (bracket_from e ss) ts o
    reads_bracket i y j z =
        by_step (by_none _ _ h
        (by_bind _ (by_call x)
        (by_none _ _ i (by_bind _ (by_call y) (by_some _ _ j (by_call z))))))

    pub reads_bracket_fail : after_sign range_of r ≡ None → Reads (expr_from a) r fail →
        Reads (bracket_from e ss) ts fail
    reads_bracket_fail i y =
        by_step (by_none _ _ h (by_bind _ (by_call x) (by_none _ _ i (by_fail _ (by_call y)))))

    pub reads_bracket_open : {t : List Tok} {c : Expression} → after_sign range_of r ≡ None →
        Reads (expr_from a) r (got c t) → after sign.CloseBracket t ≡ None →
        Reads (bracket_from e ss) ts fail
    reads_bracket_open i y j =
        by_step (by_none _ _ h
        (by_bind _ (by_call x)
        (by_none _ _ i (by_bind _ (by_call y) (by_none _ _ j (by_const _))))))

-- a piped call by one word, and by two
pub reads_pipe_open : {ts : List Tok} {e : Expression} {ss : List Step} →
    after sign.OpenBrace ts ≡ None → after_word ts ≡ None → Reads (pipe_from e ss) ts fail
reads_pipe_open h i = by_step (by_none _ _ h (by_none _ _ i (by_const _)))

module _ {ts r : List Tok} {w : List ℕ} {e : Expression} {ss : List Step} (h : after_word ts
    ≡ Some (w, r)) where
  pub reads_pipe_alone : after sign.ColonColon r ≡ None → after sign.OpenParen r ≡ None →
      Reads (pipe_from e ss) ts fail
  reads_pipe_alone i j =
      by_step (by_none _ _ (no_word sign.OpenBrace ts h)
      (by_some _ _ h (by_none _ _ i (by_none _ _ j (by_const _)))))

  pub reads_pipe_call : {s t : List Tok} {o : Outcome} → after sign.OpenParen r ≡ Some s →
      after sign.CloseParen s ≡ Some t →
      Reads (steps_from e (ss ++ (pipe w (keys_of []) ∷ []))) t o → Reads (pipe_from e ss) ts o
  reads_pipe_call i j a =
      by_step
      (by_none _ _ (no_word sign.OpenBrace ts h)
      (by_some _ _ h (by_none _ _ (signs_apart sign.ColonColon sign.OpenParen r i refl)
      (by_some _ _ i (by_some _ _ j (by_call a))))))

  pub reads_pipe_call_with : {s : List Tok} {o : Outcome} → after sign.OpenParen r ≡ Some s →
      after sign.CloseParen s ≡ None → Reads (keys_from e ss w []) s o →
      Reads (pipe_from e ss) ts o
  reads_pipe_call_with i j a =
      by_step
      (by_none _ _ (no_word sign.OpenBrace ts h)
      (by_some _ _ h (by_none _ _ (signs_apart sign.ColonColon sign.OpenParen r i refl)
      (by_some _ _ i (by_none _ _ j (by_call a))))))

  module _ {s : List Tok} (i : after sign.ColonColon r ≡ Some s) where
    pub reads_pipe_name_open : after_word s ≡ None → Reads (pipe_from e ss) ts fail
    reads_pipe_name_open j =
        by_step (by_none _ _ (no_word sign.OpenBrace ts h)
        (by_some _ _ h (by_some _ _ i (by_none _ _ j (by_const _)))))

    module _ {v : List ℕ} {t : List Tok} (j : after_word s ≡ Some (v, t)) where
      pub reads_pipe_name_alone : after sign.OpenParen t ≡ None → Reads (pipe_from e ss) ts fail
      reads_pipe_name_alone k =
          by_step (by_none _ _ (no_word sign.OpenBrace ts h)
          (by_some _ _ h (by_some _ _ i (by_some _ _ j (by_none _ _ k (by_const _))))))

      pub reads_pipe_name_call : {u q : List Tok} {o : Outcome} →
          after sign.OpenParen t ≡ Some u → after sign.CloseParen u ≡ Some q →
          Reads (steps_from e (ss ++ (pipe (name_of_words w v) (keys_of []) ∷ []))) q o →
          Reads (pipe_from e ss) ts o
      reads_pipe_name_call k l a =
          by_step (by_none _ _ (no_word sign.OpenBrace ts h)
          (by_some _ _ h
          (by_some _ _ i (by_some _ _ j (by_some _ _ k (by_some _ _ l (by_call a)))))))

      pub reads_pipe_name_call_with : {u : List Tok} {o : Outcome} →
          after sign.OpenParen t ≡ Some u → after sign.CloseParen u ≡ None →
          Reads (keys_from e ss (name_of_words w v) []) u o → Reads (pipe_from e ss) ts o
      reads_pipe_name_call_with k l a =
          by_step (by_none _ _ (no_word sign.OpenBrace ts h)
          (by_some _ _ h
          (by_some _ _ i (by_some _ _ j (by_some _ _ k (by_none _ _ l (by_call a)))))))

-- keys of a piped call
module _ {ts : List Tok} {e : Expression} {ss : List Step} {w : List ℕ} {ks : List OrderKey} where
  pub reads_key_fail : Reads expr ts fail → Reads (keys_from e ss w ks) ts fail
  reads_key_fail a = by_step (by_fail _ (by_call a))

  module _ {r : List Tok} {k : Expression} {o : Outcome} (x : Reads expr ts (got k r)) where
    pub reads_key_asc : {s : List Tok} → after_keyword (codes "asc") r ≡ Some s →
        Reads (next_key e ss w (ks ++ (order_key k false ∷ []))) s o →
        Reads (keys_from e ss w ks) ts o
    reads_key_asc h a = by_step (by_bind _ (by_call x) (by_some _ _ h (by_call a)))

    pub reads_key_desc : {s : List Tok} → after_keyword (codes "desc") r ≡ Some s →
        Reads (next_key e ss w (ks ++ (order_key k true ∷ []))) s o →
        Reads (keys_from e ss w ks) ts o
    reads_key_desc h a =
        by_step (by_bind _ (by_call x)
        (by_none _ _ (keywords_apart (codes "asc") (codes "desc") r h refl)
        (by_some _ _ h (by_call a))))

    pub reads_key : after_keyword (codes "asc") r ≡ None → after_keyword (codes "desc") r ≡ None →
        Reads (next_key e ss w (ks ++ (order_key k false ∷ []))) r o →
        Reads (keys_from e ss w ks) ts o
    reads_key h i a = by_step (by_bind _ (by_call x) (by_none _ _ h (by_none _ _ i (by_call a))))

  pub reads_key_comma : {s : List Tok} {o : Outcome} → after sign.Comma ts ≡ Some s →
      Reads (keys_from e ss w ks) s o → Reads (next_key e ss w ks) ts o
  reads_key_comma h a = by_step (by_some _ _ h (by_call a))

  pub reads_keys_close : {s : List Tok} {o : Outcome} → after sign.CloseParen ts ≡ Some s →
      Reads (steps_from e (ss ++ (pipe w (keys_of ks) ∷ []))) s o →
      Reads (next_key e ss w ks) ts o
  reads_keys_close h a =
      by_step (by_none _ _ (signs_apart sign.Comma sign.CloseParen ts h refl)
      (by_some _ _ h (by_call a)))

  pub reads_keys_open : after sign.Comma ts ≡ None → after sign.CloseParen ts ≡ None →
      Reads (next_key e ss w ks) ts fail
  reads_keys_open h i = by_step (by_none _ _ h (by_none _ _ i (by_const _)))

-- arguments
module _ {ts : List Tok} {w : List ℕ} {xs : List Argument} where
  pub reads_arg : {r : List Tok} {e : Expression} {o : Outcome} → Reads expr ts (got e r) →
      Reads (arg_from w xs e) r o → Reads (args_from w xs) ts o
  reads_arg a b = by_step (by_bind _ (by_call a) (by_call b))

  pub reads_arg_fail : Reads expr ts fail → Reads (args_from w xs) ts fail
  reads_arg_fail a = by_step (by_fail _ (by_call a))

  pub reads_when_argument : {r s : List Tok} {e v : Expression} {o : Outcome} →
      after sign.FatArrow ts ≡ Some r → Reads expr r (got v s) →
      Reads (next_arg w (xs ++ (when_argument e v ∷ []))) s o → Reads (arg_from w xs e) ts o
  reads_when_argument h a b = by_step (by_some _ _ h (by_bind _ (by_call a) (by_call b)))

  pub reads_when_argument_fail : {r : List Tok} {e : Expression} →
      after sign.FatArrow ts ≡ Some r → Reads expr r fail → Reads (arg_from w xs e) ts fail
  reads_when_argument_fail h a = by_step (by_some _ _ h (by_fail _ (by_call a)))

  pub reads_argument : {e : Expression} {o : Outcome} → after sign.FatArrow ts ≡ None →
      Reads (next_arg w (xs ++ (argument e ∷ []))) ts o → Reads (arg_from w xs e) ts o
  reads_argument h a = by_step (by_none _ _ h (by_call a))

  pub reads_arg_comma : {s : List Tok} {o : Outcome} → after sign.Comma ts ≡ Some s →
      Reads (args_from w xs) s o → Reads (next_arg w xs) ts o
  reads_arg_comma h a = by_step (by_some _ _ h (by_call a))

  pub reads_args_close : {s : List Tok} → after sign.CloseParen ts ≡ Some s →
      Reads (next_arg w xs) ts (got (call w (arguments_of xs)) s)
  reads_args_close h =
      by_step (by_none _ _ (signs_apart sign.Comma sign.CloseParen ts h refl)
      (by_some _ _ h (by_const _)))

  pub reads_args_open : after sign.Comma ts ≡ None → after sign.CloseParen ts ≡ None →
      Reads (next_arg w xs) ts fail
  reads_args_open h i = by_step (by_none _ _ h (by_none _ _ i (by_const _)))

-- elements of an array
module _ {ts : List Tok} {xs : List Element} where
  pub reads_elements_close : {r : List Tok} → after sign.CloseBracket ts ≡ Some r →
      Reads (elements_from xs) ts (got (array (elements_of xs)) r)
  reads_elements_close h = by_step (by_some _ _ h (by_const _))

  pub reads_spread_element : {r s : List Tok} {e : Expression} {o : Outcome} →
      after sign.DotDotDot ts ≡ Some r → Reads expr r (got e s) →
      Reads (next_element (xs ++ (spread_element e ∷ []))) s o → Reads (elements_from xs) ts o
  reads_spread_element h a b =
      by_step (by_none _ _ (signs_apart sign.CloseBracket sign.DotDotDot ts h refl)
      (by_some _ _ h (by_bind _ (by_call a) (by_call b))))

  pub reads_spread_element_fail : {r : List Tok} → after sign.DotDotDot ts ≡ Some r →
      Reads expr r fail → Reads (elements_from xs) ts fail
  reads_spread_element_fail h a =
      by_step (by_none _ _ (signs_apart sign.CloseBracket sign.DotDotDot ts h refl)
      (by_some _ _ h (by_fail _ (by_call a))))

  pub reads_element : {r : List Tok} {e : Expression} {o : Outcome} →
      after sign.CloseBracket ts ≡ None → after sign.DotDotDot ts ≡ None →
      Reads expr ts (got e r) →
      Reads (next_element (xs ++ (element e ∷ []))) r o → Reads (elements_from xs) ts o
  reads_element h i a b =
      by_step (by_none _ _ h (by_none _ _ i (by_bind _ (by_call a) (by_call b))))

  pub reads_element_fail : after sign.CloseBracket ts ≡ None → after sign.DotDotDot ts ≡ None →
      Reads expr ts fail → Reads (elements_from xs) ts fail
  reads_element_fail h i a = by_step (by_none _ _ h (by_none _ _ i (by_fail _ (by_call a))))

  pub reads_element_comma : {s : List Tok} {o : Outcome} → after sign.Comma ts ≡ Some s →
      Reads (elements_from xs) s o → Reads (next_element xs) ts o
  reads_element_comma h a = by_step (by_some _ _ h (by_call a))

  pub reads_array_close : {s : List Tok} → after sign.CloseBracket ts ≡ Some s →
      Reads (next_element xs) ts (got (array (elements_of xs)) s)
  reads_array_close h =
      by_step (by_none _ _ (signs_apart sign.Comma sign.CloseBracket ts h refl)
      (by_some _ _ h (by_const _)))

  pub reads_array_open : after sign.Comma ts ≡ None → after sign.CloseBracket ts ≡ None →
      Reads (next_element xs) ts fail
  reads_array_open h i = by_step (by_none _ _ h (by_none _ _ i (by_const _)))

-- entries of an object
module _ {ts : List Tok} {xs : List Entry} where
  pub reads_entries_close : {r : List Tok} → after sign.CloseBrace ts ≡ Some r →
      Reads (entries_from xs) ts (got (object_literal (entries_of xs)) r)
  reads_entries_close h = by_step (by_some _ _ h (by_const _))

  pub reads_entry : {r : List Tok} {e : Expression} {o : Outcome} →
      after sign.CloseBrace ts ≡ None → after sign.DotDotDot ts ≡ None → Reads expr ts (got e r) →
      Reads (keyed_from xs e) r o → Reads (entries_from xs) ts o
  reads_entry h i a b = by_step (by_none _ _ h (by_none _ _ i (by_bind _ (by_call a) (by_call b))))

  pub reads_entry_fail : after sign.CloseBrace ts ≡ None → after sign.DotDotDot ts ≡ None →
      Reads expr ts fail → Reads (entries_from xs) ts fail
  reads_entry_fail h i a = by_step (by_none _ _ h (by_none _ _ i (by_fail _ (by_call a))))

  pub reads_entry_comma : {s : List Tok} {o : Outcome} → after sign.Comma ts ≡ Some s →
      Reads (entries_from xs) s o → Reads (next_entry xs) ts o
  reads_entry_comma h a = by_step (by_some _ _ h (by_call a))

  pub reads_object_close : {s : List Tok} → after sign.CloseBrace ts ≡ Some s →
      Reads (next_entry xs) ts (got (object_literal (entries_of xs)) s)
  reads_object_close h =
      by_step (by_none _ _ (signs_apart sign.Comma sign.CloseBrace ts h refl)
      (by_some _ _ h (by_const _)))

  pub reads_object_open : after sign.Comma ts ≡ None → after sign.CloseBrace ts ≡ None →
      Reads (next_entry xs) ts fail
  reads_object_open h i = by_step (by_none _ _ h (by_none _ _ i (by_const _)))

-- `...` where an entry stands
module _ {ts r : List Tok} {xs : List Entry} (h : after sign.DotDotDot ts ≡ Some r) where
  pub reads_spread_this_comma : {s : List Tok} {o : Outcome} → after sign.Comma r ≡ Some s →
      Reads (next_entry (xs ++ (spread this ∷ []))) r o → Reads (entries_from xs) ts o
  reads_spread_this_comma i a =
      by_step (by_none _ _ (signs_apart sign.CloseBrace sign.DotDotDot ts h refl)
      (by_some _ _ h (by_some _ _ i (by_call a))))

  pub reads_spread_this_close : {s : List Tok} {o : Outcome} → after sign.CloseBrace r ≡ Some s →
      Reads (next_entry (xs ++ (spread this ∷ []))) r o → Reads (entries_from xs) ts o
  reads_spread_this_close i a =
      by_step
      (by_none _ _ (signs_apart sign.CloseBrace sign.DotDotDot ts h refl)
      (by_some _ _ h (by_none _ _ (signs_apart sign.Comma sign.CloseBrace r i refl)
      (by_some _ _ i (by_call a)))))

  module _ (i : after sign.Comma r ≡ None) (j : after sign.CloseBrace r ≡ None) where
    pub reads_spread : {s : List Tok} {e : Expression} {o : Outcome} → Reads expr r (got e s) →
        Reads (next_entry (xs ++ (spread e ∷ []))) s o → Reads (entries_from xs) ts o
    reads_spread a b =
        by_step
        (by_none _ _ (signs_apart sign.CloseBrace sign.DotDotDot ts h refl)
        (by_some _ _ h (by_none _ _ i (by_none _ _ j (by_bind _ (by_call a) (by_call b))))))

    pub reads_spread_fail : Reads expr r fail → Reads (entries_from xs) ts fail
    reads_spread_fail a =
        by_step (by_none _ _ (signs_apart sign.CloseBrace sign.DotDotDot ts h refl)
        (by_some _ _ h (by_none _ _ i (by_none _ _ j (by_fail _ (by_call a))))))

-- behind the first expression of an entry
module _ {ts : List Tok} {xs : List Entry} {e : Expression} where
  pub reads_when : {r s : List Tok} {v : Expression} {o : Outcome} →
      after sign.FatArrow ts ≡ Some r → Reads expr r (got v s) →
      Reads (next_entry (xs ++ (when e v ∷ []))) s o →
      Reads (keyed_from xs e) ts o
  reads_when h a b = by_step (by_some _ _ h (by_bind _ (by_call a) (by_call b)))

  pub reads_when_fail : {r : List Tok} → after sign.FatArrow ts ≡ Some r → Reads expr r fail →
      Reads (keyed_from xs e) ts fail
  reads_when_fail h a = by_step (by_some _ _ h (by_fail _ (by_call a)))

  pub reads_keyed : {k : List ℕ} {r s : List Tok} {v : Expression} {o : Outcome} →
      text_alone e ≡ Some k → after sign.Colon ts ≡ Some r → Reads expr r (got v s) →
      Reads (next_entry (xs ++ (keyed k v ∷ []))) s o → Reads (keyed_from xs e) ts o
  reads_keyed h i a b =
      by_step (by_none _ _ (signs_apart sign.FatArrow sign.Colon ts i refl)
      (by_some _ _ h (by_some _ _ i (by_bind _ (by_call a) (by_call b)))))

  pub reads_keyed_fail : {k : List ℕ} {r : List Tok} → text_alone e ≡ Some k →
      after sign.Colon ts ≡ Some r → Reads expr r fail → Reads (keyed_from xs e) ts fail
  reads_keyed_fail h i a =
      by_step (by_none _ _ (signs_apart sign.FatArrow sign.Colon ts i refl)
      (by_some _ _ h (by_some _ _ i (by_fail _ (by_call a)))))

  pub reads_bare : {o : Outcome} → after sign.FatArrow ts ≡ None → after sign.Colon ts ≡ None →
      Reads (next_entry (xs ++ (bare e ∷ []))) ts o → Reads (keyed_from xs e) ts o
  reads_bare {o = o} h i a = by_step (either (text_alone e) refl)
    where
      either : (x : Option (List ℕ)) → text_alone e ≡ x → Gives (λ f. read_keyed f xs e ts) o
      either None j = by_none _ _ h (by_none _ _ j (by_call a))
      either (Some k) j = by_none _ _ h (by_some _ _ j (by_none _ _ i (by_call a)))

  pub reads_no_key : {o : Outcome} → after sign.FatArrow ts ≡ None → text_alone e ≡ None →
      Reads (next_entry (xs ++ (bare e ∷ []))) ts o → Reads (keyed_from xs e) ts o
  reads_no_key h i a = by_step (by_none _ _ h (by_none _ _ i (by_call a)))
