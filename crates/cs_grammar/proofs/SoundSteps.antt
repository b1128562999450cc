-- What is read is spelled so: the steps of a chain.
use Rattle.std.proofs.Common.{◌≡◌, ℕ, List, [], ◌∷◌, ◌++◌, true, false, sym, ap, ap₂, ◌∙◌, subst, append_assoc, append-nil}
use Rattle.std.specs.Prelude.{codes}
use Rattle.cs_syntax.specs.declared.sign.Sign.TheVariants as sign
use Rattle.cs_syntax.specs.Expression.{Tok, word_tok, sign_tok, Expression, Step, attr, deref, each, slice, bracket, project, pipe, OrderKey, order_key, keys_of, chain_of}
use Rattle.cs_grammar.specs.Spells.{range_of, IsName, name_word, name_within, IsExpr, steps_none, steps_more, steps_arrow, IsStep, step_attr, step_deref, step_each, step_slice, step_bracket, step_project, step_piped_project, step_pipe, step_pipe_with, AreKeys, keys_last, keys_more, IsKey, key_plain, key_asc, key_desc}
use Rattle.cs_grammar.specs.Reading.{expr, expr_from, sum, steps_from, arrow_from, bracket_from, pipe_from, keys_from, next_key, entries_from, fail, got, bind, Oracle, match_after, expect, after, after_sign, after_word, after_keyword, after_attribute, entries_in, name_of_words, read_projection, read_steps, read_arrow, read_bracket, read_keyed_pipe, read_pipe, read_keys, read_next_key}
use Rattle.cs_grammar.proofs.Behind.{after_is, after_sign_is, after_word_is, after_keyword_is, after_attribute_is}
use Rattle.cs_grammar.proofs.Taken.{bound, Split, found, missing, split, must, expected, got_tree, got_rest, Took, ◌then◌, one, none, RunTree, MoreSteps, MoreEntries, Sound, IsSound, step_as, key_as, next_close, next_comma, more_item, all_closed}

-- one step, and the steps behind it
one_step : (e : Expression) (ss : List Step) (s : Step) (a b : List Tok) (t : Expression) →
    IsStep a s → MoreSteps e (ss ++ (s ∷ [])) b t → MoreSteps e ss (a ++ b) t
one_step e ss s a b t k m = record {
  steps = s ∷ m.steps;
  spelled = steps_more k m.spelled;
  is = m.is ∙ ap (chain_of e) (append_assoc ss (s ∷ []) m.steps);
}

-- a projection, without and with `|`
projection_step : {a : List Tok} {o : Expression} → MoreEntries [] a o →
    IsStep (sign_tok sign.OpenBrace ∷ a) (project (entries_in o))
projection_step {o = o} m =
    subst (λ z. IsStep (sign_tok sign.OpenBrace ∷ z) (project (entries_in o))) (all_closed m)
    (step_as (ap (λ z. project (entries_in z)) (sym m.gives.is)) (step_project m.spelled))

piped_projection_step : {a : List Tok} {o : Expression} → MoreEntries [] a o →
    IsStep (sign_tok sign.Pipe ∷ sign_tok sign.OpenBrace ∷ a) (project (entries_in o))
piped_projection_step {o = o} m =
    subst (λ z. IsStep (sign_tok sign.Pipe ∷ sign_tok sign.OpenBrace ∷ z)
    (project (entries_in o))) (all_closed m)
    (step_as (ap (λ z. project (entries_in z)) (sym m.gives.is)) (step_piped_project m.spelled))

-- a key with what stands behind it
plain_key : {a : List Tok} {e : Expression} → RunTree IsExpr a e → IsKey a (order_key e false)
plain_key x = key_as (ap (λ z. order_key z false) (sym x.is)) (key_plain x.spelled)

asc_key : {a : List Tok} {e : Expression} → RunTree IsExpr a e →
    IsKey (a ++ (word_tok (codes "asc") ∷ [])) (order_key e false)
asc_key x = key_as (ap (λ z. order_key z false) (sym x.is)) (key_asc x.spelled)

desc_key : {a : List Tok} {e : Expression} → RunTree IsExpr a e →
    IsKey (a ++ (word_tok (codes "desc") ∷ [])) (order_key e true)
desc_key x = key_as (ap (λ z. order_key z true) (sym x.is)) (key_desc x.spelled)

-- what is taken behind the name of a piped call and `(`
record PipeTaken (e : Expression) (ss : List Step) (w : List ℕ) (ts : List Tok) (t : Expression)
    (r : List Tok) : Type 0 where
  taken : List Tok
  took : Took ts taken r
  fact : (n : List Tok) → IsName n w →
      MoreSteps e ss (sign_tok sign.Pipe ∷ (n ++ (sign_tok sign.OpenParen ∷ taken))) t

module _ (f : Oracle) (h : IsSound f) where
  pub sound_steps : (e : Expression) (ss : List Step) (ts : List Tok) (t : Expression)
      (r : List Tok) → read_steps f e ss ts ≡ got t r → Sound (steps_from e ss) ts t r
  sound_steps e ss ts t r eq = by_dot (split (after sign.Dot ts) _ _ eq)
    where
      by_pipe : Split (after sign.Pipe ts) (λ s. f (pipe_from e ss) s) (got (chain_of e ss) ts)
          (got t r) → Sound (steps_from e ss) ts t r
      by_pipe (found q i j) =
          let y = h (pipe_from e ss) q _ _ j in
          record {
            taken = sign_tok sign.Pipe ∷ y.taken;
            took =
                one (after_is sign.Pipe ts i) then y.took;
            fact = y.fact;
          }
      by_pipe (missing i j) = record {
        taken = [];
        took = none (got_rest j);
        fact = record {
          steps = [];
          spelled = steps_none;
          is =
              sym (got_tree j) ∙ ap (chain_of e) (sym (append-nil ss));
        };
      }

      by_brace : Split (after sign.OpenBrace ts) (read_projection f e ss)
          (match_after (after sign.Pipe ts) (λ s. f (pipe_from e ss) s) (got (chain_of e ss) ts))
          (got t r) →
          Sound (steps_from e ss) ts t r
      by_brace (found q i j) =
          let b = bound _ (λ o s. f (steps_from e (ss ++ (project (entries_in o) ∷ []))) s) j in
          let x = h (entries_from []) q _ _ b.first in
          let y = h (steps_from e (ss ++ (project (entries_in b.tree) ∷ []))) _ _ _ b.second in
          record {
            taken = (sign_tok sign.OpenBrace ∷ x.taken) ++ y.taken;
            took = (one (after_is sign.OpenBrace ts i) then x.took) then y.took;
            fact = one_step e ss (project (entries_in b.tree)) (sign_tok sign.OpenBrace ∷ x.taken)
                y.taken t (projection_step x.fact) y.fact;
          }
      by_brace (missing i j) = by_pipe (split (after sign.Pipe ts) _ _ j)

      by_bracket : Split (after sign.OpenBracket ts) (λ s. f (bracket_from e ss) s)
          (match_after (after sign.OpenBrace ts) (read_projection f e ss)
          (match_after (after sign.Pipe ts) (λ s. f (pipe_from e ss) s)
          (got (chain_of e ss) ts))) (got t r) →
          Sound (steps_from e ss) ts t r
      by_bracket (found q i j) =
          let y = h (bracket_from e ss) q _ _ j in
          record {
            taken = sign_tok sign.OpenBracket ∷ y.taken;
            took =
                one (after_is sign.OpenBracket ts i) then y.took;
            fact = y.fact;
          }
      by_bracket (missing i j) =
          by_brace (split (after sign.OpenBrace ts) (read_projection f e ss) _ j)

      by_arrow : Split (after sign.Arrow ts) (λ s. f (arrow_from e (ss ++ (deref ∷ []))) s)
          (match_after (after sign.OpenBracket ts) (λ s. f (bracket_from e ss) s)
          (match_after (after sign.OpenBrace ts) (read_projection f e ss)
          (match_after (after sign.Pipe ts) (λ s. f (pipe_from e ss) s)
          (got (chain_of e ss) ts)))) (got t r) →
          Sound (steps_from e ss) ts t r
      by_arrow (found q i j) =
          let y = h (arrow_from e (ss ++ (deref ∷ []))) q _ _ j in
          record {
            taken = sign_tok sign.Arrow ∷ y.taken;
            took = one (after_is sign.Arrow ts i) then y.took;
            fact = record {
              steps = deref ∷ y.fact.steps;
              spelled = y.fact.spelled;
              is = y.fact.is ∙ ap (chain_of e) (append_assoc ss (deref ∷ []) y.fact.steps);
            };
          }
      by_arrow (missing i j) = by_bracket (split (after sign.OpenBracket ts) _ _ j)

      by_dot : Split (after sign.Dot ts)
          (λ s. match_after (after_word s) (λ x. f (steps_from e (ss
          ++ (attr x.0 ∷ []))) x.1) fail)
          (match_after (after sign.Arrow ts) (λ s. f (arrow_from e (ss ++ (deref ∷ []))) s)
          (match_after (after sign.OpenBracket ts) (λ s. f (bracket_from e ss) s)
          (match_after (after sign.OpenBrace ts) (read_projection f e ss)
          (match_after (after sign.Pipe ts) (λ s. f (pipe_from e ss) s)
          (got (chain_of e ss) ts))))) (got t r) →
          Sound (steps_from e ss) ts t r
      by_dot (found q i j) =
          let m = must (after_word q) (λ x. f (steps_from e (ss ++ (attr x.0 ∷ []))) x.1) j in
          let y = h (steps_from e (ss ++ (attr m.value.0 ∷ []))) m.value.1 _ _ m.goes_on in
          record {
            taken = sign_tok sign.Dot ∷ word_tok m.value.0 ∷ y.taken;
            took = one (after_is sign.Dot ts i) then one (after_word_is q m.is) then y.took;
            fact = one_step e ss (attr m.value.0) (sign_tok sign.Dot ∷ word_tok m.value.0 ∷ [])
                y.taken t (step_attr m.value.0) y.fact;
          }
      by_dot (missing i j) = by_arrow (split (after sign.Arrow ts) _ _ j)

  -- behind `->`
  pub sound_arrow : (e : Expression) (ss : List Step) (ts : List Tok) (t : Expression)
      (r : List Tok) → read_arrow f e ss ts ≡ got t r → Sound (arrow_from e ss) ts t r
  sound_arrow e ss ts t r eq = by_case (split (after_attribute ts) _ _ eq)
    where
      by_case : Split (after_attribute ts) (λ x. f (steps_from e (ss
          ++ (attr x.0 ∷ []))) x.1) (f (steps_from e ss) ts) (got t r) →
          Sound (arrow_from e ss) ts t r
      by_case (found v i j) =
          let y = h (steps_from e (ss ++ (attr v.0 ∷ []))) v.1 _ _ j in
          let a = after_attribute_is ts i in
          record {
            taken = word_tok v.0 ∷ y.taken;
            took = one a.is then y.took;
            fact = record {
              steps = attr v.0 ∷ y.fact.steps;
              spelled = steps_arrow v.0 a.free y.fact.spelled;
              is = y.fact.is ∙ ap (chain_of e) (append_assoc ss (attr v.0 ∷ []) y.fact.steps);
            };
          }
      by_case (missing i j) =
          let y = h (steps_from e ss) ts _ _ j in
          record {
            taken = y.taken;
            took = y.took;
            fact =
                record {
                  steps = y.fact.steps;
                  spelled = steps_more step_deref y.fact.spelled;
                  is =
                      y.fact.is;
                };
          }

  -- behind the bracket that opens a step
  pub sound_bracket : (e : Expression) (ss : List Step) (ts : List Tok) (t : Expression)
      (r : List Tok) → read_bracket f e ss ts ≡ got t r → Sound (bracket_from e ss) ts t r
  sound_bracket e ss ts t r eq = by_close (split (after sign.CloseBracket ts) _ _ eq)
    where
      by_range : (a : Expression) (s : List Tok) (x : Sound sum ts a s) →
          Split (after_sign range_of s)
          (λ v. bind (f sum v.1) (λ b q. expect sign.CloseBracket q (λ u. f (steps_from e (ss
          ++ (slice a b v.0 ∷ []))) u)))
          (bind (f (expr_from a) s) (λ c q. expect sign.CloseBracket q (λ u. f (steps_from e (ss
          ++ (bracket c ∷ []))) u))) (got t r) → Sound (bracket_from e ss) ts t r
      by_range a s x (found v i j) =
          let b = bound _ (λ b q. expect sign.CloseBracket q (λ u. f (steps_from e (ss
          ++ (slice a b v.0 ∷ []))) u)) j in
          let y = h sum v.1 _ _ b.first in
          let c = expected sign.CloseBracket b.rest (λ u. f (steps_from e (ss
          ++ (slice a b.tree v.0 ∷ []))) u) b.second in
          let z = h (steps_from e (ss ++ (slice a b.tree v.0 ∷ []))) c.rest _ _ c.goes_on in
          let d = after_sign_is range_of s i in
          let p : IsStep (sign_tok sign.OpenBracket ∷ (x.taken
          ++ (sign_tok d.sign ∷ (y.taken
          ++ (sign_tok sign.CloseBracket ∷ []))))) (slice a b.tree v.0) =
          step_as (ap₂ (λ m n. slice m n v.0) (sym x.fact.is) (sym y.fact.is))
          (step_slice d.sign x.fact.spelled d.means y.fact.spelled) in
          record {
            taken = (x.taken
                ++ (sign_tok d.sign ∷ (y.taken ++ (sign_tok sign.CloseBracket ∷ [])))) ++ z.taken;
            took = (x.took then one d.is then y.took then one c.is) then z.took;
            fact = one_step e ss (slice a b.tree v.0) _ z.taken t p z.fact;
          }
      by_range a s x (missing i j) =
          let b = bound _ (λ c q. expect sign.CloseBracket q (λ u. f (steps_from e (ss
          ++ (bracket c ∷ []))) u)) j in
          let y = h (expr_from a) s _ _ b.first in
          let w = y.fact x.taken x.fact in
          let c = expected sign.CloseBracket b.rest (λ u. f (steps_from e (ss
          ++ (bracket b.tree ∷ []))) u) b.second in
          let z = h (steps_from e (ss ++ (bracket b.tree ∷ []))) c.rest _ _ c.goes_on in
          let p : IsStep (sign_tok sign.OpenBracket ∷ ((x.taken ++ y.taken)
          ++ (sign_tok sign.CloseBracket ∷ []))) (bracket b.tree) =
          step_as (ap bracket (sym w.is)) (step_bracket w.spelled) in
          record {
            taken = ((x.taken ++ y.taken) ++ (sign_tok sign.CloseBracket ∷ [])) ++ z.taken;
            took = ((x.took then y.took) then one c.is) then z.took;
            fact = one_step e ss (bracket b.tree) _ z.taken t p z.fact;
          }

      by_close : Split (after sign.CloseBracket ts) (λ s. f (steps_from e (ss ++ (each ∷ []))) s)
          (bind (f sum ts) (λ a s.
          match_after (after_sign range_of s)
          (λ v. bind (f sum v.1) (λ b q. expect sign.CloseBracket q (λ u. f (steps_from e (ss
          ++ (slice a b v.0 ∷ []))) u)))
          (bind (f (expr_from a) s) (λ c q. expect sign.CloseBracket q (λ u. f (steps_from e (ss
          ++ (bracket c ∷ []))) u)))))
          (got t r) → Sound (bracket_from e ss) ts t r
      by_close (found q i j) =
          let z = h (steps_from e (ss ++ (each ∷ []))) q _ _ j in
          record {
            taken = sign_tok sign.CloseBracket ∷ z.taken;
            took = one (after_is sign.CloseBracket ts i) then z.took;
            fact = one_step e ss each
                (sign_tok sign.OpenBracket ∷ sign_tok sign.CloseBracket ∷ []) z.taken t step_each
                z.fact;
          }
      by_close (missing i j) =
          let b = bound _
          (λ a s.
          match_after (after_sign range_of s)
          (λ v. bind (f sum v.1) (λ b q. expect sign.CloseBracket q (λ u. f (steps_from e (ss
          ++ (slice a b v.0 ∷ []))) u)))
          (bind (f (expr_from a) s) (λ c q. expect sign.CloseBracket q (λ u. f (steps_from e (ss
          ++ (bracket c ∷ []))) u)))) j in
          let x = h sum ts _ _ b.first in
          by_range b.tree b.rest x (split (after_sign range_of b.rest) _ _ b.second)

  -- behind the name of a piped call and `(`
  pipe_taken : (e : Expression) (ss : List Step) (w : List ℕ) (ts : List Tok) (t : Expression)
      (r : List Tok) → read_keyed_pipe f e ss w ts ≡ got t r → PipeTaken e ss w ts t r
  pipe_taken e ss w ts t r eq = by_close (split (after sign.CloseParen ts) _ _ eq)
    where
      by_close : Split (after sign.CloseParen ts) (λ s. f (steps_from e (ss
          ++ (pipe w (keys_of []) ∷ []))) s) (f (keys_from e ss w []) ts) (got t r) →
          PipeTaken e ss w ts t r
      by_close (found q i j) =
          let y = h (steps_from e (ss ++ (pipe w (keys_of []) ∷ []))) q _ _ j in
          record {
            taken = sign_tok sign.CloseParen ∷ y.taken;
            took = one (after_is sign.CloseParen ts i) then y.took;
            fact = λ n k.
                subst (λ z. MoreSteps e ss (sign_tok sign.Pipe ∷ z) t)
                (append_assoc n (sign_tok sign.OpenParen ∷ sign_tok sign.CloseParen ∷ [])
                y.taken)
                (one_step e ss (pipe w (keys_of [])) _ y.taken t (step_pipe k) y.fact);
          }
      by_close (missing i j) =
          let y = h (keys_from e ss w []) ts _ _ j in
          let m = y.fact in
          record {
            taken = y.taken;
            took = y.took;
            fact = λ n k.
                subst (λ z. MoreSteps e ss (sign_tok sign.Pipe ∷ z) t)
                (append_assoc n (sign_tok sign.OpenParen ∷ (m.inner
                ++ (sign_tok sign.CloseParen ∷ []))) m.behind
                ∙ ap (λ z. n ++ (sign_tok sign.OpenParen ∷ z))
                (append_assoc m.inner (sign_tok sign.CloseParen ∷ []) m.behind ∙ sym m.closed))
                (one_step e ss (pipe w (keys_of m.items)) _ m.behind t
                (step_pipe_with k m.spelled) m.gives);
          }

  -- behind `|`
  pub sound_pipe : (e : Expression) (ss : List Step) (ts : List Tok) (t : Expression)
      (r : List Tok) → read_pipe f e ss ts ≡ got t r → Sound (pipe_from e ss) ts t r
  sound_pipe e ss ts t r eq =
      by_brace (split (after sign.OpenBrace ts) (read_projection f e ss) _ eq)
    where
      by_colons : (w : List ℕ) (q : List Tok) → ts ≡ word_tok w ∷ q →
          Split (after sign.ColonColon q)
          (λ s. match_after (after_word s)
          (λ y. expect sign.OpenParen y.1 (read_keyed_pipe f e ss (name_of_words w y.0))) fail)
          (expect sign.OpenParen q (read_keyed_pipe f e ss w)) (got t r) →
          Sound (pipe_from e ss) ts t r
      by_colons w q p (found s i j) =
          let m = must (after_word s)
          (λ y. expect sign.OpenParen y.1 (read_keyed_pipe f e ss (name_of_words w y.0))) j in
          let o = expected sign.OpenParen m.value.1 (read_keyed_pipe f e ss (name_of_words w m.value.0))
          m.goes_on in
          let y = pipe_taken e ss (name_of_words w m.value.0) o.rest t r o.goes_on in
          record {
            taken = word_tok w ∷ sign_tok sign.ColonColon ∷ word_tok m.value.0 ∷ sign_tok
                sign.OpenParen ∷ y.taken;
            took = one p then one (after_is sign.ColonColon q i) then one (after_word_is s m.is)
                then one o.is then y.took;
            fact = y.fact (word_tok w ∷ sign_tok sign.ColonColon ∷ word_tok m.value.0 ∷ [])
                (name_within w m.value.0);
          }
      by_colons w q p (missing i j) =
          let o = expected sign.OpenParen q (read_keyed_pipe f e ss w) j in
          let y = pipe_taken e ss w o.rest t r o.goes_on in
          record {
            taken = word_tok w ∷ sign_tok sign.OpenParen ∷ y.taken;
            took = one p then one o.is then y.took;
            fact = y.fact (word_tok w ∷ []) (name_word w);
          }

      by_brace : Split (after sign.OpenBrace ts) (read_projection f e ss)
          (match_after (after_word ts)
          (λ x. match_after (after sign.ColonColon x.1)
          (λ s. match_after (after_word s)
          (λ y. expect sign.OpenParen y.1 (read_keyed_pipe f e ss (name_of_words x.0 y.0))) fail)
          (expect sign.OpenParen x.1 (read_keyed_pipe f e ss x.0)))
          fail) (got t r) → Sound (pipe_from e ss) ts t r
      by_brace (found q i j) =
          let b = bound _ (λ o s. f (steps_from e (ss ++ (project (entries_in o) ∷ []))) s) j in
          let x = h (entries_from []) q _ _ b.first in
          let y = h (steps_from e (ss ++ (project (entries_in b.tree) ∷ []))) _ _ _ b.second in
          record {
            taken = (sign_tok sign.OpenBrace ∷ x.taken) ++ y.taken;
            took = (one (after_is sign.OpenBrace ts i) then x.took) then y.took;
            fact = one_step e ss (project (entries_in b.tree))
                (sign_tok sign.Pipe ∷ sign_tok sign.OpenBrace ∷ x.taken) y.taken t
                (piped_projection_step x.fact) y.fact;
          }
      by_brace (missing i j) =
          let m = must (after_word ts)
          (λ x. match_after (after sign.ColonColon x.1)
          (λ s. match_after (after_word s)
          (λ y. expect sign.OpenParen y.1 (read_keyed_pipe f e ss (name_of_words x.0 y.0))) fail)
          (expect sign.OpenParen x.1 (read_keyed_pipe f e ss x.0))) j in
          by_colons m.value.0 m.value.1 (after_word_is ts m.is)
          (split (after sign.ColonColon m.value.1) _ _ m.goes_on)

  -- keys of a piped call
  pub sound_keys : (e : Expression) (ss : List Step) (w : List ℕ) (ks : List OrderKey)
      (ts : List Tok) (t : Expression) (r : List Tok) → read_keys f e ss w ks ts ≡ got t r →
      Sound (keys_from e ss w ks) ts t r
  sound_keys e ss w ks ts t r eq =
      let b = bound _
      (λ k s.
      match_after (after_keyword (codes "asc") s) (λ q. f (next_key e ss w (ks
      ++ (order_key k false ∷ []))) q)
      (match_after (after_keyword (codes "desc") s) (λ q. f (next_key e ss w (ks
      ++ (order_key k true ∷ []))) q)
      (f (next_key e ss w (ks ++ (order_key k false ∷ []))) s))) eq in
      let x = h expr ts _ _ b.first in
      by_asc b.tree b.rest x (split (after_keyword (codes "asc") b.rest) _ _ b.second)
    where
      by_desc : (k : Expression) (s : List Tok) (x : Sound expr ts k s) →
          Split (after_keyword (codes "desc") s) (λ q. f (next_key e ss w (ks
          ++ (order_key k true ∷ []))) q) (f (next_key e ss w (ks
          ++ (order_key k false ∷ []))) s) (got t r) →
          Sound (keys_from e ss w ks) ts t r
      by_desc k s x (found q i j) =
          let y = h (next_key e ss w (ks ++ (order_key k true ∷ []))) q _ _ j in
          record {
            taken = (x.taken ++ (word_tok (codes "desc") ∷ [])) ++ y.taken;
            took = (x.took then one (after_keyword_is (codes "desc") s i)) then y.took;
            fact = more_item AreKeys sign.CloseParen _ IsKey ks (order_key k true) y.taken
                (x.taken ++ (word_tok (codes "desc") ∷ [])) (desc_key x.fact) y.fact;
          }
      by_desc k s x (missing i j) =
          let y = h (next_key e ss w (ks ++ (order_key k false ∷ []))) s _ _ j in
          record {
            taken = x.taken ++ y.taken;
            took = x.took then y.took;
            fact = more_item AreKeys sign.CloseParen _ IsKey ks (order_key k false) y.taken
                x.taken (plain_key x.fact) y.fact;
          }

      by_asc : (k : Expression) (s : List Tok) (x : Sound expr ts k s) →
          Split (after_keyword (codes "asc") s) (λ q. f (next_key e ss w (ks
          ++ (order_key k false ∷ []))) q)
          (match_after (after_keyword (codes "desc") s) (λ q. f (next_key e ss w (ks
          ++ (order_key k true ∷ []))) q)
          (f (next_key e ss w (ks ++ (order_key k false ∷ []))) s)) (got t r) →
          Sound (keys_from e ss w ks) ts t r
      by_asc k s x (found q i j) =
          let y = h (next_key e ss w (ks ++ (order_key k false ∷ []))) q _ _ j in
          record {
            taken = (x.taken ++ (word_tok (codes "asc") ∷ [])) ++ y.taken;
            took = (x.took then one (after_keyword_is (codes "asc") s i)) then y.took;
            fact = more_item AreKeys sign.CloseParen _ IsKey ks (order_key k false) y.taken
                (x.taken ++ (word_tok (codes "asc") ∷ [])) (asc_key x.fact) y.fact;
          }
      by_asc k s x (missing i j) = by_desc k s x (split (after_keyword (codes "desc") s) _ _ j)

  pub sound_next_key : (e : Expression) (ss : List Step) (w : List ℕ) (ks : List OrderKey)
      (ts : List Tok) (t : Expression) (r : List Tok) → read_next_key f e ss w ks ts ≡ got t r →
      Sound (next_key e ss w ks) ts t r
  sound_next_key e ss w ks ts t r eq = by_case (split (after sign.Comma ts) _ _ eq)
    where
      by_case : Split (after sign.Comma ts) (λ s. f (keys_from e ss w ks) s)
          (expect sign.CloseParen ts (λ s. f (steps_from e (ss
          ++ (pipe w (keys_of ks) ∷ []))) s)) (got t r) → Sound (next_key e ss w ks) ts t r
      by_case (found q i j) =
          let y = h (keys_from e ss w ks) q _ _ j in
          record {
            taken = sign_tok sign.Comma ∷ y.taken;
            took = one (after_is sign.Comma ts i) then y.took;
            fact = next_comma AreKeys sign.CloseParen _ IsKey ks y.taken
                (λ b c x ys k l. keys_more k l) y.fact;
          }
      by_case (missing i j) =
          let c = expected sign.CloseParen ts (λ s. f (steps_from e (ss
          ++ (pipe w (keys_of ks) ∷ []))) s) j in
          let y = h (steps_from e (ss ++ (pipe w (keys_of ks) ∷ []))) c.rest _ _ c.goes_on in
          record {
            taken = sign_tok sign.CloseParen ∷ y.taken;
            took = one c.is then y.took;
            fact = next_close AreKeys sign.CloseParen _ IsKey ks y.taken (λ b x k. keys_last k)
                y.fact;
          }
