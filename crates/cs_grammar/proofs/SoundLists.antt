-- What is read is spelled so: arguments, elements and entries.
use Rattle.std.proofs.Common.{◌≡◌, ℕ, List, [], ◌∷◌, ◌++◌, Some, refl, sym, ap, ap₂, ◌∙◌, subst, append_assoc}
use Rattle.cs_syntax.specs.declared.sign.Sign.{Sign}
use Rattle.cs_syntax.specs.declared.sign.Sign.TheVariants as sign
use Rattle.cs_syntax.specs.Expression.{Tok, text_tok, sign_tok, Expression, text_literal, this, call, array, object_literal, Entry, keyed, bare, when, spread, Element, element, spread_element, Argument, argument, when_argument, entries_of, elements_of, arguments_of}
use Rattle.cs_grammar.specs.Spells.{IsExpr, AreElements, elements_none, elements_last, elements_more, IsElement, element_one, element_spread, AreArguments, arguments_last, arguments_more, IsArgument, argument_one, argument_when, AreEntries, entries_none, entries_last, entries_more, IsEntry, entry_keyed, entry_bare, entry_when, entry_spread_this, entry_spread}
use Rattle.cs_grammar.specs.Reading.{Goal, expr, args_from, arg_from, next_arg, elements_from, next_element, entries_from, keyed_from, next_entry, got, bind, Oracle, match_after, expect, after, read_arg, read_next_arg, read_elements, read_next_element, read_spread, read_keyed, read_entries, read_next_entry}
use Rattle.cs_syntax.specs.Brackets.{text_alone}
use Rattle.cs_grammar.proofs.Behind.{after_is}
use Rattle.cs_grammar.proofs.TextAlone.{text_expr}
use Rattle.cs_grammar.proofs.Taken.{bound, Split, found, missing, split, expected, got_tree, got_rest, ◌then◌, one, RunTree, More, Next, IsMade, MoreArguments, MoreEntries, SoundFor, Sound, IsSound, element_as, argument_as, entry_as, more_none, next_close, next_comma, more_item}

-- one item of each kind
one_argument : {a : List Tok} {e : Expression} → RunTree IsExpr a e → IsArgument a (argument e)
one_argument x = argument_as (ap argument (sym x.is)) (argument_one x.spelled)

one_when : {a b : List Tok} {e v : Expression} → RunTree IsExpr a e → RunTree IsExpr b v →
    IsArgument (a ++ (sign_tok sign.FatArrow ∷ b)) (when_argument e v)
one_when x y =
    argument_as (ap₂ when_argument (sym x.is) (sym y.is)) (argument_when x.spelled y.spelled)

one_element : {a : List Tok} {e : Expression} → RunTree IsExpr a e → IsElement a (element e)
one_element x = element_as (ap element (sym x.is)) (element_one x.spelled)

one_spread_element : {a : List Tok} {e : Expression} → RunTree IsExpr a e →
    IsElement (sign_tok sign.DotDotDot ∷ a) (spread_element e)
one_spread_element x = element_as (ap spread_element (sym x.is)) (element_spread x.spelled)

bare_entry : {a : List Tok} {e : Expression} → RunTree IsExpr a e → IsEntry a (bare e)
bare_entry x = entry_as (ap bare (sym x.is)) (entry_bare x.spelled)

when_entry : {a b : List Tok} {e v : Expression} → RunTree IsExpr a e → RunTree IsExpr b v →
    IsEntry (a ++ (sign_tok sign.FatArrow ∷ b)) (when e v)
when_entry x y = entry_as (ap₂ when (sym x.is) (sym y.is)) (entry_when x.spelled y.spelled)

spread_entry : {a : List Tok} {e : Expression} → RunTree IsExpr a e →
    IsEntry (sign_tok sign.DotDotDot ∷ a) (spread e)
spread_entry x = entry_as (ap spread (sym x.is)) (entry_spread x.spelled)

keyed_entry : {a : List Tok} {v : Expression} (k : List ℕ) → RunTree IsExpr a v →
    IsEntry (text_tok k ∷ sign_tok sign.Colon ∷ a) (keyed k v)
keyed_entry k x = entry_as (ap (keyed k) (sym x.is)) (entry_keyed k x.spelled)

key_of_is : (e : Expression) (k : List ℕ) → text_alone e ≡ Some k → e ≡ text_literal k
key_of_is (text_literal t) k h = cc
key_of_is _ k h = absurd (cc)

module _ (f : Oracle) (h : IsSound f) where
  -- behind an item: a comma and more, or the sign that closes
  behind_item : {X : Type 0} (I : List Tok → X → Type 0) (P : List Tok → List X →
      Type 0) (close : Sign) (made : List X → Expression) (xs : List X) (from to : Goal)
      (ts : List Tok) (t : Expression) (r : List Tok) →
      ((a : List Tok) (u : Expression) → SoundFor from a u → More P close (IsMade made u) xs a) →
      ((a : List Tok) (u : Expression) → Next I P close (IsMade made u) xs a → SoundFor to a u) →
      ((b : List Tok) (x : X) → I b x → P b (x ∷ [])) →
      ((b c : List Tok) (x : X) (ys : List X) → I b x → P c ys →
      P (b ++ (sign_tok sign.Comma ∷ c)) (x ∷ ys)) →
      match_after (after sign.Comma ts) (λ s. f from s) (expect close ts (λ s. got (made xs) s))
      ≡ got t r → Sound to ts t r
  behind_item I P close made xs from to ts t r into out last more eq =
      by_case (split (after sign.Comma ts) _ _ eq)
    where
      by_case : Split (after sign.Comma ts) (λ s. f from s)
          (expect close ts (λ s. got (made xs) s)) (got t r) → Sound to ts t r
      by_case (found q i j) =
          let y = h from q _ _ j in
          record {
            taken = sign_tok sign.Comma ∷ y.taken;
            took = one (after_is sign.Comma ts i) then y.took;
            fact = out _ t
                (next_comma P close (IsMade made t) I xs y.taken more (into y.taken t y.fact));
          }
      by_case (missing i j) =
          let c = expected close ts (λ s. got (made xs) s) j in
          record {
            taken = sign_tok close ∷ [];
            took = one (c.is ∙ ap (λ z. sign_tok close ∷ z) (got_rest c.goes_on));
            fact = out _ t (next_close P close (IsMade made t) I xs [] last (record {
              nothing =
                  refl;
              is = sym (got_tree c.goes_on);
            }));
          }

  pub sound_next_arg : (w : List ℕ) (xs : List Argument) (ts : List Tok) (t : Expression)
      (r : List Tok) → read_next_arg f w xs ts ≡ got t r → Sound (next_arg w xs) ts t r
  sound_next_arg w xs ts t r eq =
      behind_item IsArgument AreArguments sign.CloseParen (λ ys. call w (arguments_of ys)) xs
      (args_from w xs) (next_arg w xs) ts t r (λ a u m. m) (λ a u m. m)
      (λ b x k. arguments_last k) (λ b c x ys k l. arguments_more k l) eq

  pub sound_next_element : (xs : List Element) (ts : List Tok) (t : Expression) (r : List Tok) →
      read_next_element f xs ts ≡ got t r → Sound (next_element xs) ts t r
  sound_next_element xs ts t r eq =
      behind_item IsElement AreElements sign.CloseBracket (λ ys. array (elements_of ys)) xs
      (elements_from xs) (next_element xs) ts t r (λ a u m. m) (λ a u m. m)
      (λ b x k. elements_last k) (λ b c x ys k l. elements_more k l) eq

  pub sound_next_entry : (xs : List Entry) (ts : List Tok) (t : Expression) (r : List Tok) →
      read_next_entry f xs ts ≡ got t r → Sound (next_entry xs) ts t r
  sound_next_entry xs ts t r eq =
      behind_item IsEntry AreEntries sign.CloseBrace (λ ys. object_literal (entries_of ys)) xs
      (entries_from xs) (next_entry xs) ts t r (λ a u m. m) (λ a u m. m)
      (λ b x k. entries_last k) (λ b c x ys k l. entries_more k l) eq

  -- arguments
  pub sound_args : (w : List ℕ) (xs : List Argument) (ts : List Tok) (t : Expression)
      (r : List Tok) → bind (f expr ts) (λ e s. f (arg_from w xs e) s) ≡ got t r →
      Sound (args_from w xs) ts t r
  sound_args w xs ts t r eq =
      let b = bound _ (λ e s. f (arg_from w xs e) s) eq in
      let x = h expr ts _ _ b.first in
      let y = h (arg_from w xs b.tree) _ _ _ b.second in
      record {
        taken = x.taken ++ y.taken;
        took = x.took then y.took;
        fact =
            y.fact x.taken x.fact;
      }

  pub sound_arg : (w : List ℕ) (xs : List Argument) (e : Expression) (ts : List Tok)
      (t : Expression) (r : List Tok) → read_arg f w xs e ts ≡ got t r →
      Sound (arg_from w xs e) ts t r
  sound_arg w xs e ts t r eq = by_case (split (after sign.FatArrow ts) _ _ eq)
    where
      by_case : Split (after sign.FatArrow ts) (λ q. bind (f expr q) (λ v s. f (next_arg w (xs
          ++ (when_argument e v ∷ []))) s)) (f (next_arg w (xs
          ++ (argument e ∷ []))) ts) (got t r) →
          Sound (arg_from w xs e) ts t r
      by_case (found q i j) =
          let b = bound _ (λ v s. f (next_arg w (xs ++ (when_argument e v ∷ []))) s) j in
          let v = h expr q _ _ b.first in
          let y = h (next_arg w (xs ++ (when_argument e b.tree ∷ []))) _ _ _ b.second in
          record {
            taken = sign_tok sign.FatArrow ∷ (v.taken ++ y.taken);
            took = one (after_is sign.FatArrow ts i) then v.took then y.took;
            fact = λ c x.
                subst (λ z. MoreArguments w xs z t)
                (append_assoc c (sign_tok sign.FatArrow ∷ v.taken) y.taken)
                (more_item AreArguments sign.CloseParen _ IsArgument xs (when_argument e b.tree)
                y.taken (c ++ (sign_tok sign.FatArrow ∷ v.taken)) (one_when x v.fact) y.fact);
          }
      by_case (missing i j) =
          let y = h (next_arg w (xs ++ (argument e ∷ []))) ts _ _ j in
          record {
            taken = y.taken;
            took = y.took;
            fact = λ c x. more_item AreArguments sign.CloseParen _ IsArgument xs (argument e)
                y.taken c (one_argument x) y.fact;
          }

  -- elements
  pub sound_elements : (xs : List Element) (ts : List Tok) (t : Expression) (r : List Tok) →
      read_elements f xs ts ≡ got t r → Sound (elements_from xs) ts t r
  sound_elements xs ts t r eq = by_close (split (after sign.CloseBracket ts) _ _ eq)
    where
      by_dots : Split (after sign.DotDotDot ts) (λ q. bind (f expr q) (λ e s. f (next_element (xs
          ++ (spread_element e ∷ []))) s))
          (bind (f expr ts) (λ e s. f (next_element (xs ++ (element e ∷ []))) s)) (got t r) →
          Sound (elements_from xs) ts t r
      by_dots (found q i j) =
          let b = bound _ (λ e s. f (next_element (xs ++ (spread_element e ∷ []))) s) j in
          let v = h expr q _ _ b.first in
          let y = h (next_element (xs ++ (spread_element b.tree ∷ []))) _ _ _ b.second in
          record {
            taken = (sign_tok sign.DotDotDot ∷ v.taken) ++ y.taken;
            took = (one (after_is sign.DotDotDot ts i) then v.took) then y.took;
            fact = more_item AreElements sign.CloseBracket _ IsElement xs (spread_element b.tree)
                y.taken (sign_tok sign.DotDotDot ∷ v.taken) (one_spread_element v.fact) y.fact;
          }
      by_dots (missing i j) =
          let b = bound _ (λ e s. f (next_element (xs ++ (element e ∷ []))) s) j in
          let v = h expr ts _ _ b.first in
          let y = h (next_element (xs ++ (element b.tree ∷ []))) _ _ _ b.second in
          record {
            taken = v.taken ++ y.taken;
            took = v.took then y.took;
            fact = more_item AreElements sign.CloseBracket _ IsElement xs (element b.tree) y.taken
                v.taken (one_element v.fact) y.fact;
          }

      by_close : Split (after sign.CloseBracket ts) (λ s. got (array (elements_of xs)) s)
          (match_after (after sign.DotDotDot ts) (λ q. bind (f expr q) (λ e s. f (next_element (xs
          ++ (spread_element e ∷ []))) s))
          (bind (f expr ts) (λ e s. f (next_element (xs ++ (element e ∷ []))) s))) (got t r) →
          Sound (elements_from xs) ts t r
      by_close (found q i j) = record {
        taken = sign_tok sign.CloseBracket ∷ [];
        took = one (after_is sign.CloseBracket ts i
            ∙ ap (λ z. sign_tok sign.CloseBracket ∷ z) (got_rest j));
        fact = more_none AreElements sign.CloseBracket _ xs [] elements_none (record {
          nothing =
              refl;
          is = sym (got_tree j);
        });
      }
      by_close (missing i j) = by_dots (split (after sign.DotDotDot ts) _ _ j)

  -- `...` where an entry stands
  spread_this : (xs : List Entry) (ts q : List Tok) (t : Expression) (r : List Tok) →
      ts ≡ sign_tok sign.DotDotDot ∷ q → f (next_entry (xs ++ (spread this ∷ []))) q ≡ got t r →
      Sound (entries_from xs) ts t r
  spread_this xs ts q t r i j =
      let y = h (next_entry (xs ++ (spread this ∷ []))) q _ _ j in
      record {
        taken = sign_tok sign.DotDotDot ∷ y.taken;
        took = one i then y.took;
        fact = more_item AreEntries sign.CloseBrace _ IsEntry xs (spread this) y.taken
            (sign_tok sign.DotDotDot ∷ []) entry_spread_this y.fact;
      }

  sound_spread : (xs : List Entry) (ts q : List Tok) (t : Expression) (r : List Tok) →
      ts ≡ sign_tok sign.DotDotDot ∷ q → read_spread f xs q ≡ got t r →
      Sound (entries_from xs) ts t r
  sound_spread xs ts q t r i eq = by_comma (split (after sign.Comma q) _ _ eq)
    where
      by_close : Split (after sign.CloseBrace q) (λ s. f (next_entry (xs
          ++ (spread this ∷ []))) q) (bind (f expr q) (λ e s. f (next_entry (xs
          ++ (spread e ∷ []))) s)) (got t r) →
          Sound (entries_from xs) ts t r
      by_close (found s k j) = spread_this xs ts q t r i j
      by_close (missing k j) =
          let b = bound _ (λ e s. f (next_entry (xs ++ (spread e ∷ []))) s) j in
          let v = h expr q _ _ b.first in
          let y = h (next_entry (xs ++ (spread b.tree ∷ []))) _ _ _ b.second in
          record {
            taken = (sign_tok sign.DotDotDot ∷ v.taken) ++ y.taken;
            took = (one i then v.took) then y.took;
            fact = more_item AreEntries sign.CloseBrace _ IsEntry xs (spread b.tree) y.taken
                (sign_tok sign.DotDotDot ∷ v.taken) (spread_entry v.fact) y.fact;
          }

      by_comma : Split (after sign.Comma q) (λ s. f (next_entry (xs ++ (spread this ∷ []))) q)
          (match_after (after sign.CloseBrace q) (λ s. f (next_entry (xs
          ++ (spread this ∷ []))) q) (bind (f expr q) (λ e s. f (next_entry (xs
          ++ (spread e ∷ []))) s))) (got t r) →
          Sound (entries_from xs) ts t r
      by_comma (found s k j) = spread_this xs ts q t r i j
      by_comma (missing k j) = by_close (split (after sign.CloseBrace q) _ _ j)

  -- entries
  pub sound_entries : (xs : List Entry) (ts : List Tok) (t : Expression) (r : List Tok) →
      read_entries f xs ts ≡ got t r → Sound (entries_from xs) ts t r
  sound_entries xs ts t r eq = by_close (split (after sign.CloseBrace ts) _ _ eq)
    where
      by_dots : Split (after sign.DotDotDot ts) (read_spread f xs)
          (bind (f expr ts) (λ e s. f (keyed_from xs e) s)) (got t r) →
          Sound (entries_from xs) ts t r
      by_dots (found q i j) = sound_spread xs ts q t r (after_is sign.DotDotDot ts i) j
      by_dots (missing i j) =
          let b = bound _ (λ e s. f (keyed_from xs e) s) j in
          let v = h expr ts _ _ b.first in
          let y = h (keyed_from xs b.tree) _ _ _ b.second in
          record {
            taken = v.taken ++ y.taken;
            took = v.took then y.took;
            fact =
                y.fact v.taken v.fact;
          }

      by_close : Split (after sign.CloseBrace ts) (λ s. got (object_literal (entries_of xs)) s)
          (match_after (after sign.DotDotDot ts) (read_spread f xs)
          (bind (f expr ts) (λ e s. f (keyed_from xs e) s))) (got t r) →
          Sound (entries_from xs) ts t r
      by_close (found q i j) = record {
        taken = sign_tok sign.CloseBrace ∷ [];
        took = one (after_is sign.CloseBrace ts i
            ∙ ap (λ z. sign_tok sign.CloseBrace ∷ z) (got_rest j));
        fact = more_none AreEntries sign.CloseBrace _ xs [] entries_none (record {
          nothing =
              refl;
          is = sym (got_tree j);
        });
      }
      by_close (missing i j) = by_dots (split (after sign.DotDotDot ts) _ _ j)

  -- behind the first expression of an entry
  pub sound_keyed : (xs : List Entry) (e : Expression) (ts : List Tok) (t : Expression)
      (r : List Tok) → read_keyed f xs e ts ≡ got t r → Sound (keyed_from xs e) ts t r
  sound_keyed xs e ts t r eq = by_arrow (split (after sign.FatArrow ts) _ _ eq)
    where
      as_bare : f (next_entry (xs ++ (bare e ∷ []))) ts ≡ got t r → Sound (keyed_from xs e) ts t r
      as_bare j =
          let y = h (next_entry (xs ++ (bare e ∷ []))) ts _ _ j in
          record {
            taken = y.taken;
            took = y.took;
            fact =
                λ c x. more_item AreEntries sign.CloseBrace _ IsEntry xs (bare e) y.taken c
                (bare_entry x) y.fact;
          }

      by_colon : (k : List ℕ) → text_alone e ≡ Some k →
          Split (after sign.Colon ts) (λ s. bind (f expr s) (λ v u. f (next_entry (xs
          ++ (keyed k v ∷ []))) u)) (f (next_entry (xs ++ (bare e ∷ []))) ts) (got t r) →
          Sound (keyed_from xs e) ts t r
      by_colon k l (missing i j) = as_bare j
      by_colon k l (found q i j) =
          let b = bound _ (λ v u. f (next_entry (xs ++ (keyed k v ∷ []))) u) j in
          let v = h expr q _ _ b.first in
          let y = h (next_entry (xs ++ (keyed k b.tree ∷ []))) _ _ _ b.second in
          record {
            taken = sign_tok sign.Colon ∷ (v.taken ++ y.taken);
            took = one (after_is sign.Colon ts i) then v.took then y.took;
            fact = λ c x.
                subst (λ z. MoreEntries xs (z
                ++ (sign_tok sign.Colon ∷ (v.taken
                ++ y.taken))) t) (sym (text_expr k x.spelled (sym x.is ∙ key_of_is e k l)))
                (more_item AreEntries sign.CloseBrace _ IsEntry xs (keyed k b.tree) y.taken
                (text_tok k ∷ sign_tok sign.Colon ∷ v.taken) (keyed_entry k v.fact) y.fact);
          }

      by_key : Split (text_alone e)
          (λ k. match_after (after sign.Colon ts) (λ s. bind (f expr s) (λ v u. f (next_entry (xs
          ++ (keyed k v ∷ []))) u)) (f (next_entry (xs ++ (bare e ∷ []))) ts))
          (f (next_entry (xs ++ (bare e ∷ []))) ts) (got t r) → Sound (keyed_from xs e) ts t r
      by_key (found k l j) = by_colon k l (split (after sign.Colon ts) _ _ j)
      by_key (missing l j) = as_bare j

      by_arrow : Split (after sign.FatArrow ts) (λ s. bind (f expr s) (λ v u. f (next_entry (xs
          ++ (when e v ∷ []))) u))
          (match_after (text_alone e)
          (λ k. match_after (after sign.Colon ts) (λ s. bind (f expr s) (λ v u. f (next_entry (xs
          ++ (keyed k v ∷ []))) u)) (f (next_entry (xs ++ (bare e ∷ []))) ts))
          (f (next_entry (xs ++ (bare e ∷ []))) ts)) (got t r) → Sound (keyed_from xs e) ts t r
      by_arrow (found q i j) =
          let b = bound _ (λ v u. f (next_entry (xs ++ (when e v ∷ []))) u) j in
          let v = h expr q _ _ b.first in
          let y = h (next_entry (xs ++ (when e b.tree ∷ []))) _ _ _ b.second in
          record {
            taken = sign_tok sign.FatArrow ∷ (v.taken ++ y.taken);
            took = one (after_is sign.FatArrow ts i) then v.took then y.took;
            fact = λ c x.
                subst (λ z. MoreEntries xs z t)
                (append_assoc c (sign_tok sign.FatArrow ∷ v.taken) y.taken)
                (more_item AreEntries sign.CloseBrace _ IsEntry xs (when e b.tree) y.taken (c
                ++ (sign_tok sign.FatArrow ∷ v.taken)) (when_entry x v.fact) y.fact);
          }
      by_arrow (missing i j) = by_key (split (text_alone e) _ _ j)
