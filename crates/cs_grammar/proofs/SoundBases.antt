-- What is read is spelled so: bases.
use Rattle.std.proofs.Common.{◌≡◌, ℕ, suc, List, [], ◌∷◌, ◌++◌, Option, Some, None, refl, sym, ap, ◌∙◌, subst, append_assoc, append-nil}
use Rattle.cs_syntax.specs.declared.sign.Sign.{Sign}
use Rattle.cs_syntax.specs.declared.sign.Sign.TheVariants as sign
use Rattle.cs_syntax.specs.Expression.{Tok, number_tok, text_tok, param_tok, word_tok, sign_tok, Expression, parent, round, call, arguments_of}
use Rattle.cs_grammar.specs.Spells.{constant_of, IsName, name_word, name_within, AreCarets, carets_one, carets_more, IsBase, base_constant, base_number, base_text, base_param, base_word, base_this, base_everything, base_parent, base_round, base_call, base_call_with, base_array, base_object}
use Rattle.cs_grammar.specs.Reading.{expr, base, carets_from, args_from, elements_from, entries_from, fail, got, bind, Oracle, match_after, expect, after, after_word, after_caret, plain_word, name_of_words, read_call, read_word, read_sign, read_base, read_carets}
use Rattle.cs_grammar.proofs.Behind.{after_is, after_word_is, after_caret_is}
use Rattle.cs_grammar.proofs.Taken.{bound, Split, found, missing, split, must, expected, got_tree, got_rest, Took, ◌then◌, one, two, none, MoreArguments, MoreElements, MoreEntries, Sound, IsSound, base_as, all_closed}

-- one caret more at the end
one_caret : {a : List Tok} {n : ℕ} → AreCarets a n →
    AreCarets (a ++ (sign_tok sign.Dot ∷ sign_tok sign.Caret ∷ [])) (suc n)
one_caret carets_one = carets_more carets_one
one_caret (carets_more h) = carets_more (one_caret h)

-- a word alone
word_base : (w : List ℕ) (x : Option Expression) → constant_of w ≡ x →
    IsBase (word_tok w ∷ []) (plain_word w x)
word_base w (Some e) h = base_constant w h
word_base w None h = base_word w h

-- lists in their brackets
array_base : {a : List Tok} {t : Expression} → MoreElements [] a t →
    IsBase (sign_tok sign.OpenBracket ∷ a) t
array_base {t = t} m =
    subst (λ z. IsBase (sign_tok sign.OpenBracket ∷ z) t) (all_closed m)
    (base_as (sym m.gives.is) (base_array m.spelled))

object_base : {a : List Tok} {t : Expression} → MoreEntries [] a t →
    IsBase (sign_tok sign.OpenBrace ∷ a) t
object_base {t = t} m =
    subst (λ z. IsBase (sign_tok sign.OpenBrace ∷ z) t) (all_closed m)
    (base_as (sym m.gives.is) (base_object m.spelled))

call_base : {n a : List Tok} {w : List ℕ} {t : Expression} → IsName n w → MoreArguments w [] a t →
    IsBase (n ++ (sign_tok sign.OpenParen ∷ a)) t
call_base {n = n} {t = t} k m =
    subst (λ z. IsBase (n
    ++ (sign_tok sign.OpenParen ∷ z)) t) (all_closed m)
    (base_as (sym m.gives.is) (base_call_with k m.spelled))

-- what is taken behind a name and `(`
record CallTaken (w : List ℕ) (ts : List Tok) (t : Expression) (r : List Tok) : Type 0 where
  taken : List Tok
  took : Took ts taken r
  fact : (n : List Tok) → IsName n w → IsBase (n ++ (sign_tok sign.OpenParen ∷ taken)) t

module _ (f : Oracle) (h : IsSound f) where
  call_taken : (w : List ℕ) (ts : List Tok) (t : Expression) (r : List Tok) →
      read_call f w ts ≡ got t r → CallTaken w ts t r
  call_taken w ts t r eq = by_close (split (after sign.CloseParen ts) _ _ eq)
    where
      by_close : Split (after sign.CloseParen ts) (λ s. got (call w (arguments_of [])) s)
          (f (args_from w []) ts) (got t r) → CallTaken w ts t r
      by_close (found q i j) = record {
        taken = sign_tok sign.CloseParen ∷ [];
        took = one (after_is sign.CloseParen ts i
            ∙ ap (λ z. sign_tok sign.CloseParen ∷ z) (got_rest j));
        fact = λ n k. base_as (got_tree j) (base_call k);
      }
      by_close (missing i j) =
          let y = h (args_from w []) ts _ _ j in
          record { taken = y.taken; took = y.took; fact = λ n k. call_base k y.fact }

  sound_word : (w : List ℕ) (ts : List Tok) (t : Expression) (r : List Tok) →
      read_word f w ts ≡ got t r → Sound base (word_tok w ∷ ts) t r
  sound_word w ts t r eq = by_open (split (after sign.OpenParen ts) (read_call f w) _ eq)
    where
      by_colons : Split (after sign.ColonColon ts)
          (λ s. match_after (after_word s)
          (λ x. expect sign.OpenParen x.1 (read_call f (name_of_words w x.0))) fail)
          (got (plain_word w (constant_of w)) ts) (got t r) → Sound base (word_tok w ∷ ts) t r
      by_colons (found q i j) =
          let m = must (after_word q)
          (λ x. expect sign.OpenParen x.1 (read_call f (name_of_words w x.0))) j in
          let o = expected sign.OpenParen m.value.1 (read_call f (name_of_words w m.value.0)) m.goes_on in
          let y = call_taken (name_of_words w m.value.0) o.rest t r o.goes_on in
          record {
            taken = word_tok w ∷ sign_tok sign.ColonColon ∷ word_tok m.value.0 ∷ sign_tok
                sign.OpenParen ∷ y.taken;
            took = one refl then one (after_is sign.ColonColon ts i)
                then one (after_word_is q m.is) then one o.is then y.took;
            fact = y.fact (word_tok w ∷ sign_tok sign.ColonColon ∷ word_tok m.value.0 ∷ [])
                (name_within w m.value.0);
          }
      by_colons (missing i j) = record {
        taken = word_tok w ∷ [];
        took = one (ap (λ z. word_tok w ∷ z) (got_rest j));
        fact = base_as (got_tree j) (word_base w (constant_of w) refl);
      }

      by_open : Split (after sign.OpenParen ts) (read_call f w)
          (match_after (after sign.ColonColon ts)
          (λ s. match_after (after_word s)
          (λ x. expect sign.OpenParen x.1 (read_call f (name_of_words w x.0))) fail)
          (got (plain_word w (constant_of w)) ts)) (got t r) → Sound base (word_tok w ∷ ts) t r
      by_open (found q i j) =
          let y = call_taken w q t r j in
          record {
            taken = word_tok w ∷ sign_tok sign.OpenParen ∷ y.taken;
            took = one refl then one (after_is sign.OpenParen ts i) then y.took;
            fact = y.fact (word_tok w ∷ []) (name_word w);
          }
      by_open (missing i j) = by_colons (split (after sign.ColonColon ts) _ _ j)

  sound_round : (ts : List Tok) (t : Expression) (r : List Tok) →
      bind (f expr ts) (λ e q. expect sign.CloseParen q (λ u. got (round e) u)) ≡ got t r →
      Sound base (sign_tok sign.OpenParen ∷ ts) t r
  sound_round ts t r eq =
      let b = bound _ (λ e q. expect sign.CloseParen q (λ u. got (round e) u)) eq in
      let v = h expr ts _ _ b.first in
      let c = expected sign.CloseParen b.rest (λ u. got (round b.tree) u) b.second in
      record {
        taken = sign_tok sign.OpenParen ∷ (v.taken ++ (sign_tok sign.CloseParen ∷ []));
        took = one refl then v.took
            then one (c.is ∙ ap (λ z. sign_tok sign.CloseParen ∷ z) (got_rest c.goes_on));
        fact = base_as (ap round (sym v.fact.is) ∙ got_tree c.goes_on) (base_round v.fact.spelled);
      }

  sound_sign : (s : Sign) (ts : List Tok) (t : Expression) (r : List Tok) →
      read_sign f s ts ≡ got t r → Sound base (sign_tok s ∷ ts) t r
  sound_sign sign.OpenParen ts t r eq = sound_round ts t r eq
  sound_sign sign.OpenBracket ts t r eq =
      let y = h (elements_from []) ts _ _ eq in
      record {
        taken = sign_tok sign.OpenBracket ∷ y.taken;
        took = one refl then y.took;
        fact =
            array_base y.fact;
      }
  sound_sign sign.OpenBrace ts t r eq =
      let y = h (entries_from []) ts _ _ eq in
      record {
        taken = sign_tok sign.OpenBrace ∷ y.taken;
        took = one refl then y.took;
        fact =
            object_base y.fact;
      }
  sound_sign sign.At ts t r eq = record {
    taken = sign_tok sign.At ∷ [];
    took = one (ap (λ z. sign_tok sign.At ∷ z) (got_rest eq));
    fact = base_as (got_tree eq) base_this;
  }
  sound_sign sign.Star ts t r eq = record {
    taken = sign_tok sign.Star ∷ [];
    took = one (ap (λ z. sign_tok sign.Star ∷ z) (got_rest eq));
    fact = base_as (got_tree eq) base_everything;
  }
  sound_sign sign.Caret ts t r eq =
      let y = h (carets_from 1) ts _ _ eq in
      record {
        taken = sign_tok sign.Caret ∷ y.taken;
        took = one refl then y.took;
        fact =
            y.fact (sign_tok sign.Caret ∷ []) carets_one;
      }
  sound_sign _ ts t r eq = absurd (cc)

  pub sound_base : (ts : List Tok) (t : Expression) (r : List Tok) → read_base f ts ≡ got t r →
      Sound base ts t r
  sound_base [] t r eq = absurd (cc)
  sound_base (number_tok n ∷ ts) t r eq = record {
    taken = number_tok n ∷ [];
    took = one (ap (λ z. number_tok n ∷ z) (got_rest eq));
    fact = base_as (got_tree eq) (base_number n);
  }
  sound_base (text_tok n ∷ ts) t r eq = record {
    taken = text_tok n ∷ [];
    took = one (ap (λ z. text_tok n ∷ z) (got_rest eq));
    fact = base_as (got_tree eq) (base_text n);
  }
  sound_base (param_tok n ∷ ts) t r eq = record {
    taken = param_tok n ∷ [];
    took = one (ap (λ z. param_tok n ∷ z) (got_rest eq));
    fact = base_as (got_tree eq) (base_param n);
  }
  sound_base (word_tok w ∷ ts) t r eq = sound_word w ts t r eq
  sound_base (sign_tok s ∷ ts) t r eq = sound_sign s ts t r eq

  -- carets behind the first
  pub sound_carets : (n : ℕ) (ts : List Tok) (t : Expression) (r : List Tok) →
      read_carets f n ts ≡ got t r → Sound (carets_from n) ts t r
  sound_carets n ts t r eq = by_case (split (after_caret ts) _ _ eq)
    where
      by_case : Split (after_caret ts) (λ s. f (carets_from (suc n)) s) (got (parent n) ts)
          (got t r) → Sound (carets_from n) ts t r
      by_case (found q i j) =
          let y = h (carets_from (suc n)) q _ _ j in
          record {
            taken = sign_tok sign.Dot ∷ sign_tok sign.Caret ∷ y.taken;
            took = two (after_caret_is ts i) then y.took;
            fact = λ b k.
                subst (λ z. IsBase z t)
                (append_assoc b (sign_tok sign.Dot ∷ sign_tok sign.Caret ∷ []) y.taken)
                (y.fact (b ++ (sign_tok sign.Dot ∷ sign_tok sign.Caret ∷ [])) (one_caret k));
          }
      by_case (missing i j) = record {
        taken = [];
        took = none (got_rest j);
        fact = λ b k. subst (λ z. IsBase z t) (sym (append-nil b))
            (base_as (got_tree j) (base_parent k));
      }
