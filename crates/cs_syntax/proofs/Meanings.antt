-- What a source means, by its kind.
use Rattle.std.proofs.Common.{◌≡◌, ◌≢◌, ℕ, List, Bool, true, false, cond, Option, Some, None, option_map, is_some, refl, sym, ap, ◌∙◌, subst}
use Rattle.std.proofs.lemmas.Bool.{true≢false}
use Rattle.cs_syntax.specs.declared.token.Kind.{Kind}
use Rattle.cs_syntax.specs.declared.token.Kind.TheVariants as kind
use Rattle.std.specs.Option.{option_and_then}
use Rattle.cs_syntax.specs.declared.sign.Sign.{Sign}
use Rattle.cs_syntax.specs.Expression.{Tok, number_tok, text_tok, param_tok, word_tok, sign_tok}
use Rattle.cs_syntax.specs.Escapes.{decoded}
use Rattle.cs_syntax.specs.Signs.{sign_of}
use Rattle.cs_syntax.specs.Lex.{is_word, is_number, meaning, param_name, sign_in}

of-cond : {A : Type 0} (t : Bool) (x : A) → is_some (cond t (Some x) None) ≡ true →
    cond t (Some x) None ≡ Some x
of-cond true x h = refl
of-cond false x h = absurd (true≢false (sym h))

of-map : {A B : Type 0} (f : A → B) (o : Option A) → is_some (option_map f o) ≡ true →
    is_some o ≡ true
of-map f None h = h
of-map f (Some x) h = refl

at-kind : (k j : Kind) (s : List ℕ) → k ≡ j → is_some (meaning k s) ≡ true →
    is_some (meaning j s) ≡ true
at-kind k j s e h = subst (λ x. is_some (meaning x s) ≡ true) e h

pub word-meaning : (k : Kind) (s : List ℕ) → k ≡ kind.Word → is_some (meaning k s) ≡ true →
    meaning k s ≡ Some (word_tok s)
word-meaning k s e h =
    ap (λ x. meaning x s) e ∙ of-cond (is_word s) (word_tok s) (at-kind k kind.Word s e h)

pub number-meaning : (k : Kind) (s : List ℕ) → k ≡ kind.Number → is_some (meaning k s) ≡ true →
    meaning k s ≡ Some (number_tok s)
number-meaning k s e h =
    ap (λ x. meaning x s) e ∙ of-cond (is_number s) (number_tok s) (at-kind k kind.Number s e h)

pub text-meaning : (k : Kind) (s : List ℕ) → k ≡ kind.Text → is_some (meaning k s) ≡ true →
    is_some (decoded s) ≡ true
text-meaning k s e h = of-map text_tok (decoded s) (at-kind k kind.Text s e h)

pub sign-meaning : (k : Kind) (s : List ℕ) → k ≡ kind.Sign → is_some (meaning k s) ≡ true →
    is_some (sign_of s) ≡ true
sign-meaning k s e h = of-map sign_tok (sign_of s) (at-kind k kind.Sign s e h)

by-sign : (o : Option Sign) → o ≡ option_and_then sign_in (option_map sign_tok o)
by-sign None = refl
by-sign (Some x) = refl

pub sign_by_kind : (k : Kind) (s : List ℕ) → k ≡ kind.Sign →
    sign_of s ≡ option_and_then sign_in (meaning k s)
sign_by_kind k s e =
    by-sign (sign_of s) ∙ ap (λ x. option_and_then sign_in (meaning x s)) (sym e)

no-sign : {A : Type 0} (f : A → Tok) → ((x : A) → sign_in (f x) ≡ None) → (o : Option A) →
    None ≡ option_and_then sign_in (option_map f o)
no-sign f h None = refl
no-sign f h (Some x) = sym (h x)

no-sign-where : (t : Bool) (x : Tok) → sign_in x ≡ None →
    None ≡ option_and_then sign_in (cond t (Some x) None)
no-sign-where true x h = sym h
no-sign-where false x h = refl

pub no_sign_by_kind : (k : Kind) (s : List ℕ) → k ≢ kind.Sign →
    None ≡ option_and_then sign_in (meaning k s)
no_sign_by_kind kind.Word s h = no-sign-where (is_word s) (word_tok s) refl
no_sign_by_kind kind.Number s h = no-sign-where (is_number s) (number_tok s) refl
no_sign_by_kind kind.Text s h = no-sign text_tok (λ x. refl) (decoded s)
no_sign_by_kind kind.Param s h = no-sign param_tok (λ x. refl) (param_name s)
no_sign_by_kind kind.Sign s h = absurd (h refl)
