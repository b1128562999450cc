-- What is looked up among the tokens of a text.
use Rattle.std.proofs.Common.{◌≡◌, ℕ, zero, suc, ◌+◌, ◌<◌, List, [], ◌∷◌, length, map, get_or, Option, Some, None, refl, sym, ap, subst, ◌∙◌, arith}
use Rattle.std.specs.Option.{option_map}
use Rattle.cs_syntax.specs.declared.sign.Sign.{Sign}
use Rattle.cs_syntax.specs.declared.sign.Sign.TheVariants as sign
use Rattle.cs_syntax.specs.Expression.{Tok, number_tok, text_tok, param_tok, word_tok, sign_tok}
use Rattle.cs_grammar.specs.declared.lexeme.Form.{Form}
use Rattle.cs_grammar.specs.declared.lexeme.Form.TheVariants as form
use Rattle.cs_grammar.specs.declared.lexeme.Lexeme.{Lexeme}
use Rattle.cs_grammar.specs.Answers.{after_key}
use Rattle.cs_grammar.specs.Reading.{after, after_sign}
use Rattle.cs_grammar.specs.View.{IsNoSign, formed, left, sign_in, source, tok}

pub left_at : (text : List ℕ) (ls : List Lexeme) (i : ℕ) (l : Lexeme) → i < length ls →
    l ≡ get_or ls i l
    → left (map (tok text) ls) i ≡ tok text l ∷ left (map (tok text) ls) (i + 1)
unfolding left
left_at text [] i l h e = absurd (omega arith)
left_at text (x ∷ ls) zero l h e = ap (λ z. tok text z ∷ map (tok text) ls) (sym e)
left_at text (x ∷ ls) (suc i) l h e =
    let next : suc (i + 1) ≡ suc i + 1 = omega arith in
    subst (λ n. left (map (tok text) (x ∷ ls)) (suc i)
    ≡ tok text l ∷ left (map (tok text) (x ∷ ls)) n) next (left_at text ls i l (omega arith) e)

by_sign : (f : Form) (s : Sign) (written : List ℕ) → Some s ≡ sign_in f → formed f written ≡ sign_tok s
by_sign form.Number s w h = cc
by_sign form.Text s w h = cc
by_sign form.Param s w h = cc
by_sign form.Word s w h = cc
by_sign (form.Sign x) s w h = cc

by_no_sign : (f : Form) (written : List ℕ) (r : List Tok) → None ≡ sign_in f → IsNoSign (formed f written ∷ r)
by_no_sign form.Number w r h = tt
by_no_sign form.Text w r h = tt
by_no_sign form.Param w r h = tt
by_no_sign form.Word w r h = tt
by_no_sign (form.Sign x) w r h = absurd (cc)

pub sign_at : (text : List ℕ) (ls : List Lexeme) (i : ℕ) (l : Lexeme) (s : Sign) → i < length ls
    → l ≡ get_or ls i l → Some s ≡ sign_in l.form
    → left (map (tok text) ls) i ≡ sign_tok s ∷ left (map (tok text) ls) (i + 1)
sign_at text ls i l s h e k = left_at text ls i l h e
    ∙ ap (λ t. t ∷ left (map (tok text) ls) (i + 1)) (by_sign l.form s (source text l) k)

pub no_sign_at : (text : List ℕ) (ls : List Lexeme) (i : ℕ) (l : Lexeme) → i < length ls
    → l ≡ get_or ls i l → None ≡ sign_in l.form → IsNoSign (left (map (tok text) ls) i)
no_sign_at text ls i l h e k =
    subst IsNoSign (sym (left_at text ls i l h e)) (by_no_sign l.form (source text l) _ k)

pub no_sign_after : (s : Sign) (ts : List Tok) → IsNoSign ts → after s ts ≡ None
no_sign_after s [] h = refl
no_sign_after s (number_tok n ∷ r) h = refl
no_sign_after s (text_tok t ∷ r) h = refl
no_sign_after s (param_tok p ∷ r) h = refl
no_sign_after s (word_tok w ∷ r) h = refl
no_sign_after s (sign_tok x ∷ r) h = absurd h

pub no_sign_after_sign : {A : Type 0} (φ : Sign → Option A) (ts : List Tok) → IsNoSign ts →
    after_sign φ ts ≡ None
no_sign_after_sign φ [] h = refl
no_sign_after_sign φ (number_tok n ∷ r) h = refl
no_sign_after_sign φ (text_tok t ∷ r) h = refl
no_sign_after_sign φ (param_tok p ∷ r) h = refl
no_sign_after_sign φ (word_tok w ∷ r) h = refl
no_sign_after_sign φ (sign_tok x ∷ r) h = absurd h

-- where no colon follows, no text is a key
no_key_before : (t : Tok) (r : List Tok) → None ≡ after sign.Colon r → after_key (t ∷ r) ≡ None
no_key_before (number_tok n) r h = refl
no_key_before (text_tok k) r h = ap (option_map {U = List ℕ × List Tok} (λ s. (k, s))) (sym h)
no_key_before (param_tok p) r h = refl
no_key_before (word_tok w) r h = refl
no_key_before (sign_tok s) r h = refl

pub no_key_at : (text : List ℕ) (ls : List Lexeme) (i : ℕ) (l : Lexeme) → i < length ls
    → l ≡ get_or ls i l → None ≡ after sign.Colon (left (map (tok text) ls) (i + 1))
    → after_key (left (map (tok text) ls) i) ≡ None
no_key_at text ls i l h e k =
    ap after_key (left_at text ls i l h e) ∙ no_key_before (tok text l) _ k
