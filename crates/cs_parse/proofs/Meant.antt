-- What the sources of tokens mean.
use Rattle.std.proofs.Common.{◌≡◌, map, [], ◌∷◌, ◌++◌, refl, sym, ap, subst, ◌∙◌, true≢false, Bool, true, false, List, ℕ, Some, None, IsSome, if◌then◌else◌}
use Rattle.std.proofs.lemmas.List.{map-append}
use Rattle.std.proofs.lemmas.List.Elements.{filter_map-append}
use Rattle.cs_syntax.specs.declared.token.Kind.{Kind}
use Rattle.cs_syntax.specs.declared.token.Kind.TheVariants as kind
use Rattle.cs_syntax.specs.Expression.{Tok, number_tok}
use Rattle.std.specs.List.{cons_option}
use Rattle.cs_syntax.specs.declared.token.Token.{Token}
use Rattle.cs_syntax.specs.Lex.{meaning, meanings, source, is_number}
use Rattle.cs_grammar.specs.declared.lexeme.Lexeme.{Lexeme}
use Rattle.cs_grammar.specs.View.{tok}

by_test : (b : Bool) (t : Tok) → IsSome (if b then Some t else None) →
    Some t ≡ (if b then Some t else None)
by_test true t h = refl
by_test false t h = absurd (true≢false (sym h))

pub number_meant : (k : Kind) (s r : List ℕ) → k ≡ kind.Number → IsSome (meaning k s) → r ≡ s →
    Some (number_tok r) ≡ meaning k s
number_meant k s r e h f =
    let g : IsSome (meaning kind.Number s) = subst (λ x. IsSome (meaning x s)) e h in
    ap (λ x. Some (number_tok x)) f
    ∙ (by_test (is_number s) (number_tok s) g ∙ ap (λ x. meaning x s) (sym e))

-- one token more
pub meant_more : (text : List ℕ) (ls made : List Lexeme) (l : Lexeme) (ts : List Token) (t : Token) →
    meaning t.kind (source text t) ≡ Some (tok text l) → made ≡ ls ++ (l ∷ []) →
    map (tok text) ls ≡ meanings text ts → map (tok text) made ≡ meanings text (ts ++ (t ∷ []))
meant_more text ls made l ts t means grown so_far =
    ap (map (tok text)) grown ∙ map-append (tok text) ls (l ∷ [])
    ∙ ap (λ ms. ms ++ (tok text l ∷ [])) so_far
    ∙ ap (λ o. meanings text ts ++ cons_option o []) (sym means)
    ∙ sym (filter_map-append (λ u. meaning u.kind (source text u)) ts (t ∷ []))
