-- What the reading of all tokens answers.
use Rattle.std.proofs.Common.{◌≡◌, ◌<◌, ℕ, zero, suc, List, [], ◌∷◌, length, Result, Ok, Err, refl, subst, arith}
use Rattle.std.proofs.lemmas.List.{drop_all}
use Rattle.std.specs.Prelude.{Box}
use Rattle.std.specs.declared.alloc.Global.{Global}
use Rattle.cs_syntax.specs.declared.tree.Expr.{Expr}
use Rattle.cs_syntax.specs.Expression.{Tok, Expression}
use Rattle.cs_syntax.specs.View.{expression}
use Rattle.cs_grammar.specs.declared.fault.GrammarFault.{GrammarFault}
use Rattle.cs_grammar.specs.declared.fault.GrammarFault.TheVariants.{Syntax, NoMemory}
use Rattle.cs_grammar.specs.View.{left}
use Rattle.cs_grammar.specs.Spells.{Spells}
use Rattle.cs_grammar.specs.Parsing.{Parses}
use Rattle.cs_grammar.specs.Answers.{Replies}

-- all tokens, and the tokens from an index on at the end and before it
pub left_all : (ls : List Tok) → left ls 0 ≡ ls
unfolding left
left_all ls = refl

pub left_end : (ls : List Tok) (i : ℕ) → i ≡ length ls → left ls i ≡ []
unfolding left
left_end ls i h = drop_all i ls (omega arith)

pub left_more : (ls : List Tok) (i : ℕ) → i < length ls →
    (x : Tok) × (r : List Tok) × (left ls i ≡ x ∷ r)
unfolding left
left_more [] i h = absurd (omega arith)
left_more (l ∷ ls) zero h = (l, ls, refl)
left_more (l ∷ ls) (suc i) h = left_more ls i (omega arith)

pub parses_from : (ls : List Tok) (r : Result (Box Expr Global) GrammarFault) →
    Replies (λ (e : Box Expr Global). Spells (left ls 0) (expression e.value)) ((t : Expression) →
    Spells (left ls 0) t → ⊥) r → Parses ls r
parses_from ls (Ok e) h = subst (λ z. Spells z (expression e.value)) (left_all ls) h
parses_from ls (Err Syntax) h = subst (λ z. (t : Expression) → ¬ (Spells z t)) (left_all ls) h
parses_from ls (Err NoMemory) h = tt
