-- What reading says of spelling.
use Rattle.std.proofs.Common.{◌≡◌, List, [], ◌∷◌, ◌++◌, sym, ◌∙◌, subst, append-nil}
use Rattle.cs_syntax.specs.Expression.{Tok, Expression}
use Rattle.cs_grammar.specs.Spells.{Spells}
use Rattle.cs_grammar.specs.Reading.{expr, fail, got, Reads}
use Rattle.cs_grammar.proofs.Given.{same_outcome}
use Rattle.cs_grammar.proofs.Ends.{nothing_end}
use Rattle.cs_grammar.proofs.Complete.{expr_read}
use Rattle.cs_grammar.proofs.Taken.{got_tree}
use Rattle.cs_grammar.proofs.Sound.{reads_sound}

-- what is spelled is read to its end
pub spelled_read : {ts : List Tok} {t : Expression} → Spells ts t → Reads expr ts (got t [])
spelled_read {ts = ts} {t = t} s =
    subst (λ z. Reads expr z (got t [])) (append-nil ts)
    (subst (λ z. Reads expr (ts ++ []) (got z [])) (sym s.3) (expr_read s.2 [] nothing_end))

-- the law: tokens spell at most one expression
pub one_expression : (ts : List Tok) (t u : Expression) → Spells ts t → Spells ts u → t ≡ u
one_expression ts t u a b = got_tree (same_outcome (spelled_read a) (spelled_read b))

-- what is read to the end is spelled
pub read_spelled : {ts : List Tok} {t : Expression} → Reads expr ts (got t []) → Spells ts t
read_spelled {ts = ts} {t = t} h =
    let s = reads_sound h in
    subst (λ z. Spells z t) (sym (s.took.is
    ∙ append-nil s.taken)) (s.fact.first, s.fact.rest, s.fact.spelled, s.fact.is)

-- what is not read, or not to its end, spells nothing
pub unread : {ts : List Tok} → Reads expr ts fail → (t : Expression) → Spells ts t → ⊥
unread h t s = clash (same_outcome h (spelled_read s))
  where
    clash : {e : Expression} {r : List Tok} → fail ≡ got e r → ⊥
    clash h = cc

pub unfinished : {ts r : List Tok} {x : Tok} {e : Expression} → Reads expr ts (got e (x ∷ r)) →
    (t : Expression) → Spells ts t → ⊥
unfinished h t s = clash (same_outcome h (spelled_read s))
  where
    clash : {e f : Expression} {x : Tok} {r : List Tok} → got e (x ∷ r) ≡ got f [] → ⊥
    clash h = cc
