-- What a push adds to the list that a vector stands for.
use Rattle.std.proofs.Common.{◌≡◌, List, [], ◌∷◌, ◌++◌, refl, ap, ◌∙◌}
use Rattle.cs_syntax.specs.declared.tree.Arg.{Arg}
use Rattle.cs_syntax.specs.declared.tree.BinSign.{BinSign}
use Rattle.cs_syntax.specs.declared.tree.Elem.{Elem}
use Rattle.cs_syntax.specs.declared.tree.Entry.{Entry as CodeEntry}
use Rattle.cs_syntax.specs.declared.tree.Expr.{Expr}
use Rattle.cs_syntax.specs.declared.tree.OrderKey.{OrderKey as CodeOrderKey}
use Rattle.cs_syntax.specs.declared.tree.Step.{Step as CodeStep}
use Rattle.cs_syntax.specs.Expression.{Step}
use Rattle.cs_syntax.specs.View.{expression, step_of, entry_of, element_of, argument_of, order_key_of, operands, steps, entries, elements, arguments, keys}

pub operands_none : operands [] ≡ []
unfolding operands
operands_none = refl

operands_push : (xs : List (BinSign × Expr)) (x : BinSign × Expr) →
    operands (xs ++ (x ∷ [])) ≡ operands xs ++ ((x.0, expression x.1) ∷ [])
unfolding operands
operands_push [] x = refl
operands_push (y ∷ ys) x = ap (λ z. (y.0, expression y.1) ∷ z) (operands_push ys x)

pub operands_pushed : (old : List (BinSign × Expr)) (o : BinSign) {new : List (BinSign
    × Expr)} {v w : Expr} → new ≡ old ++ ((o, v) ∷ []) → v ≡ w →
    operands new ≡ operands old ++ ((o, expression w) ∷ [])
operands_pushed old o {v = v} p q = ap operands p ∙ operands_push old (o, v)
    ∙ ap (λ z. operands old ++ ((o, expression z) ∷ [])) q

pub steps_none : steps [] ≡ []
unfolding steps
steps_none = refl

steps_push : (xs : List CodeStep) (x : CodeStep) →
    steps (xs ++ (x ∷ [])) ≡ steps xs ++ (step_of x ∷ [])
unfolding steps
steps_push [] x = refl
steps_push (y ∷ ys) x = ap (λ z. step_of y ∷ z) (steps_push ys x)

pub steps_pushed : (old : List CodeStep) (v : CodeStep) {new : List CodeStep} →
    new ≡ old ++ (v ∷ []) → steps new ≡ steps old ++ (step_of v ∷ [])
steps_pushed old v p = ap steps p ∙ steps_push old v

-- a step that was made, at what it stands for
pub steps_pushed_as : (old : List CodeStep) (v : CodeStep) {new : List CodeStep} {s : Step} →
    new ≡ old ++ (v ∷ []) → step_of v ≡ s → steps new ≡ steps old ++ (s ∷ [])
steps_pushed_as old v p q = steps_pushed old v p ∙ ap (λ z. steps old ++ (z ∷ [])) q

pub entries_none : entries [] ≡ []
unfolding entries
entries_none = refl

entries_push : (xs : List CodeEntry) (x : CodeEntry) →
    entries (xs ++ (x ∷ [])) ≡ entries xs ++ (entry_of x ∷ [])
unfolding entries
entries_push [] x = refl
entries_push (y ∷ ys) x = ap (λ z. entry_of y ∷ z) (entries_push ys x)

pub entries_pushed : (old : List CodeEntry) (v : CodeEntry) {new : List CodeEntry} →
    new ≡ old ++ (v ∷ []) → entries new ≡ entries old ++ (entry_of v ∷ [])
entries_pushed old v p = ap entries p ∙ entries_push old v

pub elements_none : elements [] ≡ []
unfolding elements
elements_none = refl

elements_push : (xs : List Elem) (x : Elem) →
    elements (xs ++ (x ∷ [])) ≡ elements xs ++ (element_of x ∷ [])
unfolding elements
elements_push [] x = refl
elements_push (y ∷ ys) x = ap (λ z. element_of y ∷ z) (elements_push ys x)

pub elements_pushed : (old : List Elem) (v : Elem) {new : List Elem} → new ≡ old ++ (v ∷ []) →
    elements new ≡ elements old ++ (element_of v ∷ [])
elements_pushed old v p = ap elements p ∙ elements_push old v

pub arguments_none : arguments [] ≡ []
unfolding arguments
arguments_none = refl

arguments_push : (xs : List Arg) (x : Arg) → arguments (xs ++ (x ∷ [])) ≡ arguments xs
    ++ (argument_of x ∷ [])
unfolding arguments
arguments_push [] x = refl
arguments_push (y ∷ ys) x = ap (λ z. argument_of y ∷ z) (arguments_push ys x)

pub arguments_pushed : (old : List Arg) (v : Arg) {new : List Arg} → new ≡ old ++ (v ∷ []) →
    arguments new ≡ arguments old ++ (argument_of v ∷ [])
arguments_pushed old v p = ap arguments p ∙ arguments_push old v

pub keys_none : keys [] ≡ []
unfolding keys
keys_none = refl

keys_push : (xs : List CodeOrderKey) (x : CodeOrderKey) →
    keys (xs ++ (x ∷ [])) ≡ keys xs ++ (order_key_of x ∷ [])
unfolding keys
keys_push [] x = refl
keys_push (y ∷ ys) x = ap (λ z. order_key_of y ∷ z) (keys_push ys x)

pub keys_pushed : (old : List CodeOrderKey) (v : CodeOrderKey) {new : List CodeOrderKey} →
    new ≡ old ++ (v ∷ []) → keys new ≡ keys old ++ (order_key_of v ∷ [])
keys_pushed old v p = ap keys p ∙ keys_push old v
