-- The truth of a query that stands for a filter is that of the filter.
use Rattle.std.proofs.Common.{◌≡◌, Bool, true, false, cond, ◌&&◌, List, [], ◌∷◌, refl, ap, sym, ◌∙◌, Option, Some, None, map, Vec, Box, Global}
use Rattle.std.specs.Prelude.{is_some, unwrap_or}
use Rattle.cs_value.specs.Tree.{Tree, null, Pairs}
use Rattle.cs_syntax.specs.Expression.{Expression, null_literal, everything, chain, Step, bracket, Steps, no_steps, more_steps}
use Rattle.cs_syntax.specs.Expression.{steps_of}
use Rattle.cs_syntax.specs.View.{expression, step_of}
use Rattle.cs_syntax.specs.declared.tree.Expr.{Expr}
use Rattle.cs_syntax.specs.declared.tree.Expr as code
use Rattle.cs_syntax.specs.declared.tree.Step.{Step as CodeStep}
use Rattle.cs_syntax.proofs.Views.{chain_parts, expression_all}
use Rattle.cs_plan.specs.Simple.{is_filter, is_condition}
use Rattle.cs_plan.specs.Steps.{bracketed}
use Rattle.cs_meaning.proofs.Silent.{both-true}
use Rattle.cs_plain.specs.Plain.{is_plain, filter_in, filter_alone, listened_filter}
use Rattle.cs_plain.specs.Holds.{holds}
use Rattle.cs_plain.specs.Truths.{condition_truth, step_truth, first_truth, query_truth}
use Rattle.cs_plain.proofs.Agree.{plain-agrees, impossible}

abbrev filter-of : Option Expression → Expression
filter-of o = unwrap_or o null_literal

kept-truth : (params : Pairs) (d : Tree) (e : Expression) (b : Bool) → (b ≡ true → is_plain e ≡ true) → is_some (cond b (Some e) None) ≡ true
    → unwrap_or (condition_truth params d e) false ≡ holds (filter-of (cond b (Some e) None)) params d
kept-truth params d e true g h = ap (λ (x : Option Bool). unwrap_or x false) (plain-agrees [] params d (null ∷ []) e (g refl))
kept-truth params d e false g h = impossible h

step-tested : (params : Pairs) (d : Tree) (s : Step) → is_some (filter_in s) ≡ true → step_truth params d s ≡ holds (filter-of (filter_in s)) params d
step-tested params d (bracket e) h = kept-truth params d e (is_filter (bracket e) && is_plain e) (λ g. (both-true (is_filter (bracket e)) (is_plain e) g).1) h
step-tested params d _ h = impossible h

steps-tested : (params : Pairs) (d : Tree) (ss : Steps) → is_some (filter_alone ss) ≡ true → first_truth params d ss ≡ holds (filter-of (filter_alone ss)) params d
steps-tested params d no_steps h = impossible h
steps-tested params d (more_steps s no_steps) h = step-tested params d s h
steps-tested params d (more_steps s (more_steps t ss)) h = impossible h

pub query_tested : (params : Pairs) (d : Tree) (q : Expression) → is_some (listened_filter q) ≡ true → query_truth params d q ≡ holds (unwrap_or (listened_filter q) null_literal) params d
query_tested params d everything h = refl
query_tested params d (chain everything ss) h = steps-tested params d ss h
query_tested params d (chain _ ss) h = impossible h
query_tested params d _ h = impossible h

pub some_filter : (o : Option Expression) → is_some o ≡ true → o ≡ Some (unwrap_or o null_literal)
some_filter None h = impossible h
some_filter (Some e) h = refl

pub no_filter : (o : Option Expression) → is_some o ≡ false → o ≡ None
no_filter None h = refl
no_filter (Some e) h = impossible (sym h)

some-cond : (b : Bool) (e : Expression) → is_some (cond b (Some e) None) ≡ b
some-cond true e = refl
some-cond false e = refl

pub filter_in_bracket : (e : Expression)
    → is_some (filter_in (bracket e)) ≡ (is_condition (bracketed e) && is_plain e)
filter_in_bracket e = some-cond (is_condition (bracketed e) && is_plain e) e

pub listened_chain : (e : Expr) (base : Box Expr Global) (v : Vec CodeStep Global) (b : Expr)
    (ss : List CodeStep) → e ≡ code.Chain base v → b ≡ base.value → b ≡ code.All → ss ≡ v.items
    → is_some (filter_alone (steps_of (map step_of ss))) ≡ is_some (listened_filter (expression e))
listened_chain e base v b ss is there all same =
    sym (ap (λ x. is_some (listened_filter x)) (chain_parts e base v b ss is there same
    ∙ ap (λ x. chain x (steps_of (map step_of ss))) (ap expression all ∙ expression_all)))
