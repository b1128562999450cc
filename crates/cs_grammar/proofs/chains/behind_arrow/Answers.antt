use Rattle.std.proofs.Common.{[], ap, subst, sym, ◌++◌, ◌∙◌, ◌∷◌}
use Rattle.cs_grammar.proofs.StepsInside.{reads_attribute, reads_no_attribute}
use Rattle.cs_grammar.proofs.Push.{steps_pushed_as}
use Rattle.cs_grammar.specs.Reading.{Reads, steps_from}
use Rattle.cs_syntax.specs.Expression.{attr}
use Rattle.cs_grammar.specs.View.{left}
use Rattle.cs_grammar.proofs.chains.behind_arrow.Goals as goal

pub returns-in_default-clause-read : goal.returns-in_default-clause-read
returns-in_default-clause-read c =
    λ e o h. reads_no_attribute (sym c.in_default.ensures.same)
    (subst (λ z. Reads (steps_from e z) (left c.args.ts.now c.args.at) o)
    (steps_pushed_as _ _ c.in_ok-push.ensures.items c.deref.ensures) h)

pub returns-clause-read : goal.returns-clause-read
returns-clause-read c =
    λ e o h. reads_attribute (sym c.in-Some.ensures.same)
    (subst (λ z. Reads (steps_from e z) (left c.args.ts.now c.in-Some.rest) o)
    (steps_pushed_as _ _ c.in_ok-push-2.ensures.items c.in_ok-attr.ensures
    ∙ ap (λ z. z ++ (attr c.in-Some.name.now ∷ []))
    (steps_pushed_as _ _ c.in_ok-push.ensures.items c.deref.ensures)) h)
