use Rattle.std.proofs.Common.{◌≡◌, ◌∙◌, ap, sym, subst, List, Some, IfOk, option_map}
use Rattle.cs_value.specs.View.{fields}
use Rattle.cs_view.specs.declared.key.Key.{Key}
use Rattle.cs_syntax.specs.View.{expression}
use Rattle.cs_plain.specs.Keyed.{query_condition}
use Rattle.cs_plain.specs.Predicates.{own_query}
use Rattle.cs_plain.proofs.Keying.{some_keyed}
use Rattle.cs_plain.proofs.chosen.keys.Goals as goal

pub returns-in-Some : goal.returns-in-Some
returns-in-Some c =
    let condition = expression c.in-Some.condition.now in
    let there : query_condition (own_query c.args.predicate.now) ≡ Some condition =
    ap query_condition (sym c.expr.ensures.kept) ∙ sym c.query_condition.ensures
    ∙ ap (option_map (λ e. expression e.now)) c.in-Some.is in
    subst (λ (ks : List Key). IfOk c.condition_keys.result (λ found. found.items ≡ ks))
    (some_keyed (fields c.args.params.now) (own_query c.args.predicate.now) condition
    c.expr.ensures.plain there)
    c.condition_keys.ensures
