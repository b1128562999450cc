use Rattle.std.proofs.Common.{◌≡◌, ◌++◌, List, subst, IfOk, OnOk}
use Rattle.cs_value.specs.Tree.{Tree}
use Rattle.cs_value.specs.View.{fields}
use Rattle.cs_view.specs.Scopes.{scope_of}
use Rattle.cs_view.specs.declared.key.Key.{Key}
use Rattle.cs_parts.specs.Parts.{got}
use Rattle.cs_expr.proofs.Starting.{array_enters, array_looks}
use Rattle.cs_expr.proofs.chains.enter.Goals as goal

pub returns-clause-value : goal.returns-clause-value
returns-clause-value g c =
    subst (λ (y : Tree). IfOk c.climb.result (λ g'. got g' ≡ y))
    (array_enters (g.S.Source.docs c.args.setting.now.source.now) (fields c.args.setting.now.params.now)
    (scope_of c.args.frame.now) c.entering-first.result c.entrance_of-entrance.result
    c.first_kind.result c.args.value _ c.entering-first.ensures c.entrance_of-entrance.ensures
    c.first_kind.ensures c.requires)
    c.climb.ensures.value

pub returns-clause-keys : goal.returns-clause-keys
returns-clause-keys g c =
    subst (λ (ks : List Key). OnOk c.climb.result (c.climb.new.keys ≡ c.args.keys.now ++ ks))
    (array_looks (g.S.Source.docs c.args.setting.now.source.now) (fields c.args.setting.now.params.now)
    (scope_of c.args.frame.now) c.entering-first.result c.entrance_of-entrance.result
    c.first_kind.result c.args.value _ c.entering-first.ensures c.entrance_of-entrance.ensures
    c.first_kind.ensures c.requires)
    c.climb.ensures.keys
