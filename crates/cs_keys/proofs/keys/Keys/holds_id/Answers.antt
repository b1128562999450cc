use Rattle.std.proofs.Common.{◌∙◌, ℕ, List, ap}
use Rattle.std.specs.BTreeMap.{is_at}
use Rattle.std.specs.Map.{lookup}
use Rattle.cs_value.specs.Entries.{compares}
use Rattle.cs_keys.proofs.Keyed.{one-stands, none-stands}
use Rattle.cs_keys.proofs.keys.Keys.holds_id.Goals as goal

pub returns-then-stands : goal.returns-then-stands
returns-then-stands c =
    one-stands c.args.self.now.ids c.args.change.now c.requires.before c.requires.after c.stands.result c.stands.ensures c.if-stands.true
    c.get.result (c.get.ensures.value ∙ ap (λ (n : List ℕ). lookup (is_at (compares n)) c.args.self.now.ids) c.as_str.ensures) c.is_some.result c.is_some.ensures

pub returns-else-stands : goal.returns-else-stands
returns-else-stands c = none-stands c.args.self.now.ids c.args.change.now c.requires.before c.requires.after c.stands.result c.stands.ensures c.if-stands.false
