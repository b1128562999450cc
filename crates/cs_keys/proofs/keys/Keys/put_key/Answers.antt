use Rattle.std.proofs.Common.{◌≡◌}
use Rattle.cs_view.specs.declared.key.Key.TheVariants.{Id}
use Rattle.cs_keys.proofs.Keyed.{with-id}
use Rattle.cs_keys.proofs.keys.Keys.put_key.Goals as goal

pub returns-in_ok-insert-in-Id-clause-keys : goal.returns-in_ok-insert-in-Id-clause-keys
returns-in_ok-insert-in-Id-clause-keys c =
    let own : Id c.in-Id.id ≡ c.args.key = cc c.in-Id.is in
    with-id c.args.self.now.ids c.insert.new.self c.in-Id.id _ c.args.key c.args.self.now.others c.in_ok-insert-in-Id.ensures.entries own
