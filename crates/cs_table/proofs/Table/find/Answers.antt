use Rattle.std.proofs.Common.{rules}
use Rattle.std.proofs.lemmas.Fn.{always_returns_same}
use Rattle.std.specs.Ordering.{nat_cmp}
use Rattle.std.specs.Cmp.Lexicographic.{slice_cmp}
use Rattle.cs_table.proofs.Order.{rises, none_named, is_named, row_found, row_missing}
use Rattle.cs_table.proofs.Table.find.Goals as goal

pub returns-in-Ok-clause-row : goal.returns-in-Ok-clause-row
returns-in-Ok-clause-row g c =
    row_found g.R.Row.called c.args.self.now.rows.now c.args.name.now _ _ c.in-Ok.ensures.bound
    c.args.self.now.ascends
    (c.in-Ok.ensures.position (λ r. slice_cmp nat_cmp (g.R.Row.called r) c.args.name.now)
    (always_returns_same _ _ _ (λ a r h called. (search rules, search rules))) _)

pub returns-in-Ok-clause-named : goal.returns-in-Ok-clause-named
returns-in-Ok-clause-named g c =
    is_named _ _ (c.in-Ok.ensures.position
    (λ r. slice_cmp nat_cmp (g.R.Row.called r) c.args.name.now)
    (always_returns_same _ _ _ (λ a r h called. (search rules, search rules))) _)

pub returns-in-Err-clause-row : goal.returns-in-Err-clause-row
returns-in-Err-clause-row g c =
    row_missing g.R.Row.called c.args.self.now.rows.now c.args.name.now c.in-Err.field-0
    (c.in-Err.ensures.position (λ r. slice_cmp nat_cmp (g.R.Row.called r) c.args.name.now)
    (always_returns_same _ _ _ (λ a r h called. (search rules, search rules)))
    (rises g.R.Row.called c.args.self.now.rows.now c.args.name.now c.args.self.now.ascends))

pub returns-in-Err-clause-none : goal.returns-in-Err-clause-none
returns-in-Err-clause-none g c =
    none_named g.R.Row.called c.args.self.now.rows.now c.args.name.now c.in-Err.field-0
    (c.in-Err.ensures.position (λ r. slice_cmp nat_cmp (g.R.Row.called r) c.args.name.now)
    (always_returns_same _ _ _ (λ a r h called. (search rules, search rules)))
    (rises g.R.Row.called c.args.self.now.rows.now c.args.name.now c.args.self.now.ascends))
