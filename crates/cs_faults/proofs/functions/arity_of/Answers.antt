use Rattle.std.proofs.Common.{Some, None, map, ap}
use Rattle.cs_table.proofs.Parts.{row-parts}
use Rattle.cs_syntax.specs.Functions.{functions}
use Rattle.cs_faults.specs.Found.{arity_told}
use Rattle.cs_faults.specs.declared.functions.Name.{Name}
use Rattle.cs_faults.proofs.functions.arity_of.Goals as goal

pub returns-in-Some : goal.returns-in-Some
returns-in-Some c =
    row-parts (λ (n : Name). n.name.now) (λ (n : Name). arity_told n.arity) c.args.name.now
    c.over-table.result.rows.now functions
    (ap (map (λ (n : Name). (n.name.now, arity_told n.arity))) c.over-table.ensures)
    (Some c.in-Some.row.now) c.in-Some.ensures.row

pub returns-in-None : goal.returns-in-None
returns-in-None c =
    row-parts (λ (n : Name). n.name.now) (λ (n : Name). arity_told n.arity) c.args.name.now
    c.over-table.result.rows.now functions
    (ap (map (λ (n : Name). (n.name.now, arity_told n.arity))) c.over-table.ensures) None
    c.in-None.ensures.row
