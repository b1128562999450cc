use Rattle.std.proofs.Common.{rules, tests, Some, None, map, ap, nat_cmp}
use Rattle.std.proofs.lemmas.Iterator.Search.{find_from_yields_List}
use Rattle.std.proofs.lemmas.Iterator.{YieldsList-from_slice}
use Rattle.std.specs.Ordering.{is_eq}
use Rattle.std.specs.Cmp.Lexicographic.{slice_cmp}
use Rattle.cs_table.proofs.Parts.{row-parts}
use Rattle.cs_func.specs.Names.{names}
use Rattle.cs_func.specs.declared.name.Name.{Name}
use Rattle.cs_func.proofs.name.named.Goals as goal

pub returns-in-Some : goal.returns-in-Some
returns-in-Some c =
    row-parts (λ (n : Name). n.name.now) (λ (n : Name). n.function) c.args.name.now
    c.iter.result.rest.now names
    (ap (map (λ (n : Name). (n.name.now, n.function))) c.iter.ensures.rest) (Some c.in-Some.row.now)
    (find_from_yields_List (λ (n : Name). is_eq (slice_cmp nat_cmp n.name.now c.args.name.now))
    c.find.new.self _ (Some c.in-Some.row) c.in-Some.ensures.ran (YieldsList-from_slice c.iter.result.rest.now cc) (λ x b q k. (
      search (rules, tests),
      search (rules, tests),
    )))

pub returns-in-None : goal.returns-in-None
returns-in-None c =
    row-parts (λ (n : Name). n.name.now) (λ (n : Name). n.function) c.args.name.now
    c.iter.result.rest.now names
    (ap (map (λ (n : Name). (n.name.now, n.function))) c.iter.ensures.rest) None
    (find_from_yields_List (λ (n : Name). is_eq (slice_cmp nat_cmp n.name.now c.args.name.now))
    c.find.new.self _ None c.in-None.ensures.ran (YieldsList-from_slice c.iter.result.rest.now cc) (λ x b q k. (
      search (rules, tests),
      search (rules, tests),
    )))
