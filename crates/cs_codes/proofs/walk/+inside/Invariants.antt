use Rattle.std.proofs.Common.{◌≡◌, ◌++◌}
use Rattle.cs_value.specs.View.{entries_tree, fields}
use Rattle.cs_codes.specs.Codes.{pairs_inside}
use Rattle.cs_codes.proofs.walk.+inside.Given as goal

abbrev pub invariant-put_fields_inside-loop-name : goal.invariant-put_fields_inside-loop-name
invariant-put_fields_inside-loop-name l =
    l.out.items ++ pairs_inside l.room l.hash (entries_tree l.name-iterator)
    ≡ l.fn.out.items ++ pairs_inside l.room l.hash (fields l.object)
