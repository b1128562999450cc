use Rattle.std.proofs.Common.{◌≡◌, ◌++◌, map}
use Rattle.std.specs.List.{list_all}
use Rattle.cs_value.specs.View.{fields, entries_tree}
use Rattle.cs_wire.specs.Commands.{is_among, key_names}
use Rattle.cs_wire.proofs.keys.has_only.Given as goal

abbrev pub invariant-loop-key : goal.invariant-loop-key
invariant-loop-key l =
    list_all (λ k. is_among k (map (λ k. k.now) l.must ++ map (λ k. k.now) l.may)) (key_names (fields l.object))
    ≡ list_all (λ k. is_among k (map (λ k. k.now) l.must ++ map (λ k. k.now) l.may)) (key_names (entries_tree l.key-iterator))
