-- The scalars that were seen so far. For private clauses.
use Rattle.std.specs.Prelude.{Bool, true, false}
use Rattle.std.specs.BTreeSet.{contains, contains_by}
use Rattle.std.specs.Ordering.{int_cmp, nat_cmp}
use Rattle.std.specs.Cmp.Lexicographic.{slice_cmp}
use Rattle.cs_value.specs.Tree.{Tree, null, boolean, integer, text, list, object}
use Rattle.cs_func.specs.declared.seen.Seen.{Seen}

-- whether an equal value was seen
abbrev pub has_seen : Seen → Tree → Bool
has_seen s null = s.null
has_seen s (boolean true) = s.yes
has_seen s (boolean false) = s.no
has_seen s (integer n) = contains int_cmp s.numbers n
has_seen s (text t) = contains_by (λ k. slice_cmp nat_cmp t k.now) s.texts
has_seen s (list ts) = false
has_seen s (object ps) = false
