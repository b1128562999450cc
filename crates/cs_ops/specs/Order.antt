-- The orders of values: GROQ-1.revision1, "Comparison operators", "Partial comparison", "Total
-- comparison".
-- UTF-8 keeps the order of code points, so texts are compared by their bytes
-- (`texts_compare_by_code_points`).
use Rattle.std.specs.Prelude.{ℕ, Option, Some, None, unwrap_or}
use Rattle.std.specs.declared.cmp.Ordering.{Ordering}
use Rattle.std.specs.declared.cmp.Ordering.TheVariants.{Equal}
use Rattle.std.specs.Ordering.{bool_cmp, int_cmp, nat_cmp, ordering_then}
use Rattle.std.specs.Cmp.Lexicographic.{slice_cmp}
use Rattle.cs_value.specs.Tree.{Tree, null, boolean, integer, text, list, object}

-- numbers with numbers, texts with texts by code points, booleans with booleans, false first
abbrev pub partial : Tree → Tree → Option Ordering
partial (integer m) (integer n) = Some (int_cmp m n)
partial (text s) (text t) = Some (slice_cmp nat_cmp s t)
partial (boolean x) (boolean y) = Some (bool_cmp x y)
partial a b = None

-- numbers, then texts, then booleans, then everything else
abbrev pub rank : Tree → ℕ
rank (integer n) = 0
rank (text s) = 1
rank (boolean b) = 2
rank null = 3
rank (list ts) = 3
rank (object ps) = 3

-- by rank; within a rank as compared, and everything else as equal
abbrev pub total : Tree → Tree → Ordering
total a b = ordering_then (nat_cmp (rank a) (rank b)) (unwrap_or (partial a b) Equal)
