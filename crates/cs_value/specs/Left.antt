-- The pairs that an iterator over an ordered map has left.
use Rattle.std.specs.Prelude.{List}
use Rattle.std.specs.Slice.Iter.{iter_rest}
use Rattle.std.specs.Vec.Iter.{into_iter_items}
use Rattle.cs_value.specs.Entries.{Name, named}
use Rattle.cs_value.specs.declared.map.iter.Lent.{Lent}
use Rattle.cs_value.specs.declared.map.iter.Lent.TheVariants.{LentRow, LentTree}
use Rattle.cs_value.specs.declared.map.iter.Given.{Given}
use Rattle.cs_value.specs.declared.map.iter.Given.TheVariants.{GivenRow, GivenTree}

abbrev pub lent : {V : Type 0} → Lent V → List (Name × V)
lent (LentRow pairs) = iter_rest pairs
lent (LentTree pairs) = named pairs

abbrev pub given : {V : Type 0} → Given V → List (Name × V)
given (GivenRow pairs) = into_iter_items pairs
given (GivenTree pairs) = named pairs
