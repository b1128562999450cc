-- The value that an answer stands for, and that of an element.
use Rattle.std.specs.Prelude.{map, Bool, true, false}
use Rattle.cs_value.specs.Words.{list_of}
use Rattle.cs_value.specs.Tree.{Tree}
use Rattle.cs_value.specs.View.{tree}
use Rattle.cs_parts.specs.declared.answer.Got.{Got}
use Rattle.cs_parts.specs.declared.answer.Got.TheVariants.{Part, Parts, Whole}
use Rattle.cs_parts.specs.declared.item.Item.{Item}
use Rattle.cs_parts.specs.declared.item.Item.TheVariants.{Lent, Made}

abbrev pub got : Got → Tree
got (Part r) = tree r.now
got (Parts rs) = list_of (map (λ r. tree r.now) rs.items)
got (Whole v) = tree v

abbrev pub item : Item → Tree
item (Lent r) = tree r.now
item (Made v) = tree v

abbrev pub is_lent : Item → Bool
is_lent (Lent r) = true
is_lent (Made v) = false
