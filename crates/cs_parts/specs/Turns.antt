-- How a rest goes on behind a step.
use Rattle.std.specs.Prelude.{Bool, true, false}
use Rattle.cs_meaning.specs.declared.join.Way.{Way}
use Rattle.cs_meaning.specs.declared.join.Way.TheVariants.{Over, After, Ends}
use Rattle.cs_meaning.specs.declared.join.Entrance.{Entrance}
use Rattle.cs_meaning.specs.declared.join.Entrance.TheVariants.{Whole}

-- how what a step gives enters the rest behind it
abbrev pub turn : Way → Entrance → Entrance
turn After e = e
turn way e = Whole

abbrev pub is_end : Way → Bool
is_end Ends = true
is_end way = false

abbrev pub is_over_way : Way → Bool
is_over_way Over = true
is_over_way way = false
