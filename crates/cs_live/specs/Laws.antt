-- The laws of live queries.
use Rattle.std.specs.Prelude.{◌≡◌, List, true}
use Rattle.cs_value.specs.Tree.{Tree}
use Rattle.cs_view.specs.Changes.{Edit}
use Rattle.cs_live.specs.Entries.{lives}
use Rattle.cs_live.specs.Fits.{Fits, IsUntouched}
use Rattle.cs_live.specs.Lives.{are_simple_lives}
use Rattle.cs_live.specs.declared.live.Live.{Live}

-- where each live query is simple, nothing is asked after any changes
abbrev pub SimpleLivesAskNothing : Type 0
SimpleLivesAskNothing =
    (l : Live) (docs : List Tree) (cs : List Edit) → Fits l docs
    → are_simple_lives (lives l) ≡ true → IsUntouched l cs
