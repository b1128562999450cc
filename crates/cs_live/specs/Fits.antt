-- When entries fit a dataset: each is kept as it fits it, and is found by its keys. This project's
-- profile.
use Rattle.std.specs.Prelude.{◌≡◌, ℕ, ◌<◌, ◌≤◌, length, List, true, false}
use Rattle.std.specs.List.{All, AllZip}
use Rattle.cs_value.specs.Tree.{Tree}
use Rattle.cs_view.specs.Changes.{Edit}
use Rattle.cs_kept.specs.Fits.{FitsKept, IsQuiet, KeepsRecord}
use Rattle.cs_interest.specs.Limits.{most_subscriptions}
use Rattle.cs_live.specs.Lives.{LiveQuery, refreshed, is_named}
use Rattle.cs_live.specs.Found.{AreFound}
use Rattle.cs_live.specs.Entries.{live_query, entries}
use Rattle.cs_live.specs.declared.entry.Entry.{Entry}
use Rattle.cs_live.specs.declared.live.Live.{Live}
use Rattle.cs_live.specs.declared.live.LiveFault.{LiveFault}
use Rattle.cs_live.specs.declared.live.LiveFault.TheVariants.{NameUsed, Full, NoMemory}

abbrev pub FitsOne : List Tree → Entry → Type 0
FitsOne docs e = FitsKept docs e.kept

-- each entry fits the dataset, and by the keys that changes touch the entries are found
pub record Fits (l : Live) (docs : List Tree) : Type 0 where
  pub answers : All (FitsOne docs) (entries l)
  pub found : AreFound l

-- and what it does to one entry
pub record Refreshes (docs : List Tree) (cs : List Edit) (old new : Entry) : Type 0 where
  pub live : live_query new ≡ refreshed docs (live_query old)
  pub fits : FitsOne docs new
  pub records : KeepsRecord cs old.kept new.kept
  pub number : new.number ≡ old.number

-- nothing is asked after the changes for any entry
abbrev pub IsUntouched : Live → List Edit → Type 0
IsUntouched l cs = All (λ e. IsQuiet cs e.kept) (entries l)

abbrev pub KeepsRecords : Live → Live → List Edit → Type 0
KeepsRecords old new cs = AllZip (λ a b. KeepsRecord cs a.kept b.kept) (entries old) (entries new)

-- the name is free, and there is room for one more
abbrev pub HasRoom : List ℕ → List LiveQuery → Type 0
HasRoom name es = (is_named name es ≡ false) × (length es < most_subscriptions)

-- why a live query of the name is not added: the first cause that holds
abbrev pub IsCause : LiveFault → List ℕ → List LiveQuery → Type 0
IsCause NameUsed name es = is_named name es ≡ true
IsCause Full name es = (is_named name es ≡ false) × (most_subscriptions ≤ length es)
IsCause NoMemory name es = HasRoom name es
