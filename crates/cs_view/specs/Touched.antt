-- Which keys changes touch: this project's profile.
use Rattle.std.specs.Prelude.{Bool, ◌||◌, List}
use Rattle.std.specs.List.{list_any}
use Rattle.cs_view.specs.Document.{passes}
use Rattle.cs_view.specs.Changes.{Edit}
use Rattle.cs_view.specs.Keys.{has}
use Rattle.cs_view.specs.declared.key.Key.{Key}

-- the document before or the document after has the key
abbrev pub touches : Key → Edit → Bool
touches k c = passes (has k) c.1.0 || passes (has k) c.1.1

-- some change touches the key
abbrev pub is_touched : List Edit → Key → Bool
is_touched cs k = list_any (touches k) cs

-- some key is had by some change's document before or after
abbrev pub touched : List Key → List Edit → Bool
touched ks cs = list_any (is_touched cs) ks
