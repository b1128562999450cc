-- Documents that are put where none stand.
use Rattle.std.specs.Prelude.{List, map, None, Some}
use Rattle.cs_value.specs.Tree.{Tree}
use Rattle.cs_view.specs.Changes.{Edit}
use Rattle.cs_view.specs.Document.{id_of}

-- the changes that put them
abbrev pub entering : List Tree → List Edit
entering docs = map (λ d. (id_of d, (None, Some d))) docs
