-- The walk over a value with several rests of a path waiting at once. For private clauses.
use Rattle.std.specs.Prelude.{List, [], ◌∷◌, ◌++◌, map, filter, Bool, false, ◌&&◌, ◌||◌}
use Rattle.std.specs.List.{list_any}
use Rattle.cs_value.specs.Tree.{Tree}
use Rattle.cs_jsonmatch.specs.Path.{Item, Path}
use Rattle.cs_jsonmatch.specs.Places.{Location, Trail, parts, leads}

-- Whether one of the rests of the path, each of which waits or not, leads along the trail; rests
-- without a flag do not wait.
abbrev pub some_leads : List Bool → Path → Tree → Trail → Bool
some_leads [] ss v l = false
some_leads (a ∷ waiting) [] v l = a && leads [] v l
some_leads (a ∷ waiting) (s ∷ ss) v l = (a && leads (s ∷ ss) v l) || some_leads waiting ss v l

-- Which rests wait below a part whose items the test selects; `here` says whether the step before
-- selected the part.
abbrev pub next : (Item → Bool) → Bool → List Bool → Path → List Bool
next selected here [] ss = here ∷ []
next selected here (a ∷ waiting) [] = here ∷ []
next selected here (a ∷ waiting) (s ∷ ss) =
    (here || (a && s.deep)) ∷ next selected (a && list_any selected s.items) waiting ss

-- the locations below the parts `above` that these trails lead to
abbrev pub reached : Location → List Bool → Path → Tree → List Trail → List Location
reached above waiting ss v ls = map (λ l. above ++ parts l) (filter (some_leads waiting ss v) ls)
