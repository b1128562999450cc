-- Which documents the filter of a `*` is tried at: this project's profile.
use Rattle.std.specs.Prelude.{List, if◌then◌else◌}
use Rattle.cs_value.specs.Tree.{Tree, Pairs}
use Rattle.cs_syntax.specs.Expression.{Expression}
use Rattle.cs_view.specs.Keys.{having, selected}
use Rattle.cs_plan.specs.Filters.{filter_keys, key_in}
use Rattle.cs_plan.specs.Simple.{is_quiet}

-- Those that have each of the filter's keys, where the filter looks nothing up itself; else those
-- that have the key that is looked up, since what the filter looks up at them counts.
abbrev pub tried : List Tree → Pairs → Expression → List Tree → List Tree
tried docs params e scope =
    if is_quiet e then selected (filter_keys e scope params) docs
    else having (key_in e scope params) docs
