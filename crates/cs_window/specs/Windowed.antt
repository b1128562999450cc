-- Queries whose answer is settled by documents and by what the steps behind their filter look up:
-- this project's profile.
use Rattle.std.specs.Prelude.{Bool, false, ◌&&◌}
use Rattle.std.specs.Option.{option_map_or}
use Rattle.cs_syntax.specs.Expression.{Expression, everything, chain}
use Rattle.cs_plan.specs.Simple.{is_quiet, quiet_keys, filter_of, steps_behind}
use Rattle.cs_meaning.specs.Looked.{starts_with_filter}
use Rattle.cs_window.specs.Window.{window}

-- A query is filtered: `*` and a filter behind it.
abbrev pub is_filtered : Expression → Bool
is_filtered (chain everything ss) = starts_with_filter ss
is_filtered _ = false

-- A query is windowed: its filter looks nothing up, and behind it stands a window by keys that look
-- nothing up either. What stands behind the window may.
abbrev pub is_windowed : Expression → Bool
is_windowed e =
    is_filtered e
    && (is_quiet (filter_of (steps_behind e))
    && option_map_or (λ w. quiet_keys w.keys) (window e) false)
