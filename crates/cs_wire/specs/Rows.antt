-- The table of the commands: this project's profile. A command is an object with exactly the keys
-- of one row, of which some may be absent.
use Rattle.std.specs.Prelude.{ℕ, List, [], ◌∷◌, Option, None, if◌then◌else◌, codes}
use Rattle.cs_value.specs.Tree.{Tree, null, boolean, integer, text, list, object, Pairs}
use Rattle.cs_wire.specs.Commands.{Request, has_keys, mutate_of, query_of, live_of, listen_of, stop_of, at_of}

-- a row: its keys that must be there, those that may be, and the command of an object that has them
pub record Row : Type 0 where
  pub must : List (List ℕ)
  pub may : List (List ℕ)
  pub command : Pairs → Option Request

abbrev pub rows : List Row
rows = record { must = codes "mutate" ∷ []; may = []; command = mutate_of }
    ∷ record { must = codes "query" ∷ []; may = codes "params" ∷ []; command = query_of }
    ∷ record {
      must = codes "live" ∷ codes "query" ∷ [];
      may = codes "params" ∷ [];
      command =
          live_of;
    }
    ∷ record {
      must = codes "listen" ∷ codes "query" ∷ [];
      may = codes "params" ∷ codes "includeResult" ∷ codes "includePrevious" ∷ [];
      command = listen_of;
    }
    ∷ record { must = codes "stop" ∷ []; may = []; command = stop_of }
    ∷ record { must = codes "at" ∷ []; may = []; command = at_of }
    ∷ []

-- by the row whose keys the object has: no object has the keys of two
abbrev pub by_rows : List Row → Pairs → Option Request
by_rows [] ps = None
by_rows (r ∷ rs) ps = if has_keys r.must r.may ps then r.command ps else by_rows rs ps

-- the command that a value is, if it is one
unfoldable pub command : Tree → Option Request
command null = None
command (boolean b) = None
command (integer n) = None
command (text s) = None
command (list ts) = None
command (object ps) = by_rows rows ps
