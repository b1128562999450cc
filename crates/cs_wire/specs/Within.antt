-- How long the texts of a command are: no longer than those of the value that it is.
use Rattle.std.specs.Prelude.{◌≡◌, ◌≤◌, ℕ, length, Some}
use Rattle.cs_value.specs.Tree.{Tree, widest, pairs_widest}
use Rattle.cs_wire.specs.Commands.{Request, mutate, query, live, listen, stop, at}
use Rattle.cs_wire.specs.Rows.{command}

-- no text of the request has more bytes than n, nor has a text or a name in what it holds, and no
-- list there has more members
abbrev pub IsWithin : ℕ → Request → Type 0
IsWithin n (mutate body) = widest body ≤ n
IsWithin n (query text params) = (length text ≤ n) × (pairs_widest params ≤ n)
IsWithin n (live name text params) = (length name ≤ n) × (length text ≤ n)
    × (pairs_widest params ≤ n)
IsWithin n (listen name text params result previous) = (length name ≤ n) × (length text ≤ n)
    × (pairs_widest params ≤ n)
IsWithin n (stop name) = length name ≤ n
IsWithin n (at moment) = length moment ≤ n

-- Law: no text of a command is longer than the longest of the value that it is.
abbrev pub CommandsAreWithin : Type 0
CommandsAreWithin = (t : Tree) (r : Request) → command t ≡ Some r → IsWithin (widest t) r
