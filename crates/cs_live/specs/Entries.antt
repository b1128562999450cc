-- What contracts see of the entries of live queries, and of their lines.
use Rattle.std.specs.Prelude.{◌≡◌, ℕ, ◌<◌, length, get_or, true, false, Option, None, Some, List, map}
use Rattle.std.specs.List.{remove}
use Rattle.cs_kept.specs.Kept.{kept_expression, params_of, last_of}
use Rattle.cs_live.specs.Lives.{LiveQuery, Worded, is_named, without_name, answer_of}
use Rattle.cs_live.specs.declared.entry.Entry.{Entry}
use Rattle.cs_live.specs.declared.entry.LiveLine.{LiveLine}
use Rattle.cs_live.specs.declared.live.Live.{Live}

abbrev pub live_query : Entry → LiveQuery
live_query e =
    let k = e.kept in
    record { name = e.name; query = kept_expression k; params = params_of k; last = last_of k }

abbrev pub entries : Live → List Entry
entries l = l.entries.items

-- the live queries, in the order made
abbrev pub lives : Live → List LiveQuery
lives l = map live_query (entries l)

-- the live query of the name stands at this place among the entries
pub record IsAt (name : List ℕ) (es : List Entry) (i : ℕ) : Type 0 where
  pub within : i < length es
  pub named : is_named name (map live_query es) ≡ true
  pub left : without_name name (map live_query es) ≡ map live_query (remove es i)
  pub answer : (d : Entry)
      → answer_of name (map live_query es) ≡ Some (last_of (get_or es i d).kept)

-- where it stands, if it does
abbrev pub IsPlace : List ℕ → List Entry → Option ℕ → Type 0
IsPlace name es None = is_named name (map live_query es) ≡ false
IsPlace name es (Some i) = IsAt name es i

-- what a line says: a name and the text of an answer
abbrev pub said : LiveLine → Worded
said l = (l.name, l.answer.items)
