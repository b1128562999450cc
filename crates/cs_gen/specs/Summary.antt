-- The summary that is written in the place of the replies to a generated script: this project's
-- profile.
use Rattle.std.specs.Prelude.{ℕ, List, [], ◌∷◌, length, count_by, Bool, true, false, codes}
use Rattle.cs_value.specs.Tree.{Tree}
use Rattle.cs_reply.specs.Fields.{object_of, number}
use Rattle.cs_reply.specs.Reply.{Reply, live, event, refused, written_line}

abbrev pub is_event : Reply → Bool
is_event (event e) = true
is_event _ = false

abbrev pub is_live : Reply → Bool
is_live (live name t) = true
is_live _ = false

abbrev pub is_refusal : Reply → Bool
is_refusal (refused r) = true
is_refusal _ = false

-- the documents at the end, the lines of the script, and its replies, counted by their kind
abbrev pub summary : ℕ → ℕ → List Reply → Tree
summary documents lines replies =
    object_of ((codes "documents", number documents)
    ∷ (codes "events", number (count_by is_event replies))
    ∷ (codes "lines", number lines)
    ∷ (codes "live", number (count_by is_live replies))
    ∷ (codes "refused", number (count_by is_refusal replies))
    ∷ (codes "replies", number (length replies))
    ∷ [])

-- what is written
abbrev pub summary_line : ℕ → ℕ → List Reply → List ℕ
summary_line documents lines replies = written_line (summary documents lines replies)
