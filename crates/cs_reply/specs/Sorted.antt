-- The fields of an event by ascending names. For private clauses.
use Rattle.std.specs.Prelude.{ℕ, [], ◌∷◌, ◌++◌, codes}
use Rattle.cs_value.specs.Tree.{text}
use Rattle.cs_reply.specs.Fields.{Fields, number}
use Rattle.cs_reply.specs.Reply.{Event, transition_word, where_there, revision}

-- the revisions and the documents of the two sides
abbrev pub sides : Event → Fields
sides e =
    where_there (codes "previous") e.previous
    ++ where_there (codes "previousRev") (revision e.previous_rev)
    ++ where_there (codes "result") e.result
    ++ where_there (codes "resultRev") (revision e.result_rev)

-- what stands behind them
abbrev pub behind_sides : Event → Fields
behind_sides e =
    (codes "timestamp", text e.moment) ∷ (codes "transactionId", text e.tx)
    ∷ (codes "transition", text (transition_word e.transition))
    ∷ (codes "type", text (codes "mutation"))
    ∷ []

abbrev pub in_order : ℕ → Event → Fields
in_order line e =
    (codes "documentId", text e.id) ∷ (codes "line", number line)
    ∷ (codes "listener", text e.listener)
    ∷ (sides e ++ behind_sides e)
