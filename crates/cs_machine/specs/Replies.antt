-- The replies of the machine, and the lines that they are written as: RFC 8259, "Objects", and a
-- newline, in this project's profile.
use Rattle.std.specs.Prelude.{ℕ, List, ◌∷◌, map, flat_map, codes}
use Rattle.cs_value.specs.Tree.{Tree}
use Rattle.cs_reply.specs.Fields.{Fields, object_of, number}
use Rattle.cs_reply.specs.Reply as plain
use Rattle.cs_txn.specs.Refused.{Refused}
use Rattle.cs_machine.specs.Causes.{refused_fields}

-- what a reply says: the refusal of a transaction by what it comes to, or anything else
pub data Reply : Type 0 where
  said : plain.Reply → Reply
  not_done : Refused → Reply

-- the fields beside the number of the line
abbrev pub fields_of : Reply → Fields
fields_of (said r) = plain.fields_of r
fields_of (not_done r) = refused_fields r

-- a reply to the line with the number
abbrev pub reply_tree : ℕ → Reply → Tree
reply_tree line r = object_of ((codes "line", number line) ∷ fields_of r)

abbrev pub reply_line : ℕ × Reply → List ℕ
reply_line r = plain.written_line (reply_tree r.0 r.1)

-- the text of replies, each with the number of its line
abbrev pub reply_lines : List (ℕ × Reply) → List ℕ
reply_lines rs = flat_map reply_line rs

-- replies to one line
abbrev pub numbered : ℕ → List Reply → List (ℕ × Reply)
numbered n rs = map (λ r. (n, r)) rs
