-- Changes put into a dataset in three steps: documents under new ids, documents in the place of
-- others, documents taken away. For private clauses.
use Rattle.std.specs.Prelude.{List, [], ◌∷◌, ◌++◌, Bool, not, cond, is_some, Option, None}
use Rattle.std.specs.Option.{option_to_list}
use Rattle.cs_value.specs.Tree.{Tree}
use Rattle.cs_view.specs.Dataset.{with_doc, without}
use Rattle.cs_view.specs.Changes.{Edit}

-- what stands before and after
abbrev pub Sides : Type 0
Sides = Option Tree × Option Tree

-- what is put under a new id
abbrev pub entered : Sides → Option Tree
entered s = cond (is_some s.0) None s.1

-- what is put in the place of a document
abbrev pub replaced : Sides → Option Tree
replaced s = cond (is_some s.0) s.1 None

-- what is put
abbrev pub put : Sides → Option Tree
put s = s.1

-- nothing stood
abbrev pub is_new : Sides → Bool
is_new s = not (is_some s.0)

-- nothing is to stand
abbrev pub is_gone : Sides → Bool
is_gone s = not (is_some s.1)

-- what the changes put of one kind, in their order
abbrev pub picked : (Sides → Option Tree) → List Edit → List Tree
picked pick [] = []
picked pick (c ∷ cs) = option_to_list (pick c.1) ++ picked pick cs

-- the dataset with each document in the place of its id
abbrev pub with_all : List Tree → List Tree → List Tree
with_all [] docs = docs
with_all (d ∷ ds) docs = with_all ds (with_doc d docs)

-- the dataset without the documents of the changed ids of one kind
abbrev pub without_all : (Sides → Bool) → List Edit → List Tree → List Tree
without_all gone [] docs = docs
without_all gone (c ∷ cs) docs = without_all gone cs (cond (gone c.1) (without c.0 docs) docs)
