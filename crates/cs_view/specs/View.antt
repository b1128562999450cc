-- What contracts see of a document, its tree, and of changes.
use Rattle.std.specs.Prelude.{List, map, option_map}
use Rattle.cs_value.specs.Tree.{Tree}
use Rattle.cs_value.specs.View.{tree}
use Rattle.cs_view.specs.Changes.{Edit}
use Rattle.cs_view.specs.declared.doc.Doc.{Doc}
use Rattle.cs_view.specs.declared.change.Change.{Change}

abbrev pub document_of : Doc → Tree
document_of d = tree d.val.value

-- an id with the documents before and after
abbrev pub edit : Change → Edit
edit c = (c.id, (option_map document_of c.before, option_map document_of c.after))

abbrev pub edits : List Change → List Edit
edits cs = map edit cs
