-- Why no document is made of a value.
use Rattle.std.specs.Prelude.{◌≡◌, false, ⊤}
use Rattle.cs_value.specs.Tree.{Tree}
use Rattle.cs_value.specs.View.{tree}
use Rattle.cs_view.specs.Document.{is_document}
use Rattle.cs_view.specs.declared.doc.DocFault.{DocFault}
use Rattle.cs_view.specs.declared.doc.DocFault.TheVariants.{NoDocument, NoMemory}

-- The fault says of a tree why no document was made of it: it is none, and its value came back.
-- Want of memory says nothing of it.
abbrev pub IsUnmade : Tree → DocFault → Type 0
IsUnmade t (NoDocument val) = (is_document t ≡ false) × (tree val ≡ t)
IsUnmade t NoMemory = ⊤
