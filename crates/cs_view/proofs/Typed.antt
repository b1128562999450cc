-- What the types of documents and changes keep.
use Rattle.std.proofs.Common.{◌≡◌, List, [], ◌∷◌, Option, Some, None, option_map, true, refl}
use Rattle.std.proofs.lemmas.Bool.{and_from}
use Rattle.cs_view.specs.Changes.{is_document_or_none, are_documents}
use Rattle.cs_view.specs.View.{document_of, edits}
use Rattle.cs_view.specs.declared.doc.Doc.{Doc}
use Rattle.cs_view.specs.declared.change.Change.{Change}

side : (o : Option Doc) → is_document_or_none (option_map document_of o) ≡ true
side None = refl
side (Some d) = d.is_document

pub hold_documents : (cs : List Change) → are_documents (edits cs) ≡ true
hold_documents [] = refl
hold_documents (c ∷ cs) = and_from _ _ (and_from _ _ (side c.before) (side c.after)) (hold_documents cs)
