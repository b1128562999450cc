use Rattle.cs_view.proofs.Typed.{hold_documents}
use Rattle.cs_view.proofs.laws.changes_hold_documents.Goals as goal

pub returns : goal.returns
returns c = hold_documents
