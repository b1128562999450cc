use Rattle.cs_txn.proofs.Bodies.{entered-document}
use Rattle.cs_txn.proofs.laws.entered_is_a_document.Goals as goal

pub returns : goal.returns
returns c = entered-document
