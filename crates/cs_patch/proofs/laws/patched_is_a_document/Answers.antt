use Rattle.cs_patch.proofs.Stamped.{patched-document}
use Rattle.cs_patch.proofs.laws.patched_is_a_document.Goals as goal

pub returns : goal.returns
returns c = λ p d e tx moment h g. patched-document c.each_text_is_read.ensures p d e tx moment h g
