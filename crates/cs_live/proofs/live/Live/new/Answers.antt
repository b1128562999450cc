use Rattle.std.proofs.Common.{List, subst, sym}
use Rattle.std.specs.List.{All}
use Rattle.std.proofs.lemmas.List.Elements.{All-nil}
use Rattle.cs_live.specs.Fits.{FitsOne}
use Rattle.cs_live.specs.Found.{AreFoundBy}
use Rattle.cs_live.specs.declared.entry.Entry.{Entry}
use Rattle.cs_live.proofs.Found.{found-none}
use Rattle.cs_live.proofs.live.Live.new.Goals as goal

pub returns-clause-fits : goal.returns-clause-fits
returns-clause-fits c = λ docs. record {
  answers = subst (λ (es : List Entry). All (FitsOne docs) es) (sym c.new.ensures.items) (All-nil (FitsOne docs));
  found = subst (λ (es : List Entry). AreFoundBy c.new-interest.result 0 es) (sym c.new.ensures.items) (found-none c.new-interest.result c.new-interest.ensures.empty);
}
