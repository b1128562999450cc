use Rattle.std.proofs.Common.{◌≡◌, ◌∙◌, ap, sym, Option, None, option_map}
use Rattle.cs_value.specs.Tree.{Tree}
use Rattle.cs_value.specs.View.{fields}
use Rattle.cs_syntax.specs.Queries.{expression_of}
use Rattle.cs_view.specs.Dataset.{kept_if, placed}
use Rattle.cs_view.specs.View.{document_of, edit}
use Rattle.cs_view.specs.declared.doc.Doc.{Doc}
use Rattle.cs_meaning.specs.Hits.{is_hit}
use Rattle.cs_hits.specs.Hits.{docs_of}
use Rattle.cs_hits.proofs.Newly.{none-stood, nothing-to-take, unmet-kept}
use Rattle.cs_hits.proofs.Nearing.{settling_ascend}
use Rattle.cs_hits.proofs.hits.Hits.place.Goals.{in-Some+in_ok-hit+else-branch, in_default}
use Rattle.cs_hits.proofs.hits.Hits.place.Goals as goal

pub remove-requires-clause-settling : goal.remove-requires-clause-settling
remove-requires-clause-settling c =
    settling_ascend (expression_of c.args.query.now) (fields c.args.params.now) c.args.self.now.near (docs_of c.args.self.now) c.requires.ascending c.requires.near

pub returns-then-is_none-clause-placed : goal.returns-then-is_none-clause-placed
returns-then-is_none-clause-placed c =
    let p = is_hit (expression_of c.args.query.now) (fields c.args.params.now) in
    let gone : kept_if p (edit c.args.change.now).1.1 ≡ None = elim c.match-change.branch [
      | in-Some+in_ok-hit+else-branch w ↦ unmet-kept p c.args.change.now.after w.in-Some.doc w.in-Some.is (sym w.in_ok-hit.ensures ∙ w.if-branch.false)
      | in_default w ↦ ap (λ (o : Option Doc). kept_if p (option_map document_of o)) w.in_default.is
    ] in
    let new : (edit c.args.change.now).1.0 ≡ None = none-stood c.args.change.now.before c.if-is_none.ensures in
    nothing-to-take (edit c.args.change.now).0 (docs_of c.args.self.now) c.requires.ascending (c.requires.new new)
    ∙ ap (λ (o : Option Tree). placed (edit c.args.change.now).0 o (docs_of c.args.self.now)) (sym gone)
