use Rattle.std.proofs.Common.{◌≡◌, ◌≤◌, ◌+◌, map, take}
use Rattle.cs_value.specs.View.{fields}
use Rattle.cs_syntax.specs.Queries.{expression_of}
use Rattle.cs_view.specs.Keys.{selected}
use Rattle.cs_view.specs.View.{document_of}
use Rattle.cs_plan.specs.Simple.{query_keys}
use Rattle.cs_meaning.specs.Hits.{hits}
use Rattle.cs_eval.proofs.queries.hits.Given as goal

abbrev pub invariant-loop-place : goal.invariant-loop-place
invariant-loop-place g l = record {
  found : map document_of l.found.items ≡ hits (expression_of l.query) (fields l.params) (take l.place-index (selected (query_keys (expression_of l.query) (fields l.params)) (g.V.View.docs l.view)));
  visits : l.steps ≤ l.initial.steps + l.place-index;
}
