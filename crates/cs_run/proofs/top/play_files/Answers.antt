use Rattle.std.proofs.Common.{◌≡◌, ◌∙◌, ◌∷◌, ◌++◌, [], refl, Some, Ok}
use Rattle.std.specs.Option.{option_map}
use Rattle.cs_io.specs.Names.{told_bytes}
use Rattle.cs_run.specs.Script.{ToldWrites, ToldStarts, AsksNamed}
use Rattle.cs_run.specs.Visits.{ScriptCosts}
use Rattle.cs_run.proofs.Costing.{played_costs}
use Rattle.cs_machine.specs.State.{begun}
use Rattle.cs_docs.specs.Store.{docs}
use Rattle.cs_run.proofs.Headlines.{is_open-added, number_from, told_run}
use Rattle.cs_run.proofs.top.play_files.Goals as goal

pub run_script-requires : goal.run_script-requires
run_script-requires g c = rw c.in-Ok-open.ensures.added (is_open-added (g.Lb.Library.asked c.load_named.new.library) _ c.in-Ok-open.number refl)

pub returns-in-Ok-open-clause-writes : goal.returns-in-Ok-open-clause-writes
returns-in-Ok-open-clause-writes g c =
    let name = option_map (λ n. n.now) c.args.file in
    let script = c.args.script.now in
    let asked = g.Lb.Library.asked c.args.library.now in
    let named : AsksNamed name (Ok c.in-Ok.docs) asked (g.Lb.Library.asked c.load_named.new.library) = c.in-Ok.ensures.names in
    let got : g.Lb.Library.asked c.run_script.new.library ≡ g.Lb.Library.asked c.load_named.new.library ++ record { name = script; number = Some c.in-Ok-open.number } ∷ []
    = c.run_script.ensures.asked ∙ c.in-Ok-open.ensures.added in
    let number = number_from name script c.in-Ok.docs asked (g.Lb.Library.asked c.load_named.new.library) (g.Lb.Library.asked c.run_script.new.library) c.in-Ok-open.number named got in
    let starts : ToldStarts (Ok c.in-Ok.docs) name (g.Lb.Library.files c.args.library.now) = c.in-Ok.ensures.starts in
    let writes : ToldWrites (begun (docs c.in-Ok.docs)) c.run_script.result (g.K.Sink.taken c.args.sink.now) (g.K.Sink.taken c.run_script.new.sink) (told_bytes (g.Lb.Library.files c.args.library.now) script) (g.Lb.Library.left c.run_script.new.library c.in-Ok-open.number)
    = rw (c.in-Ok-open.ensures.bytes, c.load_named.ensures.files) at c.run_script.ensures.writes in
    told_run c.run_script.result name script (g.K.Sink.taken c.args.sink.now) (g.K.Sink.taken c.run_script.new.sink) (g.Lb.Library.files c.args.library.now) _ (g.Lb.Library.left c.run_script.new.library) c.in-Ok-open.number c.in-Ok.docs number starts writes

pub returns-in-Ok-open-clause-costs : goal.returns-in-Ok-open-clause-costs
returns-in-Ok-open-clause-costs g c =
    let name = option_map (λ n. n.now) c.args.file in
    let script = c.args.script.now in
    let files = g.Lb.Library.files c.args.library.now in
    let starts : ToldStarts (Ok c.in-Ok.docs) name files = c.in-Ok.ensures.starts in
    let costs : ScriptCosts (begun (docs c.in-Ok.docs)) (told_bytes files script) c.args.steps.now c.run_script.new.steps
    = rw (c.in-Ok-open.ensures.bytes, c.load_named.ensures.files) at c.run_script.ensures.costs in
    played_costs name script files c.in-Ok.docs c.args.steps.now c.run_script.new.steps starts costs
