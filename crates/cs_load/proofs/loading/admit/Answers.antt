use Rattle.std.proofs.Common.{◌∙◌, ap, sym, subst, option_map, length}
use Rattle.cs_value.specs.View.{tree}
use Rattle.cs_view.specs.Document.{is_body, id_of}
use Rattle.cs_load.specs.Gathered.{held, HasWay}
use Rattle.cs_load.proofs.Saying.{id_given, body_untaken, body_admitted}
use Rattle.cs_load.proofs.loading.admit.Goals as goal

pub none_taken-requires-clause-way : goal.none_taken-requires-clause-way
none_taken-requires-clause-way c = c.in_ok-make_way.ensures.way

pub returns-then-len-eq-MOST_DOCUMENTS-clause-refused : goal.returns-then-len-eq-MOST_DOCUMENTS-clause-refused
returns-then-len-eq-MOST_DOCUMENTS-clause-refused c =
    let docs = held c.args.documents.now in
    let given = id_given (is_body (tree c.args.body.now)) (id_of (tree c.args.body.now)) c.in-Some.id.now (sym (ap (option_map (λ i. i.now)) c.in-Some.is) ∙ c.body_id.ensures) in
    body_untaken docs (tree c.args.body.now) c.none_taken.result (held c.make_way.new.self) c.in-Some.id.now given.0 (sym given.1) c.in_ok-make_way.ensures.same
    (ap length (sym c.in_ok-make_way.ensures.same) ∙ sym c.len.ensures ∙ c.if-len-eq-MOST_DOCUMENTS.true) c.none_taken.ensures

pub returns-clause-admitted : goal.returns-clause-admitted
returns-clause-admitted c = λ stood.
    let docs = held c.args.documents.now in
    let given = id_given (is_body (tree c.args.body.now)) (id_of (tree c.args.body.now)) c.in-Some.id.now (sym (ap (option_map (λ i. i.now)) c.in-Some.is) ∙ c.body_id.ensures) in
    body_admitted docs (tree c.args.body.now) given.0 stood (λ e. c.if-len-eq-MOST_DOCUMENTS.false (c.len.ensures ∙ ap length c.in_ok-make_way.ensures.same ∙ e))

pub returns-clause-way : goal.returns-clause-way
returns-clause-way c =
    let given = id_given (is_body (tree c.args.body.now)) (id_of (tree c.args.body.now)) c.in-Some.id.now (sym (ap (option_map (λ i. i.now)) c.in-Some.is) ∙ c.body_id.ensures) in
    subst (λ i. HasWay i c.make_way.new.self) given.1 c.in_ok-make_way.ensures.way

pub returns-clause-id : goal.returns-clause-id
returns-clause-id c =
    let given = id_given (is_body (tree c.args.body.now)) (id_of (tree c.args.body.now)) c.in-Some.id.now (sym (ap (option_map (λ i. i.now)) c.in-Some.is) ∙ c.body_id.ensures) in
    c.in_ok-copy.ensures ∙ given.1
