use Rattle.std.proofs.Common.{◌≡◌, ◌∙◌, Some, None, map, MatchResult, ap, subst, sym, codes, option_and_then}
use Rattle.cs_value.specs.View.{fields}
use Rattle.cs_body.specs.Body.{Body, action as action_of, transaction, all_read, text_or_none, of_pairs}
use Rattle.cs_body.specs.View.{action, txn, IsTxnFault}
use Rattle.cs_body.proofs.Taken.{handed_body, body_asks}
use Rattle.cs_body.proofs.txn.read_object.Goals as goal

pub returns-in_err-given-clause-read : goal.returns-in_err-given-clause-read
returns-in_err-given-clause-read c =
    let actions = sym (ap (option_and_then (all_read action_of)) c.in-Some.ensures.taken) ∙ c.in_ok-mutations.ensures.read in
    handed_body _ c.in_err-given.field-0.0 (text_or_none (codes "transactionId") (fields c.take_list.new.object)) (of_pairs c.args.line (fields c.args.object)) c.in_err-given.ensures.taken
    c.from_residual-in_err-given.ensures.1
    (λ none. body_asks c.args.line (fields c.args.object) (fields c.take_list.new.object) (Some (map action c.in_ok-mutations.mutations.items)) None
    (sym c.has_keys.ensures ∙ c.if-not-has_keys.false) actions c.take_list.ensures.left none)

pub returns-clause-read : goal.returns-clause-read
returns-clause-read c =
    let actions = sym (ap (option_and_then (all_read action_of)) c.in-Some.ensures.taken) ∙ c.in_ok-mutations.ensures.read in
    let whole = body_asks c.args.line (fields c.args.object) (fields c.take_list.new.object) (Some (map action c.in_ok-mutations.mutations.items)) (Some c.in_ok-given.given)
    (sym c.has_keys.ensures ∙ c.if-not-has_keys.false) actions c.take_list.ensures.left c.in_ok-given.ensures.taken in
    subst (λ (b : Body). MatchResult c.by_id.result (λ t. b ≡ transaction (txn t)) (λ e. IsTxnFault e b)) (sym whole) c.by_id.ensures.read
