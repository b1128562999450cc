use Rattle.std.proofs.Common.{◌≡◌, ◌∙◌, ap, sym, Some, true, false, ◌||◌}
use Rattle.std.proofs.lemmas.List.Elements.{All-push, All-same}
use Rattle.cs_view.specs.Document.{id_of}
use Rattle.cs_view.specs.Keys.{has_all}
use Rattle.cs_view.specs.View.{document_of}
use Rattle.cs_docs.specs.Store.{doc_at}
use Rattle.cs_index.specs.Picking.{wanted, is_hit, is_found}
use Rattle.cs_index.proofs.Picked.{one_found, none_found, met_at, unmet_at, found_at}
use Rattle.cs_index.proofs.pick.choose.Goals as goal

pub returns-in_ok-push-clause-wanted : goal.returns-in_ok-push-clause-wanted
returns-in_ok-push-clause-wanted c =
    let d = c.args.docs.now in let k = c.args.keys.now in let t = document_of c.in-Some.found.now in
    let stands : doc_at d c.args.place ≡ Some t = sym c.in-Some.ensures in
    let met : has_all k t ≡ true = sym c.has_all.ensures ∙ c.if-has_all.true in
    let one : wanted d k c.id.result.now ≡ Some c.args.place = ap (wanted d k) c.id.ensures ∙ met_at d k c.args.place t stands met in
    All-same (λ h. wanted d k h.0.now ≡ Some h.1) c.push.new.self.items _ c.in_ok-push.ensures.items
    (All-push (λ h. wanted d k h.0.now ≡ Some h.1) c.args.hits.now.items (c.id.result, c.args.place) c.requires one)

pub returns-in_ok-push-clause-finds : goal.returns-in_ok-push-clause-finds
returns-in_ok-push-clause-finds c y =
    let d = c.args.docs.now in let k = c.args.keys.now in let t = document_of c.in-Some.found.now in
    let stands : doc_at d c.args.place ≡ Some t = sym c.in-Some.ensures in
    let met : has_all k t ≡ true = sym c.has_all.ensures ∙ c.if-has_all.true in
    let one : wanted d k c.id.result.now ≡ Some c.args.place = ap (wanted d k) c.id.ensures ∙ met_at d k c.args.place t stands met in
    ap (is_hit y) c.in_ok-push.ensures.items ∙ one_found d k y (c.id.result, c.args.place) c.args.hits.now.items one
    ∙ ap (λ b. b || is_hit y c.args.hits.now.items) (ap (λ i. is_found d k i y) c.id.ensures ∙ sym (found_at d k c.args.place t y stands))

pub returns-else-has_all-clause-finds : goal.returns-else-has_all-clause-finds
returns-else-has_all-clause-finds c y =
    let d = c.args.docs.now in let k = c.args.keys.now in let t = document_of c.in-Some.found.now in
    let stands : doc_at d c.args.place ≡ Some t = sym c.in-Some.ensures in
    let unmet : has_all k t ≡ false = sym c.has_all.ensures ∙ c.if-has_all.false in
    none_found d k y (id_of t) (is_hit y c.args.hits.now.items) (unmet_at d k c.args.place t stands unmet)
    ∙ ap (λ b. b || is_hit y c.args.hits.now.items) (sym (found_at d k c.args.place t y stands))
