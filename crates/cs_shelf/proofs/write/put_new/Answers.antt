use Rattle.std.proofs.Common.{◌≡◌, ◌∙◌, nat_eq, ap, cond, Some, List, ℕ, refl, subst}
use Rattle.std.specs.BTreeMap.{get}
use Rattle.cs_view.specs.Dataset.{id_cmp, same_id}
use Rattle.cs_view.specs.Document.{id_of}
use Rattle.cs_view.specs.View.{document_of}
use Rattle.cs_shelf.specs.Places.{tree_at, trees_at}
use Rattle.cs_shelf.proofs.Writing.{as_placed, sound_written, vacant_apart, own_id, on_err, low_written, low_same, stay_written, entered_written, entered_same, no_place_yet}
use Rattle.cs_shelf.proofs.write.put_new.Goals as goal

pub returns-in_err-insert-clause-kept : goal.returns-in_err-insert-clause-kept
returns-in_err-insert-clause-kept c =
    on_err c.from_residual-in_err-insert.result
    (ap (trees_at c.reserve.new.self) c.in_err-insert.ensures.err ∙ ap (λ s. trees_at s c.args.order.now.entries) c.in_ok-reserve.ensures.rest_kept)

pub returns-in_err-reserve-clause-kept : goal.returns-in_err-reserve-clause-kept
returns-in_err-reserve-clause-kept c =
    on_err c.from_residual-in_err-reserve.result
    (ap (λ s. trees_at s c.args.order.now.entries) c.in_err-reserve.ensures.rest_kept)

pub returns-clause-sound : goal.returns-clause-sound
returns-clause-sound c =
    let d = document_of c.args.doc in
    let p = c.in-Some.place in
    sound_written c.args.store.now c.fill.new.store c.args.order.now c.insert.new.self (id_of d) p (Some d)
    (λ q. c.fill.ensures q ∙ ap (λ s. cond (nat_eq q p) (Some d) (tree_at s q)) c.in_ok-reserve.ensures.rest_kept)
    (subst (λ (i : List ℕ). (x : List ℕ) → get id_cmp c.insert.new.self x ≡ cond (same_id i x) (Some p) (get id_cmp c.args.order.now x)) (c.in_ok-id.ensures ∙ c.id.ensures) c.in_ok-insert.ensures.updates.0)
    (vacant_apart c.args.store.now c.args.order.now p (id_of d) c.in-Some.ensures.vacant c.requires.sound) (own_id d) c.requires.sound

pub returns-clause-put : goal.returns-clause-put
returns-clause-put c =
    let d = document_of c.args.doc in
    let p = c.in-Some.place in
    as_placed c.args.store.now c.fill.new.store c.args.order.now c.insert.new.self (id_of d) p (Some d)
    (λ q. c.fill.ensures q ∙ ap (λ s. cond (nat_eq q p) (Some d) (tree_at s q)) c.in_ok-reserve.ensures.rest_kept)
    (subst (λ (i : List ℕ). (x : List ℕ) → get id_cmp c.insert.new.self x ≡ cond (same_id i x) (Some p) (get id_cmp c.args.order.now x)) (c.in_ok-id.ensures ∙ c.id.ensures) c.in_ok-insert.ensures.updates.0)
    (vacant_apart c.args.store.now c.args.order.now p (id_of d) c.in-Some.ensures.vacant c.requires.sound) (own_id d) c.requires.sound c.in_ok-insert.ensures.was_ordered c.in_ok-insert.ensures.ordered

pub returns-clause-low : goal.returns-clause-low
returns-clause-low c =
    let d = document_of c.args.doc in
    let p = c.in-Some.place in
    low_written c.args.order.now c.insert.new.self (id_of d) p (Some d)
    (subst (λ (i : List ℕ). (x : List ℕ) → get id_cmp c.insert.new.self x ≡ cond (same_id i x) (Some p) (get id_cmp c.args.order.now x)) (c.in_ok-id.ensures ∙ c.id.ensures) c.in_ok-insert.ensures.updates.0)
    c.in-Some.ensures.low c.requires.low

pub returns-in_err-insert-clause-low : goal.returns-in_err-insert-clause-low
returns-in_err-insert-clause-low c = low_same c.args.order.now c.insert.new.self c.in_err-insert.ensures.err c.requires.low

pub returns-clause-stay : goal.returns-clause-stay
returns-clause-stay c =
    let d = document_of c.args.doc in
    let p = c.in-Some.place in
    stay_written c.args.order.now c.insert.new.self (id_of d) p c.requires.fresh
    (subst (λ (i : List ℕ). (x : List ℕ) → get id_cmp c.insert.new.self x ≡ cond (same_id i x) (Some p) (get id_cmp c.args.order.now x)) (c.in_ok-id.ensures ∙ c.id.ensures) c.in_ok-insert.ensures.updates.0)

pub returns-clause-entered : goal.returns-clause-entered
returns-clause-entered c =
    let d = document_of c.args.doc in
    let p = c.in-Some.place in
    entered_written c.args.store.now c.fill.new.store c.args.order.now c.insert.new.self (id_of d) p (Some d)
    (λ q. c.fill.ensures q ∙ ap (λ s. cond (nat_eq q p) (Some d) (tree_at s q)) c.in_ok-reserve.ensures.rest_kept)
    (subst (λ (i : List ℕ). (x : List ℕ) → get id_cmp c.insert.new.self x ≡ cond (same_id i x) (Some p) (get id_cmp c.args.order.now x)) (c.in_ok-id.ensures ∙ c.id.ensures) c.in_ok-insert.ensures.updates.0)
    (vacant_apart c.args.store.now c.args.order.now p (id_of d) c.in-Some.ensures.vacant c.requires.sound) (own_id d)
    (no_place_yet c.args.order.now (id_of d) p c.requires.fresh) c.requires.entered

pub returns-in_err-insert-clause-entered : goal.returns-in_err-insert-clause-entered
returns-in_err-insert-clause-entered c =
    entered_same c.args.store.now c.reserve.new.self c.args.order.now c.insert.new.self (λ q. ap (λ s. tree_at s q) c.in_ok-reserve.ensures.rest_kept) c.in_err-insert.ensures.err c.requires.entered

pub returns-in_err-reserve-clause-entered : goal.returns-in_err-reserve-clause-entered
returns-in_err-reserve-clause-entered c =
    entered_same c.args.store.now c.reserve.new.self c.args.order.now c.args.order.now (λ q. ap (λ s. tree_at s q) c.in_err-reserve.ensures.rest_kept) refl c.requires.entered
