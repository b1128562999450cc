use Rattle.std.proofs.Common.{Ok, Err, List, inl, inr, refl, subst}
use Rattle.cs_live.specs.Found.{IsNumberPlace}
use Rattle.cs_live.specs.declared.entry.Entry.{Entry}
use Rattle.cs_live.proofs.live.Live.bring.Goals as goal

pub returns-in-Err-clause-brought : goal.returns-in-Err-clause-brought
returns-in-Err-clause-brought g c =
    let none : IsNumberPlace c.args.number c.args.self.now.entries.items (Err 0) = subst (λ (es : List Entry). IsNumberPlace c.args.number es (Err 0)) c.deref.ensures.value c.in-Err.ensures in
    inl (record { none = none; is = refl; lines = refl })

pub bring_at-requires-clause-within : goal.bring_at-requires-clause-within
bring_at-requires-clause-within g c =
    let place : IsNumberPlace c.args.number c.args.self.now.entries.items (Ok c.in-Ok.place) = subst (λ (es : List Entry). IsNumberPlace c.args.number es (Ok c.in-Ok.place)) c.deref.ensures.value c.in-Ok.ensures in
    place.0

pub bring_at-requires-clause-fits : goal.bring_at-requires-clause-fits
bring_at-requires-clause-fits g c =
    let place : IsNumberPlace c.args.number c.args.self.now.entries.items (Ok c.in-Ok.place) = subst (λ (es : List Entry). IsNumberPlace c.args.number es (Ok c.in-Ok.place)) c.deref.ensures.value c.in-Ok.ensures in
    λ e. c.requires.fits c.in-Ok.place e place.0 (place.1 e)

pub returns-in_err-bring_at-in-Ok-clause-quiet : goal.returns-in_err-bring_at-in-Ok-clause-quiet
returns-in_err-bring_at-in-Ok-clause-quiet g c = λ quiet.
    let place : IsNumberPlace c.args.number c.args.self.now.entries.items (Ok c.in-Ok.place) = subst (λ (es : List Entry). IsNumberPlace c.args.number es (Ok c.in-Ok.place)) c.deref.ensures.value c.in-Ok.ensures in
    c.bring_at.ensures.quiet (λ e. quiet c.in-Ok.place e place.0 (place.1 e))

pub returns-in_ok-bring_at-in-Ok-clause-brought : goal.returns-in_ok-bring_at-in-Ok-clause-brought
returns-in_ok-bring_at-in-Ok-clause-brought g c =
    let place : IsNumberPlace c.args.number c.args.self.now.entries.items (Ok c.in-Ok.place) = subst (λ (es : List Entry). IsNumberPlace c.args.number es (Ok c.in-Ok.place)) c.deref.ensures.value c.in-Ok.ensures in
    inr (record { place = c.in-Ok.place; within = place.0; named = place.1; brings = c.in_ok-bring_at-in-Ok.ensures.brought })

pub returns-in_ok-bring_at-in-Ok-clause-quiet : goal.returns-in_ok-bring_at-in-Ok-clause-quiet
returns-in_ok-bring_at-in-Ok-clause-quiet g c = λ quiet.
    let place : IsNumberPlace c.args.number c.args.self.now.entries.items (Ok c.in-Ok.place) = subst (λ (es : List Entry). IsNumberPlace c.args.number es (Ok c.in-Ok.place)) c.deref.ensures.value c.in-Ok.ensures in
    c.bring_at.ensures.quiet (λ e. quiet c.in-Ok.place e place.0 (place.1 e))
