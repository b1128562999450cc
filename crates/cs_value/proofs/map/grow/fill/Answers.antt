use Rattle.std.proofs.Common.{◌∷◌, ◌++◌, [], length, length-append, reverse, ap, sym, ◌∙◌, arith}
use Rattle.std.specs.Map.{keys_of}
use Rattle.cs_value.specs.Entries.{Name, named}
use Rattle.cs_value.proofs.Ascents.{moved}
use Rattle.cs_value.proofs.Shorts.{reverse-last}
use Rattle.cs_value.proofs.Trees.{length-named}
use Rattle.cs_value.proofs.map.grow.fill.Goals as goal

pub loop-name-preserved : goal.loop-name-preserved
loop-name-preserved g c =
    let l = c.loop-name in
    let e : Name × g.row.V.Denot = (c.in-Some.name, c.in-Some.value) in
    let all = c.args.row.now.items ++ named c.args.tree.now.entries in
    let rest = c.pop.new.self.items in
    let old = l.tree.entries in
    let new = c.enter.new.tree.entries in
    let step = moved all l.row.items rest (named old) (named new) e c.requires.ascend
    l.invariant.0 c.in-Some.ensures.items c.in_default-enter.ensures.entries in (
      step.0,
      omega (
        arith,
        step.1,
        l.invariant.1,
        c.pop.ensures.capacity,
        length-named old,
        length-named new,
      ),
      omega (
        arith,
        c.keep.ensures.room,
        ap length c.keep.ensures.items,
        length-append l.names.items (c.in-Some.name ∷ []),
        l.invariant.2,
        ap length c.in-Some.ensures.items,
        length-append rest (e ∷ []),
      ),
      ap reverse c.keep.ensures.items ∙ reverse-last l.names.items c.in-Some.name
          ∙ ap (λ ks. c.in-Some.name ∷ ks) l.invariant.3 ∙ sym (ap keys_of step.2),
    )

pub returns-in-Err-clause-names : goal.returns-in-Err-clause-names
returns-in-Err-clause-names g c =
    c.loop-name.invariant.3 ∙ sym (ap (λ es. keys_of (named es)) c.in-Err.ensures.kept)

pub returns-clause-names : goal.returns-clause-names
returns-clause-names g c = c.loop-name.invariant.3
