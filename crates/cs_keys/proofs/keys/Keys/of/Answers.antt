use Rattle.std.proofs.Common.{◌≡◌, ◌∙◌, [], ◌∷◌, ◌++◌, ap, map, sym, subst, append_assoc, arith}
use Rattle.std.proofs.lemmas.List.{append-nil, map-append}
use Rattle.std.proofs.lemmas.Grind.{common_steps}
use Rattle.std.specs.Vec.Iter.{into_iter_items}
use Rattle.cs_interest.specs.Interest.{interest_code}
use Rattle.cs_keys.specs.Keys.{SameKeys, rest_of}
use Rattle.cs_keys.proofs.Keyed.{one_more, whole_keys}
use Rattle.cs_keys.proofs.keys.Keys.of.Goals as goal

pub loop-key-preserved : goal.loop-key-preserved
loop-key-preserved c =
    let l = c.loop-key in
    let done = l.invariant.0 in
    let key = c.in-Some.key in
    let left = into_iter_items c.next.new.self in
    let all : c.args.looked ≡ done ++ key ∷ left = l.invariant.1 ∙ ap (λ ks. done ++ ks) c.in-Some.ensures.steps.0 in (
      done ++ key ∷ [],
      all ∙ sym (append_assoc done (key ∷ []) left),
      one_more (rest_of c.add.new.self) (rest_of l.keys) done key c.in_ok-add.ensures.keys l.invariant.2,
      c.in_ok-add.ensures.codes ∙ ap (λ cs. cs ++ interest_code c.args.seed.now key ∷ []) l.invariant.3
          ∙ sym (map-append (interest_code c.args.seed.now) done (key ∷ [])),
      c.add.ensures.own ∙ l.invariant.4,
    )

pub returns-clause-keys : goal.returns-clause-keys
returns-clause-keys c =
    let l = c.loop-key in
    let done = l.invariant.0 in
    let ended : into_iter_items l.key-iterator ≡ [] = grind (arith, common_steps, c.in-None.ensures.steps.0) in
    let all : c.args.looked ≡ done = l.invariant.1 ∙ ap (λ ks. done ++ ks) ended ∙ append-nil done in
    whole_keys (rest_of l.keys) l.keys.own c.args.looked l.invariant.4 (subst (SameKeys (rest_of l.keys)) (sym all) l.invariant.2)

pub returns-clause-codes : goal.returns-clause-codes
returns-clause-codes c =
    let l = c.loop-key in
    let done = l.invariant.0 in
    let ended : into_iter_items l.key-iterator ≡ [] = grind (arith, common_steps, c.in-None.ensures.steps.0) in
    let all : c.args.looked ≡ done = l.invariant.1 ∙ ap (λ ks. done ++ ks) ended ∙ append-nil done in
    l.invariant.3 ∙ ap (map (interest_code c.args.seed.now)) (sym all)
