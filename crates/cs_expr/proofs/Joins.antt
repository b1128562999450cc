-- How the parts of a chain come together.
use Rattle.std.proofs.Common.{◌≡◌, List, [], ◌∷◌, ◌++◌, refl, sym, true, false, true≢false}
use Rattle.cs_value.specs.Tree.{Tree, null, boolean, integer, text, list, object, Pairs}
use Rattle.cs_value.specs.Words.{is_object}
use Rattle.cs_view.specs.declared.key.Key.{Key}
use Rattle.cs_syntax.specs.Expression.{Step, steps_of}
use Rattle.cs_meaning.specs.declared.join.Way.{Way}
use Rattle.cs_meaning.specs.declared.join.Way.TheVariants.{Through, Over, After, Ends}
use Rattle.cs_meaning.specs.declared.join.Entrance.{Entrance}
use Rattle.cs_meaning.specs.Joining.{mapped, entered, onward, kind}
use Rattle.cs_meaning.specs.Looked.{onward_looked, entered_looked}
use Rattle.cs_meaning.specs.Values.{projected}
use Rattle.cs_parts.specs.Kinds.{kinds_of, first_kind}
use Rattle.cs_parts.specs.Turns.{turn, is_end, is_over_way}
use Rattle.cs_expr.specs.Starts.{once, once_looked}

pub first_of_kinds : (ss : List Step) → first_kind (kinds_of ss) ≡ kind (steps_of ss)
first_of_kinds [] = refl
first_of_kinds (s ∷ ss) = refl

pub once_over : (w : Way) (f : Tree → Tree) (v : Tree) → is_over_way w ≡ true → once w f v ≡ mapped f v
once_over Over f v h = refl
once_over Through f v h = absurd (true≢false (sym h))
once_over After f v h = absurd (true≢false (sym h))
once_over Ends f v h = absurd (true≢false (sym h))

pub once_other : (w : Way) (f : Tree → Tree) (v : Tree) → is_over_way w ≡ false → once w f v ≡ f v
once_other Over f v h = absurd (true≢false h)
once_other Through f v h = refl
once_other After f v h = refl
once_other Ends f v h = refl

-- a step and what is behind it
pub onward_turns : (w : Way) (e : Entrance) (f r : Tree → Tree) (v : Tree) → is_end w ≡ false → onward w e f r v ≡ entered (turn w e) r (once w f v)
onward_turns Through e f r v h = refl
onward_turns Over e f r v h = refl
onward_turns After e f r v h = refl
onward_turns Ends e f r v h = absurd (true≢false h)

pub onward_looks : (w : Way) (e : Entrance) (f : Tree → Tree) (fk rk : Tree → List Key) (v : Tree) → is_end w ≡ false → onward_looked w e f fk rk v ≡ once_looked w fk v ++ entered_looked (turn w e) rk (once w f v)
onward_looks Through e f fk rk v h = refl
onward_looks Over e f fk rk v h = refl
onward_looks After e f fk rk v h = refl
onward_looks Ends e f fk rk v h = absurd (true≢false h)

pub projected_object : (ps : Pairs) (v : Tree) → is_object v ≡ true → projected ps v ≡ object ps
projected_object ps (object own) h = refl
projected_object ps null h = absurd (true≢false (sym h))
projected_object ps (boolean b) h = absurd (true≢false (sym h))
projected_object ps (integer n) h = absurd (true≢false (sym h))
projected_object ps (text s) h = absurd (true≢false (sym h))
projected_object ps (list ts) h = absurd (true≢false (sym h))

pub projected_other : (ps : Pairs) (v : Tree) → is_object v ≡ false → projected ps v ≡ null
projected_other ps (object own) h = absurd (true≢false h)
projected_other ps null h = refl
projected_other ps (boolean b) h = refl
projected_other ps (integer n) h = refl
projected_other ps (text s) h = refl
projected_other ps (list ts) h = refl
