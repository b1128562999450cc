-- What each alteration makes of the value that it is done at: this project's profile of Sanity's
-- HTTP documentation, "Patches".
use Rattle.std.specs.Prelude.{ℤ, ◌+ℤ◌, ◌-ℤ◌, List, [], ◌∷◌, Option, Some, None}
use Rattle.cs_value.specs.Tree.{Tree}
use Rattle.cs_value.specs.View.{tree, list_tree}
use Rattle.cs_jsonmatch.specs.Path.{Step, Path}
use Rattle.cs_jsonmatch.specs.View.{path}
use Rattle.cs_alter.specs.Within.{given, drop_member, recount}
use Rattle.cs_alter.specs.Inserted.{Side, before, after, replace, insert_into}
use Rattle.cs_alter.specs.declared.alteration.Side.{Side as CodeSide}
use Rattle.cs_alter.specs.declared.alteration.Side.TheVariants.{Before, After, Replace}
use Rattle.cs_alter.specs.declared.alteration.Change.{Change}
use Rattle.cs_alter.specs.declared.alteration.Change.TheVariants.{Add, Subtract}
use Rattle.cs_alter.specs.declared.alteration.Alteration.{Alteration}
use Rattle.cs_alter.specs.declared.alteration.Alteration.TheVariants.{Give, Remove, Count, Insert}

-- the number that another one becomes
abbrev pub counted : Change → ℤ → ℤ
counted (Add n) m = m +ℤ n
counted (Subtract n) m = m -ℤ n

abbrev pub side : CodeSide → Side
side Before = before
side After = after
side Replace = replace

-- the only element of a list
abbrev pub sole : {A : Type 0} → List A → Option A
sole (x ∷ []) = Some x
sole _ = None

-- items put in by the only step of a path; by any other path none are
abbrev pub inserted_by_step : Side → List Tree → Tree → Option Step → Tree
inserted_by_step side new t (Some s) = insert_into side s new t
inserted_by_step side new t None = t

abbrev pub inserted_by : Side → Path → List Tree → Tree → Tree
inserted_by side p new t = inserted_by_step side new t (sole p)

abbrev pub altered : Alteration → Tree → Tree
altered (Give g) t = given g.names.items (tree g.new) t
altered (Remove x) t = drop_member x t
altered (Count c) t = recount (counted c) t
altered (Insert i) t = inserted_by (side i.side) (path i.last) (list_tree i.items.items) t
