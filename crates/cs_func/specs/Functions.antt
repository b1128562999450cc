-- Each function as a table from values to a value: GROQ-1.revision1, "Functions".
use Rattle.std.specs.Prelude.{Bool, true, false, Option, Some, None}
use Rattle.cs_value.specs.Tree.{Tree, null}
use Rattle.cs_func.specs.Lists.{count, defined, compact, unique}
use Rattle.cs_func.specs.Numbers.{sum, least, greatest}
use Rattle.cs_func.specs.Texts.{size, string, join, split, begins}
use Rattle.cs_func.specs.declared.function.Function.{Function}
use Rattle.cs_func.specs.declared.function.Function.TheVariants.{Count, Length, Defined, Text, Unique, Compact, Join, Split, StartsWith, Sum, Min, Max}

-- whether a function has two arguments; the others have one
abbrev pub has_two : Function → Bool
has_two Join = true
has_two Split = true
has_two StartsWith = true
has_two f = false

-- whether a function makes a list or a text
abbrev pub makes : Function → Bool
makes Text = true
makes Unique = true
makes Compact = true
makes Join = true
makes Split = true
makes f = false

-- a function of two arguments, null where the second is not given
abbrev pub with_second : (Tree → Tree → Tree) → Tree → Option Tree → Tree
with_second f x None = null
with_second f x (Some y) = f x y

abbrev pub value : Function → Tree → Option Tree → Tree
value Count x y = count x
value Length x y = size x
value Defined x y = defined x
value Text x y = string x
value Unique x y = unique x
value Compact x y = compact x
value Join x y = with_second join x y
value Split x y = with_second split x y
value StartsWith x y = with_second begins x y
value Sum x y = sum x
value Min x y = least x
value Max x y = greatest x
