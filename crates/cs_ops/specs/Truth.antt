-- The logic of three values of `&&`, `||` and `!`: GROQ-1.revision1, "And operator", "Or operator",
-- "Not operator".
use Rattle.std.specs.Prelude.{Bool, true, false, not, Option, Some, None, option_map}
use Rattle.cs_value.specs.Tree.{Tree, null, boolean}
use Rattle.cs_value.specs.Words.{as_boolean}

-- what a value says as a condition: nothing, where it is no boolean
abbrev pub truth : Tree → Option Bool
truth t = as_boolean t

abbrev pub said : Option Bool → Tree
said None = null
said (Some b) = boolean b

-- false where either is false; else nothing where either says nothing; else true
abbrev pub both : Option Bool → Option Bool → Option Bool
both (Some false) y = Some false
both x (Some false) = Some false
both (Some true) (Some true) = Some true
both x y = None

-- true where either is true; else nothing where either says nothing; else false
abbrev pub either : Option Bool → Option Bool → Option Bool
either (Some true) y = Some true
either x (Some true) = Some true
either (Some false) (Some false) = Some false
either x y = None

abbrev pub opposite : Option Bool → Option Bool
opposite x = option_map not x
