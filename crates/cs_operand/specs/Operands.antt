-- The value that an operand of the code is: GROQ-1.revision1, "Data model".
use Rattle.cs_value.specs.Tree.{Tree, null, boolean, integer, text, list, object, trees}
use Rattle.cs_value.specs.View.{list_tree, fields}
use Rattle.cs_operand.specs.declared.operand.Operand.{Operand}
use Rattle.cs_operand.specs.declared.operand.Operand.TheVariants.{Null, Bool, Number, Text, List as Items, Object}

abbrev pub operand : Operand → Tree
operand Null = null
operand (Bool b) = boolean b
operand (Number n) = integer n
operand (Text s) = text s.now
operand (Items vs) = list (trees (list_tree vs.now.items))
operand (Object ps) = object (fields ps.now)
