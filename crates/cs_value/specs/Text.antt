-- The bytes of a text: RFC 8259, "Strings", as UTF-8 (RFC 3629).
use Rattle.std.specs.Prelude.{ℕ, List, string_bytes}
use Rattle.cs_value.specs.declared.map.name.Spelled.{Spelled}
use Rattle.cs_value.specs.declared.map.name.Spelled.TheVariants.{Beside, Apart}
use Rattle.cs_value.specs.declared.txt.Held.{Held}
use Rattle.cs_value.specs.declared.txt.Held.TheVariants.{Inside, Outside}

abbrev pub text_bytes : Held → List ℕ
text_bytes (Inside text place) = text
text_bytes (Outside text) = string_bytes text

-- and those of a name
abbrev pub name_bytes : Spelled → List ℕ
name_bytes (Beside name) = name
name_bytes (Apart name) = string_bytes name.value
