-- Lines that say nothing: this project's profile.
use Prim.Native.Char.{code}
use Rattle.std.specs.Prelude.{ℕ, List, Bool, ◌||◌, ◌==◌}
use Rattle.std.specs.List.{list_all}

abbrev pub is_blank_byte : ℕ → Bool
is_blank_byte b = b == code " " || b == code "\t" || b == code "\r"

-- spaces, tabs and carriage returns alone
abbrev pub is_blank_line : List ℕ → Bool
is_blank_line line = list_all is_blank_byte line
