-- The lines of the generated script by their kinds: this project's profile.
use Rattle.std.specs.Prelude.{ℕ, List, ◌≤◌, ⊤}
use Rattle.cs_gen.specs.Generated.{listen_line, live_line, created_line, deleted_line, count_line}
use Rattle.cs_gen.specs.declared.lines.Line.{Line}
use Rattle.cs_gen.specs.declared.lines.Line.TheVariants.{Listen, Live, Created, Deleted, Count}

abbrev pub text_of : Line → List ℕ
text_of Listen = listen_line
text_of Live = live_line
text_of (Created i) = created_line i
text_of (Deleted i) = deleted_line i
text_of Count = count_line

-- the document of the line is among the most that a script may have
abbrev pub IsInside : Line → Type 0
IsInside (Created i) = i ≤ 100000
IsInside _ = ⊤
