-- How long a path of names may be: this project's profile.
use Rattle.std.specs.Prelude.{ℕ}

-- the most names of a path by which documents are looked up
abbrev pub most_names : ℕ
most_names = 4
