-- The limit of the store: this project's profile.
use Rattle.std.specs.Prelude.{ℕ}

-- the most documents that the store holds
abbrev pub most_documents : ℕ
most_documents = 1048576
