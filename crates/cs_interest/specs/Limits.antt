-- How many subscriptions of a kind may stand: this project's profile.
use Rattle.std.specs.Prelude.{ℕ}

-- the most live queries at a time, and the most listeners
abbrev pub most_subscriptions : ℕ
most_subscriptions = 1024
