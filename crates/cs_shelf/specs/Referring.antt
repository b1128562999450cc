-- Who refers to an id: Sanity's documentation, "Reference"; the order is this project's profile.
use Rattle.std.specs.Prelude.{ℕ, List, Bool, true, ◌&&◌, Option, Some, None, option_map}
use Rattle.std.specs.List.{filter}
use Rattle.std.specs.Ordering.{is_lt}
use Rattle.cs_value.specs.Tree.{Tree}
use Rattle.cs_view.specs.Document.{id_of}
use Rattle.cs_view.specs.Dataset.{id_cmp}
use Rattle.cs_view.specs.Keys.{has_ref}
use Rattle.cs_value.specs.Words.{first_of}

-- the id is above another, where one is given
abbrev pub above : Option (List ℕ) → List ℕ → Bool
above None id = true
above (Some low) id = is_lt (id_cmp low id)

-- the least id, above another where one is given, of a document that has the target as `_ref` of
-- some object
abbrev pub next_referrer : List Tree → List ℕ → Option (List ℕ) → Option (List ℕ)
next_referrer docs target low =
    option_map id_of (first_of (filter (λ d. has_ref target d && above low (id_of d)) docs))
