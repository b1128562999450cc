use Rattle.std.proofs.Common.{◌≡◌, ℕ, ◌+◌, ◌*◌, ◌≤◌, ◌++◌, List, length}
use Rattle.json.specs.Json.{items, members, value, parse_map}
use Rattle.serde_json.specs.Read.{converted}
use Rattle.cs_value.specs.View.{fields, list_tree}
use Rattle.cs_json.specs.Direct.{Named, made_items, named, AllFit, IsPutTogether}
use Rattle.cs_json.proofs.Tokens.{before}
use Rattle.cs_json.proofs.direct.+read.Given as goal

abbrev pub decreases-read_value : goal.decreases-read_value
decreases-read_value l = 2 * l.levels

abbrev pub decreases-read_items : goal.decreases-read_items
decreases-read_items l = 2 * l.levels + 1

abbrev pub decreases-read_members : goal.decreases-read_members
decreases-read_members l = 2 * l.levels + 1

abbrev pub invariant-read_items-items : goal.invariant-read_items-items
invariant-read_items-items l =
    (n : ℕ) × (length l.reader ≤ n)
    × (converted made_items (items (value l.levels) (length l.initial.reader) l.initial.reader) ≡ parse_map (before (list_tree l.found.items)) (converted made_items (items (value l.levels) n l.reader)))
    × (length l.reader ≤ length l.initial.reader) × AllFit l.left (list_tree l.found.items)

abbrev pub decreases-read_items-items : goal.decreases-read_items-items
decreases-read_items-items l = length l.reader

abbrev pub invariant-read_members-members : goal.invariant-read_members-members
invariant-read_members-members l =
    (es : List Named) × (n : ℕ) × (length l.reader ≤ n)
    × (converted named (members (value l.levels) (length l.initial.reader) l.initial.reader)
    ≡ parse_map (λ fs. es ++ fs) (converted named (members (value l.levels) n l.reader)))
    × (length l.reader ≤ length l.initial.reader) × IsPutTogether l.left es (fields l.object)

abbrev pub decreases-read_members-members : goal.decreases-read_members-members
decreases-read_members-members l = length l.reader
