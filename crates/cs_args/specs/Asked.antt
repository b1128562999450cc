-- What contracts see of the words that were read: this project's profile.
use Rattle.std.specs.Prelude.{◌≡◌, ◌≤◌, ℕ, List, ⊤, Bool, false, None, Some, option_map}
use Rattle.cs_args.specs.Words.{data_of, script_of, gen_of, most_generated}
use Rattle.cs_args.specs.declared.words.Task.{Task}
use Rattle.cs_args.specs.declared.words.Task.TheVariants.{Play, Generate}
use Rattle.cs_args.specs.declared.words.WordsFault.{WordsFault}
use Rattle.cs_args.specs.declared.words.WordsFault.TheVariants.{Refused, NoMemory}

-- the task is what the words ask for
abbrev pub IsAsked : Task → List (List ℕ) → Type 0
IsAsked (Play file script) words = (gen_of words ≡ None)
    × (option_map (λ name. name.now) file ≡ data_of words) × (script.now ≡ script_of words)
IsAsked (Generate documents) words = (gen_of words ≡ Some documents) × (documents ≤ most_generated)

-- what a fault says of whether the command takes the words: memory may be short at any words
abbrev pub IsWordsCause : WordsFault → Bool → Type 0
IsWordsCause Refused taken = taken ≡ false
IsWordsCause NoMemory taken = ⊤
