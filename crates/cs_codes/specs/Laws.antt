-- The laws of codes.
use Rattle.std.specs.Prelude.{◌≡◌, true}
use Rattle.cs_value.specs.Tree.{Tree}
use Rattle.cs_view.specs.Keys.{has}
use Rattle.cs_view.specs.declared.key.Key.{Key}
use Rattle.cs_codes.specs.Codes.{key_code, key_codes, is_among}
use Rattle.cs_codes.specs.declared.seed.Seed.{Seed}
use Rattle.cs_codes.specs.Kept.{IsKept}
use Rattle.cs_codes.specs.Kinds.{IsCoded, coded}
use Rattle.cs_codes.specs.declared.coding.Coding.{Coding}

-- a document that has a key which an index keeps has the key's code among its codes
abbrev pub KeysAreListed : Type 0
KeysAreListed =
    (seed : Seed) (q : Key) (d : Tree) → IsKept q → has q d ≡ true
    → is_among (key_code seed q) (key_codes seed d) ≡ true

-- the same of a key of a kind that has codes, and the codes of those kinds
abbrev pub CodedKeysAreListed : Type 0
CodedKeysAreListed =
    (coding : Coding) (q : Key) (d : Tree) → IsCoded coding q → has q d ≡ true
    → is_among (key_code coding.seed q) (coded coding d) ≡ true
