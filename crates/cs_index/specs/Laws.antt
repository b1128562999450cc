-- The laws of entries.
use Rattle.std.specs.Prelude.{◌≡◌, ℕ, true, false}
use Rattle.cs_view.specs.Changes.{Edit}
use Rattle.cs_docs.specs.declared.docs.Docs.{Docs}
use Rattle.cs_codes.specs.Codes.{is_among}
use Rattle.cs_codes.specs.Kinds.{side_coded}
use Rattle.cs_codes.specs.declared.coding.Coding.{Coding}
use Rattle.cs_index.specs.Entries.{entry, puts, parts}

-- an entry of a code that both sides of a change have is neither put nor parted with
abbrev pub SharedIsUntouched : Type 0
SharedIsUntouched =
    (coding : Coding) (d : Docs) (e : Edit) (c p : ℕ) → is_among c (side_coded coding e.1.0) ≡ true
    → is_among c (side_coded coding e.1.1) ≡ true
    → (puts coding d (entry c p) e ≡ false) × (parts coding d (entry c p) e ≡ false)
