-- One file more is looked at.
use Rattle.std.proofs.Common.{◌≡◌, ◌∙◌, ap, sym, refl, ℕ, List, ◌∷◌, drop, length, get_or, ◌+◌, ◌<◌, true, false, Some, Vec, Global}
use Rattle.std.proofs.lemmas.List.{drop_more}
use Rattle.std.proofs.lemmas.Map.Text.{is_eq-slice_cmp}
use Rattle.std.specs.Ordering.{nat_cmp, eq_by_cmp}
use Rattle.std.specs.Cmp.Lexicographic.{slice_cmp, nat_list_cmp_total}
use Rattle.std.specs.FinMap.{get, get-from_entries}
use lib.Pointwise.{pointwise}
use lib.Dec.{eqb}
use Rattle.cs_io.specs.Names.{file_bytes}
use Rattle.cs_io.specs.Held.{found, files_of, entries_of}

abbrev pub File : Type 0
File = List ℕ × Vec ℕ Global

at_item : (files : List File) (i : ℕ) (f : File) → i < length files → f ≡ get_or files i f → drop i files ≡ f ∷ drop (i + 1) files
at_item files i f l is = drop_more files i f l ∙ ap (λ v. v ∷ drop (i + 1) files) (sym is)

pub found_here : (name : List ℕ) (files : List File) (i : ℕ) (f : File) → i < length files → f ≡ get_or files i f → pointwise eqb name f.0 ≡ true → found name (drop i files) ≡ Some f.1.items
found_here name files i f l is e =
    let same : eq_by_cmp (slice_cmp nat_cmp) name f.0 ≡ true = is_eq-slice_cmp name f.0 ∙ e in
    rw (at_item files i f l is, same) refl

pub found_later : (name : List ℕ) (files : List File) (i : ℕ) (f : File) → i < length files → f ≡ get_or files i f → pointwise eqb name f.0 ≡ false → found name files ≡ found name (drop i files) → found name files ≡ found name (drop (i + 1) files)
found_later name files i f l is e so_far =
    let other : eq_by_cmp (slice_cmp nat_cmp) name f.0 ≡ false = is_eq-slice_cmp name f.0 ∙ e in
    so_far ∙ (rw (at_item files i f l is, other) refl)

-- the bytes that the files hold under a name that was found
pub file_of_found : (name : List ℕ) (files : List File) (bytes : List ℕ) → found name files ≡ Some bytes → file_bytes (files_of files) name ≡ bytes
file_of_found name files bytes e =
    let reads : get (files_of files) name ≡ Some bytes = get-from_entries nat_list_cmp_total (entries_of files) name ∙ e in
    rw reads refl
