-- The documents of a data file so far, and what a line does to them. For private clauses.
use Rattle.std.specs.Prelude.{◌≡◌, List}
use Rattle.cs_value.specs.Tree.{Tree}
use Rattle.cs_view.specs.Dataset.{with_doc}
use Rattle.cs_machine.specs.DataFile.{Said, nothing, a_document, refused}
use Rattle.cs_load.specs.Gathered.{held}
use Rattle.cs_load.specs.declared.loading.Loading.{Loading}

abbrev pub so_far : Loading → List Tree
so_far loading = held loading.documents

-- what the line says was done
abbrev pub IsTaken : Said → List Tree → List Tree → Type 0
IsTaken nothing old new = new ≡ old
IsTaken (a_document d) old new = new ≡ with_doc d old
IsTaken (refused cause) old new = ⊥
