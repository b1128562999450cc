use Rattle.std.proofs.Common.{◌≡◌, Some}
use Rattle.cs_io.specs.Held.{found}
use Rattle.cs_io.proofs.Finding.{file_of_found}
use Rattle.cs_io.proofs.Keeping.{left-last, left-push}
use Rattle.cs_io.proofs.mem_library.MemLibraryLibrary.open.Goals as goal

pub returns-in-Some-place-clause-bytes : goal.returns-in-Some-place-clause-bytes
returns-in-Some-place-clause-bytes c =
    let there : found c.args.name.now c.args.self.now.held.items ≡ Some c.in-Some.slot.bytes.items = rw c.as_slice-then-not-is_failing.ensures.value at c.in-Some.ensures.1 in
    rw (c.in-Some-place.ensures.item, file_of_found c.args.name.now c.args.self.now.held.items _ there) (left-last c.args.self.now.opened.items c.in-Some.slot c.in-Some-place.number c.in-Some-place.ensures.number c.in-Some.ensures.0)

pub returns-in-Some-place-clause-others : goal.returns-in-Some-place-clause-others
returns-in-Some-place-clause-others c = λ other ne.
    rw c.in-Some-place.ensures.item (left-push c.args.self.now.opened.items c.in-Some.slot c.in-Some-place.number other c.in-Some-place.ensures.number ne)
