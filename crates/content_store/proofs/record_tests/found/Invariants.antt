use Rattle.content_store.proofs.record_tests.found.Given as goal

abbrev pub ghosts-touched : goal.ghosts-touched
ghosts-touched a = record { name = a.blank.name; parts = a.blank.parts }
