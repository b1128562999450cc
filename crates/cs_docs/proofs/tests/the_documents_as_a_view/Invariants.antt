use Rattle.cs_docs.proofs.tests.the_documents_as_a_view.Given as goal

abbrev pub ghosts-seen : goal.ghosts-seen
ghosts-seen g a = record { name = a.blank.name; parts = a.blank.parts }
