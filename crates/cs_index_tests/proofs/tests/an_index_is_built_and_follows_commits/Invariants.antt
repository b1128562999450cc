use Rattle.cs_index_tests.proofs.tests.an_index_is_built_and_follows_commits.Given as goal

abbrev pub ghosts-seen : goal.ghosts-seen
ghosts-seen g a = record { name = a.blank.name; parts = a.blank.parts }
