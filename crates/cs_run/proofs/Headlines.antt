-- The headline of a run from that of its script.
use Rattle.std.proofs.Common.{◌≡◌, ◌∙◌, ap, sym, refl, ℕ, List, [], ◌∷◌, ◌++◌, drop, length, ◌-◌, arith, true, false, Option, None, Some, Ok, inl, inr, append_assoc}
use Rattle.std.proofs.Math.Seq.{drop-append_seam}
use Rattle.std.proofs.lemmas.List.{append-nil}
use Rattle.std.proofs.lemmas.Bool.Decides.{nat_tests}
use Rattle.std.specs.Io.KnownBytes.{Appends}
use Rattle.std.proofs.Math.Bool.{or-true}
use Rattle.cs_io.specs.Bytes.{AppendsPartOf}
use Rattle.cs_io.specs.Names.{Files, told_bytes, is_open, number_is}
use Rattle.cs_io.specs.declared.library.Asked.{Asked}
use Rattle.cs_machine.specs.Expected.{Task, no_task, play, generate, begins, start_with}
use Rattle.cs_run.specs.Expected.{script_writes, first_replies, status_of, Causes}
use Rattle.cs_io.specs.Names.{file_bytes}
use Rattle.cs_run.specs.Headline.{ToldRun, RunWrites, GeneratedWrites, IsComplete, and_then_name, script_number, added, summary, task_of}
use Rattle.cs_machine.specs.State.{State, begun}
use Rattle.cs_run.specs.Script.{ScriptWrites, Stated, ToldWrites, ToldStarts, AsksNamed}
use Rattle.cs_docs.specs.Store.{docs}
use Rattle.cs_args.specs.Words.{takes_words, data_of, script_of, gen_of}
use Rattle.cs_docs.specs.declared.docs.Docs.{Docs}
use Rattle.cs_run.specs.declared.status.Status.{Status}
use Rattle.cs_run.specs.declared.status.Status.TheVariants.{Done, ReadFault, Usage, Data, Input, WriteFault, NoMemory, OpenFault}
use Rattle.cs_run.proofs.Playing.{front_replies, part_of}

pub is_open-added : (asked : List Asked) (a : Asked) (n : ℕ) → a.number ≡ Some n → is_open (asked ++ a ∷ []) n ≡ true
is_open-added [] a n e = rw e (grind (arith, nat_tests))
is_open-added (b ∷ asked) a n e = rw (is_open-added asked a n e) (or-true (number_is b.number n))

-- what was asked for in the call: the data file's name, where there is one, and then the script's
pub number_from : (name : Option (List ℕ)) (script : List ℕ) (d : Docs) (old mid new : List Asked) (number : ℕ) → AsksNamed name (Ok d) old mid → new ≡ mid ++ record { name = script; number = Some number } ∷ []
    → script_number (and_then_name name script) (added old new) ≡ Some number
number_from None script d old mid new number h is =
    let all : new ≡ old ++ record { name = script; number = Some number } ∷ [] = is ∙ ap (λ v. v ++ record { name = script; number = Some number } ∷ []) h in
    let got : added old new ≡ record { name = script; number = Some number } ∷ [] = ap (drop (length old)) all ∙ drop-append_seam old _ in
    rw got refl
number_from (Some name) script d old mid new number h is =
    let both = record { name = name; number = Some h.0 } ∷ record { name = script; number = Some number } ∷ [] in
    let all : new ≡ old ++ both = is ∙ ap (λ v. v ++ record { name = script; number = Some number } ∷ []) h.1 ∙ append_assoc old _ _ in
    let got : added old new ≡ both = ap (drop (length old)) all ∙ drop-append_seam old both in
    rw got refl

part_nil : (new : Option (List ℕ)) → AppendsPartOf new new []
part_nil None = tt
part_nil (Some xs) = let none : length xs - length xs ≡ 0 = omega arith in rw none (sym (append-nil xs))

part_from : (old new : Option (List ℕ)) (p more all : List ℕ) → Appends old new p → all ≡ p ++ more → AppendsPartOf old new all
part_from old new p more all h e = part_of old new new p [] more all h (part_nil new) (rw (append-nil p) e)

script_run : (st : Status) (name : Option (List ℕ)) (script : List ℕ) (old new : Option (List ℕ)) (files : Files) (asked : List Asked) (left : ℕ → Option (List ℕ)) (number : ℕ) (s : State) (rest : List ℕ) → script_number (and_then_name name script) asked ≡ Some number → start_with name files ≡ begins s
    → left number ≡ Some rest → ScriptWrites s st old new (file_bytes files script) rest → RunWrites st (play name script) old new files asked left
script_run Done name script old new files asked left number s rest n b l h = (rw b (ap status_of h.0), rw b h.1, rw n (l ∙ ap Some h.2))
script_run Input name script old new files asked left number s rest n b l h = (rw b (ap status_of h.0), rw b h.1)
script_run ReadFault name script old new files asked left number s rest n b l h = rw (n, b, l) h
script_run WriteFault name script old new files asked left number s rest n b l h = rw b h
script_run NoMemory name script old new files asked left number s rest n b l h =
    let more = front_replies s h.0 (file_bytes files script) in
    (rw b (part_from old new (first_replies s h.0 (file_bytes files script)) more.0 (script_writes s (file_bytes files script)) h.2 more.1), rw b (inr h))
script_run Usage name script old new files asked left number s rest n b l h = absurd h
script_run Data name script old new files asked left number s rest n b l h = absurd h
script_run OpenFault name script old new files asked left number s rest n b l h = absurd h

by_rest : (st : Status) (name : Option (List ℕ)) (script : List ℕ) (old new : Option (List ℕ)) (files : Files) (asked : List Asked) (left : ℕ → Option (List ℕ)) (number : ℕ) (s : State) (rest : Option (List ℕ)) → script_number (and_then_name name script) asked ≡ Some number → start_with name files ≡ begins s
    → left number ≡ rest → ToldWrites s st old new (Some (file_bytes files script)) rest → RunWrites st (play name script) old new files asked left
by_rest st name script old new files asked left number s None n b l h = absurd h
by_rest st name script old new files asked left number s (Some rest) n b l h = script_run st name script old new files asked left number s rest n b l h

pub told_run : (st : Status) (name : Option (List ℕ)) (script : List ℕ) (old new : Option (List ℕ)) (files : Option Files) (asked : List Asked) (left : ℕ → Option (List ℕ)) (number : ℕ) (d : Docs) → script_number (and_then_name name script) asked ≡ Some number
    → ToldStarts (Ok d) name files → ToldWrites (begun (docs d)) st old new (told_bytes files script) (left number) → ToldRun st (play name script) old new files asked left
told_run st name script old new None asked left number d n b h = tt
told_run st name script old new (Some files) asked left number d n b h =
    by_rest st name script old new files asked left number (begun (docs d)) (left number) n b refl h

-- ---- a generated script
pub generated_writes : (n : ℕ) (st : Status) (old new : Option (List ℕ)) → Stated st Done (summary n) old new → GeneratedWrites n st old new
generated_writes n Done old new h = (h.whole (λ e. cc) (λ e. cc)).1
generated_writes n WriteFault old new h = h.part
generated_writes n NoMemory old new h = h.none refl
generated_writes n Usage old new h = let no = (h.whole (λ e. cc) (λ e. cc)).0 in cc
generated_writes n Data old new h = let no = (h.whole (λ e. cc) (λ e. cc)).0 in cc
generated_writes n Input old new h = let no = (h.whole (λ e. cc) (λ e. cc)).0 in cc
generated_writes n ReadFault old new h = let no = (h.whole (λ e. cc) (λ e. cc)).0 in cc
generated_writes n OpenFault old new h = let no = (h.whole (λ e. cc) (λ e. cc)).0 in cc

generated_run : (n : ℕ) (st : Status) (old new : Option (List ℕ)) (files : Files) (asked : List Asked) (left : ℕ → Option (List ℕ)) → GeneratedWrites n st old new → RunWrites st (generate n) old new files asked left
generated_run n Done old new files asked left h = (refl, h, tt)
generated_run n WriteFault old new files asked left h = h
generated_run n NoMemory old new files asked left h = (part_from old new [] (summary n) (summary n) h refl, h)
generated_run n Usage old new files asked left h = absurd h
generated_run n Data old new files asked left h = absurd h
generated_run n Input old new files asked left h = absurd h
generated_run n ReadFault old new files asked left h = absurd h
generated_run n OpenFault old new files asked left h = absurd h

pub told_generated : (n : ℕ) (st : Status) (old new : Option (List ℕ)) (files : Option Files) (asked : List Asked) (left : ℕ → Option (List ℕ)) → GeneratedWrites n st old new → ToldRun st (generate n) old new files asked left
told_generated n st old new None asked left h = tt
told_generated n st old new (Some files) asked left h = generated_run n st old new files asked left h

-- ---- what the words ask for
pub task_played : (words : List (List ℕ)) (name : Option (List ℕ)) (script : List ℕ) → takes_words words ≡ true → gen_of words ≡ None → name ≡ data_of words → script ≡ script_of words → task_of words ≡ play name script
task_played words name script taken none n s = rw (taken, none, n, s) refl

pub task_generated : (words : List (List ℕ)) (n : ℕ) → takes_words words ≡ true → gen_of words ≡ Some n → task_of words ≡ generate n
task_generated words n taken some = rw (taken, some) refl

pub task_refused : (words : List (List ℕ)) → takes_words words ≡ false → task_of words ≡ no_task
task_refused words refused = rw refused refl

complete : (st : Status) (task : Task) (old new : Option (List ℕ)) (files : Files) (asked : List Asked) (left : ℕ → Option (List ℕ)) (opens opens' reads reads' writes writes' : ℕ) → RunWrites st task old new files asked left → Causes st opens opens' reads reads' writes writes'
    → IsComplete st task (Some files) opens opens' reads reads' writes writes'
complete Done task old new files asked left o o' r r' w w' h c = λ no nr nw. inl (sym h.0)
complete Usage task old new files asked left o o' r r' w w' h c = λ no nr nw. inl (sym h.0)
complete Data task old new files asked left o o' r r' w w' h c = λ no nr nw. inl (sym h.0)
complete Input task old new files asked left o o' r r' w w' h c = λ no nr nw. inl (sym h.0)
complete ReadFault task old new files asked left o o' r r' w w' h c = λ no nr nw. absurd (nr (c.read refl))
complete OpenFault task old new files asked left o o' r r' w w' h c = λ no nr nw. absurd (no (c.opened refl))
complete WriteFault task old new files asked left o o' r r' w w' h c = λ no nr nw. absurd (nw (c.written refl))
complete NoMemory task old new files asked left o o' r r' w w' h c = λ no nr nw. inr refl

-- completeness from what was written and the causes
pub completes : (st : Status) (task : Task) (old new : Option (List ℕ)) (files : Option Files) (asked : List Asked) (left : ℕ → Option (List ℕ)) (opens opens' reads reads' writes writes' : ℕ) → ToldRun st task old new files asked left → Causes st opens opens' reads reads' writes writes'
    → IsComplete st task files opens opens' reads reads' writes writes'
completes st task old new None asked left o o' r r' w w' h c = tt
completes st task old new (Some files) asked left o o' r r' w w' h c = complete st task old new files asked left o o' r r' w w' h c
