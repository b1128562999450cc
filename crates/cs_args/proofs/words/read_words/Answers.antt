use Rattle.std.proofs.Common.{◌∙◌, sym, refl}
use Rattle.std.specs.Str.Parse.{ParsesUnsigned, ExplainsUnsignedError, HasUnsignedDigitsIfOk}
use Rattle.std.proofs.lemmas.List.{map-id}
use Rattle.clap.specs.Words.{app_of, found_of}
use Rattle.cs_args.proofs.Numbers.{number_read}
use Rattle.cs_args.proofs.Wording.{words_taken, words_refused, words_data, words_script, words_number}
use Rattle.cs_args.proofs.words.read_words.Goals as goal

pub returns-in-Some-clause-taken : goal.returns-in-Some-clause-taken
returns-in-Some-clause-taken c =
    words_taken (app_of c.in-Ok.command) c.args.words.now _ c.in-Ok.ensures (map-id c.args.words.now) c.in-Ok-try_get_matches_from.ensures.kinds

pub returns-in-Some-clause-asked : goal.returns-in-Some-clause-asked
returns-in-Some-clause-asked c =
    let m = c.in-Ok-try_get_matches_from.matches in
    let read = number_read _ (λ bs r. ParsesUnsigned 32 10 bs r × ExplainsUnsignedError 10 bs r × HasUnsignedDigitsIfOk bs r) c.in-Ok.command m c.get_one.result c.in-Ok-try_get_matches_from.ensures.parsed c.in-Ok.ensures c.get_one.ensures.none c.get_one.ensures.value (λ u x g. g.0) in
    let number = words_number (app_of c.in-Ok.command) c.args.words.now _ (found_of m).entries.items c.get_one.result c.in-Ok.ensures (map-id c.args.words.now) (λ s. (c.in-Ok-try_get_matches_from.ensures.matches s).0) read in
    (sym number.0 ∙ c.in-Some.is, rw c.in-Some.is at number.1)

pub returns-in-Ok-try_get_matches_from-clause-taken :
    goal.returns-in-Ok-try_get_matches_from-clause-taken
returns-in-Ok-try_get_matches_from-clause-taken c =
    words_taken (app_of c.in-Ok.command) c.args.words.now _ c.in-Ok.ensures (map-id c.args.words.now) c.in-Ok-try_get_matches_from.ensures.kinds

pub returns-in-Ok-try_get_matches_from-clause-asked :
    goal.returns-in-Ok-try_get_matches_from-clause-asked
returns-in-Ok-try_get_matches_from-clause-asked c =
    let m = c.in-Ok-try_get_matches_from.matches in
    let read = number_read _ (λ bs r. ParsesUnsigned 32 10 bs r × ExplainsUnsignedError 10 bs r × HasUnsignedDigitsIfOk bs r) c.in-Ok.command m c.get_one.result c.in-Ok-try_get_matches_from.ensures.parsed c.in-Ok.ensures c.get_one.ensures.none c.get_one.ensures.value (λ u x g. g.0) in
    let number = words_number (app_of c.in-Ok.command) c.args.words.now _ (found_of m).entries.items c.get_one.result c.in-Ok.ensures (map-id c.args.words.now) (λ s. (c.in-Ok-try_get_matches_from.ensures.matches s).0) read in
    let file = words_data (app_of c.in-Ok.command) c.args.words.now _ (found_of m).entries.items c.get_str.result c.in-Ok.ensures (map-id c.args.words.now) (λ s. (c.in-Ok-try_get_matches_from.ensures.matches s).0) c.get_str.ensures in
    let script = words_script (app_of c.in-Ok.command) c.args.words.now _ (found_of m).entries.items c.get_str-in-None.result _ c.unwrap_or.result c.in-Ok.ensures (map-id c.args.words.now)
    (λ s. (c.in-Ok-try_get_matches_from.ensures.matches s).0) c.get_str-in-None.ensures c.unwrap_or.ensures refl in
    (sym number.0 ∙ c.in-None.is, file, script)

pub returns-clause-taken : goal.returns-clause-taken
returns-clause-taken c =
    words_refused (app_of c.in-Ok.command) c.args.words.now _ c.in-Err.error c.in-Ok.ensures (map-id c.args.words.now) c.in-Err.ensures.kinds (λ e. c.in_default-kind.not-OutOfMemory (c.kind.ensures ∙ e))
