-- A data file that loads gives a held dataset.
use Rattle.std.proofs.Common.{◌≡◌, ◌≢◌, ◌≤◌, ℕ, ◌+◌, ◌==◌, List, [], ◌∷◌, length, nat_le, true, false, cond, Option, Some, None, Ordering, Less, Equal, Greater, refl, ap, subst, ◌∙◌, arith}
use Rattle.std.specs.Prelude.{⊤}
use Rattle.std.specs.FinMap.Entries.{by_order}
use Rattle.std.proofs.lemmas.Bool.{eqb-false}
use Rattle.cs_value.specs.Tree.{Tree}
use Rattle.cs_view.specs.Document.{is_body, is_shallow, is_document, id_of, deepest_document}
use Rattle.cs_view.specs.Dataset.{id_cmp, is_dataset, stands, with_doc}
use Rattle.cs_view.proofs.Datasets.{dataset-placed}
use Rattle.cs_io.specs.Lines.{Feed, End, LineTooLong, SourceTooMuch, More, feed_of}
use Rattle.cs_json.specs.Reading.{Outcome, not_json, too_deep, not_whole, value, outcome, of_reading, of_whole, whole, reading}
use Rattle.cs_json.proofs.Sounds.{whole-depth}
use Rattle.cs_docs.specs.Laws.{NoneDanglesWhereClean}
use Rattle.cs_docs.specs.Limits.{most_documents}
use Rattle.cs_docs.specs.References.{first_dangling}
use Rattle.cs_reply.specs.Stated.{no_document, repeated, full}
use Rattle.serde_json.specs.Data.{Data, depth as data_depth}
use Rattle.cs_machine.specs.DataFile.{imported, Said, nothing, a_document, refused, of_body, of_outcome, said, Loaded, dataset, of_references, after_said, loaded_from}
use Rattle.cs_machine.specs.Laws.{IsHeld, LoadedDatasetsAreHeld}
use Rattle.cs_wire.specs.Blank.{is_blank_line}
use Rattle.cs_machine.proofs.Imported.{imported-document}
use Rattle.cs_machine.proofs.Steps.{either}

-- ---- values of a line are shallow
abbrev IsShallowOutcome : Outcome → Type 0
IsShallowOutcome o = (t : Tree) → o ≡ value t → is_shallow t ≡ true

whole_shallow : (d : Data) (o : Option Tree) → whole d ≡ o
    → nat_le (data_depth d) deepest_document ≡ true → IsShallowOutcome (of_whole o)
whole_shallow d None e h t is = absurd cc
whole_shallow d (Some u) e h t is =
    let same : u ≡ t = cc in
    let deep = whole-depth d u e in
    subst (λ v. is_shallow v ≡ true) same (ap (λ n. nat_le n deepest_document) deep ∙ h)

reading_shallow : (r : Option Data) → IsShallowOutcome (of_reading deepest_document r)
reading_shallow None = λ t is. absurd cc
reading_shallow (Some d) =
    either IsShallowOutcome (nat_le (data_depth d) deepest_document) (of_whole (whole d)) too_deep
    (λ h. whole_shallow d (whole d) refl h) (λ h t is. absurd cc)

outcome_shallow : (line : List ℕ) → IsShallowOutcome (outcome deepest_document line)
unfolding outcome
outcome_shallow line = reading_shallow (reading line)

-- ---- what a line says
-- a document that there is room for
abbrev Fits : List Tree → Said → Type 0
Fits docs nothing = ⊤
Fits docs (a_document d) = (is_document d ≡ true) × (length docs + 1 ≤ most_documents)
Fits docs (refused cause) = ⊤

room : (n : ℕ) → n ≤ most_documents → (n == most_documents) ≡ false → n + 1 ≤ most_documents
room n h ne =
    let differ : n ≢ most_documents = eqb-false n most_documents ne in
    omega (arith, h, differ)

body_fits : (docs : List Tree) (t : Tree) → length docs ≤ most_documents → is_shallow t ≡ true
    → Fits docs (of_body docs t)
body_fits docs t within shallow =
    either (Fits docs) (is_body t)
    (cond (stands (id_of t) docs) (refused (repeated (id_of t)))
    (cond (length docs == most_documents) (refused full) (a_document (imported t))))
    (refused no_document)
    (λ body. either (Fits docs) (stands (id_of t) docs) (refused (repeated (id_of t)))
    (cond (length docs == most_documents) (refused full) (a_document (imported t)))
    (λ there. tt)
    (λ new. either (Fits docs) (length docs == most_documents) (refused full)
    (a_document (imported t)) (λ none. tt)
    (λ some. (imported-document t body shallow, room (length docs) within some))))
    (λ no. tt)

outcome_fits : (docs : List Tree) (o : Outcome) → length docs ≤ most_documents
    → IsShallowOutcome o → Fits docs (of_outcome docs o)
outcome_fits docs not_json within h = tt
outcome_fits docs too_deep within h = tt
outcome_fits docs not_whole within h = tt
outcome_fits docs (value t) within h = body_fits docs t within (h t refl)

said_fits : (docs : List Tree) (line : List ℕ) → length docs ≤ most_documents
    → Fits docs (said docs line)
unfolding said
said_fits docs line within =
    either (Fits docs) (is_blank_line line) nothing (of_outcome docs (outcome deepest_document line))
    (λ blank. tt)
    (λ some. outcome_fits docs (outcome deepest_document line) within (outcome_shallow line))

-- ---- the documents so far
longer_by : (o : Ordering) (d e : Tree) (es fs : List Tree) → length fs ≤ length es + 1
    → length (by_order o (d ∷ e ∷ es) (d ∷ es) (e ∷ fs)) ≤ length (e ∷ es) + 1
longer_by Less d e es fs h = omega arith
longer_by Equal d e es fs h = omega arith
longer_by Greater d e es fs h = omega (arith, h)

one_longer : (d : Tree) (docs : List Tree) → length (with_doc d docs) ≤ length docs + 1
one_longer d [] = omega arith
one_longer d (e ∷ es) =
    longer_by (id_cmp (id_of d) (id_of e)) d e es (with_doc d es) (one_longer d es)

-- a dataset within the limit
abbrev IsSoFar : List Tree → Type 0
IsSoFar docs = (is_dataset docs ≡ true) × (length docs ≤ most_documents)

with_one : (d : Tree) (docs : List Tree) → IsSoFar docs → Fits docs (a_document d)
    → IsSoFar (with_doc d docs)
with_one d docs h fits =
    let longer = one_longer d docs in
    let space = fits.1 in (
      dataset-placed (id_of d) (Some d) docs fits.0 h.0,
      omega (arith, longer, space),
    )

-- ---- the end
abbrev Gives : Loaded → Type 0
Gives l = (docs : List Tree) → l ≡ dataset docs → IsHeld docs

end_gives : NoneDanglesWhereClean → (docs : List Tree) → IsSoFar docs
    → (o : Option (List ℕ × List ℕ)) → first_dangling docs ≡ o → Gives (of_references docs o)
end_gives law docs h None none out is =
    let same : docs ≡ out = cc in
    subst IsHeld same (h.0, (law docs).0 none, h.1)
end_gives law docs h (Some pair) some out is = absurd cc

said_gives : (s : Said) (next : List Tree → Loaded) (docs : List Tree) (n : ℕ) → IsSoFar docs
    → Fits docs s → ((ds : List Tree) → IsSoFar ds → Gives (next ds))
    → Gives (after_said s next docs n)
said_gives nothing next docs n h fits g = g docs h
said_gives (a_document d) next docs n h fits g = g (with_doc d docs) (with_one d docs h fits)
said_gives (refused cause) next docs n h fits g = λ out is. absurd cc

feed_gives : NoneDanglesWhereClean → (f : Feed) (docs : List Tree) → IsSoFar docs
    → Gives (loaded_from f docs)
feed_gives law End docs h = end_gives law docs h (first_dangling docs) refl
feed_gives law (LineTooLong n) docs h = λ out is. absurd cc
feed_gives law (SourceTooMuch n) docs h = λ out is. absurd cc
feed_gives law (More n line rest) docs h =
    said_gives (said docs line) (loaded_from rest) docs n h (said_fits docs line h.1)
    (feed_gives law rest)

pub loaded-held : NoneDanglesWhereClean → LoadedDatasetsAreHeld
loaded-held law bytes = feed_gives law (feed_of bytes) [] (refl, omega arith)
