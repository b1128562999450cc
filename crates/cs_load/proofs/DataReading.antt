-- How far the reading of a data file has come, where its bytes are told.
use Rattle.std.proofs.Common.{Result, ◌≡◌, ◌∙◌, ap, sym, refl, subst, ℕ, List, [], ◌∷◌, ◌++◌, ◌+◌, Option, None, Some, Ok, Err, true, false, ◌||◌, ◌==◌, arith}
use Rattle.std.proofs.lemmas.Bool.Decides.{nat_tests}
use Rattle.std.specs.Prelude.{Vec}
use Rattle.std.specs.Result.{IsErrAnd}
use Rattle.cs_value.specs.Tree.{Tree}
use Rattle.cs_io.specs.Lines.{feed}
use Rattle.cs_io.specs.Reader.{Reader, feed_at, rest_at}
use Rattle.cs_io.specs.Names.{is_open, number_is}
use Rattle.cs_io.specs.Next.{Gives}
use Rattle.cs_io.specs.declared.library.Asked.{Asked}
use Rattle.cs_io.specs.declared.lines.Line.{Line}
use Rattle.cs_io.specs.declared.lines.LineFault.{LineFault}
use Rattle.cs_io.specs.declared.lines.LineFault.TheVariants as line
use Rattle.cs_machine.specs.DataFile.{Said, nothing, a_document, said, Loaded, of_references, after_said, loaded_from, loaded}
use Rattle.cs_io.proofs.Feeds.{given_line, given_end, given_long, given_much}
use Rattle.cs_machine.specs.DataFile as file
use Rattle.cs_load.specs.Loading.{Loads}
use Rattle.cs_load.specs.Reads.{of_line_fault, of_refusal, ReadsAs, ToldRead}
use Rattle.cs_docs.specs.References.{first_dangling}
use Rattle.cs_load.specs.Refusals.{IsRefused}
use Rattle.cs_load.specs.Taking.{IsTaken}
use Rattle.std.specs.declared.alloc.Global.{Global}
use Rattle.cs_view.specs.declared.doc.Doc.{Doc}
use Rattle.cs_load.specs.declared.fault.LoadFault.{LoadFault}
use Rattle.cs_load.specs.declared.refusal.LineRefusal.{LineRefusal}
use Rattle.cs_load.specs.declared.refusal.LineRefusal.TheVariants as refusal

-- the outcome is what these documents and the lines from here on make
pub record Reads (bytes : List ℕ) (ds : List Tree) (r : Reader) (left : Option (List ℕ)) : Type 0 where
  pub rest : List ℕ
  pub rest_is : rest_at r left ≡ Some rest
  pub goes : loaded bytes ≡ loaded_from (feed (r.given + 1) r.taken [] rest) ds

pub begun : (bytes : List ℕ) (ds : List Tree) (r : Reader) → r.given ≡ 0 → r.taken ≡ 0 → r.ahead ≡ [] → ds ≡ [] → Reads bytes ds r (Some bytes)
begun bytes ds r g t a d = record {
  rest = bytes;
  rest_is = rw a refl;
  goes = rw (g, t, d) refl;
}

taken : (s : Said) (next : List Tree → Loaded) (ds ds' : List Tree) (n : ℕ) → IsTaken s ds ds' → after_said s next ds n ≡ next ds'
taken nothing next ds ds' n h = ap next (sym h)
taken (a_document d) next ds ds' n h = ap next (sym h)
taken (file.refused cause) next ds ds' n h = absurd h

-- one line more
pub went : (bytes : List ℕ) (ds ds' : List Tree) (r r' : Reader) (left left' : Option (List ℕ)) (l : Line) → Reads bytes ds r left → Gives (Ok (Some l)) (feed_at r left) (feed_at r' left') → IsTaken (said ds l.bytes.items) ds ds' → Reads bytes ds' r' left'
went bytes ds ds' r r' left left' l p gives is =
    let z = given_line r r' left left' p.rest p.rest_is l gives in
    let more = feed (r'.given + 1) r'.taken [] z.0 in
    record {
      rest = z.0;
      rest_is = z.1;
      goes = p.goes ∙ ap (λ f. loaded_from f ds) z.2 ∙ taken (said ds l.bytes.items) (loaded_from more) ds ds' l.number is;
    }

-- the ends of a reading
pub ended : (bytes : List ℕ) (ds : List Tree) (r r' : Reader) (left left' : Option (List ℕ)) → Reads bytes ds r left → Gives (Ok None) (feed_at r left) (feed_at r' left') → loaded bytes ≡ of_references ds (first_dangling ds)
ended bytes ds r r' left left' p gives =
    p.goes ∙ ap (λ f. loaded_from f ds) (given_end r r' left left' p.rest p.rest_is gives)

pub refused_there : (bytes : List ℕ) (ds : List Tree) (r r' : Reader) (left left' : Option (List ℕ)) (l : Line) (why : LineRefusal) → Reads bytes ds r left → Gives (Ok (Some l)) (feed_at r left) (feed_at r' left') → IsRefused why (said ds l.bytes.items) → Loads (Err (of_refusal l.number why)) (loaded bytes)
refused_there bytes ds r r' left left' l refusal.NoMemory p gives is = tt
refused_there bytes ds r r' left left' l (refusal.Cause cause) p gives is =
    let z = given_line r r' left left' p.rest p.rest_is l gives in
    let more = feed (r'.given + 1) r'.taken [] z.0 in
    p.goes ∙ ap (λ f. loaded_from f ds) z.2 ∙ ap (λ s. after_said s (loaded_from more) ds l.number) is

pub failed_there : (bytes : List ℕ) (ds : List Tree) (r r' : Reader) (left left' : Option (List ℕ)) (why : LineFault) → Reads bytes ds r left → Gives (Err why) (feed_at r left) (feed_at r' left') → Loads (Err (of_line_fault why)) (loaded bytes)
failed_there bytes ds r r' left left' line.Read p gives = tt
failed_there bytes ds r r' left left' line.NoMemory p gives = tt
failed_there bytes ds r r' left left' (line.TooLong n) p gives =
    p.goes ∙ ap (λ f. loaded_from f ds) (given_long r r' left left' p.rest p.rest_is n gives)
failed_there bytes ds r r' left left' (line.TooMuch n) p gives =
    p.goes ∙ ap (λ f. loaded_from f ds) (given_much r r' left left' p.rest p.rest_is n gives)

pub failed_read : (r : Result (Vec Doc Global) LoadFault) (why : LineFault) (outcome : Loaded) → IsErrAnd r (λ e. e ≡ of_line_fault why) → Loads (Err (of_line_fault why)) outcome → ReadsAs r outcome
failed_read (Ok d) why outcome is h = absurd is
failed_read (Err e) why outcome is h = subst (λ f. Loads (Err f) outcome) (sym is) h

pub told_read : (r : Result (Vec Doc Global) LoadFault) (left : Option (List ℕ)) → ((bytes : List ℕ) → left ≡ Some bytes → ReadsAs r (loaded bytes)) → ToldRead r left
told_read r None f = tt
told_read r (Some bytes) f = f bytes refl

-- the number that was answered last is open
pub open_last : (asked : List Asked) (name : List ℕ) (n : ℕ) → is_open (asked ++ record { name = name; number = Some n } ∷ []) n ≡ true
open_last [] name n = let own : (n == n) ≡ true = grind (arith, nat_tests) in rw own refl
open_last (a ∷ asked) name n = elim (number_is a.number n) as (λ b. (b || is_open (asked ++ record { name = name; number = Some n } ∷ []) n) ≡ true) [ true ↦ refl | false ↦ open_last asked name n ]
