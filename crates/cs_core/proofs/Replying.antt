-- What a line that was answered does.
use Rattle.std.proofs.Common.{◌≡◌, ◌∙◌, ap, sym, refl, ℕ, List, [], ◌∷◌, ◌++◌, true, false, ◌≤◌, Option, None, Some, IfSome, option_and_then, arith}
use Rattle.std.proofs.lemmas.List.{append-nil}
use Rattle.cs_syntax.specs.Expression.{Expression}
use Rattle.cs_json.specs.Reading.{outcome}
use Rattle.cs_parse.specs.Verdict.{Reading, query, bad_token, too_deep, no_syntax, faulty, verdict}
use Rattle.cs_wire.specs.Commands.{Request}
use Rattle.cs_wire.specs.Commands as request
use Rattle.cs_wire.specs.Within.{IsWithin}
use Rattle.cs_reply.specs.Reply as plain
use Rattle.cs_reply.specs.Refusal.{Refusal, deep_query, syntax, bad_token as bad_token_at}
use Rattle.cs_reply.specs.View.{Appended}
use Rattle.cs_machine.specs.Causes.{of_fault, why_none}
use Rattle.cs_machine.specs.Fold.{Stepped}
use Rattle.cs_wire.specs.Blank.{is_blank_line}
use Rattle.cs_machine.specs.Machine.{deepest_line, heard, step}
use Rattle.cs_machine.specs.Refused.{refuse, by_reading, with_query}
use Rattle.cs_machine.specs.Replies.{reply_lines, numbered, said}
use Rattle.cs_machine.specs.State.{State}
use Rattle.cs_machine.specs.Rows.{row}
use Rattle.cs_gen.specs.Tally.{IsTally}
use Rattle.cs_gen.specs.declared.tally.Tally.{Tally}
use Rattle.cs_core.specs.Core.{state, IsUsable}
use Rattle.cs_core.specs.Does.{Does}
use Rattle.cs_core.specs.declared.machine.Core.{Core}

one_line : (n : ℕ) (r : plain.Reply)
    → reply_lines (numbered n (said r ∷ [])) ≡ plain.written_line (plain.reply_tree n r)
one_line n r = append-nil (plain.written_line (plain.reply_tree n r))

-- a reply alone was written
pub says : (before after : List ℕ) (tally : Tally) (core : Core) (t : State) (n : ℕ)
    (r : plain.Reply)
    → state core ≡ t
    → IsUsable core
    → IsTally tally (r ∷ [])
    → Appended before after (plain.reply_tree n r)
    → Does before after tally core n (record { state = t; replies = said r ∷ [] })
says before after tally core t n r e usable tallied h =
    record {
      written = h ∙ ap (λ v. before ++ v) (sym (one_line n r));
      tallied = tallied;
      state_is = e;
      usable = usable;
    }

-- nothing is said, and nothing changes
pub silent : (before : List ℕ) (tally : Tally) (core : Core) (n : ℕ)
    → IsUsable core
    → IsTally tally []
    → Does before before tally core n (record { state = state core; replies = [] })
silent before tally core n usable tallied =
    record {
      written = sym (append-nil before);
      tallied = tallied;
      state_is = refl;
      usable = usable;
    }

pub step_blank : (s : State) (n : ℕ) (line : List ℕ)
    → is_blank_line line ≡ true
    → step s n line ≡ record { state = s; replies = [] }
unfolding step
step_blank s n line b = rw b refl

pub step_heard : (s : State) (n : ℕ) (line : List ℕ)
    → is_blank_line line ≡ false
    → step s n line ≡ heard row s n (outcome deepest_line line)
unfolding step
step_heard s n line b = rw b refl

by_why : (s : State) (next : Expression → Stepped State) (r : Reading) (w : Refusal)
    → Some w ≡ why_none r
    → by_reading s r next ≡ refuse s w
by_why s next (query e) w h = cc
by_why s next (bad_token at) w h = let same : w ≡ bad_token_at at = cc in rw same refl
by_why s next too_deep w h = let same : w ≡ deep_query = cc in rw same refl
by_why s next no_syntax w h = let same : w ≡ syntax = cc in rw same refl
by_why s next (faulty f) w h = let same : w ≡ of_fault f = cc in rw same refl

-- a text is no query, for what is told of its reading
pub refused_text : (s : State) (text : List ℕ) (next : Expression → Stepped State)
    (told : Option Reading) (w : Refusal)
    → IfSome told (λ r. verdict text ≡ r)
    → Some w ≡ option_and_then why_none told
    → with_query s text next ≡ refuse s w
refused_text s text next None w h e = cc
refused_text s text next (Some r) w h e = ap (λ v. by_reading s v next) h ∙ by_why s next r w e

-- it is one
pub read_text : (s : State) (text : List ℕ) (next : Expression → Stepped State) (e : Expression)
    → verdict text ≡ query e
    → with_query s text next ≡ next e
read_text s text next e h = ap (λ v. by_reading s v next) h

-- a bound on a request's texts, from a lower one
pub within_more : (m n : ℕ) (r : Request) → m ≤ n → IsWithin m r → IsWithin n r
within_more m n (request.mutate body) le h = omega (arith, le, h)
within_more m n (request.query text params) le h = (omega (arith, le, h.0), omega (arith, le, h.1))
within_more m n (request.live name text params) le h = (omega (arith, le, h.0), omega (arith, le, h.1), omega (arith, le, h.2))
within_more m n (request.listen name text params result previous) le h = (omega (arith, le, h.0), omega (arith, le, h.1), omega (arith, le, h.2))
within_more m n (request.stop name) le h = omega (arith, le, h)
within_more m n (request.at moment) le h = omega (arith, le, h)
