-- How far a run over a script has come, where its bytes are told.
use Rattle.std.proofs.Common.{Result, subst, ◌≡◌, ◌∙◌, ap, sym, refl, ℕ, suc, List, [], ◌∷◌, ◌++◌, take, drop, length, ◌+◌, ◌-◌, ◌≤◌, append_assoc, arith, Bool, true, false, Option, None, Some, Ok, Err, length-append}
use Rattle.std.proofs.lemmas.List.{append-nil, take_at, take_all, take-append-drop, length-drop}
use Rattle.std.specs.Io.KnownBytes.{Appends}
use Rattle.cs_io.specs.Bytes.{AppendsPartOf}
use Rattle.cs_io.specs.Lines.{Feed, LineTooLong, SourceTooMuch, More, feed, feed_of, whole_lines}
use Rattle.cs_io.specs.Reader.{Reader, InStep, feed_at, rest_at}
use Rattle.cs_io.specs.Next.{Gives, Texts}
use Rattle.cs_io.specs.declared.lines.Line.{Line}
use Rattle.cs_io.specs.declared.lines.LineFault.{LineFault}
use Rattle.cs_io.specs.declared.lines.LineFault.TheVariants.{Read, TooLong, TooMuch}
use Rattle.cs_io.specs.Laws.{given_lines}
use Rattle.std.specs.Io.KnownBytes.{Keeps}
use Rattle.cs_machine.specs.Machine.{written, state_after}
use Rattle.cs_core.specs.Does.{step_state, step_writes}
use Rattle.cs_machine.specs.State.{State}
use Rattle.cs_machine.specs.Expected.{bad_input, feed_ends, last_line, script_ends}
use Rattle.cs_run.specs.Expected.{script_writes, first_replies}
use Rattle.cs_run.specs.Script.{ScriptWrites, ToldWrites, LineStops, Stated}
use Rattle.cs_run.specs.declared.status.Status.{Status}
use Rattle.cs_run.specs.declared.status.Status.TheVariants as status
use Rattle.cs_reply.specs.Stated.{stated_line, long_line, much, script as script_source}
use Rattle.cs_io.proofs.Feeds.{given_line, given_told, given_end, given_long, given_much, left_from_rest, texts_more, texts_end, texts_read, whole_line, whole_plain}
use Rattle.cs_core.specs.Laws.{SimpleLinesKeepLivesSimple}
use Rattle.cs_core.specs.Visits.{CostsAtMost, is_simple_line, line_cost}
use Rattle.cs_live.specs.Lives.{are_simple_lives}
use Rattle.cs_run.specs.Visits.{are_simple_lines, lines_cost}
use Rattle.cs_run.proofs.Costing.{cost_taken, spent_more}
use Rattle.cs_run.proofs.Folding.{next_of, state_push, written_append, written_push}

-- the script is some bytes and the rest, and those are these whole lines
pub record Cuts (script rest : List ℕ) (lines : List (List ℕ)) : Type 0 where
  pub front : List ℕ
  pub script_is : script ≡ front ++ rest
  pub whole : (p : List ℕ) → whole_lines (front ++ p) ≡ lines ++ whole_lines p

pub record Played (s0 : State) (script : List ℕ) (old now : Option (List ℕ)) (state : State) (r : Reader) (left : Option (List ℕ)) : Type 0 where
  pub rest : List ℕ
  pub rest_is : rest_at r left ≡ Some rest
  pub lines : drop r.given (given_lines (feed_of script)) ≡ given_lines (feed (r.given + 1) r.taken [] rest)
  pub within : r.given ≤ length (given_lines (feed_of script))
  pub ends : script_ends script ≡ feed_ends (feed (r.given + 1) r.taken [] rest)
  pub last : last_line (feed_of script) ≡ last_line (feed (r.given + 1) r.taken [] rest)
  pub state_is : state ≡ state_after s0 1 (take r.given (given_lines (feed_of script)))
  pub wrote : Appends old now (first_replies s0 r.given script)
  pub cuts : r.ended ≡ false → Cuts script rest (take r.given (given_lines (feed_of script)))

appends_none : (a : Option (List ℕ)) → Appends a a []
appends_none None = tt
appends_none (Some xs) = sym (append-nil xs)

appends_both : (a b c : Option (List ℕ)) (p q : List ℕ) → Appends a b p → Appends b c q → Appends a c (p ++ q)
appends_both None b c p q h k = tt
appends_both (Some xs) None c p q h k = absurd h
appends_both (Some xs) (Some ys) None p q h k = absurd k
appends_both (Some xs) (Some ys) (Some zs) p q h k = k ∙ ap (λ v. v ++ q) h ∙ append_assoc xs p q

-- at the beginning
pub begins : (s0 : State) (script : List ℕ) (old : Option (List ℕ)) (s : State) (r : Reader) → s ≡ s0 → r.given ≡ 0 → r.taken ≡ 0 → r.ahead ≡ [] → Played s0 script old old s r (Some script)
begins s0 script old s r e g t a = record {
  rest = script;
  rest_is = rw a refl;
  lines = rw (g, t) refl;
  within = rw g (omega arith);
  ends = rw (g, t) refl;
  last = rw (g, t) refl;
  state_is = rw g e;
  wrote = rw g (appends_none old);
  cuts = λ _. record { front = []; script_is = refl; whole = rw g (λ p. refl) };
}

-- how a run has ended, and what is left of its script
pub record Ends (s0 : State) (st : Status) (script : List ℕ) (old new left : Option (List ℕ)) : Type 0 where
  pub rest : List ℕ
  pub rest_is : left ≡ Some rest
  pub writes : ScriptWrites s0 st old new script rest

told_at : (s0 : State) (st : Status) (old new left0 left1 : Option (List ℕ)) → ((script : List ℕ) → left0 ≡ Some script → Ends s0 st script old new left1) → ToldWrites s0 st old new left0 left1
told_at s0 st old new None left1 f = tt
told_at s0 st old new (Some script) None f = let none = (f script refl).rest_is in cc
told_at s0 st old new (Some script) (Some z) f =
    let h = f script refl in
    let some = h.rest_is in
    let same : h.rest ≡ z = cc in
    subst (λ v. ScriptWrites s0 st old new script v) same h.writes

pub told_writes : {s0 : State} {st : Status} {old new left0 left1 : Option (List ℕ)} → ((script : List ℕ) → left0 ≡ Some script → Ends s0 st script old new left1) → ToldWrites s0 st old new left0 left1
told_writes {s0} {st} {old} {new} {left0} {left1} f = told_at s0 st old new left0 left1 f

-- nothing more is given: the lines so far are all
all_given : (k : ℕ) (lines : List (List ℕ)) → drop k lines ≡ [] → take k lines ≡ lines
all_given k lines e = take_all k lines (omega (arith, ap length e, length-drop k lines))

-- one line more
more_replies : (s0 : State) (k : ℕ) (s : State) (number : ℕ) (script line : List ℕ) (more : List (List ℕ)) → drop k (given_lines (feed_of script)) ≡ line ∷ more → s ≡ state_after s0 1 (take k (given_lines (feed_of script))) → number ≡ k + 1 → first_replies s0 (suc k) script ≡ first_replies s0 k script ++ step_writes s number line
more_replies s0 k s number script line more e st n =
    let nx = next_of k (given_lines (feed_of script)) line more e in
    let count : 1 + length (take k (given_lines (feed_of script))) ≡ number = omega (arith, nx.front) in
    let front = take k (given_lines (feed_of script)) in
    ap (λ v. written s0 1 v) nx.taken ∙ written_push s0 1 front line
    ∙ ap (λ m. written s0 1 front ++ step_writes (state_after s0 1 front) m line) count
    ∙ ap (λ v. written s0 1 front ++ step_writes v number line) (sym st)

-- the first replies stand at the front of what the script writes
pub front_replies : (s0 : State) (k : ℕ) (script : List ℕ) → (more : List ℕ) × (script_writes s0 script ≡ first_replies s0 k script ++ more)
front_replies s0 k script =
    let lines = given_lines (feed_of script) in
    let front = written s0 1 (take k lines) in
    let back = written (state_after s0 1 (take k lines)) (1 + length (take k lines)) (drop k lines) in
    let parts : written s0 1 lines ≡ front ++ back = ap (λ v. written s0 1 v) (sym (take-append-drop k lines)) ∙ written_append s0 1 (take k lines) (drop k lines) in
    (back ++ last_line (feed_of script), ap (λ v. v ++ last_line (feed_of script)) parts ∙ append_assoc front back (last_line (feed_of script)))

-- what was added is at the front of all that is due
front_of : (xs zs w more all : List ℕ) → zs ≡ xs ++ w → all ≡ w ++ more → zs ≡ xs ++ take (length zs - length xs) all
front_of xs zs w more all e a =
    let size : length w ≡ length zs - length xs = omega (arith, ap length e, length-append xs w) in
    e ∙ ap (λ v. xs ++ v) (sym (rw a (take_at w more (length zs - length xs) size)))

regroup : (p t d more : List ℕ) → p ++ (t ++ d) ++ more ≡ (p ++ t) ++ (d ++ more)
regroup p t d more = simp append_assoc

seam : (front line rest : List ℕ) → front ++ (line ++ 10 ∷ rest) ≡ (front ++ line ++ 10 ∷ []) ++ rest
seam front line rest = simp append_assoc

pub part_of : (old now now' : Option (List ℕ)) (p q more all : List ℕ) → Appends old now p → AppendsPartOf now now' q → all ≡ p ++ q ++ more → AppendsPartOf old now' all
part_of None now now' p q more all h k a = tt
part_of (Some xs) None now' p q more all h k a = absurd h
part_of (Some xs) (Some ys) None p q more all h k a = absurd k
part_of (Some xs) (Some ys) (Some zs) p q more all h k a =
    let m = length zs - length ys in
    let whole : zs ≡ xs ++ (p ++ take m q) = k ∙ ap (λ v. v ++ take m q) h ∙ append_assoc xs p (take m q) in
    let rest : all ≡ (p ++ take m q) ++ (drop m q ++ more) = a ∙ ap (λ v. p ++ v ++ more) (sym (take-append-drop m q)) ∙ regroup p (take m q) (drop m q) more in
    front_of xs zs (p ++ take m q) (drop m q ++ more) all whole rest

-- the script was not at its end
not_ended_at : (b : Bool) (r : Reader) (left : Option (List ℕ)) (y : List ℕ) (n : ℕ) (line : List ℕ) (g : Feed) → r.ended ≡ b → InStep r left → rest_at r left ≡ Some y → feed (r.given + 1) r.taken [] y ≡ More n line g → r.ended ≡ false
not_ended_at false r left y n line g b i e f = b
not_ended_at true r None y n line g b i e f = cc
not_ended_at true r (Some x) y n line g b i e f =
    let none = i b in
    let at_end : r.ahead ++ x ≡ [] = rw (none.0, none.1) refl in
    let empty : y ≡ [] = cc in
    let end = rw empty at f in
    cc

no_back : (a b : List ℕ) → a ++ b ≡ [] → b ≡ []
no_back [] b e = e
no_back (y ∷ a) b e = cc

front_is : (all w rest : List ℕ) → all ≡ w ++ rest → take (length all - length rest) all ≡ w
front_is all w rest e =
    let size : length w ≡ length all - length rest = omega (arith, ap length e, length-append w rest) in
    rw e (take_at w rest (length (w ++ rest) - length rest) (rw e at size))

-- a stated line behind the replies so far
input_writes : (s0 : State) (st : Status) (line script : List ℕ) (old now now' : Option (List ℕ)) (k : ℕ) (x : List ℕ) → k ≤ length (given_lines (feed_of script)) → Appends old now (first_replies s0 k script) → script_writes s0 script ≡ first_replies s0 k script ++ line → script_ends script ≡ bad_input → Stated st status.Input line now now' → ScriptWrites s0 st old now' script x
input_writes s0 status.WriteFault line script old now now' k x within a due ends h = part_of old now now' (first_replies s0 k script) line [] (script_writes s0 script) a h.part (due ∙ sym (append-nil (first_replies s0 k script ++ line)))
input_writes s0 status.Input line script old now now' k x within a due ends h = let w = h.whole (λ e. cc) (λ e. cc) in (ends, subst (λ v. Appends old now' v) (sym due) (appends_both old now now' (first_replies s0 k script) line a w.1))
input_writes s0 status.NoMemory line script old now now' k x within a due ends h = (k, within, subst (λ v. Appends old now' v) (append-nil (first_replies s0 k script)) (appends_both old now now' (first_replies s0 k script) [] a (h.none refl)))
input_writes s0 status.Done line script old now now' k x within a due ends h = let w = h.whole (λ e. cc) (λ e. cc) in let no = w.0 in cc
input_writes s0 status.ReadFault line script old now now' k x within a due ends h = let w = h.whole (λ e. cc) (λ e. cc) in let no = w.0 in cc
input_writes s0 status.Usage line script old now now' k x within a due ends h = let w = h.whole (λ e. cc) (λ e. cc) in let no = w.0 in cc
input_writes s0 status.Data line script old now now' k x within a due ends h = let w = h.whole (λ e. cc) (λ e. cc) in let no = w.0 in cc
input_writes s0 status.OpenFault line script old now now' k x within a due ends h = let w = h.whole (λ e. cc) (λ e. cc) in let no = w.0 in cc

kept_bytes : (old now now' : Option (List ℕ)) (p : List ℕ) → Appends old now p → Keeps now now' → Appends old now' p
kept_bytes None now now' p h k = tt
kept_bytes (Some xs) None now' p h k = absurd h
kept_bytes (Some xs) (Some ys) None p h k = absurd k
kept_bytes (Some xs) (Some ys) (Some zs) p h k = k ∙ h

-- an answer of a reader, and the bytes that it took
pub record Answer (res : Result (Option Line) LineFault) (r r' : Reader) (left left' : Option (List ℕ)) : Type 0 where
  pub gives : Gives res (feed_at r left) (feed_at r' left')
  pub texts : Texts res (rest_at r left) (rest_at r' left') r'.ended

-- a run that has come so far, and the next answer of its reader
module _ {s0 : State} {script : List ℕ} {old now : Option (List ℕ)} {state : State} {r r' : Reader} {left left' : Option (List ℕ)} {res : Result (Option Line) LineFault} (p : Played s0 script old now state r left) (a : Answer res r r' left left') where
  pub stop_memory : Ends s0 status.NoMemory script old now left'
  stop_memory =
      let z = given_told r r' left left' p.rest p.rest_is res a.gives in
      let x = left_from_rest r' left' z.0 z.1 in
      record { rest = x.0; rest_is = x.1; writes = (r.given, p.within, p.wrote) }

  -- what is written behind all replies
  stop_input : (f : Feed) (st : Status) (line : List ℕ) (now' : Option (List ℕ)) → feed (r.given + 1) r.taken [] p.rest ≡ f → given_lines f ≡ [] → last_line f ≡ line → feed_ends f ≡ bad_input → Stated st status.Input line now now' → Ends s0 st script old now' left'
  stop_input f st line now' is none last ends stated =
      let z = given_told r r' left left' p.rest p.rest_is res a.gives in
      let x = left_from_rest r' left' z.0 z.1 in
      let all = all_given r.given (given_lines (feed_of script)) (p.lines ∙ ap given_lines is ∙ none) in
      let due : script_writes s0 script ≡ first_replies s0 r.given script ++ line = ap (λ v. written s0 1 (given_lines (feed_of script)) ++ v) (p.last ∙ ap last_line is ∙ last) ∙ ap (λ v. written s0 1 v ++ line) (sym all) in
      record { rest = x.0; rest_is = x.1; writes = input_writes s0 st line script old now now' r.given x.0 p.within p.wrote due (p.ends ∙ ap feed_ends is ∙ ends) stated }

-- where a line, or the script, is too long
pub stop_long : {s0 : State} {script : List ℕ} {old now now' : Option (List ℕ)} {state : State} {r r' : Reader} {left left' : Option (List ℕ)} {n : ℕ} {st : Status} → Played s0 script old now state r left → Answer (Err (TooLong n)) r r' left left' → Stated st status.Input (stated_line (long_line script_source n)) now now' → Ends s0 st script old now' left'
stop_long {s0} {script} {old} {now} {now'} {state} {r} {r'} {left} {left'} {n} {st} p a stated =
    stop_input p a (LineTooLong n) st (stated_line (long_line script_source n)) now' (given_long r r' left left' p.rest p.rest_is n a.gives) refl refl refl stated

pub stop_much : {s0 : State} {script : List ℕ} {old now now' : Option (List ℕ)} {state : State} {r r' : Reader} {left left' : Option (List ℕ)} {n : ℕ} {st : Status} → Played s0 script old now state r left → Answer (Err (TooMuch n)) r r' left left' → Stated st status.Input (stated_line (much script_source n)) now now' → Ends s0 st script old now' left'
stop_much {s0} {script} {old} {now} {now'} {state} {r} {r'} {left} {left'} {n} {st} p a stated =
    stop_input p a (SourceTooMuch n) st (stated_line (much script_source n)) now' (given_much r r' left left' p.rest p.rest_is n a.gives) refl refl refl stated

-- where the answer is the end
pub stop_done : {s0 : State} {script : List ℕ} {old now : Option (List ℕ)} {state : State} {r r' : Reader} {left left' : Option (List ℕ)} → Played s0 script old now state r left → Answer (Ok None) r r' left left' → Ends s0 status.Done script old now left'
stop_done {s0} {script} {old} {now} {state} {r} {r'} {left} {left'} p a =
    let end = given_end r r' left left' p.rest p.rest_is a.gives in
    let z = given_told r r' left left' p.rest p.rest_is (Ok None) a.gives in
    let x = left_from_rest r' left' z.0 z.1 in
    let none = texts_end (rest_at r left) (rest_at r' left') p.rest z.0 r'.ended a.texts p.rest_is z.1 in
    let all = all_given r.given (given_lines (feed_of script)) (p.lines ∙ ap given_lines end) in
    let due : script_writes s0 script ≡ first_replies s0 r.given script = ap (λ v. written s0 1 (given_lines (feed_of script)) ++ v) (p.last ∙ ap last_line end) ∙ append-nil (written s0 1 (given_lines (feed_of script))) ∙ ap (λ v. written s0 1 v) (sym all) in
    let empty : r'.ahead ++ x.0 ≡ [] = x.2 ∙ none in
    record { rest = x.0; rest_is = x.1; writes = (p.ends ∙ ap feed_ends end, subst (λ v. Appends old now v) (sym due) p.wrote, no_back r'.ahead x.0 empty) }

-- where a read failed
pub stop_read : {s0 : State} {script : List ℕ} {old now : Option (List ℕ)} {state : State} {r r' : Reader} {left left' : Option (List ℕ)} → Played s0 script old now state r left → Answer (Err Read) r r' left left' → r.ended ≡ false → r'.ahead ≡ [] → Ends s0 status.ReadFault script old now left'
stop_read {s0} {script} {old} {now} {state} {r} {r'} {left} {left'} p a going drained =
    let z = given_told r r' left left' p.rest p.rest_is (Err Read) a.gives in
    let x = left_from_rest r' left' z.0 z.1 in
    let text = texts_read (rest_at r left) (rest_at r' left') p.rest z.0 r'.ended a.texts p.rest_is z.1 in
    let cut = p.cuts going in
    let left_is : z.0 ≡ x.0 = sym x.2 ∙ ap (λ v. v ++ x.0) drained in
    let whole : script ≡ (cut.front ++ text.0) ++ x.0 = cut.script_is ∙ ap (λ v. cut.front ++ v) (text.2 ∙ ap (λ v. text.0 ++ v) left_is) ∙ sym (append_assoc cut.front text.0 x.0) in
    let taken : take (length script - length x.0) script ≡ cut.front ++ text.0 = front_is script (cut.front ++ text.0) x.0 whole in
    let lines : whole_lines (take (length script - length x.0) script) ≡ take r.given (given_lines (feed_of script)) = ap whole_lines taken ∙ cut.whole text.0 ∙ ap (λ v. take r.given (given_lines (feed_of script)) ++ v) (whole_plain text.0 text.1) ∙ append-nil (take r.given (given_lines (feed_of script))) in
    record { rest = x.0; rest_is = x.1; writes = subst (λ v. Appends old now (written s0 1 v)) (sym lines) p.wrote }

-- where the answer is one line more
module _ {s0 : State} {script : List ℕ} {old now : Option (List ℕ)} {state : State} {r r' : Reader} {left left' : Option (List ℕ)} {l : Line} (p : Played s0 script old now state r left) (a : Answer (Ok (Some l)) r r' left left') (number : l.number ≡ r.given + 1) where
  -- it is run to its end
  pub went : {now' : Option (List ℕ)} {state' : State} → InStep r left → r'.given ≡ l.number → state' ≡ step_state state l.number l.bytes.items → Appends now now' (step_writes state l.number l.bytes.items) → Played s0 script old now' state' r' left'
  went {now'} {state'} i count st wrote =
      let z = given_line r r' left left' p.rest p.rest_is l a.gives in
      let rest_lines = given_lines (feed (r'.given + 1) r'.taken [] z.0) in
      let drops : drop r.given (given_lines (feed_of script)) ≡ l.bytes.items ∷ rest_lines = p.lines ∙ ap given_lines z.2 in
      let nx = next_of r.given (given_lines (feed_of script)) l.bytes.items rest_lines drops in
      let given : r'.given ≡ suc r.given = omega (arith, number, count) in
      let at : 1 + length (take r.given (given_lines (feed_of script))) ≡ l.number = omega (arith, nx.front, number) in
      let taken : take r'.given (given_lines (feed_of script)) ≡ take r.given (given_lines (feed_of script)) ++ l.bytes.items ∷ [] = rw given nx.taken in
      record {
        rest = z.0;
        rest_is = z.1;
        lines = ap (λ k. drop k (given_lines (feed_of script))) given ∙ nx.left;
        within = omega (arith, nx.within, given);
        ends = p.ends ∙ ap feed_ends z.2;
        last = p.last ∙ ap last_line z.2;
        state_is = st ∙ ap (λ s. step_state s l.number l.bytes.items) p.state_is ∙ ap (λ m. step_state (state_after s0 1 (take r.given (given_lines (feed_of script)))) m l.bytes.items) (sym at) ∙ sym (state_push s0 1 (take r.given (given_lines (feed_of script))) l.bytes.items) ∙ ap (λ v. state_after s0 1 v) (sym taken);
        wrote = subst (λ v. Appends old now' v) (sym (ap (λ k. first_replies s0 k script) given ∙ more_replies s0 r.given state l.number script l.bytes.items rest_lines drops p.state_is number)) (appends_both old now now' (first_replies s0 r.given script) (step_writes state l.number l.bytes.items) p.wrote wrote);
        cuts = λ going.
            let was = not_ended_at r.ended r left p.rest l.number l.bytes.items (feed (r'.given + 1) r'.taken [] z.0) refl i p.rest_is z.2 in
            let text = texts_more (rest_at r left) (rest_at r' left') p.rest z.0 l r'.ended a.texts p.rest_is z.1 going in
            let cut = p.cuts was in
            record {
              front = cut.front ++ l.bytes.items ++ 10 ∷ [];
              script_is = cut.script_is ∙ ap (λ v. cut.front ++ v) text.1 ∙ seam cut.front l.bytes.items z.0;
              whole = λ q. ap whole_lines (sym (seam cut.front l.bytes.items q)) ∙ cut.whole (l.bytes.items ++ 10 ∷ q) ∙ ap (λ v. take r.given (given_lines (feed_of script)) ++ v) (whole_line l.bytes.items q text.0) ∙ sym (append_assoc (take r.given (given_lines (feed_of script))) (l.bytes.items ∷ []) (whole_lines q)) ∙ ap (λ v. v ++ whole_lines q) (sym taken);
            };
      }

  -- what was visited so far, and behind this line
  pub visited : SimpleLinesKeepLivesSimple → are_simple_lives s0.lives ≡ true
      → (was before after : ℕ) → are_simple_lines 1 (given_lines (feed_of script)) ≡ true
      → before ≤ was + lines_cost s0 1 (take r.given (given_lines (feed_of script)))
      → CostsAtMost (is_simple_line l.number l.bytes.items) (line_cost state l.number l.bytes.items)
      state before after
      → after ≤ was + lines_cost s0 1 (take (suc r.given) (given_lines (feed_of script)))
  visited keep lives was before after simple low costs =
      let z = given_line r r' left left' p.rest p.rest_is l a.gives in
      let rest_lines = given_lines (feed (r'.given + 1) r'.taken [] z.0) in
      let drops : drop r.given (given_lines (feed_of script)) ≡ l.bytes.items ∷ rest_lines = p.lines ∙ ap given_lines z.2 in
      spent_more keep s0 state r.given l.number (given_lines (feed_of script)) l.bytes.items rest_lines was before after lives drops p.state_is number simple low costs

  pub visited_all : SimpleLinesKeepLivesSimple → are_simple_lives s0.lives ≡ true
      → (was before after : ℕ) → are_simple_lines 1 (given_lines (feed_of script)) ≡ true
      → before ≤ was + lines_cost s0 1 (take r.given (given_lines (feed_of script)))
      → CostsAtMost (is_simple_line l.number l.bytes.items) (line_cost state l.number l.bytes.items)
      state before after
      → after ≤ was + lines_cost s0 1 (given_lines (feed_of script))
  visited_all keep lives was before after simple low costs =
      omega (arith, visited keep lives was before after simple low costs, cost_taken s0 (suc r.given) (given_lines (feed_of script)))

  stop_write : (now' : Option (List ℕ)) → AppendsPartOf now now' (step_writes state l.number l.bytes.items) → Ends s0 status.WriteFault script old now' left'
  stop_write now' part =
      let z = given_line r r' left left' p.rest p.rest_is l a.gives in
      let x = left_from_rest r' left' z.0 z.1 in
      let rest_lines = given_lines (feed (r'.given + 1) r'.taken [] z.0) in
      let drops : drop r.given (given_lines (feed_of script)) ≡ l.bytes.items ∷ rest_lines = p.lines ∙ ap given_lines z.2 in
      let front = front_replies s0 (suc r.given) script in
      let due : script_writes s0 script ≡ first_replies s0 r.given script ++ step_writes state l.number l.bytes.items ++ front.0 = front.1 ∙ ap (λ v. v ++ front.0) (more_replies s0 r.given state l.number script l.bytes.items rest_lines drops p.state_is number) in
      record { rest = x.0; rest_is = x.1; writes = part_of old now now' (first_replies s0 r.given script) (step_writes state l.number l.bytes.items) front.0 (script_writes s0 script) p.wrote part due }

  -- it could not be run to its end
  pub stop_line : (st : Status) (now' : Option (List ℕ)) → LineStops st now now' (step_writes state l.number l.bytes.items) → Ends s0 st script old now' left'
  stop_line status.WriteFault now' h = stop_write now' h
  stop_line status.NoMemory now' h =
      let z = given_line r r' left left' p.rest p.rest_is l a.gives in
      let x = left_from_rest r' left' z.0 z.1 in
      record { rest = x.0; rest_is = x.1; writes = (r.given, p.within, kept_bytes old now now' (first_replies s0 r.given script) p.wrote h) }
  stop_line status.Done now' h = absurd h
  stop_line status.Usage now' h = absurd h
  stop_line status.Data now' h = absurd h
  stop_line status.Input now' h = absurd h
  stop_line status.ReadFault now' h = absurd h
  stop_line status.OpenFault now' h = absurd h

-- the script could not be begun
pub none_played : (s0 : State) (script : List ℕ) (old : Option (List ℕ)) → ScriptWrites s0 status.NoMemory old old script script
none_played s0 script old = (0, omega arith, appends_none old)
