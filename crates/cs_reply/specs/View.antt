-- What contracts see of the replies that are written.
use Rattle.std.specs.Prelude.{◌≡◌, ℕ, Bool, true, List, [], ◌∷◌, ◌++◌, codes, map, option_map}
use Rattle.serde_json.specs.Written.{comma_if}
use Rattle.cs_value.specs.Tree.{Tree, text}
use Rattle.cs_value.specs.View.{tree}
use Rattle.cs_json.specs.Nodes.{node_tree}
use Rattle.cs_json.specs.Text.{json_text}
use Rattle.cs_reply.specs.Fields.{number}
use Rattle.cs_reply.specs.Refusal as why
use Rattle.cs_reply.specs.Reply as said
use Rattle.cs_reply.specs.Stated as stated
use Rattle.cs_reply.specs.declared.refusal.Refusal.{Refusal}
use Rattle.cs_reply.specs.declared.refusal.Refusal.TheVariants.{NotJson, TooDeep, NotWhole, BadCommand, BadToken, DeepQuery, Syntax, Unsupported, UnknownFunction, Arity, NoKey, NotListenable, NameUsed, FullSubscriptions, NoName, BadMoment, BadTx, TxUsed}
use Rattle.cs_reply.specs.declared.event.Event.{Event}
use Rattle.cs_reply.specs.declared.event.Transition.{Transition}
use Rattle.cs_reply.specs.declared.event.Transition.TheVariants as heard
use Rattle.cs_reply.specs.declared.reply.Operation.{Operation}
use Rattle.cs_reply.specs.declared.reply.Operation.TheVariants.{Create, Update, Delete}
use Rattle.cs_reply.specs.declared.reply.Outcome.{Outcome}
use Rattle.cs_reply.specs.declared.reply.Reply.{Reply}
use Rattle.cs_reply.specs.declared.reply.Reply.TheVariants.{Committed, Found, Welcome, Heard, Stopped, Set, Refused}
use Rattle.cs_reply.specs.declared.stated.Cause.{Cause}
use Rattle.cs_reply.specs.declared.stated.Cause.TheVariants as line
use Rattle.cs_reply.specs.declared.stated.Source.{Source}
use Rattle.cs_reply.specs.declared.stated.Source.TheVariants.{Data, Script}
use Rattle.cs_reply.specs.declared.stated.Stop.{Stop}
use Rattle.cs_reply.specs.declared.stated.Stop.TheVariants as ends

abbrev pub refusal : Refusal → why.Refusal
refusal NotJson = why.not_json
refusal TooDeep = why.too_deep
refusal NotWhole = why.not_whole
refusal BadCommand = why.bad_command
refusal (BadToken at) = why.bad_token at
refusal DeepQuery = why.deep_query
refusal Syntax = why.syntax
refusal (Unsupported name) = why.unsupported name.now
refusal (UnknownFunction name) = why.unknown_function name.now
refusal (Arity name) = why.arity name.now
refusal NoKey = why.no_key
refusal NotListenable = why.not_listenable
refusal (NameUsed name) = why.name_used name.now
refusal (FullSubscriptions limit) = why.full_subscriptions limit
refusal (NoName name) = why.no_name name.now
refusal BadMoment = why.bad_moment
refusal BadTx = why.bad_tx
refusal (TxUsed id) = why.tx_used id.now

abbrev pub operation : Operation → said.Operation
operation Create = said.create
operation Update = said.update
operation Delete = said.delete

abbrev pub outcome : Outcome → List ℕ × said.Operation
outcome o = (o.id.now, operation o.operation)

abbrev pub transition : Transition → said.Transition
transition heard.Appear = said.appear
transition heard.Update = said.changed
transition heard.Disappear = said.disappear

abbrev pub event : Event → said.Event
event e = record {
  listener = e.listener.now;
  id = e.id.now;
  transition = transition e.transition;
  previous_rev = option_map (λ s. s.now) e.previous_rev;
  result_rev = option_map (λ s. s.now) e.result_rev;
  previous = option_map (λ v. tree v.now) e.previous;
  result = option_map (λ v. tree v.now) e.result;
  tx = e.tx.now;
  moment = e.moment.now;
}

abbrev pub reply : Reply → said.Reply
reply (Committed tx outcomes) = said.committed tx.now (map outcome outcomes.now)
reply (Found node) = said.found (node_tree node)
reply (Welcome name) = said.welcome name.now
reply (Heard e) = said.event (event e)
reply (Stopped name) = said.stopped name.now
reply (Set moment) = said.set moment.now
reply (Refused r) = said.refused (refusal r)

abbrev pub cause : Cause → stated.Cause
cause line.NotJson = stated.no_json
cause line.TooDeep = stated.deep
cause line.NotWhole = stated.fraction
cause line.BadDocument = stated.no_document
cause (line.Repeated id) = stated.repeated id.now
cause line.FullDocuments = stated.full

abbrev pub source : Source → stated.Source
source Data = stated.data_file
source Script = stated.script

abbrev pub stop : Stop → stated.Stop
stop (ends.TooLong s line) = stated.long_line (source s) line
stop (ends.TooMuch s line) = stated.much (source s) line
stop (ends.Bad line c) = stated.bad line (cause c)
stop (ends.Dangling from to) = stated.dangling from.now to.now

-- the value was written as a line behind what stood there
abbrev pub Appended : List ℕ → List ℕ → Tree → Type 0
Appended old new t = new ≡ old ++ said.written_line t

-- what stands before the answer in the reply with that of a live query. For private clauses
abbrev pub before_answer : ℕ → List ℕ → List ℕ
before_answer line name =
    codes "{\"line\":" ++ json_text (number line)
    ++ codes ",\"live\":" ++ json_text (text name)
    ++ codes ",\"result\":"

-- what stands before that which a query found, in the reply with it. For private clauses
abbrev pub before_result : ℕ → List ℕ
before_result line = codes "{\"line\":" ++ json_text (number line) ++ codes ",\"result\":"

-- the text of an attribute, and the texts of several with commas between them and the bracket
-- behind them: RFC 8259, "Objects". For private clauses
abbrev pub member_text : List ℕ × Tree → List ℕ
member_text m = json_text (text m.0) ++ 58 ∷ json_text m.1

abbrev pub members_joined : Bool → List (List ℕ × Tree) → List ℕ
members_joined later [] = 125 ∷ []
members_joined later (m ∷ ms) = comma_if later ++ (member_text m ++ members_joined true ms)
