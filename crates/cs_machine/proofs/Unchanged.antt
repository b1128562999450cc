-- A refused line leaves the state as it is.
use Rattle.std.proofs.Common.{◌≡◌, ℕ, List, [], ◌∷◌, ◌++◌, map, true, false, refl, sym, ◌∙◌, true≢false}
use Rattle.std.specs.List.{list_any}
use Rattle.cs_value.specs.Tree.{Tree}
use Rattle.cs_view.specs.Changes.{Edit, changes_between}
use Rattle.cs_reply.specs.Reply as plain
use Rattle.cs_listen.specs.Events.{events}
use Rattle.cs_machine.specs.Fold.{Stepped}
use Rattle.cs_machine.specs.Laws.{refuses, RefusedLinesChangeNothing}
use Rattle.cs_live.specs.Lives.{Said, news}
use Rattle.cs_machine.specs.Replies.{said}
use Rattle.cs_machine.specs.Rows.{live_reply, commit_replies}
use Rattle.cs_machine.specs.State.{State}
use Rattle.cs_machine.proofs.Steps.{Cases, step-case}

abbrev Unchanged : State → Stepped State → Type 0
Unchanged s out = list_any refuses out.replies ≡ true → out.state ≡ s

lives_refuse_none : (ls : List Said) → list_any refuses (map said (map live_reply ls)) ≡ false
lives_refuse_none [] = refl
lives_refuse_none (l ∷ ls) = lives_refuse_none ls

events_refuse_none : (es : List plain.Event) (ls : List Said)
    → list_any refuses (map said (map plain.event es ++ map live_reply ls)) ≡ false
events_refuse_none [] ls = lives_refuse_none ls
events_refuse_none (e ∷ es) ls = events_refuse_none es ls

commits_refuse_none : (s : State) (tx : List ℕ) (docs : List Tree) (cs : List Edit)
    → list_any refuses (map said (commit_replies s tx docs cs)) ≡ false
commits_refuse_none s tx docs cs =
    events_refuse_none (events tx s.moment cs s.listeners) (news docs s.lives)

unchanged_cases : (s : State) → Cases (Unchanged s) s
unchanged_cases s = record {
  blank = λ h. refl;
  refuses = λ r h. refl;
  refuses_transaction = λ r h. refl;
  installs = λ txn docs unused e h. absurd (true≢false (sym h ∙ commits_refuse_none s txn.id docs
      (changes_between s.docs docs)));
  finds = λ t h. refl;
  adds_live = λ l free room is h. absurd (true≢false (sym h));
  adds_listener = λ l free room h. absurd (true≢false (sym h));
  stops = λ name h. absurd (true≢false (sym h));
  sets = λ moment h. absurd (true≢false (sym h));
}

pub refused-unchanged : RefusedLinesChangeNothing
refused-unchanged s n line = step-case (Unchanged s) s (unchanged_cases s) n line
