use Rattle.std.proofs.Common.{rules, ◌∙◌, ap, map, not, subst, sym, Bool}
use Rattle.std.proofs.lemmas.Fn.{filter_same}
use Rattle.cs_listen.specs.Listeners.{listener, has_name}
use Rattle.cs_listen.specs.Posted.{ArePosted}
use Rattle.cs_listen.specs.declared.listening.Listening.{Listening}
use Rattle.cs_listen.proofs.Keeping.{posted_others}
use Rattle.cs_listen.proofs.Without.{without_map}
use Rattle.cs_listen.proofs.listeners.Listeners.remove.Goals as goal

pub returns-clause-removed : goal.returns-clause-removed
returns-clause-removed c =
    ap (map listener) (filter_same _ _ _ (λ x b f' k. search rules) _ _ c.retain.ensures.filtered)
    ∙ without_map c.args.name.now c.args.self.now.made.items

pub invariant_of-self : goal.invariant_of-self
invariant_of-self c =
    let old = c.args.self.now in
    let others : Listening → Bool = λ l. not (has_name c.args.name.now (listener l)) in
    let postings = c.withdraw.new.postings.items in
    record {
      posted = subst (ArePosted old.seed postings old.next) (sym (filter_same _ others _ (λ x b f' k. search rules) _ _ c.retain.ensures.filtered))
          (posted_others old.seed old.postings.items postings old.next c.in-Some.number c.args.name.now old.made.items
          c.withdraw.ensures.withdrawn c.in-Some.ensures.own old.posted);
      ascend = c.withdraw.ensures.ascend;
    }
