use Rattle.std.proofs.Common.{◌+◌, refl, subst, sym}
use Rattle.cs_listen.specs.Posted.{ArePosted}
use Rattle.cs_listen.specs.declared.listening.Listening.{Listening}
use Rattle.cs_listen.proofs.Keeping.{posted_one, still_posted, undone}
use Rattle.cs_listen.proofs.listeners.Listeners.push.Goals as goal

pub invariant_of-self-in-Ok-push : goal.invariant_of-self-in-Ok-push
invariant_of-self-in-Ok-push c =
    let old = c.args.self.now in
    let one : Listening = record {
      name = c.args.name;
      number = old.next;
      predicate = c.args.predicate;
      params = c.args.params;
      include_result = c.args.include_result;
      include_previous = c.args.include_previous;
    } in
    let postings = c.post.new.postings.items in
    record {
      posted = subst (ArePosted old.seed postings (old.next + 1)) (sym c.in-Ok-push.ensures.items)
          (posted_one old.seed old.postings.items postings old.next c.in-Ok.code old.made.items one
          c.in-Ok-post.ensures.posted refl c.in-Ok.ensures old.posted);
      ascend = c.in-Ok-post.ensures.ascend;
    }

pub invariant_of-self-in-Err : goal.invariant_of-self-in-Err
invariant_of-self-in-Err c =
    let old = c.args.self.now in
    let posted = c.post.new.postings.items in
    let after = c.withdraw.new.postings.items in
    record {
      posted = subst (ArePosted old.seed after old.next) (sym c.in-Err.ensures.items)
          (still_posted old.seed old.postings.items after old.next old.made.items
          (undone old.next c.in-Ok.code old.postings.items posted after
          c.in-Ok-post.ensures.posted c.withdraw.ensures.withdrawn) old.posted);
      ascend = c.withdraw.ensures.ascend;
    }
