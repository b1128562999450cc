use Rattle.std.proofs.Common.{◌∙◌, sym, refl}
use Rattle.cs_value.specs.View.{tree, fields}
use Rattle.cs_syntax.specs.Queries.{expression_of}
use Rattle.cs_meaning.specs.Hits.{tail}
use Rattle.cs_hits.specs.Hits.{docs_of}
use Rattle.cs_hits.proofs.Nearing.{stays_by, stays_enough}
use Rattle.cs_kept.proofs.Sames.{not_another}
use Rattle.cs_kept.proofs.rows.Rows.follow.Goals as goal

pub returns-then-not-branch-clause-settled : goal.returns-then-not-branch-clause-settled
returns-then-not-branch-clause-settled c =
    let e = expression_of c.args.self.now.query in let ps = fields c.args.self.now.params in
    let old = c.args.self.now.hits in let new = c.follow.new.self in
    let f = c.in_ok-follow.ensures in
    let s = c.requires.settled in
    let same = f.same (cc c.if-not-branch.true) in
    record {
      answered = s.answered ∙ sym (stays_by e ps (tail e ps) (λ bound xs ys n h. (c.window_settles_tail.ensures e ps bound xs ys n h).0) old.near new.near (docs_of old) (docs_of new) s.near f.near s.enough f.bound same);
      near = f.near;
      enough = stays_enough e ps old.near new.near (docs_of old) (docs_of new) s.near f.near s.enough f.bound same;
    }

pub returns-then-not-branch-clause-stale : goal.returns-then-not-branch-clause-stale
returns-then-not-branch-clause-stale c = not_another (tree c.args.self.now.answer) (tree c.args.self.now.answer) refl
