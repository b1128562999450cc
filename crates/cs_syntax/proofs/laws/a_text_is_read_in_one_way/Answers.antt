use Rattle.std.proofs.Common.{◌<◌, length, drop, sym, ◌∙◌, subst}
use Rattle.cs_syntax.specs.Lex.{NoToken}
use Rattle.cs_syntax.proofs.Sequences.{one-list, no-list, one-bad}
use Rattle.cs_syntax.proofs.laws.a_text_is_read_in_one_way.Goals as goal

pub returns-clause-one_list : goal.returns-clause-one_list
returns-clause-one_list c s at ts us a b =
    one-list s at ts us a.end b.end a.reads a.no_more b.reads b.no_more

pub returns-clause-not_both : goal.returns-clause-not_both
returns-clause-not_both c s at bad ts a b =
    no-list s at ts b.tokens a.end b.end a.reads a.no_more b.reads
    (subst (λ x. x < length s) (sym b.place) b.more)
    (subst (λ x. NoToken (drop x s)) (sym b.place) b.no_token)

pub returns-clause-one_place : goal.returns-clause-one_place
returns-clause-one_place c s at p q a b =
    sym a.place
    ∙ one-bad s at a.tokens b.tokens a.end b.end a.reads
    (subst (λ x. NoToken (drop x s)) (sym a.place) a.no_token) b.reads
    (subst (λ x. NoToken (drop x s)) (sym b.place) b.no_token)
    ∙ b.place
