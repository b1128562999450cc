use Rattle.std.proofs.Common.{◌≡◌, ◌∙◌, ◌∷◌, ◌++◌, [], List, ap, sym, subst, map}
use Rattle.cs_value.specs.View.{fields}
use Rattle.cs_syntax.specs.Queries.{expression_of}
use Rattle.cs_view.specs.View.{document_of}
use Rattle.cs_view.specs.declared.key.Key.{Key}
use Rattle.cs_plan.specs.Simple.{query_key}
use Rattle.cs_meaning.specs.Hits.{hits, tail_looked, tail_over}
use Rattle.cs_meaning.specs.Looked.{query_looked}
use Rattle.cs_keys.specs.Keys.{SameKeys, all_keys, own_of, rest_of}
use Rattle.cs_hits.proofs.Behinds.{behind_settles}
use Rattle.cs_kept.proofs.Coded.{coded-of}
use Rattle.cs_keys.proofs.Keyed.{own_keys, with_own}
use Rattle.cs_kept.proofs.evaluated.evaluate_behind.Goals as goal

pub returns-clause-evaluated : goal.returns-clause-evaluated
returns-clause-evaluated g c =
    let docs = g.V.View.docs c.args.view.now in let e = expression_of c.args.query.now in let ps = fields c.args.params.now in
    let filled = c.fill.new.self in let f = c.in_ok-fill.ensures in
    let windowed = c.windowed_is_tail_of_hits.ensures e ps docs c.requires.windowed in
    let value = behind_settles e ps (tail_over docs e ps) (λ bound xs ys n s. (c.window_settles_tail_over.ensures e ps bound xs ys docs c.requires.windowed n s).0) docs filled f.are f.enough in
    let keys = behind_settles e ps (tail_looked docs e ps) (λ bound xs ys n s. (c.window_settles_tail_over.ensures e ps bound xs ys docs c.requires.windowed n s).1) docs filled f.are f.enough in
    let looked : c.tail_over.new.keys ≡ tail_looked docs e ps (hits e ps docs)
    = c.in_ok-answer.ensures.keys ∙ (ap (λ (ks : List Key). ks ++ tail_looked docs e ps (map document_of c.docs-docs.result.now)) c.new-record.ensures
    ∙ (ap (tail_looked docs e ps) c.docs-docs.ensures ∙ keys)) in
    let found = c.in_ok-keys.keys in
    let own = c.in_ok-keys.ensures.own in
    record {
      answer = c.in_ok-answer.ensures.value ∙ (ap (tail_over docs e ps) c.docs-docs.ensures ∙ (value ∙ sym windowed.0));
      keys = own_keys (rest_of found) (own_of found) (tail_looked docs e ps (hits e ps docs)) (query_looked docs ps e) (query_key e ps)
          (subst (λ (ks : List Key). SameKeys (rest_of found) ks) looked c.in_ok-keys.ensures.rest) (own ∙ ap (λ (k : Key). k ∷ []) c.in_ok-own.ensures) windowed.1;
      coded = coded-of c.args.seed.now (all_keys found) (c.tail_over.new.keys ++ c.in_ok-own.own ∷ []) found.codes.items
          (with_own (rest_of found) (own_of found) c.tail_over.new.keys c.in_ok-own.own c.in_ok-keys.ensures.rest own) c.in_ok-keys.ensures.codes;
    }

pub returns-clause-fits : goal.returns-clause-fits
returns-clause-fits g c =
    let docs = g.V.View.docs c.args.view.now in let e = expression_of c.args.query.now in let ps = fields c.args.params.now in
    let filled = c.fill.new.self in let f = c.in_ok-fill.ensures in
    let keys = behind_settles e ps (tail_looked docs e ps) (λ bound xs ys n s. (c.window_settles_tail_over.ensures e ps bound xs ys docs c.requires.windowed n s).1) docs filled f.are f.enough in
    let looked : c.tail_over.new.keys ≡ tail_looked docs e ps (hits e ps docs)
    = c.in_ok-answer.ensures.keys ∙ (ap (λ (ks : List Key). ks ++ tail_looked docs e ps (map document_of c.docs-docs.result.now)) c.new-record.ensures
    ∙ (ap (tail_looked docs e ps) c.docs-docs.ensures ∙ keys)) in
    let both = c.narrow.ensures docs f.are f.enough in
    record {
      windowed = c.requires.windowed;
      are = both.0;
      enough = both.1;
      looked = subst (λ (ks : List Key). SameKeys (rest_of c.in_ok-keys.keys) ks) looked c.in_ok-keys.ensures.rest;
    }
