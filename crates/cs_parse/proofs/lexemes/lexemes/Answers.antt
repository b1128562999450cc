use Rattle.std.proofs.Common.{◌<◌, ◌≤◌, ◌++◌, ◌∷◌, [], All, IfSome, List, Ok, ap, arith, length, map, rules, sym, subst, true≢false, ◌∙◌}
use Rattle.std.proofs.lemmas.List.{length-map, length_push, map-append}
use Rattle.std.proofs.lemmas.List.Elements.{All-push}
use Rattle.cs_syntax.specs.declared.token.Token.{Token}
use Rattle.cs_syntax.specs.Expression.{Tok}
use Rattle.cs_syntax.specs.Lex.{IsNext}
use Rattle.cs_syntax.proofs.Sequences.{reads-push}
use Rattle.cs_grammar.specs.declared.lexeme.Lexeme.{Lexeme}
use Rattle.cs_grammar.specs.Parsing.{IsLexemeOf}
use Rattle.cs_grammar.specs.View.{tok}
use Rattle.cs_parse.specs.Counted.{IsDepthOf}
use Rattle.cs_parse.specs.Depth.{closes, opens}
use Rattle.cs_parse.proofs.Counts.{count_small}
use Rattle.cs_parse.proofs.Meant.{meant_more}
use Rattle.cs_parse.proofs.Told.{bad_read}
use Rattle.cs_parse.proofs.lexemes.lexemes.Goals as goal

pub loop-lexemes-preserved : goal.loop-lexemes-preserved
loop-lexemes-preserved c =
    let s = c.args.text.now in
    let so_far = c.loop-lexemes.invariant.so_far in
    let next = subst (λ t. IsNext s c.loop-lexemes.end (Ok t)) c.in-Some.is
    c.in_ok-token.ensures.next in
    let place = subst (λ o. IfSome o (λ (t : Token). (c.loop-lexemes.end < t.to)
    × (t.to ≤ length s))) c.in-Some.is c.in_ok-token.ensures.place in
    let more = c.in_ok-push.ensures.items in record {
      so_far = record {
        tokens = so_far.tokens ++ (c.in-Some.token ∷ []);
        reads = reads-push s 0 so_far.tokens c.loop-lexemes.end c.in-Some.token so_far.reads
            next.0 next.1;
        meant = meant_more s c.loop-lexemes.lexemes.items _ c.lexeme-lexeme.result so_far.tokens
            c.in-Some.token c.lexeme-lexeme.ensures.meaning more so_far.meant;
      };
      of_text = subst (λ (ls : List Lexeme). All (IsLexemeOf s) ls) (sym more)
          (All-push (IsLexemeOf s) c.loop-lexemes.lexemes.items c.lexeme-lexeme.result
          c.loop-lexemes.invariant.of_text c.lexeme-lexeme.ensures.of_text);
      depth = subst (λ (ts : List Tok). IsDepthOf ts c.count.new.self)
          (sym (ap (map (tok s)) more
          ∙ map-append (tok s) c.loop-lexemes.lexemes.items (c.lexeme-lexeme.result ∷ [])))
          (c.count.ensures s (map (tok s) c.loop-lexemes.lexemes.items)
          c.loop-lexemes.invariant.depth);
      to = place.1;
      count = omega (
        arith,
        ap length more,
        length_push c.loop-lexemes.lexemes.items c.lexeme-lexeme.result,
        place.0,
        c.loop-lexemes.invariant.count,
      );
    }

pub returns-in_err-token-clause-fault : goal.returns-in_err-token-clause-fault
returns-in_err-token-clause-fault c =
    let so_far = c.loop-lexemes.invariant.so_far in
    bad_read c.args.text.now c.loop-lexemes.end so_far.tokens so_far.reads c.in_err-token.field-0.0
    c.in_err-token.ensures.next c.from_residual-in_err-token.result
    c.from_residual-in_err-token.ensures.1

pub count-requires : goal.count-requires
count-requires c =
    let s = c.args.text.now in
    let found = map (tok s) c.loop-lexemes.lexemes.items in
    let depth = c.loop-lexemes.invariant.depth in
    let size = length-map c.loop-lexemes.lexemes.items (tok s) in
    let few = c.loop-lexemes.invariant.count in (
      omega (
        arith,
        depth.opened,
        count_small opens found,
        size,
        few,
        c.loop-lexemes.invariant.to,
        c.requires,
      ),
      omega (
        arith,
        depth.closed,
        count_small closes found,
        size,
        few,
        c.loop-lexemes.invariant.to,
        c.requires,
      ),
    )

pub returns-clause-lexemes : goal.returns-clause-lexemes
returns-clause-lexemes c =
    let so_far = c.loop-lexemes.invariant.so_far in
    let deep = c.is_exceeded.ensures (map (tok c.args.text.now) c.loop-lexemes.lexemes.items)
    c.loop-lexemes.invariant.depth in record {
      tokens = so_far.tokens;
      are = record {
        end = c.loop-lexemes.end;
        reads = so_far.reads;
        no_more = search (rules, c.in_ok-token.ensures.next);
      };
      meant = so_far.meant;
      shallow = λ h. true≢false (sym (deep.1 h) ∙ c.if-is_exceeded.false);
    }
