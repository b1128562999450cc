use Rattle.std.proofs.Common.{◌≡◌, List, Some, subst, rules, sym}
use Rattle.cs_syntax.specs.Faults.{fault}
use Rattle.cs_syntax.specs.View.{expression}
use Rattle.cs_faults.specs.Found.{told}
use Rattle.cs_grammar.specs.declared.lexeme.Lexeme.{Lexeme}
use Rattle.cs_parse.specs.Counted.{AreLexemesOf}
use Rattle.cs_parse.proofs.Told.{passed, faulted, passing}
use Rattle.cs_parse.proofs.query.read_text.Goals as goal

pub returns-in_err-expr : goal.returns-in_err-expr
returns-in_err-expr c =
    let all = subst (λ (ls : List Lexeme). AreLexemesOf c.args.text.now ls)
    (sym c.as_slice.ensures.value) c.in_ok-lexemes.ensures.lexemes in
    passed _ _ _ all.are all.meant all.shallow c.in_err-expr.field-0.0 c.in_err-expr.ensures
    c.from_residual-in_err-expr.result c.from_residual-in_err-expr.ensures.1

pub returns-in-Some : goal.returns-in-Some
returns-in-Some c =
    let all = subst (λ (ls : List Lexeme). AreLexemesOf c.args.text.now ls)
    (sym c.as_slice.ensures.value) c.in_ok-lexemes.ensures.lexemes in
    faulted _ _ _ all.are all.meant all.shallow _ _ c.owned.result c.in_ok-expr.ensures
    (subst (λ e. fault (expression e) ≡ Some (told c.in-Some.fault)) c.deref.ensures
    (sym c.in-Some.ensures)) c.owned.ensures

pub returns : goal.returns
returns c =
    let all = subst (λ (ls : List Lexeme). AreLexemesOf c.args.text.now ls)
    (sym c.as_slice.ensures.value) c.in_ok-lexemes.ensures.lexemes in
    passing _ _ _ all.are all.meant all.shallow _ c.of.result c.in_ok-expr.ensures (search rules)
    (search rules)
