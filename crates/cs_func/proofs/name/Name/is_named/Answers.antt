use Rattle.std.proofs.Common.{rules, tests, ◌≡◌, ◌∙◌, sym, subst, length, nat_eq, true, ⊎_elim}
use Rattle.std.proofs.lemmas.Bool.{cases_Bool}
use Rattle.std.proofs.lemmas.Map.Text.{is_eq-slice_cmp}
use Rattle.std.specs.Cmp.Lexicographic.{bytes_decides}
use Rattle.std.specs.Str.{bytes_eq}
use Rattle.cs_func.proofs.name.Name.is_named.Goals as goal

pub returns-then-self-name : goal.returns-then-self-name
returns-then-self-name c = search (rules, tests) ∙ sym (is_eq-slice_cmp c.args.self.now.name.now c.args.name.now)

-- texts that are the same have the same length
pub returns-else-self-name : goal.returns-else-self-name
returns-else-self-name c =
    ⊎_elim
    (λ y. subst (λ t. nat_eq (length c.args.self.now.name.now) (length t) ≡ true) ((bytes_decides c.args.self.now.name.now c.args.name.now).0 y) (search (rules, tests))
    ∙ sym (is_eq-slice_cmp c.args.self.now.name.now c.args.name.now ∙ y))
    (λ n. search (rules, tests) ∙ sym (is_eq-slice_cmp c.args.self.now.name.now c.args.name.now ∙ n))
    (cases_Bool (bytes_eq c.args.self.now.name.now c.args.name.now))
