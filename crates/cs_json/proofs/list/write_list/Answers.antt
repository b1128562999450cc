use Rattle.std.proofs.Common.{◌∙◌, ◌++◌, ◌∷◌, [], ap, map, false}
use Rattle.cs_json.specs.Text.{items_joined, json_text}
use Rattle.cs_json.proofs.Joined.{joined-texts}
use Rattle.cs_json.proofs.list.write_list.Goals as goal

pub returns : goal.returns
unfolding json_text
returns g c = λ ts same.
    c.in_ok-write_items.ensures
    ∙ ap (λ l. l ++ items_joined false (map g.T.HasText.text c.args.values.now)) (c.in_ok-push.ensures.items ∙ ap (λ l. l ++ 91 ∷ []) c.in_ok-out.ensures.items)
    ∙ ap (λ ys. 91 ∷ items_joined false ys) same
    ∙ ap (λ l. 91 ∷ l) (joined-texts false ts)
