use Rattle.std.proofs.Common.{◌≡◌, ◌∙◌, ap, sym, Some, rules, to_z, of_z, w64}
use Rattle.cs_jsonmatch.specs.Machine.{to}
use Rattle.cs_jsonmatch.specs.Reading.{reading}
use Rattle.cs_jsonmatch.proofs.Readings.{colon_read, onward}
use Rattle.cs_jsonmatch.proofs.cursor.Cursor.position_or_range.Goals as goal

pub returns-then-skip-clause-item : goal.returns-then-skip-clause-item
returns-then-skip-clause-item c p d is =
    let back : to_z w64 (of_z w64 c.args.number) ≡ c.args.number = search (rules) in
    onward c.range.result _ _ _ _ (colon_read c.args.number p d is _ c.args.self.now.rest.now c.skip.new.self.rest.now c.if-skip.ensures.1 ∙ ap (λ n. reading c.skip.new.self.rest.now (to p d is (Some n))) (sym back)) (c.range.ensures.item p d is)
