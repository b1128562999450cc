use Rattle.std.proofs.Common.{◌∙◌, sym, inl, inr}
use Rattle.cs_jsonmatch.proofs.Readings.{plain_char, lone_backslash, after_backslash}
use Rattle.cs_jsonmatch.proofs.cursor.Cursor.unescaped.Goals as goal

pub returns-then-c-ne92-clause-text : goal.returns-then-c-ne92-clause-text
returns-then-c-ne92-clause-text c p d is g q s k h = plain_char p d is g q s c.args.c c.args.self.now.rest.now k h c.if-c-ne92.true

pub returns-in-Some-clause-text : goal.returns-in-Some-clause-text
returns-in-Some-clause-text c p d is g q s k h = after_backslash p d is g q s c.args.c c.in-Some.quote c.args.self.now.rest.now c.take.new.self.rest.now c.if-c-ne92.false c.in-Some.ensures.0 (inl c.in-Some.ensures.1)

pub returns-in-Some-take-clause-text : goal.returns-in-Some-take-clause-text
returns-in-Some-take-clause-text c p d is g q s k h = after_backslash p d is g q s c.args.c c.in-Some-take.backslash c.args.self.now.rest.now c.take-2.new.self.rest.now c.if-c-ne92.false (sym c.in_default.ensures.0 ∙ c.in-Some-take.ensures.0) (inr c.in-Some-take.ensures.1)

pub returns-in-None-clause-text : goal.returns-in-None-clause-text
returns-in-None-clause-text c p d is g q s k h = lone_backslash p d is g q s c.args.c c.args.self.now.rest.now c.take.new.self.rest.now c.take-2.new.self.rest.now c.if-c-ne92.false c.in_default.ensures c.in-None.ensures
