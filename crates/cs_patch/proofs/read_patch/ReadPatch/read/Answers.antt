use Rattle.std.proofs.Common.{◌≡◌, None, sym, subst}
use Rattle.cs_patch.specs.Patched.{first_fault}
use Rattle.cs_patch.specs.Readings.{AreShort}
use Rattle.cs_patch.specs.View.{patch}
use Rattle.cs_patch.specs.Faults.{IsFirstFault, IsPathsFault}
use Rattle.cs_patch.proofs.Reading.{passed, short_1, short_2, short_3, short_4, short_5, short_6, none_2, none_3, none_4, none_5, none_6, fault_1, fault_2, fault_3, fault_4, fault_5, fault_6}
use Rattle.cs_patch.proofs.read_patch.ReadPatch.read.Goals as goal

pub values_at-requires : goal.values_at-requires
values_at-requires c = short_1 (patch c.args.patch.now) c.requires.short

pub values_at-requires-2 : goal.values_at-requires-2
values_at-requires-2 c = short_2 (patch c.args.patch.now) c.requires.short

pub numbers_at-requires : goal.numbers_at-requires
numbers_at-requires c = short_4 (patch c.args.patch.now) c.requires.short

pub numbers_at-requires-2 : goal.numbers_at-requires-2
numbers_at-requires-2 c = short_5 (patch c.args.patch.now) c.requires.short

pub insert_at-requires : goal.insert_at-requires
insert_at-requires c = short_6 (patch c.args.patch.now) c.requires.short

pub removals_at-requires : goal.removals_at-requires
removals_at-requires c =
    subst AreShort (sym c.deref.ensures.value) (short_3 (patch c.args.patch.now) c.requires.short)

pub returns-in_err-values_at-clause-refused : goal.returns-in_err-values_at-clause-refused
returns-in_err-values_at-clause-refused c =
    let p = patch c.args.patch.now in
    passed (λ x. IsPathsFault x p) c.from_residual.result c.in_err-values_at.field-0.0 c.from_residual.ensures.1
    (fault_1 p c.in_err-values_at.field-0.0
    c.in_err-values_at.ensures.refused)

pub returns-in_err-values_at-2-clause-refused : goal.returns-in_err-values_at-2-clause-refused
returns-in_err-values_at-2-clause-refused c =
    let p = patch c.args.patch.now in
    passed (λ x. IsPathsFault x p) c.from_residual-in_err-values_at-2.result c.in_err-values_at-2.field-0.0 c.from_residual-in_err-values_at-2.ensures.1
    (fault_2 p c.in_err-values_at-2.field-0.0
    c.in_ok-values_at.ensures.spelled c.in_err-values_at-2.ensures.refused)

pub returns-in_err-removals_at-clause-refused : goal.returns-in_err-removals_at-clause-refused
returns-in_err-removals_at-clause-refused c =
    let p = patch c.args.patch.now in
    passed (λ x. IsPathsFault x p) c.from_residual-in_err-removals_at.result c.in_err-removals_at.field-0.0 c.from_residual-in_err-removals_at.ensures.1
    (fault_3 p c.in_err-removals_at.field-0.0
    (none_2 p c.in_ok-values_at.ensures.spelled c.in_ok-values_at-2.ensures.spelled) (subst (IsFirstFault c.in_err-removals_at.field-0.0) c.deref.ensures.value c.in_err-removals_at.ensures.refused))

pub returns-in_err-numbers_at-clause-refused : goal.returns-in_err-numbers_at-clause-refused
returns-in_err-numbers_at-clause-refused c =
    let p = patch c.args.patch.now in
    passed (λ x. IsPathsFault x p) c.from_residual-in_err-numbers_at.result c.in_err-numbers_at.field-0.0 c.from_residual-in_err-numbers_at.ensures.1
    (fault_4 p c.in_err-numbers_at.field-0.0
    (none_3 p (none_2 p c.in_ok-values_at.ensures.spelled c.in_ok-values_at-2.ensures.spelled) (subst (λ ts. first_fault ts ≡ None) c.deref.ensures.value c.in_ok-removals_at.ensures.spelled)) c.in_err-numbers_at.ensures.refused)

pub returns-in_err-numbers_at-2-clause-refused : goal.returns-in_err-numbers_at-2-clause-refused
returns-in_err-numbers_at-2-clause-refused c =
    let p = patch c.args.patch.now in
    passed (λ x. IsPathsFault x p) c.from_residual-in_err-numbers_at-2.result c.in_err-numbers_at-2.field-0.0 c.from_residual-in_err-numbers_at-2.ensures.1
    (fault_5 p c.in_err-numbers_at-2.field-0.0
    (none_4 p (none_3 p (none_2 p c.in_ok-values_at.ensures.spelled c.in_ok-values_at-2.ensures.spelled) (subst (λ ts. first_fault ts ≡ None) c.deref.ensures.value c.in_ok-removals_at.ensures.spelled)) c.in_ok-numbers_at.ensures.spelled) c.in_err-numbers_at-2.ensures.refused)

pub returns-in_err-insert_at-clause-refused : goal.returns-in_err-insert_at-clause-refused
returns-in_err-insert_at-clause-refused c =
    let p = patch c.args.patch.now in
    passed (λ x. IsPathsFault x p) c.from_residual-in_err-insert_at.result c.in_err-insert_at.field-0.0 c.from_residual-in_err-insert_at.ensures.1
    (fault_6 p c.in_err-insert_at.field-0.0
    (none_5 p (none_4 p (none_3 p (none_2 p c.in_ok-values_at.ensures.spelled c.in_ok-values_at-2.ensures.spelled) (subst (λ ts. first_fault ts ≡ None) c.deref.ensures.value c.in_ok-removals_at.ensures.spelled)) c.in_ok-numbers_at.ensures.spelled) c.in_ok-numbers_at-2.ensures.spelled) c.in_err-insert_at.ensures.refused)

pub returns-clause-spelled : goal.returns-clause-spelled
returns-clause-spelled c =
    let p = patch c.args.patch.now in
    none_6 p (none_5 p (none_4 p (none_3 p (none_2 p c.in_ok-values_at.ensures.spelled c.in_ok-values_at-2.ensures.spelled) (subst (λ ts. first_fault ts ≡ None) c.deref.ensures.value c.in_ok-removals_at.ensures.spelled)) c.in_ok-numbers_at.ensures.spelled) c.in_ok-numbers_at-2.ensures.spelled) c.in_ok-insert_at.ensures.spelled
