use Rattle.std.proofs.Common.{rules, ◌≡◌, ◌<◌, ◌-◌, length, Some, None, [], ◌∷◌, ◌++◌, sym, ap, ◌∙◌, subst, arith, to_z-of_z, option_map}
use Rattle.std.proofs.lemmas.List.{map-append}
use Rattle.std.specs.Prelude.{IsUtf8}
use Rattle.json.specs.Token.{Token}
use Rattle.json.specs.Json.{parse_map, after_end_array, read_key, value, items as items_of, members as members_of}
use Rattle.json.specs.Reads.{token_of}
use Rattle.json.proofs.Grammar.{value_is, value-begin_array, value-begin_object, read_key-shorter}
use Rattle.serde_json.specs.Read.{converted}
use Rattle.cs_value.specs.Tree.{null, boolean, integer, text, list, object, trees, no_pairs}
use Rattle.cs_value.specs.Pairs.{put}
use Rattle.cs_value.specs.View.{tree, fields, list_tree}
use Rattle.cs_value.specs.declared.val.Val.{Null, Bool, Num, Text, the_lemmas}
use Rattle.cs_value.specs.declared.val.Val as val
use Rattle.cs_value.proofs.Views.{tree-List, tree-Obj}
use Rattle.cs_json.specs.Direct.{made, made_items, named, put_all, Fits, AllFit}
use Rattle.cs_json.proofs.Tokens.{before, ok_pushed, ok_holds, same_items, item_read, items_over, member_read, members_over, no_member_before, put_all-push, made-array, made-object, AllFit-push, NamedFit-push, list_fits, object_fits}
use Rattle.cs_json.proofs.direct.+read.Goals as goal

pub read_items-items-preserved : goal.read_items-items-preserved
read_items-items-preserved t c =
    let p = value c.args.levels in
    let l = c.items in
    let n = l.invariant.0 in
    let r = c.read_value.new.reader in
    let v = c.in_ok-item.item in
    let done = c.in_ok-item.ensures in
    let going : (after_end_array l.reader ≡ None) × (c.take_end_array.new.self ≡ l.reader) = grind arith in
    let less : length r < length l.reader = rw (← going.1) done.shorter in
    let items = ok_pushed c.push.result c.in_ok-ok.field-0 c.push.new.self.items (l.found.items ++ v ∷ []) l.found.items c.in_ok-ok.ensures.value c.push.ensures.items in
    let pushed : list_tree l.found.items ++ tree v ∷ [] ≡ list_tree c.push.new.self.items = sym (ap list_tree items ∙ map-append tree l.found.items (v ∷ [])) in
    let all = converted made_items (items_of p (length c.args.reader.now) c.args.reader.now) in
    let turn = item_read p all (list_tree l.found.items) n l.reader r (tree v) (omega (arith, l.invariant.1)) going.0 l.invariant.2 (rw (← going.1) done.value) in (
      n - 1,
      omega (arith, l.invariant.1),
      turn ∙ ap (λ ts. parse_map (before ts) (converted made_items (items_of p (n - 1) r))) pushed,
      omega (arith, l.invariant.3),
      subst (AllFit c.args.left) pushed (AllFit-push c.args.left (list_tree l.found.items) (tree v) l.invariant.4 done.fits),
    )

pub read_items-returns-clause-items : goal.read_items-returns-clause-items
read_items-returns-clause-items t c =
    let p = value c.args.levels in
    let l = c.items in
    let all = converted made_items (items_of p (length c.args.reader.now) c.args.reader.now) in
    let r = c.take_end_array.new.self in
    let over = items_over p all (list_tree l.found.items) l.invariant.0 l.reader r l.invariant.1 c.items-test.ensures l.invariant.2 in
    same_items c.just_its_size.result l.found.items (λ vs. all ≡ Some (trees (list_tree vs), r)) over c.just_its_size.ensures

pub read_members-members-init : goal.read_members-members-init
read_members-members-init t c =
    let empty = ok_holds (λ f. fields f ≡ no_pairs) c.with_capacity.result c.in_ok-object.object c.in_ok-object.ensures.value c.with_capacity.ensures in (
      [],
      length c.args.reader.now,
      omega arith,
      no_member_before (converted named (members_of (value c.args.levels) (length c.args.reader.now) c.args.reader.now)),
      omega arith,
      (empty, tt),
    )

pub read_members-members-preserved : goal.read_members-members-preserved
read_members-members-preserved t c =
    let p = value c.args.levels in
    let l = c.members in
    let es = l.invariant.0 in
    let n = l.invariant.1 in
    let k = c.in-Some.name.now in
    let s = c.next_key.new.self in
    let r = c.read_value.new.reader in
    let v = c.in_ok-member.member in
    let name = c.in_ok-name-2.name in
    let done = c.in_ok-member.ensures in
    let is : read_key l.reader ≡ Some (Some k, s) = grind arith in
    let copied : name ≡ k = ok_holds (λ x. x ≡ k) c.copy_of.result name c.in_ok-name-2.ensures.value c.copy_of.ensures in
    let less = read_key-shorter l.reader (Some k) s is in
    let lesser = done.shorter in
    let placed : fields c.set.new.self ≡ put name (tree v) (fields l.object) =
    ok_holds (λ _. fields c.set.new.self ≡ put name (tree v) (fields l.object)) c.set.result c.in_ok-ok.field-0 c.in_ok-ok.ensures.value c.set.ensures.put in
    let together : fields c.set.new.self ≡ put_all (es ++ (k, tree v) ∷ []) no_pairs =
    placed ∙ ap (λ x. put x (tree v) (fields l.object)) copied ∙ ap (put k (tree v)) l.invariant.5.0 ∙ sym (put_all-push es (k, tree v) no_pairs) in
    let all = converted named (members_of p (length c.args.reader.now) c.args.reader.now) in
    let utf8 : IsUtf8 k = search rules in (
      es ++ (k, tree v) ∷ [],
      n - 1,
      omega (arith, l.invariant.2),
      member_read p all es n k l.reader s r (tree v) (omega (arith, l.invariant.2)) is l.invariant.3 done.value,
      omega (arith, l.invariant.4),
      (together, NamedFit-push c.args.left es (k, tree v) l.invariant.5.1 utf8 done.fits),
    )

pub read_members-returns-clause-members : goal.read_members-returns-clause-members
read_members-returns-clause-members t c =
    let p = value c.args.levels in
    let l = c.members in
    let all = converted named (members_of p (length c.args.reader.now) c.args.reader.now) in
    let over = members_over p all l.invariant.0 l.invariant.1 l.reader c.next_key.new.self l.invariant.2 (grind arith) l.invariant.3 in
    (l.invariant.0, over, l.invariant.5)

pub read_value-returns-in-Null-clause-value : goal.read_value-returns-in-Null-clause-value
read_value-returns-in-Null-clause-value t c =
    let first : c.args.reader.now ≡ token_of c.in_ok-token.token ∷ c.next.new.self = grind arith in
    let is : c.args.reader.now ≡ Token.null ∷ c.next.new.self = grind (arith, first) in
    let seen : tree (val.Null) ≡ null = search (rules, the_lemmas) in
    ap (converted made) (ap (value c.args.levels) is ∙ value_is c.args.levels (Token.null ∷ c.next.new.self)) ∙ ap (λ d. Some (d, c.next.new.self)) (sym seen)

pub read_value-returns-in-Bool-clause-value : goal.read_value-returns-in-Bool-clause-value
read_value-returns-in-Bool-clause-value t c =
    let first : c.args.reader.now ≡ token_of c.in_ok-token.token ∷ c.next.new.self = grind arith in
    let is : c.args.reader.now ≡ Token.boolean c.in-Bool.b ∷ c.next.new.self = grind (arith, first) in
    let seen : tree (val.Bool c.in-Bool.b) ≡ boolean c.in-Bool.b = search (rules, the_lemmas) in
    ap (converted made) (ap (value c.args.levels) is ∙ value_is c.args.levels (Token.boolean c.in-Bool.b ∷ c.next.new.self)) ∙ ap (λ d. Some (d, c.next.new.self)) (sym seen)

pub read_value-returns-in_ok-whole_number-in-Number-clause-value : goal.read_value-returns-in_ok-whole_number-in-Number-clause-value
read_value-returns-in_ok-whole_number-in-Number-clause-value t c =
    let first : c.args.reader.now ≡ token_of c.in_ok-token.token ∷ c.next.new.self = grind arith in
    let is : c.args.reader.now ≡ Token.number c.in-Number.text.now ∷ c.next.new.self = grind (arith, first) in
    let n = c.in_ok-whole_number-in-Number in
    let same = to_z-of_z n.ensures.fits in
    let seen : tree (val.Num n.field-0) ≡ integer n.field-0 = search (rules, the_lemmas) in
    ap (converted made) (ap (value c.args.levels) is ∙ value_is c.args.levels (Token.number c.in-Number.text.now ∷ c.next.new.self)) ∙ ap (λ o. option_map (λ d. (d, c.next.new.self)) (option_map integer o)) n.ensures.value
    ∙ ap (λ d. Some (d, c.next.new.self)) (sym (ap (λ z. tree (val.Num z)) same ∙ seen))

pub read_value-returns-in_ok-ok-in-String-clause-value : goal.read_value-returns-in_ok-ok-in-String-clause-value
read_value-returns-in_ok-ok-in-String-clause-value t c =
    let first : c.args.reader.now ≡ token_of c.in_ok-token.token ∷ c.next.new.self = grind arith in
    let is : c.args.reader.now ≡ Token.string c.in-String.text.now ∷ c.next.new.self = grind (arith, first) in
    let s = c.in_ok-ok-in-String in
    let copied : s.field-0 ≡ c.in-String.text.now = ok_holds (λ x. x ≡ c.in-String.text.now) c.copy_of.result s.field-0 s.ensures.value c.copy_of.ensures in
    let seen : tree (val.Text s.field-0) ≡ text s.field-0 = search (rules, the_lemmas) in
    ap (converted made) (ap (value c.args.levels) is ∙ value_is c.args.levels (Token.string c.in-String.text.now ∷ c.next.new.self)) ∙ ap (λ d. Some (d, c.next.new.self)) (sym (seen ∙ ap text copied))

pub read_value-returns-in_ok-read_items-in-BeginArray-clause-value : goal.read_value-returns-in_ok-read_items-in-BeginArray-clause-value
read_value-returns-in_ok-read_items-in-BeginArray-clause-value t c =
    let first : c.args.reader.now ≡ token_of c.in_ok-token.token ∷ c.next.new.self = grind arith in
    let is : c.args.reader.now ≡ Token.begin_array ∷ c.next.new.self = grind (arith, first) in
    let opened = ap (converted made) (ap (value c.args.levels) is ∙ value-begin_array c.args.levels c.next.new.self (omega arith)) ∙ made-array (items_of (value (c.args.levels - 1)) (length c.next.new.self) c.next.new.self) in
    let found = c.in_ok-read_items-in-BeginArray in
    opened ∙ ap (parse_map list) found.ensures.items ∙ ap (λ d. Some (d, c.read_items.new.reader)) (sym (tree-List found.field-0))

pub read_value-returns-in_ok-read_items-in-BeginArray-clause-fits : goal.read_value-returns-in_ok-read_items-in-BeginArray-clause-fits
read_value-returns-in_ok-read_items-in-BeginArray-clause-fits t c =
    let found = c.in_ok-read_items-in-BeginArray in
    subst (Fits c.args.left) (sym (tree-List found.field-0)) (list_fits c.args.left (list_tree found.field-0.items) (omega arith) found.ensures.fit)

pub read_value-returns-in_ok-ok-in-BeginObject-clause-value : goal.read_value-returns-in_ok-ok-in-BeginObject-clause-value
read_value-returns-in_ok-ok-in-BeginObject-clause-value t c =
    let first : c.args.reader.now ≡ token_of c.in_ok-token.token ∷ c.next.new.self = grind arith in
    let is : c.args.reader.now ≡ Token.begin_object ∷ c.next.new.self = grind (arith, first) in
    let opened = ap (converted made) (ap (value c.args.levels) is ∙ value-begin_object c.args.levels c.next.new.self (omega arith)) ∙ made-object (members_of (value (c.args.levels - 1)) (length c.next.new.self) c.next.new.self) in
    let found = c.in_ok-object-in-BeginObject in
    let object_is = found.ensures.members in
    let fitting = c.in_ok-ok-in-BeginObject in
    let same : fields fitting.field-0 ≡ fields found.object = ok_holds (λ f. fields f ≡ fields found.object) c.fitted.result fitting.field-0 fitting.ensures.value c.fitted.ensures in
    opened ∙ ap (parse_map (λ es. object (put_all es no_pairs))) object_is.1
    ∙ ap (λ d. Some (d, c.read_members.new.reader)) (sym (tree-Obj fitting.field-0 ∙ ap object (same ∙ object_is.2.0)))

pub read_value-returns-in_ok-ok-in-BeginObject-clause-fits : goal.read_value-returns-in_ok-ok-in-BeginObject-clause-fits
read_value-returns-in_ok-ok-in-BeginObject-clause-fits t c =
    let found = c.in_ok-object-in-BeginObject in
    let object_is = found.ensures.members in
    let fitting = c.in_ok-ok-in-BeginObject in
    let same : fields fitting.field-0 ≡ fields found.object = ok_holds (λ f. fields f ≡ fields found.object) c.fitted.result fitting.field-0 fitting.ensures.value c.fitted.ensures in
    subst (Fits c.args.left) (sym (tree-Obj fitting.field-0 ∙ ap object (same ∙ object_is.2.0))) (object_fits c.args.left object_is.0 (omega arith) object_is.2.1)
