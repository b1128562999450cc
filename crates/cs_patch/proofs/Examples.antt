-- What patches make of small documents, computed.
use Rattle.std.proofs.Common.{◌≡◌, ℕ, zero, suc, ℤ, pos, negsuc, List, [], ◌∷◌, Option, Some, None, codes, refl}
use Rattle.cs_value.specs.Tree.{Tree, null, integer, text, list, object, trees, pairs}
use Rattle.cs_jsonmatch.specs.Verdict.{path_verdict}
use Rattle.cs_alter.specs.Inserted.{Side, before, after, replace}
use Rattle.cs_patch.specs.Operations.{document, refused, revision, no_path, not_number, overflow, not_array, immutable, too_deep, Insertion}
use Rattle.cs_patch.specs.Patched.{Patch, patched}

abbrev whole : ℕ → Tree
whole n = integer (pos n)

abbrev items : List Tree → Tree
items ts = list (trees ts)

abbrev obj : List (List ℕ × Tree) → Tree
obj es = object (pairs es)

-- the value inside so many lists
abbrev nested : ℕ → Tree → Tree
nested zero t = t
nested (suc n) t = items (nested n t ∷ [])

-- a document of this revision and moment, with these attributes more
abbrev doc_at : List ℕ → List ℕ → List (List ℕ × Tree) → Tree
doc_at rev moment es =
    obj ((codes "_createdAt", text (codes "m1"))
    ∷ (codes "_id", text (codes "d"))
    ∷ (codes "_rev", text rev)
    ∷ (codes "_type", text (codes "t"))
    ∷ (codes "_updatedAt", text moment)
    ∷ es)

-- the same before and after the patch of the transaction `t2` at the moment `m2`
abbrev doc : List (List ℕ × Tree) → Tree
doc es = doc_at (codes "t1") (codes "m1") es

abbrev patched_doc : List (List ℕ × Tree) → Tree
patched_doc es = doc_at (codes "t2") (codes "m2") es

-- patches of one operation
abbrev asking :
    Option (List ℕ) → List (List ℕ × Tree) → List (List ℕ × Tree) → List (List ℕ)
    → List (List ℕ × ℤ) → List (List ℕ × ℤ) → Option Insertion → Patch
asking rev missing new gone up down put = record {
  if_revision = rev;
  set_if_missing = missing;
  set = new;
  unset = gone;
  inc = up;
  dec = down;
  insert = put;
}

abbrev nothing : Patch
nothing = asking None [] [] [] [] [] None

abbrev expecting : List ℕ → Patch
expecting rev = asking (Some rev) [] [] [] [] [] None

abbrev setting_missing : List (List ℕ × Tree) → Patch
setting_missing es = asking None es [] [] [] [] None

abbrev setting : List (List ℕ × Tree) → Patch
setting es = asking None [] es [] [] [] None

abbrev unsetting : List (List ℕ) → Patch
unsetting paths = asking None [] [] paths [] [] None

abbrev adding : List (List ℕ × ℤ) → Patch
adding es = asking None [] [] [] es [] None

abbrev subtracting : List (List ℕ × ℤ) → Patch
subtracting es = asking None [] [] [] [] es None

abbrev inserting : Side → List ℕ → List Tree → Patch
inserting side path ts =
    asking None [] [] [] [] [] (Some (record { side = side; path = path; items = ts }))

-- `insert` after `e[-1]` on an empty list puts the items
an_empty_list_takes_items_behind_its_last :
    patched (inserting after (codes "e[-1]") (whole 7 ∷ whole 8 ∷ []))
    (doc ((codes "e", items []) ∷ []))
    (codes "t2")
    (codes "m2")
    ≡ document (patched_doc ((codes "e", items (whole 7 ∷ whole 8 ∷ [])) ∷ []))
unfolding path_verdict
an_empty_list_takes_items_behind_its_last = refl

-- and before `e[0]`
an_empty_list_takes_items_before_its_first :
    patched (inserting before (codes "e[0]") (whole 7 ∷ [])) (doc ((codes "e", items []) ∷ []))
    (codes "t2")
    (codes "m2")
    ≡ document (patched_doc ((codes "e", items (whole 7 ∷ [])) ∷ []))
unfolding path_verdict
an_empty_list_takes_items_before_its_first = refl

-- but not after `e[0]`
an_empty_list_takes_nothing_behind_zero :
    patched (inserting after (codes "e[0]") (whole 7 ∷ [])) (doc ((codes "e", items []) ∷ []))
    (codes "t2")
    (codes "m2")
    ≡ document (patched_doc ((codes "e", items []) ∷ []))
unfolding path_verdict
an_empty_list_takes_nothing_behind_zero = refl

-- nor in the stead of `e[-1]`
an_empty_list_takes_nothing_in_its_last_stead :
    patched (inserting replace (codes "e[-1]") (whole 7 ∷ []))
    (doc ((codes "e", items []) ∷ []))
    (codes "t2")
    (codes "m2")
    ≡ document (patched_doc ((codes "e", items []) ∷ []))
unfolding path_verdict
an_empty_list_takes_nothing_in_its_last_stead = refl

-- nor after `e[-1,-1]`
an_empty_list_takes_nothing_by_two_items :
    patched (inserting after (codes "e[-1,-1]") (whole 7 ∷ []))
    (doc ((codes "e", items []) ∷ []))
    (codes "t2")
    (codes "m2")
    ≡ document (patched_doc ((codes "e", items []) ∷ []))
unfolding path_verdict
an_empty_list_takes_nothing_by_two_items = refl

-- a position that is not there matches nothing in a list with elements
no_match_puts_nothing :
    patched (inserting after (codes "e[3]") (whole 7 ∷ []))
    (doc ((codes "e", items (whole 1 ∷ whole 2 ∷ [])) ∷ []))
    (codes "t2")
    (codes "m2")
    ≡ document (patched_doc ((codes "e", items (whole 1 ∷ whole 2 ∷ [])) ∷ []))
unfolding path_verdict
no_match_puts_nothing = refl

-- `before` is before the first match
before_the_first_match :
    patched (inserting before (codes "e[@ >= 2]") (whole 7 ∷ whole 8 ∷ []))
    (doc ((codes "e", items (whole 1 ∷ whole 2 ∷ whole 3 ∷ [])) ∷ []))
    (codes "t2")
    (codes "m2")
    ≡ document
    (patched_doc
    ((codes "e", items (whole 1 ∷ whole 7 ∷ whole 8 ∷ whole 2 ∷ whole 3 ∷ [])) ∷ []))
unfolding path_verdict
before_the_first_match = refl

-- `after` is after the last match
after_the_last_match :
    patched (inserting after (codes "e[0,1]") (whole 7 ∷ whole 8 ∷ []))
    (doc ((codes "e", items (whole 1 ∷ whole 2 ∷ whole 3 ∷ [])) ∷ []))
    (codes "t2")
    (codes "m2")
    ≡ document
    (patched_doc
    ((codes "e", items (whole 1 ∷ whole 2 ∷ whole 7 ∷ whole 8 ∷ whole 3 ∷ [])) ∷ []))
unfolding path_verdict
after_the_last_match = refl

-- `replace` removes all matches, and puts the items where the first was
replace_stands_at_the_first_match :
    patched (inserting replace (codes "e[1,3]") (whole 7 ∷ whole 8 ∷ []))
    (doc ((codes "e", items (whole 0 ∷ whole 1 ∷ whole 2 ∷ whole 3 ∷ whole 4 ∷ [])) ∷ []))
    (codes "t2")
    (codes "m2")
    ≡ document
    (patched_doc
    ((codes "e", items (whole 0 ∷ whole 7 ∷ whole 8 ∷ whole 2 ∷ whole 4 ∷ [])) ∷ []))
unfolding path_verdict
replace_stands_at_the_first_match = refl

-- `setIfMissing` leaves null
null_is_not_absent :
    patched (setting_missing ((codes "a", whole 1) ∷ (codes "b", whole 2) ∷ []))
    (doc ((codes "a", null) ∷ []))
    (codes "t2")
    (codes "m2")
    ≡ document (patched_doc ((codes "a", null) ∷ (codes "b", whole 2) ∷ []))
unfolding path_verdict
null_is_not_absent = refl

-- `setIfMissing` makes what is absent, with objects on the way
absent_is_made :
    patched (setting_missing ((codes "x.y.z", whole 1) ∷ [])) (doc []) (codes "t2") (codes "m2")
    ≡ document
    (patched_doc ((codes "x", obj ((codes "y", obj ((codes "z", whole 1) ∷ [])) ∷ [])) ∷ []))
unfolding path_verdict
absent_is_made = refl

-- `setIfMissing` is not refused at a fixed attribute that is there
fixed_and_there_is_not_asked :
    patched (setting_missing ((codes "_id", text (codes "e")) ∷ [])) (doc []) (codes "t2")
    (codes "m2")
    ≡ document (patched_doc [])
unfolding path_verdict
fixed_and_there_is_not_asked = refl

-- `setIfMissing` below a fixed text leads nowhere: nothing happens
fixed_inside_is_refused :
    patched (setting_missing ((codes "_id.x", whole 1) ∷ [])) (doc []) (codes "t2") (codes "m2")
    ≡ document (patched_doc [])
unfolding path_verdict
fixed_inside_is_refused = refl

-- a run that meets something that is no object has no target
a_run_is_blocked :
    patched (setting ((codes "a.b", whole 1) ∷ [])) (doc ((codes "a", whole 5) ∷ []))
    (codes "t2")
    (codes "m2")
    ≡ document (patched_doc ((codes "a", whole 5) ∷ []))
unfolding path_verdict
a_run_is_blocked = refl

-- null blocks too
a_run_is_blocked_by_null :
    patched (setting ((codes "a.b", whole 1) ∷ [])) (doc ((codes "a", null) ∷ [])) (codes "t2")
    (codes "m2")
    ≡ document (patched_doc ((codes "a", null) ∷ []))
unfolding path_verdict
a_run_is_blocked_by_null = refl

-- so does a list
a_run_is_blocked_by_a_list :
    patched (setting ((codes "a.b", whole 1) ∷ []))
    (doc ((codes "a", items (obj ((codes "b", whole 2) ∷ []) ∷ [])) ∷ []))
    (codes "t2")
    (codes "m2")
    ≡ document (patched_doc ((codes "a", items (obj ((codes "b", whole 2) ∷ []) ∷ [])) ∷ []))
unfolding path_verdict
a_run_is_blocked_by_a_list = refl

-- `set` makes objects on the way
set_makes_the_way :
    patched (setting ((codes "x.y", whole 1) ∷ [])) (doc []) (codes "t2") (codes "m2")
    ≡ document (patched_doc ((codes "x", obj ((codes "y", whole 1) ∷ [])) ∷ []))
unfolding path_verdict
set_makes_the_way = refl

-- in each place of the prefix; where the name is absent it is made
set_makes_below_each_place :
    patched (setting ((codes "a[*].b", whole 9) ∷ []))
    (doc ((codes "a", items (obj ((codes "b", whole 1) ∷ []) ∷ obj [] ∷ whole 3 ∷ [])) ∷ []))
    (codes "t2")
    (codes "m2")
    ≡ document
    (patched_doc
    ((
      codes "a",
      items
          (obj ((codes "b", whole 9) ∷ [])
          ∷ obj ((codes "b", whole 9) ∷ [])
          ∷ whole 3 ∷ []),
    ) ∷ []))
unfolding path_verdict
set_makes_below_each_place = refl

-- a bracket with one quoted name makes as a name does
a_bracket_of_one_name_is_a_run :
    patched (setting ((codes "['x y'].z", whole 1) ∷ [])) (doc []) (codes "t2") (codes "m2")
    ≡ document (patched_doc ((codes "x y", obj ((codes "z", whole 1) ∷ [])) ∷ []))
unfolding path_verdict
a_bracket_of_one_name_is_a_run = refl

-- a bracket with two names makes nothing
two_names_make_nothing :
    patched (setting ((codes "['x','a']", whole 1) ∷ [])) (doc ((codes "a", whole 0) ∷ []))
    (codes "t2")
    (codes "m2")
    ≡ document (patched_doc ((codes "a", whole 1) ∷ []))
unfolding path_verdict
two_names_make_nothing = refl

-- nor does a name behind `..`
a_deep_name_makes_nothing :
    patched (setting ((codes "..x", whole 1) ∷ []))
    (doc ((codes "a", obj ((codes "x", whole 0) ∷ [])) ∷ []))
    (codes "t2")
    (codes "m2")
    ≡ document (patched_doc ((codes "a", obj ((codes "x", whole 1) ∷ [])) ∷ []))
unfolding path_verdict
a_deep_name_makes_nothing = refl

-- a target inside another one is dropped: the inner `a` is gone with the outer
a_target_inside_another_is_dropped :
    patched (setting ((codes "..a", whole 7) ∷ []))
    (doc
    ((codes "a", obj ((codes "a", whole 1) ∷ []))
    ∷ (codes "b", obj ((codes "a", whole 2) ∷ [])) ∷ []))
    (codes "t2")
    (codes "m2")
    ≡ document
    (patched_doc ((codes "a", whole 7) ∷ (codes "b", obj ((codes "a", whole 7) ∷ [])) ∷ []))
unfolding path_verdict
a_target_inside_another_is_dropped = refl

-- what is dropped gives no refusal: the outer `a` is no number, and the inner one would be
a_dropped_target_refuses_nothing :
    patched (adding ((codes "..a", pos 1) ∷ []))
    (doc
    ((codes "a", obj ((codes "a", whole 1) ∷ []))
    ∷ (codes "b", obj ((codes "a", whole 9223372036854775807) ∷ [])) ∷ []))
    (codes "t2")
    (codes "m2")
    ≡ refused (not_number (codes "..a"))
unfolding path_verdict
a_dropped_target_refuses_nothing = refl

-- `unset` of several positions removes those that stood there before
unset_by_positions_before :
    patched (unsetting (codes "e[0,1,3]" ∷ []))
    (doc ((codes "e", items (whole 0 ∷ whole 1 ∷ whole 2 ∷ whole 3 ∷ whole 4 ∷ [])) ∷ []))
    (codes "t2")
    (codes "m2")
    ≡ document (patched_doc ((codes "e", items (whole 2 ∷ whole 4 ∷ [])) ∷ []))
unfolding path_verdict
unset_by_positions_before = refl

-- two paths of `unset` are one after the other
unset_one_after_the_other :
    patched (unsetting (codes "e[0]" ∷ codes "e[0]" ∷ []))
    (doc ((codes "e", items (whole 0 ∷ whole 1 ∷ whole 2 ∷ [])) ∷ []))
    (codes "t2")
    (codes "m2")
    ≡ document (patched_doc ((codes "e", items (whole 2 ∷ [])) ∷ []))
unfolding path_verdict
unset_one_after_the_other = refl

-- and in the order of their list
unset_in_the_order_of_the_list :
    patched (unsetting (codes "e[2]" ∷ codes "e[0]" ∷ []))
    (doc ((codes "e", items (whole 0 ∷ whole 1 ∷ whole 2 ∷ [])) ∷ []))
    (codes "t2")
    (codes "m2")
    ≡ document (patched_doc ((codes "e", items (whole 1 ∷ [])) ∷ []))
unfolding path_verdict
unset_in_the_order_of_the_list = refl

-- `unset` by `..[*]` removes the elements of each outermost list
unset_all :
    patched (unsetting (codes "..[1:]" ∷ []))
    (doc
    ((codes "a", items (whole 1 ∷ items (whole 2 ∷ whole 3 ∷ []) ∷ whole 4 ∷ []))
    ∷ (codes "b", obj ((codes "c", items (whole 5 ∷ whole 6 ∷ [])) ∷ [])) ∷ []))
    (codes "t2")
    (codes "m2")
    ≡ document
    (patched_doc
    ((codes "a", items (whole 1 ∷ []))
    ∷ (codes "b", obj ((codes "c", items (whole 5 ∷ [])) ∷ [])) ∷ []))
unfolding path_verdict
unset_all = refl

-- `unset` of what is absent does nothing
unset_what_is_absent :
    patched (unsetting (codes "x.y" ∷ [])) (doc []) (codes "t2") (codes "m2")
    ≡ document (patched_doc [])
unfolding path_verdict
unset_what_is_absent = refl

-- `inc` before `dec`, on each target
inc_and_dec :
    patched
    (record {
      if_revision = None;
      set_if_missing = [];
      set = [];
      unset = [];
      inc = (codes "e[*]", pos 5) ∷ [];
      dec = (codes "e[0]", pos 7) ∷ [];
      insert = None;
    })
    (doc ((codes "e", items (whole 1 ∷ integer (negsuc 1) ∷ [])) ∷ []))
    (codes "t2")
    (codes "m2")
    ≡ document (patched_doc ((codes "e", items (integer (negsuc 0) ∷ whole 3 ∷ [])) ∷ []))
unfolding path_verdict
inc_and_dec = refl

-- `inc` of what is absent does nothing
inc_of_nothing :
    patched (adding ((codes "x", pos 1) ∷ [])) (doc []) (codes "t2") (codes "m2")
    ≡ document (patched_doc [])
unfolding path_verdict
inc_of_nothing = refl

-- the greatest number is reached
inc_to_the_greatest :
    patched (adding ((codes "a", pos 1) ∷ []))
    (doc ((codes "a", whole 9223372036854775806) ∷ []))
    (codes "t2")
    (codes "m2")
    ≡ document (patched_doc ((codes "a", whole 9223372036854775807) ∷ []))
unfolding path_verdict
inc_to_the_greatest = refl

-- and not passed
inc_overflows :
    patched (adding ((codes "a", pos 1) ∷ []))
    (doc ((codes "a", whole 9223372036854775807) ∷ []))
    (codes "t2")
    (codes "m2")
    ≡ refused (overflow (codes "a"))
unfolding path_verdict
inc_overflows = refl

-- nor the least
dec_overflows :
    patched (subtracting ((codes "a", pos 1) ∷ []))
    (doc ((codes "a", integer (negsuc 9223372036854775807)) ∷ []))
    (codes "t2")
    (codes "m2")
    ≡ refused (overflow (codes "a"))
unfolding path_verdict
dec_overflows = refl

-- `dec` by the least number adds 2^63
dec_of_the_least :
    patched (subtracting ((codes "a", negsuc 9223372036854775807) ∷ []))
    (doc ((codes "a", integer (negsuc 0)) ∷ []))
    (codes "t2")
    (codes "m2")
    ≡ document (patched_doc ((codes "a", whole 9223372036854775807) ∷ []))
unfolding path_verdict
dec_of_the_least = refl

-- a text is no number
inc_of_a_text :
    patched (adding ((codes "a", pos 1) ∷ [])) (doc ((codes "a", text (codes "1")) ∷ []))
    (codes "t2")
    (codes "m2")
    ≡ refused (not_number (codes "a"))
unfolding path_verdict
inc_of_a_text = refl

-- the refusal is that of the first target in document order
the_first_target_refuses :
    patched (adding ((codes "e[*]", pos 1) ∷ []))
    (doc
    ((codes "e", items (whole 1 ∷ whole 9223372036854775807 ∷ text (codes "x") ∷ [])) ∷ []))
    (codes "t2")
    (codes "m2")
    ≡ refused (overflow (codes "e[*]"))
unfolding path_verdict
the_first_target_refuses = refl

-- a fixed attribute is told before that it is no number
fixed_before_not_number :
    patched (adding ((codes "_rev", pos 1) ∷ [])) (doc []) (codes "t2") (codes "m2")
    ≡ refused (immutable (codes "_rev"))
unfolding path_verdict
fixed_before_not_number = refl

-- no patch writes `_type`
set_of_a_fixed_attribute :
    patched (setting ((codes "_type", text (codes "u")) ∷ [])) (doc []) (codes "t2") (codes "m2")
    ≡ refused (immutable (codes "_type"))
unfolding path_verdict
set_of_a_fixed_attribute = refl

-- or removes `_id`; the first in document order is told
unset_of_a_fixed_attribute :
    patched (unsetting (codes "[*]" ∷ [])) (doc ((codes "a", whole 1) ∷ [])) (codes "t2")
    (codes "m2")
    ≡ refused (immutable (codes "_createdAt"))
unfolding path_verdict
unset_of_a_fixed_attribute = refl

-- `_id` further inside is written
a_later_name_is_not_fixed :
    patched (setting ((codes "a._id", whole 1) ∷ []))
    (doc ((codes "a", obj ((codes "_id", whole 0) ∷ [])) ∷ []))
    (codes "t2")
    (codes "m2")
    ≡ document (patched_doc ((codes "a", obj ((codes "_id", whole 1) ∷ [])) ∷ []))
unfolding path_verdict
a_later_name_is_not_fixed = refl

-- a path of `insert` that ends with a name is no array, whatever stands there
insert_by_a_name :
    patched (inserting after (codes "e") (whole 1 ∷ [])) (doc ((codes "e", items []) ∷ []))
    (codes "t2")
    (codes "m2")
    ≡ refused (not_array (codes "e"))
unfolding path_verdict
insert_by_a_name = refl

-- nor with a quoted name among other items
insert_by_a_quoted_name :
    patched (inserting after (codes "e[0,'a']") (whole 1 ∷ []))
    (doc ((codes "e", items (whole 1 ∷ [])) ∷ []))
    (codes "t2")
    (codes "m2")
    ≡ refused (not_array (codes "e[0,'a']"))
unfolding path_verdict
insert_by_a_quoted_name = refl

-- nor with `..`
insert_deep :
    patched (inserting after (codes "e..[0]") (whole 1 ∷ []))
    (doc ((codes "e", items (whole 1 ∷ [])) ∷ []))
    (codes "t2")
    (codes "m2")
    ≡ refused (not_array (codes "e..[0]"))
unfolding path_verdict
insert_deep = refl

-- a parent that is no list
insert_into_an_object :
    patched (inserting after (codes "e[0]") (whole 1 ∷ []))
    (doc ((codes "e", obj ((codes "a", whole 1) ∷ [])) ∷ []))
    (codes "t2")
    (codes "m2")
    ≡ refused (not_array (codes "e[0]"))
unfolding path_verdict
insert_into_an_object = refl

-- and the document itself
insert_at_the_root :
    patched (inserting after (codes "[0]") (whole 1 ∷ [])) (doc []) (codes "t2") (codes "m2")
    ≡ refused (not_array (codes "[0]"))
unfolding path_verdict
insert_at_the_root = refl

-- without parents nothing happens
insert_without_parents :
    patched (inserting after (codes "x[0]") (whole 1 ∷ [])) (doc []) (codes "t2") (codes "m2")
    ≡ document (patched_doc [])
unfolding path_verdict
insert_without_parents = refl

-- a fixed attribute is told before that it is no list
insert_into_a_fixed_attribute :
    patched (inserting after (codes "_id[0]") (whole 1 ∷ [])) (doc []) (codes "t2") (codes "m2")
    ≡ refused (immutable (codes "_id"))
unfolding path_verdict
insert_into_a_fixed_attribute = refl

-- a document of depth 49 is refused
deeper_than_allowed :
    patched (setting ((codes "a", nested 48 (whole 1)) ∷ [])) (doc []) (codes "t2") (codes "m2")
    ≡ refused too_deep
unfolding path_verdict
deeper_than_allowed = refl

-- one of depth 48 is not
as_deep_as_allowed :
    patched (setting ((codes "a", nested 47 (whole 1)) ∷ [])) (doc []) (codes "t2") (codes "m2")
    ≡ document (patched_doc ((codes "a", nested 47 (whole 1)) ∷ []))
unfolding path_verdict
as_deep_as_allowed = refl

-- no later path removes what is too deep
no_later_path_mends_depth :
    patched
    (record {
      if_revision = None;
      set_if_missing = [];
      set = (codes "a", nested 48 (whole 1)) ∷ (codes "b", whole 1) ∷ [];
      unset = codes "a" ∷ [];
      inc = [];
      dec = [];
      insert = None;
    })
    (doc [])
    (codes "t2")
    (codes "m2")
    ≡ refused too_deep
unfolding path_verdict
no_later_path_mends_depth = refl

-- the expected revision is another one
another_revision :
    patched
    (record {
      if_revision = Some (codes "t0");
      set_if_missing = [];
      set = (codes "_id", whole 1) ∷ [];
      unset = [];
      inc = [];
      dec = [];
      insert = None;
    })
    (doc [])
    (codes "t2")
    (codes "m2")
    ≡ refused (revision (codes "t0") (codes "t1"))
unfolding path_verdict
another_revision = refl

-- or the same
the_same_revision :
    patched
    (record {
      if_revision = Some (codes "t1");
      set_if_missing = [];
      set = (codes "a", whole 1) ∷ [];
      unset = [];
      inc = [];
      dec = [];
      insert = None;
    })
    (doc [])
    (codes "t2")
    (codes "m2")
    ≡ document (patched_doc ((codes "a", whole 1) ∷ []))
unfolding path_verdict
the_same_revision = refl

-- a patch without operations sets `_rev` and `_updatedAt`
no_operations :
    patched nothing (doc ((codes "a", whole 1) ∷ [])) (codes "t2") (codes "m2")
    ≡ document (patched_doc ((codes "a", whole 1) ∷ []))
unfolding path_verdict
no_operations = refl

-- setIfMissing, set, unset, inc, dec, insert
in_this_order :
    patched
    (record {
      if_revision = None;
      set_if_missing = (codes "a", whole 1) ∷ (codes "e", items []) ∷ [];
      set = (codes "a", whole 10) ∷ (codes "b", whole 0) ∷ [];
      unset = codes "b" ∷ [];
      inc = (codes "a", pos 5) ∷ [];
      dec = (codes "a", pos 2) ∷ [];
      insert = Some (record { side = after; path = codes "e[-1]"; items = whole 3 ∷ [] });
    })
    (doc [])
    (codes "t2")
    (codes "m2")
    ≡ document (patched_doc ((codes "a", whole 13) ∷ (codes "e", items (whole 3 ∷ [])) ∷ []))
unfolding path_verdict
in_this_order = refl

-- each path sees the outcome of the one before
each_on_the_one_before :
    patched
    (setting
    ((codes "a", obj ((codes "b", whole 1) ∷ []))
    ∷ (codes "a.b", whole 2)
    ∷ (codes "a.c", whole 3) ∷ []))
    (doc [])
    (codes "t2")
    (codes "m2")
    ≡ document
    (patched_doc ((codes "a", obj ((codes "b", whole 2) ∷ (codes "c", whole 3) ∷ [])) ∷ []))
unfolding path_verdict
each_on_the_one_before = refl

-- an absent target inside a target that is there is dropped, and not made
inside_a_target_nothing_is_made :
    patched (setting_missing ((codes "..a.b", whole 1) ∷ []))
    (doc ((codes "a", obj ((codes "b", obj ((codes "a", obj []) ∷ [])) ∷ [])) ∷ []))
    (codes "t2")
    (codes "m2")
    ≡ document
    (patched_doc ((codes "a", obj ((codes "b", obj ((codes "a", obj []) ∷ [])) ∷ [])) ∷ []))
unfolding path_verdict
inside_a_target_nothing_is_made = refl

-- a parent inside another is dropped, and not asked to be a list
inside_a_parent_nothing_is_asked :
    patched (inserting before (codes "a..[*][0]") (whole 7 ∷ []))
    (doc ((codes "a", items (items (items (whole 1 ∷ []) ∷ []) ∷ [])) ∷ []))
    (codes "t2")
    (codes "m2")
    ≡ document
    (patched_doc
    ((codes "a", items (items (whole 7 ∷ items (whole 1 ∷ []) ∷ []) ∷ [])) ∷ []))
unfolding path_verdict
inside_a_parent_nothing_is_asked = refl

-- a text that is no path, with the place of its fault
a_text_is_no_path :
    patched (setting ((codes "a[", whole 1) ∷ [])) (doc []) (codes "t2") (codes "m2")
    ≡ refused (no_path (codes "a[") 2)
unfolding path_verdict
a_text_is_no_path = refl

-- what `setIfMissing` makes is there for `set`
made_before_it_is_set :
    patched
    (record {
      if_revision = None;
      set_if_missing = (codes "a", obj ((codes "b", whole 1) ∷ [])) ∷ [];
      set = (codes "a.c", whole 2) ∷ [];
      unset = [];
      inc = [];
      dec = [];
      insert = None;
    })
    (doc [])
    (codes "t2")
    (codes "m2")
    ≡ document
    (patched_doc ((codes "a", obj ((codes "b", whole 1) ∷ (codes "c", whole 2) ∷ [])) ∷ []))
unfolding path_verdict
made_before_it_is_set = refl

-- what `set` puts is removed by `unset`
set_before_it_is_removed :
    patched
    (record {
      if_revision = None;
      set_if_missing = [];
      set = (codes "a", whole 1) ∷ [];
      unset = codes "a" ∷ [];
      inc = [];
      dec = [];
      insert = None;
    })
    (doc [])
    (codes "t2")
    (codes "m2")
    ≡ document (patched_doc [])
unfolding path_verdict
set_before_it_is_removed = refl

-- what `unset` removes is not counted
removed_before_it_is_counted :
    patched
    (record {
      if_revision = None;
      set_if_missing = [];
      set = [];
      unset = codes "a" ∷ [];
      inc = (codes "a", pos 1) ∷ [];
      dec = [];
      insert = None;
    })
    (doc ((codes "a", text (codes "x")) ∷ []))
    (codes "t2")
    (codes "m2")
    ≡ document (patched_doc [])
unfolding path_verdict
removed_before_it_is_counted = refl

-- `inc` passes the greatest number before `dec` comes
added_before_it_is_subtracted :
    patched
    (record {
      if_revision = None;
      set_if_missing = [];
      set = [];
      unset = [];
      inc = (codes "a", pos 1) ∷ [];
      dec = (codes "a", pos 1) ∷ [];
      insert = None;
    })
    (doc ((codes "a", whole 9223372036854775807) ∷ []))
    (codes "t2")
    (codes "m2")
    ≡ refused (overflow (codes "a"))
unfolding path_verdict
added_before_it_is_subtracted = refl

-- items that `insert` puts are not counted
counted_before_it_is_put :
    patched
    (record {
      if_revision = None;
      set_if_missing = [];
      set = [];
      unset = [];
      inc = [];
      dec = (codes "a[*]", pos 1) ∷ [];
      insert = Some (record { side = after; path = codes "a[-1]"; items = whole 5 ∷ [] });
    })
    (doc ((codes "a", items (whole 3 ∷ [])) ∷ []))
    (codes "t2")
    (codes "m2")
    ≡ document (patched_doc ((codes "a", items (whole 2 ∷ whole 5 ∷ [])) ∷ []))
unfolding path_verdict
counted_before_it_is_put = refl
