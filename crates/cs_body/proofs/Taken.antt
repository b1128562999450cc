-- The parts that are taken one after the other are those of the whole object.
use Rattle.std.proofs.Common.{◌≡◌, ℕ, ℤ, List, [], ◌∷◌, Bool, true, false, cond, Result, Ok, Err, MatchResult, IsErrAnd, subst, bytes_eq, Option, Some, None, option_map, option_and_then, Vec, Global, codes, refl, sym, ap, ◌∙◌}
use Rattle.cs_value.specs.Tree.{Tree, Pairs, no_pairs, attributes}
use Rattle.cs_value.specs.Pairs.{find, without}
use Rattle.cs_value.specs.Words.{as_text, as_list, as_object}
use Rattle.cs_value.specs.View.{tree, list_tree}
use Rattle.cs_value.specs.declared.val.Val.{Val}
use Rattle.cs_value.specs.declared.val.Val as val
use Rattle.cs_value.proofs.Views.{members-trees, tree-List}
use Rattle.cs_wire.specs.Commands.{has_keys, given, text_in, params_in, value_or}
use Rattle.cs_wire.proofs.Asking.{find-left}
use Rattle.cs_alter.specs.Inserted.{Side}
use Rattle.cs_patch.specs.Operations.{Insertion}
use Rattle.cs_patch.specs.Patched.{Patch}
use Rattle.cs_body.specs.Body.{Body, no_command, transaction, action, by_id, by_actions, of_pairs, all_read, numbered, insertion_of, inserted_at, text_or_none, values_in, texts_in, numbers_in, insertion_in, patch_of, patch_keys, patch_in, aim_in, has_diff, change_in}
use Rattle.cs_body.specs.Transaction.{Aim, asked, Action, change}
use Rattle.cs_body.specs.Taken.{IsPartFault, IsPart, KeepsAllBut, aim_keys}
use Rattle.cs_body.specs.View.{txn, IsTxnFault}
use Rattle.cs_body.specs.declared.txn.Txn.{Txn}
use Rattle.cs_body.specs.declared.txn.TxnFault.{TxnFault}
use Rattle.cs_body.specs.declared.txn.TxnFault.TheVariants.{BadCommand, BadTx, NoMemory}
use Rattle.cs_body.proofs.Takes.{keeps_all, keeps_more}

pub inserted_asks : (side : Side) (k : List ℕ) (ps rest : Pairs) (path : Option (List ℕ)) (items : Option (List Tree)) → bytes_eq (codes "items") k ≡ false → path ≡ text_in k ps
    → rest ≡ without k ps → items ≡ option_and_then as_list (find (codes "items") rest)
    → given (option_map (λ path items. record { side = side; path = path; items = items }) path) items ≡ inserted_at side k ps
inserted_asks side k ps rest path items apart p left i =
    let there : items ≡ option_and_then as_list (find (codes "items") ps) = i ∙ ap (option_and_then as_list) (find-left (codes "items") k ps rest apart left) in
    rw (p, there) refl

pub query_asks : (ps rest : Pairs) (text : Option (List ℕ)) (params : Option Pairs) → text ≡ text_in (codes "query") ps → rest ≡ without (codes "query") ps → params ≡ params_in rest
    → given (option_map (λ s params. asked s params) text) params ≡ given (option_map (λ s params. asked s params) (text_in (codes "query") ps)) (params_in ps)
query_asks ps rest text params t left p =
    let there : params ≡ params_in ps = p ∙ ap (value_or no_pairs as_object) (find-left (codes "params") (codes "query") ps rest refl left) in
    rw (t, there) refl

pub listed : (v : Vec Val Global) (found : Option Tree) → Some (tree (val.List v)) ≡ found → Some (list_tree v.items) ≡ option_and_then as_list found
listed v found is = ap Some (sym (members-trees (list_tree v.items))) ∙ ap as_list (sym (tree-List v)) ∙ ap (option_and_then as_list) is

pub texts_found : (v : Vec Val Global) (found : Option Tree) → Some (tree (val.List v)) ≡ found
    → all_read as_text (list_tree v.items) ≡ value_or [] (λ t. option_and_then (all_read as_text) (as_list t)) found
texts_found v found is =
    ap (all_read as_text) (sym (members-trees (list_tree v.items))) ∙ ap (λ t. option_and_then (all_read as_text) (as_list t)) (sym (tree-List v))
    ∙ ap (value_or [] (λ t. option_and_then (all_read as_text) (as_list t))) is

-- a patch by what stands under its keys
abbrev by_finds : Option Tree → Option Tree → Option Tree → Option Tree → Option Tree → Option Tree → Option Tree → Option Patch
by_finds revision missing set unset inc dec insert =
    given (given (given (given (given (given
    (option_map patch_of (value_or None (λ t. option_map Some (as_text t)) revision))
    (value_or [] (λ t. option_map attributes (as_object t)) missing))
    (value_or [] (λ t. option_map attributes (as_object t)) set))
    (value_or [] (λ t. option_and_then (all_read as_text) (as_list t)) unset))
    (option_and_then (all_read numbered) (value_or [] (λ t. option_map attributes (as_object t)) inc)))
    (option_and_then (all_read numbered) (value_or [] (λ t. option_map attributes (as_object t)) dec)))
    (value_or None (λ t. option_map Some (option_and_then insertion_of (as_object t))) insert)

by_same : (a b c d e f g a' b' c' d' e' f' g' : Option Tree) → a ≡ a' → b ≡ b' → c ≡ c' → d ≡ d' → e ≡ e' → f ≡ f' → g ≡ g'
    → by_finds a b c d e f g ≡ by_finds a' b' c' d' e' f' g'
by_same a b c d e f g a' b' c' d' e' f' g' ea eb ec ed ee ef eg = rw (ea, eb, ec, ed, ee, ef, eg) refl

-- no key of an aim is one of a patch
pub patch_kept : (old new : Pairs) → KeepsAllBut aim_keys old new → patch_in new ≡ patch_in old
patch_kept old new keeps =
    by_same _ _ _ _ _ _ _ _ _ _ _ _ _ _ (keeps (codes "ifRevisionID") refl) (keeps (codes "setIfMissing") refl) (keeps (codes "set") refl) (keeps (codes "unset") refl) (keeps (codes "inc") refl)
    (keeps (codes "dec") refl) (keeps (codes "insert") refl)

abbrev patch_of_parts :
    Option (Option (List ℕ)) → Option (List (List ℕ × Tree)) → Option (List (List ℕ × Tree)) → Option (List (List ℕ))
    → Option (List (List ℕ × ℤ)) → Option (List (List ℕ × ℤ)) → Option (Option Insertion) → Option Patch
patch_of_parts revision missing set unset inc dec insert =
    given (given (given (given (given (given (option_map patch_of revision) missing) set) unset) inc) dec) insert

pub patch_asks : (ps p1 p2 p3 p4 p5 p6 : Pairs) (revision : Option (Option (List ℕ))) (missing set : Option (List (List ℕ × Tree))) (unset : Option (List (List ℕ)))
    (inc dec : Option (List (List ℕ × ℤ))) (insert : Option (Option Insertion))
    → text_or_none (codes "ifRevisionID") ps ≡ revision → p1 ≡ without (codes "ifRevisionID") ps
    → values_in (codes "setIfMissing") p1 ≡ missing → p2 ≡ without (codes "setIfMissing") p1
    → values_in (codes "set") p2 ≡ set → p3 ≡ without (codes "set") p2
    → texts_in (codes "unset") p3 ≡ unset → p4 ≡ without (codes "unset") p3
    → numbers_in (codes "inc") p4 ≡ inc → p5 ≡ without (codes "inc") p4
    → numbers_in (codes "dec") p5 ≡ dec → p6 ≡ without (codes "dec") p5
    → insertion_in p6 ≡ insert
    → patch_in ps ≡ patch_of_parts revision missing set unset inc dec insert
patch_asks ps p1 p2 p3 p4 p5 p6 revision missing set unset inc dec insert e0 l1 e1 l2 e2 l3 e3 l4 e4 l5 e5 l6 e6 =
    let k1 = keeps_more [] (codes "ifRevisionID") ps ps p1 (keeps_all ps) l1 in
    let k2 = keeps_more (codes "ifRevisionID" ∷ []) (codes "setIfMissing") ps p1 p2 k1 l2 in
    let k3 = keeps_more (codes "setIfMissing" ∷ codes "ifRevisionID" ∷ []) (codes "set") ps p2 p3 k2 l3 in
    let k4 = keeps_more (codes "set" ∷ codes "setIfMissing" ∷ codes "ifRevisionID" ∷ []) (codes "unset") ps p3 p4 k3 l4 in
    let k5 = keeps_more (codes "unset" ∷ codes "set" ∷ codes "setIfMissing" ∷ codes "ifRevisionID" ∷ []) (codes "inc") ps p4 p5 k4 l5 in
    let k6 = keeps_more (codes "inc" ∷ codes "unset" ∷ codes "set" ∷ codes "setIfMissing" ∷ codes "ifRevisionID" ∷ []) (codes "dec") ps p5 p6 k5 l6 in
    let same = by_same (find (codes "ifRevisionID") ps) _ _ _ _ _ _ _ _ _ _ _ _ _ refl (k1 (codes "setIfMissing") refl) (k2 (codes "set") refl) (k3 (codes "unset") refl) (k4 (codes "inc") refl)
    (k5 (codes "dec") refl) (k6 (codes "insert") refl) in
    sym same ∙ rw (e0, e1, e2, e3, e4, e5, e6) refl

pub change_asks : (ps left : Pairs) (aim : Option Aim) (patch : Option Patch) (diff : Bool) → aim_in patch_keys ps ≡ aim → KeepsAllBut aim_keys ps left → patch_in left ≡ patch
    → diff ≡ has_diff ps → change_in ps ≡ given (option_map (λ aim p. change aim p diff) aim) patch
change_asks ps left aim patch diff a keeps p d =
    let there : patch_in ps ≡ patch = sym (patch_kept ps left keeps) ∙ p in rw (sym a, sym there, d) refl

-- a part that is not there, and then the whole is not
pub whole_fault : {A B : Type 0} (e : TxnFault) (part : Option A) (whole : Option B) → IsPartFault e part → (part ≡ None → whole ≡ None) → IsPartFault e whole
whole_fault BadCommand part whole is none = none is
whole_fault BadTx part whole is none = is
whole_fault NoMemory part whole is none = tt

body_fault : {A : Type 0} (e : TxnFault) (part : Option A) (whole : Body) → IsPartFault e part → (part ≡ None → whole ≡ no_command) → IsTxnFault e whole
body_fault BadCommand part whole is none = none is
body_fault BadTx part whole is none = absurd is
body_fault NoMemory part whole is none = tt

-- what is handed on says of the whole what it said of the part
pub handed : {A B C : Type 0} (view : A → B) (r : Result A TxnFault) (e : TxnFault) (part : Option C) (whole : Option B) → IsPartFault e part → IsErrAnd r (λ y. y ≡ e)
    → (part ≡ None → whole ≡ None) → IsPart view r whole
handed view (Ok a) e part whole fault is none = absurd is
handed view (Err y) e part whole fault is none = subst (λ x. IsPartFault x whole) (sym is) (whole_fault e part whole fault none)

pub handed_body : {C : Type 0} (r : Result Txn TxnFault) (e : TxnFault) (part : Option C) (whole : Body) → IsPartFault e part → IsErrAnd r (λ y. y ≡ e) → (part ≡ None → whole ≡ no_command)
    → MatchResult r (λ t. whole ≡ transaction (txn t)) (λ e. IsTxnFault e whole)
handed_body (Ok a) e part whole fault is none = absurd is
handed_body (Err y) e part whole fault is none = subst (λ x. IsTxnFault x whole) (sym is) (body_fault e part whole fault none)

abbrev pub of_parts : ℕ → Option (List Action) → Option (Option (List ℕ)) → Body
of_parts n None id = no_command
of_parts n (Some actions) id = by_id n actions id

with_parts : (n : ℕ) (ps : Pairs) (actions : Option (List Action)) (id : Option (Option (List ℕ))) → text_or_none (codes "transactionId") ps ≡ id → by_actions n ps actions ≡ of_parts n actions id
with_parts n ps None id is = refl
with_parts n ps (Some actions) id is = ap (by_id n actions) is

-- the transaction of the parts of a body
pub body_asks : (n : ℕ) (ps rest : Pairs) (actions : Option (List Action)) (id : Option (Option (List ℕ))) → has_keys (codes "mutations" ∷ []) (codes "transactionId" ∷ []) ps ≡ true
    → option_and_then (all_read action) (option_and_then as_list (find (codes "mutations") ps)) ≡ actions → rest ≡ without (codes "mutations") ps
    → text_or_none (codes "transactionId") rest ≡ id
    → of_pairs n ps ≡ of_parts n actions id
body_asks n ps rest actions id keys acts left is =
    let there : text_or_none (codes "transactionId") ps ≡ id =
    sym (ap (value_or None (λ t. option_map Some (as_text t))) (find-left (codes "transactionId") (codes "mutations") ps rest refl left)) ∙ is in
    ap (λ b. cond b (by_actions n ps (option_and_then (all_read action) (option_and_then as_list (find (codes "mutations") ps)))) no_command) keys
    ∙ ap (by_actions n ps) acts ∙ with_parts n ps actions id there
