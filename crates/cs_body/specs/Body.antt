-- The transaction that stands in a command: Sanity's HTTP documentation, "Mutations", in this
-- project's profile.
use Prim.Native.Char.{code}
use Rattle.std.specs.Prelude.{ℕ, ℤ, List, [], ◌∷◌, ◌++◌, length, Bool, not, ◌&&◌, ◌||◌, cond, nat_le, ◌==◌, is_some, take, Option, Some, None, option_map, option_and_then, bytes_eq, codes}
use Rattle.std.specs.List.{list_all}
use Rattle.std.specs.Fmt.{decimal}
use Rattle.cs_value.specs.Tree.{Tree, Pairs, attributes}
use Rattle.cs_value.specs.Pairs.{find}
use Rattle.cs_value.specs.Words.{as_text, as_object, as_list, as_integer}
use Rattle.cs_value.specs.Id.{is_between}
use Rattle.cs_wire.specs.Commands.{has_keys, text_in, params_in, value_or, given}
use Rattle.cs_alter.specs.Inserted.{Side, before, after, replace as instead}
use Rattle.cs_patch.specs.Operations.{Insertion}
use Rattle.cs_patch.specs.Patched.{Patch}
use Rattle.cs_body.specs.Transaction.{Aim, one, asked, Action, create, replace, if_none, remove, change, Transaction}

-- what stands under `mutate`: no transaction, one whose given id has not its form, or a
-- transaction
pub data Body : Type 0 where
  no_command : Body
  bad_id : Body
  transaction : Transaction → Body

-- all of them read, where each can be
abbrev pub all_read : {A B : Type 0} → (A → Option B) → List A → Option (List B)
all_read read [] = Some []
all_read read (x ∷ xs) = given (option_map (λ b bs. b ∷ bs) (read x)) (all_read read xs)

-- ---- patches
-- an object from path to value
abbrev pub values_in : List ℕ → Pairs → Option (List (List ℕ × Tree))
values_in k ps = value_or [] (λ t. option_map attributes (as_object t)) (find k ps)

abbrev pub numbered : List ℕ × Tree → Option (List ℕ × ℤ)
numbered e = option_map (λ n. (e.0, n)) (as_integer e.1)

-- an object from path to whole number
abbrev pub numbers_in : List ℕ → Pairs → Option (List (List ℕ × ℤ))
numbers_in k ps = option_and_then (all_read numbered) (values_in k ps)

-- a list of texts
abbrev pub texts_in : List ℕ → Pairs → Option (List (List ℕ))
texts_in k ps = value_or [] (λ t. option_and_then (all_read as_text) (as_list t)) (find k ps)

-- a text that need not be there
abbrev pub text_or_none : List ℕ → Pairs → Option (Option (List ℕ))
text_or_none k ps = value_or None (λ t. option_map Some (as_text t)) (find k ps)

abbrev pub inserted_at : Side → List ℕ → Pairs → Option Insertion
inserted_at side k ps =
    given
    (option_map (λ path items. record { side = side; path = path; items = items }) (text_in k ps))
    (option_and_then as_list (find (codes "items") ps))

-- an object with `items` and exactly one of `before`, `after`, `replace`
abbrev pub insertion_of : Pairs → Option Insertion
insertion_of ps =
    cond (has_keys (codes "items" ∷ codes "before" ∷ []) [] ps)
    (inserted_at before (codes "before") ps)
    (cond (has_keys (codes "items" ∷ codes "after" ∷ []) [] ps)
    (inserted_at after (codes "after") ps)
    (cond (has_keys (codes "items" ∷ codes "replace" ∷ []) [] ps)
    (inserted_at instead (codes "replace") ps)
    None))

abbrev pub insertion_in : Pairs → Option (Option Insertion)
insertion_in ps =
    value_or None (λ t. option_map Some (option_and_then insertion_of (as_object t)))
    (find (codes "insert") ps)

abbrev pub patch_of :
    Option (List ℕ) → List (List ℕ × Tree) → List (List ℕ × Tree) → List (List ℕ)
    → List (List ℕ × ℤ) → List (List ℕ × ℤ) → Option Insertion → Patch
patch_of revision missing set unset inc dec insert = record {
  if_revision = revision;
  set_if_missing = missing;
  set = set;
  unset = unset;
  inc = inc;
  dec = dec;
  insert = insert;
}

abbrev pub patch_in : Pairs → Option Patch
patch_in ps =
    given (given (given (given (given (given
    (option_map patch_of (text_or_none (codes "ifRevisionID") ps))
    (values_in (codes "setIfMissing") ps))
    (values_in (codes "set") ps))
    (texts_in (codes "unset") ps))
    (numbers_in (codes "inc") ps))
    (numbers_in (codes "dec") ps))
    (insertion_in ps)

-- the keys of a patch beside those of its aim
abbrev pub patch_keys : List (List ℕ)
patch_keys =
    codes "ifRevisionID" ∷ codes "setIfMissing" ∷ codes "set" ∷ codes "unset" ∷ codes "inc"
    ∷ codes "dec" ∷ codes "insert" ∷ codes "diffMatchPatch" ∷ []

-- ---- mutations
-- an object with `id`, or with `query` and perhaps `params`, and any of some other keys
abbrev pub aim_in : List (List ℕ) → Pairs → Option Aim
aim_in others ps =
    cond (has_keys (codes "id" ∷ []) others ps)
    (option_map (λ id. one id) (text_in (codes "id") ps))
    (cond (has_keys (codes "query" ∷ []) (codes "params" ∷ others) ps)
    (given (option_map (λ s params. asked s params) (text_in (codes "query") ps)) (params_in ps))
    None)

abbrev pub removal_in : Pairs → Option Action
removal_in ps = option_map (λ aim. remove aim) (aim_in [] ps)

abbrev pub has_diff : Pairs → Bool
has_diff ps = is_some (find (codes "diffMatchPatch") ps)

abbrev pub change_in : Pairs → Option Action
change_in ps =
    given
    (option_map (λ aim p. change aim p (has_diff ps)) (aim_in patch_keys ps))
    (patch_in ps)

-- the mutation of a key and its value
abbrev pub action_at : List ℕ → Tree → Option Action
action_at key t =
    cond (bytes_eq key (codes "create")) (Some (create t))
    (cond (bytes_eq key (codes "createOrReplace")) (Some (replace t))
    (cond (bytes_eq key (codes "createIfNotExists")) (Some (if_none t))
    (cond (bytes_eq key (codes "delete")) (option_and_then removal_in (as_object t))
    (cond (bytes_eq key (codes "patch")) (option_and_then change_in (as_object t))
    None))))

abbrev pub sole_action : List (List ℕ × Tree) → Option Action
sole_action (e ∷ []) = action_at e.0 e.1
sole_action _ = None

-- an object with exactly one key
abbrev pub action : Tree → Option Action
action t = option_and_then (λ ps. sole_action (attributes ps)) (as_object t)

-- ---- ids
-- an ASCII letter, a digit, `_` or `-`
abbrev pub is_tx_byte : ℕ → Bool
is_tx_byte b =
    is_between (code "A") (code "Z") b || is_between (code "a") (code "z") b
    || is_between (code "0") (code "9") b || b == code "_" || b == code "-"

abbrev pub begins : List ℕ → List ℕ → Bool
begins start s = bytes_eq start (take (length start) s)

abbrev pub longest_tx : ℕ
longest_tx = 64

-- a transaction's id as a client may give it
abbrev pub is_tx_id : List ℕ → Bool
is_tx_id s =
    nat_le 1 (length s) && nat_le (length s) longest_tx && list_all is_tx_byte s
    && not (begins (codes "-") s) && not (begins (codes "tx-") s)

-- the id of the transaction of a line, where the client gives none
abbrev pub tx_of_line : ℕ → List ℕ
tx_of_line n = codes "tx-" ++ decimal n

-- ---- the body
abbrev pub with_id : List Action → List ℕ → Body
with_id actions id =
    cond (is_tx_id id) (transaction (record { id = id; actions = actions })) bad_id

abbrev pub by_id : ℕ → List Action → Option (Option (List ℕ)) → Body
by_id n actions None = no_command
by_id n actions (Some None) = transaction (record { id = tx_of_line n; actions = actions })
by_id n actions (Some (Some id)) = with_id actions id

abbrev pub by_actions : ℕ → Pairs → Option (List Action) → Body
by_actions n ps None = no_command
by_actions n ps (Some actions) = by_id n actions (text_or_none (codes "transactionId") ps)

abbrev pub of_pairs : ℕ → Pairs → Body
of_pairs n ps =
    cond (has_keys (codes "mutations" ∷ []) (codes "transactionId" ∷ []) ps)
    (by_actions n ps
    (option_and_then (all_read action) (option_and_then as_list (find (codes "mutations") ps))))
    no_command

abbrev pub of_object : ℕ → Option Pairs → Body
of_object n None = no_command
of_object n (Some ps) = of_pairs n ps

-- what the value under `mutate` of the line with the number is
abbrev pub body_of : Tree → ℕ → Body
body_of body n = of_object n (as_object body)
