-- What contracts see of a transaction that was read, and of why none was.
use Rattle.std.specs.Prelude.{◌≡◌, ⊤, List, map}
use Rattle.std.specs.List.{AllByRecursion}
use Rattle.cs_value.specs.View.{tree, fields}
use Rattle.cs_patch.specs.View.{patch, HasNumbers}
use Rattle.cs_body.specs.Body.{Body, no_command, bad_id}
use Rattle.cs_body.specs.Transaction.{Aim, one, asked, Action, create, replace, if_none, remove, change, Transaction}
use Rattle.cs_body.specs.declared.txn.Target.{Target}
use Rattle.cs_body.specs.declared.txn.Target.TheVariants.{Id, Query}
use Rattle.cs_body.specs.declared.txn.Mutation.{Mutation}
use Rattle.cs_body.specs.declared.txn.Mutation.TheVariants.{Create, Replace, IfNone, Delete, Change}
use Rattle.cs_body.specs.declared.txn.Txn.{Txn}
use Rattle.cs_body.specs.declared.txn.TxnFault.{TxnFault}
use Rattle.cs_body.specs.declared.txn.TxnFault.TheVariants.{BadCommand, BadTx, NoMemory}

abbrev pub aim : Target → Aim
aim (Id id) = one id
aim (Query text params) = asked text (fields params)

abbrev pub action : Mutation → Action
action (Create val) = create (tree val)
action (Replace val) = replace (tree val)
action (IfNone val) = if_none (tree val)
action (Delete target) = remove (aim target)
action (Change target given diff) = change (aim target) (patch given) diff

abbrev pub txn : Txn → Transaction
txn t = record { id = t.id; actions = map action t.mutations.items }

-- want of memory says nothing of the body
abbrev pub IsTxnFault : TxnFault → Body → Type 0
IsTxnFault BadCommand b = b ≡ no_command
IsTxnFault BadTx b = b ≡ bad_id
IsTxnFault NoMemory b = ⊤

-- what a patch adds and takes away are numbers
abbrev pub AddsNumbers : Mutation → Type 0
AddsNumbers (Change target given diff) = HasNumbers given
AddsNumbers _ = ⊤

abbrev pub AllAddNumbers : List Mutation → Type 0
AllAddNumbers ms = AllByRecursion AddsNumbers ms
