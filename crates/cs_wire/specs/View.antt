-- What a `Command` asks for.
use Rattle.cs_value.specs.View.{tree, fields}
use Rattle.cs_wire.specs.Commands.{Request, mutate, query, live, listen, stop, at}
use Rattle.cs_wire.specs.declared.command.Command.{Command}
use Rattle.cs_wire.specs.declared.command.Command.TheVariants.{Mutate, Query, Live, Listen, Stop, At}

abbrev pub request : Command → Request
request (Mutate body) = mutate (tree body)
request (Query text params) = query text (fields params)
request (Live name text params) = live name text (fields params)
request (Listen name text params result previous) = listen name text (fields params) result previous
request (Stop name) = stop name
request (At moment) = at moment
