-- The path that a `JsonPath` stands for, and the locations that places stand for.
use Rattle.std.specs.Prelude.{List, [], ◌∷◌, map}
use Rattle.cs_value.specs.View.{tree}
use Rattle.cs_jsonmatch.specs.Path.{Item, position, range, every, named, meets, Step, Path}
use Rattle.cs_jsonmatch.specs.Places.{Location}
use Rattle.cs_jsonmatch.specs.declared.path.Item.{Item as CodeItem}
use Rattle.cs_jsonmatch.specs.declared.path.Item.TheVariants as item
use Rattle.cs_jsonmatch.specs.declared.path.Items.{Items}
use Rattle.cs_jsonmatch.specs.declared.path.Items.TheVariants as items
use Rattle.cs_jsonmatch.specs.declared.path.Step.{Step as CodeStep}
use Rattle.cs_jsonmatch.specs.declared.path.JsonPath.{JsonPath}
use Rattle.cs_jsonmatch.specs.declared.places.Part.{Part}
use Rattle.cs_jsonmatch.specs.declared.places.Part.TheVariants as part
use Rattle.cs_jsonmatch.specs.declared.places.Key.{Key}
use Rattle.cs_jsonmatch.specs.declared.places.Key.TheVariants as key
use Rattle.cs_jsonmatch.specs.declared.places.Place.{Place}

abbrev pub item_of : CodeItem → Item
item_of (item.Position n) = position n
item_of (item.Range a b) = range a b
item_of item.Every = every
item_of (item.Named n) = named n
item_of (item.Meets t) = meets t.value.names.items t.value.comparison (tree t.value.constant)

abbrev pub items_of : Items → List Item
items_of (items.One i) = item_of i ∷ []
items_of (items.Many is) = map item_of is.items

abbrev pub step_of : CodeStep → Step
step_of s = record { deep = s.deep; items = items_of s.items }

abbrev pub path_of : List CodeStep → Path
path_of ss = map step_of ss

abbrev pub path : JsonPath → Path
path p = path_of p.steps.items

abbrev pub part_of : Key → Part
part_of (key.Name name) = part.Name name.now
part_of (key.Pos k) = part.Pos k

abbrev pub locations : List Place → List Location
locations ps = map (λ p. p.parts.items) ps
