-- How the steps of a chain are joined: this project's profile, after GROQ-1.revision1, "Compound
-- expressions" and "Array postfix". A rest is what stands behind a step, up to the next piped call.
use Rattle.std.specs.Prelude.{Bool, true, false, List, [], ◌∷◌, map, flat_map, if◌then◌else◌}
use Rattle.std.specs.Option.{option_map_or}
use Rattle.cs_value.specs.Words.{as_list, list_of, of_list}
use Rattle.cs_value.specs.Tree.{Tree}
use Rattle.cs_syntax.specs.Expression.{Expression, everything, array, Step, attr, deref, each, slice, bracket, project, pipe, Steps, no_steps, more_steps}
use Rattle.cs_plan.specs.Steps.{Bracketed, position, named, condition, bracketed}
use Rattle.cs_meaning.specs.declared.join.Shape.TheVariants.{One, Array}
use Rattle.cs_meaning.specs.declared.join.Form.{Form}
use Rattle.cs_meaning.specs.declared.join.Form.TheVariants.{Single, Projection, Listing, Element, Pipe}
use Rattle.cs_meaning.specs.declared.join.Kind.{Kind}
use Rattle.cs_meaning.specs.declared.join.Kind.TheVariants.{Empty, Taking}
use Rattle.cs_meaning.specs.declared.join.Way.{Way}
use Rattle.cs_meaning.specs.declared.join.Way.TheVariants.{Through, Over, After, Ends}
use Rattle.cs_meaning.specs.declared.join.Entrance.{Entrance}
use Rattle.cs_meaning.specs.declared.join.Entrance.TheVariants.{Whole, Mapped, Flat}

-- `Map`: the list of what f makes of each element, null where there is no list.
abbrev pub mapped : (Tree → Tree) → Tree → Tree
mapped f v = of_list (λ ts. list_of (map f ts)) v

-- What a result adds in `Flat`: its elements where it is a list, else itself.
abbrev pub flat_elements : Tree → List Tree
flat_elements v = option_map_or (λ ts. ts) (as_list v) (v ∷ [])

-- `Flat`: as `Map`, with each list among the results replaced by its elements.
abbrev pub flattened : (Tree → Tree) → Tree → Tree
flattened f v = of_list (λ ts. list_of (flat_map flat_elements (map f ts))) v

-- An element by position takes an array and gives one value, an attribute takes and gives one, a
-- filter takes and gives an array: "Element access", "Attribute access", "Filter".
abbrev pub bracket_form : Bracketed → Form
bracket_form (position n) = Element
bracket_form (named w) = Single
bracket_form condition = Listing

-- What each step is to joining: "Attribute access", "Dereference", "Array postfix", "Slice",
-- "Projection", "Pipe functions".
abbrev pub form : Step → Form
form (attr w) = Single
form deref = Single
form each = Listing
form (slice from to closed) = Listing
form (bracket e) = bracket_form (bracketed e)
form (project es) = Projection
form (pipe name ks) = Pipe

-- What a chain's rest takes and gives where a step of this form stands before a rest of that kind.
abbrev pub kind_before : Form → Kind → Kind
kind_before Pipe k = Empty
kind_before Single Empty = Taking One One
kind_before Single (Taking takes gives) = Taking One gives
kind_before Projection Empty = Taking One One
kind_before Projection (Taking takes gives) = Taking takes gives
kind_before Element Empty = Taking Array One
kind_before Element (Taking takes gives) = Taking Array gives
kind_before Listing (Taking Array gives) = Taking Array gives
kind_before Listing k = Taking Array Array

-- The kind of a chain's rest, found from its right end.
abbrev pub kind : Steps → Kind
kind no_steps = Empty
kind (more_steps s ss) = kind_before (form s) (kind ss)

-- Which of the five rules a step takes: the second where a projection stands before a rest that
-- takes an array, the third to fifth where the step gives an array, and else the first.
abbrev pub way : Form → Kind → Way
way Pipe k = Ends
way Listing k = After
way Projection (Taking Array gives) = Over
way f k = Through

-- How an array enters a rest: whole where the rest takes an array, which is the third rule, or is
-- empty; mapped where it takes one value and gives one, which is the fourth; flat where it takes
-- one and gives an array, which is the fifth.
abbrev pub entrance : Kind → Entrance
entrance Empty = Whole
entrance (Taking Array gives) = Whole
entrance (Taking One One) = Mapped
entrance (Taking One Array) = Flat

-- What a rest makes of an array that enters it.
abbrev pub entered : Entrance → (Tree → Tree) → Tree → Tree
entered Whole rest v = rest v
entered Mapped rest v = mapped rest v
entered Flat rest v = flattened rest v

-- What a step and the rest behind it make of a value.
abbrev pub onward : Way → Entrance → (Tree → Tree) → (Tree → Tree) → Tree → Tree
onward Through enter step rest v = rest (step v)
onward Over enter step rest v = rest (mapped step v)
onward After enter step rest v = entered enter rest (step v)
onward Ends enter step rest v = v

-- `*` and an array literal give an array; every other base gives its one value, whatever it is.
abbrev pub gives_array : Expression → Bool
gives_array everything = true
gives_array (array es) = true
gives_array _ = false

-- How a base's value enters the rest of this kind.
abbrev pub base_entrance : Expression → Kind → Entrance
base_entrance base k = if gives_array base then entrance k else Whole
