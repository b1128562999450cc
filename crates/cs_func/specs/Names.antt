-- The names of the functions; those without `::` may have `global::` in front: GROQ-1.revision1,
-- "Functions" and "Namespaces".
use Rattle.std.specs.Prelude.{ℕ, List, [], ◌∷◌, Option, option_map, codes}
use Rattle.cs_table.specs.Row.{row_of}
use Rattle.cs_func.specs.declared.function.Function.{Function}
use Rattle.cs_func.specs.declared.function.Function.TheVariants.{Count, Length, Defined, Text, Unique, Compact, Join, Split, StartsWith, Sum, Min, Max}

abbrev pub names : List (List ℕ × Function)
names = (codes "array::compact", Compact) ∷ (codes "array::join", Join)
    ∷ (codes "array::unique", Unique) ∷ (codes "count", Count)
    ∷ (codes "defined", Defined) ∷ (codes "global::count", Count)
    ∷ (codes "global::defined", Defined) ∷ (codes "global::length", Length)
    ∷ (codes "global::string", Text) ∷ (codes "length", Length) ∷ (codes "math::max", Max)
    ∷ (codes "math::min", Min)
    ∷ (codes "math::sum", Sum) ∷ (codes "string", Text) ∷ (codes "string::split", Split)
    ∷ (codes "string::startsWith", StartsWith) ∷ []

-- the function of the name
abbrev pub named : List ℕ → Option Function
named name = option_map (λ row. row.1) (row_of (λ row. row.0) name names)
