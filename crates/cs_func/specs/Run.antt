-- What a run of a pattern's parts over a text's segments comes to, before its first `**`. For
-- private clauses.
use Rattle.std.specs.Prelude.{◌≡◌, ℕ, ◌≤◌, List, [], ◌∷◌, length, drop, false, IsTrue, Option, Some, None, codes}
use Rattle.cs_func.specs.Segments.{segments, segments_match}
use Rattle.cs_func.specs.declared.run.Run.{Run}
use Rattle.cs_func.specs.declared.run.Run.TheVariants.{Matched, Failed, Any}
use denote.Ref.{Bor}

-- the segments that are left
abbrev pub left : Option (Bor (List ℕ)) → List (List ℕ)
left None = []
left (Some rest) = segments rest.now

-- the parts and segments lead to a `**`, with parts behind it and segments that it and they are to
-- match
pub record LeadsTo (parts ss later rest : List (List ℕ)) : Type 0 where
  pub same : segments_match parts ss ≡ segments_match (codes "**" ∷ later) rest
  pub further : (j : ℕ) → IsTrue (segments_match parts (drop j ss))
      → IsTrue (segments_match (codes "**" ∷ later) (drop j rest))
  pub shorter : length rest ≤ length ss

abbrev pub IsRun : Run → List (List ℕ) → List (List ℕ) → Type 0
IsRun Matched parts ss = IsTrue (segments_match parts ss)
IsRun Failed parts ss = segments_match parts ss ≡ false
IsRun (Any later rest) parts ss = LeadsTo parts ss (left later) (left rest)
