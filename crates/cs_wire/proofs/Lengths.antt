-- The texts of a command stand in the value that it is.
use Rattle.std.proofs.Common.{◌≡◌, refl, ap, subst, ℕ, max, ◌≤◌, arith, List, [], ◌∷◌, length, Bool, true, false, if◌then◌else◌, Option, Some, None, option_and_then, codes, Less, Equal, Greater, nat_cmp}
use Rattle.std.specs.Cmp.Lexicographic.{slice_cmp}
use Rattle.std.specs.Ordering.{match_ordering}
use Rattle.cs_value.specs.Id.{is_id}
use Rattle.cs_value.specs.Pairs.{find}
use Rattle.cs_value.specs.Tree.{Tree, null, boolean, integer, text, list, object, Pairs, no_pairs, more_pairs, widest, pairs_widest}
use Rattle.cs_value.specs.Words.{as_text, as_object}
use Rattle.cs_wire.specs.Commands.{Request, mutate, query, live, listen, stop, at, given, text_in, as_name, name_in, params_in, value_or, flag_in, has_keys, mutate_of, query_of, live_of, listen_of, stop_of, at_of}
use Rattle.cs_wire.specs.Rows.{Row, rows, by_rows, command}
use Rattle.cs_wire.specs.Within.{IsWithin}

find_within : (k : List ℕ) (ps : Pairs) (t : Tree) → find k ps ≡ Some t → widest t ≤ pairs_widest ps
find_within k no_pairs t e = cc
find_within k (more_pairs l u ps) t e =
    elim (slice_cmp nat_cmp k l) as (λ o. match_ordering o (find k ps) (Some u) (find k ps) ≡ Some t → widest t ≤ max (length l) (max (widest u) (pairs_widest ps))) [
      | Less ↦ λ h. omega (arith, find_within k ps t h)
      | Equal ↦ λ h. let same : u ≡ t = cc in omega (arith, ap widest same)
      | Greater ↦ λ h. omega (arith, find_within k ps t h)
    ] e

text_of : (t : Tree) (s : List ℕ) → as_text t ≡ Some s → length s ≤ widest t
text_of null s e = cc
text_of (boolean b) s e = cc
text_of (integer n) s e = cc
text_of (text u) s e = let same : u ≡ s = cc in omega (arith, ap length same)
text_of (list ts) s e = cc
text_of (object ps) s e = cc

object_within : (t : Tree) (qs : Pairs) → as_object t ≡ Some qs → pairs_widest qs ≤ widest t
object_within null qs e = cc
object_within (boolean b) qs e = cc
object_within (integer n) qs e = cc
object_within (text s) qs e = cc
object_within (list ts) qs e = cc
object_within (object ps) qs e = let same : ps ≡ qs = cc in omega (arith, ap pairs_widest same)

text_found : (o : Option Tree) (n : ℕ) (s : List ℕ) → ((t : Tree) → o ≡ Some t → widest t ≤ n) → option_and_then as_text o ≡ Some s → length s ≤ n
text_found None n s h e = cc
text_found (Some t) n s h e = omega (arith, h t refl, text_of t s e)

text_within : (k : List ℕ) (ps : Pairs) (s : List ℕ) → text_in k ps ≡ Some s → length s ≤ pairs_widest ps
text_within k ps s e = text_found (find k ps) (pairs_widest ps) s (find_within k ps) e

named : (o : Option (List ℕ)) (n : ℕ) (s : List ℕ) → ((u : List ℕ) → o ≡ Some u → length u ≤ n) → option_and_then as_name o ≡ Some s → length s ≤ n
named None n s h e = cc
named (Some u) n s h e =
    elim (is_id u) as (λ b. (if b then Some u else None) ≡ Some s → length s ≤ n) [
      | true ↦ λ k. let same : u ≡ s = cc in omega (arith, h u refl, ap length same)
      | false ↦ λ k. cc
    ] e

name_within : (k : List ℕ) (ps : Pairs) (s : List ℕ) → name_in k ps ≡ Some s → length s ≤ pairs_widest ps
name_within k ps s e = named (text_in k ps) (pairs_widest ps) s (text_within k ps) e

params_found : (o : Option Tree) (n : ℕ) (qs : Pairs) → ((t : Tree) → o ≡ Some t → widest t ≤ n) → value_or no_pairs as_object o ≡ Some qs → pairs_widest qs ≤ n
params_found None n qs h e = let same : no_pairs ≡ qs = cc in omega (arith, ap pairs_widest same)
params_found (Some t) n qs h e = omega (arith, h t refl, object_within t qs e)

params_within : (ps qs : Pairs) → params_in ps ≡ Some qs → pairs_widest qs ≤ pairs_widest ps
params_within ps qs e = params_found (find (codes "params") ps) (pairs_widest ps) qs (find_within (codes "params") ps) e

-- what is made of parts that are within
module _ (n : ℕ) where
  made_mutate : (body : Option Tree) (r : Request) → ((t : Tree) → body ≡ Some t → widest t ≤ n) → given (Some (λ body. mutate body)) body ≡ Some r → IsWithin n r
  made_mutate None r h e = cc
  made_mutate (Some t) r h e = let is : mutate t ≡ r = cc in subst (IsWithin n) is (h t refl)

  made_query : (words : Option (List ℕ)) (params : Option Pairs) (r : Request) → ((s : List ℕ) → words ≡ Some s → length s ≤ n) → ((q : Pairs) → params ≡ Some q → pairs_widest q ≤ n)
      → given (given (Some (λ text params. query text params)) words) params ≡ Some r → IsWithin n r
  made_query None params r h k e = cc
  made_query (Some s) None r h k e = cc
  made_query (Some s) (Some q) r h k e = let is : query s q ≡ r = cc in subst (IsWithin n) is (h s refl, k q refl)

  made_live : (name words : Option (List ℕ)) (params : Option Pairs) (r : Request) → ((s : List ℕ) → name ≡ Some s → length s ≤ n) → ((s : List ℕ) → words ≡ Some s → length s ≤ n) → ((q : Pairs) → params ≡ Some q → pairs_widest q ≤ n)
      → given (given (given (Some (λ name text params. live name text params)) name) words) params ≡ Some r → IsWithin n r
  made_live None words params r g h k e = cc
  made_live (Some a) None params r g h k e = cc
  made_live (Some a) (Some s) None r g h k e = cc
  made_live (Some a) (Some s) (Some q) r g h k e = let is : live a s q ≡ r = cc in subst (IsWithin n) is (g a refl, h s refl, k q refl)

  made_listen : (name words : Option (List ℕ)) (params : Option Pairs) (result previous : Option Bool) (r : Request) → ((s : List ℕ) → name ≡ Some s → length s ≤ n) → ((s : List ℕ) → words ≡ Some s → length s ≤ n) → ((q : Pairs) → params ≡ Some q → pairs_widest q ≤ n)
      → given (given (given (given (given (Some (λ name text params result previous. listen name text params result previous)) name) words) params) result) previous ≡ Some r → IsWithin n r
  made_listen None words params result previous r g h k e = cc
  made_listen (Some a) None params result previous r g h k e = cc
  made_listen (Some a) (Some s) None result previous r g h k e = cc
  made_listen (Some a) (Some s) (Some q) None previous r g h k e = cc
  made_listen (Some a) (Some s) (Some q) (Some b) None r g h k e = cc
  made_listen (Some a) (Some s) (Some q) (Some b) (Some c) r g h k e = let is : listen a s q b c ≡ r = cc in subst (IsWithin n) is (g a refl, h s refl, k q refl)

  made_stop : (name : Option (List ℕ)) (r : Request) → ((s : List ℕ) → name ≡ Some s → length s ≤ n) → given (Some (λ name. stop name)) name ≡ Some r → IsWithin n r
  made_stop None r h e = cc
  made_stop (Some a) r h e = let is : stop a ≡ r = cc in subst (IsWithin n) is (h a refl)

  made_at : (moment : Option (List ℕ)) (r : Request) → ((s : List ℕ) → moment ≡ Some s → length s ≤ n) → given (Some (λ moment. at moment)) moment ≡ Some r → IsWithin n r
  made_at None r h e = cc
  made_at (Some a) r h e = let is : at a ≡ r = cc in subst (IsWithin n) is (h a refl)

-- row by row
module _ (ps : Pairs) (r : Request) where
  mutate_within : mutate_of ps ≡ Some r → IsWithin (pairs_widest ps) r
  mutate_within e = made_mutate (pairs_widest ps) (find (codes "mutate") ps) r (find_within (codes "mutate") ps) e

  query_within : query_of ps ≡ Some r → IsWithin (pairs_widest ps) r
  query_within e = made_query (pairs_widest ps) (text_in (codes "query") ps) (params_in ps) r (text_within (codes "query") ps) (params_within ps) e

  live_within : live_of ps ≡ Some r → IsWithin (pairs_widest ps) r
  live_within e = made_live (pairs_widest ps) (name_in (codes "live") ps) (text_in (codes "query") ps) (params_in ps) r (name_within (codes "live") ps) (text_within (codes "query") ps) (params_within ps) e

  listen_within : listen_of ps ≡ Some r → IsWithin (pairs_widest ps) r
  listen_within e = made_listen (pairs_widest ps) (name_in (codes "listen") ps) (text_in (codes "query") ps) (params_in ps) (flag_in (codes "includeResult") ps) (flag_in (codes "includePrevious") ps) r (name_within (codes "listen") ps) (text_within (codes "query") ps) (params_within ps) e

  stop_within : stop_of ps ≡ Some r → IsWithin (pairs_widest ps) r
  stop_within e = made_stop (pairs_widest ps) (name_in (codes "stop") ps) r (name_within (codes "stop") ps) e

  at_within : at_of ps ≡ Some r → IsWithin (pairs_widest ps) r
  at_within e = made_at (pairs_widest ps) (text_in (codes "at") ps) r (text_within (codes "at") ps) e

-- each row of a table keeps within the object
data AreWithin (ps : Pairs) : List Row → Type 0 where
  no_rows : AreWithin ps []
  row : {r : Row} {rs : List Row} → ((q : Request) → r.command ps ≡ Some q → IsWithin (pairs_widest ps) q) → AreWithin ps rs → AreWithin ps (r ∷ rs)

rows_within : (ps : Pairs) (rs : List Row) (q : Request) → AreWithin ps rs → by_rows rs ps ≡ Some q → IsWithin (pairs_widest ps) q
rows_within ps [] q no_rows e = cc
rows_within ps (r ∷ rs) q (row h hs) e =
    elim (has_keys r.must r.may ps) as (λ b. (if b then r.command ps else by_rows rs ps) ≡ Some q → IsWithin (pairs_widest ps) q) [
      | true ↦ λ k. h q k
      | false ↦ λ k. rows_within ps rs q hs k
    ] e

pub command_within : (t : Tree) (r : Request) → command t ≡ Some r → IsWithin (widest t) r
unfolding command
command_within null r e = cc
command_within (boolean b) r e = cc
command_within (integer n) r e = cc
command_within (text s) r e = cc
command_within (list ts) r e = cc
command_within (object ps) r e =
    rows_within ps rows r (row (mutate_within ps) (row (query_within ps) (row (live_within ps) (row (listen_within ps) (row (stop_within ps) (row (at_within ps) no_rows)))))) e
