-- An order behind a filter is taken up while the filter's documents are found.
use Rattle.std.proofs.Common.{◌≡◌, ◌∙◌, ℕ, List, [], ◌∷◌, map, Bool, true, false, cond, refl, sym, ap, Option, Some, None}
use Rattle.std.specs.Prelude.{IfSome}
use Rattle.cs_value.specs.Words.{list_of}
use Rattle.cs_value.specs.Tree.{Tree, null, Pairs}
use Rattle.cs_value.proofs.Views.{members-trees}
use Rattle.cs_syntax.specs.Expression.{attr, deref, each, slice, bracket, project, pipe, Steps, no_steps, more_steps, OrderKeys}
use Rattle.cs_plan.specs.Steps.{is_order_name}
use Rattle.cs_plan.specs.Simple.{tail_of}
use Rattle.cs_meaning.specs.Ordered.{Ranked, ranked, sorted, in_order, ordered, directions}
use Rattle.cs_meaning.specs.Values.{pipes_value, keys_values}
use Rattle.cs_expr.specs.Starts.{enter_value}
use Rattle.cs_order.specs.Asked.{first_asked}
use Rattle.cs_order.specs.First.{first_elements, limited}
use Rattle.cs_order.proofs.Enters.{first_enters}
use Rattle.cs_window.specs.Window.{order_of}
use Rattle.cs_window.proofs.Windows.{first-ordered}

-- the elements of an ordered list, or the first of them
abbrev pub items_in_order : List Bool → (Tree → List Tree) → Option ℕ → List Tree → Tree
items_in_order ds f limit ts = list_of (map (λ (x : Ranked). x.item) (limited limit (sorted ds (map (ranked f) ts))))

first-listed : (ds : List Bool) (f : Tree → List Tree) (limit : Option ℕ) (ts : List Tree) → first_elements limit (ordered ds f (list_of ts)) ≡ items_in_order ds f limit ts
first-listed ds f None ts = ap (λ (us : List Tree). in_order ds (map (ranked f) us)) (members-trees ts)
first-listed ds f (Some k) ts = first-ordered ds f k ts

module _ (params : Pairs) (sc : List Tree) where
  abbrev pub behind : Steps → Tree → Tree
  behind ss v = pipes_value [] params ss sc (enter_value [] params ss sc v)

  abbrev found : OrderKeys → Tree → List Tree
  found ks x = keys_values [] params ks (x ∷ sc)

  -- what the rest behind an order makes of the elements in order, or of those alone that it looks at
  in_rest : (ks : OrderKeys) (ss : Steps) (limit : Option ℕ) (ts : List Tree) → IfSome limit (λ k. first_asked ss ≡ Some k)
      → enter_value [] params ss sc (items_in_order (directions ks) (found ks) limit ts) ≡ enter_value [] params ss sc (ordered (directions ks) (found ks) (list_of ts))
  in_rest ks ss limit ts h =
      ap (enter_value [] params ss sc) (sym (first-listed (directions ks) (found ks) limit ts))
      ∙ first_enters [] params ss sc limit (ordered (directions ks) (found ks) (list_of ts)) h

  at_pipe : (name : List ℕ) (ks' ks : OrderKeys) (ss' ss : Steps) (limit : Option ℕ) (ts : List Tree) (b : Bool) → is_order_name name ≡ b → cond b (Some ks') None ≡ Some ks → ss ≡ ss' → IfSome limit (λ k. first_asked ss ≡ Some k)
      → behind ss (items_in_order (directions ks) (found ks) limit ts) ≡ behind (more_steps (pipe name ks') ss') (list_of ts)
  at_pipe name ks' ks ss' ss limit ts false e is same h = cc
  at_pipe name ks' ks ss' ss limit ts true e is same h =
      let keys : ks ≡ ks' = cc in
      ap (pipes_value [] params ss sc) (in_rest ks ss limit ts h)
      ∙ (ap (λ (x : Steps). pipes_value [] params x sc (enter_value [] params x sc (ordered (directions ks) (found ks) (list_of ts)))) same
      ∙ (ap (λ (x : OrderKeys). pipes_value [] params ss' sc (enter_value [] params ss' sc (ordered (directions x) (found x) (list_of ts)))) keys
      ∙ sym (ap (λ (b : Bool). pipes_value [] params ss' sc (enter_value [] params ss' sc (cond b (ordered (directions ks') (found ks') (list_of ts)) null))) e)))

  -- .. is what the order and the rest make of the list
  pub taken_up : (later ss : Steps) (ks : OrderKeys) (limit : Option ℕ) (ts : List Tree) → Some ks ≡ order_of later → ss ≡ tail_of later → IfSome limit (λ k. first_asked ss ≡ Some k)
      → behind ss (items_in_order (directions ks) (found ks) limit ts) ≡ behind later (list_of ts)
  taken_up no_steps ss ks limit ts is same h = cc
  taken_up (more_steps (pipe name ks') ss') ss ks limit ts is same h = at_pipe name ks' ks ss' ss limit ts (is_order_name name) refl (sym is) same h
  taken_up (more_steps (attr x) ss') ss ks limit ts is same h = cc
  taken_up (more_steps deref ss') ss ks limit ts is same h = cc
  taken_up (more_steps each ss') ss ks limit ts is same h = cc
  taken_up (more_steps (slice from to closed) ss') ss ks limit ts is same h = cc
  taken_up (more_steps (bracket e) ss') ss ks limit ts is same h = cc
  taken_up (more_steps (project es) ss') ss ks limit ts is same h = cc
