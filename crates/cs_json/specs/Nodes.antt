-- The tree of a value whose parts are lent: RFC 8259, "Values".
use Rattle.std.specs.Prelude.{ℕ, List, map}
use Rattle.cs_value.specs.Tree.{Tree, integer, text, list, trees}
use Rattle.cs_value.specs.View.{tree}
use Rattle.cs_json.specs.declared.node.Node.{Node}
use Rattle.cs_json.specs.declared.node.Node.TheVariants as node
use Rattle.cs_json.specs.declared.node.Member.{Member}

abbrev pub node_tree : Node → Tree
node_tree (node.Value v) = tree v.now
node_tree (node.Values vs) = list (trees (map (λ v. tree v.now) vs.items))
node_tree (node.Text s) = text s.now
node_tree (node.Number n) = integer n

-- the name and the tree of an attribute
abbrev pub member_pair : Member → List ℕ × Tree
member_pair m = (m.name.now, node_tree m.node)
