-- What becomes of a tree as its nodes are put and taken away, one after another.
use Rattle.std.proofs.Common.{◌≡◌, ℕ, ℤ, Bool, true, false, List, [], Option, Some, None, is_some}
use Rattle.std.proofs.Common.{refl, sym, ap, ◌∙◌, String, BTreeMap}
use Rattle.std.specs.BTreeMap.{UpdatesBy}
use Rattle.std.specs.Map.{lookup}
use Rattle.std.specs.String.{string_cmp, string_bytes}
use Rattle.std.specs.Ordering.{nat_cmp}
use Rattle.std.specs.Cmp.Lexicographic.{slice_cmp}
use Rattle.std.proofs.lemmas.Map.Text.{btree_map_updates_text, text_cmp}
use Rattle.std.specs.BTreeMap.{is_at}
use Rattle.zk_log.specs.declared.digest_node.DigestNode.{DigestNode}
use Rattle.zk_log.specs.declared.digest_node.Stamp.{Stamp}
use Rattle.zk_log.specs.Trees.{Tree, tree_of, put_at, parent_of, raised, lowered, made_at, made_below, created}
use Rattle.zk_log.specs.Trees.{taken_at, taken_below, deleted}

pub no_tree : {Y : Type 0} (m : BTreeMap (String Y) DigestNode) → m.entries ≡ [] → tree_of m ≡ (λ path. None)
no_tree m empty = λ i path. ap (lookup (is_at (text_cmp path))) empty i

pub updated_tree : {Y : Type 0} (path key : List ℕ) (m n : BTreeMap (String Y) DigestNode) (node : Option DigestNode)
    → key ≡ path → UpdatesBy string_cmp (λ k. slice_cmp nat_cmp key (string_bytes k)) m n node
    → tree_of n ≡ put_at path node (tree_of m)
updated_tree path key m n node is updates =
    let at_key : tree_of n ≡ put_at key node (tree_of m) = λ i text. btree_map_updates_text key m n node updates text i in
    at_key ∙ ap (λ text. put_at text node (tree_of m)) is

none_of : {X : Type 0} (o : Option X) → is_some o ≡ false → o ≡ None
none_of None free = refl
none_of (Some x) free = absurd (let bad : true ≡ false = free in cc)

pub created_is : (stamp : Stamp) (path : List ℕ) (node : DigestNode) (cversion : ℤ) (tree middle after : Tree) (above : List ℕ)
    (parent : DigestNode)
    → Some above ≡ parent_of path → Some parent ≡ tree above → is_some (tree path) ≡ false
    → middle ≡ put_at above (Some (raised stamp cversion parent)) tree → after ≡ put_at path (Some node) middle
    → after ≡ created stamp path node cversion tree
unfolding created
created_is stamp path node cversion tree middle after above parent named there free puts then =
    then ∙ ap (put_at path (Some node)) puts
    ∙ ap (λ o. made_at stamp path node cversion above (Some parent) o tree) (sym (none_of (tree path) free))
    ∙ ap (λ o. made_at stamp path node cversion above o (tree path) tree) there
    ∙ ap (λ o. made_below stamp path node cversion o tree) named

pub deleted_is : (stamp : Stamp) (path : List ℕ) (tree middle after : Tree) (above : List ℕ) (parent : DigestNode)
    → Some above ≡ parent_of path → Some parent ≡ tree above → middle ≡ put_at above (Some (lowered stamp parent)) tree
    → after ≡ put_at path None middle → after ≡ deleted stamp path tree
unfolding deleted
deleted_is stamp path tree middle after above parent named there puts then =
    then ∙ ap (put_at path None) puts ∙ ap (λ o. taken_at stamp path above o tree) there ∙ ap (λ o. taken_below stamp path o tree) named
