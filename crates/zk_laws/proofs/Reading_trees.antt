-- What a read is answered, told by the node that is there: an answer fits what is there, case by case of the answer.
use Rattle.std.proofs.Common.{refl, subst, ◌≡◌}
use Rattle.std.specs.FinSet as set
use Rattle.std.specs.Prelude.{ℕ, Bool, List, Option, Some, None, pos, ◌↔◌}
use Rattle.zk_cache.specs.Kept.{Absent, Known, Full}
use Rattle.zk_nodes.specs.declared.stat.Stat.{Stat}
use Rattle.zk_nodes.specs.DataStats.{data_stat_of}
use Rattle.zk_nodes.specs.Path.{Name}
use Rattle.zk_nodes.specs.History.{Node, contents_of, children_of, node_fields}
use Rattle.zk_turns.specs.Past.{names_of}
use Rattle.zk_laws.specs.Server.{Fits, FitsNames}

no_node : (node : Node) → None ≡ Some node → ⊥
no_node node e = absurd cc

same_node : (node other : Node) → Some node ≡ Some other → other ≡ node
same_node node other e = cc

pub absent : (found : Option Node) → Fits Absent (contents_of found) ↔ (found ≡ None)
absent None = (λ fits. refl, λ none. tt)
absent (Some node) = (λ fits. absurd fits, λ none. absurd (cc none))

pub absent_parent : (present : Name → Bool) (found : Option Node) → Fits Absent (children_of present found) ↔ (found ≡ None)
absent_parent present None = (λ fits. refl, λ none. tt)
absent_parent present (Some node) = (λ fits. absurd fits, λ none. absurd (cc none))

pub known : (stat : Stat) (found : Option Node)
    → Fits (Known (data_stat_of stat)) (contents_of found) ↔ ((node : Node) × (found ≡ Some node) × (data_stat_of stat ≡ node_fields node))
known stat None = (λ fits. absurd fits, λ there. absurd (no_node there.0 there.1))
known stat (Some node) = (
  λ fits. (node, refl, fits),
  λ there. subst (λ (n : Node). data_stat_of stat ≡ node_fields n) (same_node node there.0 there.1) there.2,
)

pub full : (bytes : Option (List ℕ)) (stat : Stat) (found : Option Node)
    → Fits (Full bytes (data_stat_of stat)) (contents_of found)
    ↔ ((node : Node) × (found ≡ Some node) × (bytes ≡ node.content) × (data_stat_of stat ≡ node_fields node))
full bytes stat None = (λ fits. absurd fits, λ there. absurd (no_node there.0 there.1))
full bytes stat (Some node) = (
  λ fits. (node, refl, fits.0, fits.1),
  λ there. subst (λ (n : Node). (bytes ≡ n.content) × (data_stat_of stat ≡ node_fields n))
      (same_node node there.0 there.1) (there.2, there.3),
)

pub listing : (names : List Name) (stat : Stat) (present : Name → Bool) (found : Option Node)
    → (FitsNames (names_of names stat) (children_of present found) × Fits (Known (data_stat_of stat)) (contents_of found))
    ↔ ((node : Node) × (found ≡ Some node) × (stat.pzxid ≡ pos node.pzxid) × (data_stat_of stat ≡ node_fields node)
    × ((name : Name) → set.contains (names_of names stat).names name ≡ present name))
listing names stat present None = (λ fits. absurd fits.0, λ there. absurd (no_node there.0 there.1))
listing names stat present (Some node) = (
  λ fits. (node, refl, fits.0.0, fits.1, fits.0.1),
  λ there.
      subst (λ (n : Node). ((stat.pzxid ≡ pos n.pzxid) × ((name : Name) → set.contains (names_of names stat).names name ≡ present name))
      × (data_stat_of stat ≡ node_fields n))
      (same_node node there.0 there.1) ((there.2, there.4), there.3),
)
