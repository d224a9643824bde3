-- What is there after all transactions.
use Rattle.std.proofs.Common.{◌≡◌, ℕ, ◌<◌, true, leb, List, [], ◌∷◌, Option, Some, None, refl, ap, ◌∙◌, arith}
use Rattle.std.proofs.lemmas.Bool.Decides.{nat_tests}
use Rattle.std.specs.List.{list_all}
use Rattle.std.specs.Option.{option_map}
use Rattle.zk_nodes.specs.Path.{NodePath}
use Rattle.zk_nodes.specs.History.{Node, Transaction, AreRising, IsHistory, after, tree_at}
use Rattle.zk_nodes.specs.declared.stat.Stat.{Stat}
use Rattle.zk_history.specs.HistoryView.{HistoryView, history_of, first_tree, newest_tree}
use Rattle.zk_history.specs.Shown.{stat_of, IsStat}
use Rattle.zk_history.proofs.TreeLemmas.{up_to-all}

all_up_to : (low : ℕ) (ts : List Transaction) → AreRising low ts → list_all (λ one. leb one.zxid 9223372036854775807) ts ≡ true
all_up_to low [] r = refl
all_up_to low (one ∷ more) r =
    let b : one.zxid < 9223372036854775808 = r.1 in
    let l : leb one.zxid 9223372036854775807 ≡ true = grind (arith, nat_tests, b) in
    grind (arith, l, all_up_to one.zxid more r.2)

newest_at : (kept : HistoryView) → IsHistory (history_of kept) → tree_at (history_of kept) 9223372036854775807 ≡ newest_tree kept
newest_at kept h =
    ap (λ ts. after ts (first_tree kept)) (up_to-all 9223372036854775807 kept.transactions (all_up_to 0 kept.transactions h.rising))

owner_of_stat : (n : ℕ) (o : Option Node)
    → option_map (λ s. s.ephemeral_owner) (option_map (stat_of n) o) ≡ option_map (λ node. node.owner) o
owner_of_stat n None = refl
owner_of_stat n (Some node) = refl

-- a Stat tells the owner
pub owner_told : (kept : HistoryView) (p : NodePath) (told : Option Stat) → IsHistory (history_of kept)
    → IsStat (tree_at (history_of kept) 9223372036854775807) p told
    → option_map (λ s. s.ephemeral_owner) told ≡ option_map (λ node. node.owner) (newest_tree kept p)
owner_told kept p told h (names, has, is) =
    ap (option_map (λ s. s.ephemeral_owner)) is ∙ owner_of_stat _ (tree_at (history_of kept) 9223372036854775807 p)
    ∙ ap (λ t. option_map (λ node. node.owner) (t p)) (newest_at kept h)
