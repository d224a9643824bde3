-- The example meets the premises: each move may be made where it stands, and what it leads to is computed.
use Rattle.std.proofs.Common.{◌≡◌, List, [], ◌∷◌, refl, ap, sym, inl, arith, Option, Some, None, ℕ, ◌≤◌, length, take, drop}
use Rattle.std.specs.Str.{is_utf8, chars}
use lib.Utf8.{encode}
use Rattle.zk_nodes.specs.declared.side.Side.TheVariants.{Data}
use Rattle.zk_nodes.specs.Path.{NodePath, path_of}
use Rattle.zk_nodes.specs.History.{History, Node, IsHistory, view, tree_at}
use Rattle.zk_turns.specs.Turns.{IsAskable}
use Rattle.zk_laws.specs.Server.{Notice, AreSent, zxid_held}
use Rattle.zk_laws.specs.ServerSteps.{Admits}
use Rattle.zk_laws.proofs.Steps.{World, Joins, By_server}
use Rattle.zk_watches.specs.Lists.{Lists}
use Rattle.zk_laws.proofs.Log.{AreParts, Opened, last, good, Full, Suits}
use Rattle.zk_laws.proofs.Run.{Move, Opens, Goes, moved, start, run, IsSchedule}
use Rattle.theory_messages.specs.Example.{root_alone, two_changes, at_a, read_a, fields_at_five, just_a, just_b, until_restored, until_told}
use Rattle.theory_messages.specs.Example.{a_changed, two_nodes, at_b, read_b, until_first_part}

pub is_history : IsHistory two_changes
is_history = record {
  root = refl;
  parents = λ name path e. absurd cc;
  zeros = λ path node e. zeros path node e;
  rising = (omega arith, omega arith, (omega arith, omega arith, tt));
  legal = ((((refl, refl), tt)), (((_, refl, omega arith), tt), tt));
}
  where
    zeros : (path : NodePath) (node : Node) → root_alone path ≡ Some node → (node.czxid ≡ 0) × (node.mzxid ≡ 0) × (node.pzxid ≡ 0)
    zeros [] node e = let c : 0 ≡ node.czxid = ap (λ (o : Option Node). elim o [ None ↦ 0 | Some n ↦ n.czxid ]) e in
        let m : 0 ≡ node.mzxid = ap (λ (o : Option Node). elim o [ None ↦ 0 | Some n ↦ n.mzxid ]) e in
        let p : 0 ≡ node.pzxid = ap (λ (o : Option Node). elim o [ None ↦ 0 | Some n ↦ n.pzxid ]) e in (sym c, sym m, sym p)
    zeros (name ∷ path) node e = absurd cc

pub all_sent : (ns : List Notice) → AreSent ns ns
all_sent ns n = (omega arith, λ h. h)

-- a connection begins: its server admits the client, and what is watched is set again
begins : (h : History) (place : ℕ) (parts : List Lists) (moves : List Move) (w : World)
    → place ≤ length h.transactions → last w.log ≤ zxid_held h place → AreParts (Opened ∷ w.log) parts
    → IsSchedule h moves (moved h (Goes (Joins parts)) (moved h (Goes (By_server (Admits (last w.log)))) (moved h (Opens place) w)))
    → IsSchedule h (Opens place ∷ Goes (By_server (Admits (last w.log))) ∷ Goes (Joins parts) ∷ moves) w
begins h place parts moves w low seen are more = (low, ((refl, refl, seen), ((refl, refl, are), more)))

-- what is asked is about a path, with values of their types
pub a_askable : IsAskable read_a
unfolding is_utf8 chars encode
a_askable = (refl, refl)

b_askable : IsAskable read_b
unfolding is_utf8 chars encode
b_askable = (refl, refl)

pub restored : IsSchedule two_changes until_restored (start 0)
restored =
    let again : IsSchedule two_changes (drop 7 until_restored) (run two_changes (take 7 until_restored) (start 0)) =
    begins two_changes 1 (just_a ∷ []) (drop 10 until_restored) (run two_changes (take 7 until_restored) (start 0)) (omega arith)
    (omega arith) (record { data_watches = refl; exist_watches = refl; child_watches = refl })
    ((refl, refl, all_sent []), ((λ e. cc, omega arith, all_sent (a_changed ∷ [])), ((refl, inl refl), tt))) in
    begins two_changes 1 [] (drop 3 until_restored) (start 0) (omega arith) (omega arith)
    (record { data_watches = refl; exist_watches = refl; child_watches = refl })
    ((refl, a_askable), ((refl, refl, (refl, refl)), ((refl, inl refl), (tt, again))))

-- until the notice is taken the answer is good, and the last seen zxid is that of its reply
pub kept_good : good Data at_a (run two_changes until_restored (start 0)).log ≡ Some (Full (Some (104 ∷ 105 ∷ [])) fields_at_five)
kept_good = refl

pub told_then : good Data at_a (run two_changes until_told (start 0)).log ≡ None
told_then = refl

-- A reply to a part that is not the last comes with 6, when a good answer is that at 5 and not that at 6.
pub first_part : IsSchedule two_nodes until_first_part (start 0)
first_part =
    let again : IsSchedule two_nodes (drop 10 until_first_part) (run two_nodes (take 10 until_first_part) (start 0)) =
    begins two_nodes 2 (just_a ∷ just_b ∷ []) (drop 13 until_first_part) (run two_nodes (take 10 until_first_part) (start 0)) (omega arith)
    (omega arith) (record { data_watches = refl; exist_watches = refl; child_watches = refl })
    ((refl, refl, all_sent []), ((refl, inl refl), tt)) in
    begins two_nodes 1 [] (drop 3 until_first_part) (start 0) (omega arith) (omega arith)
    (record { data_watches = refl; exist_watches = refl; child_watches = refl }) (
      (refl, a_askable),
      ((refl, b_askable), ((refl, refl, (refl, refl)), ((refl, refl, (refl, refl)), ((refl, inl refl), ((refl, inl refl), (tt, again)))))),
    )

pub b_good : good Data at_b (run two_nodes until_first_part (start 0)).log ≡ Some (Full (Some (104 ∷ 105 ∷ [])) fields_at_five)
b_good = refl

pub b_seen : last (run two_nodes until_first_part (start 0)).log ≡ 5
b_seen = refl

pub b_not_at_six : Suits (Full (Some (104 ∷ 105 ∷ [])) fields_at_five) (view Data (tree_at two_nodes 6) (path_of at_b)) → ⊥
b_not_at_six f = let e = f.0 in cc

pub two_nodes_history : IsHistory two_nodes
two_nodes_history = record {
  root = refl;
  parents = λ name path e. absurd cc;
  zeros = is_history.zeros;
  rising = (omega arith, omega arith, (omega arith, omega arith, tt));
  legal = (((refl, refl), ((refl, refl), tt)), (((_, refl, omega arith), tt), tt));
}
