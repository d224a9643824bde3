-- How trees grow within a step: what is told of them comes after what was told before, and nothing else of the trail is another one.
use Rattle.std.proofs.Common.{◌≡◌, ◌++◌, ◌∷◌, ◌∙◌, ℕ, List, [], append_assoc, map, refl, sym, ap}
use Rattle.std.specs.Prelude.{Result, Ok, Err, OnOk}
use Rattle.zk_client.specs.Clients.{view_of}
use Rattle.zk_calls.specs.declared.line.Line.{Line}
use Rattle.zk_trees.specs.Tending.{footing_in, shifted_by, tree_told, trees_told, Tends}
use Rattle.zk_trees.specs.declared.tree.Trees.{Trees}
use Rattle.zk_trees.specs.declared.tree.TreeNews.{TreeNews}
use Rattle.zk_agent.specs.Agents.{trail_of, Comes, Trail}
use Rattle.zk_agent.specs.Telling.{Told, told_by, TellsTree}
use Rattle.zk_agent.specs.Trees.{Alters, Grows}
use Rattle.zk_agent.specs.declared.action.Action.{Action}
use Rattle.zk_agent.specs.declared.agent.Agent.{Agent}
use Rattle.zk_agent.specs.declared.asker.Asker.{Asker}
use Rattle.zk_agent.specs.declared.input.AgentInput.{AgentInput}
use Rattle.zk_agent.proofs.Moves.{comes_after, tended, trail_eq}

module _ {A : Type 0} (agent : Agent A) (first last : Asker A) (before altered : List (TreeNews A)) (old between new : List (Action A))
    (client : first.follower.client ≡ agent.asker.follower.client) (last_client : last.follower.client ≡ first.follower.client)
    (line : first.line ≡ agent.asker.line) (last_line : last.line ≡ first.line)
    (tells : told_by between ≡ told_by old ++ map TellsTree (trees_told before)) where
  abbrev here : Trail A
  here = trail_of agent old

  abbrev middle : Trail A
  middle = trail_of (record agent { asker = first }) between

  abbrev there : Trail A
  there = trail_of (record agent { asker = last }) new

  same_view : there.view ≡ here.view
  same_view = ap (λ c. view_of c) last_client ∙ ap (λ c. view_of c) client

  same_line : there.line ≡ here.line
  same_line = ap (λ (l : Line A). l.entries.items) last_line ∙ ap (λ (l : Line A). l.entries.items) line

  pub grows : (now : ℕ) (input : AgentInput A) (was after_tending is : Trees A)
      → Tends now was after_tending (footing_in was agent.asker.follower []) (footing_in after_tending first.follower before)
      → Alters input after_tending is (footing_in after_tending first.follower []) (footing_in is last.follower altered)
      → told_by new ≡ told_by between ++ map TellsTree (trees_told altered) → Grows now input was is here there
  grows now input was after_tending is tends alters more = record {
    between = after_tending;
    tended = footing_in after_tending first.follower before;
    tends = tends;
    altered = footing_in is last.follower altered;
    alters = alters;
    next = refl;
    last = trail_eq
        (record here {
          subjects = last.follower.subjects.items;
          told = (told_by old ++ map TellsTree (trees_told before)) ++ map TellsTree (trees_told altered);
        })
        there same_view refl same_line refl refl refl (more ∙ ap (λ l. l ++ map TellsTree (trees_told altered)) tells);
  }

  pub grown : (now : ℕ) → first.follower.subjects.items ≡ shifted_by (trees_told before) agent.asker.follower.subjects.items
      → last.follower.subjects.items ≡ shifted_by (trees_told altered) first.follower.subjects.items
      → told_by new ≡ told_by between ++ map TellsTree (trees_told altered) → Comes now [] here there
  grown now shifts last_shifts more =
      comes_after now [] [] here middle there
      (tended now (trees_told before) here middle
      (trail_eq _ middle (ap (λ c. view_of c) client) shifts (ap (λ (l : Line A). l.entries.items) line) refl refl refl tells))
      (tended now (trees_told altered) middle there
      (trail_eq _ there (ap (λ c. view_of c) last_client) last_shifts (ap (λ (l : Line A). l.entries.items) last_line) refl refl refl more))

pub ok_so : {X E P Q : Type 0} (result : Result X E) → (P → Q) → OnOk result P → OnOk result Q
ok_so (Ok x) so p = so p
ok_so (Err e) so p = tt

-- the first of those that are left is told
pub told_next : {A : Type 0} (told then all : List Told) (one : TreeNews A) (rest left : List (TreeNews A)) → left ≡ one ∷ rest
    → then ≡ told ++ TellsTree (tree_told one) ∷ [] → told ++ map TellsTree (trees_told left) ≡ all
    → then ++ map TellsTree (trees_told rest) ≡ all
told_next told then all one rest left is more whole =
    ap (λ l. l ++ map TellsTree (trees_told rest)) more
    ∙ append_assoc told (TellsTree (tree_told one) ∷ []) (map TellsTree (trees_told rest))
    ∙ ap (λ l. told ++ map TellsTree (trees_told l)) (sym is) ∙ whole
