-- What a session follows for the tree of a ticket, step by step of an agent, if no other tree has that ticket at once.
use Rattle.std.proofs.Common.{◌≡◌, ◌++◌, ◌∷◌, ◌<◌, ◌≤◌, ℕ, Bool, true, false, cond, List, [], map, max, refl, sym, ap, subst, ◌∙◌}
use Rattle.std.proofs.Common.{arith, true≢false}
use Rattle.std.proofs.lemmas.Bool.{eqb-true}
use Rattle.std.proofs.lemmas.List.{append-nil}
use Rattle.std.proofs.lemmas.Grind.{flat_map-append}
use Rattle.std.specs.Prelude.{◌==◌, ◌||◌, ⊤, fold, nat_eq, string_bytes}
use Rattle.std.specs.List.{flat_map, starts_with, AllByRecursion}
use Rattle.std.specs.declared.alloc.Global.{Global}
use Rattle.zk_nodes.specs.Path.{Text}
use Rattle.zk_trees.specs.Tending.{Footing, Plants, TreeTold, Uproots, UprootsSo, are_at_rest, bed_of, found, has_ticket, left}
use Rattle.zk_trees.specs.Tending.{noted_report, noted_shown}
use Rattle.zk_trees.specs.declared.member.Member.{Member}
use Rattle.zk_trees.specs.declared.tree.Tree.{Tree}
use Rattle.zk_trees.specs.declared.tree.Trees.{Trees}
use Rattle.zk_agent.specs.Telling.{told_by, trees_in}
use Rattle.zk_agent.specs.Trees.{Alters, GoesOn, noted_by, noted_in}
use Rattle.zk_agent.specs.declared.action.Action.{Action}
use Rattle.zk_agent.specs.declared.action.Action.TheVariants as action
use Rattle.zk_agent.specs.declared.agent.Agent.{Agent}
use Rattle.zk_agent.specs.declared.input.AgentInput.{AgentInput}
use Rattle.zk_agent.specs.declared.input.AgentInput.TheVariants as input
use Rattle.ffi_device.specs.Chains.{IsOwn, Part, TookAll}
use Rattle.ffi_device.specs.Happenings.{Happening, happening}
use Rattle.ffi_device.specs.Happenings as happens
use Rattle.ffi_device.specs.Steps.{Stepped}
use Rattle.ffi_device.specs.declared.device.Device.{Device}
use Rattle.ffi_c.specs.Followed.{Node, Plant, asks_tree, is_planted, nodes_in, nodes_of, nodes_told, planted_of, plants_in, uprooted}
use Rattle.ffi_c.proofs.Followed.{told_both, told_but}
use Rattle.ffi_c.proofs.Heard.{each_both}
use Rattle.ffi_c.proofs.Nodes.{AreNone, AreOnce, AreSound, Good, SoundWhere, all_sound, it_ends, left_sound, none_of, other_ends, plants}
use Rattle.ffi_c.proofs.Nodes.{tends}
use Rattle.ffi_c.proofs.Planted.{goes_on as goes_planted, own_plants, plants_at, tends as tends_planted}
use Rattle.ffi_c.proofs.Turned.{fold_more}

-- a tree by its ticket, and by what is followed for it
abbrev Key : Type 0 → Type 0
Key A = ℕ × List (Member A ⊤)

module _ (tree : ℕ) where
  -- ---- trees that were asked for

  abbrev IsNone : List Plant → Type 0
  IsNone all = AllByRecursion (λ plant. (plant.ticket == tree) ≡ false) all

  -- one at most has this ticket
  abbrev pub IsOnce : List Plant → Type 0
  IsOnce [] = ⊤
  IsOnce (plant ∷ all) = ((plant.ticket == tree) ≡ true → IsNone all) × IsOnce all

  pub none_planted : (all : List Plant) → is_planted tree all ≡ false → IsNone all
  none_planted [] none = tt
  none_planted (plant ∷ all) none = by (plant.ticket == tree) refl (λ others. none_planted all others) none
    where
      by : (b : Bool) → (plant.ticket == tree) ≡ b → (is_planted tree all ≡ false → IsNone all) → (b || is_planted tree all) ≡ false
          → IsNone (plant ∷ all)
      by true is rest none = absurd (true≢false none)
      by false is rest none = (is, rest none)

  once_and : (all : List Plant) (plant : Plant) → IsOnce all → ((plant.ticket == tree) ≡ true → IsNone all) → IsOnce (all ++ plant ∷ [])
  once_and [] plant once none = ((λ is. tt), tt)
  once_and (one ∷ all) plant once none = (
    (λ is. each_both (λ its. (its.ticket == tree) ≡ false) all (plant ∷ []) (once.0 is) (by is (plant.ticket == tree) refl, tt)),
    once_and all plant once.1 (λ is. (none is).1),
  )
    where
      by : (one.ticket == tree) ≡ true → (b : Bool) → (plant.ticket == tree) ≡ b → (plant.ticket == tree) ≡ false
      by is true its = absurd (true≢false (sym is ∙ (none its).0))
      by is false its = its

  none_left : (ticket : ℕ) (all : List Plant) → IsNone all → IsNone (uprooted ticket all)
  none_left ticket [] none = tt
  none_left ticket (one ∷ all) none = by (one.ticket == ticket) (none_left ticket all none.1)
    where
      by : (b : Bool) → IsNone (uprooted ticket all) → IsNone (cond b all (one ∷ uprooted ticket all))
      by true rest = none.1
      by false rest = (none.0, rest)

  once_left : (ticket : ℕ) (all : List Plant) → IsOnce all → IsOnce (uprooted ticket all)
  once_left ticket [] once = tt
  once_left ticket (one ∷ all) once = by (one.ticket == ticket) (once_left ticket all once.1)
    where
      by : (b : Bool) → IsOnce (uprooted ticket all) → IsOnce (cond b all (one ∷ uprooted ticket all))
      by true rest = once.1
      by false rest = ((λ is. none_left ticket all (once.0 is)), rest)

  pub once_on : (what : Happening) (all : List Plant) → IsOnce all → (asks_tree tree what ≡ true → IsNone all)
      → IsOnce (planted_of what all)
  once_on (happens.FollowsTree ticket root most) all once none =
      once_and all (record { ticket = ticket; root = root; most = most }) once none
  once_on (happens.UnfollowsTree ticket) all once none = once_left ticket all once
  once_on _ all once none = once

  module _ {A : Type 0} where
    trees_none : (trees : List (Tree A)) → IsNone (plants_in trees) → AreNone tree trees
    trees_none [] none = tt
    trees_none (one ∷ trees) none = (none.0, trees_none trees none.1)

    trees_once : (trees : List (Tree A)) → IsOnce (plants_in trees) → AreOnce tree trees
    trees_once [] once = tt
    trees_once (one ∷ trees) once = ((λ is. trees_none trees (once.0 is)), trees_once trees once.1)

    -- ---- a tree that comes or goes

    -- what is told turns the nodes that were followed into those that are
    record Told (was : List (Tree A)) (told : List TreeTold) (is : List (Tree A)) (least next : ℕ) : Type 0 where
      nodes : fold (nodes_told tree) (nodes_of tree was) told ≡ nodes_of tree is
      sound : AreSound tree next is
      more : least ≤ next

    module _ (was : Trees A) (footing : Footing A) (sound : AreSound tree footing.next was.all.items) where
      abbrev was_nodes : List Node
      was_nodes = nodes_of tree was.all.items

      abbrev quiet : Footing A
      quiet = record footing { told = [] }

      abbrev Alteration : Trees A → Footing A → Type 0
      Alteration is new = Told was.all.items new.told is.all.items footing.next new.next

      same : (is : Trees A) (new : Footing A) → (is ≡ was) × (new ≡ quiet) → Alteration is new
      same is new so =
          subst (λ (t : Trees A). Alteration t new) (sym so.0) (subst (λ (f : Footing A). Alteration was f) (sym so.1)
          (record { nodes = refl; sound = sound; more = omega arith }))

      comes : (ticket : ℕ) (root : Text) (most : ℕ) (is : Trees A) (new : Footing A) → tree < footing.next
          → ((ticket == tree) ≡ true → AreNone tree was.all.items) → Plants ticket root most was is quiet new → Alteration is new
      comes ticket root most is new low free p = record {
        nodes = good.nodes ∙ by (ticket == tree) refl ∙ sym (ap (λ b. was_nodes ++ (cond b its [] ++ [])) good.its)
            ∙ sym (flat_map-append (λ (one : Tree A). cond (one.ticket == tree) (nodes_in one.members.items) []) was.all.items
            (p.tree ∷ []))
            ∙ sym (ap (nodes_of tree) p.last);
        sound = subst (AreSound tree new.next) (sym p.last)
            (each_both (λ one. SoundWhere (one.ticket == tree) new.next one.members.items) was.all.items (p.tree ∷ [])
            (all_sound tree footing.next new.next good.next was.all.items sound)
            (subst (λ b. SoundWhere b new.next p.tree.members.items) (sym good.its) good.sound, tt));
        more = good.next;
      }
        where
          none : (b : Bool) → (ticket == tree) ≡ b → was_nodes ≡ cond b [] was_nodes
          none true is_it = none_of tree was.all.items (free is_it)
          none false other = refl

          good : Good tree was_nodes (ticket == tree) was_nodes footing.next (bed_of new p.tree)
          good = plants tree was_nodes (ticket == tree) was_nodes footing.next ticket root most quiet (bed_of new p.tree) p.bed refl low
              (omega arith) (none (ticket == tree) refl)

          its : List Node
          its = nodes_in p.tree.members.items

          by : (b : Bool) → (ticket == tree) ≡ b → cond b its was_nodes ≡ was_nodes ++ (cond b its [] ++ [])
          by true is_it = sym (ap (λ t. t ++ (its ++ [])) (none true is_it) ∙ append-nil its)
          by false other = sym (append-nil was_nodes)

      goes : (ticket : ℕ) (is : Trees A) (new : Footing A) → AreOnce tree was.all.items → Uproots ticket was is quiet new
          → Alteration is new
      goes ticket is new once u = by (ticket == tree) refl
        where
          done : (fold (nodes_told tree) was_nodes new.told ≡ nodes_of tree (left ticket was.all.items)) → new.next ≡ footing.next
              → Alteration is new
          done nodes next = record {
            nodes = nodes ∙ sym (ap (nodes_of tree) u.others);
            sound = subst (AreSound tree new.next) (sym u.others) (subst (λ n. AreSound tree n (left ticket was.all.items)) (sym next)
                (left_sound tree was_nodes footing.next ticket was.all.items sound));
            more = omega (arith, next);
          }

          by : (b : Bool) → (ticket == tree) ≡ b → Alteration is new
          by true is_it =
              let its = eqb-true ticket tree is_it in
              let ends = it_ends tree was_nodes was.all.items quiet new
              (subst (λ n. UprootsSo (found n was.all.items) quiet new) its u.goes) once sound refl in
              done (ends.0 ∙ ap (λ n. nodes_of tree (left n was.all.items)) (sym its)) ends.1
          by false other =
              let ends = other_ends tree was_nodes ticket other was.all.items quiet new u.goes in
              done (ends.0 ∙ sym ends.2) ends.1

      alters : (given : AgentInput A) (is : Trees A) (new : Footing A) → Alters given was is quiet new → AreOnce tree was.all.items
          → tree < footing.next → (asks_tree tree (happening given) ≡ true → AreNone tree was.all.items) → Alteration is new
      alters (input.FollowTree ticket root most) is new p once low free = comes ticket root most is new low free p
      alters (input.UnfollowTree ticket) is new u once low free = goes ticket is new once u
      alters input.Opened is new so once low free = same is new so
      alters input.Failed is new so once low free = same is new so
      alters input.Cut is new so once low free = same is new so
      alters input.Moment is new so once low free = same is new so
      alters (input.Bytes bytes) is new so once low free = same is new so
      alters (input.Addresses kept added is_listed) is new so once low free = same is new so
      alters (input.Call ticket call until) is new so once low free = same is new so
      alters (input.Credential credential) is new so once low free = same is new so
      alters (input.Follow ticket side path) is new so once low free = same is new so
      alters (input.Unfollow ticket) is new so once low free = same is new so

    -- ---- what is noted

    abbrev key : Tree A → Key A
    key one = (one.ticket, one.members.items)

    abbrev keys : List (Tree A) → List (Key A)
    keys trees = map key trees

    noted_like : (f : Tree A → Tree A) → ((one : Tree A) → key (f one) ≡ key one) → (trees : List (Tree A))
        → keys (map f trees) ≡ keys trees
    noted_like f like [] = refl
    noted_like f like (one ∷ trees) = ap (λ k. k ∷ keys (map f trees)) (like one) ∙ ap (λ t. key one ∷ t) (noted_like f like trees)

    behind_or_not : (b : Bool) (one : Tree A) → key (cond b (record one { is_behind = true }) one) ≡ key one
    behind_or_not true one = refl
    behind_or_not false one = refl

    notes_one : (said : Action A) (trees : List (Tree A)) → keys (noted_in trees said) ≡ keys trees
    notes_one (action.Shown ticket) trees =
        noted_like (noted_shown ticket) (λ one. behind_or_not (has_ticket ticket one.members.items) one) trees
    notes_one (action.Report path side event) trees =
        noted_like (noted_report (string_bytes path)) (λ one. behind_or_not (starts_with nat_eq (string_bytes path) one.root) one) trees
    notes_one _ trees = refl

    notes_all : (said : List (Action A)) (trees : List (Tree A)) → keys (noted_by said trees) ≡ keys trees
    notes_all [] trees = refl
    notes_all (one ∷ said) trees = notes_all said (noted_in trees one) ∙ notes_one one trees

    of_keys : (trees : List (Tree A)) → nodes_of tree trees ≡ flat_map (λ (k : Key A). cond (k.0 == tree) (nodes_in k.1) []) (keys trees)
    of_keys [] = refl
    of_keys (one ∷ trees) = ap (λ t. cond (one.ticket == tree) (nodes_in one.members.items) [] ++ t) (of_keys trees)

    abbrev AreSoundKeys : (next : ℕ) → List (Key A) → Type 0
    AreSoundKeys next all = AllByRecursion (λ (k : Key A). SoundWhere (k.0 == tree) next k.1) all

    to_keys : (next : ℕ) (trees : List (Tree A)) → AreSound tree next trees → AreSoundKeys next (keys trees)
    to_keys next [] sound = tt
    to_keys next (one ∷ trees) sound = (sound.0, to_keys next trees sound.1)

    from_keys : (next : ℕ) (trees : List (Tree A)) → AreSoundKeys next (keys trees) → AreSound tree next trees
    from_keys next [] sound = tt
    from_keys next (one ∷ trees) sound = (sound.0, from_keys next trees sound.1)

    -- ---- an agent's step

    abbrev pub nodes_at : Agent A → List Node
    nodes_at agent = nodes_of tree agent.trees.all.items

    -- The next ticket of nodes is above the tree's own, and the tickets of each such tree are below it.
    pub record Sound (trees : Trees A) : Type 0 where
      pub low : tree < trees.next
      pub sound : AreSound tree trees.next trees.all.items

    goes_on : (now : ℕ) (given : AgentInput A) (old new : Agent A) (said : List (Action A)) → GoesOn now given old new said
        → IsOnce (plants_at old) → Sound old.trees → (asks_tree tree (happening given) ≡ true → IsNone (plants_at old))
        → (fold (nodes_told tree) (nodes_at old) (trees_in (told_by said)) ≡ nodes_at new) × Sound new.trees
    goes_on now given old new said g once sound free =
        let was = old.trees.all.items in
        let between = g.grows.between in
        let tended = g.grows.tended in
        let altered = g.grows.altered in
        let tends_so = tends tree (nodes_of tree was) (are_at_rest now old.trees) now old.trees between _ tended g.grows.tends
        (trees_once was once) sound.sound refl in
        let same_plants = tends_planted (are_at_rest now old.trees) now old.trees between _ tended g.grows.tends in
        let low = sound.low in
        let first = tends_so.next in
        let alters_so = alters between tended tends_so.sound given g.trees altered g.grows.alters
        (trees_once between.all.items (subst IsOnce (sym same_plants) once)) (omega (arith, low, first))
        (λ asks. trees_none between.all.items (subst IsNone (sym same_plants) (free asks))) in
        let noted : keys new.trees.all.items ≡ keys g.trees.all.items = ap keys g.noted ∙ notes_all said g.trees.all.items in
        let next : new.trees.next ≡ altered.next = g.next ∙ g.grows.next in
        let second = alters_so.more in (
          ap (fold (nodes_told tree) (nodes_of tree was)) g.told ∙ fold_more (nodes_told tree) (nodes_of tree was) tended.told altered.told
              ∙ ap (λ b. fold (nodes_told tree) b altered.told) tends_so.nodes ∙ alters_so.nodes
              ∙ of_keys g.trees.all.items ∙ ap (flat_map (λ (k : Key A). cond (k.0 == tree) (nodes_in k.1) [])) (sym noted)
              ∙ sym (of_keys new.trees.all.items),
          record {
            low = omega (arith, low, first, second, next);
            sound = from_keys new.trees.next new.trees.all.items (subst (AreSoundKeys new.trees.next) (sym noted)
                (subst (λ n. AreSoundKeys n (keys g.trees.all.items)) (sym next)
                (to_keys altered.next g.trees.all.items alters_so.sound)));
          },
        )

  -- ---- a device's step

  abbrev trees_told : List (Action Global) → List TreeTold
  trees_told said = trees_in (told_by said)

  abbrev Leads : (from : Agent Global) → List TreeTold → (to : Agent Global) → Type 0
  Leads from told to = (fold (nodes_told tree) (nodes_at from) told ≡ nodes_at to) × Sound to.trees

  own_asks : (what : Happening) → IsOwn what → asks_tree tree what ≡ false
  own_asks (happens.FollowsTree ticket root most) own = absurd own
  own_asks _ own = refl

  own_all : (now : ℕ) (own : List Part) (from to : Agent Global) → TookAll now from own to
      → AllByRecursion (λ part. IsOwn (happening part.given)) own → IsOnce (plants_at from) → Sound from.trees
      → Leads from (trees_told (flat_map (λ part. part.said) own)) to
  own_all now [] from to is are once sound =
      (ap (λ (a : Agent Global). nodes_at a) is, subst (λ (a : Agent Global). Sound a.trees) is sound)
  own_all now (part ∷ own) from to took are once sound =
      let here = goes_on (max from.latest now) part.given from took.0 part.said took.1.trees once sound
      (λ asks. absurd (true≢false (sym asks ∙ own_asks (happening part.given) are.0))) in
      let same = goes_planted (max from.latest now) part.given from took.0 part.said took.1.trees
      ∙ own_plants (happening part.given) are.0 (plants_at from) in
      let rest = own_all now own took.0 to took.2 are.1 (subst IsOnce (sym same) once) here.1 in
      let more = flat_map (λ (p : Part). p.said) own in (
        ap (fold (nodes_told tree) (nodes_at from)) (told_both tree part.said more)
            ∙ fold_more (nodes_told tree) (nodes_at from) (trees_told part.said) (trees_told more)
            ∙ ap (λ b. fold (nodes_told tree) b (trees_told more)) here.0 ∙ rest.0,
        rest.1,
      )

  -- of a contender the agent is asked for nothing
  asks_as : (what : Happening) → asks_tree tree (happens.given_of what) ≡ asks_tree tree what
  asks_as (happens.Contends its directory naming guid bytes acl may_be_there) = refl
  asks_as (happens.GivesUp its) = refl
  asks_as _ = refl

  pub step_nodes : (now : ℕ) (what : Happening) (old session : Device) → Stepped now what old session → IsOnce (plants_at old.agent)
      → Sound old.agent.trees → (asks_tree tree what ≡ true → IsNone (plants_at old.agent))
      → Leads old.agent (trees_told session.said.items) session.agent
  step_nodes now what old session does once sound free =
      let said = does.took.said in
      let owned = flat_map (λ (p : Part). p.said) does.took.own in
      let agent = does.took.took.0 in
      let takes = does.took.took.1.trees in
      let told = told_but tree (said ++ owned) session.said.items does.took.told ∙ told_both tree said owned in
      let its : asks_tree tree (happening does.given) ≡ asks_tree tree what = ap (asks_tree tree) does.is ∙ asks_as what in
      let free_of : asks_tree tree (happening does.given) ≡ true → IsNone (plants_at old.agent) = λ asks. free (sym its ∙ asks) in
      let first = goes_on (max old.agent.latest now) does.given old.agent agent said takes once sound free_of in
      let planted = goes_planted (max old.agent.latest now) does.given old.agent agent said takes in
      let rest = own_all now does.took.own agent session.agent does.took.took.2 does.took.are_own
      (subst IsOnce (sym planted) (once_on (happening does.given) (plants_at old.agent) once free_of)) first.1 in (
        ap (fold (nodes_told tree) (nodes_at old.agent)) told
            ∙ fold_more (nodes_told tree) (nodes_at old.agent) (trees_told said) (trees_told owned)
            ∙ ap (λ b. fold (nodes_told tree) b (trees_told owned)) first.0 ∙ rest.0,
        rest.1,
      )
