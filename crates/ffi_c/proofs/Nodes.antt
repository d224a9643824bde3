-- Which sides of nodes are followed for the tree of a ticket, step by step: those that were told, by the tickets that were told.
use Rattle.std.proofs.Common.{◌≡◌, ◌++◌, ◌∷◌, ◌+◌, ◌<◌, ◌≤◌, ℕ, Bool, true, false, cond, not, List, [], Some, map}
use Rattle.std.proofs.Common.{arith, refl, sym, ap, subst, ◌∙◌, true≢false, eq-eqb, ne_eqb}
use Rattle.std.proofs.lemmas.Bool.{eqb-true}
use Rattle.std.proofs.lemmas.List.{append-nil, map-append}
use Rattle.std.specs.Prelude.{◌==◌, ⊤, fold}
use Rattle.std.specs.List.{filter, AllByRecursion, FoldsTo}
use Rattle.zk_nodes.specs.Path.{Text}
use Rattle.zk_nodes.specs.declared.side.Side.{Side}
use Rattle.zk_nodes.specs.declared.side.Side.TheVariants.{Child, Data}
use Rattle.zk_trees.specs.Tending.{Bed, Footing, Grows as GrowsBed, IsBounded, IsWhole, Joins, LeavesAll, LeavesIt, LetsAllGo, LetsGo}
use Rattle.zk_trees.specs.Tending.{NotesBoundWhere, PlantsBed, TakesItOn, TakesOn, TakesOnWhere, TellsWhole, TendsEach, TendsOneWhere}
use Rattle.zk_trees.specs.Tending.{TendsTree, TendsWhere, TreeTold, UprootsSo, bed_of, found, is_same, lacks_nothing, left, seed_of, tells}
use Rattle.zk_trees.specs.Trees.{aim_of, is_gone, is_settled, stays, tickets_gone}
use Rattle.zk_trees.specs.declared.member.Member.{Member}
use Rattle.zk_trees.specs.declared.tree.Tree.{Tree}
use Rattle.zk_trees.specs.declared.tree.Trees.{Trees}
use Rattle.ffi_c.specs.Followed.{Node, nodes_in, nodes_of, nodes_told, without}
use Rattle.ffi_c.proofs.Heard.{each_both}
use Rattle.ffi_c.proofs.Turned.{fold_more}

same_number : (k : ℕ) → (k == k) ≡ true
same_number k = eq-eqb k k refl

other_number : (k its : ℕ) → (k == its) ≡ false → (its == k) ≡ false
other_number k its other = ne_eqb its k (λ same. true≢false (sym (eq-eqb k its (sym same)) ∙ other))

less_is_other : (k its : ℕ) → k < its → (its == k) ≡ false
less_is_other k its less = ne_eqb its k (λ same. omega (arith, less, same))

same_cond : {X : Type 0} (b : Bool) (x : X) → x ≡ cond b x x
same_cond true x = refl
same_cond false x = refl

-- ---- tickets that are let go

-- the nodes without those of these tickets
abbrev gone_by : List ℕ → List Node → List Node
gone_by tickets nodes = fold (λ all ticket. without ticket all) nodes tickets

gone_keeps : (node : Node) (tickets : List ℕ) (nodes : List Node) → AllByRecursion (λ its. (node.ticket == its) ≡ false) tickets
    → gone_by tickets (node ∷ nodes) ≡ node ∷ gone_by tickets nodes
gone_keeps node [] nodes others = refl
gone_keeps node (its ∷ tickets) nodes others =
    ap (λ b. gone_by tickets (cond (not b) (node ∷ without its nodes) (without its nodes))) others.0
    ∙ gone_keeps node tickets (without its nodes) others.1

-- ---- members

abbrev Members : Type 0 → Type 0
Members A = List (Member A ⊤)

module _ {A : Type 0} where
  abbrev node_of : Member A ⊤ → Node
  node_of one = record { ticket = one.ticket; aim = aim_of one.subject }

  abbrev tickets_of : Members A → List ℕ
  tickets_of members = map (λ one. one.ticket) members

  abbrev NoneHas : (ticket : ℕ) → Members A → Type 0
  NoneHas ticket members = AllByRecursion (λ one. (one.ticket == ticket) ≡ false) members

  abbrev AreUnder : (next : ℕ) → Members A → Type 0
  AreUnder next members = AllByRecursion (λ one. one.ticket < next) members

  -- no two have one ticket
  abbrev AreDistinct : Members A → Type 0
  AreDistinct [] = ⊤
  AreDistinct (one ∷ members) = NoneHas one.ticket members × AreDistinct members

  none_without : (ticket : ℕ) (members : Members A) → NoneHas ticket members → without ticket (nodes_in members) ≡ nodes_in members
  none_without ticket [] others = refl
  none_without ticket (one ∷ members) others =
      ap (λ b. cond (not b) (node_of one ∷ without ticket (nodes_in members)) (without ticket (nodes_in members))) others.0
      ∙ ap (λ t. node_of one ∷ t) (none_without ticket members others.1)

  -- what is so of each is so of those that are picked
  picked : (P : Member A ⊤ → Type 0) (g : Member A ⊤ → Bool) (members : Members A) → AllByRecursion P members
      → AllByRecursion P (filter g members)
  picked P g [] all = tt
  picked P g (one ∷ members) all = by (g one) (picked P g members all.1)
    where
      by : (b : Bool) → AllByRecursion P (filter g members) → AllByRecursion P (cond b (one ∷ filter g members) (filter g members))
      by true rest = (all.0, rest)
      by false rest = rest

  picked_apart : (g : Member A ⊤ → Bool) (members : Members A) → AreDistinct members → AreDistinct (filter g members)
  picked_apart g [] apart = tt
  picked_apart g (one ∷ members) apart = by (g one) (picked_apart g members apart.1)
    where
      by : (b : Bool) → AreDistinct (filter g members) → AreDistinct (cond b (one ∷ filter g members) (filter g members))
      by true rest = (picked (λ its. (its.ticket == one.ticket) ≡ false) g members apart.0, rest)
      by false rest = rest

  others_in : (ticket : ℕ) (members : Members A) → NoneHas ticket members
      → AllByRecursion (λ its. (ticket == its) ≡ false) (tickets_of members)
  others_in ticket [] others = tt
  others_in ticket (one ∷ members) others = (other_number one.ticket ticket others.0, others_in ticket members others.1)

  -- Without the tickets of those that are picked the others are left.
  picked_gone : (g : Member A ⊤ → Bool) (members : Members A) → AreDistinct members
      → gone_by (tickets_of (filter g members)) (nodes_in members) ≡ nodes_in (filter (λ one. not (g one)) members)
  picked_gone g [] apart = refl
  picked_gone g (one ∷ members) apart = by (g one) (picked_gone g members apart.1)
    where
      gone : List ℕ
      gone = tickets_of (filter g members)

      nodes : List Node
      nodes = nodes_in members

      rest : Members A
      rest = filter (λ its. not (g its)) members

      by : (b : Bool) → gone_by gone nodes ≡ nodes_in rest
          → gone_by (tickets_of (cond b (one ∷ filter g members) (filter g members))) (node_of one ∷ nodes)
          ≡ nodes_in (cond (not b) (one ∷ rest) rest)
      by true are =
          ap (λ b. gone_by gone (cond (not b) (node_of one ∷ without one.ticket nodes) (without one.ticket nodes))) (same_number one.ticket)
          ∙ ap (gone_by gone) (none_without one.ticket members apart.0) ∙ are
      by false are =
          gone_keeps (node_of one) gone nodes
          (others_in one.ticket (filter g members) (picked (λ its. (its.ticket == one.ticket) ≡ false) g members apart.0))
          ∙ ap (λ t. node_of one ∷ t) are

  all_picked : (members : Members A) → filter (λ one. true) members ≡ members
  all_picked [] = refl
  all_picked (one ∷ members) = ap (λ t. one ∷ t) (all_picked members)

  none_picked : (members : Members A) → filter (λ one. not true) members ≡ []
  none_picked [] = refl
  none_picked (one ∷ members) = none_picked members

  all_gone : (members : Members A) → AreDistinct members → gone_by (tickets_of members) (nodes_in members) ≡ []
  all_gone members apart =
      sym (ap (λ (m : Members A). gone_by (tickets_of m) (nodes_in members)) (all_picked members))
      ∙ picked_gone (λ one. true) members apart ∙ ap nodes_in (none_picked members)

  below_more : (next bound : ℕ) → next ≤ bound → (members : Members A) → AreUnder next members → AreUnder bound members
  below_more next bound more [] below = tt
  below_more next bound more (one ∷ members) below =
      let less = below.0 in (omega (arith, less, more), below_more next bound more members below.1)

  -- one that comes after those whose tickets are below its own
  apart_and : (one : Member A ⊤) (members : Members A) → AreDistinct members → AreUnder one.ticket members
      → AreDistinct (members ++ one ∷ [])
  apart_and one [] apart below = (tt, tt)
  apart_and one (its ∷ members) apart below = (
    each_both (λ other. (other.ticket == its.ticket) ≡ false) members (one ∷ []) apart.0
        (less_is_other its.ticket one.ticket below.0, tt),
    apart_and one members apart.1 below.1,
  )

  -- Of a tree of this ticket no two members have one ticket, and each has one below the next.
  abbrev pub SoundWhere : (is_it : Bool) → (next : ℕ) → Members A → Type 0
  SoundWhere true next members = AreDistinct members × AreUnder next members
  SoundWhere false next members = ⊤

  sound_more : (is_it : Bool) (next bound : ℕ) → next ≤ bound → (members : Members A) → SoundWhere is_it next members
      → SoundWhere is_it bound members
  sound_more true next bound more members sound = (sound.0, below_more next bound more members sound.1)
  sound_more false next bound more members sound = tt

  sound_and : (is_it : Bool) (ticket bound : ℕ) → (is_it ≡ true → ticket < bound) → (members : Members A) (one : Member A ⊤)
      → one.ticket ≡ ticket → SoundWhere is_it ticket members → SoundWhere is_it bound (members ++ one ∷ [])
  sound_and true ticket bound less members one its sound = (
    apart_and one members sound.0 (subst (λ n. AreUnder n members) (sym its) sound.1),
    each_both (λ other. other.ticket < bound) members (one ∷ [])
        (below_more ticket bound (let l = less refl in omega (arith, l)) members sound.1)
        (let l = less refl in omega (arith, l, its), tt),
  )
  sound_and false ticket bound less members one its sound = tt

  sound_picked : (is_it : Bool) (next : ℕ) (g : Member A ⊤ → Bool) (members : Members A) → SoundWhere is_it next members
      → SoundWhere is_it next (filter g members)
  sound_picked true next g members sound = (picked_apart g members sound.0, picked (λ one. one.ticket < next) g members sound.1)
  sound_picked false next g members sound = tt

-- ---- the trees of a ticket

module _ {A : Type 0} (tree : ℕ) where
  -- none of these trees has this ticket
  abbrev pub AreNone : List (Tree A) → Type 0
  AreNone trees = AllByRecursion (λ one. (one.ticket == tree) ≡ false) trees

  -- one at most has
  abbrev pub AreOnce : List (Tree A) → Type 0
  AreOnce [] = ⊤
  AreOnce (one ∷ trees) = ((one.ticket == tree) ≡ true → AreNone trees) × AreOnce trees

  abbrev pub AreSound : (next : ℕ) → List (Tree A) → Type 0
  AreSound next trees = AllByRecursion (λ one. SoundWhere (one.ticket == tree) next one.members.items) trees

  pub none_of : (trees : List (Tree A)) → AreNone trees → nodes_of tree trees ≡ []
  none_of [] none = refl
  none_of (one ∷ trees) none =
      ap (λ b. cond b (nodes_in one.members.items) [] ++ nodes_of tree trees) none.0 ∙ none_of trees none.1

  pub all_sound : (next bound : ℕ) → next ≤ bound → (trees : List (Tree A)) → AreSound next trees → AreSound bound trees
  all_sound next bound more [] sound = tt
  all_sound next bound more (one ∷ trees) sound =
      (sound_more (one.ticket == tree) next bound more one.members.items sound.0, all_sound next bound more trees sound.1)

-- ---- what is told of the tree of a ticket

-- what letting go leaves of a tree as it is: its ticket, its members, and the next ticket of nodes
abbrev Rest : Type 0 → Type 0
Rest A = ℕ × Members A × ℕ

module _ (tree : ℕ) (start : List Node) where
  -- what is followed for it, by what was told so far
  abbrev at : List TreeTold → List Node
  at told = fold (nodes_told tree) start told

  at_more : (told : List TreeTold) (one : TreeTold) → at (told ++ one ∷ []) ≡ nodes_told tree (at told) one
  at_more told one = fold_more (nodes_told tree) start told (one ∷ [])

  module _ {A : Type 0} (is_it : Bool) (others : List Node) (least : ℕ) where
    -- A tree that is it has what was told, and of another one nothing was told that is its.
    pub record Good (bed : Bed A) : Type 0 where
      pub its : (bed.ticket == tree) ≡ is_it
      pub nodes : at bed.footing.told ≡ cond is_it (nodes_in bed.members) others
      pub next : least ≤ bed.footing.next
      pub sound : SoundWhere is_it bed.footing.next bed.members

    -- a side of a node joins
    joined_nodes : (ticket : ℕ) (is_found : Bool) (aim : Side × Text) (old new : Bed A) → (old.ticket == tree) ≡ is_it
        → at old.footing.told ≡ cond is_it (nodes_in old.members) others → Joins ticket is_found aim old new
        → at new.footing.told ≡ cond is_it (nodes_in new.members) others
    joined_nodes ticket is_found aim old new its are joins =
        ap (λ (b : Bed A). at b.footing.told) joins.same
        ∙ at_more old.footing.told (TakesOn old.ticket ticket aim.0 aim.1)
        ∙ ap (λ b. cond b (at old.footing.told ++ told ∷ []) (at old.footing.told)) its
        ∙ by is_it are
        ∙ ap (λ (b : Bed A). cond is_it (nodes_in b.members) others) (sym joins.same)
      where
        told : Node
        told = record { ticket = ticket; aim = (aim.0, aim.1) }

        same : told ≡ node_of joins.one
        same = ap (λ n. record { ticket = n; aim = aim }) (sym joins.its_ticket)
            ∙ ap (λ a. record { ticket = joins.one.ticket; aim = a }) (sym joins.its_aim)

        by : (b : Bool) → at old.footing.told ≡ cond b (nodes_in old.members) others
            → cond b (at old.footing.told ++ told ∷ []) (at old.footing.told) ≡ cond b (nodes_in (old.members ++ joins.one ∷ [])) others
        by true here =
            ap (λ t. t ++ told ∷ []) here ∙ ap (λ n. nodes_in old.members ++ n ∷ []) same
            ∙ sym (map-append node_of old.members (joins.one ∷ []))
        by false here = here

    joined : (ticket bound : ℕ) (is_found : Bool) (aim : Side × Text) (old new : Bed A) → (is_it ≡ true → ticket < bound)
        → SoundWhere is_it ticket old.members → Joins ticket is_found aim old new → SoundWhere is_it bound new.members
    joined ticket bound is_found aim old new less sound joins =
        subst (λ (b : Bed A). SoundWhere is_it bound b.members) (sym joins.same)
        (sound_and is_it ticket bound less old.members joins.one joins.its_ticket sound)

    -- what is told besides
    besides : (one : TreeTold) (old new : Bed A) → ((before : List Node) → nodes_told tree before one ≡ before)
        → new.ticket ≡ old.ticket → new.members ≡ old.members → new.footing ≡ tells one old.footing → Good old → Good new
    besides one old new none ticket members footing good = record {
      its = ap (λ n. n == tree) ticket ∙ good.its;
      nodes = ap (λ (f : Footing A). at f.told) footing ∙ at_more old.footing.told one ∙ none (at old.footing.told) ∙ good.nodes
          ∙ ap (λ (m : Members A). cond is_it (nodes_in m) others) (sym members);
      next = subst (λ (f : Footing A). least ≤ f.next) (sym footing) good.next;
      sound = subst (λ (f : Footing A). SoundWhere is_it f.next new.members) (sym footing)
          (subst (λ (m : Members A). SoundWhere is_it old.footing.next m) (sym members) good.sound);
    }

    takes_on : (is_settled : Bool) (aim : Side × Text) (old new : Bed A) → TakesOnWhere is_settled aim old new → Good old → Good new
    takes_on true aim old new same good = subst Good (sym same) good
    takes_on false aim old new joins good = record {
      its = ap (λ (b : Bed A). b.ticket == tree) joins.same ∙ good.its;
      nodes = joined_nodes old.footing.next true aim between new good.its good.nodes joins;
      next = let least_is = good.next in omega (arith, least_is, raised);
      sound = subst (λ n. SoundWhere is_it n new.members) (sym raised)
          (joined old.footing.next (old.footing.next + 1) true aim between new (λ is. omega arith) good.sound joins);
    }
      where
        between : Bed A
        between = record old { footing = record old.footing { next = old.footing.next + 1 } }

        raised : new.footing.next ≡ old.footing.next + 1
        raised = ap (λ (b : Bed A). b.footing.next) joins.same

    takes_all : (aims : List (Side × Text)) (old new : Bed A) → FoldsTo (λ at aim after. TakesItOn aim at after) old aims new
        → Good old → Good new
    takes_all [] old new same good = subst Good same good
    takes_all (aim ∷ aims) old new takes good =
        takes_all aims takes.0 new takes.2
        (takes_on (is_settled old.footing.view aim old.members) aim old takes.0 takes.1 good)

    notes : (is_same is_bounded : Bool) (old new : Bed A) → NotesBoundWhere is_same is_bounded old new → Good old → Good new
    notes true is_bounded old new same good = subst Good (sym same) good
    notes false is_bounded old new other good =
        besides (IsBounded old.ticket is_bounded) old new (λ before. refl) (ap (λ (b : Bed A). b.ticket) other)
        (ap (λ (b : Bed A). b.members) other) (ap (λ (b : Bed A). b.footing) other) good

    tells_all : (is_whole : Bool) (old new : Bed A) → TellsWhole is_whole old new → Good old → Good new
    tells_all true old new told good =
        besides (IsWhole old.ticket) old new (λ before. refl) (ap (λ (b : Bed A). b.ticket) told)
        (ap (λ (b : Bed A). b.members) told) (ap (λ (b : Bed A). b.footing) told) good
    tells_all false old new same good = subst Good (sym same) good

    grows : (old new : Bed A) → GrowsBed old new → Good old → Good new
    grows old new g good =
        tells_all (lacks_nothing g.wants) g.noted new g.whole
        (notes (is_same g.last.is_bounded g.wants.is_bounded) g.wants.is_bounded g.last g.noted g.bound
        (takes_all g.wants.aims old g.last g.takes good))

    -- ---- what is let go

    abbrev rest_of : Bed A → Rest A
    rest_of bed = (bed.ticket, bed.members, bed.footing.next)

    lets_rest : (tickets : List ℕ) (old new : Bed A) → FoldsTo (λ at ticket after. LeavesIt ticket at after) old tickets new
        → rest_of new ≡ rest_of old
    lets_rest [] old new same = sym (ap rest_of same)
    lets_rest (ticket ∷ tickets) old new goes = lets_rest tickets goes.0 new goes.2 ∙ ap rest_of goes.1

    lets_nodes : (tickets : List ℕ) (old new : Bed A) → (old.ticket == tree) ≡ is_it
        → FoldsTo (λ at ticket after. LeavesIt ticket at after) old tickets new
        → at new.footing.told ≡ cond is_it (gone_by tickets (at old.footing.told)) (at old.footing.told)
    lets_nodes [] old new its same = sym (ap (λ (b : Bed A). at b.footing.told) same) ∙ same_cond is_it (at old.footing.told)
    lets_nodes (ticket ∷ tickets) old new its goes =
        lets_nodes tickets goes.0 new (ap (λ (b : Bed A). b.ticket == tree) goes.1 ∙ its) goes.2
        ∙ ap (λ nodes. cond is_it (gone_by tickets nodes) nodes) here ∙ by is_it
      where
        here : at goes.0.footing.told ≡ cond is_it (without ticket (at old.footing.told)) (at old.footing.told)
        here =
            ap (λ (b : Bed A). at b.footing.told) goes.1 ∙ at_more old.footing.told (LetsGo old.ticket ticket)
            ∙ ap (λ b. cond b (without ticket (at old.footing.told)) (at old.footing.told)) its

        by : (b : Bool) → cond b (gone_by tickets (cond b (without ticket (at old.footing.told)) (at old.footing.told)))
            (cond b (without ticket (at old.footing.told)) (at old.footing.told))
            ≡ cond b (gone_by (ticket ∷ tickets) (at old.footing.told)) (at old.footing.told)
        by true = refl
        by false = refl

    lets_go : (old new : Bed A) → LetsAllGo old new → Good old → Good new
    lets_go old new lets good = record {
      its = ap (λ (r : Rest A). r.0 == tree) rest ∙ good.its;
      nodes = lets_nodes gone between new good.its lets ∙ by is_it good.nodes good.sound
          ∙ ap (λ (r : Rest A). cond is_it (nodes_in r.1) others) (sym rest);
      next = subst (λ (r : Rest A). least ≤ r.2) (sym rest) good.next;
      sound = subst (λ (r : Rest A). SoundWhere is_it r.2 r.1) (sym rest)
          (sound_picked is_it old.footing.next (stays old.footing.view) old.members good.sound);
    }
      where
        between : Bed A
        between = record old { members = filter (stays old.footing.view) old.members }

        gone : List ℕ
        gone = tickets_gone old.footing.view old.members

        rest : rest_of new ≡ rest_of between
        rest = lets_rest gone between new lets

        by : (b : Bool) → at old.footing.told ≡ cond b (nodes_in old.members) others → SoundWhere b old.footing.next old.members
            → cond b (gone_by gone (at old.footing.told)) (at old.footing.told)
            ≡ cond b (nodes_in (filter (stays old.footing.view) old.members)) others
        by true are sound = ap (gone_by gone) are ∙ picked_gone (is_gone old.footing.view) old.members sound.0
        by false are sound = are

    tends_tree : (old new : Bed A) → TendsTree old new → Good old → Good new
    tends_tree old new t good = grows t.between new t.grows (lets_go old t.between t.lets good)

    tends_one : (is_behind : Bool) (was is : Tree A) (old new : Footing A) → TendsOneWhere is_behind was is old new
        → Good (bed_of old was) → Good (bed_of new is)
    tends_one true was is old new tended good = tends_tree (bed_of old was) (bed_of new is) tended.0 good
    tends_one false was is old new same good =
        subst (λ (f : Footing A). Good (bed_of f is)) (sym same.1) (subst (λ (t : Tree A). Good (bed_of old t)) (sym same.0) good)

    -- ---- a tree that comes

    pub plants : (ticket : ℕ) (root : Text) (most : ℕ) (old : Footing A) (new : Bed A) → PlantsBed ticket root most old new
        → (ticket == tree) ≡ is_it → tree < old.next → least ≤ old.next → at old.told ≡ cond is_it [] others → Good new
    plants ticket root most old new p its less low are = record {
      its = ap (λ (b : Bed A). b.ticket == tree) p.names_join.same ∙ with_ticket;
      nodes = joined_nodes old.next false (Child, root) p.with_data new with_ticket
          (joined_nodes ticket false (Data, root) seed p.with_data its are p.data_joins) p.names_join;
      next = omega (arith, low, raised);
      sound = subst (λ n. SoundWhere is_it n new.members) (sym raised)
          (joined old.next (old.next + 1) false (Child, root) p.with_data new (λ is. omega arith)
          (joined ticket old.next false (Data, root) seed p.with_data
          (λ is. let same = eqb-true ticket tree (its ∙ is) in omega (arith, less, same)) (none is_it) p.data_joins) p.names_join);
    }
      where
        seed : Bed A
        seed = seed_of (record old { next = old.next + 1 }) ticket root most

        with_ticket : (p.with_data.ticket == tree) ≡ is_it
        with_ticket = ap (λ (b : Bed A). b.ticket == tree) p.data_joins.same ∙ its

        raised : new.footing.next ≡ old.next + 1
        raised = ap (λ (b : Bed A). b.footing.next) p.names_join.same ∙ ap (λ (b : Bed A). b.footing.next) p.data_joins.same

        none : (b : Bool) → SoundWhere {A = A} b ticket []
        none true = (tt, tt)
        none false = tt

  -- ---- all trees

  module _ {A : Type 0} where
    -- Of trees that are none of this ticket nothing is told that is its.
    record Apart (old new : Footing A) (news : List (Tree A)) : Type 0 where
      nodes : at new.told ≡ at old.told
      none : AreNone tree news
      pub next : old.next ≤ new.next

    tends_none : (olds news : List (Tree A)) (old new : Footing A) → TendsEach olds news old new → AreNone tree olds → Apart old new news
    tends_none [] [] old new same none = record {
      nodes = ap (λ (f : Footing A). at f.told) same;
      none = tt;
      next = let is = ap (λ (f : Footing A). f.next) same in omega (arith, is);
    }
    tends_none (one ∷ olds) (its ∷ news) old new tended none =
        let good = tends_one false (at old.told) old.next one.is_behind one its old tended.0 tended.1 (record {
          its = none.0;
          nodes = refl;
          next = omega arith;
          sound = tt;
        }) in
        let rest = tends_none olds news tended.0 new tended.2 none.1 in
        record {
          nodes = rest.nodes ∙ good.nodes;
          none = (good.its, rest.none);
          next = let first = good.next in let second = rest.next in omega (arith, first, second);
        }
    tends_none [] (its ∷ news) old new tended none = absurd tended
    tends_none (one ∷ olds) [] old new tended none = absurd tended

    none_sound : (next : ℕ) (trees : List (Tree A)) → AreNone tree trees → AreSound tree next trees
    none_sound next [] none = tt
    none_sound next (one ∷ trees) none =
        (subst (λ b. SoundWhere b next one.members.items) (sym none.0) tt, none_sound next trees none.1)

    -- what was told of the tree is what it has
    pub record Told (old new : Footing A) (news : List (Tree A)) : Type 0 where
      pub nodes : at new.told ≡ nodes_of tree news
      pub sound : AreSound tree new.next news
      pub next : old.next ≤ new.next

    tends_each : (olds news : List (Tree A)) (old new : Footing A) → TendsEach olds news old new → AreOnce tree olds
        → AreSound tree old.next olds → at old.told ≡ nodes_of tree olds → Told old new news
    tends_each [] [] old new same once sound are = record {
      nodes = ap (λ (f : Footing A). at f.told) same ∙ are;
      sound = tt;
      next = let is = ap (λ (f : Footing A). f.next) same in omega (arith, is);
    }
    tends_each (one ∷ olds) (its ∷ news) old new tended once sound are =
        by (one.ticket == tree) refl (λ before. tends_each olds news tended.0 new tended.2 once.1 before)
      where
        by : (b : Bool) → (one.ticket == tree) ≡ b
            → (AreSound tree tended.0.next olds → at tended.0.told ≡ nodes_of tree olds → Told tended.0 new news)
            → Told old new (its ∷ news)
        by true is rest =
            let none = once.0 is in
            let good = tends_one true [] old.next one.is_behind one its old tended.0 tended.1 (record {
              its = is;
              nodes = are ∙ ap (λ b. cond b (nodes_in one.members.items) [] ++ nodes_of tree olds) is
                  ∙ ap (λ t. nodes_in one.members.items ++ t) (none_of tree olds none) ∙ append-nil (nodes_in one.members.items);
              next = omega arith;
              sound = subst (λ b. SoundWhere b old.next one.members.items) is sound.0;
            }) in
            let others = tends_none olds news tended.0 new tended.2 none in
            record {
              nodes = others.nodes ∙ good.nodes ∙ sym (ap (λ b. cond b (nodes_in its.members.items) [] ++ nodes_of tree news) good.its
                  ∙ ap (λ t. nodes_in its.members.items ++ t) (none_of tree news others.none) ∙ append-nil (nodes_in its.members.items));
              sound = (
                subst (λ b. SoundWhere b new.next its.members.items) (sym good.its)
                    (sound_more true tended.0.next new.next others.next its.members.items good.sound),
                none_sound new.next news others.none,
              );
              next = let first = good.next in let second = others.next in omega (arith, first, second);
            }
        by false is rest =
            let good = tends_one false (at old.told) old.next one.is_behind one its old tended.0 tended.1 (record {
              its = is;
              nodes = refl;
              next = omega arith;
              sound = tt;
            }) in
            let others = rest (all_sound tree old.next tended.0.next good.next olds sound.1)
            (good.nodes ∙ are ∙ ap (λ b. cond b (nodes_in one.members.items) [] ++ nodes_of tree olds) is) in
            record {
              nodes = others.nodes ∙ sym (ap (λ b. cond b (nodes_in its.members.items) [] ++ nodes_of tree news) good.its);
              sound = (subst (λ b. SoundWhere b new.next its.members.items) (sym good.its) tt, others.sound);
              next = let first = good.next in let second = others.next in omega (arith, first, second);
            }
    tends_each [] (its ∷ news) old new tended once sound are = absurd tended
    tends_each (one ∷ olds) [] old new tended once sound are = absurd tended

    pub tends : (is_rest : Bool) (now : ℕ) (was is : Trees A) (old new : Footing A) → TendsWhere is_rest now was is old new
        → AreOnce tree was.all.items → AreSound tree old.next was.all.items → at old.told ≡ nodes_of tree was.all.items
        → Told old new is.all.items
    tends true now was is old new same once sound are =
        subst (λ (l : List (Tree A)). Told old new l) (sym same.0) (subst (λ (f : Footing A). Told old f was.all.items) (sym same.2)
        (record { nodes = are; sound = sound; next = omega arith }))
    tends false now was is old new tended once sound are = tends_each was.all.items is.all.items old new tended.1 once sound are

    -- ---- a tree that ends

    -- members that leave one after the other
    leaves_next : (its : ℕ) (tickets : List ℕ) (old new : Footing A) → LeavesAll its tickets old new → new.next ≡ old.next
    leaves_next its [] old new same = sym (ap (λ (f : Footing A). f.next) same)
    leaves_next its (ticket ∷ tickets) old new goes =
        leaves_next its tickets goes.0 new goes.2 ∙ ap (λ (f : Footing A). f.next) goes.1

    leaves_nodes : (is_it : Bool) (its : ℕ) → (its == tree) ≡ is_it → (tickets : List ℕ) (old new : Footing A)
        → LeavesAll its tickets old new → at new.told ≡ cond is_it (gone_by tickets (at old.told)) (at old.told)
    leaves_nodes is_it its same [] old new ends = sym (ap (λ (f : Footing A). at f.told) ends) ∙ same_cond is_it (at old.told)
    leaves_nodes is_it its same (ticket ∷ tickets) old new goes =
        leaves_nodes is_it its same tickets goes.0 new goes.2 ∙ ap (λ nodes. cond is_it (gone_by tickets nodes) nodes) here ∙ by is_it
      where
        here : at goes.0.told ≡ cond is_it (without ticket (at old.told)) (at old.told)
        here = ap (λ (f : Footing A). at f.told) goes.1 ∙ at_more old.told (LetsGo its ticket)
            ∙ ap (λ b. cond b (without ticket (at old.told)) (at old.told)) same

        by : (b : Bool) → cond b (gone_by tickets (cond b (without ticket (at old.told)) (at old.told)))
            (cond b (without ticket (at old.told)) (at old.told)) ≡ cond b (gone_by (ticket ∷ tickets) (at old.told)) (at old.told)
        by true = refl
        by false = refl

    abbrev Quits : (old new : Footing A) → (some all : List (Tree A)) → Type 0
    Quits old new some all = (at new.told ≡ at old.told) × (new.next ≡ old.next) × (nodes_of tree some ≡ nodes_of tree all)

    abbrev Ends : (old new : Footing A) → (some : List (Tree A)) → Type 0
    Ends old new some = (at new.told ≡ nodes_of tree some) × (new.next ≡ old.next)

    -- Another tree ends.
    pub other_ends : (ticket : ℕ) → (ticket == tree) ≡ false → (trees : List (Tree A)) (old new : Footing A)
        → UprootsSo (found ticket trees) old new → Quits old new (left ticket trees) trees
    other_ends ticket other [] old new same =
        (ap (λ (f : Footing A). at f.told) same, ap (λ (f : Footing A). f.next) same, refl)
    other_ends ticket other (one ∷ trees) old new uproots =
        by (one.ticket == ticket) refl (λ ends. other_ends ticket other trees old new ends) uproots
      where
        by : (b : Bool) → (one.ticket == ticket) ≡ b → (UprootsSo (found ticket trees) old new → Quits old new (left ticket trees) trees)
            → UprootsSo (cond b (Some one) (found ticket trees)) old new
            → Quits old new (cond b trees (one ∷ left ticket trees)) (one ∷ trees)
        by true is rest ends =
            let not_it : (one.ticket == tree) ≡ false = subst (λ n. (n == tree) ≡ false) (sym (eqb-true one.ticket ticket is)) other in (
              leaves_nodes false one.ticket not_it (tickets_of one.members.items) old new ends,
              leaves_next one.ticket (tickets_of one.members.items) old new ends,
              sym (ap (λ b. cond b (nodes_in one.members.items) [] ++ nodes_of tree trees) not_it),
            )
        by false is rest ends =
            let others = rest ends in
            (others.0, others.1, ap (λ t. cond (one.ticket == tree) (nodes_in one.members.items) [] ++ t) others.2)

    -- That of the ticket ends: each of its members is told.
    pub it_ends : (trees : List (Tree A)) (old new : Footing A) → UprootsSo (found tree trees) old new → AreOnce tree trees
        → AreSound tree old.next trees → at old.told ≡ nodes_of tree trees → Ends old new (left tree trees)
    it_ends [] old new same once sound are = (ap (λ (f : Footing A). at f.told) same ∙ are, ap (λ (f : Footing A). f.next) same)
    it_ends (one ∷ trees) old new ends once sound are =
        by (one.ticket == tree) refl (λ rest. it_ends trees old new rest once.1 sound.1) ends
      where
        by : (b : Bool) → (one.ticket == tree) ≡ b
            → (UprootsSo (found tree trees) old new → at old.told ≡ nodes_of tree trees → Ends old new (left tree trees))
            → UprootsSo (cond b (Some one) (found tree trees)) old new → Ends old new (cond b trees (one ∷ left tree trees))
        by true is rest goes =
            let none = none_of tree trees (once.0 is) in
            let sound_it : SoundWhere true old.next one.members.items = subst (λ b. SoundWhere b old.next one.members.items) is sound.0 in
            let had : at old.told ≡ nodes_in one.members.items =
            are ∙ ap (λ b. cond b (nodes_in one.members.items) [] ++ nodes_of tree trees) is
            ∙ ap (λ t. nodes_in one.members.items ++ t) none ∙ append-nil (nodes_in one.members.items) in
            let tickets = tickets_of one.members.items in (
              leaves_nodes true one.ticket is tickets old new goes ∙ ap (gone_by tickets) had ∙ all_gone one.members.items sound_it.0
                  ∙ sym none,
              leaves_next one.ticket tickets old new goes,
            )
        by false is rest goes =
            let others = rest goes (are ∙ ap (λ b. cond b (nodes_in one.members.items) [] ++ nodes_of tree trees) is) in
            (others.0 ∙ sym (ap (λ b. cond b (nodes_in one.members.items) [] ++ nodes_of tree (left tree trees)) is), others.1)

    pub left_sound : (next ticket : ℕ) (trees : List (Tree A)) → AreSound tree next trees → AreSound tree next (left ticket trees)
    left_sound next ticket [] sound = tt
    left_sound next ticket (one ∷ trees) sound = by (one.ticket == ticket) (left_sound next ticket trees sound.1)
      where
        by : (b : Bool) → AreSound tree next (left ticket trees) → AreSound tree next (cond b trees (one ∷ left ticket trees))
        by true rest = sound.1
        by false rest = (sound.0, rest)
