-- What is done to a tree is put together from what its parts have done, by the case of each test. A part that failed promises nothing.
use Rattle.std.proofs.Common.{◌≡◌, ◌+◌, ◌++◌, ◌∷◌, ℕ, Bool, true, false, List, [], length, map, refl, sym, ap, subst, ◌∙◌}
use Rattle.std.proofs.Common.{append_assoc, append-nil, arith}
use Rattle.std.specs.Prelude.{⊤, Result, Ok, Err, OnOk}
use Rattle.std.specs.List.{filter, FoldsTo}
use Rattle.zk_nodes.specs.Path.{Text}
use Rattle.zk_nodes.specs.declared.side.Side.{Side}
use Rattle.zk_nodes.specs.declared.side.Side.TheVariants.{Data, Child}
use Rattle.zk_trees.specs.Trees as trees
use Rattle.zk_trees.specs.Trees.{AreWanted, Wants}
use Rattle.zk_trees.specs.Tending.{is_none, lacks_nothing, tells, Bed, Footing, Grows, IsBounded, IsWhole, Joins, LetsAllGo, NotesBound}
use Rattle.zk_trees.specs.Tending.{NotesBoundWhere, PlantsBed, TakesAllOn, TakesOn, TakesOnWhere, TellsWhole, TendsOneWhere, TendsTree}
use Rattle.zk_trees.specs.declared.tree.Trees.{Trees}
use Rattle.zk_trees.proofs.Going.{none_gone}
use Rattle.zk_trees.specs.Tending.{due_after, TendsEach, TendsWhere}
use Rattle.zk_trees.specs.Tending.{bed_of, footing_in, seed_of, trees_told, LeavesAll, LeavesIt, LetsGo, TreeTold}
use Rattle.zk_trees.specs.inner.Tending.{footing_of}
use Rattle.zk_client.specs.Clients.{view_of}
use Rattle.zk_follow.specs.Following.{fresh, unfollowed_all}
use Rattle.zk_follow.specs.declared.follower.Follower.{Follower}
use Rattle.zk_trees.specs.inner.Tending.{footing_at}
use Rattle.zk_trees.specs.declared.ledger.Ledger.{Ledger}
use Rattle.zk_turns.specs.View.{View}
use Rattle.zk_follow.specs.declared.subject.Subject.{Subject}
use Rattle.zk_trees.specs.declared.member.Member.{Member}
use Rattle.zk_trees.specs.declared.subject.NodeSide.{NodeSide}
use Rattle.zk_trees.specs.declared.tree.Tree.{Tree}

pub ok_is : {X E P : Type 0} (result : Result X E) → P → OnOk result P
ok_is (Ok x) is = is
ok_is (Err e) is = tt

pub ok_so : {X E P Q : Type 0} (result : Result X E) → (P → Q) → OnOk result P → OnOk result Q
ok_so (Ok x) to is = to is
ok_so (Err e) to is = tt

-- ---- what is taken on

pub ok_joins : {A X E : Type 0} (result : Result X E) (ticket : ℕ) (is_found : Bool) (aim : Side × Text) (old : Bed A) (new : Footing A)
    (one : Member A ⊤) (members : List (Member A ⊤))
    → trees.aim_of one.subject ≡ aim → one.ticket ≡ ticket → one.is_found ≡ is_found → members ≡ old.members ++ one ∷ []
    → OnOk result (new ≡ tells (TakesOn old.ticket ticket aim.0 aim.1) old.footing)
    → OnOk result (Joins ticket is_found aim old (record old { footing = new; members = members }))
ok_joins (Ok x) ticket is_found aim old new one members is its part more told = record {
  one = one;
  its_aim = is;
  its_ticket = its;
  its_part = part;
  same = ap (λ l. record old { footing = new; members = l }) more
      ∙ ap (λ g. record old { footing = g; members = old.members ++ one ∷ [] }) told;
}
ok_joins (Err e) ticket is_found aim old new one members is its part more told = tt

-- nothing is wanted
pub none_taken : {A : Type 0} (subjects : List (NodeSide A)) (here : Bed A)
    → is_none subjects ≡ true → TakesAllOn (trees.aims_of subjects) here here
none_taken [] here none = refl
none_taken (subject ∷ subjects) here none = absurd cc

-- what is settled stays as it is
pub settled : {A : Type 0} (is : Bool) (aim : Side × Text) (here : Bed A) → is ≡ true → TakesOnWhere is aim here here
settled true aim here so = refl
settled false aim here so = absurd cc

pub ok_taken : {A X E : Type 0} (result : Result X E) (is : Bool) (aim : Side × Text) (old new : Bed A) (its : ℕ) (begun : Footing A)
    → is ≡ false → its ≡ old.footing.next → begun ≡ record old.footing { next = old.footing.next + 1 }
    → OnOk result (Joins its true aim (record old { footing = begun }) new)
    → OnOk result (TakesOnWhere is aim old new)
ok_taken result true aim old new its begun so at after joins = absurd cc
ok_taken result false aim old new its begun so at after joins =
    subst (λ n. OnOk result (Joins n true aim (record old { footing = record old.footing { next = old.footing.next + 1 } }) new)) at
    (subst (λ f. OnOk result (Joins its true aim (record old { footing = f }) new)) after joins)

-- ---- what is told of a whole tree

pub bound_same : {A : Type 0} (is_same is_bounded : Bool) (here : Bed A) → is_same ≡ true → NotesBoundWhere is_same is_bounded here here
bound_same true is_bounded here so = refl
bound_same false is_bounded here so = absurd cc

pub ok_bound : {A X E : Type 0} (result : Result X E) (is_same is_bounded : Bool) (old : Bed A) (new : Footing A) → is_same ≡ false
    → OnOk result (new ≡ tells (IsBounded old.ticket is_bounded) old.footing)
    → OnOk result (NotesBoundWhere is_same is_bounded old (record old { is_bounded = is_bounded; footing = new }))
ok_bound (Ok x) true is_bounded old new so told = absurd cc
ok_bound (Ok x) false is_bounded old new so told = ap (λ g. record old { is_bounded = is_bounded; footing = g }) told
ok_bound (Err e) is_same is_bounded old new so told = tt

pub untold : {A : Type 0} (is_whole : Bool) (here : Bed A) → is_whole ≡ false → TellsWhole is_whole here here
untold true here so = absurd cc
untold false here so = refl

pub ok_whole : {A X E : Type 0} (result : Result X E) (is_whole : Bool) (old : Bed A) (new : Footing A) → is_whole ≡ true
    → OnOk result (new ≡ tells (IsWhole old.ticket) old.footing)
    → OnOk result (TellsWhole is_whole old (record old { footing = new }))
ok_whole (Ok x) true old new so told = ap (λ g. record old { footing = g }) told
ok_whole (Ok x) false old new so told = absurd cc
ok_whole (Err e) is_whole old new so told = tt

-- ---- a tree

pub ok_grows : {A X E : Type 0} (result : Result X E) (wants : Wants) (is_whole : Bool) (old last noted new : Bed A)
    → AreWanted old.footing.view old.most (old.root ∷ []) wants
    → is_whole ≡ lacks_nothing wants → TakesAllOn wants.aims old last → NotesBound wants.is_bounded last noted
    → OnOk result (TellsWhole is_whole noted new) → OnOk result (Grows old new)
ok_grows (Ok x) wants is_whole old last noted new wanted is takes bound whole = record {
  wants = wants;
  wanted = wanted;
  last = last;
  takes = takes;
  noted = noted;
  bound = bound;
  whole = subst (λ (b : Bool). TellsWhole b noted new) is whole;
}
ok_grows (Err e) wants is_whole old last noted new wanted is takes bound whole = tt

pub tends : {A : Type 0} (old between new : Bed A) → LetsAllGo old between → Grows between new → TendsTree old new
tends old between new lets grows = record { between = between; lets = lets; grows = grows }

-- by whether it is behind
pub ok_one : {A X E : Type 0} (result : Result X E) (is_behind : Bool) (was is : Tree A) (old new : Footing A) → is_behind ≡ true
    → OnOk result (TendsTree (bed_of old was) (bed_of new is)) → OnOk result (is.is_behind ≡ false)
    → OnOk result (TendsOneWhere is_behind was is old new)
ok_one (Ok x) true was is old new so tends rests = (tends, rests)
ok_one (Ok x) false was is old new so tends rests = absurd cc
ok_one (Err e) is_behind was is old new so tends rests = tt

pub same_one : {A : Type 0} (is_behind : Bool) (was : Tree A) (old : Footing A)
    → is_behind ≡ false → TendsOneWhere is_behind was was old old
same_one true was old so = absurd cc
same_one false was old so = (refl, refl)

-- a new one
pub plants : {A : Type 0} (ticket : ℕ) (root : Text) (most its : ℕ) (old begun : Footing A) (first with_data new : Bed A)
    → its ≡ old.next → begun ≡ record old { next = old.next + 1 } → first ≡ seed_of begun ticket root most
    → Joins ticket false (Data, root) first with_data → Joins its false (Child, root) with_data new
    → PlantsBed ticket root most old new
plants ticket root most its old begun first with_data new at after is one other = record {
  with_data = with_data;
  data_joins = subst (λ b. Joins ticket false (Data, root) b with_data) (is ∙ ap (λ f. seed_of f ticket root most) after) one;
  names_join = subst (λ n. Joins n false (Child, root) with_data new) at other;
}

-- where news are told, and nobody comes or goes with them
pub ok_footings : {A X E : Type 0} (result : Result X E) (view : View) (subjects : List (Subject A)) (old new : Ledger A) (told : TreeTold)
    → OnOk result (trees_told new.news.items ≡ trees_told old.news.items ++ told ∷ []) → new.next ≡ old.next
    → OnOk result (footing_at view subjects new ≡ record (footing_at view subjects old) { told = trees_told old.news.items ++ told ∷ [] })
ok_footings (Ok x) view subjects old new told is next =
    ap (λ l. record (footing_at view subjects new) { told = l }) is
    ∙ ap (λ n. record (footing_at view subjects old) { told = trees_told old.news.items ++ told ∷ []; next = n }) next
ok_footings (Err e) view subjects old new told is next = tt

-- and where a subject comes or goes with them
pub ok_follows : {A X E : Type 0} (result : Result X E) (tree ticket : ℕ) (side : Side) (at path copy : Text) (old new : Follower A)
    (was is : Ledger A)
    → path ≡ at → copy ≡ at → new.client ≡ old.client → new.subjects.items ≡ old.subjects.items ++ fresh ticket side copy ∷ []
    → OnOk result (trees_told is.news.items ≡ trees_told was.news.items ++ TakesOn tree ticket side path ∷ []) → is.next ≡ was.next
    → OnOk result (footing_of new is ≡ tells (TakesOn tree ticket side at) (footing_of old was))
ok_follows {A} (Ok x) tree ticket side at path copy old new was is its its_copy client subjects told next =
    ap (λ v. record (footing_of new is) { view = view_of v }) client
    ∙ ap (λ ss. record (footing_of old is) { subjects = ss }) (subjects ∙ ap (λ p. old.subjects.items ++ fresh ticket side p ∷ []) its_copy)
    ∙ ap (λ l. record (footing_of old is) { subjects = old.subjects.items ++ fresh ticket side at ∷ []; told = l })
    (told ∙ ap (λ p. trees_told was.news.items ++ TakesOn tree ticket side p ∷ []) its)
    ∙ ap (λ n. record (tells (TakesOn tree ticket side at) (footing_of old was)) { next = n }) next
ok_follows (Err e) tree ticket side at path copy old new was is its its_copy client subjects told next = tt

-- where no ticket is
pub none_leaves : {A : Type 0} (tree : ℕ) (tickets : List ℕ) (here : Footing A) → length tickets ≡ 0 → LeavesAll tree tickets here here
none_leaves tree [] here none = refl
none_leaves tree (ticket ∷ tickets) here none = absurd (omega (arith, none))

all_leave : {A : Type 0} (tree : ℕ) (tickets : List ℕ) (old new : Footing A) → new.view ≡ old.view → new.next ≡ old.next
    → new.told ≡ old.told ++ map (LetsGo tree) tickets → new.subjects ≡ unfollowed_all tickets old.subjects
    → LeavesAll tree tickets old new
all_leave tree [] old new view next told subjects =
    ap (λ v. record old { view = v }) (sym view)
    ∙ ap (λ l. record old { view = new.view; told = l }) (sym (told ∙ append-nil old.told))
    ∙ ap (λ ss. record old { view = new.view; told = new.told; subjects = ss }) (sym subjects)
    ∙ ap (λ n. record old { view = new.view; told = new.told; subjects = new.subjects; next = n }) (sym next)
all_leave tree (ticket ∷ tickets) old new view next told subjects =
    let after = tells (LetsGo tree ticket) old in (
      after,
      refl,
      all_leave tree tickets after new view next
          (told ∙ sym (append_assoc old.told (LetsGo tree ticket ∷ []) (map (LetsGo tree) tickets))) subjects,
    )

pub ok_leaves : {A X E : Type 0} (result : Result X E) (tree : ℕ) (tickets : List ℕ) (old new : Follower A) (was is : Ledger A)
    → new.client ≡ old.client → new.subjects.items ≡ unfollowed_all tickets old.subjects.items
    → OnOk result (trees_told is.news.items ≡ trees_told was.news.items ++ map (LetsGo tree) tickets) → OnOk result (is.next ≡ was.next)
    → OnOk result (LeavesAll tree tickets (footing_of old was) (footing_of new is))
ok_leaves (Ok x) tree tickets old new was is client subjects told next =
    all_leave tree tickets (footing_of old was) (footing_of new is) (ap view_of client) next told subjects
ok_leaves (Err e) tree tickets old new was is client subjects told next = tt

-- the same of a tree that is left
pub bed_leaves : {A : Type 0} (tickets : List ℕ) (bed : Bed A) (new : Footing A) → LeavesAll bed.ticket tickets bed.footing new
    → FoldsTo (λ at ticket after. LeavesIt ticket at after) bed tickets (record bed { footing = new })
bed_leaves [] bed new is = ap (λ g. record bed { footing = g }) is
bed_leaves (ticket ∷ tickets) bed new does =
    let after = record bed { footing = does.0 } in
    (after, ap (λ g. record bed { footing = g }) does.1, bed_leaves tickets after new does.2)

pub ok_lets : {A X E : Type 0} (result : Result X E) (bed : Bed A) (new : Footing A) (members : List (Member A ⊤)) (tickets : List ℕ)
    → members ≡ filter (trees.stays bed.footing.view) bed.members → tickets ≡ trees.tickets_gone bed.footing.view bed.members
    → OnOk result (LeavesAll bed.ticket tickets bed.footing new)
    → OnOk result (LetsAllGo bed (record bed { footing = new; members = members }))
ok_lets {A} (Ok x) bed new members tickets are all leaves =
    let last : Bed A = record bed { footing = new; members = members } in
    subst (λ ts. FoldsTo (λ at ticket after. LeavesIt ticket at after)
    (record bed { members = filter (trees.stays bed.footing.view) bed.members }) ts last) all
    (subst (λ ms. FoldsTo (λ at ticket after. LeavesIt ticket at after) (record bed { members = ms }) tickets last) are
    (bed_leaves tickets (record bed { members = members }) new leaves))
ok_lets (Err e) bed new members tickets are all leaves = tt

pub lets_none : {A : Type 0} (bed : Bed A) (tickets : List ℕ) → tickets ≡ trees.tickets_gone bed.footing.view bed.members
    → length tickets ≡ 0 → LetsAllGo bed bed
lets_none {A} bed [] all none =
    subst (λ ts. FoldsTo (λ at ticket after. LeavesIt ticket at after)
    (record bed { members = filter (trees.stays bed.footing.view) bed.members }) ts bed) all
    (ap (λ ms. record bed { members = ms }) (none_gone bed.footing.view bed.members (ap length (sym all))))
lets_none bed (ticket ∷ tickets) all none = absurd (omega (arith, none))

-- A ledger begins with what the trees have.
pub begun_footing : {A : Type 0} (trees : Trees A) (follower : Follower A) (ledger : Ledger A)
    → ledger.news.items ≡ [] → ledger.next ≡ trees.next
    → footing_of follower ledger ≡ footing_in trees follower []
begun_footing trees follower ledger none next =
    ap (λ l. record (footing_of follower ledger) { told = trees_told l }) none
    ∙ ap (λ n. record (footing_in trees follower []) { next = n }) next

-- by whether trees are at rest
pub at_rest : {A : Type 0} (is_rest : Bool) (now : ℕ) (was is : Trees A) (here : Footing A) → is_rest ≡ true
    → is.all.items ≡ was.all.items → is.due ≡ was.due → TendsWhere is_rest now was is here here
at_rest true now was is here so all due = (all, due, refl)
at_rest false now was is here so all due = absurd cc

pub tended : {A : Type 0} (is_rest : Bool) (now : ℕ) (was is : Trees A) (old new : Footing A) → is_rest ≡ false
    → is.due ≡ due_after now is.all.items → TendsEach was.all.items is.all.items old new → TendsWhere is_rest now was is old new
tended true now was is old new so due each = absurd cc
tended false now was is old new so due each = (due, each)
