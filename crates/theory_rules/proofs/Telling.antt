-- What changes and parts of watches tell, and which watches stay: change by change and path by path, the notices are those of the rule in
-- words of its own, and what is not told stays.
use Rattle.std.proofs.Common.{ℕ, ◌≡◌, ◌≤◌, ◌<◌, Bool, true, false, ◌&&◌, ◌||◌, List, [], ◌∷◌, ◌++◌, map, flat_map, refl, ap, sym, ◌∙◌}
use Rattle.std.proofs.Common.{subst, inl, inr, ◌⊎◌, arith, Option, Some, None, is_some, append_assoc}
use Rattle.std.specs.Prelude.{not, nat_lt, if◌then◌else◌}
use Rattle.std.specs.List.{list_any}
use Rattle.std.proofs.lemmas.Bool.{and_parts, and_from, ltb-true, ltb-false, lt-ltb}
use Rattle.zk_nodes.specs.Path.{Text, NodePath, path_eq, path_of}
use Rattle.zk_nodes.specs.History.{Node, Tree, Change, Creates, Sets, Deletes}
use Rattle.zk_nodes.specs.declared.side.Side.{Side}
use Rattle.zk_nodes.specs.declared.side.Side.TheVariants.{Data, Child}
use Rattle.zk_records.specs.declared.event.Event.{Event}
use Rattle.zk_records.specs.declared.event.Event.TheVariants.{Created, Deleted, DataChanged, ChildrenChanged}
use Rattle.zk_watches.specs.Lists.{Lists}
use Rattle.zk_turns.specs.Meaning.{Among}
use Rattle.zk_laws.specs.Server.{Notice, Watches, told, fires, leaves_set, without, same_side, known_check, missing_check, parent_check}
use Rattle.zk_laws.specs.Server.{tells, part_tells, part_sets}
use Rattle.zk_laws.proofs.Basics.{path_eq-true, path_eq_from, Among-left, Among-right}
use Rattle.zk_laws.proofs.Outputs.{among_split}
use Rattle.theory_rules.specs.Told.{Fired, fired_by, notices_of, Fires, IsDue, IsSetAgain}

-- ---- a change

last_told : (side : Side) (path : NodePath) (event : Event) (watches : Watches)
    → told side path event watches ≡ notices_of watches (record { side = side; path = path; event = event } ∷ [])
last_told side path event watches = go (watches side path) refl
  where
    go : (b : Bool) → watches side path ≡ b
        → told side path event watches ≡ notices_of watches (record { side = side; path = path; event = event } ∷ [])
    go true e = rw e refl
    go false e = rw e refl

one_told : (side : Side) (path : NodePath) (event : Event) (watches : Watches) (more : List Fired)
    → told side path event watches ++ notices_of watches more
    ≡ notices_of watches (record { side = side; path = path; event = event } ∷ more)
one_told side path event watches more = go (watches side path) refl
  where
    go : (b : Bool) → watches side path ≡ b → told side path event watches ++ notices_of watches more
        ≡ notices_of watches (record { side = side; path = path; event = event } ∷ more)
    go true e = rw e refl
    go false e = rw e refl

pub change_tells : (change : Change) (watches : Watches) → fires change watches ≡ notices_of watches (fired_by change)
change_tells (Creates [] content owner) watches = refl
change_tells (Creates (name ∷ above) content owner) watches =
    ap (λ (l : List Notice). told Data (name ∷ above) Created watches ++ l) (last_told Child above ChildrenChanged watches)
    ∙ one_told Data (name ∷ above) Created watches (record { side = Child; path = above; event = ChildrenChanged } ∷ [])
change_tells (Sets path content) watches = last_told Data path DataChanged watches
change_tells (Deletes []) watches = refl
change_tells (Deletes (name ∷ above)) watches =
    append_assoc (told Data (name ∷ above) Deleted watches) (told Child (name ∷ above) Deleted watches)
    (told Child above ChildrenChanged watches)
    ∙ (ap (λ (l : List Notice). told Data (name ∷ above) Deleted watches ++ (told Child (name ∷ above) Deleted watches ++ l))
    (last_told Child above ChildrenChanged watches)
    ∙ (ap (λ (l : List Notice). told Data (name ∷ above) Deleted watches ++ l)
    (one_told Child (name ∷ above) Deleted watches (record { side = Child; path = above; event = ChildrenChanged } ∷ []))
    ∙ one_told Data (name ∷ above) Deleted watches (record { side = Child; path = name ∷ above; event = Deleted }
    ∷ record { side = Child; path = above; event = ChildrenChanged } ∷ [])))

abbrev without_all : List Fired → Watches → Watches
without_all [] watches = watches
without_all (one ∷ more) watches = without_all more (without one.side one.path watches)

change_leaves : (change : Change) (watches : Watches) → leaves_set change watches ≡ without_all (fired_by change) watches
change_leaves (Creates [] content owner) watches = refl
change_leaves (Creates (name ∷ above) content owner) watches = refl
change_leaves (Sets path content) watches = refl
change_leaves (Deletes []) watches = refl
change_leaves (Deletes (name ∷ above)) watches = refl

same_from : (side gone : Side) → side ≡ gone → same_side side gone ≡ true
same_from side gone e = subst (λ (other : Side). same_side side other ≡ true) e (self side)
  where
    self : (one : Side) → same_side one one ≡ true
    self Data = refl
    self Child = refl

same_true : (side gone : Side) → same_side side gone ≡ true → side ≡ gone
same_true Data Data e = refl
same_true Data Child e = absurd cc
same_true Child Data e = absurd cc
same_true Child Child e = refl

kept_one : (gone : Side) (at : NodePath) (watches : Watches) (side : Side) (path : NodePath)
    → without gone at watches side path ≡ true → (watches side path ≡ true) × (side ≡ gone → path ≡ at → ⊥)
kept_one gone at watches side path h = go (same_side side gone && path_eq path at) refl
  where
    go : (b : Bool) → (same_side side gone && path_eq path at) ≡ b → (watches side path ≡ true) × (side ≡ gone → path ≡ at → ⊥)
    go true e = let k = rw e at h in absurd cc
    go false e = let k = rw e at h in
        (k, λ s p. let both = and_from (same_side side gone) (path_eq path at) (same_from side gone s) (path_eq_from path at p) in cc)

keeps_one : (gone : Side) (at : NodePath) (watches : Watches) (side : Side) (path : NodePath)
    → watches side path ≡ true → (side ≡ gone → path ≡ at → ⊥) → without gone at watches side path ≡ true
keeps_one gone at watches side path on other = go (same_side side gone && path_eq path at) refl
  where
    go : (b : Bool) → (same_side side gone && path_eq path at) ≡ b → without gone at watches side path ≡ true
    go true e = let parts = and_parts (same_side side gone) (path_eq path at) e in
        absurd (other (same_true side gone parts.0) (path_eq-true path at parts.1))
    go false e = rw e on

kept_all : (fired : List Fired) (watches : Watches) (side : Side) (path : NodePath)
    → without_all fired watches side path ≡ true → (watches side path ≡ true) × (Fires fired side path → ⊥)
kept_all [] watches side path h = (h, λ f. f.1)
kept_all (one ∷ more) watches side path h =
    let r = kept_all more (without one.side one.path watches) side path h in
    let k = kept_one one.side one.path watches side path r.0 in
    (k.0, λ f. by k.1 r.1 f.0 f.1)
  where
    by : (side ≡ one.side → path ≡ one.path → ⊥) → (Fires more side path → ⊥) → (event : Event)
        → Among (record { side = side; path = path; event = event }) (one ∷ more) → ⊥
    by first rest event (inl e) = first (ap (λ (f : Fired). f.side) e) (ap (λ (f : Fired). f.path) e)
    by first rest event (inr m) = rest (event, m)

keeps_all : (fired : List Fired) (watches : Watches) (side : Side) (path : NodePath)
    → watches side path ≡ true → (Fires fired side path → ⊥) → without_all fired watches side path ≡ true
keeps_all [] watches side path on none = on
keeps_all (one ∷ more) watches side path on none =
    keeps_all more (without one.side one.path watches) side path
    (keeps_one one.side one.path watches side path on
    (λ s p. none (one.event, inl (λ i. record { side = s i; path = p i; event = one.event })))) (λ f. none (f.0, inr f.1))

pub change_kept : (change : Change) (watches : Watches) (side : Side) (path : NodePath)
    → leaves_set change watches side path ≡ true → (watches side path ≡ true) × (Fires (fired_by change) side path → ⊥)
change_kept change watches side path h =
    kept_all (fired_by change) watches side path (subst (λ (left : Watches). left side path ≡ true) (change_leaves change watches) h)

pub change_keeps : (change : Change) (watches : Watches) (side : Side) (path : NodePath)
    → watches side path ≡ true → (Fires (fired_by change) side path → ⊥) → leaves_set change watches side path ≡ true
change_keeps change watches side path on none = subst (λ (left : Watches). left side path ≡ true) (sym (change_leaves change watches))
    (keeps_all (fired_by change) watches side path on none)

-- ---- a part of watches

among_map : (f : Text → List Notice) (path : Text) (paths : List Text) (n : Notice) → Among path paths → Among n (f path)
    → Among n (flat_map f paths)
among_map f path [] n at m = absurd at
among_map f path (one ∷ more) n (inl e) m = Among-left n (f one) (flat_map f more) (subst (λ (p : Text). Among n (f p)) e m)
among_map f path (one ∷ more) n (inr at) m = Among-right n (f one) (flat_map f more) (among_map f path more n at m)

map_among : (f : Text → List Notice) (paths : List Text) (n : Notice) → Among n (flat_map f paths)
    → (path : Text) × Among path paths × Among n (f path)
map_among f [] n m = absurd m
map_among f (one ∷ more) n m = elim (among_split n (f one) (flat_map f more) m) [
  | inl here ↦ (one, inl refl, here)
  | inr there ↦
      (let r = map_among f more n there in (r.0, inr r.1, r.2))
]

-- what a known path tells: it is gone, or its stamp is later
abbrev check_by : (Node → ℕ) → Event → ℕ → Option Node → Option Event
check_by stamp changed relative None = Some Deleted
check_by stamp changed relative (Some node) = if nat_lt relative (stamp node) then Some changed else None

module _ (relative : ℕ) (tree : Tree) (part : Lists) where
  abbrev known_of : Text → List Notice
  known_of path = tells path (known_check relative (tree (path_of path)))

  abbrev missing_of : Text → List Notice
  missing_of path = tells path (missing_check (tree (path_of path)))

  abbrev parent_of : Text → List Notice
  parent_of path = tells path (parent_check relative (tree (path_of path)))

  in_front : (n : Notice) → Among n (flat_map known_of part.data_watches ++ flat_map missing_of part.exist_watches)
      → Among n (part_tells relative tree part)
  in_front n =
      Among-left n (flat_map known_of part.data_watches ++ flat_map missing_of part.exist_watches) (flat_map parent_of part.child_watches)

  in_known : (n : Notice) (path : Text) → Among path part.data_watches → Among n (known_of path) → Among n (part_tells relative tree part)
  in_known n path at m = in_front n
      (Among-left n (flat_map known_of part.data_watches) (flat_map missing_of part.exist_watches)
      (among_map known_of path part.data_watches n at m))

  in_missing : (n : Notice) (path : Text) → Among path part.exist_watches → Among n (missing_of path)
      → Among n (part_tells relative tree part)
  in_missing n path at m = in_front n
      (Among-right n (flat_map known_of part.data_watches) (flat_map missing_of part.exist_watches)
      (among_map missing_of path part.exist_watches n at m))

  in_parent : (n : Notice) (path : Text) → Among path part.child_watches → Among n (parent_of path)
      → Among n (part_tells relative tree part)
  in_parent n path at m = Among-right n (flat_map known_of part.data_watches ++ flat_map missing_of part.exist_watches)
      (flat_map parent_of part.child_watches) (among_map parent_of path part.child_watches n at m)

  pub due_told : (event : Event) (path : Text)
      → IsDue relative tree part event path → Among (record { event = event; path = path }) (part_tells relative tree part)
  due_told Created path (at, node, e) = in_missing (record { event = Created; path = path }) path at (rw e (inl refl))
  due_told Deleted path (inl at, e) = in_known (record { event = Deleted; path = path }) path at (rw e (inl refl))
  due_told Deleted path (inr at, e) = in_parent (record { event = Deleted; path = path }) path at (rw e (inl refl))
  due_told DataChanged path (at, node, e, low) = let t = lt-ltb relative node.mzxid low in
      in_known (record { event = DataChanged; path = path }) path at (rw (e, t) (inl refl))
  due_told ChildrenChanged path (at, node, e, low) = let t = lt-ltb relative node.pzxid low in
      in_parent (record { event = ChildrenChanged; path = path }) path at (rw (e, t) (inl refl))

  abbrev DueNotice : Notice → Type 0
  DueNotice n = IsDue relative tree part n.event n.path

  of_check : (stamp : Node → ℕ) (changed : Event) (n : Notice) (path : Text)
      → (tree (path_of path) ≡ None → IsDue relative tree part Deleted path)
      → ((node : Node) → tree (path_of path) ≡ Some node → relative < stamp node → IsDue relative tree part changed path)
      → Among n (tells path (check_by stamp changed relative (tree (path_of path)))) → DueNotice n
  of_check stamp changed n path gone later m = go (tree (path_of path)) refl m
    where
      go : (o : Option Node) → tree (path_of path) ≡ o → Among n (tells path (check_by stamp changed relative o)) → DueNotice n
      go None e (inl same) = subst (λ (x : Notice). DueNotice x) (sym same) (gone e)
      go None e (inr more) = absurd more
      go (Some node) e m = on (nat_lt relative (stamp node)) refl m
        where
          on : (b : Bool) → nat_lt relative (stamp node) ≡ b → Among n (tells path (if b then Some changed else None)) → DueNotice n
          on true t (inl same) = subst (λ (x : Notice). DueNotice x) (sym same) (later node e (ltb-true relative (stamp node) t))
          on true t (inr more) = absurd more
          on false t m = absurd m

  of_known : (n : Notice) (path : Text) → Among path part.data_watches → Among n (known_of path) → DueNotice n
  of_known n path at m = of_check (λ node. node.mzxid) DataChanged n path (λ e. (inl at, e)) (λ node e low. (at, node, e, low)) m

  of_missing : (n : Notice) (path : Text) → Among path part.exist_watches → Among n (missing_of path) → DueNotice n
  of_missing n path at m = go (tree (path_of path)) refl m
    where
      go : (o : Option Node) → tree (path_of path) ≡ o → Among n (tells path (missing_check o)) → DueNotice n
      go None e m = absurd m
      go (Some node) e (inl same) = subst (λ (x : Notice). DueNotice x) (sym same) (at, node, e)
      go (Some node) e (inr more) = absurd more

  of_parent : (n : Notice) (path : Text) → Among path part.child_watches → Among n (parent_of path) → DueNotice n
  of_parent n path at m = of_check (λ node. node.pzxid) ChildrenChanged n path (λ e. (inr at, e)) (λ node e low. (at, node, e, low)) m

  pub told_due : (n : Notice) → Among n (part_tells relative tree part) → IsDue relative tree part n.event n.path
  told_due n m = first (among_split n (flat_map known_of part.data_watches ++ flat_map missing_of part.exist_watches)
      (flat_map parent_of part.child_watches) m)
    where
      second : Among n (flat_map known_of part.data_watches) ⊎ Among n (flat_map missing_of part.exist_watches) → DueNotice n
      second (inl k) = let r = map_among known_of part.data_watches n k in of_known n r.0 r.1 r.2
      second (inr k) = let r = map_among missing_of part.exist_watches n k in of_missing n r.0 r.1 r.2

      first : Among n (flat_map known_of part.data_watches ++ flat_map missing_of part.exist_watches)
          ⊎ Among n (flat_map parent_of part.child_watches) → DueNotice n
      first (inl k) = second (among_split n (flat_map known_of part.data_watches) (flat_map missing_of part.exist_watches) k)
      first (inr k) = let r = map_among parent_of part.child_watches n k in of_parent n r.0 r.1 r.2

-- ---- which of them are watched again

or_first : (x y : Bool) → x ≡ true → (x || y) ≡ true
or_first true y e = refl
or_first false y e = absurd cc

or_second : (x y : Bool) → y ≡ true → (x || y) ≡ true
or_second true y e = refl
or_second false y e = e

or_either : (x y : Bool) → (x || y) ≡ true → (x ≡ true) ⊎ (y ≡ true)
or_either true y e = inl refl
or_either false y e = inr e

listed : (texts : List Text) (text : Text) → Among text texts → list_any (path_eq (path_of text)) (map path_of texts) ≡ true
listed [] text m = absurd m
listed (one ∷ more) text (inl e) = or_first (path_eq (path_of text) (path_of one)) (list_any (path_eq (path_of text)) (map path_of more))
    (path_eq_from (path_of text) (path_of one) (ap path_of e))
listed (one ∷ more) text (inr m) =
    or_second (path_eq (path_of text) (path_of one)) (list_any (path_eq (path_of text)) (map path_of more)) (listed more text m)

found : (texts : List Text) (path : NodePath)
    → list_any (path_eq path) (map path_of texts) ≡ true → (text : Text) × Among text texts × (path_of text ≡ path)
found [] path h = absurd cc
found (one ∷ more) path h =
    by (or_either (path_eq path (path_of one)) (list_any (path_eq path) (map path_of more)) h) (λ e. found more path e)
  where
    by : (path_eq path (path_of one) ≡ true) ⊎ (list_any (path_eq path) (map path_of more) ≡ true)
        → (list_any (path_eq path) (map path_of more) ≡ true → (text : Text) × Among text more × (path_of text ≡ path))
        → (text : Text) × Among text (one ∷ more) × (path_of text ≡ path)
    by (inl e) rest = (one, inl refl, sym (path_eq-true path (path_of one) e))
    by (inr e) rest = let r = rest e in (r.0, inr r.1, r.2)

quiet_by : (stamp : Node → ℕ) (changed : Event) (relative : ℕ) (o : Option Node)
    → not (is_some (check_by stamp changed relative o)) ≡ true → (node : Node) × (o ≡ Some node) × (stamp node ≤ relative)
quiet_by stamp changed relative None h = absurd cc
quiet_by stamp changed relative (Some node) h = go (nat_lt relative (stamp node)) refl h
  where
    go : (b : Bool) → nat_lt relative (stamp node) ≡ b → not (is_some (if b then Some changed else None)) ≡ true
        → (found : Node) × (Some node ≡ Some found) × (stamp found ≤ relative)
    go true e k = absurd cc
    go false e k = (node, refl, ltb-false relative (stamp node) e)

missing_quiet : (o : Option Node) → not (is_some (missing_check o)) ≡ true → o ≡ None
missing_quiet None h = refl
missing_quiet (Some node) h = absurd cc

not_later : (relative zxid : ℕ) → zxid ≤ relative → nat_lt relative zxid ≡ false
not_later relative zxid low = go (nat_lt relative zxid) refl
  where
    go : (b : Bool) → nat_lt relative zxid ≡ b → nat_lt relative zxid ≡ false
    go true e = let k = ltb-true relative zxid e in absurd (omega (arith, k, low))
    go false e = e

pub set_again : (relative : ℕ) (tree : Tree) (part : Lists) (side : Side) (text : Text)
    → IsSetAgain relative tree part side text → part_sets relative tree part side (path_of text) ≡ true
set_again relative tree part Data text (inl (at, node, e, low)) =
    let t = not_later relative node.mzxid low in let l = listed part.data_watches text at in
    or_first (list_any (path_eq (path_of text)) (map path_of part.data_watches)
    && not (is_some (known_check relative (tree (path_of text))))) (list_any (path_eq (path_of text)) (map path_of part.exist_watches)
    && not (is_some (missing_check (tree (path_of text))))) (rw (l, e, t) refl)
set_again relative tree part Data text (inr (at, e)) =
    let l = listed part.exist_watches text at in
    or_second (list_any (path_eq (path_of text)) (map path_of part.data_watches)
    && not (is_some (known_check relative (tree (path_of text))))) (list_any (path_eq (path_of text)) (map path_of part.exist_watches)
    && not (is_some (missing_check (tree (path_of text))))) (rw (l, e) refl)
set_again relative tree part Child text (at, node, e, low) = let t = not_later relative node.pzxid low in
    let l = listed part.child_watches text at in rw (l, e, t) refl

pub only_again : (relative : ℕ) (tree : Tree) (part : Lists) (side : Side) (path : NodePath) → part_sets relative tree part side path ≡ true
    → (text : Text) × (path_of text ≡ path) × IsSetAgain relative tree part side text
only_again relative tree part Data path h =
    by (or_either (list_any (path_eq path) (map path_of part.data_watches) && not (is_some (known_check relative (tree path))))
    (list_any (path_eq path) (map path_of part.exist_watches) && not (is_some (missing_check (tree path)))) h)
  where
    by : ((list_any (path_eq path) (map path_of part.data_watches) && not (is_some (known_check relative (tree path)))) ≡ true)
        ⊎ ((list_any (path_eq path) (map path_of part.exist_watches) && not (is_some (missing_check (tree path)))) ≡ true)
        → (text : Text) × (path_of text ≡ path) × IsSetAgain relative tree part Data text
    by (inl e) =
        let parts =
        and_parts (list_any (path_eq path) (map path_of part.data_watches)) (not (is_some (known_check relative (tree path)))) e in
        let r = found part.data_watches path parts.0 in
        let k = quiet_by (λ node. node.mzxid) DataChanged relative (tree path) parts.1 in
        (r.0, r.2, inl (r.1, k.0, ap tree r.2 ∙ k.1, k.2))
    by (inr e) =
        let parts = and_parts (list_any (path_eq path) (map path_of part.exist_watches)) (not (is_some (missing_check (tree path)))) e in
        let r = found part.exist_watches path parts.0 in
        (r.0, r.2, inr (r.1, ap tree r.2 ∙ missing_quiet (tree path) parts.1))
only_again relative tree part Child path h =
    let parts =
    and_parts (list_any (path_eq path) (map path_of part.child_watches)) (not (is_some (parent_check relative (tree path)))) h in
    let r = found part.child_watches path parts.0 in
    let k = quiet_by (λ node. node.pzxid) ChildrenChanged relative (tree path) parts.1 in
    (r.0, r.2, (r.1, k.0, ap tree r.2 ∙ k.1, k.2))
