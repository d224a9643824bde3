-- What is known of a path is so, whatever stood before the entries.
use Rattle.std.proofs.Common.{◌≡◌, ◌≢◌, ℕ, ℤ, pos, Bool, true, false, ◌&&◌, ◌||◌, List, [], ◌∷◌, ◌++◌, map, Option, Some, None}
use Rattle.std.proofs.Common.{is_some, Result, Ok, Err, refl, sym, ap, ◌∙◌, cond, subst, int_lt}
use Rattle.std.specs.Prelude.{⊤}
use Rattle.std.specs.Option.{option_map}
use Rattle.std.specs.List.{list_any}
use Rattle.zk_jute.specs.Layout.{Value}
use Rattle.zk_jute.specs.Lenient.{or_empty}
use Rattle.zk_nodes.specs.Path.{NodePath, Text, path_eq}
use Rattle.zk_nodes.specs.History.{Node, Tree, Change, Creates, Sets, Deletes, Transaction, View, Absence, Contents}
use Rattle.zk_nodes.specs.History.{contents_of, node_fields, made, written, regrouped, apply, apply_all, after}
use Rattle.zk_nodes.specs.declared.data_stat.DataStat.{DataStat}
use Rattle.zk_nodes.proofs.PathTexts.{path_eq-true}
use Rattle.zk_history.specs.HistoryView.{HistoryView, natural, last_with, with_change, with_transaction, made_transaction}
use Rattle.zk_history.specs.HistoryView.{first_tree, newest_tree}
use Rattle.zk_log.specs.declared.kind.TxnKind.{TxnKind}
use Rattle.zk_log.specs.declared.kind.TxnKind.TheVariants.{Multi, CloseSession, CloseSessionAlone}
use Rattle.zk_log.specs.Kinds.{fields, part}
use Rattle.zk_log.specs.Format.{Logged}
use Rattle.zk_log.specs.Reading.{Placed}
use Rattle.zk_log.specs.Following.{is_failed}
use Rattle.zk_log_history.specs.Changes.{named, is_owner, is_owned, listed, operation_change, part_changes, all_changes}
use Rattle.zk_log_history.specs.Changes.{with_changes, deletions, made_in, close_changes}
use Rattle.zk_log_history.specs.Following.{begun, entry_changes, transaction_of, with_whole, with_entries}
use Rattle.zk_log_history.specs.Refused.{operation_fault, part_fault, path_fault}
use Rattle.zk_log_history.specs.Known as knowing
use Rattle.zk_log_history.specs.Known.{Known, Seen, view_of, rewritten, so_on, all_told, if_read, has_length, can_be_made, can_be_deleted}
use Rattle.zk_log_history.specs.Known.{creation_told, write_told}
use Rattle.zk_log_history.specs.Known.{deletion_told, change_told, changes_told, part_told, gone_told, left_by, end_told, entry_told}
use Rattle.zk_log_history.specs.Known.{PathView, zxid_told, moved, followed, at_place, placed_told, entries_told}
use Rattle.zk_log_history.specs.KnownIsTrue.{entries_to, IsNobodys, KnownIsTrue}
use Rattle.zk_log_history.specs.declared.untold.Untold.{Untold}
use Rattle.zk_log_history.specs.declared.untold.UntoldEntry.{UntoldEntry}
use Rattle.zk_log_history.specs.declared.untold.Untold.TheVariants as untold
use Rattle.zk_log_history.proofs.Changing.{with_changes-append, begun-changes}
use Rattle.zk_log_history.proofs.Owned.{has, apply_all-end, gone-after, some-with, some-changes}
use Rattle.zk_log_history.proofs.Ended.{closed_left, some_end}

-- ---- what agrees with a tree

abbrev pub AgreesAt : Known → Option Node → Type 0
AgreesAt None o = ⊤
AgreesAt (Some seen) o = contents_of o ≡ view_of seen

-- of the root nothing is known
abbrev pub Agrees : NodePath → Known → Option Node → Type 0
Agrees [] now o = now ≡ None
Agrees (name ∷ path) now o = AgreesAt now o

agrees-by : (known : Known) (o p : Option Node) → contents_of p ≡ contents_of o → AgreesAt known o → AgreesAt known p
agrees-by None o p same agrees = tt
agrees-by (Some seen) o p same agrees = same ∙ agrees

abbrev pub ok_of : Known → Result Known Untold
ok_of known = Ok known

is_new : (a b : Known) → ok_of a ≡ Ok b → b ≡ a
is_new a b e = cc

abbrev pub no_of : Untold → Result Known Untold
no_of why = Err why

pub never : (why : Untold) (new : Known) → no_of why ≡ Ok new → ⊥
never why new e = cc

-- a node whose set of children changes has the same data
regrouped-same : (b : Bool) (z : ℕ) (o : Option Node) → contents_of (cond b (option_map (regrouped z) o) o) ≡ contents_of o
regrouped-same true z None = refl
regrouped-same true z (Some node) = refl
regrouped-same false z o = refl

-- ---- changes

made-agrees : (b : Bool) (e : Logged) (content : Option (List ℕ)) (owner : ℤ) (new : Known)
    → cond b (ok_of (Some (Some (record { content = content; stat = node_fields (made (natural e.zxid) e.time content owner) }))))
    (Err untold.Illegal) ≡ Ok new
    → AgreesAt new (Some (made (natural e.zxid) e.time content owner))
made-agrees true e content owner new is =
    let node = made (natural e.zxid) e.time content owner in
    subst (λ k. AgreesAt k (Some node)) (sym (is_new (Some (Some (record { content = content; stat = node_fields node }))) new is)) refl
made-agrees false e content owner new is = absurd (never untold.Illegal new is)

gone-agrees : (b : Bool) (new : Known) → cond b (ok_of (Some None)) (Err untold.Illegal) ≡ Ok new → AgreesAt new None
gone-agrees true new is = subst (λ k. AgreesAt k None) (sym (is_new (Some None) new is)) refl
gone-agrees false new is = absurd (never untold.Illegal new is)

-- the fields of what is seen
abbrev pub stat_in : DataStat → View → DataStat
stat_in otherwise (Contents content stat) = stat
stat_in otherwise view = otherwise

rewritten-agrees : (b : Bool) (e : Logged) (content : Option (List ℕ)) (node : Node) (stat : DataStat) (new : Known)
    → node_fields node ≡ stat
    → cond b (ok_of (Some (Some (record { content = content; stat = rewritten e content stat })))) (Err untold.Illegal) ≡ Ok new
    → AgreesAt new (Some (written (natural e.zxid) e.time content node))
rewritten-agrees false e content node stat new is told = absurd (never untold.Illegal new told)
rewritten-agrees true e content node stat new is told =
    subst (λ k. AgreesAt k (Some (written (natural e.zxid) e.time content node)))
    (sym (is_new (Some (Some (record { content = content; stat = rewritten e content stat }))) new told))
    (ap (λ d. Contents content (rewritten e content d)) is)

written-agrees : (e : Logged) (content : Option (List ℕ)) (now new : Known) (o : Option Node) → knowing.written e content now ≡ Ok new
    → AgreesAt now o → AgreesAt new (option_map (written (natural e.zxid) e.time content) o)
written-agrees e content None new o is agrees =
    subst (λ k. AgreesAt k (option_map (written (natural e.zxid) e.time content) o)) (sym (is_new None new is)) tt
written-agrees e content (Some None) new o is agrees = absurd (never untold.Illegal new is)
written-agrees e content (Some (Some old)) new None is agrees =
    absurd (let f : Absence ≡ Contents old.content old.stat = agrees in cc)
written-agrees e content (Some (Some old)) new (Some node) is agrees =
    rewritten-agrees (int_lt old.stat.version (pos 2147483647)) e content node old.stat new (ap (stat_in old.stat) agrees) is

write-agrees : (b : Bool) (e : Logged) (content : Option (List ℕ)) (now new : Known) (o : Option Node)
    → cond b (knowing.written e content now) (Err untold.Illegal) ≡ Ok new
    → AgreesAt now o → AgreesAt new (option_map (written (natural e.zxid) e.time content) o)
write-agrees true e content now new o is agrees = written-agrees e content now new o is agrees
write-agrees false e content now new o is agrees = absurd (never untold.Illegal new is)

same-agrees : (now new : Known) (o : Option Node) → ok_of now ≡ Ok new → AgreesAt now o → AgreesAt new o
same-agrees now new o is agrees = subst (λ k. AgreesAt k o) (sym (is_new now new is)) agrees

-- what one change does at a path that is not the root
change-at : (name : List ℕ) (above : NodePath) (e : Logged) (c : Change) (tree : Tree) (now new : Known)
    → change_told (name ∷ above) e c now ≡ Ok new → AgreesAt now (tree (name ∷ above))
    → AgreesAt new (apply (natural e.zxid) e.time c tree (name ∷ above))
change-at name above e (Creates [] content owner) tree now new is agrees = same-agrees now new (tree (name ∷ above)) is agrees
change-at name above e (Creates (other ∷ path) content owner) tree now new is agrees =
    go (path_eq (name ∷ above) (other ∷ path)) (path_eq (name ∷ above) path) is where
      o : Option Node
      o = tree (name ∷ above)

      go : (b child : Bool) → cond b (creation_told e content owner now) (Ok now) ≡ Ok new
          → AgreesAt new (cond b (Some (made (natural e.zxid) e.time content owner))
          (cond child (option_map (regrouped (natural e.zxid)) o) o))
      go true child is = made-agrees (has_length content && can_be_made now) e content owner new is
      go false child is =
          same-agrees now new (cond child (option_map (regrouped (natural e.zxid)) o) o) is
          (agrees-by now o _ (regrouped-same child (natural e.zxid) o) agrees)
change-at name above e (Sets path content) tree now new is agrees = go (path_eq (name ∷ above) path) is where
  o : Option Node
  o = tree (name ∷ above)

  go : (b : Bool) → cond b (write_told e content now) (Ok now) ≡ Ok new
      → AgreesAt new (cond b (option_map (written (natural e.zxid) e.time content) o) o)
  go true is = write-agrees (has_length content) e content now new o is agrees
  go false is = same-agrees now new o is agrees
change-at name above e (Deletes []) tree now new is agrees = same-agrees now new (tree (name ∷ above)) is agrees
change-at name above e (Deletes (other ∷ path)) tree now new is agrees =
    go (path_eq (name ∷ above) (other ∷ path)) (path_eq (name ∷ above) path) is where
      o : Option Node
      o = tree (name ∷ above)

      go : (b child : Bool) → cond b (deletion_told now) (Ok now) ≡ Ok new
          → AgreesAt new (cond b None (cond child (option_map (regrouped (natural e.zxid)) o) o))
      go true child is = gone-agrees (can_be_deleted now) new is
      go false child is =
          same-agrees now new (cond child (option_map (regrouped (natural e.zxid)) o) o) is
          (agrees-by now o _ (regrouped-same child (natural e.zxid) o) agrees)

change-root : (e : Logged) (c : Change) (now new : Known) → change_told [] e c now ≡ Ok new → now ≡ None → new ≡ None
change-root e (Creates path content owner) now new is none = is_new now new is ∙ none
change-root e (Sets path content) now new is none = is_new now new is ∙ none
change-root e (Deletes path) now new is none = is_new now new is ∙ none

pub change-agrees : (p : NodePath) (e : Logged) (c : Change) (tree : Tree) (now new : Known) → change_told p e c now ≡ Ok new
    → Agrees p now (tree p) → Agrees p new (apply (natural e.zxid) e.time c tree p)
change-agrees [] e c tree now new is agrees = change-root e c now new is agrees
change-agrees (name ∷ above) e c tree now new is agrees = change-at name above e c tree now new is agrees

-- nothing happens to a path
still-agrees : (p : NodePath) (now new : Known) (o : Option Node) → ok_of now ≡ Ok new → Agrees p now o → Agrees p new o
still-agrees p now new o is agrees = subst (λ k. Agrees p k o) (sym (is_new now new is)) agrees

pub changes-agree : (p : NodePath) (e : Logged) (cs : List Change) (tree : Tree) (now new : Known) → changes_told p e cs now ≡ Ok new
    → Agrees p now (tree p) → Agrees p new (apply_all (natural e.zxid) e.time cs tree p)
changes-agree p e [] tree now new is agrees = still-agrees p now new (tree p) is agrees
changes-agree p e (c ∷ cs) tree now new is agrees =
    go (change_told p e c now) refl is (λ mid is agrees. changes-agree p e cs (apply (natural e.zxid) e.time c tree) mid new is agrees)
  where
    then : Tree
    then = apply (natural e.zxid) e.time c tree

    go : (r : Result Known Untold) → change_told p e c now ≡ r → so_on r (changes_told p e cs) ≡ Ok new
        → ((mid : Known) → changes_told p e cs mid ≡ Ok new → Agrees p mid (then p)
        → Agrees p new (apply_all (natural e.zxid) e.time cs then p))
        → Agrees p new (apply_all (natural e.zxid) e.time cs then p)
    go (Ok mid) here is more = more mid is (change-agrees p e c tree now mid here agrees)
    go (Err why) here is more = absurd (never why new is)

pub read-agrees : (p : NodePath) (e : Logged) (fault : Option Untold) (cs : List Change) (tree : Tree) (now new : Known)
    → if_read fault (changes_told p e cs now) ≡ Ok new
    → Agrees p now (tree p) → Agrees p new (apply_all (natural e.zxid) e.time cs tree p)
read-agrees p e None cs tree now new is agrees = changes-agree p e cs tree now new is agrees
read-agrees p e (Some fault) cs tree now new is agrees = absurd (never fault new is)

pub apply_all-append : (z : ℕ) (t : ℤ) (xs ys : List Change) (tree : Tree)
    → apply_all z t (xs ++ ys) tree ≡ apply_all z t ys (apply_all z t xs tree)
apply_all-append z t [] ys tree = refl
apply_all-append z t (x ∷ xs) ys tree = apply_all-append z t xs ys (apply z t x tree)

parts-agree : (p : NodePath) (e : Logged) (parts : List (Value part)) (tree : Tree) (now new : Known)
    → all_told (part_told p e) parts now ≡ Ok new
    → Agrees p now (tree p) → Agrees p new (apply_all (natural e.zxid) e.time (all_changes e.session parts) tree p)
parts-agree p e [] tree now new is agrees = still-agrees p now new (tree p) is agrees
parts-agree p e (one ∷ parts) tree now new is agrees =
    go (part_told p e one now) refl is (λ mid is agrees. parts-agree p e parts then mid new is agrees) where
      here_changes : List Change
      here_changes = part_changes e.session one

      then : Tree
      then = apply_all (natural e.zxid) e.time here_changes tree

      go : (r : Result Known Untold) → part_told p e one now ≡ r → so_on r (all_told (part_told p e) parts) ≡ Ok new
          → ((mid : Known) → all_told (part_told p e) parts mid ≡ Ok new → Agrees p mid (then p)
          → Agrees p new (apply_all (natural e.zxid) e.time (all_changes e.session parts) then p))
          → Agrees p new (apply_all (natural e.zxid) e.time (here_changes ++ all_changes e.session parts) tree p)
      go (Ok mid) here is more =
          subst (λ (u : Tree). Agrees p new (u p))
          (sym (apply_all-append (natural e.zxid) e.time here_changes (all_changes e.session parts) tree))
          (more mid is (read-agrees p e (part_fault one) here_changes tree now mid here agrees))
      go (Err why) here is more = absurd (never why new is)

-- ---- deletions

-- the deletion of another node leaves one as it is, but for the set of its children
apart-after : (ts : List Transaction) (q : NodePath) (tree : Tree) (p : NodePath) → path_eq p q ≡ false
    → (z : ℕ) × (b : Bool)
    × (after (last_with ts (Deletes q)) tree p ≡ cond b (option_map (regrouped z) (after ts tree p)) (after ts tree p))
apart-after [] q tree p apart = (0, false, refl)
apart-after (one ∷ []) [] tree p apart =
    (0, false, ap (λ (u : Tree). u p) (apply_all-end one.zxid one.time one.changes (Deletes []) tree))
apart-after (one ∷ []) (name ∷ path) tree p apart =
    let u = apply_all one.zxid one.time one.changes tree in (
      one.zxid,
      path_eq p path,
      ap (λ (v : Tree). v p) (apply_all-end one.zxid one.time one.changes (Deletes (name ∷ path)) tree)
          ∙ ap (λ b. cond b None (cond (path_eq p path) (option_map (regrouped one.zxid) (u p)) (u p))) apart,
    )
apart-after (one ∷ two ∷ more) q tree p apart =
    apart-after (two ∷ more) q (apply_all one.zxid one.time one.changes tree) p apart

-- whether a node is due is not told by its children
abbrev IsDue : (Option Node → Bool) → Type 0
IsDue due = (z : ℕ) (b : Bool) (o : Option Node) → due (cond b (option_map (regrouped z) o) o) ≡ due o

some_due : IsDue is_some
some_due = go where
  go : (z : ℕ) (b : Bool) (o : Option Node) → is_some (cond b (option_map (regrouped z) o) o) ≡ is_some o
  go z true None = refl
  go z true (Some node) = refl
  go z false o = refl

owned_due : (s : ℤ) → IsDue (is_owned s)
owned_due s = go where
  go : (z : ℕ) (b : Bool) (o : Option Node) → is_owned s (cond b (option_map (regrouped z) o) o) ≡ is_owned s o
  go z true None = refl
  go z true (Some node) = refl
  go z false o = refl

abbrev left_at : Bool → Option Node → View
left_at gone o = cond gone Absence (contents_of o)

left_none : (gone : Bool) → left_at gone None ≡ Absence
left_none true = refl
left_none false = refl

skipped : (same there due : Bool) (o : Option Node) → (same ≡ true → due ≡ false)
    → left_at (there && due) o ≡ left_at ((same || there) && due) o
skipped false there due o none = refl
skipped true true due o none = refl
skipped true false due o none = ap (λ d. left_at d o) (sym (none refl))

-- after deletions the node is gone if it was due, and has the same data if not
deleted-at : (due : Option Node → Bool) (kept : HistoryView) (ps : List NodePath) (name : List ℕ) (above : NodePath) → IsDue due
    → kept.transactions ≢ []
    → contents_of (newest_tree (with_changes kept (deletions due kept ps)) (name ∷ above))
    ≡ left_at (has (name ∷ above) ps && due (newest_tree kept (name ∷ above))) (newest_tree kept (name ∷ above))
deleted-at due kept [] name above is some = refl
deleted-at due kept (q ∷ qs) name above is some =
    go (path_eq p q) (due (newest_tree kept q)) refl refl
    (deleted-at due next qs name above is (some-with kept.transactions (Deletes q) some))
    (deleted-at due kept qs name above is some) where
      p : NodePath
      p = name ∷ above

      next : HistoryView
      next = with_change kept (Deletes q)

      o : Option Node
      o = newest_tree kept p

      go : (same gone : Bool) → path_eq p q ≡ same → due (newest_tree kept q) ≡ gone
          → contents_of (newest_tree (with_changes next (deletions due next qs)) p) ≡ left_at (has p qs && due (newest_tree next p))
          (newest_tree next p)
          → contents_of (newest_tree (with_changes kept (deletions due kept qs)) p) ≡ left_at (has p qs && due o) o
          → contents_of (newest_tree (with_changes kept (cond gone (Deletes q ∷ deletions due next qs) (deletions due kept qs))) p)
          ≡ left_at ((same || has p qs) && due o) o
      go true true a d deeper along =
          let none : newest_tree next p ≡ None = subst (λ r. newest_tree (with_change kept (Deletes r)) p ≡ None) (path_eq-true p q a)
          (gone-after kept.transactions name above (first_tree kept) some) in
          deeper ∙ ap (λ n. left_at (has p qs && due n) n) none ∙ left_none (has p qs && due None)
          ∙ ap (λ b. left_at b o) (sym (ap (λ r. due (newest_tree kept r)) (path_eq-true p q a) ∙ d))
      go false true a d deeper along =
          let apart = apart-after kept.transactions q (first_tree kept) p a in
          deeper ∙ ap (λ n. left_at (has p qs && due n) n) apart.2
          ∙ ap (λ b. left_at (has p qs && b) (cond apart.1 (option_map (regrouped apart.0) o) o)) (is apart.0 apart.1 o)
          ∙ ap (λ v. cond (has p qs && due o) Absence v) (regrouped-same apart.1 apart.0 o)
      go same false a d deeper along =
          along ∙ skipped same (has p qs) (due o) o (λ e. ap (λ r. due (newest_tree kept r)) (path_eq-true p q (a ∙ e)) ∙ d)

-- ---- the end of a session

-- each path that is told is known to be absent
all_gone : (name : List ℕ) (above : NodePath) (paths : List (Option Text)) (now mid : Known)
    → all_told (gone_told (name ∷ above)) paths now ≡ Ok mid
    → mid ≡ cond (has (name ∷ above) (map named paths)) (Some None) now
all_gone name above [] now mid is = is_new now mid is
all_gone name above (one ∷ paths) now mid is =
    go (path_fault one) is (λ then is. all_gone name above paths then mid is) where
      p : NodePath
      p = name ∷ above

      twice : (b c : Bool) → cond c (Some None) (cond b (Some None) now) ≡ cond (b || c) (Some None) now
      twice true true = refl
      twice true false = refl
      twice false c = refl

      go : (fault : Option Untold)
          → so_on (if_read fault (Ok (cond (path_eq p (named one)) (Some None) now))) (all_told (gone_told p) paths) ≡ Ok mid
          → ((then : Known) → all_told (gone_told p) paths then ≡ Ok mid → mid ≡ cond (has p (map named paths)) (Some None) then)
          → mid ≡ cond (path_eq p (named one) || has p (map named paths)) (Some None) now
      go None is more =
          more (cond (path_eq p (named one)) (Some None) now) is ∙ twice (path_eq p (named one)) (has p (map named paths))
      go (Some fault) is more = absurd (never fault mid is)

gone-told : (told : Bool) (now : Known) (o n : Option Node) → contents_of n ≡ left_at (told && is_some o) o → AgreesAt now o
    → AgreesAt (cond told (Some None) now) n
gone-told true now None n is agrees = is
gone-told true now (Some node) n is agrees = is
gone-told false now o n is agrees = agrees-by now o n is agrees

abbrev owner_in : ℤ → View → Bool
owner_in s (Contents content stat) = is_owner s stat.ephemeral_owner
owner_in s view = false

owner-seen : (s : ℤ) (o : Option Node) → is_owned s o ≡ owner_in s (contents_of o)
owner-seen s None = refl
owner-seen s (Some node) = refl

absent : (gone : Bool) (o n : Option Node) → contents_of n ≡ left_at gone o → contents_of o ≡ Absence → contents_of n ≡ Absence
absent true o n is agrees = is
absent false o n is agrees = is ∙ agrees

left-owned : (s : ℤ) (made owns : Bool) (seen : Seen) (o n : Option Node)
    → is_owner s seen.stat.ephemeral_owner ≡ owns → contents_of n ≡ left_at (made && owns) o → is_owned s n ≡ false
    → contents_of o ≡ Contents seen.content seen.stat
    → AgreesAt (cond owns (Some None) (Some (Some seen))) n
left-owned s true true seen o n owner is none agrees = is
left-owned s false true seen o n owner is none agrees =
    absurd (let f : true ≡ false = sym owner ∙ ap (owner_in s) (sym agrees ∙ sym is) ∙ sym (owner-seen s n) ∙ none in cc)
left-owned s true false seen o n owner is none agrees = is ∙ agrees
left-owned s false false seen o n owner is none agrees = is ∙ agrees

left-agrees : (s : ℤ) (made : Bool) (mid : Known) (o n : Option Node) → contents_of n ≡ left_at (made && is_owned s o) o
    → is_owned s n ≡ false → AgreesAt mid o → AgreesAt (left_by s mid) n
left-agrees s made None o n is none agrees = tt
left-agrees s made (Some None) o n is none agrees = absent (made && is_owned s o) o n is agrees
left-agrees s made (Some (Some seen)) o n is none agrees =
    left-owned s made (is_owner s seen.stat.ephemeral_owner) seen o n refl
    (is ∙ ap (λ b. left_at (made && b) o) (owner-seen s o ∙ ap (owner_in s) agrees)) none agrees

end-at : (name : List ℕ) (above : NodePath) (s : ℤ) (paths : List (Option Text)) (kept : HistoryView) (now mid : Known)
    → kept.transactions ≢ [] → IsNobodys kept → all_told (gone_told (name ∷ above)) paths now ≡ Ok mid
    → AgreesAt now (newest_tree kept (name ∷ above))
    → AgreesAt (left_by s mid) (newest_tree (with_changes kept (close_changes s paths kept)) (name ∷ above))
end-at name above s paths kept now mid some nobodys is agrees =
    let p = name ∷ above in
    let told = deletions is_some kept (map named paths) in
    let then = with_changes kept told in
    let mine = made_in s then.transactions in
    let gone : AgreesAt mid (newest_tree then p) =
    subst (λ k. AgreesAt k (newest_tree then p)) (sym (all_gone name above paths now mid is))
    (gone-told (has p (map named paths)) now (newest_tree kept p) (newest_tree then p)
    (deleted-at is_some kept (map named paths) name above some_due some) agrees) in
    let whole : newest_tree (with_changes kept (close_changes s paths kept)) p
    ≡ newest_tree (with_changes then (deletions (is_owned s) then mine)) p =
    ap (λ (k : HistoryView). newest_tree k p) (with_changes-append kept told (deletions (is_owned s) then mine)) in
    left-agrees s (has p mine) mid (newest_tree then p) (newest_tree (with_changes kept (close_changes s paths kept)) p)
    (ap contents_of whole ∙ deleted-at (is_owned s) then mine name above (owned_due s) (some-changes kept told some))
    (closed_left s kept paths p some (nobodys s p)) gone

gone-root : (paths : List (Option Text)) (now mid : Known) → all_told (gone_told []) paths now ≡ Ok mid → now ≡ None → mid ≡ None
gone-root [] now mid is none = is_new now mid is ∙ none
gone-root (one ∷ paths) now mid is none = go (path_fault one) is (λ is. gone-root paths now mid is none) where
  go : (fault : Option Untold) → so_on (if_read fault (Ok now)) (all_told (gone_told []) paths) ≡ Ok mid
      → (all_told (gone_told []) paths now ≡ Ok mid → mid ≡ None) → mid ≡ None
  go None is more = more is
  go (Some fault) is more = absurd (never fault mid is)

left-root : (s : ℤ) (mid : Known) → mid ≡ None → left_by s mid ≡ None
left-root s mid none = ap (left_by s) none

end-agrees : (p : NodePath) (e : Logged) (paths : List (Option Text)) (kept : HistoryView) (now new : Known)
    → kept.transactions ≢ [] → IsNobodys kept → end_told p e paths now ≡ Ok new → Agrees p now (newest_tree kept p)
    → Agrees p new (newest_tree (with_changes kept (close_changes e.session paths kept)) p)
end-agrees p e paths kept now new some nobodys is agrees = go (all_told (gone_told p) paths now) refl is where
  o : Option Node
  o = newest_tree (with_changes kept (close_changes e.session paths kept)) p

  here : (q : NodePath) → q ≡ p → (mid : Known) → all_told (gone_told p) paths now ≡ Ok mid → Agrees p (left_by e.session mid) o
  here [] at mid told =
      subst (λ q. Agrees q (left_by e.session mid) o) at (left-root e.session mid
      (gone-root paths now mid (subst (λ q. all_told (gone_told q) paths now ≡ Ok mid) (sym at) told)
      (subst (λ q. Agrees q now (newest_tree kept p)) (sym at) agrees)))
  here (name ∷ above) at mid told =
      subst (λ q. Agrees q (left_by e.session mid) (newest_tree (with_changes kept (close_changes e.session paths kept)) q)) at
      (end-at name above e.session paths kept now mid some nobodys
      (subst (λ q. all_told (gone_told q) paths now ≡ Ok mid) (sym at) told)
      (subst (λ q. Agrees q now (newest_tree kept q)) (sym at) agrees))

  go : (r : Result Known Untold) → all_told (gone_told p) paths now ≡ r
      → so_on r (λ told. ok_of (left_by e.session told)) ≡ Ok new → Agrees p new o
  go (Ok mid) told is = still-agrees p (left_by e.session mid) new o is (here p refl mid told)
  go (Err why) told is = absurd (never why new is)

-- ---- entries

after-end : (ts : List Transaction) (one : Transaction) (tree : Tree)
    → after (ts ++ one ∷ []) tree ≡ apply_all one.zxid one.time one.changes (after ts tree)
after-end [] one tree = refl
after-end (two ∷ ts) one tree = after-end ts one (apply_all two.zxid two.time two.changes tree)

pub newest-changes : (before : HistoryView) (z : ℕ) (t : ℤ) (cs : List Change)
    → newest_tree (with_changes (with_transaction before z t) cs) ≡ apply_all z t cs (newest_tree before)
newest-changes before z t cs =
    ap newest_tree (begun-changes before z t cs) ∙ after-end before.transactions (made_transaction z t cs) (first_tree before)

several-agree : (failed : Bool) (p : NodePath) (e : Logged) (parts : List (Value part)) (tree : Tree) (now new : Known)
    → cond failed (Ok now) (all_told (part_told p e) parts now) ≡ Ok new → Agrees p now (tree p)
    → Agrees p new (apply_all (natural e.zxid) e.time (cond failed [] (all_changes e.session parts)) tree p)
several-agree true p e parts tree now new is agrees = still-agrees p now new (tree p) is agrees
several-agree false p e parts tree now new is agrees = parts-agree p e parts tree now new is agrees

pub entry-agrees : (p : NodePath) (e : Logged) (kind : TxnKind) (body : Value (fields kind)) (before : HistoryView) (now new : Known)
    → IsNobodys before → entry_told p e kind body now ≡ Ok new → Agrees p now (newest_tree before p)
    → Agrees p new (newest_tree (with_changes (begun before e) (entry_changes e.session (begun before e) kind body)) p)
entry-agrees p e Multi body before now new nobodys is agrees =
    let parts = or_empty body in
    let failed = list_any is_failed parts in
    subst (λ (u : Tree). Agrees p new (u p))
    (sym (newest-changes before (natural e.zxid) e.time (cond failed [] (all_changes e.session parts))))
    (several-agree failed p e parts (newest_tree before) now new is agrees)
entry-agrees p e CloseSession body before now new nobodys is agrees = ended (or_empty body) is where
  ended : (paths : List (Option Text)) → end_told p e paths now ≡ Ok new
      → Agrees p new (newest_tree (with_changes (begun before e) (close_changes e.session paths (begun before e))) p)
  ended paths is =
      end-agrees p e paths (begun before e) now new (some_end before.transactions (made_transaction (natural e.zxid) e.time [])) nobodys is
      (subst (λ (u : Tree). Agrees p now (u p)) (sym (newest-changes before (natural e.zxid) e.time [])) agrees)
entry-agrees p e CloseSessionAlone body before now new nobodys is agrees =
    end-agrees p e [] (begun before e) now new (some_end before.transactions (made_transaction (natural e.zxid) e.time [])) nobodys is
    (subst (λ (u : Tree). Agrees p now (u p)) (sym (newest-changes before (natural e.zxid) e.time [])) agrees)
entry-agrees p e kind body before now new nobodys is agrees = plain kind body is where
  plain : (kind : TxnKind) (body : Value (fields kind))
      → if_read (operation_fault kind body) (changes_told p e (listed (operation_change e.session kind body)) now) ≡ Ok new
      → Agrees p new (newest_tree (with_changes (begun before e) (listed (operation_change e.session kind body))) p)
  plain kind body is =
      subst (λ (u : Tree). Agrees p new (u p))
      (sym (newest-changes before (natural e.zxid) e.time (listed (operation_change e.session kind body))))
      (read-agrees p e (operation_fault kind body) (listed (operation_change e.session kind body)) (newest_tree before) now new is agrees)

abbrev pub state : NodePath → ℤ → ℕ → Known → PathView
state p zxid last now = record { path = p; until = zxid; last = last; known = now }

abbrev path_ok : PathView → Result PathView UntoldEntry
path_ok told = Ok told

abbrev path_err : UntoldEntry → Result PathView UntoldEntry
path_err fault = Err fault

is_told : (a b : PathView) → path_ok a ≡ Ok b → b ≡ a
is_told a b e = cc

is_stopped : (fault : UntoldEntry) (told : PathView) → path_err fault ≡ Ok told → ⊥
is_stopped fault told e = cc

-- so it is after what is left
abbrev Rest : NodePath → Known → List Logged → HistoryView → Type 0
Rest p now entries kept = Agrees p now (newest_tree (with_entries kept entries) p)

entries-agree : (p : NodePath) (zxid : ℤ) (entries : List Placed) (before : HistoryView) (last : ℕ) (now : Known) (told : PathView)
    → IsNobodys before → entries_told entries (state p zxid last now) ≡ Ok told → Agrees p now (newest_tree before p)
    → Agrees p told.known (newest_tree (with_entries before (entries_to zxid entries)) p)
entries-agree p zxid [] before last now told nobodys is agrees =
    subst (λ (k : PathView). Agrees p k.known (newest_tree before p)) (sym (is_told (state p zxid last now) told is)) agrees
entries-agree p zxid (one ∷ more) before last now told nobodys is agrees =
    go (int_lt zxid e.zxid) is
    (λ is. entries-agree p zxid more before last now told nobodys is agrees)
    (λ next new is agrees. entries-agree p zxid more after_one next new told nobodys is agrees) where
      e : Logged
      e = one.entry

      after_one : HistoryView
      after_one = with_whole before (transaction_of before e)

      followed-agrees : (r : Result Known Untold) (next : ℕ) → entry_told p e e.kind e.body now ≡ r
          → so_on (at_place one.place (moved (state p zxid last now) next r)) (all_told placed_told more) ≡ Ok told
          → ((next : ℕ) (new : Known) → entries_told more (state p zxid next new) ≡ Ok told → Agrees p new (newest_tree after_one p)
          → Rest p told.known (entries_to zxid more) after_one)
          → Rest p told.known (entries_to zxid more) after_one
      followed-agrees (Ok new) next here is deeper =
          deeper next new is (subst (λ (k : HistoryView). Agrees p new (newest_tree k p))
          (begun-changes before (natural e.zxid) e.time (entry_changes e.session (begun before e) e.kind e.body))
          (entry-agrees p e e.kind e.body before now new nobodys here agrees))
      followed-agrees (Err why) next here is deeper = absurd (is_stopped (record { place = one.place; why = why }) told is)

      numbered : (r : Result ℕ Untold)
          → so_on (at_place one.place (followed e (state p zxid last now) r)) (all_told placed_told more) ≡ Ok told
          → ((next : ℕ) (new : Known) → entries_told more (state p zxid next new) ≡ Ok told → Agrees p new (newest_tree after_one p)
          → Rest p told.known (entries_to zxid more) after_one)
          → Rest p told.known (entries_to zxid more) after_one
      numbered (Ok next) is deeper = followed-agrees (entry_told p e e.kind e.body now) next refl is deeper
      numbered (Err why) is deeper = absurd (is_stopped (record { place = one.place; why = why }) told is)

      go : (above : Bool)
          → so_on (cond above (Ok (state p zxid last now))
          (at_place one.place (followed e (state p zxid last now) (zxid_told last e.zxid))))
          (all_told placed_told more) ≡ Ok told
          → (entries_told more (state p zxid last now) ≡ Ok told → Rest p told.known (entries_to zxid more) before)
          → ((next : ℕ) (new : Known) → entries_told more (state p zxid next new) ≡ Ok told → Agrees p new (newest_tree after_one p)
          → Rest p told.known (entries_to zxid more) after_one)
          → Rest p told.known (cond above (entries_to zxid more) (e ∷ entries_to zxid more)) before
      go true is along deeper = along is
      go false is along deeper = numbered (zxid_told last e.zxid) is deeper

abbrev none_known : Known
none_known = None

seen_at : (p : NodePath) (now : Known) (o : Option Node) (seen : Option Seen) → Agrees p now o → now ≡ Some seen
    → contents_of o ≡ view_of seen
seen_at [] now o seen agrees is = absurd (let f : none_known ≡ Some seen = sym agrees ∙ is in cc)
seen_at (name ∷ above) now o seen agrees is = subst (λ k. AgreesAt k o) is agrees

pub first_agrees : (p : NodePath) (o : Option Node) → Agrees p None o
first_agrees [] o = refl
first_agrees (name ∷ above) o = tt

pub known_is_true : KnownIsTrue
known_is_true before entries p zxid told seen nobodys is is_known =
    seen_at p told.known (newest_tree (with_entries before (entries_to zxid entries)) p) seen
    (entries-agree p zxid entries before 0 None told nobodys is (first_agrees p (newest_tree before p))) is_known
