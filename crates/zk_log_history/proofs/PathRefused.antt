-- What is refused by what is known of a path, no history takes.
use Rattle.std.proofs.Common.{◌≡◌, ◌≤◌, ◌<◌, ◌<ℤ◌, ℕ, ℤ, pos, Bool, true, false, ◌&&◌, ◌||◌, ◌==◌, List, []}
use Rattle.std.proofs.Common.{◌∷◌, ◌++◌, Option, Some, None}
use Rattle.std.proofs.Common.{is_some, IsTrue, negsuc, Result, Ok, Err, refl, sym, ap, ◌∙◌, cond, subst, int_lt, nat_le, ◌⊎◌, inl, inr}
use Rattle.std.proofs.Common.{arith}
use Rattle.std.proofs.lemmas.Bool.{false≢true}
use Rattle.std.proofs.lemmas.Bool.Decides.{nat_tests}
use Rattle.std.proofs.lemmas.Int.{ints}
use Rattle.std.specs.List.{list_any}
use Rattle.zk_jute.specs.Layout.{Value}
use Rattle.zk_jute.specs.Lenient.{or_empty}
use Rattle.zk_nodes.specs.Path.{NodePath, Text, path_eq}
use Rattle.zk_nodes.specs.History.{Node, Tree, Change, Creates, Sets, Deletes, Transaction, Absence, Contents}
use Rattle.zk_nodes.specs.History.{contents_of, node_fields, size_of, apply, apply_all, newest}
use Rattle.zk_nodes.proofs.PathTexts.{path_eq-true}
use Rattle.zk_history.specs.HistoryView.{HistoryView, IsAccepted, natural, with_transaction, newest_tree}
use Rattle.zk_log.specs.declared.kind.TxnKind.{TxnKind}
use Rattle.zk_log.specs.declared.kind.TxnKind.TheVariants.{Multi, CloseSession, CloseSessionAlone}
use Rattle.zk_log.specs.Kinds.{fields, part}
use Rattle.zk_log.specs.Format.{Logged}
use Rattle.zk_log.specs.Reading.{Placed}
use Rattle.zk_log.specs.Following.{is_failed}
use Rattle.zk_log_history.specs.Changes.{named, listed, operation_change, part_changes, all_changes, with_changes}
use Rattle.zk_log_history.specs.Following.{begun, comes_next, entry_changes, transaction_of, with_whole}
use Rattle.zk_log_history.specs.Known as knowing
use Rattle.zk_log_history.specs.Known.{Known, rewritten, so_on, all_told, if_read, has_length, can_be_made, can_be_deleted}
use Rattle.zk_log_history.specs.Known.{creation_told, write_told}
use Rattle.zk_log_history.specs.Known.{deletion_told, change_told, changes_told, part_told, gone_told, left_by, end_told, entry_told}
use Rattle.zk_log_history.specs.Known.{PathView, zxid_told, moved, followed, at_place, placed_told, entries_told}
use Rattle.zk_log_history.specs.KnownIsTrue.{entries_to, IsNobodys, RefusedAreUntold}
use Rattle.zk_log_history.specs.Refused.{AreTaken, AreTold, IsLater, IsTold, entry_fault, earlier, first_fault, operation_fault, part_fault}
use Rattle.zk_log_history.specs.Refused.{path_fault}
use Rattle.zk_log_history.specs.declared.untold.Untold.{Untold}
use Rattle.zk_log_history.specs.declared.untold.UntoldEntry.{UntoldEntry}
use Rattle.zk_log_history.specs.declared.untold.Untold.TheVariants as untold
use Rattle.zk_log_history.proofs.Changing.{with_changes-append, begun-changes}
use Rattle.zk_log_history.proofs.Owned.{apply_all-end}
use Rattle.zk_log_history.proofs.Refused.{AreTaken-parts}
use Rattle.zk_log_history.proofs.KnownIsTrue.{AgreesAt, Agrees, ok_of, state, never, change-agrees, read-agrees}
use Rattle.zk_log_history.proofs.KnownIsTrue.{entry-agrees, newest-changes, first_agrees, apply_all-append, stat_in}

was_ok : (now : Known) (why : Untold) → ok_of now ≡ Err why → ⊥
was_ok now why e = never why now (sym e)

-- ---- changes

can_be_long : (content : Option (List ℕ)) → size_of content ≤ 2147483647 → has_length content ≡ true
can_be_long content short = grind (arith, nat_tests, short)

not_there : (now : Known) (o : Option Node) → AgreesAt now o → o ≡ None → can_be_made now ≡ true
not_there None o agrees none = refl
not_there (Some None) o agrees none = refl
not_there (Some (Some seen)) o agrees none =
    absurd (let f : Absence ≡ Contents seen.content seen.stat = sym (ap contents_of none) ∙ agrees in cc)

is_there : (now : Known) (o : Option Node) → AgreesAt now o → is_some o ≡ true → can_be_deleted now ≡ true
is_there None o agrees some = refl
is_there (Some None) None agrees some = cc
is_there (Some None) (Some node) agrees some =
    absurd (let f : Contents node.content (node_fields node) ≡ Absence = agrees in cc)
is_there (Some (Some seen)) o agrees some = refl

made_not_refused : (b : Bool) (new : Known) (why : Untold) → b ≡ true → cond b (ok_of new) (Err untold.Illegal) ≡ Err why → ⊥
made_not_refused true new why e is = was_ok new why is
made_not_refused false new why e is = cc

can_rise : (version : ℕ) → version < 2147483647 → int_lt (pos version) (pos 2147483647) ≡ true
can_rise version below = grind (arith, nat_tests, below)

written_taken : (e : Logged) (content : Option (List ℕ)) (now : Known) (o : Option Node) (node : Node) (why : Untold) → AgreesAt now o
    → o ≡ Some node → node.version < 2147483647 → knowing.written e content now ≡ Err why → ⊥
written_taken e content None o node why agrees here below is = was_ok None why is
written_taken e content (Some None) o node why agrees here below is =
    absurd (let f : Contents node.content (node_fields node) ≡ Absence = sym (ap contents_of here) ∙ agrees in cc)
written_taken e content (Some (Some old)) o node why agrees here below is =
    let same : node_fields node ≡ old.stat = ap (stat_in old.stat) (sym (ap contents_of here) ∙ agrees) in
    made_not_refused (int_lt old.stat.version (pos 2147483647))
    (Some (Some (record { content = content; stat = rewritten e content old.stat }))) why
    (subst (λ d. int_lt d.version (pos 2147483647) ≡ true) same (can_rise node.version below)) is

kept_not_refused : (b : Bool) (r : Result Known Untold) (now : Known) (why : Untold) → (b ≡ true → r ≡ Err why → ⊥)
    → cond b r (Ok now) ≡ Err why → ⊥
kept_not_refused true r now why none is = none refl is
kept_not_refused false r now why none is = was_ok now why is

if_long : (b : Bool) (r : Result Known Untold) (why : Untold) → b ≡ true → (r ≡ Err why → ⊥) → cond b r (Err untold.Illegal) ≡ Err why → ⊥
if_long true r why e none is = none is
if_long false r why e none is = cc

both : (a b : Bool) → a ≡ true → b ≡ true → (a && b) ≡ true
both true b e f = f
both false b e f = cc

change-taken : (p : NodePath) (e : Logged) (c : Change) (tree : Tree) (now : Known) (why : Untold) → change_told p e c now ≡ Err why
    → Agrees p now (tree p) → IsAccepted c tree → ⊥
change-taken [] e (Creates path content owner) tree now why is agrees taken = was_ok now why is
change-taken [] e (Sets path content) tree now why is agrees taken = was_ok now why is
change-taken [] e (Deletes path) tree now why is agrees taken = was_ok now why is
change-taken (name ∷ above) e (Creates [] content owner) tree now why is agrees taken = was_ok now why is
change-taken (name ∷ above) e (Creates (other ∷ path) content owner) tree now why is agrees taken =
    kept_not_refused (path_eq (name ∷ above) (other ∷ path)) (creation_told e content owner now) now why
    (λ same is. made_not_refused (has_length content && can_be_made now) _ why
    (both (has_length content) (can_be_made now) (can_be_long content taken.1.0)
    (not_there now (tree (name ∷ above)) agrees
    (ap tree (path_eq-true (name ∷ above) (other ∷ path) same) ∙ taken.0.0))) is)
    is
change-taken (name ∷ above) e (Sets path content) tree now why is agrees taken =
    kept_not_refused (path_eq (name ∷ above) path) (write_told e content now) now why
    (λ same is. if_long (has_length content) (knowing.written e content now) why (can_be_long content taken.1)
    (written_taken e content now (tree (name ∷ above)) taken.0.0 why agrees
    (ap tree (path_eq-true (name ∷ above) path same) ∙ taken.0.1) taken.0.2) is)
    is
change-taken (name ∷ above) e (Deletes []) tree now why is agrees taken = was_ok now why is
change-taken (name ∷ above) e (Deletes (other ∷ path)) tree now why is agrees taken =
    kept_not_refused (path_eq (name ∷ above) (other ∷ path)) (deletion_told now) now why
    (λ same is. made_not_refused (can_be_deleted now) (Some None) why
    (is_there now (tree (name ∷ above)) agrees
    (ap (λ q. is_some (tree q)) (path_eq-true (name ∷ above) (other ∷ path) same) ∙ is_true (is_some (tree (other ∷ path))) taken.0.0)) is)
    is where
      is_true : (b : Bool) → IsTrue b → b ≡ true
      is_true true t = refl
      is_true false t = absurd (false≢true t)

-- ---- several changes, after a transaction is begun

next_taken : (before : HistoryView) (z : ℕ) (t : ℤ) (done : List Change) (c : Change)
    → newest_tree (with_changes (with_transaction before z t) (done ++ c ∷ []))
    ≡ apply z t c (newest_tree (with_changes (with_transaction before z t) done))
next_taken before z t done c =
    newest-changes before z t (done ++ c ∷ []) ∙ apply_all-end z t done c (newest_tree before)
    ∙ ap (apply z t c) (sym (newest-changes before z t done))

abbrev so_far : HistoryView → Logged → List Change → HistoryView
so_far before e done = with_changes (begun before e) done

changes-taken : (p : NodePath) (e : Logged) (before : HistoryView) (done cs : List Change) (now : Known) (why : Untold)
    → changes_told p e cs now ≡ Err why → Agrees p now (newest_tree (so_far before e done) p) → AreTaken (so_far before e done) cs → ⊥
changes-taken p e before done [] now why is agrees taken = was_ok now why is
changes-taken p e before done (c ∷ cs) now why is agrees taken =
    go (change_told p e c now) refl is (λ mid is agrees taken. changes-taken p e before (done ++ c ∷ []) cs mid why is agrees taken) where
      then : HistoryView
      then = so_far before e (done ++ c ∷ [])

      go : (r : Result Known Untold) → change_told p e c now ≡ r → so_on r (changes_told p e cs) ≡ Err why
          → ((mid : Known) → changes_told p e cs mid ≡ Err why → Agrees p mid (newest_tree then p) → AreTaken then cs → ⊥) → ⊥
      go (Ok mid) here is more =
          more mid is
          (subst (λ (u : Tree). Agrees p mid (u p)) (sym (next_taken before (natural e.zxid) e.time done c))
          (change-agrees p e c (newest_tree (so_far before e done)) now mid here agrees))
          (subst (λ k. AreTaken k cs) (sym (with_changes-append (begun before e) done (c ∷ []))) taken.1)
      go (Err first) here is more = change-taken p e c (newest_tree (so_far before e done)) now first here agrees taken.0

read-taken : (p : NodePath) (e : Logged) (fault : Option Untold) (before : HistoryView) (done cs : List Change) (now : Known) (why : Untold)
    → fault ≡ None → if_read fault (changes_told p e cs now) ≡ Err why → Agrees p now (newest_tree (so_far before e done) p)
    → AreTaken (so_far before e done) cs → ⊥
read-taken p e None before done cs now why none is agrees taken = changes-taken p e before done cs now why is agrees taken
read-taken p e (Some fault) before done cs now why none is agrees taken = cc

none_earlier : (f g : Option Untold) → earlier f g ≡ None → (f ≡ None) × (g ≡ None)
none_earlier None g e = (refl, e)
none_earlier (Some fault) g e = cc

-- these changes are made after those
more_made : (before : HistoryView) (z : ℕ) (t : ℤ) (done cs : List Change)
    → newest_tree (with_changes (with_transaction before z t) (done ++ cs))
    ≡ apply_all z t cs (newest_tree (with_changes (with_transaction before z t) done))
more_made before z t done cs =
    newest-changes before z t (done ++ cs) ∙ apply_all-append z t done cs (newest_tree before)
    ∙ ap (apply_all z t cs) (sym (newest-changes before z t done))

parts-taken : (p : NodePath) (e : Logged) (before : HistoryView) (done : List Change) (parts : List (Value part)) (now : Known)
    (why : Untold)
    → all_told (part_told p e) parts now ≡ Err why → first_fault part_fault parts ≡ None
    → Agrees p now (newest_tree (so_far before e done) p) → AreTaken (so_far before e done) (all_changes e.session parts) → ⊥
parts-taken p e before done [] now why is read agrees taken = was_ok now why is
parts-taken p e before done (one ∷ parts) now why is read agrees taken =
    go (part_told p e one now) refl is
    (λ mid is agrees taken. parts-taken p e before (done ++ cs) parts mid why is faults.1 agrees taken) where
      cs : List Change
      cs = part_changes e.session one

      faults : (part_fault one ≡ None) × (first_fault part_fault parts ≡ None)
      faults = none_earlier (part_fault one) (first_fault part_fault parts) read

      split : AreTaken (so_far before e done) cs × AreTaken (with_changes (so_far before e done) cs) (all_changes e.session parts)
      split = AreTaken-parts (so_far before e done) cs (all_changes e.session parts) taken

      then : HistoryView
      then = so_far before e (done ++ cs)

      go : (r : Result Known Untold) → part_told p e one now ≡ r → so_on r (all_told (part_told p e) parts) ≡ Err why
          → ((mid : Known) → all_told (part_told p e) parts mid ≡ Err why → Agrees p mid (newest_tree then p)
          → AreTaken then (all_changes e.session parts) → ⊥) → ⊥
      go (Ok mid) here is more =
          more mid is
          (subst (λ (u : Tree). Agrees p mid (u p)) (sym (more_made before (natural e.zxid) e.time done cs))
          (read-agrees p e (part_fault one) cs (newest_tree (so_far before e done)) now mid here agrees))
          (subst (λ k. AreTaken k (all_changes e.session parts)) (sym (with_changes-append (begun before e) done cs)) split.1)
      go (Err first) here is more =
          read-taken p e (part_fault one) before done cs now first faults.0 here agrees split.0

-- ---- entries

gone-taken : (p : NodePath) (paths : List (Option Text)) (now : Known) (why : Untold) → all_told (gone_told p) paths now ≡ Err why
    → first_fault path_fault paths ≡ None → ⊥
gone-taken p [] now why is read = was_ok now why is
gone-taken p (one ∷ paths) now why is read =
    go (path_fault one) (none_earlier (path_fault one) (first_fault path_fault paths) read).0 is
    (λ mid is. gone-taken p paths mid why is (none_earlier (path_fault one) (first_fault path_fault paths) read).1) where
      go : (fault : Option Untold) → fault ≡ None
          → so_on (if_read fault (Ok (cond (knowing.is_at p (named one)) (Some None) now))) (all_told (gone_told p) paths) ≡ Err why
          → ((mid : Known) → all_told (gone_told p) paths mid ≡ Err why → ⊥) → ⊥
      go None none is more = more (cond (knowing.is_at p (named one)) (Some None) now) is
      go (Some fault) none is more = cc

end-taken : (p : NodePath) (e : Logged) (paths : List (Option Text)) (now : Known) (why : Untold) → end_told p e paths now ≡ Err why
    → first_fault path_fault paths ≡ None → ⊥
end-taken p e paths now why is read = go (all_told (gone_told p) paths now) refl is where
  go : (r : Result Known Untold) → all_told (gone_told p) paths now ≡ r
      → so_on r (λ told. ok_of (left_by e.session told)) ≡ Err why → ⊥
  go (Ok mid) told is = was_ok (left_by e.session mid) why is
  go (Err first) told is = gone-taken p paths now first told read

several-taken : (failed : Bool) (p : NodePath) (e : Logged) (before : HistoryView) (parts : List (Value part)) (now : Known) (why : Untold)
    → cond failed (Ok now) (all_told (part_told p e) parts now) ≡ Err why
    → cond failed None (first_fault part_fault parts) ≡ None
    → Agrees p now (newest_tree (begun before e) p)
    → AreTaken (begun before e) (cond failed [] (all_changes e.session parts)) → ⊥
several-taken true p e before parts now why is read agrees taken = was_ok now why is
several-taken false p e before parts now why is read agrees taken = parts-taken p e before [] parts now why is read agrees taken

entry-taken : (p : NodePath) (e : Logged) (kind : TxnKind) (body : Value (fields kind)) (before : HistoryView) (now : Known) (why : Untold)
    → entry_told p e kind body now ≡ Err why → entry_fault kind body ≡ None → Agrees p now (newest_tree (begun before e) p)
    → AreTaken (begun before e) (entry_changes e.session (begun before e) kind body) → ⊥
entry-taken p e Multi body before now why is read agrees taken =
    several-taken (list_any is_failed (or_empty body)) p e before (or_empty body) now why is read agrees taken
entry-taken p e CloseSession body before now why is read agrees taken = end-taken p e (or_empty body) now why is read
entry-taken p e CloseSessionAlone body before now why is read agrees taken = end-taken p e [] now why is refl
entry-taken p e kind body before now why is read agrees taken = plain kind body is read taken where
  plain : (kind : TxnKind) (body : Value (fields kind))
      → if_read (operation_fault kind body) (changes_told p e (listed (operation_change e.session kind body)) now) ≡ Err why
      → operation_fault kind body ≡ None → AreTaken (begun before e) (listed (operation_change e.session kind body)) → ⊥
  plain kind body is read taken =
      read-taken p e (operation_fault kind body) before [] (listed (operation_change e.session kind body)) now why read is agrees taken

-- ---- logs

newest-end : (low : ℕ) (ts : List Transaction) (one : Transaction) → newest low (ts ++ one ∷ []) ≡ one.zxid
newest-end low [] one = refl
newest-end low (two ∷ ts) one = newest-end two.zxid ts one

-- nothing was followed, or the last that was is the newest
abbrev IsLast : ℕ → HistoryView → Type 0
IsLast last kept = (last ≡ 0) ⊎ (last ≡ newest 0 kept.transactions)

not_above : (n last new : ℕ) → last ≤ new → new < n → nat_le n last ≡ true → ⊥
not_above n last new low above below =
    let l : nat_le n last ≡ false = grind (arith, nat_tests, low, above) in
    absurd (let f : true ≡ false = sym below ∙ l in cc)

above : (last new : ℕ) (zxid : ℤ) → (last ≡ 0) ⊎ (last ≡ new) → pos new <ℤ zxid → nat_le (natural zxid) last ≡ true → ⊥
above last new (pos n) (inl none) later below = not_above n last new (omega (arith, none)) (omega (arith, ints, later)) below
above last new (pos n) (inr same) later below = not_above n last new (omega (arith, same)) (omega (arith, ints, later)) below
above last new (negsuc n) is later below = omega (arith, ints, later)

follows : (last new zxid : ℕ) → (last ≡ 0) ⊎ (last ≡ new) → comes_next new zxid ≡ true → ((last == 0) || comes_next last zxid) ≡ true
follows last new zxid (inl none) next = ap (λ n. (n == 0) || comes_next n zxid) none
follows last new zxid (inr same) next = go (last == 0) where
  go : (b : Bool) → (b || comes_next last zxid) ≡ true
  go true = refl
  go false = ap (λ n. comes_next n zxid) same ∙ next

abbrev number_err : Untold → Result ℕ Untold
number_err why = Err why

numbered : (last : ℕ) (kept : HistoryView) (zxid : ℤ) (why : Untold) → IsLast last kept → IsLater kept zxid
    → comes_next (newest 0 kept.transactions) (natural zxid) ≡ true → zxid_told last zxid ≡ Err why → ⊥
numbered last kept zxid why is_last later next stops =
    go (nat_le (natural zxid) last) ((last == 0) || comes_next last (natural zxid)) refl
    (follows last (newest 0 kept.transactions) (natural zxid) is_last next) stops where
      go : (below next : Bool) → nat_le (natural zxid) last ≡ below → next ≡ true
          → cond below (number_err untold.Order) (cond next (Ok (natural zxid)) (Err untold.Missing)) ≡ Err why → ⊥
      go true next e f is = above last (newest 0 kept.transactions) zxid is_last later e
      go false true e f is = cc
      go false false e f is = cc

number : (last : ℕ) (zxid : ℤ) (next : ℕ) → zxid_told last zxid ≡ Ok next → next ≡ natural zxid
number last zxid next is = go (nat_le (natural zxid) last) ((last == 0) || comes_next last (natural zxid)) is where
  go : (below follows : Bool) → cond below (number_err untold.Order) (cond follows (Ok (natural zxid)) (Err untold.Missing)) ≡ Ok next
      → next ≡ natural zxid
  go true follows is = cc
  go false true is = cc
  go false false is = cc

abbrev path_fail : PathView → Result PathView UntoldEntry
path_fail told = Ok told

was_told : (told : PathView) (fault : UntoldEntry) → path_fail told ≡ Err fault → ⊥
was_told told fault e = cc

-- what is left is refused after the next entry
abbrev Deeper : NodePath → ℤ → List Placed → HistoryView → UntoldEntry → Type 0
Deeper p zxid more kept fault =
    (next : ℕ) (new : Known) → IsLast next kept → entries_told more (state p zxid next new) ≡ Err fault
    → Agrees p new (newest_tree kept p) → AreTold kept (entries_to zxid more) → ⊥

entries-taken : (p : NodePath) (zxid : ℤ) (entries : List Placed) (before : HistoryView) (last : ℕ) (now : Known) (fault : UntoldEntry)
    → IsNobodys before → IsLast last before → entries_told entries (state p zxid last now) ≡ Err fault
    → Agrees p now (newest_tree before p) → AreTold before (entries_to zxid entries) → ⊥
entries-taken p zxid [] before last now fault nobodys is_last is agrees taken = was_told (state p zxid last now) fault is
entries-taken p zxid (one ∷ more) before last now fault nobodys is_last is agrees taken =
    go (int_lt zxid e.zxid) is taken
    (λ is taken. entries-taken p zxid more before last now fault nobodys is_last is agrees taken)
    (λ next new last is agrees taken. entries-taken p zxid more after_one next new fault nobodys last is agrees taken) where
      e : Logged
      e = one.entry

      after_one : HistoryView
      after_one = with_whole before (transaction_of before e)

      begun_agrees : Agrees p now (newest_tree (begun before e) p)
      begun_agrees = subst (λ (u : Tree). Agrees p now (u p)) (sym (newest-changes before (natural e.zxid) e.time [])) agrees

      told : (r : Result Known Untold) (next : ℕ) → next ≡ natural e.zxid → entry_told p e e.kind e.body now ≡ r
          → so_on (at_place one.place (moved (state p zxid last now) next r)) (all_told placed_told more) ≡ Err fault
          → IsTold before e × AreTold after_one (entries_to zxid more) → Deeper p zxid more after_one fault → ⊥
      told (Ok new) next number here is taken deeper =
          deeper next new (inr (number ∙ sym (newest-end 0 before.transactions (transaction_of before e)))) is
          (subst (λ (k : HistoryView). Agrees p new (newest_tree k p))
          (begun-changes before (natural e.zxid) e.time (entry_changes e.session (begun before e) e.kind e.body))
          (entry-agrees p e e.kind e.body before now new nobodys here agrees)) taken.1
      told (Err why) next number here is taken deeper =
          entry-taken p e e.kind e.body before now why here taken.0.2 begun_agrees taken.0.3

      placed : (r : Result ℕ Untold) → zxid_told last e.zxid ≡ r
          → so_on (at_place one.place (followed e (state p zxid last now) r)) (all_told placed_told more) ≡ Err fault
          → IsTold before e × AreTold after_one (entries_to zxid more) → Deeper p zxid more after_one fault → ⊥
      placed (Ok next) here is taken deeper =
          told (entry_told p e e.kind e.body now) next (number last e.zxid next here) refl is taken deeper
      placed (Err why) here is taken deeper = numbered last before e.zxid why is_last taken.0.0 taken.0.1 here

      go : (above : Bool)
          → so_on (cond above (Ok (state p zxid last now))
          (at_place one.place (followed e (state p zxid last now) (zxid_told last e.zxid))))
          (all_told placed_told more) ≡ Err fault
          → AreTold before (cond above (entries_to zxid more) (e ∷ entries_to zxid more))
          → (entries_told more (state p zxid last now) ≡ Err fault → AreTold before (entries_to zxid more) → ⊥)
          → Deeper p zxid more after_one fault → ⊥
      go true is taken along deeper = along is taken
      go false is taken along deeper = placed (zxid_told last e.zxid) refl is taken deeper

pub refused_are_untold : RefusedAreUntold
refused_are_untold before entries p zxid fault nobodys is taken =
    entries-taken p zxid entries before 0 None fault nobodys (inl refl) is (first_agrees p (newest_tree before p)) taken
