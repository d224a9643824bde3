-- What entries tell of the data at one path, whatever stood before them.
use Rattle.std.specs.Prelude.{ℕ, ℤ, pos, ◌+ℤ◌, ◌≡◌, Bool, true, false, ◌&&◌, ◌||◌, ◌==◌, nat_le, int_lt, if◌then◌else◌, ⊤}
use Rattle.std.specs.Prelude.{List, [], ◌∷◌, Option, Some, None, Result, Ok, Err}
use Rattle.std.specs.List.{list_any}
use Rattle.std.specs.Option.{option_map}
use Rattle.zk_jute.specs.Layout.{Value}
use Rattle.zk_jute.specs.Lenient.{or_empty}
use Rattle.zk_nodes.specs.Path.{Text, NodePath, path_eq}
use Rattle.zk_nodes.specs.History.{Change, Creates, Sets, Deletes, View, Absence, Contents, made, node_fields, size_of}
use Rattle.zk_history.specs.HistoryView.{natural}
use Rattle.zk_nodes.specs.declared.data_stat.DataStat.{DataStat}
use Rattle.zk_history.specs.declared.data.Data.{Data}
use Rattle.zk_log.specs.declared.kind.TxnKind.{TxnKind}
use Rattle.zk_log.specs.declared.kind.TxnKind.TheVariants.{Multi, CloseSession, CloseSessionAlone}
use Rattle.zk_log.specs.Kinds.{fields, part}
use Rattle.zk_log.specs.Format.{Logged}
use Rattle.zk_log.specs.Reading.{Placed}
use Rattle.zk_log.specs.Following.{is_failed}
use Rattle.zk_log_history.specs.Changes.{named, is_owner, listed, operation_change, part_changes}
use Rattle.zk_log_history.specs.Following.{comes_next}
use Rattle.zk_log_history.specs.Refused.{operation_fault, part_fault, path_fault}
use Rattle.zk_log_history.specs.declared.knowledge.Knowledge.{Knowledge}
use Rattle.zk_log_history.specs.declared.knowledge.Knowledge.TheVariants as knowledge
use Rattle.zk_log_history.specs.declared.untold.Untold.{Untold}
use Rattle.zk_log_history.specs.declared.untold.UntoldEntry.{UntoldEntry}
use Rattle.zk_log_history.specs.declared.untold.Untold.TheVariants as untold

-- What there is to see of a node's data.
pub record Seen : Type 0 where
  pub content : Option (List ℕ)
  pub stat : DataStat

-- What is known of a path: nothing, or its data, or that no node is there. It is known as soon as an entry makes or deletes its node; a
-- write alone tells neither when the node was made nor whose it is.
abbrev pub Known : Type 0
Known = Option (Option Seen)

abbrev pub view_of : Option Seen → View
view_of None = Absence
view_of (Some seen) = Contents seen.content seen.stat

abbrev pub seen_of : {A : Type 0} → Option (Data A) → Option Seen
seen_of None = None
seen_of (Some held) = Some (record { content = option_map (λ v. v.items) held.bytes; stat = held.stat })

abbrev pub known_of : {A : Type 0} → Knowledge A → Known
known_of knowledge.Unknown = None
known_of (knowledge.Known told) = Some (seen_of told)

-- ---- one after another, up to the first that is refused

abbrev pub so_on : {S E : Type 0} → Result S E → (S → Result S E) → Result S E
so_on (Ok state) more = more state
so_on (Err why) more = Err why

abbrev pub all_told : {X S E : Type 0} → (X → S → Result S E) → List X → S → Result S E
all_told step [] state = Ok state
all_told step (x ∷ xs) state = so_on (step x state) (all_told step xs)

abbrev pub if_read : Option Untold → Result Known Untold → Result Known Untold
if_read (Some fault) told = Err fault
if_read None told = told

-- ---- changes

-- these are one node, and not the root, which is never made and never deleted
abbrev pub is_at : NodePath → NodePath → Bool
is_at [] other = false
is_at (name ∷ path) other = path_eq (name ∷ path) other

-- a Stat can tell the length of these data
abbrev pub has_length : Option (List ℕ) → Bool
has_length content = nat_le (size_of content) 2147483647

-- no node is known to be there
abbrev pub can_be_made : Known → Bool
can_be_made None = true
can_be_made (Some None) = true
can_be_made known = false

-- none is known to be absent
abbrev pub can_be_deleted : Known → Bool
can_be_deleted (Some None) = false
can_be_deleted known = true

-- after a creation of the node
abbrev pub creation_told : Logged → Option (List ℕ) → ℤ → Known → Result Known Untold
creation_told entry content owner known =
    if has_length content && can_be_made known
    then Ok (Some (Some (record { content = content; stat = node_fields (made (natural entry.zxid) entry.time content owner) })))
    else Err untold.Illegal

-- a write moves mzxid and mtime, and raises the version by one
abbrev pub rewritten : Logged → Option (List ℕ) → DataStat → DataStat
rewritten entry content stat = record stat {
  mzxid = pos (natural entry.zxid);
  mtime = entry.time;
  version = stat.version +ℤ pos 1;
  data_length = pos (size_of content);
}

-- after a write: nothing more is known of a node of which nothing is known
abbrev pub written : Logged → Option (List ℕ) → Known → Result Known Untold
written entry content None = Ok None
written entry content (Some None) = Err untold.Illegal
written entry content (Some (Some old)) =
    if int_lt old.stat.version (pos 2147483647)
    then Ok (Some (Some (record { content = content; stat = rewritten entry content old.stat })))
    else Err untold.Illegal

abbrev pub write_told : Logged → Option (List ℕ) → Known → Result Known Untold
write_told entry content known = if has_length content then written entry content known else Err untold.Illegal

-- after a deletion
abbrev pub deletion_told : Known → Result Known Untold
deletion_told known = if can_be_deleted known then Ok (Some None) else Err untold.Illegal

-- What is known of a path after a change of the entry.
abbrev pub change_told : NodePath → Logged → Change → Known → Result Known Untold
change_told path entry (Creates other content owner) known =
    if is_at path other then creation_told entry content owner known else Ok known
change_told path entry (Sets other content) known = if is_at path other then write_told entry content known else Ok known
change_told path entry (Deletes other) known = if is_at path other then deletion_told known else Ok known

abbrev pub changes_told : NodePath → Logged → List Change → Known → Result Known Untold
changes_told path entry changes known = all_told (change_told path entry) changes known

-- ---- entries

abbrev pub operation_told : NodePath → Logged → (kind : TxnKind) → Value (fields kind) → Known → Result Known Untold
operation_told path entry kind body known =
    if_read (operation_fault kind body) (changes_told path entry (listed (operation_change entry.session kind body)) known)

abbrev pub part_told : NodePath → Logged → Value part → Known → Result Known Untold
part_told path entry one known = if_read (part_fault one) (changes_told path entry (part_changes entry.session one) known)

-- where a part has failed, none has changed anything
abbrev pub parts_told : NodePath → Logged → List (Value part) → Known → Result Known Untold
parts_told path entry parts known = if list_any is_failed parts then Ok known else all_told (part_told path entry) parts known

-- a path that the end of a session tells has no node then, whether it had one or not
abbrev pub gone_told : NodePath → Option Text → Known → Result Known Untold
gone_told path one known = if_read (path_fault one) (Ok (if is_at path (named one) then Some None else known))

-- a node that is known to be the session's goes with it
abbrev pub left_by : ℤ → Known → Known
left_by session (Some (Some seen)) = if is_owner session seen.stat.ephemeral_owner then Some None else Some (Some seen)
left_by session known = known

abbrev pub end_told : NodePath → Logged → List (Option Text) → Known → Result Known Untold
end_told path entry paths known = so_on (all_told (gone_told path) paths known) (λ told. Ok (left_by entry.session told))

-- What is known of a path after an entry.
abbrev pub entry_told : NodePath → Logged → (kind : TxnKind) → Value (fields kind) → Known → Result Known Untold
entry_told path entry Multi body known = parts_told path entry (or_empty body) known
entry_told path entry CloseSession body known = end_told path entry (or_empty body) known
entry_told path entry CloseSessionAlone body known = end_told path entry [] known
entry_told path entry kind body known = operation_told path entry kind body known

-- ---- logs

-- A path, the zxid up to which entries count, the zxid of the last of them, or 0, and what is known.
pub record PathView : Type 0 where
  pub path : NodePath
  pub until : ℤ
  pub last : ℕ
  pub known : Known

-- before any entry
abbrev pub unknown : NodePath → ℤ → PathView
unknown path until = record { path = path; until = until; last = 0; known = None }

-- the zxid of an entry, if none is missing before it: the first entry may be any
abbrev pub zxid_told : ℕ → ℤ → Result ℕ Untold
zxid_told last zxid =
    if nat_le (natural zxid) last then Err untold.Order
    else (if (last == 0) || comes_next last (natural zxid) then Ok (natural zxid) else Err untold.Missing)

abbrev pub moved : PathView → ℕ → Result Known Untold → Result PathView Untold
moved told zxid (Ok known) = Ok (record { path = told.path; until = told.until; last = zxid; known = known })
moved told zxid (Err why) = Err why

abbrev pub followed : Logged → PathView → Result ℕ Untold → Result PathView Untold
followed entry told (Ok zxid) = moved told zxid (entry_told told.path entry entry.kind entry.body told.known)
followed entry told (Err why) = Err why

abbrev pub at_place : ℕ → Result PathView Untold → Result PathView UntoldEntry
at_place place (Ok told) = Ok told
at_place place (Err why) = Err (record { place = place; why = why })

-- What is known after the entry of a record: one above the zxid does not count.
abbrev pub placed_told : Placed → PathView → Result PathView UntoldEntry
placed_told one told =
    if int_lt told.until one.entry.zxid then Ok told
    else at_place one.place (followed one.entry told (zxid_told told.last one.entry.zxid))

-- What is known after these entries, or the first that no history takes after those before it, by the place of its record, and why.
abbrev pub entries_told : List Placed → PathView → Result PathView UntoldEntry
entries_told entries told = all_told placed_told entries told

-- ---- refusals

abbrev pub StopsBy : {S : Type 0} → Result S UntoldEntry → UntoldEntry → Untold → Type 0
StopsBy told fault untold.Memory = ⊤
StopsBy told fault why = told ≡ Err fault

-- This is the first fault. Of memory nothing is said.
abbrev pub IsStop : Result PathView UntoldEntry → UntoldEntry → Type 0
IsStop told fault = StopsBy told fault fault.why
