-- Why a text is no path, by the first of six faults, and why a path has no child of a name.
use Rattle.std.specs.Prelude.{ℕ, ◌==◌, ◌≡◌, Bool, ◌||◌, ◌&&◌, not, nat_lt, nat_le, if◌then◌else◌, [], ◌∷◌, length, Option, Some, None}
use Rattle.std.specs.Prelude.{slice_index, chars, bytes_eq}
use Rattle.std.specs.List.{list_any}
use Rattle.zk_nodes.specs.Path.{Text, Name, NodePath, path_of, is_empty, has_no_slash, child_text}
use Rattle.zk_nodes.specs.declared.path_fault.PathFault.{PathFault}
use Rattle.zk_nodes.specs.declared.path_fault.PathFault.TheVariants.{Empty, TooLong, NoSlashFirst, BadCharacter, EmptyName, DotName}
use Rattle.zk_nodes.specs.declared.path_fault.PathFault.TheVariants.{SlashInName, Memory}
use Rattle.zk_limits.specs.declared.limits.TheConstants.{LONGEST_PATH}

-- U+0000 to U+001F, U+007F to U+009F, U+E000 to U+F8FF, U+FFF0 to U+FFFF, and all above
-- ("The ZooKeeper Data Model": the characters that no path may have)
abbrev pub is_refused : ℕ → Bool
is_refused c = nat_le c 0x1f || (nat_le 0x7f c && nat_le c 0x9f) || (nat_le 0xe000 c && nat_le c 0xf8ff) || nat_le 0xfff0 c

-- `.` or `..` ("The ZooKeeper Data Model": ZooKeeper does not use relative paths)
abbrev pub is_dots : Name → Bool
is_dots name = bytes_eq name (46 ∷ []) || bytes_eq name (46 ∷ 46 ∷ [])

-- the first fault of names: an empty one before one of dots
abbrev pub fault_of_names : NodePath → Option PathFault
fault_of_names path = if list_any is_empty path then Some EmptyName else (if list_any is_dots path then Some DotName else None)

-- The first fault of a text, if it is no path.
abbrev pub fault_of : Text → Option PathFault
fault_of text =
    if length text == 0 then Some Empty
    else (if nat_lt LONGEST_PATH (length text) then Some TooLong
    else (if not (slice_index text 0 == 47) then Some NoSlashFirst
    else (if list_any is_refused (chars text) then Some BadCharacter
    else fault_of_names (path_of text))))

-- The text of a path: one that has none of the six faults.
abbrev pub IsPath : Text → Type 0
IsPath text = fault_of text ≡ None

-- Why a path has no child of this name, if it has none: a name is one name, so it has no slash and is not empty, and then
-- the child's text has none of the six faults ("The ZooKeeper Data Model": a name is a sequence of path elements separated by a slash).
abbrev pub child_fault : Text → Name → Option PathFault
child_fault text name =
    if not (has_no_slash name) then Some SlashInName
    else (if is_empty name then Some EmptyName
    else fault_of (child_text text name))

-- what a refusal says of the text: where memory ran out, that there is no fault
abbrev pub fault_told : PathFault → Option PathFault
fault_told Empty = Some Empty
fault_told TooLong = Some TooLong
fault_told NoSlashFirst = Some NoSlashFirst
fault_told BadCharacter = Some BadCharacter
fault_told EmptyName = Some EmptyName
fault_told DotName = Some DotName
fault_told SlashInName = Some SlashInName
fault_told Memory = None
