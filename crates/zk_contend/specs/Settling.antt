-- What becomes of the place of a contender by an answer.
use Rattle.std.specs.Prelude.{ℤ, ◌≡◌, ◌<ℤ◌, ◌⊎◌, Bool, true, false, ◌&&◌, not, bytes_eq, List, Option, Some, None, option_map}
use Rattle.std.specs.Prelude.{string_bytes, if◌then◌else◌}
use Rattle.std.specs.List.{list_any}
use Rattle.std.specs.Ordering.{int_eq}
use Rattle.zk_nodes.specs.Path.{Text, Name}
use Rattle.zk_conversation.specs.Results.{Result, NoNode, Refused as Refused_by, Read, Listing, Done}
use Rattle.zk_turns.specs.Turns.{Outcome, Replied}
use Rattle.zk_turns.specs.Meaning.{Among}
use Rattle.zk_conclusions.specs.Tags.{has_tag, IsLeastOf}
use Rattle.zk_contend.specs.declared.contender.LockContender.{LockContender}
use Rattle.zk_contend.specs.declared.listed.Listed.{Listed}
use Rattle.zk_contend.specs.declared.naming.Naming.{Naming}
use Rattle.zk_contend.specs.declared.place.Ask.{Ask}
use Rattle.zk_contend.specs.declared.place.Ask.TheVariants.{Make, Enter, Fence, Look, Clear, ReadOwn, List as Lists, ReadBehind, Leave}
use Rattle.zk_contend.specs.declared.place.Place.{Place}
use Rattle.zk_contend.specs.declared.place.Place.TheVariants.{Making, Entering, Unsure, Looking, Clearing, At, Leaving, Left}
use Rattle.zk_contend.specs.Hearing.{entered, entering, made}
use Rattle.zk_contend.specs.Namings.{is_mixed, kind_in, most_in}
use Rattle.zk_contend.specs.Places.{path_in, IsBehindWhere}

-- the place, where it is another one
abbrev pub moved : {A : Type 0} → Place A → Option (Place A) → Place A
moved place None = place
moved place (Some next) = next

-- ---- a listing where a create may have made a place

-- the name is not the least of those with the tag
abbrev pub is_surplus : (front least : Name) → Name → Bool
is_surplus front least name = has_tag front name && not (bytes_eq name least)

abbrev pub clearing : {A : Type 0} → (dir : Text) → Name → Option (Place A)
clearing dir name = option_map Clearing (path_in dir name)

abbrev pub found_at : {A : Type 0} → Text → Place A
found_at own = At own None

abbrev pub found : {A : Type 0} → (dir : Text) → Name → Option (Place A)
found dir name = option_map found_at (path_in dir name)

-- Of the names with the tag this is the least. Where the contender is given up, it is to be deleted; else one that is too many is, if
-- there is one; else the place is there.
abbrev pub IsFound : {A : Type 0} → (dir : Text) → (names : List Name) → (front least : Name) → (is_given_up : Bool) → Option (Place A)
    → Type 0
IsFound dir names front least true place = place ≡ clearing dir least
IsFound dir names front least false place =
    ((name : Name) × Among name names × (is_surplus front least name ≡ true) × (place ≡ clearing dir name))
    ⊎ ((list_any (is_surplus front least) names ≡ false) × (place ≡ found dir least))

-- By a listing that is not older than the last create: no name has the tag, and no place is there; or the least has.
abbrev pub IsSettled : {A : Type 0} → (dir : Text) → (front : Name) → (is_given_up : Bool) → (answered : ℤ) → (names : List Name)
    → (zxid : ℤ) → Option (Place A) → Type 0
IsSettled dir front is_given_up answered names zxid place =
    ((zxid <ℤ answered) × (place ≡ None))
    ⊎ ((((name : Name) → Among name names → has_tag front name ≡ false) × (place ≡ Some (entering is_given_up)))
    ⊎ ((least : Name) × IsLeastOf names front least × IsFound dir names front least is_given_up place))

abbrev pub IsLookedBy : {A : Type 0} → (dir : Text) → (front : Name) → (is_given_up : Bool) → (answered : ℤ) → (zxid : ℤ) → Result
    → Option (Place A) → Type 0
IsLookedBy dir front is_given_up answered zxid (Listing names stat) place = IsSettled dir front is_given_up answered names zxid place
IsLookedBy dir front is_given_up answered zxid NoNode place = place ≡ Some (entering is_given_up)
IsLookedBy dir front is_given_up answered zxid _ place = place ≡ None

abbrev pub IsLooked : {A : Type 0} → (dir : Text) → (front : Name) → (is_given_up : Bool) → (answered : ℤ) → Outcome
    → Option (Place A) → Type 0
IsLooked dir front is_given_up answered (Replied zxid result) place = IsLookedBy dir front is_given_up answered zxid result place
IsLooked dir front is_given_up answered _ place = place ≡ None

-- ---- other answers; none where the place stays as it was

-- Any answer of the barrier will do: each earlier create was before it.
abbrev pub fenced : {A : Type 0} → Outcome → Option (Place A)
fenced (Replied zxid result) = Some (Looking zxid)
fenced _ = None

-- by a delete, or a read, the node is not there
abbrev pub is_gone : Result → Bool
is_gone Done = true
is_gone NoNode = true
is_gone _ = false

abbrev pub cleared : {A : Type 0} → Outcome → Option (Place A)
cleared (Replied zxid result) = if is_gone result then Some (Looking zxid) else None
cleared _ = None

abbrev pub left_by : {A : Type 0} → Outcome → Option (Place A)
left_by (Replied zxid result) = if is_gone result then Some Left else None
left_by _ = None

-- The place is not there, or is another session's.
abbrev pub is_others : (session : ℤ) → Result → Bool
is_others session (Read bytes stat) = not (int_eq stat.ephemeral_owner session)
is_others session NoNode = true
is_others session _ = false

abbrev pub own_read : {A : Type 0} → (session : ℤ) → Outcome → Option (Place A)
own_read session (Replied zxid result) = if is_others session result then Some Entering else None
own_read session _ = None

-- What becomes of a place by the answer to what was asked, except by a listing and by a read of one that it waits for.
abbrev pub Becomes : {A : Type 0} → (session : ℤ) → LockContender A → Place A → Ask → Outcome → Option (Place A) → Type 0
Becomes session contender (Making path) Make outcome next = next ≡ made contender.directory path outcome
Becomes session contender Entering Enter outcome next =
    next ≡ entered contender.directory (string_bytes contender.front) contender.is_given_up outcome
Becomes session contender Unsure Fence outcome next = next ≡ fenced outcome
Becomes session contender (Looking answered) Look outcome next =
    IsLooked contender.directory (string_bytes contender.front) contender.is_given_up answered outcome next
Becomes session contender (Clearing leaving) Clear outcome next = next ≡ cleared outcome
Becomes session contender (At own listing) ReadOwn outcome next = next ≡ own_read session outcome
Becomes session contender (Leaving own) Leave outcome next = next ≡ left_by outcome
Becomes session contender _ _ outcome next = next ≡ None

-- the place without a listing
abbrev pub unlisted : {A : Type 0} → Place A → Place A
unlisted (At own listing) = At own None
unlisted place = place

-- One that it waits for is not there, or is not for this session to read: it is listed again.
abbrev pub is_unread : Result → Bool
is_unread NoNode = true
is_unread (Refused_by code) = true
is_unread _ = false

abbrev pub is_unread_by : Outcome → Bool
is_unread_by (Replied zxid result) = is_unread result
is_unread_by _ = false

abbrev pub unlisted_by : {A : Type 0} → Outcome → Place A → Place A
unlisted_by outcome place = if is_unread_by outcome then unlisted place else place

-- the place is not there any more
abbrev pub lost : {A : Type 0} → Place A → Place A
lost (At own listing) = Entering
lost place = place

-- The place has this listing, by the answer with these names.
abbrev pub IsListedAt : {A : Type 0} → (dir : Text) → Naming → (names : List Name) → (zxid : ℤ) → (place new : Place A) → Type 0
IsListedAt {A} dir naming names zxid (At own listing) new =
    (listed : Listed A) × (new ≡ At own (Some listed)) × (listed.names ≡ names) × (listed.zxid ≡ zxid)
    × IsBehindWhere (is_mixed naming names) dir (kind_in naming) (most_in naming) names own listed.behind.items
IsListedAt dir naming names zxid place new = new ≡ place

abbrev pub IsListedBy : {A : Type 0} → (dir : Text) → Naming → (zxid : ℤ) → Result → (place new : Place A) → Type 0
IsListedBy dir naming zxid (Listing names stat) place new = IsListedAt dir naming names zxid place new
IsListedBy dir naming zxid NoNode place new = new ≡ lost place
IsListedBy dir naming zxid _ place new = new ≡ place

abbrev pub IsListed : {A : Type 0} → (dir : Text) → Naming → Outcome → (place new : Place A) → Type 0
IsListed dir naming (Replied zxid result) place new = IsListedBy dir naming zxid result place new
IsListed dir naming _ place new = new ≡ place

-- What becomes of the place by the answer to what was asked.
abbrev pub Hears : {A : Type 0} → (session : ℤ) → LockContender A → Ask → Outcome → (new : Place A) → Type 0
Hears session contender Lists outcome new = IsListed contender.directory contender.naming outcome contender.place new
Hears session contender (ReadBehind place) outcome new = new ≡ unlisted_by outcome contender.place
Hears {A} session contender ask outcome new =
    (next : Option (Place A)) × Becomes session contender contender.place ask outcome next × (new ≡ moved contender.place next)
