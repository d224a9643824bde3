-- What a contender asks, and when it rests.
use Rattle.std.specs.Prelude.{ℕ, ℤ, ◌≡◌, ◌⊎◌, true, false, ⊤, List, [], ◌∷◌, Option, Some, None, is_some, option_map, slice_get}
use Rattle.std.specs.List.{list_all}
use Rattle.zk_nodes.specs.Path.{Text}
use Rattle.zk_conversation.specs.Calls.{Call}
use Rattle.zk_conversation.specs.Calls as call
use Rattle.zk_turns.specs.View.{View}
use Rattle.zk_contend.specs.Acls.{create_with}
use Rattle.zk_contend.specs.declared.contender.LockContender.{LockContender}
use Rattle.zk_contend.specs.declared.listed.Listed.{Listed}
use Rattle.zk_contend.specs.declared.place.Ask.{Ask}
use Rattle.zk_contend.specs.declared.place.Ask.TheVariants.{Make, Enter, Fence, Look, Clear, ReadOwn, List as Lists, ReadBehind, Leave}
use Rattle.zk_contend.specs.declared.place.Place.{Place}
use Rattle.zk_contend.specs.declared.place.Place.TheVariants.{Making, Entering, Unsure, Looking, Clearing, At, Leaving, Left}
use Rattle.zk_contend.specs.Hearing.{is_paused}
use Rattle.zk_contend.specs.Leases.{StandsBy}
use Rattle.zk_contend.specs.Places.{is_ready, shows_node, shows_own}

-- By what the client shows, fewer than may hold at once are before this place, for a listing that the contender has, in which no name is
-- another family's.
abbrev pub StandsAt : {A : Type 0} → View → LockContender A → (own : Text) → Listed A → (token : ℤ) → Type 0
StandsAt view contender own listed token =
    StandsBy view contender.directory contender.naming listed.names listed.zxid own token

-- It waits for these, and each is watched; or it holds.
abbrev pub RestsBy : {A : Type 0} → View → LockContender A → (own : Text) → Listed A → (behind : List Text) → Type 0
RestsBy view contender own listed [] = (token : ℤ) × StandsAt view contender own listed token
RestsBy view contender own listed (path ∷ behind) = list_all (shows_node view) (path ∷ behind) ≡ true

abbrev pub RestsListed : {A : Type 0} → View → LockContender A → (own : Text) → Listed A → Type 0
RestsListed view contender own listed = RestsBy view contender own listed listed.behind.items

-- The place is watched too.
abbrev pub RestsAt : {A : Type 0} → View → LockContender A → (own : Text) → Option (Listed A) → Type 0
RestsAt view contender own None = ⊥
RestsAt view contender own (Some listed) = (shows_own view own ≡ true) × RestsListed view contender own listed

-- A contender rests where it waits, holds, or is given up with no node left.
abbrev pub RestsIn : {A : Type 0} → View → LockContender A → Place A → Type 0
RestsIn view contender (At own listing) = RestsAt view contender own listing
RestsIn view contender Left = ⊤
RestsIn view contender _ = ⊥

abbrev pub Rests : {A : Type 0} → View → LockContender A → Type 0
Rests view contender = RestsIn view contender contender.place

-- THE promise of a contender that asks nothing: a call of it is under way, or it pauses, or no call may be asked, or it rests.
abbrev pub IsAtRest : {A : Type 0} → View → (now : ℕ) → LockContender A → Type 0
IsAtRest view now contender =
    is_some contender.asked ≡ false → is_paused now contender.refused ≡ false → is_ready view ≡ true → Rests view contender

-- Nothing is due by what the client shows, whatever the moment: it has asked a call, or it rests.
abbrev pub IsAsleep : {A : Type 0} → View → LockContender A → Type 0
IsAsleep view contender = (is_some contender.asked ≡ true) ⊎ Rests view contender

-- Which of two reads by the last listing: of one that it waits for, only if that one is not watched; the names again, if there is none and
-- it does not hold.
abbrev pub WantsBy : {A : Type 0} → View → LockContender A → (own : Text) → Listed A → (behind : List Text) → Ask → Type 0
WantsBy view contender own listed behind (ReadBehind place) =
    (path : Text) × (slice_get behind place ≡ Some path) × (shows_node view path ≡ false)
WantsBy view contender own listed [] Lists = (token : ℤ) → ¬ (StandsAt view contender own listed token)
WantsBy view contender own listed _ _ = ⊥

abbrev pub WantsListed : {A : Type 0} → View → LockContender A → (own : Text) → Listed A → Ask → Type 0
WantsListed view contender own listed ask = WantsBy view contender own listed listed.behind.items ask

abbrev pub WantsNext : {A : Type 0} → View → LockContender A → (own : Text) → Option (Listed A) → Ask → Type 0
WantsNext view contender own None Lists = ⊤
WantsNext view contender own None _ = ⊥
WantsNext view contender own (Some listed) ask = WantsListed view contender own listed ask

-- The place is read only if it is not watched, and before all else.
abbrev pub WantsAt : {A : Type 0} → View → LockContender A → (own : Text) → Option (Listed A) → Ask → Type 0
WantsAt view contender own listing ReadOwn = shows_own view own ≡ false
WantsAt view contender own listing ask = (shows_own view own ≡ true) × WantsNext view contender own listing ask

abbrev pub WantsIn : {A : Type 0} → View → LockContender A → Place A → Ask → Type 0
WantsIn view contender (Making path) Make = ⊤
WantsIn view contender Entering Enter = ⊤
WantsIn view contender Unsure Fence = ⊤
WantsIn view contender (Looking answered) Look = ⊤
WantsIn view contender (Clearing leaving) Clear = ⊤
WantsIn view contender (At own listing) ask = WantsAt view contender own listing ask
WantsIn view contender (Leaving own) Leave = ⊤
WantsIn view contender _ _ = ⊥

abbrev pub Wants : {A : Type 0} → View → LockContender A → Ask → Type 0
Wants view contender ask = WantsIn view contender contender.place ask

-- It asks this: nothing is under way, it does not pause, a call may be asked, and it wants that.
abbrev pub IsDue : {A : Type 0} → View → (now : ℕ) → LockContender A → Ask → Type 0
IsDue view now contender ask =
    (is_some contender.asked ≡ false) × (is_paused now contender.refused ≡ false) × (is_ready view ≡ true) × Wants view contender ask

-- the path that it is about: the directory, unless it is about one node
abbrev pub path_or : (dir : Text) → Option Text → Text
path_or dir None = dir
path_or dir (Some path) = path

abbrev pub behind_or : {A : Type 0} → (dir : Text) → Option (Listed A) → (place : ℕ) → Text
behind_or dir None place = dir
behind_or dir (Some listed) place = path_or dir (slice_get listed.behind.items place)

abbrev pub path_asked : {A : Type 0} → (dir : Text) → Place A → Ask → Text
path_asked dir (Making path) Make = path
path_asked dir (Clearing leaving) Clear = leaving
path_asked dir (At own listing) ReadOwn = own
path_asked dir (At own listing) (ReadBehind place) = behind_or dir listing place
path_asked dir (Leaving own) Leave = own
path_asked dir _ _ = dir

-- The call that asks it. Whatever it makes has its ACL, if it has one. A listing leaves no watch.
abbrev pub call_about : (acl : Option (List ℕ)) → (entry : Text) → (bytes : Option (List ℕ)) → (path : Text) → Ask → Call
call_about acl entry bytes path Make = create_with acl path None 0
call_about acl entry bytes path Enter = create_with acl entry bytes 3
call_about acl entry bytes path Fence = create_with acl path None 0
call_about acl entry bytes path Look = call.GetChildren path false
call_about acl entry bytes path Clear = call.Delete path (ℤ.negsuc 0)
call_about acl entry bytes path ReadOwn = call.GetData path true
call_about acl entry bytes path Lists = call.GetChildren path false
call_about acl entry bytes path (ReadBehind place) = call.GetData path true
call_about acl entry bytes path Leave = call.Delete path (ℤ.negsuc 0)

-- the ACL of what it makes, as it is spelled
abbrev pub acl_of : {A : Type 0} → LockContender A → Option (List ℕ)
acl_of contender = option_map (λ acl. acl.spelled.items) contender.acl

abbrev pub call_asked : {A : Type 0} → LockContender A → Ask → Call
call_asked contender ask =
    call_about (acl_of contender) contender.entry (option_map (λ v. v.items) contender.data)
    (path_asked contender.directory contender.place ask) ask
