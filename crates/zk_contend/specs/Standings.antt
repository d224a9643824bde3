-- How a contender stands, and what there is to tell of it.
use Rattle.std.specs.Prelude.{ℕ, zero, suc, ℤ, List, [], ◌∷◌, ◌≡◌, ◌⊎◌, Bool, true, false, ◌&&◌, not, Option, Some, None, is_some}
use Rattle.std.specs.Prelude.{if◌then◌else◌}
use Rattle.std.specs.List.{list_all}
use Rattle.std.specs.Ordering.{int_eq}
use Rattle.zk_nodes.specs.Path.{Text, Name, NodePath, path_of}
use Rattle.zk_nodes.specs.History.{Tree, History, tree_at}
use Rattle.zk_nodes.specs.declared.stat.Stat.{Stat}
use Rattle.zk_conversation.specs.Questions.{GetChildren}
use Rattle.zk_conversation.specs.Results.{Listing}
use Rattle.zk_turns.specs.Meaning.{Among}
use Rattle.zk_turns.specs.Past.{Took, Replies}
use Rattle.zk_turns.specs.Taken.{past_of}
use Rattle.zk_turns.specs.Turns.{Start, Item}
use Rattle.zk_turns.specs.View.{View}
use Rattle.zk_laws.specs.Messages.{from_zero}
use Rattle.zk_conclusions.specs.Numbers.{Kind}
use Rattle.zk_conclusions.specs.Seen.{IsEither, IsServedAt, tree_seen}
use Rattle.zk_conclusions.specs.Standings.{IsStanding, NumbersRise}
use Rattle.zk_contend.specs.declared.contender.LockContender.{LockContender}
use Rattle.zk_contend.specs.declared.listed.Listed.{Listed}
use Rattle.zk_contend.specs.declared.naming.Naming.{Naming}
use Rattle.zk_contend.specs.declared.place.Place.{Place}
use Rattle.zk_contend.specs.declared.place.Place.TheVariants.{At, Left}
use Rattle.zk_contend.specs.declared.refused.Refused.{Refused as Refused_one}
use Rattle.zk_contend.specs.declared.refused.Obstacle.{Obstacle}
use Rattle.zk_contend.specs.declared.refused.Obstacle.TheVariants.{Code, TooManyWatches, TooLarge, SessionClosed, NumbersUsedUp, MixedNames}
use Rattle.zk_contend.specs.declared.status.LockStatus.{LockStatus}
use Rattle.zk_contend.specs.declared.status.LockStatus.TheVariants.{Contends, Waits, Holds, Refused, GivenUp}
use Rattle.zk_contend.specs.Dues.{StandsAt}
use Rattle.zk_contend.specs.Leases.{IsLease, StandsBy}
use Rattle.zk_contend.specs.Namings.{is_foreign, is_mixed, kind_of_all, most_in}
use Rattle.zk_contend.specs.Places.{shows_node, shows_own}

abbrev pub is_holding : LockStatus → Bool
is_holding (Holds token) = true
is_holding _ = false

abbrev pub is_contending : LockStatus → Bool
is_contending Contends = true
is_contending _ = false

abbrev pub is_same_refusal : Obstacle → Obstacle → Bool
is_same_refusal (Code code) (Code other) = int_eq code other
is_same_refusal TooManyWatches TooManyWatches = true
is_same_refusal TooLarge TooLarge = true
is_same_refusal SessionClosed SessionClosed = true
is_same_refusal NumbersUsedUp NumbersUsedUp = true
is_same_refusal MixedNames MixedNames = true
is_same_refusal _ _ = false

abbrev pub is_same : LockStatus → LockStatus → Bool
is_same Waits Waits = true
is_same (Holds token) (Holds other) = int_eq token other
is_same (Refused why) (Refused other) = is_same_refusal why other
is_same GivenUp GivenUp = true
is_same _ _ = false

-- What there is to tell, if this was told last: not the same again, and that it contends only after that it holds.
abbrev pub news_of : (told stands : LockStatus) → Option LockStatus
news_of told stands =
    if is_contending stands && not (is_holding told) then None else (if is_same told stands then None else Some stands)

abbrev pub told_after : (told : LockStatus) → Option LockStatus → LockStatus
told_after told None = told
told_after told (Some news) = news

-- what was told last, if a refusal that was told is forgotten
abbrev pub without_refusal : LockStatus → LockStatus
without_refusal (Refused why) = Contends
without_refusal told = told

-- By what the client shows, the session holds by the contender's place, with this token.
abbrev pub HoldsIn : {A : Type 0} → View → LockContender A → Place A → (token : ℤ) → Type 0
HoldsIn view contender (At own (Some listed)) token = StandsAt view contender own listed token
HoldsIn view contender _ token = ⊥

abbrev pub ShowsContender : {A : Type 0} → View → LockContender A → (token : ℤ) → Type 0
ShowsContender view contender token = HoldsIn view contender contender.place token

-- It waits for these, by its listing, and each is watched.
abbrev pub waits_for : View → List Text → Bool
waits_for view [] = false
waits_for view (path ∷ behind) = list_all (shows_node view) (path ∷ behind)

abbrev pub waiting : Bool → LockStatus
waiting true = Waits
waiting false = Contends

abbrev pub standing_in : {A : Type 0} → View → Place A → LockStatus
standing_in view (At own (Some listed)) = waiting (waits_for view listed.behind.items)
standing_in view Left = GivenUp
standing_in view _ = Contends

-- given up, with no node left
abbrev pub is_left : {A : Type 0} → Place A → Bool
is_left Left = true
is_left _ = false

-- how it stands, where it does not hold: what was refused is of no matter once no node of it is there
abbrev pub otherwise_by : {A : Type 0} → View → Place A → Option Refused_one → LockStatus
otherwise_by view place None = standing_in view place
otherwise_by view place (Some refused) = if is_left place then standing_in view place else Refused refused.why

abbrev pub otherwise : {A : Type 0} → View → LockContender A → LockStatus
otherwise view contender = otherwise_by view contender.place contender.refused

-- What is told of it: that it holds, exactly where its client shows it, with this token.
abbrev pub TellsHeld : {A : Type 0} → View → LockContender A → LockStatus → Type 0
TellsHeld view contender (Holds token) = ShowsContender view contender token
TellsHeld view contender _ = (token : ℤ) → ¬ (ShowsContender view contender token)

-- else this
abbrev pub IsOtherwise : {A : Type 0} → View → LockContender A → LockStatus → Type 0
IsOtherwise view contender stands = (is_holding stands ≡ true) ⊎ (stands ≡ otherwise view contender)

-- The place is watched, and it does not hold.
pub record IsUnshown {A : Type 0} (view : View) (dir : Text) (naming : Naming) (own : Text) (listed : Listed A) : Type 0 where
  pub shown : shows_own view own ≡ true
  pub never : (token : ℤ) → ¬ (StandsBy view dir naming listed.names listed.zxid own token)

-- It waits for nobody by its listing, the place is watched, and yet it does not hold: its name has no number.
abbrev pub IsStuckAt : {A : Type 0} → View → (dir : Text) → Naming → (own : Text) → Listed A → Type 0
IsStuckAt view dir naming own listed = (listed.behind.items ≡ []) × IsUnshown view dir naming own listed

abbrev pub IsStuckBy : {A : Type 0} → View → (dir : Text) → Naming → (own : Text) → Option (Listed A) → Type 0
IsStuckBy view dir naming own None = ⊥
IsStuckBy view dir naming own (Some listed) = IsStuckAt view dir naming own listed

abbrev pub IsStuckIn : {A : Type 0} → View → (dir : Text) → Naming → Place A → Type 0
IsStuckIn view dir naming (At own listing) = IsStuckBy view dir naming own listing
IsStuckIn view dir naming _ = ⊥

-- A name of its listing is another family's.
abbrev pub is_mixed_in : {A : Type 0} → Naming → Place A → Bool
is_mixed_in naming (At own (Some listed)) = is_mixed naming listed.names
is_mixed_in naming _ = false

-- What is in its way by its listing: a name of another family, or else that its own has no number.
abbrev pub IsObstacle : {A : Type 0} → View → (dir : Text) → Naming → Place A → Obstacle → Type 0
IsObstacle view dir naming place MixedNames = is_mixed_in naming place ≡ true
IsObstacle view dir naming place NumbersUsedUp = (is_mixed_in naming place ≡ false) × IsStuckIn view dir naming place
IsObstacle view dir naming place _ = ⊥

-- Its listing is one that the client was answered.
abbrev pub HasHeard : {A : Type 0} → Start → List Item → (dir : Text) → Listed A → Type 0
HasHeard start items dir listed = (ticket : ℕ) × (watch : Bool) × (stat : Stat)
    × Among (Took (Replies ticket (GetChildren dir watch) listed.zxid (Listing listed.names stat))) (past_of start items)

-- Where one may hold at once, it stands first; where `most` may, fewer rivals than that are before it.
abbrev pub IsHolding : Tree → NodePath → Kind → (most : ℕ) → (path : NodePath) → (session token : ℤ) → Type 0
IsHolding tree dir kind (suc zero) path session token = IsStanding tree dir kind path session token
IsHolding tree dir kind most path session token = IsLease tree dir kind most path session token

-- No name below a directory is another family's.
abbrev pub IsUnmixedIn : Tree → NodePath → Naming → Type 0
IsUnmixedIn tree dir naming = (name : Name) → is_some (tree (name ∷ dir)) ≡ true → is_foreign naming name ≡ false

-- In the history it holds at the client's last seen zxid, beside all families; and at the zxid of its listing no other family's was there.
abbrev pub HoldsTruly : {A : Type 0} → History → View → LockContender A → (own : Text) → Listed A → (token : ℤ) → Type 0
HoldsTruly h view contender own listed token =
    IsHolding (tree_seen h view) (path_of contender.directory) (kind_of_all contender.naming) (most_in contender.naming) (path_of own)
    view.saved.session.session token
    × IsUnmixedIn (tree_at h (from_zero listed.zxid)) (path_of contender.directory) contender.naming

-- Where numbers rise with creation, and servers keep to the model at the directory and at the place, a contender that holds does so in the
-- history.
abbrev pub HeldIsTrue : (A : Type 0) → Type 0
HeldIsTrue A = (h : History) (view : View) (contender : LockContender A) (own : Text) (listed : Listed A) (token : ℤ)
    → (seen : IsServedAt (IsEither contender.directory own) h view) → contender.place ≡ At own (Some listed)
    → HasHeard seen.start seen.items contender.directory listed
    → NumbersRise h (path_of contender.directory) (kind_of_all contender.naming)
    → ShowsContender view contender token → HoldsTruly h view contender own listed token
