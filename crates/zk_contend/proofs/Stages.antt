-- Through all that happens to a contender, its nodes are those that its place says, and once it is given up it goes on until it has left.
use Rattle.std.proofs.Common.{ℕ, ℤ, ◌≡◌, inl, inr, Bool, true, false, List, [], ◌∷◌, Option, Some, None, string_bytes, is_some}
use Rattle.std.proofs.Common.{if◌then◌else◌, option_map, refl, sym, ap, subst, ◌∙◌, true≢false}
use Rattle.std.specs.List.{FoldsTo}
use Rattle.std.specs.Prelude.{⊤}
use Rattle.zk_nodes.specs.Path.{Text, Name}
use Rattle.zk_nodes.specs.PathFault.{fault_of}
use Rattle.zk_nodes.specs.declared.path_fault.PathFault.{PathFault}
use Rattle.zk_laws.proofs.Basics.{text_eq-true}
use Rattle.zk_records.specs.declared.event.Event.{Event}
use Rattle.zk_records.specs.declared.event.Event.TheVariants.{Created, Deleted, DataChanged, ChildrenChanged}
use Rattle.zk_conversation.specs.Results.{NoNode, Made, Read, Listing, Done}
use Rattle.zk_turns.specs.Turns.{Outcome, Replied}
use Rattle.zk_turns.specs.View.{View}
use Rattle.zk_contend.specs.declared.contender.LockContender.{LockContender}
use Rattle.zk_contend.specs.declared.listed.Listed.{Listed}
use Rattle.zk_contend.specs.declared.place.Ask.{Ask}
use Rattle.zk_contend.specs.declared.place.Ask.TheVariants.{Make, Enter, Fence, Look, Clear, ReadOwn, List as ListsAgain, ReadBehind, Leave}
use Rattle.zk_contend.specs.declared.place.Place.{Place}
use Rattle.zk_contend.specs.declared.place.Place.TheVariants.{Making, Entering, Unsure, Looking, Clearing, At, Leaving, Left}
use Rattle.zk_contend.specs.declared.naming.Naming.{Naming}
use Rattle.zk_contend.specs.declared.status.LockStatus.{LockStatus}
use Rattle.zk_contend.specs.Contenders.{beginning, closed, deleted, forgotten, given_up, is_at, is_behind, is_entering, leaves}
use Rattle.zk_contend.specs.Contenders.{noted, own_of, renewed, IsFresh, IsHeardAs, IsHeardOf}
use Rattle.zk_contend.specs.Dues.{IsDue, RestsIn, WantsBy, WantsIn, WantsNext}
use Rattle.zk_contend.specs.Nodes.{Nodes, AreNone, AreFewer, Deletes, Lists, Reads, ServesAsk, ServesAsked, Stage, Moment, Leads, Begins}
use Rattle.zk_contend.specs.Nodes.{Asks, HearsOne, Fails, Notes, GivesUp, Expires, Closes, Tells, NothingIsLeft, OneIsThere, GivenUpAsks}
use Rattle.zk_contend.specs.Hearing.{entered, entering, is_place, named_if, placed_as}
use Rattle.zk_contend.specs.Places.{path_in}
use Rattle.zk_contend.specs.Settling.{cleared, fenced, left_by, lost, moved, unlisted, is_unread_by, Becomes, Hears, IsListed}
use Rattle.zk_contend.specs.Settling.{IsListedAt, IsLooked, IsSettled}
use Rattle.zk_contend.proofs.Covers.{Covers, covers_fewer, made_covers, entered_covers, fenced_covers, looked_covers, cleared_covers}
use Rattle.zk_contend.proofs.Covers.{own_covers, left_covers}

-- the place is to be made
abbrev pub is_to_enter : {A : Type 0} → Place A → Bool
is_to_enter Entering = true
is_to_enter _ = false

-- ---- what servers do with other calls than a create of the place

deletes_fewer : (path : Text) (outcome : Outcome) (old new : Nodes) → Deletes path outcome old new → AreFewer old new
deletes_fewer path (Replied zxid Done) old new deletes = deletes.fewer
deletes_fewer path (Replied zxid NoNode) old new deletes = deletes.fewer
deletes_fewer path (Replied zxid _) old new deletes = deletes
deletes_fewer path _ old new deletes = deletes

lists_fewer : (dir : Text) (front : Name) (outcome : Outcome) (old new : Nodes) → Lists dir front outcome old new → AreFewer old new
lists_fewer dir front (Replied zxid (Listing names stat)) old new lists = lists.1
lists_fewer dir front (Replied zxid NoNode) old new lists = lists.1
lists_fewer dir front (Replied zxid _) old new lists = lists
lists_fewer dir front _ old new lists = lists

reads_fewer : (session : ℤ) (path : Text) (outcome : Outcome) (old new : Nodes) → Reads session path outcome old new → AreFewer old new
reads_fewer session path (Replied zxid (Read bytes stat)) old new reads = reads.1
reads_fewer session path (Replied zxid NoNode) old new reads = reads.1
reads_fewer session path (Replied zxid _) old new reads = reads
reads_fewer session path _ old new reads = reads

serves_fewer : {A : Type 0} (session : ℤ) (dir : Text) (front : Name) (place : Place A) (ask : Ask) (outcome : Outcome) (old new : Nodes)
    → is_entering (Some ask) ≡ false → ServesAsk session dir front place ask outcome old new → AreFewer old new
serves_fewer session dir front place Make outcome old new is serves = serves
serves_fewer session dir front place Fence outcome old new is serves = serves
serves_fewer session dir front place (ReadBehind at) outcome old new is serves = serves
serves_fewer session dir front place Enter outcome old new is serves = absurd (true≢false is)
serves_fewer session dir front place Look outcome old new is serves = lists_fewer dir front outcome old new serves
serves_fewer session dir front place ListsAgain outcome old new is serves = lists_fewer dir front outcome old new serves
serves_fewer session dir front place Clear outcome old new is serves = deletes_fewer _ outcome old new serves
serves_fewer session dir front place Leave outcome old new is serves = deletes_fewer _ outcome old new serves
serves_fewer session dir front place ReadOwn outcome old new is serves = reads_fewer session _ outcome old new serves

-- ---- answers

still_covers : {A : Type 0} (place : Place A) (old new : Nodes) (next : Option (Place A)) → Covers old place → AreFewer old new
    → next ≡ None → Covers new (moved place next)
still_covers {A} place old new next covers fewer e =
    subst (λ (n : Option (Place A)). Covers new (moved place n)) (sym e) (covers_fewer place old new fewer covers)

next_covers : {A : Type 0} (place : Place A) (new : Nodes) (next is : Option (Place A)) → next ≡ is → Covers new (moved place is)
    → Covers new (moved place next)
next_covers {A} place new next is e covers = subst (λ (n : Option (Place A)). Covers new (moved place n)) (sym e) covers

becomes_covers : {A : Type 0} (session : ℤ) (contender : LockContender A) (place : Place A) (ask : Ask) (outcome : Outcome)
    (old new : Nodes) (next : Option (Place A)) → Covers old place → (is_entering (Some ask) ≡ true → is_to_enter place ≡ true)
    → ServesAsk session contender.directory (string_bytes contender.front) place ask outcome old new
    → Becomes session contender place ask outcome next → Covers new (moved place next)
becomes_covers {A} session contender (Making path) Make outcome old new next covers enters serves is =
    next_covers _ new next _ is
    (made_covers _ new contender.directory path outcome (covers_fewer {A = A} (Making path) old new serves covers))
becomes_covers session contender Entering Enter outcome old new next covers enters serves is =
    next_covers _ new next _ is (entered_covers _ old new contender.directory (string_bytes contender.front) contender.is_given_up outcome
    covers serves)
becomes_covers session contender place Enter outcome old new next covers enters serves is = absurd (true≢false (sym (enters refl)))
becomes_covers session contender Unsure Fence outcome old new next covers enters serves is =
    next_covers _ new next _ is (fenced_covers _ new outcome)
becomes_covers session contender (Looking answered) Look outcome old new next covers enters serves is =
    looked_covers old new contender.directory (string_bytes contender.front) contender.is_given_up answered outcome next is serves
becomes_covers session contender (Clearing leaving) Clear outcome old new next covers enters serves is =
    next_covers _ new next _ is (cleared_covers _ new leaving outcome)
becomes_covers session contender (At own listing) ReadOwn outcome old new next covers enters serves is =
    next_covers _ new next _ is (own_covers old new own listing session outcome covers serves)
becomes_covers session contender (Leaving own) Leave outcome old new next covers enters serves is =
    next_covers _ new next _ is (left_covers _ old new own outcome covers serves)
becomes_covers session contender place ask outcome old new next covers enters serves is =
    still_covers place old new next covers
    (serves_fewer session contender.directory (string_bytes contender.front) place ask outcome old new refl serves) is

lost_covers : {A : Type 0} (place : Place A) (old new : Nodes) → Covers old place → AreNone old → AreFewer old new → Covers new (lost place)
lost_covers (At own listing) old new covers none fewer = λ path there. none path (fewer path there)
lost_covers {A} (Making path) old new covers none fewer = covers_fewer {A = A} (Making path) old new fewer covers
lost_covers {A} Entering old new covers none fewer = covers_fewer {A = A} Entering old new fewer covers
lost_covers Unsure old new covers none fewer = tt
lost_covers (Looking answered) old new covers none fewer = tt
lost_covers (Clearing leaving) old new covers none fewer = tt
lost_covers {A} (Leaving own) old new covers none fewer = covers_fewer {A = A} (Leaving own) old new fewer covers
lost_covers {A} Left old new covers none fewer = covers_fewer {A = A} Left old new fewer covers

same_covers : {A : Type 0} (place next : Place A) (old new : Nodes) → Covers old place → AreFewer old new → next ≡ place → Covers new next
same_covers {A} place next old new covers fewer e =
    subst (λ (p : Place A). Covers new p) (sym e) (covers_fewer place old new fewer covers)

listed_at_covers : {A : Type 0} (dir : Text) (naming : Naming) (names : List Name) (zxid : ℤ) (place next : Place A) (old new : Nodes)
    → Covers old place → AreFewer old new → IsListedAt dir naming names zxid place next → Covers new next
listed_at_covers {A} dir naming names zxid (At own listing) next old new covers fewer is =
    subst (λ (p : Place A). Covers new p) (sym is.1)
    (covers_fewer (At own (Some is.0)) old new fewer covers)
listed_at_covers dir naming names zxid place next old new covers fewer is = same_covers place next old new covers fewer is

listed_covers : {A : Type 0} (dir at : Text) (front : Name) (naming : Naming) (outcome : Outcome) (place next : Place A) (old new : Nodes)
    → Covers old place → Lists at front outcome old new → IsListed dir naming outcome place next → Covers new next
listed_covers dir at front naming (Replied zxid (Listing names stat)) place next old new covers lists is =
    listed_at_covers dir naming names zxid place next old new covers lists.1 is
listed_covers {A} dir at front naming (Replied zxid NoNode) place next old new covers lists is =
    subst (λ (p : Place A). Covers new p) (sym is) (lost_covers place old new covers lists.0 lists.1)
listed_covers dir at front naming (Replied zxid _) place next old new covers lists is = same_covers place next old new covers lists is
listed_covers dir at front naming _ place next old new covers lists is = same_covers place next old new covers lists is

unlisted_covers : {A : Type 0} (nodes : Nodes) (place : Place A) → Covers nodes place → Covers nodes (unlisted place)
unlisted_covers nodes (At own listing) covers = covers
unlisted_covers nodes (Making path) covers = covers
unlisted_covers nodes Entering covers = covers
unlisted_covers nodes Unsure covers = covers
unlisted_covers nodes (Looking answered) covers = covers
unlisted_covers nodes (Clearing leaving) covers = covers
unlisted_covers nodes (Leaving own) covers = covers
unlisted_covers nodes Left covers = covers

either_covers : {A : Type 0} (nodes : Nodes) (place : Place A) (is : Bool) → Covers nodes place
    → Covers nodes (if is then unlisted place else place)
either_covers nodes place true covers = unlisted_covers nodes place covers
either_covers nodes place false covers = covers

pub heard_covers : {A : Type 0} (session : ℤ) (contender : LockContender A) (ask : Ask) (outcome : Outcome) (old new : Nodes)
    (next : Place A) → Covers old contender.place → (is_entering (Some ask) ≡ true → is_to_enter contender.place ≡ true)
    → ServesAsk session contender.directory (string_bytes contender.front) contender.place ask outcome old new
    → Hears session contender ask outcome next → Covers new next
heard_covers session contender ListsAgain outcome old new next covers enters serves hears =
    listed_covers contender.directory contender.directory (string_bytes contender.front) contender.naming outcome
    contender.place next old new covers serves hears
heard_covers {A} session contender (ReadBehind at) outcome old new next covers enters serves hears =
    subst (λ (p : Place A). Covers new p) (sym hears)
    (either_covers new contender.place (is_unread_by outcome) (covers_fewer contender.place old new serves covers))
heard_covers {A} session contender ask outcome old new next covers enters serves hears =
    subst (λ (p : Place A). Covers new p) (sym hears.2)
    (becomes_covers session contender contender.place ask outcome old new hears.0 covers enters serves hears.1)

-- ---- one that is given up

-- Where a contender that is given up may be: a create of its place may be under way.
abbrev pub MayStay : {A : Type 0} → Option Ask → Place A → Type 0
MayStay asked (Making path) = ⊥
MayStay asked Entering = is_entering asked ≡ true
MayStay asked (At own listing) = ⊥
MayStay asked _ = ⊤

clearing_stays : (A : Type 0) (answered : ℤ) (path : Option Text)
    → MayStay {A = A} None (moved (Looking answered) (option_map Clearing path))
clearing_stays A answered None = tt
clearing_stays A answered (Some path) = tt

settled_stays : {A : Type 0} (dir : Text) (front : Name) (answered zxid : ℤ) (names : List Name) (next : Option (Place A))
    → IsSettled dir front true answered names zxid next → MayStay None (moved (Looking answered) next)
settled_stays {A} dir front answered zxid names next (inl early) =
    subst (λ (n : Option (Place A)). MayStay None (moved (Looking answered) n)) (sym early.1) tt
settled_stays {A} dir front answered zxid names next (inr (inl none)) =
    subst (λ (n : Option (Place A)). MayStay None (moved (Looking answered) n)) (sym none.1) tt
settled_stays {A} dir front answered zxid names next (inr (inr (least, is, found))) =
    subst (λ (n : Option (Place A)). MayStay None (moved (Looking answered) n)) (sym found) (clearing_stays _ answered (path_in dir least))

next_stays : {A : Type 0} (place : Place A) (next is : Option (Place A)) → next ≡ is → MayStay None (moved place is)
    → MayStay None (moved place next)
next_stays {A} place next is e stays = subst (λ (n : Option (Place A)). MayStay None (moved place n)) (sym e) stays

looked_stays : {A : Type 0} (dir : Text) (front : Name) (answered : ℤ) (outcome : Outcome) (next : Option (Place A))
    → IsLooked dir front true answered outcome next → MayStay None (moved (Looking answered) next)
looked_stays dir front answered (Replied zxid (Listing names stat)) next is = settled_stays dir front answered zxid names next is
looked_stays dir front answered (Replied zxid NoNode) next is = next_stays (Looking answered) next _ is tt
looked_stays dir front answered (Replied zxid _) next is = next_stays (Looking answered) next _ is tt
looked_stays dir front answered _ next is = next_stays (Looking answered) next _ is tt

named_stays : (A : Type 0) (text : Text) (fault : Option PathFault) (is : Bool)
    → MayStay {A = A} None (placed_as true (named_if is text fault))
named_stays A text (Some why) is = tt
named_stays A text None false = tt
named_stays A text None true = tt

entered_stays : (A : Type 0) (dir : Text) (front : Name) (outcome : Outcome)
    → MayStay {A = A} None (moved Entering (entered dir front true outcome))
entered_stays A dir front (Replied zxid (Made text)) = named_stays _ text (fault_of text) (is_place dir front text)
entered_stays A dir front (Replied zxid _) = tt
entered_stays A dir front _ = tt

fenced_stays : (A : Type 0) (outcome : Outcome) → MayStay {A = A} None (moved Unsure (fenced outcome))
fenced_stays A (Replied zxid result) = tt
fenced_stays A _ = tt

cleared_stays : (A : Type 0) (leaving : Text) (outcome : Outcome) → MayStay {A = A} None (moved (Clearing leaving) (cleared outcome))
cleared_stays A leaving (Replied zxid Done) = tt
cleared_stays A leaving (Replied zxid NoNode) = tt
cleared_stays A leaving (Replied zxid _) = tt
cleared_stays A leaving _ = tt

left_stays : (A : Type 0) (own : Text) (outcome : Outcome) → MayStay {A = A} None (moved (Leaving own) (left_by outcome))
left_stays A own (Replied zxid Done) = tt
left_stays A own (Replied zxid NoNode) = tt
left_stays A own (Replied zxid _) = tt
left_stays A own _ = tt

becomes_stays : {A : Type 0} (session : ℤ) (contender : LockContender A) (place : Place A) (ask : Ask) (outcome : Outcome)
    (next : Option (Place A)) → contender.is_given_up ≡ true → MayStay (Some ask) place
    → Becomes session contender place ask outcome next → MayStay None (moved place next)
becomes_stays session contender (Making path) ask outcome next given stays is = absurd stays
becomes_stays session contender (At own listing) ask outcome next given stays is = absurd stays
becomes_stays {A} session contender Entering Enter outcome next given stays is =
    next_stays Entering next _ is (subst (λ (g : Bool). MayStay {A = A} None (moved Entering (entered contender.directory
    (string_bytes contender.front) g outcome))) (sym given) (entered_stays _ contender.directory (string_bytes contender.front) outcome))
becomes_stays session contender Entering ask outcome next given stays is = absurd (true≢false (sym stays))
becomes_stays session contender Unsure Fence outcome next given stays is = next_stays Unsure next _ is (fenced_stays _ outcome)
becomes_stays {A} session contender (Looking answered) Look outcome next given stays is =
    looked_stays contender.directory (string_bytes contender.front) answered outcome next
    (subst (λ (g : Bool). IsLooked contender.directory (string_bytes contender.front) g answered outcome next) given is)
becomes_stays session contender (Clearing leaving) Clear outcome next given stays is =
    next_stays (Clearing leaving) next _ is (cleared_stays _ leaving outcome)
becomes_stays session contender (Leaving own) Leave outcome next given stays is =
    next_stays (Leaving own) next _ is (left_stays _ own outcome)
becomes_stays session contender place ask outcome next given stays is = next_stays place next None is stays

kept_stays : {A : Type 0} (ask : Ask) (place next : Place A) → is_entering (Some ask) ≡ false → MayStay (Some ask) place → next ≡ place
    → MayStay None next
kept_stays {A} ask place next other stays e = subst (λ (p : Place A). MayStay None p) (sym e) (without ask place other stays)
  where
    without : (ask : Ask) (place : Place A) → is_entering (Some ask) ≡ false → MayStay (Some ask) place → MayStay None place
    without ask (Making path) other stays = absurd stays
    without ask (At own listing) other stays = absurd stays
    without ask Entering other stays = absurd (true≢false (sym stays ∙ other))
    without ask Unsure other stays = tt
    without ask (Looking answered) other stays = tt
    without ask (Clearing leaving) other stays = tt
    without ask (Leaving own) other stays = tt
    without ask Left other stays = tt

lost_same : {A : Type 0} (ask : Ask) (place : Place A) → MayStay (Some ask) place → lost place ≡ place
lost_same ask (At own listing) stays = absurd stays
lost_same ask (Making path) stays = refl
lost_same ask Entering stays = refl
lost_same ask Unsure stays = refl
lost_same ask (Looking answered) stays = refl
lost_same ask (Clearing leaving) stays = refl
lost_same ask (Leaving own) stays = refl
lost_same ask Left stays = refl

unlisted_same : {A : Type 0} (ask : Ask) (place : Place A) (is : Bool) → MayStay (Some ask) place
    → (if is then unlisted place else place) ≡ place
unlisted_same ask place false stays = refl
unlisted_same ask (At own listing) true stays = absurd stays
unlisted_same ask (Making path) true stays = refl
unlisted_same ask Entering true stays = refl
unlisted_same ask Unsure true stays = refl
unlisted_same ask (Looking answered) true stays = refl
unlisted_same ask (Clearing leaving) true stays = refl
unlisted_same ask (Leaving own) true stays = refl
unlisted_same ask Left true stays = refl

listed_same : {A : Type 0} (dir : Text) (naming : Naming) (names : List Name) (zxid : ℤ) (ask : Ask) (place next : Place A)
    → MayStay (Some ask) place → IsListedAt dir naming names zxid place next → next ≡ place
listed_same dir naming names zxid ask (At own listing) next stays is = absurd stays
listed_same dir naming names zxid ask place next stays is = is

names_same : {A : Type 0} (dir : Text) (naming : Naming) (ask : Ask) (outcome : Outcome) (place next : Place A)
    → MayStay (Some ask) place → IsListed dir naming outcome place next → next ≡ place
names_same dir naming ask (Replied zxid (Listing names stat)) place next stays is = listed_same dir naming names zxid ask place next
    stays is
names_same dir naming ask (Replied zxid NoNode) place next stays is = is ∙ lost_same ask place stays
names_same dir naming ask (Replied zxid _) place next stays is = is
names_same dir naming ask _ place next stays is = is

pub heard_stays : {A : Type 0} (session : ℤ) (contender : LockContender A) (ask : Ask) (outcome : Outcome) (next : Place A)
    → contender.is_given_up ≡ true → MayStay (Some ask) contender.place → Hears session contender ask outcome next → MayStay None next
heard_stays session contender ListsAgain outcome next given stays hears =
    kept_stays ListsAgain contender.place next refl stays
    (names_same contender.directory contender.naming ListsAgain outcome contender.place next stays hears)
heard_stays session contender (ReadBehind at) outcome next given stays hears =
    kept_stays (ReadBehind at) contender.place next refl stays
    (hears ∙ unlisted_same (ReadBehind at) contender.place (is_unread_by outcome) stays)
heard_stays {A} session contender ask outcome next given stays hears =
    subst (λ (p : Place A). MayStay None p) (sym hears.2)
    (becomes_stays session contender contender.place ask outcome hears.0 given stays hears.1)

-- ---- all that happens

-- what is so of a contender and its nodes at each stage
pub record IsKept {A : Type 0} (nodes : Nodes) (contender : LockContender A) : Type 0 where
  pub covers : Covers nodes contender.place
  pub enters : is_entering contender.asked ≡ true → is_to_enter contender.place ≡ true
  pub stays : contender.is_given_up ≡ true → MayStay contender.asked contender.place

begins_place : (A : Type 0) (nodes : Nodes) (may_be_there : Bool) → (may_be_there ≡ false → AreNone nodes)
    → Covers {A = A} nodes (beginning may_be_there)
begins_place A nodes true none = tt
begins_place A nodes false none = none refl

begins_kept : {A : Type 0} (nodes : Nodes) (contender : LockContender A) (dir : Text) (naming : Naming) (guid : Name) (may_be_there : Bool)
    → IsFresh dir naming guid may_be_there contender → (may_be_there ≡ false → AreNone nodes) → IsKept nodes contender
begins_kept {A} nodes contender dir naming guid may_be_there fresh none = record {
  covers = subst (λ (p : Place A). Covers nodes p) (sym fresh.place) (begins_place _ nodes may_be_there none);
  enters = λ e. absurd (true≢false (sym e ∙ ap is_entering fresh.asked));
  stays = λ g. absurd (true≢false (sym g ∙ fresh.stays));
}

never_enters : {A : Type 0} (view : View) (contender : LockContender A) (own : Text) (listed : Listed A) (behind : List Text)
    → WantsBy view contender own listed behind Enter → ⊥
never_enters view contender own listed [] wants = wants
never_enters view contender own listed (path ∷ behind) wants = wants

never_next : {A : Type 0} (view : View) (contender : LockContender A) (own : Text) (listing : Option (Listed A))
    → WantsNext view contender own listing Enter → ⊥
never_next view contender own None wants = wants
never_next view contender own (Some listed) wants = never_enters view contender own listed listed.behind.items wants

wants_enter : {A : Type 0} (view : View) (contender : LockContender A) (place : Place A)
    → WantsIn view contender place Enter → is_to_enter place ≡ true
wants_enter view contender Entering wants = refl
wants_enter view contender (At own listing) wants = absurd (never_next view contender own listing wants.1)
wants_enter view contender (Making path) wants = absurd wants
wants_enter view contender Unsure wants = absurd wants
wants_enter view contender (Looking answered) wants = absurd wants
wants_enter view contender (Clearing leaving) wants = absurd wants
wants_enter view contender (Leaving own) wants = absurd wants
wants_enter view contender Left wants = absurd wants

due_enters : {A : Type 0} (view : View) (contender : LockContender A) (place : Place A) (ask : Ask)
    → WantsIn view contender place ask → is_entering (Some ask) ≡ true → is_to_enter place ≡ true
due_enters view contender place Enter wants e = wants_enter view contender place wants
due_enters view contender place ask wants e = absurd (true≢false (sym e))

not_asked : (asked : Option Ask) → is_some asked ≡ false → is_entering asked ≡ true → ⊥
not_asked None none e = absurd (true≢false (sym e))
not_asked (Some ask) none e = absurd (true≢false none)

asked_stays : {A : Type 0} (asked : Option Ask) (ask : Ask) (place : Place A) → is_some asked ≡ false → MayStay asked place
    → MayStay (Some ask) place
asked_stays asked ask (Making path) none stays = absurd stays
asked_stays asked ask (At own listing) none stays = absurd stays
asked_stays asked ask Entering none stays = absurd (not_asked asked none stays)
asked_stays asked ask Unsure none stays = tt
asked_stays asked ask (Looking answered) none stays = tt
asked_stays asked ask (Clearing leaving) none stays = tt
asked_stays asked ask (Leaving own) none stays = tt
asked_stays asked ask Left none stays = tt

asks_kept : {A : Type 0} (old new : Nodes) (contender : LockContender A) (view : View) (now : ℕ) (ask : Ask)
    → IsDue view now contender ask → AreFewer old new → IsKept old contender → IsKept new (record contender { asked = Some ask })
asks_kept old new contender view now ask due fewer kept = record {
  covers = covers_fewer contender.place old new fewer kept.covers;
  enters = λ e. due_enters view contender contender.place ask due.3 e;
  stays = λ g. asked_stays contender.asked ask contender.place due.0 (kept.stays g);
}

fewer_kept : {A : Type 0} (old new : Nodes) (contender : LockContender A) → AreFewer old new → IsKept old contender → IsKept new contender
fewer_kept old new contender fewer kept = record {
  covers = covers_fewer contender.place old new fewer kept.covers;
  enters = kept.enters;
  stays = kept.stays;
}

heard_kept : {A : Type 0} (old new : Nodes) (contender next : LockContender A) (view : View) (now : ℕ) (ask : Ask) (outcome : Outcome)
    → contender.asked ≡ Some ask → IsHeardOf view now ask outcome contender next
    → ServesAsk view.saved.session.session contender.directory (string_bytes contender.front) contender.place ask outcome old new
    → IsKept old contender → IsKept new next
heard_kept {A} old new contender next view now ask outcome asked heard serves kept =
    subst (λ (c : LockContender A). IsKept new c) (sym heard.is) (record {
      covers = heard_covers view.saved.session.session contender ask outcome old new next.place kept.covers
          (λ e. kept.enters (ap is_entering asked ∙ e)) serves heard.hears;
      enters = λ e. absurd (true≢false (sym e));
      stays = λ g. heard_stays view.saved.session.session contender ask outcome next.place g
          (subst (λ (a : Option Ask). MayStay a contender.place) asked (kept.stays g)) heard.hears;
    })

hears_kept : {A : Type 0} (old new : Nodes) (contender next : LockContender A) (view : View) (now : ℕ) (asked : Option Ask)
    (outcome : Outcome) → contender.asked ≡ asked → IsHeardAs view now asked outcome contender next
    → ServesAsked view.saved.session.session contender asked outcome old new
    → IsKept old contender → IsKept new next
hears_kept {A} old new contender next view now None outcome is heard serves kept =
    subst (λ (c : LockContender A). IsKept new c) (sym heard) (fewer_kept old new contender serves kept)
hears_kept old new contender next view now (Some ask) outcome is heard serves kept =
    heard_kept old new contender next view now ask outcome is heard serves kept

forgotten_kept : {A : Type 0} (new : Nodes) (contender : LockContender A) → IsKept new (forgotten contender)
forgotten_kept new contender = record { covers = tt; enters = λ e. absurd (true≢false (sym e)); stays = λ g. tt }

-- ---- reports

lost_here : {A : Type 0} (old new : Nodes) (path : Text) (place : Place A) → is_at path place ≡ true → old path ≡ false → AreFewer old new
    → Covers old place → Covers new (lost place)
lost_here old new path (At own listing) at gone fewer covers =
    λ other there. let same : path ≡ own = text_eq-true path own at in
    absurd (true≢false (sym (fewer other there) ∙ ap old (covers other (fewer other there) ∙ sym same) ∙ gone))
lost_here old new path (Making above) at gone fewer covers = absurd (true≢false (sym at))
lost_here old new path Entering at gone fewer covers = absurd (true≢false (sym at))
lost_here old new path Unsure at gone fewer covers = absurd (true≢false (sym at))
lost_here old new path (Looking answered) at gone fewer covers = absurd (true≢false (sym at))
lost_here old new path (Clearing leaving) at gone fewer covers = absurd (true≢false (sym at))
lost_here old new path (Leaving own) at gone fewer covers = absurd (true≢false (sym at))
lost_here old new path Left at gone fewer covers = absurd (true≢false (sym at))

either_deleted : {A : Type 0} (old new : Nodes) (path : Text) (place : Place A) (at behind : Bool) → at ≡ is_at path place
    → old path ≡ false → AreFewer old new → Covers old place
    → Covers new (if at then lost place else (if behind then unlisted place else place))
either_deleted old new path place true behind is gone fewer covers = lost_here old new path place (sym is) gone fewer covers
either_deleted old new path place false behind is gone fewer covers =
    either_covers new place behind (covers_fewer place old new fewer covers)

-- a place that is to be made stays so
deleted_enters : {A : Type 0} (path : Text) (place : Place A) → is_to_enter place ≡ true → is_to_enter (deleted path place) ≡ true
deleted_enters path Entering e = refl
deleted_enters path (At own listing) e = absurd (true≢false (sym e))
deleted_enters path (Making above) e = absurd (true≢false (sym e))
deleted_enters path Unsure e = absurd (true≢false (sym e))
deleted_enters path (Looking answered) e = absurd (true≢false (sym e))
deleted_enters path (Clearing leaving) e = absurd (true≢false (sym e))
deleted_enters path (Leaving own) e = absurd (true≢false (sym e))
deleted_enters path Left e = absurd (true≢false (sym e))

deleted_stays : {A : Type 0} (asked : Option Ask) (path : Text) (place : Place A) → MayStay asked place → MayStay asked (deleted path place)
deleted_stays asked path (At own listing) stays = absurd stays
deleted_stays asked path (Making above) stays = absurd stays
deleted_stays asked path Entering stays = stays
deleted_stays asked path Unsure stays = tt
deleted_stays asked path (Looking answered) stays = tt
deleted_stays asked path (Clearing leaving) stays = tt
deleted_stays asked path (Leaving own) stays = tt
deleted_stays asked path Left stays = tt

noted_kept : {A : Type 0} (old new : Nodes) (contender : LockContender A) (path : Text) (event : Event)
    → (event ≡ Deleted → old path ≡ false) → AreFewer old new → IsKept old contender → IsKept new (noted path event contender)
noted_kept old new contender path Deleted gone fewer kept = record {
  covers = either_deleted old new path contender.place (is_at path contender.place) (is_behind path contender.place) refl (gone refl)
      fewer kept.covers;
  enters = λ e. deleted_enters path contender.place (kept.enters e);
  stays = λ g. deleted_stays contender.asked path contender.place (kept.stays g);
}
noted_kept old new contender path Created gone fewer kept = fewer_kept old new contender fewer kept
noted_kept old new contender path DataChanged gone fewer kept = fewer_kept old new contender fewer kept
noted_kept old new contender path ChildrenChanged gone fewer kept = fewer_kept old new contender fewer kept

-- ---- inputs

kept_entering : (A : Type 0) (nodes : Nodes) (is : Bool) → AreNone nodes → Covers {A = A} nodes (if is then Entering else Left)
kept_entering A nodes true none = none
kept_entering A nodes false none = none

leaves_covers : {A : Type 0} (nodes : Nodes) (asked : Option Ask) (place : Place A) → Covers nodes place → Covers nodes (leaves asked place)
leaves_covers nodes asked (Making path) covers = covers
leaves_covers nodes asked Entering covers = kept_entering _ nodes (is_entering asked) covers
leaves_covers nodes asked Unsure covers = tt
leaves_covers nodes asked (Looking answered) covers = tt
leaves_covers nodes asked (Clearing leaving) covers = tt
leaves_covers nodes asked (At own listing) covers = covers
leaves_covers nodes asked (Leaving own) covers = covers
leaves_covers nodes asked Left covers = covers

if_enters : (A : Type 0) (is : Bool) → is ≡ true → is_to_enter {A = A} (if is then Entering else Left) ≡ true
if_enters A true e = refl
if_enters A false e = absurd (true≢false (sym e))

leaves_enters : {A : Type 0} (asked : Option Ask) (place : Place A) → is_entering asked ≡ true → is_to_enter place ≡ true
    → is_to_enter (leaves asked place) ≡ true
leaves_enters asked Entering is e = if_enters _ (is_entering asked) is
leaves_enters asked (At own listing) is e = absurd (true≢false (sym e))
leaves_enters asked (Making above) is e = absurd (true≢false (sym e))
leaves_enters asked Unsure is e = absurd (true≢false (sym e))
leaves_enters asked (Looking answered) is e = absurd (true≢false (sym e))
leaves_enters asked (Clearing leaving) is e = absurd (true≢false (sym e))
leaves_enters asked (Leaving own) is e = absurd (true≢false (sym e))
leaves_enters asked Left is e = absurd (true≢false (sym e))

if_stays : (A : Type 0) (asked : Option Ask) (is : Bool) → is ≡ is_entering asked → MayStay {A = A} asked (if is then Entering else Left)
if_stays A asked true is = sym is
if_stays A asked false is = tt

leaves_stays : {A : Type 0} (asked : Option Ask) (place : Place A) → MayStay asked (leaves asked place)
leaves_stays asked (Making path) = tt
leaves_stays asked Entering = if_stays _ asked (is_entering asked) refl
leaves_stays asked Unsure = tt
leaves_stays asked (Looking answered) = tt
leaves_stays asked (Clearing leaving) = tt
leaves_stays asked (At own listing) = tt
leaves_stays asked (Leaving own) = tt
leaves_stays asked Left = tt

given_up_kept : {A : Type 0} (old new : Nodes) (contender : LockContender A) → AreFewer old new → IsKept old contender
    → IsKept new (given_up contender)
given_up_kept old new contender fewer kept = record {
  covers = leaves_covers new contender.asked contender.place (covers_fewer contender.place old new fewer kept.covers);
  enters = λ e. leaves_enters contender.asked contender.place e (kept.enters e);
  stays = λ g. leaves_stays contender.asked contender.place;
}

renewed_covers : (A : Type 0) (nodes : Nodes) (is_given_up : Bool) → AreNone nodes → Covers {A = A} nodes (entering is_given_up)
renewed_covers A nodes true none = none
renewed_covers A nodes false none = none

renewed_stays : (A : Type 0) (is_given_up : Bool) → is_given_up ≡ true → MayStay {A = A} None (entering is_given_up)
renewed_stays A true e = tt
renewed_stays A false e = absurd (true≢false (sym e))

renewed_kept : {A : Type 0} (new : Nodes) (contender : LockContender A) → AreNone new → IsKept new (renewed contender)
renewed_kept new contender none = record {
  covers = renewed_covers _ new contender.is_given_up none;
  enters = λ e. absurd (true≢false (sym e));
  stays = λ g. renewed_stays _ contender.is_given_up g;
}

closed_kept : {A : Type 0} (new : Nodes) (contender : LockContender A) → AreNone new → IsKept new (closed contender)
closed_kept new contender none = record { covers = none; enters = λ e. absurd (true≢false (sym e)); stays = λ g. tt }

told_kept : {A : Type 0} (old new : Nodes) (contender : LockContender A) (stands : LockStatus) → AreFewer old new → IsKept old contender
    → IsKept new (record contender { told = stands })
told_kept old new contender stands fewer kept = record {
  covers = covers_fewer contender.place old new fewer kept.covers;
  enters = kept.enters;
  stays = kept.stays;
}

leads_kept : {A : Type 0} (old new : Stage A) (moment : Moment) → Leads old moment new → IsKept old.nodes old.contender
    → IsKept new.nodes new.contender
leads_kept {A} old new (Asks view now ask) leads kept =
    subst (λ (c : LockContender A). IsKept new.nodes c) (sym leads.1)
    (asks_kept old.nodes new.nodes old.contender view now ask leads.0 leads.2 kept)
leads_kept old new (HearsOne view now outcome) leads kept =
    hears_kept old.nodes new.nodes old.contender new.contender view now old.contender.asked outcome refl leads.0 leads.1 kept
leads_kept {A} old new (Fails view outcome) leads kept =
    subst (λ (c : LockContender A). IsKept new.nodes c) (sym leads.0) (forgotten_kept new.nodes old.contender)
leads_kept {A} old new (Notes path event) leads kept =
    subst (λ (c : LockContender A). IsKept new.nodes c) (sym leads.0)
    (noted_kept old.nodes new.nodes old.contender path event leads.1 leads.2 kept)
leads_kept {A} old new GivesUp leads kept =
    subst (λ (c : LockContender A). IsKept new.nodes c) (sym leads.0) (given_up_kept old.nodes new.nodes old.contender leads.1 kept)
leads_kept {A} old new Expires leads kept =
    subst (λ (c : LockContender A). IsKept new.nodes c) (sym leads.0) (renewed_kept new.nodes old.contender leads.1)
leads_kept {A} old new Closes leads kept =
    subst (λ (c : LockContender A). IsKept new.nodes c) (sym leads.0) (closed_kept new.nodes old.contender leads.1)
leads_kept {A} old new (Tells stands) leads kept =
    subst (λ (c : LockContender A). IsKept new.nodes c) (sym leads.0) (told_kept old.nodes new.nodes old.contender stands leads.1 kept)

all_kept : {A : Type 0} (first last : Stage A) (moments : List Moment) → IsKept first.nodes first.contender
    → FoldsTo Leads first moments last → IsKept last.nodes last.contender
all_kept {A} first last [] kept same = subst (λ (s : Stage A). IsKept s.nodes s.contender) same kept
all_kept first last (moment ∷ moments) kept leads =
    all_kept leads.0 last moments (leads_kept first leads.0 moment leads.1 kept) leads.2

run_kept : {A : Type 0} (first last : Stage A) (moments : List Moment) → Begins first → FoldsTo Leads first moments last
    → IsKept last.nodes last.contender
run_kept first last moments begins leads =
    all_kept first last moments
    (begins_kept first.nodes first.contender begins.0 begins.1 begins.2 begins.3 begins.4 begins.5) leads

pub nothing_is_left : {A : Type 0} → NothingIsLeft A
nothing_is_left {A} first last moments begins leads left =
    subst (λ (p : Place A). Covers last.nodes p) left (run_kept first last moments begins leads).covers

one_here : {A : Type 0} (nodes : Nodes) (place : Place A) (own path : Text) → Covers nodes place → own_of place ≡ Some own
    → nodes path ≡ true → path ≡ own
one_here nodes (At at listing) own path covers is there = let same : at ≡ own = cc in covers path there ∙ same
one_here nodes (Making at) own path covers is there = absurd cc
one_here nodes Entering own path covers is there = absurd cc
one_here nodes Unsure own path covers is there = absurd cc
one_here nodes (Looking answered) own path covers is there = absurd cc
one_here nodes (Clearing leaving) own path covers is there = absurd cc
one_here nodes (Leaving at) own path covers is there = absurd cc
one_here nodes Left own path covers is there = absurd cc

pub one_is_there : {A : Type 0} → OneIsThere A
one_is_there first last moments begins leads own is path there =
    one_here last.nodes last.contender.place own path (run_kept first last moments begins leads).covers is there

rests_left : {A : Type 0} (nodes : Nodes) (view : View) (contender : LockContender A) (asked : Option Ask) (place : Place A)
    → Covers nodes place → MayStay asked place → RestsIn view contender place → AreNone nodes
rests_left nodes view contender asked Left covers stays rests = covers
rests_left nodes view contender asked (At own listing) covers stays rests = absurd stays
rests_left nodes view contender asked (Making path) covers stays rests = absurd rests
rests_left nodes view contender asked Entering covers stays rests = absurd rests
rests_left nodes view contender asked Unsure covers stays rests = absurd rests
rests_left nodes view contender asked (Looking answered) covers stays rests = absurd rests
rests_left nodes view contender asked (Clearing leaving) covers stays rests = absurd rests
rests_left nodes view contender asked (Leaving own) covers stays rests = absurd rests

pub given_up_asks : {A : Type 0} → GivenUpAsks A
given_up_asks first last moments view now begins leads given rests asked paused ready =
    let kept = run_kept first last moments begins leads in
    rests_left last.nodes view last.contender last.contender.asked last.contender.place kept.covers (kept.stays given)
    (rests asked paused ready)
