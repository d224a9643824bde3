-- A place comes to a listing by an answer with its names alone, so each listing was heard.
use Rattle.std.proofs.Common.{ℕ, ℤ, ◌≡◌, ◌⊎◌, inl, inr, Bool, true, false, List, [], ◌∷◌, Option, Some, None, string_bytes, option_map}
use Rattle.std.proofs.Common.{if◌then◌else◌, refl, sym, ap, subst, ◌∙◌, true≢false}
use Rattle.std.specs.Prelude.{bytes_eq}
use Rattle.std.specs.List.{FoldsTo}
use Rattle.std.specs.Ordering.{int_eq}
use Rattle.zk_nodes.specs.Path.{Text, Name, parent_text}
use Rattle.zk_nodes.specs.PathFault.{fault_of}
use Rattle.zk_nodes.specs.declared.path_fault.PathFault.{PathFault}
use Rattle.zk_nodes.specs.declared.stat.Stat.{Stat}
use Rattle.zk_records.specs.declared.event.Event.{Event}
use Rattle.zk_records.specs.declared.event.Event.TheVariants.{Created, Deleted, DataChanged, ChildrenChanged}
use Rattle.zk_conversation.specs.Results.{Result, NoNode, Refused, Made, Listing, Brought}
use Rattle.zk_turns.specs.Meaning.{Among}
use Rattle.zk_turns.specs.Turns.{Outcome, Replied, ConnectionLoss}
use Rattle.zk_turns.specs.View.{View}
use Rattle.zk_contend.specs.declared.contender.LockContender.{LockContender}
use Rattle.zk_contend.specs.declared.listed.Listed.{Listed}
use Rattle.zk_contend.specs.declared.naming.Naming.{Naming}
use Rattle.zk_contend.specs.declared.place.Ask.{Ask}
use Rattle.zk_contend.specs.declared.place.Ask.TheVariants.{Make, Enter, Fence, Look, Clear, ReadOwn, List as ListsAgain, ReadBehind, Leave}
use Rattle.zk_contend.specs.declared.place.Place.{Place}
use Rattle.zk_contend.specs.declared.place.Place.TheVariants.{Making, Entering, Unsure, Looking, Clearing, At, Leaving, Left}
use Rattle.zk_contend.specs.Contenders.{beginning, is_at, is_behind, is_entering, leaves, noted, IsHeardAs}
use Rattle.zk_contend.specs.Hearing.{entered, entering, is_place, made, named_if, placed_as, unentered, unsent}
use Rattle.zk_contend.specs.Listings.{ListingsAreHeard, WasHeard}
use Rattle.zk_contend.specs.Nodes.{Asks, Closes, Expires, Fails, GivesUp, HearsOne, Leads, Moment, Notes, Stage, Tells}
use Rattle.zk_contend.specs.Places.{path_in}
use Rattle.zk_contend.specs.Settling.{cleared, fenced, found_at, is_gone, is_others, is_unread_by, left_by, lost, moved, own_read, unlisted}
use Rattle.zk_contend.specs.Settling.{Becomes, Hears, IsListed, IsListedAt, IsLooked, IsSettled}

-- the place has this listing
abbrev pub HasListing : {A : Type 0} → Place A → Listed A → Type 0
HasListing (At own (Some one)) listed = one ≡ listed
HasListing _ listed = ⊥

-- no new listing comes with it
abbrev pub is_bare : {A : Type 0} → Option (Place A) → Bool
is_bare (Some (At own (Some listed))) = false
is_bare _ = true

bare_moved : {A : Type 0} (place : Place A) (next : Option (Place A)) (listed : Listed A) → is_bare next ≡ true
    → HasListing (moved place next) listed → HasListing place listed
bare_moved place None listed bare has = has
bare_moved place (Some (At own (Some one))) listed bare has = absurd (true≢false (sym bare))
bare_moved place (Some (At own None)) listed bare has = absurd has
bare_moved place (Some (Making path)) listed bare has = absurd has
bare_moved place (Some Entering) listed bare has = absurd has
bare_moved place (Some Unsure) listed bare has = absurd has
bare_moved place (Some (Looking answered)) listed bare has = absurd has
bare_moved place (Some (Clearing leaving)) listed bare has = absurd has
bare_moved place (Some (Leaving own)) listed bare has = absurd has
bare_moved place (Some Left) listed bare has = absurd has

bare_after : (A : Type 0) (dir : Text) (same : Bool) → is_bare {A = A} (Some (if same then Entering else Making dir)) ≡ true
bare_after A dir true = refl
bare_after A dir false = refl

bare_exists : (A : Type 0) (dir : Text) (exists same : Bool)
    → is_bare {A = A} (if exists then Some (if same then Entering else Making dir) else None) ≡ true
bare_exists A dir true same = bare_after A dir same
bare_exists A dir false same = refl

bare_above : (A : Type 0) (parent : Option Text) → is_bare {A = A} (option_map Making parent) ≡ true
bare_above A None = refl
bare_above A (Some parent) = refl

bare_made : (A : Type 0) (dir path : Text) (outcome : Outcome) → is_bare {A = A} (made dir path outcome) ≡ true
bare_made A dir path (Replied zxid (Made at)) = bare_after A dir (bytes_eq path dir)
bare_made A dir path (Replied zxid (Brought bytes)) = bare_after A dir (bytes_eq path dir)
bare_made A dir path (Replied zxid NoNode) = bare_above A (parent_text path)
bare_made A dir path (Replied zxid (Refused code)) = bare_exists A dir (int_eq code (ℤ.negsuc 109)) (bytes_eq path dir)
bare_made A dir path (Replied zxid _) = refl
bare_made A dir path _ = refl

bare_named : (A : Type 0) (text : Text) (is_given_up : Bool) (fault : Option PathFault) (is : Bool)
    → is_bare {A = A} (Some (placed_as is_given_up (named_if is text fault))) ≡ true
bare_named A text is_given_up (Some why) is = refl
bare_named A text is_given_up None false = refl
bare_named A text true None true = refl
bare_named A text false None true = refl

bare_unentered : (A : Type 0) (dir : Text) (is_given_up : Bool) (result : Result)
    → is_bare {A = A} (unentered dir is_given_up result) ≡ true
bare_unentered A dir true result = refl
bare_unentered A dir false NoNode = refl
bare_unentered A dir false _ = refl

bare_unsent : (A : Type 0) (is_given_up : Bool) → is_bare {A = A} (unsent is_given_up) ≡ true
bare_unsent A true = refl
bare_unsent A false = refl

bare_entered : (A : Type 0) (dir : Text) (front : Name) (is_given_up : Bool) (outcome : Outcome)
    → is_bare {A = A} (entered dir front is_given_up outcome) ≡ true
bare_entered A dir front is_given_up (Replied zxid (Made text)) =
    bare_named A text is_given_up (fault_of text) (is_place dir front text)
bare_entered A dir front is_given_up (Replied zxid NoNode) = bare_unentered A dir is_given_up NoNode
bare_entered A dir front is_given_up (Replied zxid (Refused code)) = bare_unentered A dir is_given_up (Refused code)
bare_entered A dir front is_given_up (Replied zxid _) = refl
bare_entered A dir front is_given_up ConnectionLoss = refl
bare_entered A dir front is_given_up _ = bare_unsent A is_given_up

bare_entering : (A : Type 0) (is_given_up : Bool) → is_bare {A = A} (Some (entering is_given_up)) ≡ true
bare_entering A true = refl
bare_entering A false = refl

bare_clearing : (A : Type 0) (path : Option Text) → is_bare {A = A} (option_map Clearing path) ≡ true
bare_clearing A None = refl
bare_clearing A (Some path) = refl

bare_found : (A : Type 0) (path : Option Text) → is_bare {A = A} (option_map found_at path) ≡ true
bare_found A None = refl
bare_found A (Some path) = refl

bare_settled : {A : Type 0} (dir : Text) (front : Name) (is_given_up : Bool) (answered zxid : ℤ) (names : List Name)
    (next : Option (Place A)) → IsSettled dir front is_given_up answered names zxid next → is_bare next ≡ true
bare_settled dir front is_given_up answered zxid names next (inl early) = ap is_bare early.1
bare_settled {A} dir front is_given_up answered zxid names next (inr (inl none)) = ap is_bare none.1 ∙ bare_entering A is_given_up
bare_settled {A} dir front true answered zxid names next (inr (inr (least, is, found))) =
    ap is_bare found ∙ bare_clearing A (path_in dir least)
bare_settled {A} dir front false answered zxid names next (inr (inr (least, is, inl (name, among, surplus, found)))) =
    ap is_bare found ∙ bare_clearing A (path_in dir name)
bare_settled {A} dir front false answered zxid names next (inr (inr (least, is, inr (none, found)))) =
    ap is_bare found ∙ bare_found A (path_in dir least)

bare_looked : {A : Type 0} (dir : Text) (front : Name) (is_given_up : Bool) (answered : ℤ) (outcome : Outcome) (next : Option (Place A))
    → IsLooked dir front is_given_up answered outcome next → is_bare next ≡ true
bare_looked dir front is_given_up answered (Replied zxid (Listing names stat)) next is =
    bare_settled dir front is_given_up answered zxid names next is
bare_looked {A} dir front is_given_up answered (Replied zxid NoNode) next is = ap is_bare is ∙ bare_entering A is_given_up
bare_looked dir front is_given_up answered (Replied zxid _) next is = ap is_bare is
bare_looked dir front is_given_up answered _ next is = ap is_bare is

bare_fenced : (A : Type 0) (outcome : Outcome) → is_bare {A = A} (fenced outcome) ≡ true
bare_fenced A (Replied zxid result) = refl
bare_fenced A _ = refl

bare_if : (A : Type 0) (is : Bool) (place : Place A) → is_bare (Some place) ≡ true → is_bare (if is then Some place else None) ≡ true
bare_if A true place bare = bare
bare_if A false place bare = refl

bare_cleared : (A : Type 0) (outcome : Outcome) → is_bare {A = A} (cleared outcome) ≡ true
bare_cleared A (Replied zxid result) = bare_if A (is_gone result) (Looking zxid) refl
bare_cleared A _ = refl

bare_left : (A : Type 0) (outcome : Outcome) → is_bare {A = A} (left_by outcome) ≡ true
bare_left A (Replied zxid result) = bare_if A (is_gone result) Left refl
bare_left A _ = refl

bare_own : (A : Type 0) (session : ℤ) (outcome : Outcome) → is_bare {A = A} (own_read session outcome) ≡ true
bare_own A session (Replied zxid result) = bare_if A (is_others session result) Entering refl
bare_own A session _ = refl

bare_becomes : {A : Type 0} (session : ℤ) (contender : LockContender A) (place : Place A) (ask : Ask) (outcome : Outcome)
    (next : Option (Place A)) → Becomes session contender place ask outcome next → is_bare next ≡ true
bare_becomes {A} session contender (Making path) Make outcome next is = ap is_bare is ∙ bare_made A contender.directory path outcome
bare_becomes {A} session contender Entering Enter outcome next is =
    ap is_bare is ∙ bare_entered A contender.directory (string_bytes contender.front) contender.is_given_up outcome
bare_becomes {A} session contender Unsure Fence outcome next is = ap is_bare is ∙ bare_fenced A outcome
bare_becomes session contender (Looking answered) Look outcome next is =
    bare_looked contender.directory (string_bytes contender.front) contender.is_given_up answered outcome next is
bare_becomes {A} session contender (Clearing leaving) Clear outcome next is = ap is_bare is ∙ bare_cleared A outcome
bare_becomes {A} session contender (At own listing) ReadOwn outcome next is = ap is_bare is ∙ bare_own A session outcome
bare_becomes {A} session contender (Leaving own) Leave outcome next is = ap is_bare is ∙ bare_left A outcome
bare_becomes session contender place ask outcome next is = ap is_bare is

-- ---- a place that a listing may leave

lost_has : {A : Type 0} (place : Place A) (listed : Listed A) → HasListing (lost place) listed → HasListing place listed
lost_has (At own listing) listed has = absurd has
lost_has (Making path) listed has = has
lost_has Entering listed has = has
lost_has Unsure listed has = has
lost_has (Looking answered) listed has = has
lost_has (Clearing leaving) listed has = has
lost_has (Leaving own) listed has = has
lost_has Left listed has = has

unlisted_has : {A : Type 0} (place : Place A) (listed : Listed A) → HasListing (unlisted place) listed → HasListing place listed
unlisted_has (At own listing) listed has = absurd has
unlisted_has (Making path) listed has = has
unlisted_has Entering listed has = has
unlisted_has Unsure listed has = has
unlisted_has (Looking answered) listed has = has
unlisted_has (Clearing leaving) listed has = has
unlisted_has (Leaving own) listed has = has
unlisted_has Left listed has = has

if_has : {A : Type 0} (place : Place A) (is : Bool) (listed : Listed A) → HasListing (if is then unlisted place else place) listed
    → HasListing place listed
if_has place true listed has = unlisted_has place listed has
if_has place false listed has = has

either_has : {A : Type 0} (place : Place A) (at behind : Bool) (listed : Listed A)
    → HasListing (if at then lost place else (if behind then unlisted place else place)) listed → HasListing place listed
either_has place true behind listed has = lost_has place listed has
either_has place false behind listed has = if_has place behind listed has

-- the answer that this is
abbrev pub IsAnswer : {A : Type 0} → Outcome → Listed A → Type 0
IsAnswer outcome listed = (stat : Stat) × (outcome ≡ Replied listed.zxid (Listing listed.names stat))

same_has : {A : Type 0} (place next : Place A) (listed : Listed A) → next ≡ place → HasListing next listed → HasListing place listed
same_has {A} place next listed e has = subst (λ (p : Place A). HasListing p listed) e has

listed_has : {A : Type 0} (dir : Text) (naming : Naming) (names : List Name) (zxid : ℤ) (stat : Stat) (place next : Place A)
    (listed : Listed A) → IsListedAt dir naming names zxid place next → HasListing next listed
    → HasListing place listed ⊎ IsAnswer (Replied zxid (Listing names stat)) listed
listed_has {A} dir naming names zxid stat (At own listing) next listed is has =
    let same : is.0 ≡ listed = subst (λ (p : Place A). HasListing p listed) is.1 has in
    inr (stat, (λ i. Replied (zxids same i) (Listing (all same i) stat)))
  where
    zxids : is.0 ≡ listed → zxid ≡ listed.zxid
    zxids same = sym is.3 ∙ ap (λ (l : Listed A). l.zxid) same

    all : is.0 ≡ listed → names ≡ listed.names
    all same = sym is.2 ∙ ap (λ (l : Listed A). l.names) same
listed_has dir naming names zxid stat place next listed is has = inl (same_has place next listed is has)

names_has : {A : Type 0} (dir : Text) (naming : Naming) (outcome : Outcome) (place next : Place A) (listed : Listed A)
    → IsListed dir naming outcome place next → HasListing next listed → HasListing place listed ⊎ IsAnswer outcome listed
names_has dir naming (Replied zxid (Listing names stat)) place next listed is has =
    listed_has dir naming names zxid stat place next listed is has
names_has {A} dir naming (Replied zxid NoNode) place next listed is has =
    inl (lost_has place listed (subst (λ (p : Place A). HasListing p listed) is has))
names_has dir naming (Replied zxid _) place next listed is has = inl (same_has place next listed is has)
names_has dir naming _ place next listed is has = inl (same_has place next listed is has)

-- the answer to a listing
abbrev pub IsNamed : {A : Type 0} → Ask → Outcome → Listed A → Type 0
IsNamed ask outcome listed = (ask ≡ ListsAgain) × IsAnswer outcome listed

pub heard_has : {A : Type 0} (session : ℤ) (contender : LockContender A) (ask : Ask) (outcome : Outcome) (next : Place A)
    (listed : Listed A) → Hears session contender ask outcome next → HasListing next listed
    → HasListing contender.place listed ⊎ IsNamed ask outcome listed
heard_has session contender ListsAgain outcome next listed hears has =
    elim (names_has contender.directory contender.naming outcome contender.place next listed hears has)
    [ inl was ↦ inl was | inr answered ↦ inr (refl, answered) ]
heard_has {A} session contender (ReadBehind at) outcome next listed hears has =
    inl (if_has contender.place (is_unread_by outcome) listed (subst (λ (p : Place A). HasListing p listed) hears has))
heard_has {A} session contender ask outcome next listed hears has =
    inl (bare_moved contender.place hears.0 listed (bare_becomes session contender contender.place ask outcome hears.0 hears.1)
    (subst (λ (p : Place A). HasListing p listed) hears.2 has))

-- ---- all that happens

asked_has : {A : Type 0} (view : View) (now : ℕ) (contender next : LockContender A) (asked : Option Ask) (outcome : Outcome)
    (listed : Listed A) → IsHeardAs view now asked outcome contender next → HasListing next.place listed
    → HasListing contender.place listed ⊎ IsAnswer outcome listed
asked_has {A} view now contender next None outcome listed heard has =
    inl (subst (λ (c : LockContender A). HasListing c.place listed) heard has)
asked_has view now contender next (Some ask) outcome listed heard has =
    elim (heard_has view.saved.session.session contender ask outcome next.place listed heard.hears has)
    [ inl was ↦ inl was | inr named ↦ inr named.1 ]

pub noted_has : {A : Type 0} (contender : LockContender A) (path : Text) (event : Event) (listed : Listed A)
    → HasListing ((noted path event contender).place) listed → HasListing contender.place listed
noted_has contender path Deleted listed has =
    either_has contender.place (is_at path contender.place) (is_behind path contender.place) listed has
noted_has contender path Created listed has = has
noted_has contender path DataChanged listed has = has
noted_has contender path ChildrenChanged listed has = has

entering_has : {A : Type 0} (is : Bool) (listed : Listed A) → HasListing (if is then Entering else Left) listed → ⊥
entering_has true listed has = has
entering_has false listed has = has

pub leaves_has : {A : Type 0} (asked : Option Ask) (place : Place A) (listed : Listed A) → HasListing (leaves asked place) listed
    → HasListing place listed
leaves_has asked (At own listing) listed has = absurd has
leaves_has asked (Making path) listed has = absurd has
leaves_has asked Entering listed has = absurd (entering_has (is_entering asked) listed has)
leaves_has asked Unsure listed has = has
leaves_has asked (Looking answered) listed has = has
leaves_has asked (Clearing leaving) listed has = has
leaves_has asked (Leaving own) listed has = has
leaves_has asked Left listed has = has

pub renewed_has : {A : Type 0} (is_given_up : Bool) (listed : Listed A) → HasListing (entering is_given_up) listed → ⊥
renewed_has true listed has = has
renewed_has false listed has = has

heard_here : {A : Type 0} (view : View) (now : ℕ) (outcome : Outcome) (listed : Listed A) → IsAnswer outcome listed
    → WasHeard listed (HearsOne view now outcome ∷ [])
heard_here view now outcome listed is = (view, now, is.0, inl (ap (HearsOne view now) (sym is.1)))

leads_has : {A : Type 0} (old new : Stage A) (moment : Moment) (listed : Listed A) → Leads old moment new
    → HasListing new.contender.place listed → HasListing old.contender.place listed ⊎ WasHeard listed (moment ∷ [])
leads_has {A} old new (Asks view now ask) listed leads has =
    inl (subst (λ (c : LockContender A). HasListing c.place listed) leads.1 has)
leads_has old new (HearsOne view now outcome) listed leads has =
    elim (asked_has view now old.contender new.contender old.contender.asked outcome listed leads.0 has)
    [ inl was ↦ inl was | inr is ↦ inr (heard_here view now outcome listed is) ]
leads_has {A} old new (Fails view outcome) listed leads has =
    absurd (subst (λ (c : LockContender A). HasListing c.place listed) leads.0 has)
leads_has {A} old new (Notes path event) listed leads has =
    inl (noted_has old.contender path event listed (subst (λ (c : LockContender A). HasListing c.place listed) leads.0 has))
leads_has {A} old new GivesUp listed leads has =
    inl (leaves_has old.contender.asked old.contender.place listed
    (subst (λ (c : LockContender A). HasListing c.place listed) leads.0 has))
leads_has {A} old new Expires listed leads has =
    absurd (renewed_has old.contender.is_given_up listed (subst (λ (c : LockContender A). HasListing c.place listed) leads.0 has))
leads_has {A} old new Closes listed leads has =
    absurd (subst (λ (c : LockContender A). HasListing c.place listed) leads.0 has)
leads_has {A} old new (Tells stands) listed leads has =
    inl (subst (λ (c : LockContender A). HasListing c.place listed) leads.0 has)

among_first : (moment one : Moment) (moments : List Moment) → Among one (moment ∷ []) → Among one (moment ∷ moments)
among_first moment one moments (inl e) = inl e
among_first moment one moments (inr none) = absurd none

run_has : {A : Type 0} (first last : Stage A) (moments : List Moment) (listed : Listed A) → FoldsTo Leads first moments last
    → HasListing last.contender.place listed → HasListing first.contender.place listed ⊎ WasHeard listed moments
run_has {A} first last [] listed same has = inl (subst (λ (s : Stage A). HasListing s.contender.place listed) (sym same) has)
run_has first last (moment ∷ moments) listed leads has =
    elim (run_has leads.0 last moments listed leads.2 has) [
      | inr heard ↦ inr (heard.0, heard.1, heard.2, inr heard.3)
      | inl had ↦ elim (leads_has first leads.0 moment listed leads.1 had) [
        | inl was ↦ inl was
        | inr now ↦ inr (now.0, now.1, now.2, among_first moment _ moments now.3)
      ]
    ]

pub begins_has : {A : Type 0} (may_be_there : Bool) (listed : Listed A) → HasListing (beginning may_be_there) listed → ⊥
begins_has true listed has = has
begins_has false listed has = has

pub listings_are_heard : {A : Type 0} → ListingsAreHeard A
listings_are_heard {A} first last moments own listed begins leads is =
    elim (run_has first last moments listed leads (subst (λ (p : Place A). HasListing p listed) (sym is) refl)) [
      | inl has ↦ absurd (begins_has begins.3 listed (subst (λ (p : Place A). HasListing p listed) begins.4.place has))
      | inr heard ↦ heard
    ]
