-- A listing is kept through each moment that ends no wait, and by a listing that names somebody only reads are due.
use Rattle.std.proofs.Common.{ℕ, ℤ, ◌≡◌, ◌≢◌, ◌⊎◌, inl, inr, Bool, true, false, List, [], ◌∷◌, Option, Some, None}
use Rattle.std.proofs.Common.{if◌then◌else◌, refl, sym, ap, subst, ◌∙◌, true≢false}
use Rattle.std.specs.Prelude.{bytes_eq}
use Rattle.std.specs.List.{FoldsTo}
use Rattle.zk_nodes.specs.Path.{Text}
use Rattle.zk_records.specs.declared.event.Event.{Event}
use Rattle.zk_records.specs.declared.event.Event.TheVariants.{Created, Deleted, DataChanged, ChildrenChanged}
use Rattle.zk_turns.specs.Meaning.{Among}
use Rattle.zk_turns.specs.Turns.{Outcome, Replied}
use Rattle.zk_turns.specs.View.{View}
use Rattle.zk_contend.specs.declared.contender.LockContender.{LockContender}
use Rattle.zk_contend.specs.declared.listed.Listed.{Listed}
use Rattle.zk_contend.specs.declared.place.Ask.{Ask}
use Rattle.zk_contend.specs.declared.place.Ask.TheVariants.{Make, Enter, Fence, Look, Clear, ReadOwn, List as ListsAgain, ReadBehind, Leave}
use Rattle.zk_contend.specs.declared.place.Place.{Place}
use Rattle.zk_contend.specs.declared.place.Place.TheVariants.{At, Entering}
use Rattle.zk_contend.specs.declared.status.LockStatus.{LockStatus}
use Rattle.zk_contend.specs.Contenders.{deleted, is_named, noted, IsHeardAs}
use Rattle.zk_contend.specs.Dues.{WantsBy, WantsIn}
use Rattle.zk_contend.specs.Nodes.{Asks, Closes, Expires, Fails, GivesUp, HearsOne, Leads, Moment, Notes, Stage, Tells}
use Rattle.zk_contend.specs.Settling.{is_others, is_unread_by, lost, moved, own_read, unlisted, Becomes, Hears}
use Rattle.zk_contend.specs.Waiting.{is_others_by, is_reading, EndsWait, WaitsQuietly}

-- ---- what is due

wants_reads : {A : Type 0} (view : View) (contender : LockContender A) (own : Text) (listed : Listed A) (behind : List Text) (ask : Ask)
    → behind ≢ [] → WantsBy view contender own listed behind ask → is_reading ask ≡ true
wants_reads view contender own listed [] ask some wants = absurd (some refl)
wants_reads view contender own listed (path ∷ behind) (ReadBehind place) some wants = refl
wants_reads view contender own listed (path ∷ behind) ReadOwn some wants = refl
wants_reads view contender own listed (path ∷ behind) Make some wants = absurd wants
wants_reads view contender own listed (path ∷ behind) Enter some wants = absurd wants
wants_reads view contender own listed (path ∷ behind) Fence some wants = absurd wants
wants_reads view contender own listed (path ∷ behind) Look some wants = absurd wants
wants_reads view contender own listed (path ∷ behind) Clear some wants = absurd wants
wants_reads view contender own listed (path ∷ behind) ListsAgain some wants = absurd wants
wants_reads view contender own listed (path ∷ behind) Leave some wants = absurd wants

reads_alone : {A : Type 0} (view : View) (contender : LockContender A) (own : Text) (listed : Listed A) (ask : Ask)
    → listed.behind.items ≢ [] → WantsIn view contender (At own (Some listed)) ask → is_reading ask ≡ true
reads_alone view contender own listed ReadOwn some wants = refl
reads_alone view contender own listed (ReadBehind place) some wants = refl
reads_alone view contender own listed Make some wants = wants_reads view contender own listed listed.behind.items Make some wants.1
reads_alone view contender own listed Enter some wants = wants_reads view contender own listed listed.behind.items Enter some wants.1
reads_alone view contender own listed Fence some wants = wants_reads view contender own listed listed.behind.items Fence some wants.1
reads_alone view contender own listed Look some wants = wants_reads view contender own listed listed.behind.items Look some wants.1
reads_alone view contender own listed Clear some wants = wants_reads view contender own listed listed.behind.items Clear some wants.1
reads_alone view contender own listed ListsAgain some wants =
    wants_reads view contender own listed listed.behind.items ListsAgain some wants.1
reads_alone view contender own listed Leave some wants = wants_reads view contender own listed listed.behind.items Leave some wants.1

-- ---- what stays

-- nothing but a read is under way
abbrev pub is_quiet : Option Ask → Bool
is_quiet None = true
is_quiet (Some ask) = is_reading ask

-- It waits by this listing.
pub record Waits {A : Type 0} (own : Text) (listed : Listed A) (contender : LockContender A) : Type 0 where
  pub at : contender.place ≡ At own (Some listed)
  pub quiet : is_quiet contender.asked ≡ true

same_waits : {A : Type 0} (own : Text) (listed : Listed A) (old new : LockContender A) → new ≡ old → Waits own listed old
    → Waits own listed new
same_waits {A} own listed old new e waits = subst (λ (c : LockContender A). Waits own listed c) (sym e) waits

-- by a read of the place
own_stays : {A : Type 0} (place : Place A) (session : ℤ) (outcome : Outcome) (next : Option (Place A)) → next ≡ own_read session outcome
    → (is_others_by session outcome ≡ true) ⊎ (moved place next ≡ place)
own_stays {A} place session (Replied zxid result) next is = by_result (is_others session result) is
  where
    by_result : (others : Bool) → next ≡ (if others then Some Entering else None) → (others ≡ true) ⊎ (moved place next ≡ place)
    by_result true e = inl refl
    by_result false e = inr (ap (moved place) e)
own_stays place session _ next is = inr (ap (moved place) is)

-- by a read of one that it waits for
behind_stays : {A : Type 0} (place : Place A) (unread : Bool) → (unread ≡ true) ⊎ ((if unread then unlisted place else place) ≡ place)
behind_stays place true = inl refl
behind_stays place false = inr refl

heard_stays : {A : Type 0} (session : ℤ) (contender : LockContender A) (own : Text) (listed : Listed A) (ask : Ask) (outcome : Outcome)
    (next : Place A) → is_reading ask ≡ true → contender.place ≡ At own (Some listed) → Hears session contender ask outcome next
    → ((is_unread_by outcome ≡ true) ⊎ (is_others_by session outcome ≡ true)) ⊎ (next ≡ At own (Some listed))
heard_stays {A} session contender own listed ReadOwn outcome next reading at hears =
    let read : hears.0 ≡ own_read session outcome
    = subst (λ (p : Place A). Becomes session contender p ReadOwn outcome hears.0) at hears.1 in
    elim (own_stays contender.place session outcome hears.0 read)
    [ inl others ↦ inl (inr others) | inr same ↦ inr (hears.2 ∙ (same ∙ at)) ]
heard_stays session contender own listed (ReadBehind place) outcome next reading at hears =
    elim (behind_stays contender.place (is_unread_by outcome))
    [ inl unread ↦ inl (inl unread) | inr same ↦ inr (hears ∙ (same ∙ at)) ]
heard_stays session contender own listed Make outcome next reading at hears = absurd (true≢false (sym reading))
heard_stays session contender own listed Enter outcome next reading at hears = absurd (true≢false (sym reading))
heard_stays session contender own listed Fence outcome next reading at hears = absurd (true≢false (sym reading))
heard_stays session contender own listed Look outcome next reading at hears = absurd (true≢false (sym reading))
heard_stays session contender own listed Clear outcome next reading at hears = absurd (true≢false (sym reading))
heard_stays session contender own listed ListsAgain outcome next reading at hears = absurd (true≢false (sym reading))
heard_stays session contender own listed Leave outcome next reading at hears = absurd (true≢false (sym reading))

heard_waits : {A : Type 0} (view : View) (now : ℕ) (old new : LockContender A) (asked : Option Ask) (outcome : Outcome) (own : Text)
    (listed : Listed A) → is_quiet asked ≡ true → Waits own listed old → IsHeardAs view now asked outcome old new
    → EndsWait own listed.behind.items (HearsOne view now outcome) ⊎ Waits own listed new
heard_waits view now old new None outcome own listed quiet waits heard = inr (same_waits own listed old new heard waits)
heard_waits {A} view now old new (Some ask) outcome own listed quiet waits heard =
    let none : new.asked ≡ None = ap (λ (c : LockContender A). c.asked) heard.is in
    elim (heard_stays view.saved.session.session old own listed ask outcome new.place quiet waits.at heard.hears)
    [ inl ends ↦ inl ends | inr at ↦ inr (record { at = at; quiet = ap is_quiet none }) ]

deleted_stays : {A : Type 0} (own : Text) (listed : Listed A) (at behind : Bool) → ((at ≡ true) ⊎ (behind ≡ true))
    ⊎ ((if at then lost (At own (Some listed)) else (if behind then unlisted (At own (Some listed)) else At own (Some listed)))
    ≡ At own (Some listed))
deleted_stays own listed true behind = inl (inl refl)
deleted_stays own listed false true = inl (inr refl)
deleted_stays own listed false false = inr refl

noted_waits : {A : Type 0} (old new : LockContender A) (path : Text) (event : Event) (own : Text) (listed : Listed A)
    → new ≡ noted path event old → Waits own listed old → EndsWait own listed.behind.items (Notes path event) ⊎ Waits own listed new
noted_waits {A} old new path Deleted own listed e waits =
    let place : new.place ≡ deleted path old.place = ap (λ (c : LockContender A). c.place) e in
    let asked : new.asked ≡ old.asked = ap (λ (c : LockContender A). c.asked) e in
    elim (deleted_stays own listed (bytes_eq path own) (is_named path listed.behind.items)) [
      | inl ends ↦ inl ends
      | inr same ↦ inr (record { at = place ∙ (ap (deleted path) waits.at ∙ same); quiet = ap is_quiet asked ∙ waits.quiet })
    ]
noted_waits old new path Created own listed e waits = inr (same_waits own listed old new e waits)
noted_waits old new path DataChanged own listed e waits = inr (same_waits own listed old new e waits)
noted_waits old new path ChildrenChanged own listed e waits = inr (same_waits own listed old new e waits)

-- ---- all that happens

asks_waits : {A : Type 0} (view : View) (old new : LockContender A) (ask : Ask) (own : Text) (listed : Listed A)
    → listed.behind.items ≢ [] → WantsIn view old old.place ask → new ≡ record old { asked = Some ask } → Waits own listed old
    → Waits own listed new
asks_waits {A} view old new ask own listed some wants e waits =
    let here : WantsIn view old (At own (Some listed)) ask = subst (λ (p : Place A). WantsIn view old p ask) waits.at wants in
    let asked : new.asked ≡ Some ask = ap (λ (c : LockContender A). c.asked) e in
    record {
      at = ap (λ (c : LockContender A). c.place) e ∙ waits.at;
      quiet = ap is_quiet asked ∙ reads_alone view old own listed ask some here;
    }

tells_waits : {A : Type 0} (old new : LockContender A) (told : LockStatus) (own : Text) (listed : Listed A)
    → new ≡ record old { told = told } → Waits own listed old → Waits own listed new
tells_waits {A} old new told own listed e waits = record {
  at = ap (λ (c : LockContender A). c.place) e ∙ waits.at;
  quiet = ap (λ (c : LockContender A). is_quiet c.asked) e ∙ waits.quiet;
}

leads_waits : {A : Type 0} (old new : Stage A) (moment : Moment) (own : Text) (listed : Listed A) → listed.behind.items ≢ []
    → Leads old moment new → Waits own listed old.contender
    → EndsWait own listed.behind.items moment ⊎ Waits own listed new.contender
leads_waits old new (Asks view now ask) own listed some leads waits =
    inr (asks_waits view old.contender new.contender ask own listed some leads.0.3 leads.1 waits)
leads_waits old new (HearsOne view now outcome) own listed some leads waits =
    heard_waits view now old.contender new.contender old.contender.asked outcome own listed waits.quiet waits leads.0
leads_waits old new (Fails view outcome) own listed some leads waits = inl tt
leads_waits old new (Notes path event) own listed some leads waits =
    noted_waits old.contender new.contender path event own listed leads.0 waits
leads_waits old new GivesUp own listed some leads waits = inl tt
leads_waits old new Expires own listed some leads waits = inl tt
leads_waits old new Closes own listed some leads waits = inl tt
leads_waits old new (Tells stands) own listed some leads waits =
    inr (tells_waits old.contender new.contender stands own listed leads.0 waits)

-- One of these moments ends the wait.
abbrev pub IsEnded : (own : Text) → (behind : List Text) → List Moment → Type 0
IsEnded own behind moments = (moment : Moment) × Among moment moments × EndsWait own behind moment

run_waits : {A : Type 0} (first last : Stage A) (moments : List Moment) (own : Text) (listed : Listed A) → listed.behind.items ≢ []
    → FoldsTo Leads first moments last → Waits own listed first.contender
    → IsEnded own listed.behind.items moments ⊎ Waits own listed last.contender
run_waits {A} first last [] own listed some same waits = inr (subst (λ (s : Stage A). Waits own listed s.contender) same waits)
run_waits first last (moment ∷ moments) own listed some leads waits =
    elim (leads_waits first leads.0 moment own listed some leads.1 waits) [
      | inl ends ↦ inl (moment, inl refl, ends)
      | inr goes ↦ elim (run_waits leads.0 last moments own listed some leads.2 goes) [
        | inl later ↦ inl (later.0, inr later.1, later.2)
        | inr still ↦ inr still
      ]
    ]

pub waits_quietly : {A : Type 0} → WaitsQuietly A
waits_quietly {A} first last moments own listed view now ask at none some leads other due =
    elim (run_waits first last moments own listed some leads (record { at = at; quiet = ap is_quiet none })) [
      | inl ended ↦ ended
      | inr waits ↦
          let here : WantsIn view last.contender (At own (Some listed)) ask
          = subst (λ (p : Place A). WantsIn view last.contender p ask) waits.at due.3 in
          absurd (true≢false (sym (reads_alone view last.contender own listed ask some here) ∙ other))
    ]
