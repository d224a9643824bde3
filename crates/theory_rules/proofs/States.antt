-- What is told of states: happening by happening, the states among the outputs are those that it brings.
use Rattle.std.proofs.Common.{◌≡◌, ℤ, Bool, true, false, cond, List, [], ◌∷◌, ◌++◌, map, refl, ap, ◌∙◌}
use Rattle.std.specs.List.{flat_map}
use Rattle.std.proofs.lemmas.List.{append_assoc}
use Rattle.std.proofs.lemmas.Grind.{flat_map-append}
use Rattle.zk_nodes.specs.Path.{Text}
use Rattle.zk_nodes.specs.declared.side.Side.TheVariants.{Data, Child}
use Rattle.zk_records.specs.declared.event.Event.{Event}
use Rattle.zk_session.specs.declared.states.State.{State}
use Rattle.zk_session.specs.declared.states.State.TheVariants.{Idle, Connected}
use Rattle.zk_watches.specs.Lists.{Lists, fires}
use Rattle.zk_watches.specs.Parts.{parts}
use Rattle.zk_conversation.specs.Pending.{Pending, Waiting, Part_waits, Call_waits}
use Rattle.zk_conversation.specs.Questions.{Close}
use Rattle.zk_turns.specs.Turns.{Output, Answer, ConnectionLoss, Report, Enters}
use Rattle.zk_turns.specs.Past.{Happening, Lost, Took, Dropped, Past, Accepted, Replies, Watches_set, Notifies, state_of}
use Rattle.zk_turns.specs.View.{View}
use Rattle.zk_turns.specs.Rule.{next, says, says_all, part_frame, loss}
use Rattle.theory_rules.specs.Rules.{entered, states_in, brings, brought}

-- frames tell no state
parts_tell : (zxid : ℤ) (parts : List Lists) → states_in (map (part_frame zxid) parts) ≡ []
parts_tell zxid [] = refl
parts_tell zxid (part ∷ parts) = parts_tell zxid parts

-- nor do reports
reports_tell : (first second : Bool) (path : Text) (event : Event)
    → states_in (cond first (Report path Data event ∷ []) [] ++ cond second (Report path Child event ∷ []) []) ≡ []
reports_tell false false path event = refl
reports_tell false true path event = refl
reports_tell true false path event = refl
reports_tell true true path event = refl

one_lost : (pending : Pending) (waiting : Waiting) → pending.waiting ≡ waiting → (more : List Output)
    → states_in (loss pending ++ more) ≡ states_in more
one_lost pending (Part_waits last) is more = ap (λ (w : Waiting).
    states_in (elim w [ Part_waits last ↦ [] | Call_waits ticket question ↦ Answer ticket ConnectionLoss ∷ [] ] ++ more)) is
one_lost pending (Call_waits ticket question) is more = ap (λ (w : Waiting).
    states_in (elim w [ Part_waits last ↦ [] | Call_waits ticket question ↦ Answer ticket ConnectionLoss ∷ [] ] ++ more)) is

losses_tell : (pending : List Pending) → states_in (flat_map loss pending ++ Enters Idle ∷ []) ≡ Idle ∷ []
losses_tell [] = refl
losses_tell (one ∷ more) =
    ap states_in (append_assoc (loss one) (flat_map loss more) (Enters Idle ∷ []))
    ∙ one_lost one one.waiting refl (flat_map loss more ++ Enters Idle ∷ []) ∙ losses_tell more

pub told : (view : View) (happening : Happening) → states_in (says view happening) ≡ brings happening
told view Lost = losses_tell view.pending
told view (Dropped fault) = losses_tell view.pending
told view (Took (Accepted welcome)) = ap (λ (more : List State). Connected ∷ more) (parts_tell view.saved.last (parts view.lists))
told view (Took (Notifies event path)) = reports_tell (fires view.lists event Data path) (fires view.lists event Child path) path event
told view (Took (Replies ticket Close zxid result)) = refl
told view (Took (Replies ticket _ zxid result)) = refl
told view (Took _) = refl
told view _ = refl

-- one after the other
pub all_told : (view : View) (happenings : List Happening) → states_in (says_all view happenings) ≡ flat_map brings happenings
all_told view [] = refl
all_told view (happening ∷ more) =
    flat_map-append entered (says view happening) (says_all (next view happening) more)
    ∙ ap (λ (first : List State). first ++ states_in (says_all (next view happening) more)) (told view happening)
    ∙ ap (λ (rest : List State). brings happening ++ rest) (all_told (next view happening) more)

pub state : (happening : Happening) (past : Past) → state_of (happening ∷ past) ≡ brought (brings happening) (state_of past)
state (Took (Replies ticket Close zxid result)) past = refl
state (Took (Replies ticket _ zxid result)) past = refl
state (Took _) past = refl
state _ past = refl

pub next_state : (view : View) (happening : Happening)
    → (next view happening).standing.state ≡ brought (brings happening) view.standing.state
next_state view (Took (Replies ticket Close zxid result)) = refl
next_state view (Took (Replies ticket _ zxid result)) = refl
next_state view (Took (Watches_set true zxid)) = refl
next_state view (Took (Watches_set false zxid)) = refl
next_state view (Took _) = refl
next_state view _ = refl
