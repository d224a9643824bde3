-- The reports among the outputs are those of the past: happening by happening, as messages alone report.
use Rattle.std.proofs.Common.{◌≡◌, ℤ, Bool, true, false, cond, ◌&&◌, List, [], ◌∷◌, ◌++◌, map, refl, sym, ap, ◌∙◌}
use Rattle.std.specs.List.{flat_map}
use Rattle.zk_nodes.specs.Path.{Text}
use Rattle.zk_nodes.specs.declared.side.Side.{Side}
use Rattle.zk_nodes.specs.declared.side.Side.TheVariants.{Data, Child}
use Rattle.zk_records.specs.declared.event.Event.{Event}
use Rattle.zk_turns.specs.Turns.{Start, Output, Report, Enters, Drop, Item}
use Rattle.zk_conversation.specs.Questions.{Close}
use Rattle.zk_session.specs.declared.states.State.TheVariants.{Idle}
use Rattle.zk_turns.specs.Past.{Past, Happening, Began, Took, Dropped, Lost, Message, Accepted, Expiry, Replies, Watches_set, Notifies}
use Rattle.zk_turns.specs.Past.{Pong, Skipped, lists_of, last_of, is_good}
use Rattle.zk_watches.specs.Lists.{Lists}
use Rattle.zk_watches.specs.Parts.{parts}
use Rattle.zk_conversation.specs.Pending.{Pending, Waiting, Part_waits, Call_waits}
use Rattle.zk_records.specs.Events.{concerns}
use Rattle.zk_turns.specs.View.{View, view_at}
use Rattle.zk_turns.specs.Taken.{happenings, past_of}
use Rattle.zk_turns.specs.Rule.{says, part_frame, loss, report, Stands}
use Rattle.zk_turns.specs.Sent.{outputs_of}
use Rattle.zk_turns.specs.Reported.{report_on, reports_of, reports_in}
use Rattle.zk_turns.proofs.Marks.{report_is}
use Rattle.zk_turns.proofs.Sending.{onto, onto-append, happenings_hold, items_hold}

parts_silent : (relative : ℤ) (ps : List Lists) (outs : List Output)
    → reports_in (onto (map (part_frame relative) ps) outs) ≡ reports_in outs
parts_silent relative [] outs = refl
parts_silent relative (p ∷ ps) outs = parts_silent relative ps (part_frame relative p ∷ outs)

loss_silent : (p : Pending) (outs : List Output) → reports_in (onto (loss p) outs) ≡ reports_in outs
loss_silent p outs = by p.waiting
  where
    by : (w : Waiting) → reports_in (onto (loss (record { xid = p.xid; waiting = w })) outs) ≡ reports_in outs
    by (Part_waits last) = refl
    by (Call_waits ticket question) = refl

losses_silent : (ps : List Pending) (outs : List Output) → reports_in (onto (flat_map loss ps ++ Enters Idle ∷ []) outs) ≡ reports_in outs
losses_silent [] outs = refl
losses_silent (p ∷ ps) outs =
    ap reports_in (onto-append (loss p ++ flat_map loss ps) (Enters Idle ∷ []) outs ∙ ap (onto (Enters Idle ∷ []))
    (onto-append (loss p) (flat_map loss ps) outs) ∙ sym (onto-append (flat_map loss ps) (Enters Idle ∷ []) (onto (loss p) outs)))
    ∙ losses_silent ps (onto (loss p) outs) ∙ loss_silent p outs

on_side : (b : Bool) (path : Text) (side : Side) (event : Event) (outs : List Output)
    → reports_in (onto (cond b (Report path side event ∷ []) []) outs) ≡ cond b (Report path side event ∷ []) [] ++ reports_in outs
on_side true path side event outs = refl
on_side false path side event outs = refl

module _ (start : Start) where
  side_reports : (event : Event) (path : Text) (side : Side) (past : Past) (outs : List Output)
      → reports_in (onto (report (view_at start past) event path side) outs) ≡ report_on side event path past ++ reports_in outs
  side_reports event path side past outs =
      ap (λ r. reports_in (onto r outs)) (report_is start event path side past)
      ∙ on_side (concerns event side && is_good side path past) path side event outs

  message_reports : (message : Message) (past : Past) (outs : List Output) → reports_in outs ≡ reports_of past
      → reports_in (onto (says (view_at start past) (Took message)) outs) ≡ reports_of (Took message ∷ past)
  message_reports (Accepted welcome) past outs s = parts_silent (last_of start past) (parts (lists_of past)) (Enters _ ∷ outs) ∙ s
  message_reports Expiry past outs s = s
  message_reports (Replies ticket Close zxid result) past outs s = s
  message_reports (Replies ticket question zxid result) past outs s = s
  message_reports (Watches_set last zxid) past outs s = s
  message_reports (Notifies event path) past outs s =
      ap reports_in (onto-append (report (view_at start past) event path Data) (report (view_at start past) event path Child) outs)
      ∙ side_reports event path Child past (onto (report (view_at start past) event path Data) outs)
      ∙ ap (λ l. report_on Child event path past ++ l)
      (side_reports event path Data past outs ∙ ap (λ l. report_on Data event path past ++ l) s)
  message_reports Pong past outs s = s
  message_reports Skipped past outs s = s

  happening_reports : (happening : Happening) (past : Past) (outs : List Output)
      → reports_in outs ≡ reports_of past → reports_in (onto (says (view_at start past) happening) outs) ≡ reports_of (happening ∷ past)
  happening_reports (Took message) past outs s = message_reports message past outs s
  happening_reports Began past outs s = s
  happening_reports (Dropped fault) past outs s = losses_silent (view_at start past).pending (Drop fault ∷ outs) ∙ s
  happening_reports Lost past outs s = losses_silent (view_at start past).pending outs ∙ s
  happening_reports _ past outs s = s

  pub reports_are : (items : List Item) (view : View)
      → Stands start items view → reports_in (outputs_of items) ≡ reports_of (past_of start items)
  reports_are items view s =
      items_hold start (λ past outs. reports_in outs ≡ reports_of past) (λ signal past. happenings_hold start (λ past outs. reports_in outs
      ≡ reports_of past) happening_reports (happenings (view_at start past) signal) past) refl (λ past outs s. (s, s)) items s.said
