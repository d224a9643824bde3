-- What moves of an agent keep: a client that is served, with what is under way in the driver. Move by move, each is some turns of the
-- client, another session, or neither. Two moves keep it only as the driver notes them: a connection begins, to a server at a place of the
-- history, where the client had none; and bytes come, all that were held.
use Rattle.std.proofs.Common.{◌≡◌, ◌≤◌, ◌<◌, ◌++◌, ◌∙◌, ℕ, ℤ, Bool, true, false, cond, List, [], ◌∷◌, Option, Some, None, length, map, ap}
use Rattle.std.proofs.Common.{append_assoc, refl, sym, subst, arith}
use Rattle.std.specs.Prelude.{⊤, fold, filter, FitsSigned, pos, ◌≤ℤ◌, unsigned_abs}
use Rattle.std.specs.List.{list_any, AllByRecursion, FoldsTo}
use Rattle.std.specs.Int.{w64}
use Rattle.std.proofs.lemmas.Int.{ints}
use Rattle.std.proofs.lemmas.List.Sums.{fold-append}
use Rattle.zk_session.specs.SessionView.{Saved}
use Rattle.zk_turns.specs.Turns.{new_start, Send, Start, Input, IsAskable}
use Rattle.zk_turns.specs.Turns as turns
use Rattle.zk_turns.specs.Past.{last_of}
use Rattle.zk_turns.specs.Taken.{past_of}
use Rattle.zk_turns.specs.View.{View, view_at}
use Rattle.zk_turns.specs.Rule.{Stands}
use Rattle.zk_turns.specs.Ranges.{IsResumable}
use Rattle.zk_turns.proofs.Ranged.{items_ranged, last_fits}
use Rattle.zk_laws.proofs.Found.{last_counted}
use Rattle.zk_laws.specs.Messages.{from_zero}
use Rattle.zk_client.specs.Clients.{renewed_start}
use Rattle.zk_dialler.specs.declared.dialler.Dialler.{Dialler}
use Rattle.zk_dialler.specs.declared.dialler.DialDue.{DialDue}
use Rattle.zk_dialler.specs.declared.dialler.DialDue.TheVariants.{Dial, GiveUp}
use Rattle.zk_dialler.specs.Dialling.{is_open, DialsWell}
use Rattle.zk_calls.specs.declared.entry.Ending.TheVariants as ending
use Rattle.zk_follow.specs.Following.{doubted}
use Rattle.zk_agent.specs.Agents.{is_given, Addressed, Asks, Closes, Decides, Does, Ended, Follows, GivesUp, Hands, Hears, HearsSo, HungUp}
use Rattle.zk_agent.specs.Agents.{Presents, Tends}
use Rattle.zk_agent.specs.Agents.{rises, DoubtsWhere, LeavesWhere, Move, Opened, Renews, LeavesLate, Trail, Unfollows}
use Rattle.zk_agent.specs.Calls.{closings, endings}
use Rattle.zk_agent.specs.Replies.{heard_in, is_lost}
use Rattle.zk_agent.specs.Telling.{due_told, judged_told, Begins, Dials, HangsUp, Introduces, Says, TellsTree, Told}
use Rattle.zk_agent.proofs.Moves.{ours_is_open}
use Rattle.zk_driver.specs.Driving.{carried, ChannelView}
use Rattle.theory_serving.specs.Shown.{connected, Shown}
use Rattle.theory_serving.specs.Wires.{is_up, WasServed}
use Rattle.theory_serving.proofs.Views.{first_session}
use Rattle.theory_drivers.proofs.Turned.{let_go, IsWithin, Kept}
use Rattle.theory_drivers.proofs.Unlost.{IsMuteInput}
use Rattle.theory_drivers.proofs.Heard.{ap_at, closings_keep, endings_keep, hears_at, hears_cut, hears_down, hears_empty, hears_open}
use Rattle.theory_drivers.proofs.Heard.{hears_unlost, left_by, opened_at, opened_open, At, IsHanded}

-- ---- another session

abbrev pub IsLater : ℤ → Type 0
IsLater timeout = IsResumable (new_start (unsigned_abs timeout)) × (0 < unsigned_abs timeout)

not_below : (zxid : ℤ) → zxid ≡ pos (from_zero zxid) → pos 0 ≤ℤ zxid
not_below zxid e = subst (λ z. pos 0 ≤ℤ z) (sym e) (omega (arith, ints))

renewed_resumable : (timeout : ℤ) (view : View) (met : Shown) (was : WasServed view met)
    → IsLater timeout → IsResumable (renewed_start timeout view)
renewed_resumable timeout view met was later = record {
  timeout = later.0.timeout;
  session = later.0.session;
  password = later.0.password;
  last = subst (FitsSigned w64) (sym same)
      (last_fits IsAskable was.start (past_of was.start was.items) was.resumable.last
      (items_ranged IsAskable was.start was.items was.stands.asked));
  counts = subst (λ z. pos 0 ≤ℤ z) (sym same)
      (not_below (last_of was.start (past_of was.start was.items)) (last_counted was.start (past_of was.start was.items) was.resumable));
}
  where
    same : view.saved.last ≡ last_of was.start (past_of was.start was.items)
    same = ap (λ (s : Saved). s.last) was.stands.saved

fresh : (start : Start) → Stands start [] (view_at start [])
fresh start = record { standing = refl; saved = refl; lists = refl; cache = refl; going = λ goes_on. refl; said = tt; asked = tt }

-- ---- one move, but for a connection that begins and bytes that are handed over

abbrev pub IsPlain : Move → Type 0
IsPlain (Hears now turns.Opened) = ⊥
IsPlain (Hears now (turns.Bytes bytes)) = ⊥
IsPlain move = ⊤

-- and for the end of a connection, which the client hears after it
abbrev pub IsFree : Move → Type 0
IsFree (Hears now turns.Opened) = ⊥
IsFree (Hears now (turns.Bytes bytes)) = ⊥
IsFree (Ended now) = ⊥
IsFree move = ⊤

free_plain : (move : Move) → IsFree move → IsPlain move
free_plain (Hears now turns.Opened) free = absurd free
free_plain (Hears now (turns.Bytes bytes)) free = absurd free
free_plain (Hears now turns.Cut) free = tt
free_plain (Hears now (turns.Now moment)) free = tt
free_plain (Hears now (turns.Call ticket asked)) free = tt
free_plain (Ended now) free = absurd free
free_plain _ free = tt

-- nothing is handed over by the others
nothing_handed : (input : Input) (held : List ℕ) → IsMuteInput input → IsHanded input held held
nothing_handed (turns.Bytes bytes) held mute = absurd mute
nothing_handed turns.Opened held mute = refl
nothing_handed turns.Cut held mute = refl
nothing_handed (turns.Now moment) held mute = refl
nothing_handed (turns.Call ticket asked) held mute = refl

-- nothing that is told of credentials concerns the connection
judged_keep : (here : ChannelView) (judged : List (ℕ × ℤ)) → fold carried here (map judged_told judged) ≡ here
judged_keep here [] = refl
judged_keep here (one ∷ more) = judged_keep here more

frames_keep : (here : ChannelView) (frames : List (List ℕ)) → fold carried here (map Introduces frames) ≡ here
frames_keep here [] = refl
frames_keep here (frame ∷ more) = frames_keep here more

module _ {A : Type 0} (channel : ChannelView) (held : List ℕ) (shown : Shown) where
  abbrev Here : Trail A → Type 0
  Here trail = At channel held shown trail

  -- the same client, and nothing that concerns the connection was told
  same_here : (old new : Trail A) → new.view ≡ old.view → left_by channel new ≡ left_by channel old → Here old → Here new
  same_here old new view told k =
      subst (λ (c : ChannelView). Kept new.view c.is_open c.unsent held shown) (sym told)
      (subst (λ v. Kept v (left_by channel old).is_open (left_by channel old).unsent held shown) (sym view) k)

  told_more : (old new : Trail A) (more : List Told)
      → new.told ≡ old.told ++ more → left_by channel new ≡ fold carried (left_by channel old) more
  told_more old new more is = ap (fold carried channel) is ∙ fold-append carried channel old.told more

  presents_none : (judged : List (ℕ × ℤ)) (frames : List (List ℕ)) (old new : Trail A) → Does old (Presents judged frames) new
      → left_by channel new ≡ left_by channel old
  presents_none judged frames old new does =
      ap (left_by channel) does
      ∙ fold-append carried channel (old.told ++ map judged_told judged) (map Introduces frames)
      ∙ frames_keep (fold carried channel (old.told ++ map judged_told judged)) frames
      ∙ fold-append carried channel old.told (map judged_told judged) ∙ judged_keep (left_by channel old) judged

  hung_here : (old new : Trail A) → new.view ≡ old.view → new.told ≡ old.told ++ HangsUp ∷ [] → Here old → Here new
  hung_here old new view told k =
      subst (λ (c : ChannelView). Kept new.view c.is_open c.unsent held shown) (sym (told_more old new (HangsUp ∷ []) told))
      (let_go new.view (left_by channel old).is_open (left_by channel old).unsent held [] shown shown
      (subst (λ v. Kept v (left_by channel old).is_open (left_by channel old).unsent held shown) (sym view) k) refl)

  due_here : (due : Option DialDue) (old new : Trail A) → new.view ≡ old.view → new.told ≡ old.told ++ due_told due → Here old → Here new
  due_here None old new view told k = same_here old new view (told_more old new [] told) k
  due_here (Some (Dial place within)) old new view told k =
      subst (λ (c : ChannelView). Kept new.view c.is_open c.unsent held shown)
      (sym (told_more old new (due_told (Some (Dial place within))) told))
      (subst (λ v. Kept v (left_by channel old).is_open (left_by channel old).unsent held shown) (sym view) k)
  due_here (Some GiveUp) old new view told k = hung_here old new view told k

  leaves_here : (is_lost : Bool) (now : ℕ) (old new : Trail A) (leaves : LeavesWhere is_lost now old new)
      → Here old → Here new
  leaves_here true now old new leaves k = hears_at channel now turns.Cut old new leaves held held shown k tt refl
  leaves_here false now old new same k = subst Here (sym same) k

  -- by whether another epoch was seen
  doubts_here : (is_risen : Bool) (now : ℕ) (old new : Trail A) (doubts : DoubtsWhere is_risen now old new) → Here old → Here new
  doubts_here true now old new doubts k =
      hears_at channel now (turns.Now now) (record old { subjects = map doubted old.subjects }) new doubts held held shown k tt refl
  doubts_here false now old new same k = subst Here (sym same) k

  -- what comes of an input once it was heard
  rest_here : (now : ℕ) (input : Input) (old new : Trail A) (does : Does old (Hears now input) new) → Here does.between → Here new
  rest_here now input old new does k =
      doubts_here (rises old.view.saved.last does.after.view.saved.last) now does.after new does.doubts
      (leaves_here does.hears.heard.is_lost now does.between does.after does.leaves k)

  hears_here : (now : ℕ) (input : Input) (old new : Trail A) (does : Does old (Hears now input) new)
      → IsWithin input → IsMuteInput input → Here old → Here new
  hears_here now input old new does within mute k =
      rest_here now input old new does
      (hears_at channel now input old does.between does.hears held held shown k within (nothing_handed input held mute))

  renews_here : (old new : Trail A) → Does old Renews new → IsLater old.timeout → Here old → Here new
  renews_here old new does later k = record {
    met = k.met;
    was = subst (λ v. WasServed v k.met) (sym does.view)
        (first_session (renewed_start old.timeout old.view) (view_at (renewed_start old.timeout old.view) []) k.met
        (renewed_resumable old.timeout old.view k.met k.was later) later.1 (fresh (renewed_start old.timeout old.view)));
    history = k.history;
    here = λ up there. let e : false ≡ true = sym (ap is_up does.view) ∙ up in cc;
    gone = λ up there. let e : false ≡ true = sym (ap is_up does.view) ∙ up in cc;
  }

  leaves_late_here : (now : ℕ) (old new : Trail A) (does : Does old (LeavesLate now) new) → Here old → Here new
  leaves_late_here now old new does k =
      same_here does.after new (ap (λ (t : Trail A). t.view) does.last) (ap (left_by channel) does.last)
      (hears_at channel now turns.Cut does.between does.after does.hears held held shown
      (hung_here old does.between (ap (λ (t : Trail A). t.view) does.hangs) (ap (λ (t : Trail A). t.told) does.hangs) k) tt refl)

  pub move_here : (move : Move) (old new : Trail A) (does : Does old move new)
      → IsPlain move → IsLater old.timeout → Here old → Here new
  move_here (Hears now turns.Opened) old new does plain later k = absurd plain
  move_here (Hears now (turns.Bytes bytes)) old new does plain later k = absurd plain
  move_here (Hears now turns.Cut) old new does plain later k = hears_here now turns.Cut old new does tt tt k
  move_here (Hears now (turns.Now moment)) old new does plain later k = hears_here now (turns.Now moment) old new does tt tt k
  move_here (Hears now (turns.Call ticket asked)) old new does plain later k =
      hears_here now (turns.Call ticket asked) old new does tt tt k
  move_here (Hands now ticket asked) old new does plain later k =
      hears_at channel now (turns.Call ticket asked) old new does held held shown k tt refl
  move_here Renews old new does plain later k = renews_here old new does later k
  move_here (Follows ticket side path) old new does plain later k =
      same_here old new (ap (λ (t : Trail A). t.view) does) (ap (left_by channel) does) k
  move_here (Unfollows ticket) old new does plain later k =
      same_here old new (ap (λ (t : Trail A). t.view) does) (ap (left_by channel) does) k
  move_here (Asks ticket asked until) old new does plain later k =
      same_here old new (ap (λ (t : Trail A). t.view) does.last) (ap (left_by channel) does.last) k
  move_here (GivesUp now) old new does plain later k =
      same_here old new (ap (λ (t : Trail A). t.view) does)
      (told_more old new (endings (ending.Late now) old.line) (ap (λ (t : Trail A). t.told) does)
      ∙ endings_keep (left_by channel old) (ending.Late now) old.line) k
  move_here (LeavesLate now) old new does plain later k = leaves_late_here now old new does k
  move_here (Opened now) old new does plain later k =
      same_here old new (ap (λ (t : Trail A). t.view) does.1) (ap (left_by channel) does.1) k
  move_here (Ended now) old new does plain later k =
      same_here old new (ap (λ (t : Trail A). t.view) does.1) (ap (left_by channel) does.1) k
  move_here HungUp old new does plain later k =
      hung_here old new (ap (λ (t : Trail A). t.view) does) (ap (λ (t : Trail A). t.told) does) k
  move_here (Addressed kept added is_listed) old new does plain later k =
      same_here old new (ap (λ (t : Trail A). t.view) does.1) (ap (left_by channel) does.1) k
  move_here (Decides now due) old new does plain later k =
      due_here due old new (ap (λ (t : Trail A). t.view) does.last) (ap (λ (t : Trail A). t.told) does.last) k
  move_here Closes old new does plain later k =
      same_here old new (ap (λ (t : Trail A). t.view) does.last)
      (told_more old new (closings old.line) (ap (λ (t : Trail A). t.told) does.last) ∙ closings_keep (left_by channel old) old.line) k
  move_here (Tends one) old new does plain later k =
      same_here old new (ap (λ (t : Trail A). t.view) does) (told_more old new (TellsTree one ∷ []) (ap (λ (t : Trail A). t.told) does)) k
  move_here (Presents judged frames) old new does plain later k =
      same_here old new (ap (λ (t : Trail A). t.view) does) (presents_none judged frames old new does) k

  -- ---- where the client has no connection

  abbrev Down : Trail A → Type 0
  Down trail = is_up trail.view ≡ false

  abbrev Empty : Trail A → Type 0
  Empty trail = (left_by channel trail).is_open ≡ true → (left_by channel trail).unsent ≡ []

  abbrev Idle : Trail A → Type 0
  Idle trail = Down trail × Empty trail

  same_idle : (old new : Trail A) → new.view ≡ old.view → left_by channel new ≡ left_by channel old → Idle old → Idle new
  same_idle old new view told idle =
      (ap is_up view ∙ idle.0, subst (λ (c : ChannelView). c.is_open ≡ true → c.unsent ≡ []) (sym told) idle.1)

  hung_idle : (old new : Trail A) → new.view ≡ old.view → new.told ≡ old.told ++ HangsUp ∷ [] → Idle old → Idle new
  hung_idle old new view told idle = (
    ap is_up view ∙ idle.0,
    subst (λ (c : ChannelView). c.is_open ≡ true → c.unsent ≡ []) (sym (told_more old new (HangsUp ∷ []) told)) (λ there. refl),
  )

  due_idle : (due : Option DialDue) (old new : Trail A) → new.view ≡ old.view → new.told ≡ old.told ++ due_told due → Idle old → Idle new
  due_idle None old new view told idle = same_idle old new view (told_more old new [] told) idle
  due_idle (Some (Dial place within)) old new view told idle = (
    ap is_up view ∙ idle.0,
    subst (λ (c : ChannelView). c.is_open ≡ true → c.unsent ≡ [])
        (sym (told_more old new (due_told (Some (Dial place within))) told)) idle.1,
  )
  due_idle (Some GiveUp) old new view told idle = hung_idle old new view told idle

  hears_idle : (now : ℕ) (input : Input) (old new : Trail A) (hears : HearsSo now input old new)
      → IsWithin input → (then_held : List ℕ) → IsHanded input held then_held
      → Here old → Idle old → Idle new
  hears_idle now input old new hears within then_held is k idle =
      let down = hears_down channel now input old new hears held then_held shown k within is idle.0 in
      (down.0, hears_empty channel now input old new hears held then_held shown k down.1 idle.1)

  leaves_idle : (is_lost : Bool) (now : ℕ) (old new : Trail A) (leaves : LeavesWhere is_lost now old new)
      → Here old → Idle old → Idle new
  leaves_idle true now old new leaves k idle = hears_idle now turns.Cut old new leaves tt held refl k idle
  leaves_idle false now old new same k idle = subst Idle (sym same) idle

  rest_idle : (now : ℕ) (input : Input) (old new : Trail A) (does : Does old (Hears now input) new)
      → Here does.between → Idle does.between → Idle new
  rest_idle now input old new does k idle =
      doubts_idle (rises old.view.saved.last does.after.view.saved.last) does.doubts
      (leaves_here does.hears.heard.is_lost now does.between does.after does.leaves k)
      (leaves_idle does.hears.heard.is_lost now does.between does.after does.leaves k idle)
    where
      doubts_idle : (is_risen : Bool) (doubts : DoubtsWhere is_risen now does.after new) → Here does.after → Idle does.after → Idle new
      doubts_idle true doubts k idle =
          hears_idle now (turns.Now now) (record does.after { subjects = map doubted does.after.subjects }) new doubts tt held refl k idle
      doubts_idle false same k idle = subst Idle (sym same) idle

  hears_on_idle : (now : ℕ) (input : Input) (old new : Trail A) (does : Does old (Hears now input) new)
      → IsWithin input → IsMuteInput input → Here old → Idle old → Idle new
  hears_on_idle now input old new does within mute k idle =
      rest_idle now input old new does
      (hears_at channel now input old does.between does.hears held held shown k within (nothing_handed input held mute))
      (hears_idle now input old does.between does.hears within held (nothing_handed input held mute) k idle)

  leaves_late_idle : (now : ℕ) (old new : Trail A) (does : Does old (LeavesLate now) new)
      → Here old → Idle old → Idle new
  leaves_late_idle now old new does k idle =
      same_idle does.after new (ap (λ (t : Trail A). t.view) does.last) (ap (left_by channel) does.last)
      (hears_idle now turns.Cut does.between does.after does.hears tt held refl
      (hung_here old does.between (ap (λ (t : Trail A). t.view) does.hangs) (ap (λ (t : Trail A). t.told) does.hangs) k)
      (hung_idle old does.between (ap (λ (t : Trail A). t.view) does.hangs) (ap (λ (t : Trail A). t.told) does.hangs) idle))

  begun_idle : (old new : Trail A) → Does old Renews new → Idle old → Idle new
  begun_idle old new does idle = (
    ap is_up does.view,
    subst (λ (c : ChannelView). c.is_open ≡ true → c.unsent ≡ [])
        (sym (told_more old new (endings ending.Expired old.line ++ Begins ∷ [])
        (does.told ∙ append_assoc old.told (endings ending.Expired old.line) (Begins ∷ []))
        ∙ fold-append carried (left_by channel old) (endings ending.Expired old.line) (Begins ∷ [])
        ∙ ap (λ c. fold carried c (Begins ∷ [])) (endings_keep (left_by channel old) ending.Expired old.line))) idle.1,
  )

  pub move_idle : (move : Move) (old new : Trail A) (does : Does old move new)
      → IsPlain move → Here old → Idle old → Idle new
  move_idle (Hears now turns.Opened) old new does plain k idle = absurd plain
  move_idle (Hears now (turns.Bytes bytes)) old new does plain k idle = absurd plain
  move_idle (Hears now turns.Cut) old new does plain k idle = hears_on_idle now turns.Cut old new does tt tt k idle
  move_idle (Hears now (turns.Now moment)) old new does plain k idle =
      hears_on_idle now (turns.Now moment) old new does tt tt k idle
  move_idle (Hears now (turns.Call ticket asked)) old new does plain k idle =
      hears_on_idle now (turns.Call ticket asked) old new does tt tt k idle
  move_idle (Hands now ticket asked) old new does plain k idle =
      hears_idle now (turns.Call ticket asked) old new does tt held refl k idle
  move_idle Renews old new does plain k idle = begun_idle old new does idle
  move_idle (Follows ticket side path) old new does plain k idle =
      same_idle old new (ap (λ (t : Trail A). t.view) does) (ap (left_by channel) does) idle
  move_idle (Unfollows ticket) old new does plain k idle =
      same_idle old new (ap (λ (t : Trail A). t.view) does) (ap (left_by channel) does) idle
  move_idle (Asks ticket asked until) old new does plain k idle =
      same_idle old new (ap (λ (t : Trail A). t.view) does.last) (ap (left_by channel) does.last) idle
  move_idle (GivesUp now) old new does plain k idle =
      same_idle old new (ap (λ (t : Trail A). t.view) does)
      (told_more old new (endings (ending.Late now) old.line) (ap (λ (t : Trail A). t.told) does)
      ∙ endings_keep (left_by channel old) (ending.Late now) old.line) idle
  move_idle (LeavesLate now) old new does plain k idle = leaves_late_idle now old new does k idle
  move_idle (Opened now) old new does plain k idle =
      same_idle old new (ap (λ (t : Trail A). t.view) does.1) (ap (left_by channel) does.1) idle
  move_idle (Ended now) old new does plain k idle =
      same_idle old new (ap (λ (t : Trail A). t.view) does.1) (ap (left_by channel) does.1) idle
  move_idle HungUp old new does plain k idle =
      hung_idle old new (ap (λ (t : Trail A). t.view) does) (ap (λ (t : Trail A). t.told) does) idle
  move_idle (Addressed kept added is_listed) old new does plain k idle =
      same_idle old new (ap (λ (t : Trail A). t.view) does.1) (ap (left_by channel) does.1) idle
  move_idle (Decides now due) old new does plain k idle =
      due_idle due old new (ap (λ (t : Trail A). t.view) does.last) (ap (λ (t : Trail A). t.told) does.last) idle
  move_idle Closes old new does plain k idle =
      same_idle old new (ap (λ (t : Trail A). t.view) does.last)
      (told_more old new (closings old.line) (ap (λ (t : Trail A). t.told) does.last) ∙ closings_keep (left_by channel old) old.line) idle
  move_idle (Tends one) old new does plain k idle =
      same_idle old new (ap (λ (t : Trail A). t.view) does)
      (told_more old new (TellsTree one ∷ []) (ap (λ (t : Trail A). t.told) does)) idle
  move_idle (Presents judged frames) old new does plain k idle =
      same_idle old new (ap (λ (t : Trail A). t.view) does) (presents_none judged frames old new does) idle

  -- ---- a connection that the client has is there

  abbrev pub Tied : Trail A → Type 0
  Tied trail = is_up trail.view ≡ true → is_open trail.dialler.phase ≡ true

  down_tied : (trail : Trail A) → Down trail → Tied trail
  down_tied trail down up = let e : true ≡ false = sym up ∙ down in cc

  same_tied : (old new : Trail A) → new.view ≡ old.view → new.dialler.phase ≡ old.dialler.phase → Tied old → Tied new
  same_tied old new view phase tied up = ap is_open phase ∙ tied (sym (ap is_up view) ∙ up)

  -- by what a server said of the session
  leaves_tied : (is_lost : Bool) (now : ℕ) (old new : Trail A) (leaves : LeavesWhere is_lost now old new)
      → Here old → (is_lost ≡ false → Tied old) → Tied new
  leaves_tied true now old new leaves k tied = down_tied new (hears_cut channel now old new leaves held shown k)
  leaves_tied false now old new same k tied = subst Tied (sym same) (tied refl)

  unlost : (now : ℕ) (input : Input) (old new : Trail A) (hears : HearsSo now input old new)
      → hears.heard.is_lost ≡ false → list_any is_lost hears.takes.given ≡ false
  unlost now input old new hears is = sym (ap_at hears.heard (heard_in hears.takes.given) (λ h. h.is_lost) hears.takes.heard) ∙ is

  rest_tied : (now : ℕ) (input : Input) (old new : Trail A) (does : Does old (Hears now input) new)
      → Here does.between → (does.hears.heard.is_lost ≡ false → Tied does.between) → Tied new
  rest_tied now input old new does k tied =
      doubts_tied (rises old.view.saved.last does.after.view.saved.last) does.doubts
      (leaves_here does.hears.heard.is_lost now does.between does.after does.leaves k)
      (leaves_tied does.hears.heard.is_lost now does.between does.after does.leaves k tied)
    where
      doubts_tied : (is_risen : Bool) (doubts : DoubtsWhere is_risen now does.after new) → Here does.after → Tied does.after → Tied new
      doubts_tied true doubts k tied =
          let again = record does.after { subjects = map doubted does.after.subjects } in
          hears_open channel now (turns.Now now) again new doubts held held shown k tt refl
          (hears_unlost now (turns.Now now) again new doubts tt) tied
      doubts_tied false same k tied = subst Tied (sym same) tied

  hears_tied : (now : ℕ) (input : Input) (old new : Trail A) (does : Does old (Hears now input) new)
      → IsWithin input → IsMuteInput input → Here old → Tied old → Tied new
  hears_tied now input old new does within mute k tied =
      rest_tied now input old new does
      (hears_at channel now input old does.between does.hears held held shown k within (nothing_handed input held mute))
      (λ is. hears_open channel now input old does.between does.hears held held shown k within (nothing_handed input held mute)
      (unlost now input old does.between does.hears is) tied)

  due_tied : (due : Option DialDue) (timeout now : ℕ) (old new : Trail A)
      → DialsWell timeout now old.dialler new.dialler due → new.view ≡ old.view → Tied old → Tied new
  due_tied None timeout now old new dials view tied = same_tied old new view (ap (λ (d : Dialler A). d.phase) dials) tied
  due_tied (Some (Dial place within)) timeout now old new dials view tied = λ up.
      let e : false ≡ true = sym (ap is_open dials.waiting) ∙ tied (sym (ap is_up view) ∙ up) in cc
  due_tied (Some GiveUp) timeout now old new dials view tied = λ up.
      let e : false ≡ true = sym (ap is_open dials.dialling) ∙ tied (sym (ap is_up view) ∙ up) in cc

  pub move_tied : (move : Move) (old new : Trail A) (does : Does old move new)
      → IsFree move → Here old → Tied old → Tied new
  move_tied (Hears now turns.Opened) old new does free k tied = absurd free
  move_tied (Hears now (turns.Bytes bytes)) old new does free k tied = absurd free
  move_tied (Hears now turns.Cut) old new does free k tied = hears_tied now turns.Cut old new does tt tt k tied
  move_tied (Hears now (turns.Now moment)) old new does free k tied = hears_tied now (turns.Now moment) old new does tt tt k tied
  move_tied (Hears now (turns.Call ticket asked)) old new does free k tied =
      hears_tied now (turns.Call ticket asked) old new does tt tt k tied
  move_tied (Hands now ticket asked) old new does free k tied =
      hears_open channel now (turns.Call ticket asked) old new does held held shown k tt refl
      (hears_unlost now (turns.Call ticket asked) old new does tt) tied
  move_tied Renews old new does free k tied = down_tied new (ap is_up does.view)
  move_tied (Follows ticket side path) old new does free k tied =
      same_tied old new (ap (λ (t : Trail A). t.view) does) (ap (λ (t : Trail A). t.dialler.phase) does) tied
  move_tied (Unfollows ticket) old new does free k tied =
      same_tied old new (ap (λ (t : Trail A). t.view) does) (ap (λ (t : Trail A). t.dialler.phase) does) tied
  move_tied (Asks ticket asked until) old new does free k tied =
      same_tied old new (ap (λ (t : Trail A). t.view) does.last) (ap (λ (t : Trail A). t.dialler.phase) does.last) tied
  move_tied (GivesUp now) old new does free k tied =
      same_tied old new (ap (λ (t : Trail A). t.view) does) (ap (λ (t : Trail A). t.dialler.phase) does) tied
  move_tied (LeavesLate now) old new does free k tied =
      down_tied new (ap (λ (t : Trail A). is_up t.view) does.last
      ∙ hears_cut channel now does.between does.after does.hears held shown
      (hung_here old does.between (ap (λ (t : Trail A). t.view) does.hangs) (ap (λ (t : Trail A). t.told) does.hangs) k))
  move_tied (Opened now) old new does free k tied =
      λ up. ours_is_open old.view.saved.session.timeout now old.dialler new.dialler true does.0 refl
  move_tied (Ended now) old new does free k tied = absurd free
  move_tied HungUp old new does free k tied =
      same_tied old new (ap (λ (t : Trail A). t.view) does) (ap (λ (t : Trail A). t.dialler.phase) does) tied
  move_tied (Addressed kept added is_listed) old new does free k tied =
      same_tied old new (ap (λ (t : Trail A). t.view) does.1) does.0.phase tied
  move_tied (Decides now due) old new does free k tied =
      due_tied due old.view.saved.session.timeout now old new does.dials (ap (λ (t : Trail A). t.view) does.last) tied
  move_tied Closes old new does free k tied =
      same_tied old new (ap (λ (t : Trail A). t.view) does.last) (ap (λ (t : Trail A). t.dialler.phase) does.last) tied
  move_tied (Tends one) old new does free k tied =
      same_tied old new (ap (λ (t : Trail A). t.view) does) (ap (λ (t : Trail A). t.dialler.phase) does) tied
  move_tied (Presents judged frames) old new does free k tied =
      same_tied old new (ap (λ (t : Trail A). t.view) does) (ap (λ (t : Trail A). t.dialler.phase) does) tied

-- ---- the timeout of later sessions stays

stays_where : {A : Type 0} (is_lost : Bool) (now : ℕ) (old new : Trail A) → LeavesWhere is_lost now old new → new.timeout ≡ old.timeout
stays_where true now old new leaves = leaves.timeout
stays_where {A} false now old new same = ap (λ (t : Trail A). t.timeout) same

stays_doubting : {A : Type 0} (is_risen : Bool) (now : ℕ) (old new : Trail A) → DoubtsWhere is_risen now old new
    → new.timeout ≡ old.timeout
stays_doubting true now old new doubts = doubts.timeout
stays_doubting {A} false now old new same = ap (λ (t : Trail A). t.timeout) same

stays_by : {A : Type 0} (move : Move) (old new : Trail A) → Does old move new → new.timeout ≡ old.timeout
stays_by (Hears now input) old new does =
    stays_doubting (rises old.view.saved.last does.after.view.saved.last) now does.after new does.doubts
    ∙ stays_where does.hears.heard.is_lost now does.between does.after does.leaves ∙ does.hears.timeout
stays_by (Hands now ticket asked) old new does = does.timeout
stays_by Renews old new does = does.timeout
stays_by {A} (Follows ticket side path) old new does = ap (λ (t : Trail A). t.timeout) does
stays_by {A} (Unfollows ticket) old new does = ap (λ (t : Trail A). t.timeout) does
stays_by {A} (Asks ticket asked until) old new does = ap (λ (t : Trail A). t.timeout) does.last
stays_by {A} (GivesUp now) old new does = ap (λ (t : Trail A). t.timeout) does
stays_by {A} (LeavesLate now) old new does =
    ap (λ (t : Trail A). t.timeout) does.last ∙ does.hears.timeout ∙ ap (λ (t : Trail A). t.timeout) does.hangs
stays_by {A} (Opened now) old new does = ap (λ (t : Trail A). t.timeout) does.1
stays_by {A} (Ended now) old new does = ap (λ (t : Trail A). t.timeout) does.1
stays_by {A} HungUp old new does = ap (λ (t : Trail A). t.timeout) does
stays_by {A} (Addressed kept added is_listed) old new does = ap (λ (t : Trail A). t.timeout) does.1
stays_by {A} (Decides now due) old new does = ap (λ (t : Trail A). t.timeout) does.last
stays_by {A} Closes old new does = ap (λ (t : Trail A). t.timeout) does.last
stays_by {A} (Tends one) old new does = ap (λ (t : Trail A). t.timeout) does
stays_by {A} (Presents judged frames) old new does = ap (λ (t : Trail A). t.timeout) does

-- ---- moves, one after the other

-- Moves that come from outside. What is told of credentials is none: no driver is handed one, and it is of no connection's bytes.
abbrev pub is_met : Move → Bool
is_met (Presents judged frames) = false
is_met move = is_given move

pub met_through : (moves : List Move) → filter is_met moves ≡ filter is_met (filter is_given moves)
met_through [] = refl
met_through (Hears now input ∷ moves) = ap (λ l. Hears now input ∷ l) (met_through moves)
met_through (Hands now ticket asked ∷ moves) = met_through moves
met_through (Renews ∷ moves) = met_through moves
met_through (Follows ticket side path ∷ moves) = ap (λ l. Follows ticket side path ∷ l) (met_through moves)
met_through (Unfollows ticket ∷ moves) = ap (λ l. Unfollows ticket ∷ l) (met_through moves)
met_through (Asks ticket asked until ∷ moves) = ap (λ l. Asks ticket asked until ∷ l) (met_through moves)
met_through (GivesUp now ∷ moves) = met_through moves
met_through (LeavesLate now ∷ moves) = met_through moves
met_through (Opened now ∷ moves) = ap (λ l. Opened now ∷ l) (met_through moves)
met_through (Ended now ∷ moves) = ap (λ l. Ended now ∷ l) (met_through moves)
met_through (HungUp ∷ moves) = ap (λ l. HungUp ∷ l) (met_through moves)
met_through (Addressed kept added is_listed ∷ moves) = ap (λ l. Addressed kept added is_listed ∷ l) (met_through moves)
met_through (Decides now due ∷ moves) = met_through moves
met_through (Closes ∷ moves) = met_through moves
met_through (Tends one ∷ moves) = met_through moves
met_through (Presents judged frames ∷ moves) = met_through moves

-- moves of which these come from outside
pub record Given {A : Type 0} (given : List Move) (old new : Trail A) : Type 0 where
  pub moves : List Move
  pub does : FoldsTo Does old moves new
  pub comes : filter is_met moves ≡ given

-- up to the first of these, that one, and the others
record Split {A : Type 0} (first : Move) (more : List Move) (old new : Trail A) : Type 0 where
  before : Trail A
  own : Given [] old before
  after : Trail A
  does : Does before first after
  rest : Given more after new

abbrev head_or : Move → List Move → Move
head_or other [] = other
head_or other (move ∷ moves) = move

abbrev tail_of : List Move → List Move
tail_of [] = []
tail_of (move ∷ moves) = moves

first_of : (first given : Move) (more rest : List Move) → first ∷ more ≡ given ∷ rest → first ≡ given
first_of first given more rest e = ap (head_or first) e

rest_of : (first given : Move) (more rest : List Move) → first ∷ more ≡ given ∷ rest → more ≡ rest
rest_of first given more rest e = ap tail_of e

split : {A : Type 0} (moves : List Move) (first : Move) (more : List Move) (old new : Trail A) (does : FoldsTo Does old moves new)
    → filter is_met moves ≡ first ∷ more → Split first more old new
split [] first more old new does comes = let e : [] ≡ first ∷ more = comes in cc
split {A} (move ∷ moves) first more old new does comes =
    by (is_met move) refl comes (λ e. split moves first more does.0 new does.2 e)
  where
    by : (b : Bool) → is_met move ≡ b → cond b (move ∷ filter is_met moves) (filter is_met moves) ≡ first ∷ more
        → (filter is_met moves ≡ first ∷ more → Split first more does.0 new) → Split first more old new
    by true is e rest =
        let moved : Does old first does.0 =
        subst (λ m. Does old m does.0) (first_of move first (filter is_met moves) more e) does.1 in
        record {
          before = old;
          own = record { moves = []; does = refl; comes = refl };
          after = does.0;
          does = moved;
          rest = record { moves = moves; does = does.2; comes = rest_of move first (filter is_met moves) more e };
        }
    by false is e rest =
        let s = rest e in
        record {
          before = s.before;
          own = record {
            moves = move ∷ s.own.moves;
            does = (does.0, does.1, s.own.does);
            comes = ap (λ b. cond b (move ∷ filter is_met s.own.moves) (filter is_met s.own.moves)) is ∙ s.own.comes;
          };
          after = s.after;
          does = s.does;
          rest = s.rest;
        }

first_given : {A : Type 0} (first : Move) (more : List Move) (old new : Trail A) → Given (first ∷ more) old new → Split first more old new
first_given first more old new given = split given.moves first more old new given.does given.comes

own_free : (move : Move) → is_met move ≡ false → IsFree move
own_free (Hears now input) own = let e : true ≡ false = own in cc
own_free (Ended now) own = let e : true ≡ false = own in cc
own_free _ own = tt

module _ {A : Type 0} (P : Trail A → Type 0)
    (step : (move : Move) (old new : Trail A) (does : Does old move new) → IsFree move → P old → P new) where
  own_through : (moves : List Move) (old new : Trail A) (does : FoldsTo Does old moves new)
      → filter is_met moves ≡ [] → P old → P new
  own_through [] old new same comes p = subst P same p
  own_through (move ∷ moves) old new does comes p =
      by (is_met move) refl comes (λ e between. own_through moves does.0 new does.2 e between)
    where
      by : (b : Bool) → is_met move ≡ b → cond b (move ∷ filter is_met moves) (filter is_met moves) ≡ []
          → (filter is_met moves ≡ [] → P does.0 → P new) → P new
      by true is e rest = let f : move ∷ filter is_met moves ≡ [] = e in cc
      by false is e rest = rest e (step move old does.0 does.1 (own_free move is) p)

  pub own_all : (old new : Trail A) → Given [] old new → P old → P new
  own_all old new given p = own_through given.moves old new given.does given.comes p

-- ---- what is kept through them

pub record Loose {A : Type 0} (channel : ChannelView) (held : List ℕ) (shown : Shown) (trail : Trail A) : Type 0 where
  pub here : At channel held shown trail
  pub later : IsLater trail.timeout

pub record Ready {A : Type 0} (channel : ChannelView) (held : List ℕ) (shown : Shown) (trail : Trail A) : Type 0 where
  pub here : At channel held shown trail
  pub tied : is_up trail.view ≡ true → is_open trail.dialler.phase ≡ true
  pub later : IsLater trail.timeout

pub record Apart {A : Type 0} (channel : ChannelView) (held : List ℕ) (shown : Shown) (trail : Trail A) : Type 0 where
  pub here : At channel held shown trail
  pub down : is_up trail.view ≡ false
  pub empty : (left_by channel trail).is_open ≡ true → (left_by channel trail).unsent ≡ []
  pub later : IsLater trail.timeout

module _ {A : Type 0} (channel : ChannelView) (held : List ℕ) (shown : Shown) where
  later_on : (move : Move) (old new : Trail A) → Does old move new → IsLater old.timeout → IsLater new.timeout
  later_on move old new does later = subst IsLater (sym (stays_by move old new does)) later

  loose_step : (move : Move) (old new : Trail A) (does : Does old move new)
      → IsPlain move → Loose channel held shown old → Loose channel held shown new
  loose_step move old new does plain p =
      record { here = move_here channel held shown move old new does plain p.later p.here; later = later_on move old new does p.later }

  ready_step : (move : Move) (old new : Trail A) (does : Does old move new)
      → IsFree move → Ready channel held shown old → Ready channel held shown new
  ready_step move old new does free p = record {
    here = move_here channel held shown move old new does (free_plain move free) p.later p.here;
    tied = move_tied channel held shown move old new does free p.here p.tied;
    later = later_on move old new does p.later;
  }

  apart_step : (move : Move) (old new : Trail A) (does : Does old move new)
      → IsPlain move → Apart channel held shown old → Apart channel held shown new
  apart_step move old new does plain p =
      let idle = move_idle channel held shown move old new does plain p.here (p.down, p.empty) in
      record {
        here = move_here channel held shown move old new does plain p.later p.here;
        down = idle.0;
        empty = idle.1;
        later = later_on move old new does p.later;
      }

  own_loose : (old new : Trail A) → Given [] old new → Loose channel held shown old → Loose channel held shown new
  own_loose =
      own_all (Loose channel held shown) (λ move old new does free p. loose_step move old new does (free_plain move free) p)

  own_ready : (old new : Trail A) → Given [] old new → Ready channel held shown old → Ready channel held shown new
  own_ready = own_all (Ready channel held shown) ready_step

  own_apart : (old new : Trail A) → Given [] old new → Apart channel held shown old → Apart channel held shown new
  own_apart =
      own_all (Apart channel held shown) (λ move old new does free p. apart_step move old new does (free_plain move free) p)

  -- moves after which no connection is over
  pub all_ready : (given : List Move) (old new : Trail A)
      → AllByRecursion IsFree given → Given given old new → Ready channel held shown old → Ready channel held shown new
  all_ready [] old new free moves p = own_ready old new moves p
  all_ready (first ∷ more) old new free moves p =
      let s = first_given first more old new moves in
      all_ready more s.after new free.1 s.rest (ready_step first s.before s.after s.does free.0 (own_ready old s.before s.own p))

  -- and those of a client that has none
  pub all_apart : (given : List Move) (old new : Trail A)
      → AllByRecursion IsFree given → Given given old new → Apart channel held shown old → Apart channel held shown new
  all_apart [] old new free moves p = own_apart old new moves p
  all_apart (first ∷ more) old new free moves p =
      let s = first_given first more old new moves in
      all_apart more s.after new free.1 s.rest
      (apart_step first s.before s.after s.does (free_plain first free.0) (own_apart old s.before s.own p))

  -- all that is held is handed over
  bytes_ready : (now : ℕ) (old new : Trail A) (does : Does old (Hears now (turns.Bytes held)) new)
      → Ready channel held shown old → Ready channel [] shown new
  bytes_ready now old new does p = record {
    here = rest_here channel [] shown now (turns.Bytes held) old new does between;
    tied = rest_tied channel [] shown now (turns.Bytes held) old new does between
        (λ is. hears_open channel now (turns.Bytes held) old does.between does.hears held [] shown p.here tt (refl, refl)
        (unlost channel [] shown now (turns.Bytes held) old does.between does.hears is) p.tied);
    later = later_on (Hears now (turns.Bytes held)) old new does p.later;
  }
    where
      between : At channel [] shown does.between
      between = hears_at channel now (turns.Bytes held) old does.between does.hears held [] shown p.here tt (refl, refl)

-- ---- by what is noted

closed_on : (channel : ChannelView) (told : List Told) → channel.is_open ≡ false → (fold carried channel told).is_open ≡ false
closed_on channel [] shut = shut
closed_on channel (one ∷ more) shut = closed_on (carried channel one) more (by one)
  where
    by : (one : Told) → (carried channel one).is_open ≡ false
    by HangsUp = refl
    by (Dials place within) = shut
    by (Says (Send bytes)) = shut
    by _ = shut

module _ {A : Type 0} (channel : ChannelView) (shown : Shown) where
  pub bytes_noted : (now : ℕ) (held : List ℕ) (old new : Trail A)
      → Given (Hears now (turns.Bytes held) ∷ []) old new → Ready channel held shown old → Ready channel [] shown new
  bytes_noted now held old new given p =
      let s = first_given (Hears now (turns.Bytes held)) [] old new given in
      own_ready channel [] shown s.after new s.rest
      (bytes_ready channel held shown now s.before s.after s.does (own_ready channel held shown old s.before s.own p))

  -- a session moves: what it had is hung up, and the client hears that it is over
  moved_ready : (now : ℕ) (old new : Trail A) (does : Does old (Hears now turns.Cut) new)
      → Loose channel [] shown old → Ready channel [] shown new
  moved_ready now old new does p = record {
    here = rest_here channel [] shown now turns.Cut old new does between;
    tied = rest_tied channel [] shown now turns.Cut old new does between
        (λ kept. down_tied channel [] shown does.between (hears_cut channel now old does.between does.hears [] shown p.here));
    later = later_on channel [] shown (Hears now turns.Cut) old new does p.later;
  }
    where
      between : At channel [] shown does.between
      between = hears_at channel now turns.Cut old does.between does.hears [] [] shown p.here tt refl

  pub moved_noted : (now kept added : ℕ) (is_listed : Bool) (old new : Trail A)
      → Given (Addressed kept added is_listed ∷ HungUp ∷ Ended now ∷ Hears now turns.Cut ∷ []) old new
      → Ready channel [] shown old → Ready channel [] shown new
  moved_noted now kept added is_listed old new given p =
      let r = first_given (Addressed kept added is_listed) (HungUp ∷ Ended now ∷ Hears now turns.Cut ∷ []) old new given in
      let s = first_given HungUp (Ended now ∷ Hears now turns.Cut ∷ []) r.after new r.rest in
      let t = first_given (Ended now) (Hears now turns.Cut ∷ []) s.after new s.rest in
      let u = first_given (Hears now turns.Cut) [] t.after new t.rest in
      own_ready channel [] shown u.after new u.rest (moved_ready now u.before u.after u.does
      (own_loose channel [] shown t.after u.before u.own
      (loose_step channel [] shown (Ended now) t.before t.after t.does tt
      (own_loose channel [] shown s.after t.before t.own
      (loose_step channel [] shown HungUp s.before s.after s.does tt
      (own_loose channel [] shown r.after s.before s.own
      (loose_step channel [] shown (Addressed kept added is_listed) r.before r.after r.does tt
      (own_loose channel [] shown old r.before r.own (record { here = p.here; later = p.later })))))))))

  -- a connection is over, or could not be made: it is closed here
  module _ (shut : channel.is_open ≡ false) where
    empty_shut : (trail : Trail A) → (left_by channel trail).is_open ≡ true → (left_by channel trail).unsent ≡ []
    empty_shut trail there = let e : true ≡ false = sym there ∙ closed_on channel trail.told shut in cc

    cut_apart : (now : ℕ) (old new : Trail A) (does : Does old (Hears now turns.Cut) new)
        → Loose channel [] shown old → Apart channel [] shown new
    cut_apart now old new does p =
        let between = hears_at channel now turns.Cut old does.between does.hears [] [] shown p.here tt refl in
        let down = hears_cut channel now old does.between does.hears [] shown p.here in
        record {
          here = rest_here channel [] shown now turns.Cut old new does between;
          down = (rest_idle channel [] shown now turns.Cut old new does between
              (down, empty_shut does.between)).0;
          empty = empty_shut new;
          later = subst IsLater (sym (stays_by (Hears now turns.Cut) old new does)) p.later;
        }

    pub over_noted : (now : ℕ) (old new : Trail A)
        → Given (Ended now ∷ Hears now turns.Cut ∷ []) old new → Loose channel [] shown old → Apart channel [] shown new
    over_noted now old new given p =
        let s = first_given (Ended now) (Hears now turns.Cut ∷ []) old new given in
        let t = first_given (Hears now turns.Cut) [] s.after new s.rest in
        own_apart channel [] shown t.after new t.rest
        (cut_apart now t.before t.after t.does
        (own_loose channel [] shown s.after t.before t.own
        (loose_step channel [] shown (Ended now) s.before s.after s.does tt (own_loose channel [] shown old s.before s.own p))))

    pub late_noted : (now : ℕ) (old new : Trail A)
        → Given (HungUp ∷ Ended now ∷ Hears now turns.Cut ∷ []) old new → Loose channel [] shown old → Apart channel [] shown new
    late_noted now old new given p =
        let s = first_given HungUp (Ended now ∷ Hears now turns.Cut ∷ []) old new given in
        over_noted now s.after new s.rest
        (loose_step channel [] shown HungUp s.before s.after s.does tt (own_loose channel [] shown old s.before s.own p))

  -- one begins, to a server at a place
  module _ (place : ℕ) (before : Shown) (is : shown ≡ connected place before) (low : place ≤ length before.history.transactions) where
    opened_ready : (now : ℕ) (old new : Trail A) (does : Does old (Hears now turns.Opened) new)
        → Apart channel [] shown old → Ready channel [] shown new
    opened_ready now old new does p =
        let between = opened_at channel now old does.between does.hears shown before place p.here p.down is low p.empty in
        record {
          here = rest_here channel [] shown now turns.Opened old new does between;
          tied = rest_tied channel [] shown now turns.Opened old new does between
              (λ kept. opened_open channel now old does.between does.hears shown before place p.here p.down is low
              (unlost channel [] shown now turns.Opened old does.between does.hears kept));
          later = subst IsLater (sym (stays_by (Hears now turns.Opened) old new does)) p.later;
        }

    pub opened_noted : (now : ℕ) (old new : Trail A)
        → Given (Opened now ∷ Hears now turns.Opened ∷ []) old new → Apart channel [] shown old → Ready channel [] shown new
    opened_noted now old new given p =
        let s = first_given (Opened now) (Hears now turns.Opened ∷ []) old new given in
        let t = first_given (Hears now turns.Opened) [] s.after new s.rest in
        own_ready channel [] shown t.after new t.rest
        (opened_ready now t.before t.after t.does
        (own_apart channel [] shown s.after t.before t.own
        (apart_step channel [] shown (Opened now) s.before s.after s.does tt (own_apart channel [] shown old s.before s.own p))))
