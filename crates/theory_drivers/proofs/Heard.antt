-- What an agent makes of what its client takes: the connection gets what is sent, and goes where the agent lets it go. Output by output,
-- each with the action that it makes.
use Rattle.std.proofs.Common.{◌≡◌, ◌≤◌, ◌++◌, ◌∙◌, ℕ, Bool, true, false, ◌&&◌, List, [], ◌∷◌, length, map, ap, append-nil, append_assoc}
use Rattle.std.proofs.Common.{refl, sym, subst}
use Rattle.std.specs.Prelude.{fold, slice_index_or}
use Rattle.std.specs.List.{flat_map, list_any, FoldsTo}
use Rattle.std.proofs.lemmas.List.Sums.{fold-append}
use Rattle.zk_session.specs.declared.states.State.{State}
use Rattle.zk_conversation.specs.Calls.{Call}
use Rattle.zk_turns.specs.Turns.{Output, Send, Answer, Report, Enters, Drop, Input, Turn, Bytes, Cut, Now, Call as Calling}
use Rattle.zk_turns.specs.Turns.{Opened as Opening}
use Rattle.zk_turns.specs.View.{View}
use Rattle.zk_turns.specs.Rule.{Rule}
use Rattle.zk_turns.proofs.Cases.{by_cond}
use Rattle.zk_dialler.specs.declared.dialler.Dialler.{Dialler}
use Rattle.zk_dialler.specs.Dialling.{is_open}
use Rattle.zk_follow.specs.declared.subject.Subject.{Subject}
use Rattle.zk_follow.specs.declared.news.News.{News}
use Rattle.zk_follow.specs.Following.{news_in, outputs_in, AreReads}
use Rattle.zk_calls.specs.declared.entry.Entry.{Entry}
use Rattle.zk_calls.specs.declared.entry.Ended.{Ended}
use Rattle.zk_calls.specs.declared.entry.Ending.{Ending}
use Rattle.zk_calls.specs.declared.entry.Ending.TheVariants as ending
use Rattle.zk_calls.specs.Lines.{answered, ended, ended_of, settles}
use Rattle.zk_agent.specs.Agents.{is_connected, noted, row_after, HearsSo, LetsGoWhere, Trail}
use Rattle.zk_agent.specs.Calls.{answers, closings, endings, handed, hears, tells, tells_all}
use Rattle.zk_agent.specs.Overlong.{too_long_in, with_too_long}
use Rattle.zk_agent.specs.Replies.{heard_in, is_lost, is_over}
use Rattle.zk_agent.specs.Telling.{Told, Says, HangsUp, closed_told, ended_told, news_told}
use Rattle.zk_agent.proofs.Oversized.{ahead}
use Rattle.zk_driver.specs.Driving.{carried, ChannelView}
use Rattle.theory_serving.specs.Shown.{connected, sent_in, EndsNothing, Shown}
use Rattle.theory_serving.specs.Wires.{is_up}
use Rattle.theory_drivers.proofs.Turned.{bytes_kept, call_kept, cut_down, cut_kept, down_silent, ends_more, let_go, now_kept, opened_ends}
use Rattle.theory_drivers.proofs.Turned.{opened_kept, sent_more, stays_down, stays_up, IsSilent, IsWithin, Kept, StaysUp}
use Rattle.theory_drivers.proofs.Unlost.{any_both, none_over, turn_unlost, IsMuteInput}

-- a function, where what it is of comes before it
pub ap_at : {X Y : Type 0} (x y : X) (f : X → Y) → x ≡ y → f x ≡ f y
ap_at x y f e = ap f e

-- ---- what is told does to a connection

abbrev pub sends : ChannelView → List Output → ChannelView
sends channel outputs = record channel { unsent = channel.unsent ++ sent_in outputs }

ended_one : (channel : ChannelView) (ending : Ending) (one : Ended) → carried channel (ended_told ending one) ≡ channel
ended_one channel (ending.Late now) one = refl
ended_one channel ending.Expired one = refl
ended_one channel ending.Lost one = refl
ended_one channel (ending.LostOf ticket) one = refl

ended_all : (channel : ChannelView) (ending : Ending) (list : List Ended) → fold carried channel (map (ended_told ending) list) ≡ channel
ended_all channel ending [] = refl
ended_all channel ending (one ∷ more) =
    ap (λ c. fold carried c (map (ended_told ending) more)) (ended_one channel ending one) ∙ ended_all channel ending more

pub endings_keep : {A : Type 0} (channel : ChannelView) (ending : Ending) (entries : List (Entry A))
    → fold carried channel (endings ending entries) ≡ channel
endings_keep channel ending entries = ended_all channel ending (map ended_of (ended ending entries))

closed_all : (channel : ChannelView) (list : List Ended) → fold carried channel (map closed_told list) ≡ channel
closed_all channel [] = refl
closed_all channel (one ∷ more) = closed_all channel more

pub closings_keep : {A : Type 0} (channel : ChannelView) (entries : List (Entry A)) → fold carried channel (closings entries) ≡ channel
closings_keep channel entries = closed_all channel (map ended_of entries)

news_keep : (channel : ChannelView) (news : List (ℕ × News)) → fold carried channel (map news_told news) ≡ channel
news_keep channel [] = refl
news_keep channel (one ∷ more) = news_keep channel more

two_keep : (channel : ChannelView) (first second : List Told)
    → fold carried channel first ≡ channel → fold carried channel second ≡ channel → fold carried channel (first ++ second) ≡ channel
two_keep channel first second a b = fold-append carried channel first second ∙ ap (λ c. fold carried c second) a ∙ b

none_sent : (channel : ChannelView) → channel ≡ sends channel []
none_sent channel = ap (λ unsent. record channel { unsent = unsent }) (sym (append-nil channel.unsent))

then_tells : (channel : ChannelView) (first rest : List Told)
    → fold carried channel first ≡ channel → fold carried channel (first ++ rest) ≡ fold carried channel rest
then_tells channel first rest a = fold-append carried channel first rest ∙ ap (λ c. fold carried c rest) a

pub tells_sent : {A : Type 0} (channel : ChannelView) (entries : List (Entry A)) (outputs : List Output)
    → fold carried channel (tells_all entries outputs) ≡ sends channel outputs
tells_sent channel entries [] = none_sent channel
tells_sent channel entries (Send bytes ∷ outputs) =
    tells_sent (record channel { unsent = channel.unsent ++ bytes }) (hears entries (Send bytes)) outputs
    ∙ ap (λ unsent. record channel { unsent = unsent }) (append_assoc channel.unsent bytes (sent_in outputs))
tells_sent channel entries (Answer ticket outcome ∷ outputs) =
    then_tells channel (tells entries (Answer ticket outcome)) (tells_all (hears entries (Answer ticket outcome)) outputs)
    (two_keep channel (answers ticket outcome entries) (endings (ending.LostOf ticket) (answered ticket outcome entries))
    (by_cond (λ told. fold carried channel told ≡ channel) (settles ticket outcome entries)
    (Says (Answer ticket outcome) ∷ []) [] refl refl)
    (endings_keep channel (ending.LostOf ticket) (answered ticket outcome entries)))
    ∙ tells_sent channel (hears entries (Answer ticket outcome)) outputs
tells_sent channel entries (Enters state ∷ outputs) =
    then_tells channel (tells entries (Enters state)) (tells_all (hears entries (Enters state)) outputs)
    (two_keep channel (endings ending.Lost entries) (Says (Enters state) ∷ []) (endings_keep channel ending.Lost entries) refl)
    ∙ tells_sent channel (hears entries (Enters state)) outputs
tells_sent channel entries (Report path side event ∷ outputs) = tells_sent channel entries outputs
tells_sent channel entries (Drop fault ∷ outputs) = tells_sent channel entries outputs

-- nothing is sent ahead of what the client says
sends_ahead : {A : Type 0} (channel : ChannelView) (line : List (Entry A)) (outputs : List Output)
    → sends channel (with_too_long line outputs) ≡ sends channel outputs
sends_ahead channel line outputs =
    ahead (λ first. sends channel (first ++ outputs) ≡ sends channel outputs) refl (λ ticket. refl) line (too_long_in outputs)

-- ---- a trail, over a connection as it was before it

abbrev pub left_by : {A : Type 0} → ChannelView → Trail A → ChannelView
left_by channel trail = fold carried channel trail.told

abbrev pub At : {A : Type 0} → ChannelView → List ℕ → Shown → Trail A → Type 0
At channel held shown trail = Kept trail.view (left_by channel trail).is_open (left_by channel trail).unsent held shown

noted_phase : {A : Type 0} (timeout now : ℕ) (state : State) (ends_row : Bool) (dialler : Dialler A)
    → (noted timeout now state (row_after ends_row dialler)).phase ≡ dialler.phase
noted_phase {A} timeout now state ends_row dialler =
    by_cond (λ (d : Dialler A). d.phase ≡ dialler.phase) (is_connected state) _ (row_after ends_row dialler) row row
  where
    row : (row_after ends_row dialler).phase ≡ dialler.phase
    row = by_cond (λ (d : Dialler A). d.phase ≡ dialler.phase) ends_row _ dialler refl refl

module _ {A : Type 0} (channel : ChannelView) (now : ℕ) (input : Input) (old new : Trail A) (hears : HearsSo now input old new) where
  abbrev given : List Output
  given = hears.takes.given

  -- what is told before the connection is let go
  told_before : fold carried channel hears.told ≡ sends (left_by channel old) given
  told_before =
      ap (fold carried channel) hears.takes.told
      ∙ fold-append carried channel (old.told ++ tells_all handed_line (with_too_long handed_line given)) (map news_told news)
      ∙ news_keep (fold carried channel (old.told ++ tells_all handed_line (with_too_long handed_line given))) news
      ∙ fold-append carried channel old.told (tells_all handed_line (with_too_long handed_line given))
      ∙ tells_sent (left_by channel old) handed_line (with_too_long handed_line given)
      ∙ sends_ahead (left_by channel old) handed_line given
    where
      handed_line : List (Entry A)
      handed_line = handed input old.line

      news : List (ℕ × News)
      news = flat_map (news_in new.view given) hears.takes.stepped

  at_after : (held : List ℕ) (shown : Shown)
      → Kept new.view (left_by channel old).is_open ((left_by channel old).unsent ++ sent_in given) held shown → At channel held shown new
  at_after held shown kept = by (hears.heard.is_over && is_open dialler.phase) hears.lets_go
    where
      before : Kept new.view (fold carried channel hears.told).is_open (fold carried channel hears.told).unsent held shown
      before = subst (λ (c : ChannelView). Kept new.view c.is_open c.unsent held shown) (sym told_before) kept

      dialler : Dialler A
      dialler = noted new.view.saved.session.timeout now new.view.standing.state (row_after hears.heard.ends_row old.dialler)

      by : (is_there : Bool) → LetsGoWhere is_there new.view.saved.session.timeout now dialler new.dialler hears.told new.told
          → At channel held shown new
      by true goes =
          subst (λ (c : ChannelView). Kept new.view c.is_open c.unsent held shown)
          (sym (ap (fold carried channel) goes.1 ∙ fold-append carried channel hears.told (HangsUp ∷ [])))
          (let_go new.view (fold carried channel hears.told).is_open (fold carried channel hears.told).unsent held []
          shown shown before refl)
      by false goes = subst (λ told. Kept new.view (fold carried channel told).is_open (fold carried channel told).unsent held shown)
          (sym goes.1) before

  -- a connection that is not over is not let go
  phase_after : list_any is_over given ≡ false → new.dialler.phase ≡ old.dialler.phase
  phase_after over = by (hears.heard.is_over && is_open dialler.phase) not_over hears.lets_go ∙ same
    where
      dialler : Dialler A
      dialler = noted new.view.saved.session.timeout now new.view.standing.state (row_after hears.heard.ends_row old.dialler)

      same : dialler.phase ≡ old.dialler.phase
      same = noted_phase new.view.saved.session.timeout now new.view.standing.state hears.heard.ends_row old.dialler

      not_over : (hears.heard.is_over && is_open dialler.phase) ≡ false
      not_over = ap (λ b. b && is_open dialler.phase) (ap_at hears.heard (heard_in given) (λ h. h.is_over) hears.takes.heard ∙ over)

      by : (is_there : Bool) → is_there ≡ false
          → LetsGoWhere is_there new.view.saved.session.timeout now dialler new.dialler hears.told new.told
          → new.dialler.phase ≡ dialler.phase
      by true is goes = let e : true ≡ false = is in cc
      by false is goes = ap (λ (d : Dialler A). d.phase) goes.0

-- ---- calls that read subjects

-- a turn is a call, with its outputs
abbrev as_call : Turn → ℕ → Call → Turn
as_call turn ticket call = record { input = Calling ticket call; outputs = turn.outputs }

-- What turns leave of a client that was kept: it is kept, and where it has a connection then, it had one and nothing was ended.
pub record TurnsKeep (view after : View) (is_there : Bool) (unsent then_held : List ℕ) (shown : Shown)
    (outputs : List Output) : Type 0 where
  pub kept : Kept after is_there (unsent ++ sent_in outputs) then_held shown
  pub ups : is_up after ≡ true → StaysUp view outputs
  pub downs : is_up view ≡ false → (is_up after ≡ false) × IsSilent outputs

no_turn : (view : View) (is_there : Bool) (unsent held : List ℕ) (shown : Shown)
    → Kept view is_there unsent held shown → TurnsKeep view view is_there unsent held shown []
no_turn view is_there unsent held shown k = record {
  kept = subst (λ sent. Kept view is_there sent held shown) (sym (append-nil unsent)) k;
  ups = λ up. record { up = up; ends = tt };
  downs = λ down. (down, record { sends = refl; ends = tt });
}

turns_on : (view between after : View) (is_there : Bool) (unsent held then_held : List ℕ) (shown : Shown) (first second : List Output)
    → TurnsKeep view between is_there unsent held shown first
    → TurnsKeep between after is_there (unsent ++ sent_in first) then_held shown second
    → TurnsKeep view after is_there unsent then_held shown (first ++ second)
turns_on view between after is_there unsent held then_held shown first second a b = record {
  kept = subst (λ sent. Kept after is_there sent then_held shown)
      (append_assoc unsent (sent_in first) (sent_in second) ∙ ap (λ sent. unsent ++ sent) (sym (sent_more first second))) b.kept;
  ups = λ up. let later = b.ups up in let earlier = a.ups later.up in
      record { up = earlier.up; ends = ends_more first second earlier.ends later.ends };
  downs = λ down.
      let earlier = a.downs down in
      let later = b.downs earlier.0 in (
        later.0,
        record {
          sends = sent_more first second ∙ ap (λ sent. sent ++ sent_in second) earlier.1.sends ∙ later.1.sends;
          ends = ends_more first second earlier.1.ends later.1.ends;
        },
      );
}

-- one turn with which no connection begins
one_turn_keeps : (view after : View) (is_there : Bool) (unsent held then_held : List ℕ) (shown : Shown) (input : Input)
    (outputs : List Output) (k : Kept view is_there unsent held shown)
    → Rule view (record { input = input; outputs = outputs }) after → IsWithin input
    → Kept after is_there (unsent ++ sent_in outputs) then_held shown → TurnsKeep view after is_there unsent then_held shown outputs
one_turn_keeps view after is_there unsent held then_held shown input outputs k rule within kept = record {
  kept = kept;
  ups = λ up. stays_up view after k.met k.was input outputs rule within up;
  downs = λ down. (stays_down view after k.met k.was input outputs rule within down, down_silent view after input outputs rule within down);
}

reads_keep : {A : Type 0} (subjects : List (Subject A)) (turns : List Turn) (view after : View) (is_there : Bool) (unsent held : List ℕ)
    (shown : Shown) → AreReads subjects turns
    → FoldsTo Rule view turns after → Kept view is_there unsent held shown
    → TurnsKeep view after is_there unsent held shown (outputs_in turns)
reads_keep subjects [] view after is_there unsent held shown reads same k =
    subst (λ v. TurnsKeep view v is_there unsent held shown []) same (no_turn view is_there unsent held shown k)
reads_keep subjects (turn ∷ turns) view after is_there unsent held shown reads chain k =
    turns_on view chain.0 after is_there unsent held held shown turn.outputs (outputs_in turns) one
    (reads_keep subjects turns chain.0 after is_there (unsent ++ sent_in turn.outputs) held shown reads.1 chain.2 one.kept)
  where
    ticket : ℕ
    ticket = (slice_index_or subjects reads.0.0 reads.0.1).ticket

    call : Call
    call = reads.0.4.0

    rule : Rule view (as_call turn ticket call) chain.0
    rule = subst (λ input. Rule view (record { input = input; outputs = turn.outputs }) chain.0) reads.0.4.1 chain.1

    one : TurnsKeep view chain.0 is_there unsent held shown turn.outputs
    one = one_turn_keeps view chain.0 is_there unsent held held shown (Calling ticket call) turn.outputs k rule tt
        (call_kept view chain.0 is_there unsent held shown k ticket call turn.outputs rule)

reads_unlost : {A : Type 0} (subjects : List (Subject A)) (turns : List Turn) (view after : View)
    → AreReads subjects turns → FoldsTo Rule view turns after
    → list_any is_lost (outputs_in turns) ≡ false
reads_unlost subjects [] view after reads same = refl
reads_unlost subjects (turn ∷ turns) view after reads chain =
    any_both is_lost turn.outputs (outputs_in turns)
    (turn_unlost view chain.0 turn.input turn.outputs chain.1 (subst IsMuteInput (sym reads.0.4.1) tt))
    (reads_unlost subjects turns chain.0 after reads.1 chain.2)

-- ---- the client takes an input

-- all that is held is handed over, or stays
abbrev pub IsHanded : Input → (held then_held : List ℕ) → Type 0
IsHanded (Bytes bytes) held then_held = (bytes ≡ held) × (then_held ≡ [])
IsHanded input held then_held = then_held ≡ held

pub input_keeps : (view after : View) (is_there : Bool) (unsent held then_held : List ℕ) (shown : Shown)
    (input : Input) (outputs : List Output)
    → Kept view is_there unsent held shown
    → Rule view (record { input = input; outputs = outputs }) after → IsWithin input → IsHanded input held then_held
    → Kept after is_there (unsent ++ sent_in outputs) then_held shown
input_keeps view after is_there unsent held then_held shown Opening outputs k rule within is = absurd within
input_keeps view after is_there unsent held then_held shown (Bytes bytes) outputs k rule within is =
    subst (λ h. Kept after is_there (unsent ++ sent_in outputs) h shown) (sym is.1)
    (bytes_kept view after is_there unsent held shown k outputs
    (subst (λ b. Rule view (record { input = Bytes b; outputs = outputs }) after) is.0 rule))
input_keeps view after is_there unsent held then_held shown Cut outputs k rule within is =
    cut_kept view after is_there unsent held shown k outputs (unsent ++ sent_in outputs) then_held rule
input_keeps view after is_there unsent held then_held shown (Now moment) outputs k rule within is =
    subst (λ h. Kept after is_there (unsent ++ sent_in outputs) h shown) (sym is)
    (now_kept view after is_there unsent held shown k moment outputs rule)
input_keeps view after is_there unsent held then_held shown (Calling ticket call) outputs k rule within is =
    subst (λ h. Kept after is_there (unsent ++ sent_in outputs) h shown) (sym is)
    (call_kept view after is_there unsent held shown k ticket call outputs rule)

module _ {A : Type 0} (channel : ChannelView) (now : ℕ) (input : Input) (old new : Trail A) (hears : HearsSo now input old new)
    (held then_held : List ℕ) (shown : Shown) (k : At channel held shown old) where
  abbrev first : List Output
  first = hears.takes.steps.first

  abbrev second : List Output
  second = hears.takes.steps.second

  abbrev told_first : View
  told_first = hears.takes.steps.chain.0

  abbrev taken_second : View
  taken_second = hears.takes.steps.chain.2.0

  now_turn : TurnsKeep old.view told_first (left_by channel old).is_open (left_by channel old).unsent held shown first
  now_turn = one_turn_keeps old.view told_first (left_by channel old).is_open (left_by channel old).unsent held held shown
      (Now now) first k hears.takes.steps.chain.1 tt
      (now_kept old.view told_first
      (left_by channel old).is_open (left_by channel old).unsent held shown k now first hears.takes.steps.chain.1)

  -- the whole, where no connection begins
  pub within_keeps : IsWithin input → IsHanded input held then_held
      → TurnsKeep old.view new.view (left_by channel old).is_open (left_by channel old).unsent then_held shown hears.takes.given
  within_keeps within is =
      subst (λ given. TurnsKeep old.view new.view (left_by channel old).is_open (left_by channel old).unsent then_held shown given)
      (sym hears.takes.steps.said)
      (turns_on old.view taken_second new.view (left_by channel old).is_open (left_by channel old).unsent then_held then_held shown
      (first ++ second) (outputs_in hears.takes.steps.calls) two
      (reads_keep old.subjects hears.takes.steps.calls taken_second new.view (left_by channel
      old).is_open ((left_by channel old).unsent ++ sent_in (first ++ second)) then_held shown hears.takes.steps.reads
      hears.takes.steps.chain.2.2 two.kept))
    where
      input_turn : TurnsKeep told_first taken_second
          (left_by channel old).is_open ((left_by channel old).unsent ++ sent_in first) then_held shown second
      input_turn = one_turn_keeps told_first taken_second (left_by channel old).is_open ((left_by channel old).unsent ++ sent_in first) held
          then_held shown input second now_turn.kept hears.takes.steps.chain.2.1 within
          (input_keeps told_first taken_second (left_by channel old).is_open ((left_by channel old).unsent ++ sent_in first) held then_held
          shown input second now_turn.kept hears.takes.steps.chain.2.1 within is)

      two : TurnsKeep old.view taken_second (left_by channel old).is_open (left_by channel old).unsent then_held shown (first ++ second)
      two = turns_on old.view told_first taken_second
          (left_by channel old).is_open (left_by channel old).unsent held then_held shown first second now_turn input_turn

  pub hears_at : IsWithin input → IsHanded input held then_held → At channel then_held shown new
  hears_at within is = at_after channel now input old new hears then_held shown (within_keeps within is).kept

  -- a connection that the client has then is there
  pub hears_open : IsWithin input → IsHanded input held then_held → list_any is_lost hears.takes.given ≡ false
      → (is_up old.view ≡ true → is_open old.dialler.phase ≡ true)
      → is_up new.view ≡ true → is_open new.dialler.phase ≡ true
  hears_open within is unlost was up =
      let stays = (within_keeps within is).ups up in
      ap is_open (phase_after channel now input old new hears (none_over hears.takes.given stays.ends unlost)) ∙ was stays.up

  pub hears_down : IsWithin input → IsHanded input held then_held → is_up old.view ≡ false
      → (is_up new.view ≡ false) × IsSilent hears.takes.given
  hears_down within is down = (within_keeps within is).downs down

  -- nothing is sent on it
  pub hears_empty : IsSilent hears.takes.given → ((left_by channel old).is_open ≡ true → (left_by channel old).unsent ≡ [])
      → (left_by channel new).is_open ≡ true → (left_by channel new).unsent ≡ []
  hears_empty silent was there = by (hears.heard.is_over && is_open dialler.phase) hears.lets_go there
    where
      before : (fold carried channel hears.told).is_open ≡ true → (fold carried channel hears.told).unsent ≡ []
      before is =
          let e = told_before channel now input old new hears in
          ap (λ (c : ChannelView). c.unsent) e
          ∙ ap (λ sent. sent ++ sent_in hears.takes.given) (was (sym (ap (λ (c : ChannelView). c.is_open) e) ∙ is)) ∙ silent.sends

      dialler : Dialler A
      dialler = noted new.view.saved.session.timeout now new.view.standing.state (row_after hears.heard.ends_row old.dialler)

      by : (is_there : Bool) → LetsGoWhere is_there new.view.saved.session.timeout now dialler new.dialler hears.told new.told
          → (left_by channel new).is_open ≡ true → (left_by channel new).unsent ≡ []
      by true goes is =
          let e = ap (fold carried channel) goes.1 ∙ fold-append carried channel hears.told (HangsUp ∷ []) in
          let f : false ≡ true = sym (ap (λ (c : ChannelView). c.is_open) e) ∙ is in cc
      by false goes is = ap (λ told. (fold carried channel told).unsent) goes.1
          ∙ before (sym (ap (λ told. (fold carried channel told).is_open) goes.1) ∙ is)

-- after the end of a connection a client has none
pub hears_cut : {A : Type 0} (channel : ChannelView) (now : ℕ) (old new : Trail A) (hears : HearsSo now Cut old new) (held : List ℕ)
    (shown : Shown) → At channel held shown old → is_up new.view ≡ false
hears_cut channel now old new hears held shown k =
    (reads.downs (by (is_up taken) refl)).0
  where
    taken : View
    taken = hears.takes.steps.chain.2.0

    told : TurnsKeep old.view hears.takes.steps.chain.0
        (left_by channel old).is_open (left_by channel old).unsent held shown hears.takes.steps.first
    told = now_turn channel now Cut old new hears held held shown k

    cut : Kept taken (left_by channel old).is_open [] held shown
    cut = cut_kept hears.takes.steps.chain.0 taken
        (left_by channel old).is_open ((left_by channel old).unsent ++ sent_in hears.takes.steps.first) held shown told.kept
        hears.takes.steps.second [] held hears.takes.steps.chain.2.1

    reads : TurnsKeep taken new.view (left_by channel old).is_open [] held shown (outputs_in hears.takes.steps.calls)
    reads = reads_keep old.subjects hears.takes.steps.calls taken new.view
        (left_by channel old).is_open [] held shown hears.takes.steps.reads hears.takes.steps.chain.2.2 cut

    by : (b : Bool) → is_up taken ≡ b → b ≡ false
    by true up = absurd
        (cut_down hears.takes.steps.chain.0 taken told.kept.met told.kept.was hears.takes.steps.second hears.takes.steps.chain.2.1 up)
    by false is = refl

-- no call that is handed over, and no end of a connection, brings a reply
pub hears_unlost : {A : Type 0} (now : ℕ) (input : Input) (old new : Trail A) (hears : HearsSo now input old new)
    → IsMuteInput input → list_any is_lost hears.takes.given ≡ false
hears_unlost now input old new hears mute =
    let steps = hears.takes.steps in
    ap (list_any is_lost) steps.said
    ∙ any_both is_lost (steps.first ++ steps.second) (outputs_in steps.calls)
    (any_both is_lost steps.first steps.second (turn_unlost old.view steps.chain.0 (Now now) steps.first steps.chain.1 tt)
    (turn_unlost steps.chain.0 steps.chain.2.0 input steps.second steps.chain.2.1 mute))
    (reads_unlost old.subjects steps.calls steps.chain.2.0 new.view steps.reads steps.chain.2.2)

-- ---- a connection begins

-- of a client that had none, on a connection on which nothing is to be written, to a server at a place
module _ {A : Type 0} (channel : ChannelView) (now : ℕ) (old new : Trail A) (hears : HearsSo now Opening old new) (shown before : Shown)
    (place : ℕ) (k : At channel [] shown old) (down : is_up old.view ≡ false) where
  abbrev opened_view : View
  opened_view = hears.takes.steps.chain.2.0

  moment_turn : TurnsKeep old.view hears.takes.steps.chain.0
      (left_by channel old).is_open (left_by channel old).unsent [] shown hears.takes.steps.first
  moment_turn = now_turn channel now Opening old new hears [] [] shown k

  abbrev later : List Output
  later = outputs_in hears.takes.steps.calls

  module _ (is : shown ≡ connected place before) (low : place ≤ length before.history.transactions) where
    began : Kept opened_view true (sent_in hears.takes.steps.second) [] shown
    began = opened_kept hears.takes.steps.chain.0 opened_view
        (left_by channel old).is_open ((left_by channel old).unsent ++ sent_in hears.takes.steps.first) [] shown moment_turn.kept place
        before hears.takes.steps.second is low
        hears.takes.steps.chain.2.1

    read : TurnsKeep opened_view new.view true (sent_in hears.takes.steps.second) [] shown later
    read = reads_keep old.subjects hears.takes.steps.calls opened_view new.view true
        (sent_in hears.takes.steps.second) [] shown hears.takes.steps.reads hears.takes.steps.chain.2.2 began

    all_sent : (unsent : List ℕ) → unsent ≡ [] → sent_in hears.takes.steps.second ++ sent_in later ≡ unsent ++ sent_in hears.takes.given
    all_sent unsent none =
        sym (ap (λ sent. sent ++ (sent_in hears.takes.steps.second ++ sent_in later)) (moment_turn.downs down).1.sends)
        ∙ sym (append_assoc (sent_in hears.takes.steps.first) (sent_in hears.takes.steps.second) (sent_in later))
        ∙ ap (λ sent. sent ++ sent_in later) (sym (sent_more hears.takes.steps.first hears.takes.steps.second))
        ∙ sym (sent_more (hears.takes.steps.first ++ hears.takes.steps.second) later)
        ∙ ap sent_in (sym hears.takes.steps.said)
        ∙ ap (λ sent. sent ++ sent_in hears.takes.given) (sym none)

    pub opened_at : ((left_by channel old).is_open ≡ true → (left_by channel old).unsent ≡ []) → At channel [] shown new
    opened_at empty = at_after channel now Opening old new hears [] shown (by (left_by channel old).is_open refl)
      where
        by : (there : Bool) → (left_by channel old).is_open ≡ there
            → Kept new.view there ((left_by channel old).unsent ++ sent_in hears.takes.given) [] shown
        by true there = subst (λ sent. Kept new.view true sent [] shown) (all_sent (left_by channel old).unsent (empty there)) read.kept
        by false there = let_go new.view true (sent_in hears.takes.steps.second ++ sent_in later) []
            ((left_by channel old).unsent ++ sent_in hears.takes.given) shown shown read.kept refl

    pub opened_open : list_any is_lost hears.takes.given ≡ false → is_up new.view ≡ true → is_open new.dialler.phase ≡ true
    opened_open unlost up =
        let stays = read.ups up in
        let ends : EndsNothing hears.takes.given =
        subst EndsNothing (sym hears.takes.steps.said)
        (ends_more (hears.takes.steps.first ++ hears.takes.steps.second) later
        (ends_more hears.takes.steps.first hears.takes.steps.second (moment_turn.downs down).1.ends
        (opened_ends hears.takes.steps.chain.0 opened_view moment_turn.kept.met moment_turn.kept.was hears.takes.steps.second
        hears.takes.steps.chain.2.1 stays.up)) stays.ends) in
        ap is_open (phase_after channel now Opening old new hears (none_over hears.takes.given ends unlost)) ∙ hears.may
