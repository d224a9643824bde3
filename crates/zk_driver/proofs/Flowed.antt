-- What goes through a driver: deeds one after the other; and as long as one connection lasts, that bytes come and go whole. What a read
-- brings is held until the agent is handed it, so that at each point what it was handed and what is held are the first bytes of what the
-- stream had to give; and what the stream took and what is unsent are what was unsent at first, and was sent since.
use Rattle.std.proofs.Common.{◌≡◌, ◌++◌, ◌∙◌, ℕ, Bool, true, false, List, [], ◌∷◌, ap, append-nil, append_assoc, refl, sym, subst, Option}
use Rattle.std.proofs.Common.{Some, None}
use Rattle.std.specs.Prelude.{Result, Ok, Err, OnOk, IfSome, fold}
use Rattle.std.specs.List.{flat_map, FoldsTo}
use Rattle.std.specs.Io.KnownBytes.{Appends, Consumes}
use Rattle.zk_turns.specs.Turns.{Send}
use Rattle.zk_agent.specs.Telling.{Told, Says, Dials, HangsUp, told_by}
use Rattle.zk_agent.specs.declared.input.AgentInput.{AgentInput}
use Rattle.zk_agent.specs.declared.input.AgentInput.TheVariants as happens
use Rattle.zk_driver.specs.Driving.{carried, closed, ChannelView, Course, Hands, IsAsked, Meets, Written, Looked, Noted, Takes}
use Rattle.zk_link.specs.FarEnds.{FarEnd, Reached}
use Rattle.zk_link.specs.Streams.{Sends}
use Rattle.zk_driver.specs.Flowing.{bytes_in, frame_of, handed_by, sent_in, AreWithin, Asked, BytesComeWhole, BytesGoWhole, Carries, Deed}
use Rattle.zk_driver.specs.Flowing.{Flow, Flows, Lasts, Made}
use Rattle.zk_driver.specs.inner.Flowing.{HandsOver}
use Rattle.zk_link.proofs.Streaming.{appends_none, appends_on}

-- ---- deeds, one after the other

carries_on : {A : Type 0} {far : FarEnd} (deeds more : List (Deed A)) (old between new : Flow A far)
    → FoldsTo Carries old deeds between → FoldsTo Carries between more new
    → FoldsTo Carries old (deeds ++ more) new
carries_on {A} {far} [] more old between new same rest = subst (λ (f : Flow A far). FoldsTo Carries f more new) (sym same) rest
carries_on (deed ∷ deeds) more old between new carries rest =
    (carries.0, carries.1, carries_on deeds more carries.0 between new carries.2 rest)

pub flow_same : {A : Type 0} {far : FarEnd} (old new : Flow A far) → old ≡ new → Flows old new
flow_same old new is = record { deeds = []; carries = is }

pub flow_one : {A : Type 0} {far : FarEnd} (deed : Deed A) (old new : Flow A far) → Carries old deed new → Flows old new
flow_one deed old new carries = record { deeds = deed ∷ []; carries = (new, carries, refl) }

pub flow_after : {A : Type 0} {far : FarEnd} (old between new : Flow A far) → Flows old between → Flows between new → Flows old new
flow_after old between new first rest =
    record { deeds = first.deeds ++ rest.deeds; carries = carries_on first.deeds rest.deeds old between new first.carries rest.carries }

pub ok_flow_after : {A X E : Type 0} {far : FarEnd} (result : Result X E) (old between new : Flow A far)
    → Flows old between → OnOk result (Flows between new)
    → OnOk result (Flows old new)
ok_flow_after (Ok x) old between new first rest = flow_after old between new first rest
ok_flow_after (Err e) old between new first rest = tt

-- what happened is told to the agent
pub flow_noted : {A : Type 0} {far : FarEnd} (input : AgentInput A) (old new : Flow A far) (channel : ChannelView) (known : Reached far)
    → Meets old.course.channel input channel → bytes_in input ≡ old.held
    → ((between : Flow A far) → (between.course.channel.is_open ≡ true → between.known ≡ known) → Lasts input old between)
    → HandsOver input (record { course = record old.course { channel = channel }; known = known; held = [] }) new → Flows old new
flow_noted input old new channel known meets bytes lasts hands = record {
  deeds = Made (Noted hands.now input) ∷ Made Written ∷ [];
  carries = (hands.between, ((channel, meets, hands.takes), lasts hands.between hands.lasts, bytes, hands.held), (new, hands.writes, refl));
}

pub ok_flow_noted : {A X E : Type 0} {far : FarEnd} (result : Result X E) (input : AgentInput A) (old new : Flow A far)
    (channel : ChannelView) (known : Reached far)
    → Meets old.course.channel input channel → bytes_in input ≡ old.held
    → ((between : Flow A far) → (between.course.channel.is_open ≡ true → between.known ≡ known) → Lasts input old between)
    → OnOk result (HandsOver input (record { course = record old.course { channel = channel }; known = known; held = [] }) new)
    → OnOk result (Flows old new)
ok_flow_noted (Ok x) input old new channel known meets bytes lasts hands = flow_noted input old new channel known meets bytes lasts hands
ok_flow_noted (Err e) input old new channel known meets bytes lasts hands = tt

-- the program asks for something
pub flow_asked : {A : Type 0} {far : FarEnd} (input : AgentInput A) (old new : Flow A far)
    → old.held ≡ [] → IsAsked input → HandsOver input old new → Flows old new
flow_asked input old new held asked hands = record {
  deeds = Asked hands.now input ∷ Made Written ∷ [];
  carries = (hands.between, (hands.takes, asked, hands.lasts, held, hands.held), (new, hands.writes, refl));
}

pub ok_flow_asked : {A X E : Type 0} {far : FarEnd} (result : Result X E) (input : AgentInput A) (old new : Flow A far)
    → old.held ≡ [] → IsAsked input → OnOk result (HandsOver input old new)
    → OnOk result (Flows old new)
ok_flow_asked (Ok x) input old new held asked hands = flow_asked input old new held asked hands
ok_flow_asked (Err e) input old new held asked hands = tt

-- ---- a connection that is there was there

open_carried : (channel : ChannelView) (told : List Told) → (fold carried channel told).is_open ≡ true
    → (channel.is_open ≡ true) × ((fold carried channel told).unsent ≡ channel.unsent ++ flat_map frame_of told)
open_carried channel [] there = (there, sym (append-nil channel.unsent))
open_carried channel (HangsUp ∷ told) there = let e : false ≡ true = (open_carried closed told there).0 in cc
open_carried channel (Says (Send bytes) ∷ told) there =
    let rest = open_carried (record channel { unsent = channel.unsent ++ bytes }) told there in
    (rest.0, rest.1 ∙ append_assoc channel.unsent bytes (flat_map frame_of told))
open_carried channel (Dials place within ∷ told) there =
    open_carried (record channel { attempt = Some (record { place = place; within_ms = within }) }) told there
open_carried channel (_ ∷ told) there = open_carried channel told there

-- the agent took an input
open_taken : {A : Type 0} (now : ℕ) (input : AgentInput A) (old new : Course A) (takes : Takes now input old new)
    → new.channel.is_open ≡ true
    → (old.channel.is_open ≡ true) × (new.channel.unsent ≡ old.channel.unsent ++ flat_map frame_of (told_by takes.actions))
open_taken now input old new takes there =
    let was = open_carried old.channel (told_by takes.actions) (sym (ap (λ (c : ChannelView). c.is_open) takes.channel) ∙ there) in
    (was.0, ap (λ (c : ChannelView). c.unsent) takes.channel ∙ was.1)

-- a connection that is over is none after what the agent said to it
unless_true : (b : Bool) → (b ≡ true → ⊥) → b ≡ false
unless_true true never = absurd (never refl)
unless_true false never = refl

pub ok_stays_shut : {A X E : Type 0} (result : Result X E) (input : AgentInput A) (old new : Course A)
    → old.channel.is_open ≡ false → OnOk result (Hands input old new)
    → OnOk result (new.channel.is_open ≡ false)
ok_stays_shut (Ok x) input old new shut hands = unless_true new.channel.is_open (λ there.
    let was = open_taken hands.now input old hands.between hands.takes (sym hands.writes.0.is_open ∙ there) in
    let e : false ≡ true = sym shut ∙ was.0 in cc)
ok_stays_shut (Err e) input old new shut hands = tt

-- one deed, with which no connection begins
pub open_before : {A : Type 0} {far : FarEnd} (deed : Deed A) (old new : Flow A far) → Carries old deed new → AreWithin (deed ∷ [])
    → new.course.channel.is_open ≡ true
    → old.course.channel.is_open ≡ true
open_before (Made Written) old new carries within there = sym carries.0.0.is_open ∙ there
open_before (Made (Looked look)) old new carries within there = sym carries.0.0.is_open ∙ there
open_before (Made (Noted now happens.Opened)) old new carries within there = absurd within
open_before (Made (Noted now happens.Failed)) old new carries within there =
    let takes = carries.0.2 in
    let was = open_taken now happens.Failed (record old.course { channel = carries.0.0 }) new.course takes there in
    let e : true ≡ false = sym was.0 ∙ ap (λ (c : ChannelView). c.is_open) carries.0.1.1 in cc
open_before (Made (Noted now happens.Cut)) old new carries within there = carries.0.1.1
open_before (Made (Noted now (happens.Bytes bytes))) old new carries within there = carries.0.1.1
open_before (Made (Noted now happens.Moment)) old new carries within there =
    let was = open_taken now happens.Moment (record old.course { channel = carries.0.0 }) new.course carries.0.2 there in
    sym (ap (λ (c : ChannelView). c.is_open) carries.0.1.1) ∙ was.0
open_before (Made (Noted now input)) old new carries within there = absurd carries.0.1
open_before (Asked now input) old new carries within there = (open_taken now input old.course new.course carries.0 there).0

-- what is sent by one that leaves a connection there, which is the one that was there
pub goes_on : {A : Type 0} {far : FarEnd} (now : ℕ) (input : AgentInput A) (old new : Flow A far)
    (carries : Carries old (Made (Noted now input)) new)
    → AreWithin (Made (Noted now input) ∷ [])
    → new.course.channel.is_open ≡ true
    → (new.known ≡ old.known) × (new.course.channel.unsent ≡ old.course.channel.unsent ++ flat_map frame_of (told_by carries.0.2.actions))
goes_on now happens.Opened old new carries within there = absurd within
goes_on now happens.Failed old new carries within there =
    let was = open_taken now happens.Failed (record old.course { channel = carries.0.0 }) new.course carries.0.2 there in
    let e : true ≡ false = sym was.0 ∙ ap (λ (c : ChannelView). c.is_open) carries.0.1.1 in cc
goes_on now happens.Cut old new carries within there =
    let was = open_taken now happens.Cut (record old.course { channel = carries.0.0 }) new.course carries.0.2 there in
    let e : true ≡ false = sym was.0 ∙ ap (λ (c : ChannelView). c.is_open) carries.0.1.2 in cc
goes_on now (happens.Bytes bytes) old new carries within there =
    let was = open_taken now (happens.Bytes bytes) (record old.course { channel = carries.0.0 }) new.course carries.0.2 there in
    (carries.1 there, was.1 ∙ ap (λ (c : ChannelView). c.unsent ++ flat_map frame_of (told_by carries.0.2.actions)) carries.0.1.2)
goes_on now happens.Moment old new carries within there =
    let was = open_taken now happens.Moment (record old.course { channel = carries.0.0 }) new.course carries.0.2 there in
    (carries.1 there, was.1 ∙ ap (λ (c : ChannelView). c.unsent ++ flat_map frame_of (told_by carries.0.2.actions)) carries.0.1.1)
goes_on now input old new carries within there = absurd carries.0.1

within_first : {A : Type 0} (deed : Deed A) (deeds : List (Deed A)) → AreWithin (deed ∷ deeds) → AreWithin (deed ∷ [])
within_first (Made Written) deeds within = tt
within_first (Made (Looked look)) deeds within = tt
within_first (Made (Noted now happens.Opened)) deeds within = within
within_first (Made (Noted now input)) deeds within = tt
within_first (Asked now input) deeds within = tt

within_rest : {A : Type 0} (deed : Deed A) (deeds : List (Deed A)) → AreWithin (deed ∷ deeds) → AreWithin deeds
within_rest (Made Written) deeds within = within
within_rest (Made (Looked look)) deeds within = within
within_rest (Made (Noted now happens.Opened)) deeds within = absurd within
within_rest (Made (Noted now input)) deeds within = within
within_rest (Asked now input) deeds within = within

open_through : {A : Type 0} {far : FarEnd} (deeds : List (Deed A)) (old new : Flow A far)
    → FoldsTo Carries old deeds new → AreWithin deeds → new.course.channel.is_open ≡ true
    → old.course.channel.is_open ≡ true
open_through {A} {far} [] old new same within there = ap (λ (f : Flow A far). f.course.channel.is_open) same ∙ there
open_through (deed ∷ deeds) old new carries within there =
    open_before deed old carries.0 carries.1 (within_first deed deeds within)
    (open_through deeds carries.0 new carries.2 (within_rest deed deeds within) there)

-- ---- what the agent is handed

abbrev Shut : {A : Type 0} {far : FarEnd} → Flow A far → Type 0
Shut flow = flow.course.channel.is_open ≡ true → ⊥

none_handed : {A : Type 0} {far : FarEnd} (deed : Deed A) (old new : Flow A far) → Carries old deed new → AreWithin (deed ∷ [])
    → Shut old → handed_by deed ≡ []
none_handed (Made Written) old new carries within shut = refl
none_handed (Made (Looked look)) old new carries within shut = refl
none_handed (Made (Noted now (happens.Bytes bytes))) old new carries within shut = absurd (shut carries.0.1.1)
none_handed (Made (Noted now input)) old new carries within shut = refl
none_handed (Asked now input) old new carries within shut = refl

-- nothing, without a connection
none_through : {A : Type 0} {far : FarEnd} (deeds : List (Deed A)) (old new : Flow A far)
    → FoldsTo Carries old deeds new → AreWithin deeds → Shut old → flat_map handed_by deeds ≡ []
none_through [] old new same within shut = refl
none_through (deed ∷ deeds) old new carries within shut =
    let first = within_first deed deeds within in
    ap (λ l. l ++ flat_map handed_by deeds) (none_handed deed old carries.0 carries.1 first shut)
    ∙ none_through deeds carries.0 new carries.2 (within_rest deed deeds within)
    (λ there. shut (open_before deed old carries.0 carries.1 first there))

abbrev Begins : (held handed : List ℕ) → Option (List ℕ) → Type 0
Begins held handed left = IfSome left (λ bytes. (rest : List ℕ) × (held ++ bytes ≡ handed ++ rest))

begins_all : (held handed : List ℕ) (left : Option (List ℕ)) → handed ≡ held → Begins held handed left
begins_all held handed None is = tt
begins_all held handed (Some bytes) is = (bytes, ap (λ l. l ++ bytes) (sym is))

begins_none : (held : List ℕ) (left : Option (List ℕ)) → Begins held [] left
begins_none held None = tt
begins_none held (Some bytes) = (held ++ bytes, refl)

begins_kept : (held other handed : List ℕ) (a b : Option (List ℕ))
    → Consumes a b [] → other ≡ held → Begins other handed b → Begins held handed a
begins_kept held other handed None b keeps is begins = tt
begins_kept held other handed (Some x) None keeps is begins = absurd keeps
begins_kept held other handed (Some x) (Some y) keeps is begins =
    (begins.0, ap (λ l. l ++ x) (sym is) ∙ ap (λ l. other ++ l) keeps ∙ begins.1)

begins_read : (held handed : List ℕ) (a b : Option (List ℕ)) → Consumes a b held → Begins held handed b → Begins [] handed a
begins_read held handed None b gives begins = tt
begins_read held handed (Some x) None gives begins = absurd gives
begins_read held handed (Some x) (Some y) gives begins = (begins.0, gives ∙ begins.1)

begins_handed : (held bytes handed : List ℕ) (left : Option (List ℕ))
    → bytes ≡ held → Begins [] handed left → Begins held (bytes ++ handed) left
begins_handed held bytes handed None is begins = tt
begins_handed held bytes handed (Some x) is begins =
    (begins.0, ap (λ l. l ++ x) (sym is) ∙ ap (λ l. bytes ++ l) begins.1 ∙ sym (append_assoc bytes handed begins.0))

comes_noted : {A : Type 0} {far : FarEnd} (now : ℕ) (input : AgentInput A) (deeds : List (Deed A)) (old mid new : Flow A far)
    (carries : Carries old (Made (Noted now input)) mid)
    → FoldsTo Carries mid deeds new → AreWithin (Made (Noted now input) ∷ []) → AreWithin deeds → (is_open : Bool)
    → mid.course.channel.is_open ≡ is_open
    → Begins mid.held (flat_map handed_by deeds) mid.known.left
    → Begins old.held (bytes_in input ++ flat_map handed_by deeds) old.known.left
comes_noted {A} {far} now input deeds old mid new carries rest first within true there begins =
    let same = (goes_on now input old mid carries first there).0 in
    begins_handed old.held (bytes_in input) (flat_map handed_by deeds) old.known.left carries.2
    (subst (λ (known : Reached far). Begins [] (flat_map handed_by deeds) known.left) same
    (subst (λ held. Begins held (flat_map handed_by deeds) mid.known.left) carries.3 begins))
comes_noted now input deeds old mid new carries rest first within false shut begins =
    begins_all old.held (bytes_in input ++ flat_map handed_by deeds) old.known.left
    (ap (λ l. bytes_in input ++ l) (none_through deeds mid new rest within (λ there. let e : true ≡ false = sym there ∙ shut in cc))
    ∙ append-nil (bytes_in input) ∙ carries.2)

comes_asked : {A : Type 0} {far : FarEnd} (now : ℕ) (input : AgentInput A) (deeds : List (Deed A)) (old mid new : Flow A far)
    (carries : Carries old (Asked now input) mid)
    → FoldsTo Carries mid deeds new → AreWithin deeds → (is_open : Bool) → mid.course.channel.is_open ≡ is_open
    → Begins mid.held (flat_map handed_by deeds) mid.known.left → Begins old.held (flat_map handed_by deeds) old.known.left
comes_asked {A} {far} now input deeds old mid new carries rest within true there begins =
    subst (λ held. Begins held (flat_map handed_by deeds) old.known.left) (sym carries.3)
    (subst (λ (known : Reached far). Begins [] (flat_map handed_by deeds) known.left) (carries.2 there)
    (subst (λ held. Begins held (flat_map handed_by deeds) mid.known.left) carries.4 begins))
comes_asked now input deeds old mid new carries rest within false shut begins =
    begins_all old.held (flat_map handed_by deeds) old.known.left
    (none_through deeds mid new rest within (λ there. let e : true ≡ false = sym there ∙ shut in cc) ∙ sym carries.3)

comes : {A : Type 0} {far : FarEnd} (deeds : List (Deed A)) (old new : Flow A far)
    (carries : FoldsTo Carries old deeds new) → AreWithin deeds
    → Begins old.held (flat_map handed_by deeds) old.known.left
comes [] old new carries within = begins_none old.held old.known.left
comes (Made Written ∷ deeds) old new carries within =
    begins_kept old.held carries.0.held (flat_map handed_by deeds) old.known.left carries.0.known.left carries.1.1.gives carries.1.2
    (comes deeds carries.0 new carries.2 within)
comes (Made (Looked look) ∷ deeds) old new carries within =
    subst (λ held. Begins held (flat_map handed_by deeds) old.known.left) (sym carries.1.2)
    (begins_read carries.0.held (flat_map handed_by deeds) old.known.left carries.0.known.left
    carries.1.1.gives
    (comes deeds carries.0 new carries.2 within))
comes (Made (Noted now input) ∷ deeds) old new carries within =
    let deed = Made (Noted now input) in
    let rest = within_rest deed deeds within in
    comes_noted now input deeds old carries.0 new carries.1 carries.2 (within_first deed deeds within) rest
    (carries.0.course.channel.is_open) refl
    (comes deeds carries.0 new carries.2 rest)
comes (Asked now input ∷ deeds) old new carries within =
    comes_asked now input deeds old carries.0 new carries.1 carries.2 within (carries.0.course.channel.is_open) refl
    (comes deeds carries.0 new carries.2 within)

pub come_whole : (A : Type 0) (far : FarEnd) → BytesComeWhole A far
come_whole A far deeds old new carries within none =
    subst (λ held. Begins held (flat_map handed_by deeds) old.known.left) none (comes deeds old new carries within)

-- ---- what the stream took

sent_more : (unsent mid rest frames sent : List ℕ) (a b c : Option (List ℕ)) → a ≡ b → mid ≡ unsent ++ frames
    → (written : List ℕ) × Appends b c written × (mid ++ sent ≡ written ++ rest)
    → (written : List ℕ) × Appends a c written × (unsent ++ (frames ++ sent) ≡ written ++ rest)
sent_more unsent mid rest frames sent a b c same is goes = (
  goes.0,
  subst (λ o. Appends o c goes.0) (sym same) goes.1,
  sym (append_assoc unsent frames sent) ∙ ap (λ l. l ++ sent) (sym is) ∙ goes.2,
)

sent_after : (unsent mid rest sent : List ℕ) (a b c : Option (List ℕ))
    → Sends unsent mid a b → (written : List ℕ) × Appends b c written × (mid ++ sent ≡ written ++ rest)
    → (written : List ℕ) × Appends a c written × (unsent ++ sent ≡ written ++ rest)
sent_after unsent mid rest sent a b c sends goes = (
  sends.0 ++ goes.0,
  appends_on a b c sends.0 goes.0 sends.2 goes.1,
  ap (λ l. l ++ sent) sends.1 ∙ append_assoc sends.0 mid sent ∙ ap (λ l. sends.0 ++ l) goes.2 ∙ sym (append_assoc sends.0 goes.0 rest),
)

pub go_whole : (A : Type 0) (far : FarEnd) → BytesGoWhole A far
go_whole A far [] old new same within there =
    subst (λ (f : Flow A far). (written : List ℕ) × Appends old.known.took f.known.took written
    × (old.course.channel.unsent ++ [] ≡ written ++ f.course.channel.unsent)) same
    ([], appends_none old.known.took, append-nil old.course.channel.unsent)
go_whole A far (Made Written ∷ deeds) old new carries within there =
    let mid = carries.0 in
    sent_after old.course.channel.unsent mid.course.channel.unsent new.course.channel.unsent
    (sent_in deeds mid new carries.2) old.known.took mid.known.took new.known.took
    carries.1.1.sends (go_whole A far deeds mid new carries.2 within there)
go_whole A far (Made (Looked look) ∷ deeds) old new carries within there =
    let mid = carries.0 in
    sent_after old.course.channel.unsent mid.course.channel.unsent new.course.channel.unsent
    (sent_in deeds mid new carries.2) old.known.took mid.known.took new.known.took
    carries.1.1.sends (go_whole A far deeds mid new carries.2 within there)
go_whole A far (Made (Noted now input) ∷ deeds) old new carries within there =
    let mid = carries.0 in
    let deed = Made (Noted now input) in
    let rest = within_rest deed deeds within in
    let was = goes_on now input old mid carries.1 (within_first deed deeds within) (open_through deeds mid new carries.2 rest there) in
    sent_more old.course.channel.unsent mid.course.channel.unsent new.course.channel.unsent
    (flat_map frame_of (told_by carries.1.0.2.actions)) (sent_in deeds mid new carries.2)
    old.known.took mid.known.took new.known.took (sym (ap (λ (k : Reached far). k.took) was.0)) was.1
    (go_whole A far deeds mid new carries.2 rest there)
go_whole A far (Asked now input ∷ deeds) old new carries within there =
    let mid = carries.0 in
    let still = open_through deeds mid new carries.2 within there in
    let was = open_taken now input old.course mid.course carries.1.0 still in
    sent_more old.course.channel.unsent mid.course.channel.unsent new.course.channel.unsent
    (flat_map frame_of (told_by carries.1.0.actions)) (sent_in deeds mid new carries.2)
    old.known.took mid.known.took new.known.took (sym (ap (λ (k : Reached far). k.took) (carries.1.2 still))) was.1
    (go_whole A far deeds mid new carries.2 within there)
