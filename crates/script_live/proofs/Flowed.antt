-- What goes through a client's connection: deeds one after the other; and that bytes come and go whole, since each deed keeps what was
-- handed over, what is held and what is unsent in order.
use Rattle.std.proofs.Common.{◌≡◌, ◌++◌, ◌∙◌, ℕ, Bool, true, false, List, [], ◌∷◌, ap, append-nil, append_assoc, refl, sym, subst, Option}
use Rattle.std.proofs.Common.{Some, None, Vec}
use Rattle.std.specs.Prelude.{Result, Ok, Err, OnOk, IfOk, IsOk, IfSome, if◌then◌else◌}
use Rattle.std.specs.List.{filter, flat_map, list_any, FoldsTo}
use Rattle.std.specs.Io.KnownBytes.{Appends, Consumes}
use Rattle.zk_turns.specs.Turns.{Cut, Input, Output, Turn, ends_connection}
use Rattle.zk_turns.specs.Rule.{Rule}
use Rattle.zk_link.specs.declared.brought.Brought.{Brought}
use Rattle.script_live.specs.Frames.{frames}
use Rattle.script_live.specs.Trails.{is_given, kept}
use Rattle.zk_link.specs.Streams.{Sends}
use Rattle.script_live.specs.Exchanged.{Exchanges, Known}
use Rattle.script_live.specs.Flowing.{bytes_of, handed_by, holding, piece_in, sent_by, AreWithin, Begins, BytesComeWhole}
use Rattle.script_live.specs.inner.Flowing.{piece_bytes}
use Rattle.script_live.specs.Flowing.{BytesGoWhole, Carries, Cuts, Deed, Delivers, Ends, Fails, Flow, Hears, HearsSo, Looks, Reads}
use Rattle.zk_link.proofs.Streaming.{appends_none, appends_on}

-- ---- deeds, one after the other

pub carries_on : (deeds more : List Deed) (old between new : Flow)
    → FoldsTo Carries old deeds between → FoldsTo Carries between more new → FoldsTo Carries old (deeds ++ more) new
carries_on [] more old between new same rest = subst (λ (f : Flow). FoldsTo Carries f more new) (sym same) rest
carries_on (deed ∷ deeds) more old between new carries rest =
    (carries.0, carries.1, carries_on deeds more carries.0 between new carries.2 rest)

-- ---- a connection that is there was there

open_kept : (ends is_open : Bool) → (if ends then false else is_open) ≡ true → is_open ≡ true
open_kept true is_open there = let e : false ≡ true = there in cc
open_kept false is_open there = there

open_before : (deed : Deed) (old new : Flow) → Carries old deed new → AreWithin (deed ∷ []) → new.is_open ≡ true → old.is_open ≡ true
open_before Reads old new carries within there = sym carries.4 ∙ there
open_before (Hears turn) old new carries within there =
    open_kept (list_any ends_connection turn.outputs) old.is_open (sym carries.0.1 ∙ there)
open_before (Begins turn) old new carries within there = absurd within
open_before (Ends turn) old new carries within there = let e : true ≡ false = sym there ∙ carries.2 in cc
open_before Fails old new carries within there = ap (λ (f : Flow). f.is_open) (sym carries.0) ∙ there
open_before (Looks value text) old new carries within there = ap (λ (f : Flow). f.is_open) (sym carries.2) ∙ there

within_first : (deed : Deed) (deeds : List Deed) → AreWithin (deed ∷ deeds) → AreWithin (deed ∷ [])
within_first Reads deeds within = tt
within_first (Hears turn) deeds within = tt
within_first (Begins turn) deeds within = within
within_first (Ends turn) deeds within = tt
within_first Fails deeds within = tt
within_first (Looks value text) deeds within = tt

within_rest : (deed : Deed) (deeds : List Deed) → AreWithin (deed ∷ deeds) → AreWithin deeds
within_rest Reads deeds within = within
within_rest (Hears turn) deeds within = within
within_rest (Begins turn) deeds within = absurd within
within_rest (Ends turn) deeds within = within
within_rest Fails deeds within = within
within_rest (Looks value text) deeds within = within

open_through : (deeds : List Deed) (old new : Flow)
    → FoldsTo Carries old deeds new → AreWithin deeds → new.is_open ≡ true → old.is_open ≡ true
open_through [] old new same within there = ap (λ (f : Flow). f.is_open) same ∙ there
open_through (deed ∷ deeds) old new carries within there =
    open_before deed old carries.0 carries.1 (within_first deed deeds within)
    (open_through deeds carries.0 new carries.2 (within_rest deed deeds within) there)

-- ---- what the client is handed

unless_true : (b : Bool) → (b ≡ true → ⊥) → b ≡ false
unless_true true never = absurd (never refl)
unless_true false never = refl

-- without a connection, and where nothing is held
record Idle (flow : Flow) : Type 0 where
  shut : flow.is_open ≡ false
  none : flow.held ≡ []

idle_on : (deed : Deed) (old new : Flow) → Carries old deed new → AreWithin (deed ∷ []) → Idle old → Idle new
idle_on Reads old new carries within idle = record { shut = carries.4 ∙ idle.shut; none = carries.2 idle.shut }
idle_on (Hears turn) old new carries within idle = record {
  shut = unless_true new.is_open
      (λ there. let e : true ≡ false = sym (open_before (Hears turn) old new carries within there) ∙ idle.shut in cc);
  none = carries.0.3;
}
idle_on (Begins turn) old new carries within idle = absurd within
idle_on (Ends turn) old new carries within idle = record { shut = carries.2; none = carries.4 }
idle_on Fails old new carries within idle = subst Idle (sym carries.0) idle
idle_on (Looks value text) old new carries within idle = record {
  shut = ap (λ (f : Flow). f.is_open) carries.2 ∙ idle.shut;
  none = ap (λ (f : Flow). f.held) carries.2 ∙ idle.none;
}

none_handed : (deed : Deed) (old new : Flow) → Carries old deed new → AreWithin (deed ∷ []) → Idle old → handed_by deed ≡ []
none_handed Reads old new carries within idle = refl
none_handed (Hears turn) old new carries within idle = carries.0.2 ∙ idle.none
none_handed (Begins turn) old new carries within idle = refl
none_handed (Ends turn) old new carries within idle = refl
none_handed Fails old new carries within idle = refl
none_handed (Looks value text) old new carries within idle = refl

none_through : (deeds : List Deed) (old new : Flow)
    → FoldsTo Carries old deeds new → AreWithin deeds → Idle old → flat_map handed_by deeds ≡ []
none_through [] old new same within idle = refl
none_through (deed ∷ deeds) old new carries within idle =
    let first = within_first deed deeds within in
    ap (λ l. l ++ flat_map handed_by deeds) (none_handed deed old carries.0 carries.1 first idle)
    ∙ none_through deeds carries.0 new carries.2 (within_rest deed deeds within) (idle_on deed old carries.0 carries.1 first idle)

abbrev Leads : (held handed : List ℕ) → Option (List ℕ) → Type 0
Leads held handed left = IfSome left (λ bytes. (rest : List ℕ) × (held ++ bytes ≡ handed ++ rest))

begins_all : (held handed : List ℕ) (left : Option (List ℕ)) → handed ≡ held → Leads held handed left
begins_all held handed None is = tt
begins_all held handed (Some bytes) is = (bytes, ap (λ l. l ++ bytes) (sym is))

begins_none : (held : List ℕ) (left : Option (List ℕ)) → Leads held [] left
begins_none held None = tt
begins_none held (Some bytes) = (held ++ bytes, refl)

begins_read : (held handed : List ℕ) (a b : Option (List ℕ)) → Consumes a b held → Leads held handed b → Leads [] handed a
begins_read held handed None b gives begins = tt
begins_read held handed (Some x) None gives begins = absurd gives
begins_read held handed (Some x) (Some y) gives begins = (begins.0, gives ∙ begins.1)

begins_handed : (held bytes handed : List ℕ) (left : Option (List ℕ))
    → bytes ≡ held → Leads [] handed left → Leads held (bytes ++ handed) left
begins_handed held bytes handed None is begins = tt
begins_handed held bytes handed (Some x) is begins =
    (begins.0, ap (λ l. l ++ x) (sym is) ∙ ap (λ l. bytes ++ l) begins.1 ∙ sym (append_assoc bytes handed begins.0))

comes_heard : (turn : Turn) (deeds : List Deed) (old mid new : Flow)
    → HearsSo old turn mid → FoldsTo Carries mid deeds new → AreWithin deeds
    → (is_open : Bool) → mid.is_open ≡ is_open → Leads mid.held (flat_map handed_by deeds) mid.known.left
    → Leads old.held (bytes_of turn.input ++ flat_map handed_by deeds) old.known.left
comes_heard turn deeds old mid new carries rest within true there begins =
    begins_handed old.held (bytes_of turn.input) (flat_map handed_by deeds) old.known.left carries.2
    (begins_read [] (flat_map handed_by deeds) old.known.left mid.known.left (carries.4 there).gives
    (subst (λ held. Leads held (flat_map handed_by deeds) mid.known.left) carries.3 begins))
comes_heard turn deeds old mid new carries rest within false shut begins =
    begins_all old.held (bytes_of turn.input ++ flat_map handed_by deeds) old.known.left
    (ap (λ l. bytes_of turn.input ++ l) (none_through deeds mid new rest within (record { shut = shut; none = carries.3 }))
    ∙ append-nil (bytes_of turn.input) ∙ carries.2)

comes : (deeds : List Deed) (old new : Flow) (carries : FoldsTo Carries old deeds new)
    → AreWithin deeds → Leads old.held (flat_map handed_by deeds) old.known.left
comes [] old new carries within = begins_none old.held old.known.left
comes (Reads ∷ deeds) old new carries within =
    subst (λ held. Leads held (flat_map handed_by deeds) old.known.left) (sym carries.1.1)
    (begins_read carries.0.held (flat_map handed_by deeds) old.known.left carries.0.known.left carries.1.0.gives
    (comes deeds carries.0 new carries.2 within))
comes (Hears turn ∷ deeds) old new carries within =
    comes_heard turn deeds old carries.0 new carries.1.0 carries.2 within (carries.0.is_open) refl
    (comes deeds carries.0 new carries.2 within)
comes (Begins turn ∷ deeds) old new carries within = absurd within
comes (Ends turn ∷ deeds) old new carries within =
    begins_all old.held (flat_map handed_by deeds) old.known.left
    (none_through deeds carries.0 new carries.2 within (record { shut = carries.1.2; none = carries.1.4 }) ∙ sym carries.1.3)
comes (Fails ∷ deeds) old new carries within =
    subst (λ (f : Flow). Leads f.held (flat_map handed_by deeds) f.known.left) carries.1.0 (comes deeds carries.0 new carries.2 within)
comes (Looks value text ∷ deeds) old new carries within =
    subst (λ held. Leads held (flat_map handed_by deeds) old.known.left) (ap (λ (f : Flow). f.held) carries.1.2)
    (subst (λ (known : Known). Leads carries.0.held (flat_map handed_by deeds) known.left) (ap (λ (f : Flow). f.known) carries.1.2)
    (comes deeds carries.0 new carries.2 within))

pub come_whole : BytesComeWhole
come_whole deeds old new carries within none =
    subst (λ held. Leads held (flat_map handed_by deeds) old.known.left) none (comes deeds old new carries within)

-- ---- what the stream took

sent_after : (unsent mid rest sent : List ℕ) (a b c : Option (List ℕ))
    → Sends unsent mid a b → (written : List ℕ) × Appends b c written × (mid ++ sent ≡ written ++ rest)
    → (written : List ℕ) × Appends a c written × (unsent ++ sent ≡ written ++ rest)
sent_after unsent mid rest sent a b c sends goes = (
  sends.0 ++ goes.0,
  appends_on a b c sends.0 goes.0 sends.2 goes.1,
  ap (λ l. l ++ sent) sends.1 ∙ append_assoc sends.0 mid sent ∙ ap (λ l. sends.0 ++ l) goes.2 ∙ sym (append_assoc sends.0 goes.0 rest),
)

sent_more : (unsent frames sent rest : List ℕ) (a c : Option (List ℕ))
    → (written : List ℕ) × Appends a c written × ((unsent ++ frames) ++ sent ≡ written ++ rest)
    → (written : List ℕ) × Appends a c written × (unsent ++ (frames ++ sent) ≡ written ++ rest)
sent_more unsent frames sent rest a c goes = (goes.0, goes.1, sym (append_assoc unsent frames sent) ∙ goes.2)

pub go_whole : BytesGoWhole
go_whole [] old new same within there =
    subst (λ (f : Flow). (written : List ℕ) × Appends old.known.took f.known.took written × (old.unsent ++ [] ≡ written ++ f.unsent)) same
    ([], appends_none old.known.took, append-nil old.unsent)
go_whole (Reads ∷ deeds) old new carries within there =
    let mid = carries.0 in
    sent_after old.unsent mid.unsent new.unsent (flat_map sent_by deeds) old.known.took mid.known.took new.known.took
    carries.1.0.sends (go_whole deeds mid new carries.2 within there)
go_whole (Hears turn ∷ deeds) old new carries within there =
    let mid = carries.0 in
    sent_more old.unsent (frames turn.outputs) (flat_map sent_by deeds) new.unsent old.known.took new.known.took
    (sent_after (old.unsent ++ frames turn.outputs) mid.unsent new.unsent
    (flat_map sent_by deeds) old.known.took mid.known.took new.known.took
    (carries.1.0.4 (open_through deeds mid new carries.2 within there)).sends (go_whole deeds mid new carries.2 within there))
go_whole (Begins turn ∷ deeds) old new carries within there = absurd within
go_whole (Ends turn ∷ deeds) old new carries within there =
    let e : true ≡ false = sym (open_through deeds carries.0 new carries.2 within there) ∙ carries.1.2 in cc
go_whole (Fails ∷ deeds) old new carries within there =
    subst (λ (f : Flow). (written : List ℕ) × Appends f.known.took new.known.took written
    × (f.unsent ++ flat_map sent_by deeds ≡ written ++ new.unsent)) carries.1.0
    (go_whole deeds carries.0 new carries.2 within there)
go_whole (Looks value text ∷ deeds) old new carries within there =
    sent_as (ap (λ (f : Flow). f.unsent) carries.1.2) (ap (λ (f : Flow). f.known.took) carries.1.2)
    (go_whole deeds carries.0 new carries.2 within there)
  where
    sent_as : carries.0.unsent ≡ old.unsent → carries.0.known.took ≡ old.known.took
        → (written : List ℕ) × Appends carries.0.known.took new.known.took written
        × (carries.0.unsent ++ flat_map sent_by deeds ≡ written ++ new.unsent)
        → (written : List ℕ) × Appends old.known.took new.known.took written
        × (old.unsent ++ flat_map sent_by deeds ≡ written ++ new.unsent)
    sent_as same took goes = (
      goes.0,
      subst (λ (o : Option (List ℕ)). Appends o new.known.took goes.0) took goes.1,
      ap (λ l. l ++ flat_map sent_by deeds) (sym same) ∙ goes.2,
    )

-- ---- one input

pub delivered : {X E : Type 0} (result : Result X E) (input : Input) (before after made : List Output) (old new : Flow)
    → Rule old.view (record { input = input; outputs = made }) new.view
    → new.is_open ≡ kept made old.is_open → new.held ≡ [] → OnOk result (after ≡ before ++ filter is_given made)
    → (new.is_open ≡ true → OnOk result (Exchanges (old.unsent ++ frames made) new.unsent old.known new.known []))
    → OnOk result (Delivers input before after old new)
delivered (Ok x) input before after made old new rule lasts none given sends =
    record { outputs = made; given = given; hears = (rule, lasts, refl, none, sends) }
delivered (Err e) input before after made old new rule lasts none given sends = tt

none_kept : (ends : Bool) → (if ends then false else false) ≡ false
none_kept true = refl
none_kept false = refl

-- the connection was let go before it
pub cut_so : (before after : List Output) (old ended new : Flow)
    → ended.view ≡ old.view → ended.is_open ≡ false → old.held ≡ [] → Delivers Cut before after ended new → Cuts before after old new
cut_so before after old ended new same shut none delivers = record {
  outputs = delivers.outputs;
  given = delivers.given;
  ends = (
    subst (λ v. Rule v (record { input = Cut; outputs = delivers.outputs }) new.view) same delivers.hears.0,
    refl,
    delivers.hears.1 ∙ ap (kept delivers.outputs) shut ∙ none_kept (list_any ends_connection delivers.outputs),
    none,
    delivers.hears.3,
  );
}

-- a read, and the piece that it has brought
pub ok_read : {A E : Type 0} (result : Result (Option (Vec ℕ A)) E) (brought : Result (Brought A) E) (old new : Flow)
    → old.held ≡ [] → new.view ≡ old.view → new.is_open ≡ old.is_open
    → IfOk result (λ piece. IsOk brought × IfOk brought (λ b. piece_bytes piece ≡ piece_in b))
    → IfOk brought (λ b. Exchanges old.unsent new.unsent old.known new.known (piece_in b))
    → (old.is_open ≡ false → IfOk brought (λ b. piece_in b ≡ []))
    → IfOk result (λ piece. Carries old Reads (holding (piece_bytes piece) new))
ok_read (Ok piece) (Ok b) old new none view lasts is whole apart =
    (subst (λ l. Exchanges old.unsent new.unsent old.known new.known l) (sym is.1) whole, none, λ shut. is.1 ∙ apart shut, view, lasts)
ok_read (Ok piece) (Err e) old new none view lasts is whole apart = let bad : false ≡ true = is.0 in cc
ok_read (Err e) brought old new none view lasts is whole apart = tt
