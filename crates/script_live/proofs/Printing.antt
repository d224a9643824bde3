-- What is printed of deeds, one after the other: lists of deeds join, and their texts with them.
use Rattle.std.proofs.Common.{◌≡◌, ◌++◌, ◌∙◌, ℕ, Bool, true, false, List, [], ◌∷◌, ap, append-nil, append_assoc, refl, sym, subst}
use Rattle.std.specs.Prelude.{Result, Ok, Err, IfOk, OnOk, codes}
use Rattle.std.specs.List.{filter}
use Rattle.zk_turns.specs.Turns.{Bytes, Cut, Input, Opened, Output}
use Rattle.script_words.specs.Lines.{TellsInOrder}
use Rattle.script_live.specs.Trails.{is_given}
use Rattle.script_live.specs.Heard.{TellsEach}
use Rattle.script_live.specs.Flowing.{bytes_of, holding, Begins, Carries, Cuts, Deed, Delivers, Ends, Fails, Flow, Hears, HoldsSo, IsMidway}
use Rattle.script_live.specs.Flowing.{IsLook, Looks, Reads}
use Rattle.script_replay.specs.ClientLines.{ClientValue}
use Rattle.script_replay.specs.Played.{DoesClient}
use Rattle.script_live.specs.Printed.{Hands, HandsThen, Prints, TellsDeed}
use Rattle.script_live.proofs.Flowed.{carries_on}
use Rattle.script_live.proofs.HeardLemmas.{told_all}

tells_on : (deeds more : List Deed) (a b : List ℕ)
    → TellsInOrder TellsDeed deeds a → TellsInOrder TellsDeed more b → TellsInOrder TellsDeed (deeds ++ more) (a ++ b)
tells_on [] more a b first rest = subst (λ l. TellsInOrder TellsDeed more (l ++ b)) (sym first) rest
tells_on (deed ∷ deeds) more a b first rest =
    (first.0, first.1 ++ b, first.2, tells_on deeds more first.1 b first.3 rest, ap (λ l. l ++ b) first.4 ∙ append_assoc first.0 first.1 b)

-- nothing is done
pub prints_same : (old new : Flow) (before after : List ℕ) → old ≡ new → after ≡ before → Prints old new before after
prints_same old new before after is same =
    record { deeds = []; carries = is; told = []; tells = refl; printed = same ∙ sym (append-nil before) }

pub prints_none : (here : Flow) (text : List ℕ) → Prints here here text text
prints_none here text = prints_same here here text text refl refl

pub prints_one : (deed : Deed) (old new : Flow) (before after told : List ℕ)
    → Carries old deed new → TellsDeed deed told → after ≡ before ++ told → Prints old new before after
prints_one deed old new before after told carries tells printed = record {
  deeds = deed ∷ [];
  carries = (new, carries, refl);
  told = told;
  tells = (told, [], tells, refl, sym (append-nil told));
  printed = printed;
}

pub prints_after : (old between new : Flow) (a b c : List ℕ) → Prints old between a b → Prints between new b c → Prints old new a c
prints_after old between new a b c first rest = record {
  deeds = first.deeds ++ rest.deeds;
  carries = carries_on first.deeds rest.deeds old between new first.carries rest.carries;
  told = first.told ++ rest.told;
  tells = tells_on first.deeds rest.deeds first.told rest.told first.tells rest.tells;
  printed = rest.printed ∙ ap (λ l. l ++ rest.told) first.printed ∙ append_assoc a first.told rest.told;
}

pub ok_prints_after : {X E : Type 0} (result : Result X E) (old between new : Flow) (a b c : List ℕ)
    → Prints old between a b → OnOk result (Prints between new b c) → OnOk result (Prints old new a c)
ok_prints_after (Ok x) old between new a b c first rest = prints_after old between new a b c first rest
ok_prints_after (Err e) old between new a b c first rest = tt

-- ---- one input

pub hands_so : (input : Input) (given made : List Output) (old new : Flow) (before told after : List ℕ)
    → given ≡ [] → Delivers input given made old new → TellsEach made told → after ≡ before ++ told
    → Hands input old new before after
hands_so input given made old new before told after none delivers tells printed = record {
  outputs = delivers.outputs;
  told = told;
  hears = delivers.hears;
  tells = told_all delivers.outputs told
      (subst (λ (l : List Output). TellsEach l told) (delivers.given ∙ ap (λ l. l ++ filter is_given delivers.outputs) none) tells);
  printed = printed;
}

pub prints_end : (given made : List Output) (old new : Flow) (before told after : List ℕ)
    → given ≡ [] → Cuts given made old new → TellsEach made told → after ≡ before ++ told → Prints old new before after
prints_end given made old new before told after none cuts tells printed =
    prints_one (Ends (record { input = Cut; outputs = cuts.outputs })) old new before after told cuts.ends
    (told_all cuts.outputs told
    (subst (λ (l : List Output). TellsEach l told) (cuts.given ∙ ap (λ l. l ++ filter is_given cuts.outputs) none) tells)) printed

-- with which no connection begins
pub prints_hands : (input : Input) (old new : Flow) (before after : List ℕ)
    → IsMidway input → HandsThen input old new before after → Prints (holding (bytes_of input) old) new before after
prints_hands input old new before after midway then_goes =
    let hands = then_goes.hands in
    prints_after (holding (bytes_of input) old) then_goes.between new before then_goes.text after
    (prints_one (Hears (record { input = input; outputs = hands.outputs }))
    (holding (bytes_of input) old) then_goes.between before then_goes.text hands.told (hands.hears, midway) hands.tells hands.printed)
    then_goes.goes_on

-- what a read has brought
pub prints_piece : (bytes : List ℕ) (old read new : Flow) (before after : List ℕ) → Carries old Reads (holding bytes read)
    → HandsThen (Bytes bytes) read new before after → Prints old new before after
prints_piece bytes old read new before after reads then_goes =
    prints_after old (holding bytes read) new before before after
    (prints_one Reads old (holding bytes read) before before [] reads refl (sym (append-nil before)))
    (prints_hands (Bytes bytes) read new before after tt then_goes)

-- and where it has brought nothing
pub prints_quiet : (old read new : Flow) (before after : List ℕ)
    → Carries old Reads read → Prints read new before after → Prints old new before after
prints_quiet old read new before after reads rest =
    prints_after old read new before before after (prints_one Reads old read before before [] reads refl (sym (append-nil before))) rest

-- ---- a connection begins, or none does

pub prints_begin : (old held new : Flow) (before after : List ℕ)
    → old.is_open ≡ false → old.held ≡ [] → HoldsSo old held → HandsThen Opened held new before after → Prints old new before after
prints_begin old held new before after shut none holds then_goes =
    let hands = then_goes.hands in
    prints_after old then_goes.between new before then_goes.text after
    (prints_one (Begins (record { input = Opened; outputs = hands.outputs })) old then_goes.between before then_goes.text hands.told
    ((holding [] held, (holds.0, holds.1, holds.2, refl), hands.hears), refl, shut, none) hands.tells hands.printed)
    then_goes.goes_on

pub prints_down : (old here : Flow) (first before after : List ℕ)
    → Prints old here first before → here.held ≡ [] → after ≡ before ++ codes "down\n" → Prints old here first after
prints_down old here first before after prints none printed =
    prints_after old here here first before after prints
    (prints_one Fails here here before after (codes "down\n") (refl, none) refl printed)

-- the connection that was there is over then
pub shut_by : (is_over was is : Bool) → is_over ≡ was → (is_over ≡ true → is ≡ false) → (is_over ≡ false → is ≡ was) → is ≡ false
shut_by true was is same shut stays = shut refl
shut_by false was is same shut stays = stays refl ∙ sym same

-- ---- one line

pub prints_from : (old new : Flow) (before after : List ℕ) → before ≡ [] → Prints old new before after → Prints old new [] after
prints_from old new before after none prints = subst (λ l. Prints old new l after) none prints

-- what is no input of a client
pub prints_look : {X E : Type 0} (result : Result X E) (text_of : X → List ℕ) (value : ClientValue) (old new : Flow) → IsLook value
    → IfOk result (λ text. DoesClient value old.view new.view (text_of text)) → new ≡ record old { view = new.view } → old.held ≡ []
    → IfOk result (λ text. Prints old new [] (text_of text))
prints_look (Ok text) text_of value old new look does same none =
    prints_one (Looks value (text_of text)) old new [] (text_of text) (text_of text) (does, look, same, none) refl refl
prints_look (Err e) text_of value old new look does same none = tt
