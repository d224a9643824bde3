-- By which tickets an agent calls, over its moves: each call of its client, and each that waits in its line, was asked with its ticket, or
-- reads what is followed, with a watch; and each reply that is told of the session that is there was said by its client.
use Rattle.std.proofs.Common.{◌≡◌, ◌++◌, inl, inr, ℕ, Bool, true, false, cond, not, List, [], ◌∷◌, Option, Some, None, map, refl, sym, ap}
use Rattle.std.proofs.Common.{arith, subst, ◌∙◌, true≢false}
use Rattle.std.proofs.lemmas.List.Elements.{All-from_recursion, recursion_from_All}
use Rattle.std.specs.Prelude.{◌<◌, ◌==◌, length, ⊤, ◌||◌, slice_index_or}
use Rattle.std.specs.List.{filter, flat_map, list_any, AllByRecursion}
use Rattle.std.specs.Option.{option_map}
use Rattle.zk_nodes.specs.Path.{Text}
use Rattle.zk_nodes.specs.declared.side.Side.{Side}
use Rattle.zk_conversation.specs.Calls.{Call as Asked_call}
use Rattle.zk_conversation.specs.Questions.{Question, question_of}
use Rattle.zk_conversation.specs.Views.{call_view}
use Rattle.zk_turns.specs.Meaning.{Among}
use Rattle.zk_turns.specs.Sent.{outputs_of}
use Rattle.zk_turns.specs.Turns.{Answer, Call, Drop, Enters, Input, Item, Outcome, Output, Replied, Report, Send, TooLarge, Turn, Turned}
use Rattle.zk_turns.specs.Turns as turns
use Rattle.zk_dialler.specs.declared.dialler.Dialler.{Dialler}
use Rattle.zk_dialler.specs.declared.dialler.DialDue.{DialDue}
use Rattle.zk_dialler.specs.declared.dialler.DialDue.TheVariants.{Dial, GiveUp}
use Rattle.zk_follow.specs.declared.news.News.{News}
use Rattle.zk_follow.specs.declared.subject.Subject.{Subject}
use Rattle.zk_follow.specs.Refusing.{too_long_for}
use Rattle.zk_follow.specs.Following.{news_in, read_of, taken, told_of, unfollowed, AreReads, AreVisited}
use Rattle.zk_follow.proofs.Finding.{visit_keeps}
use Rattle.zk_follow.proofs.Hearing.{all_same_ticket}
use Rattle.zk_calls.specs.declared.entry.Ended.{Ended}
use Rattle.zk_calls.specs.declared.entry.Ending.{Ending}
use Rattle.zk_calls.specs.declared.entry.Ending.TheVariants as ending
use Rattle.zk_calls.specs.declared.entry.Entry.{Entry}
use Rattle.zk_calls.specs.Lines.{after_answer, answered, ended, ended_of, first_where, goes_back, is_ended, left, next_call}
use Rattle.zk_calls.specs.Lines.{settles, waits_turn, with_first}
use Rattle.zk_agent.specs.Agents.{Trail, HearsSo, LetsGoWhere}
use Rattle.zk_agent.specs.Calls.{answers, closings, endings, handed, hears, hears_all, tells, tells_all}
use Rattle.zk_agent.specs.Overlong.{refused_by, too_long_in, with_too_long}
use Rattle.zk_agent.specs.Telling.{Told, Says, HangsUp, Begins, closed_told, due_told, ended_told, news_told}
use Rattle.zk_agent.proofs.Oversized.{ahead, refused_same}
use Rattle.ffi_device.specs.Chains.{first_own}
use Rattle.ffi_c.specs.Pasts.{Chapter, with_turns}
use Rattle.ffi_c.proofs.Heard.{each_both, AsksSo, ItemAsks}
use Rattle.ffi_c.proofs.Turned.{heard_said, heard_turns, said_before, said_then, with_more}

-- ---- what is told

abbrev pub begins : Told → Bool
begins Begins = true
begins _ = false

-- A reply that is told is among these outputs.
abbrev pub IsSaid : List Output → Told → Type 0
IsSaid said (Says (Answer ticket (Replied zxid result))) = Among (Answer ticket (Replied zxid result)) said
IsSaid said _ = ⊤

-- The same of all that are told of the session that is there.
abbrev pub AreSaid : List Output → List Told → Type 0
AreSaid said [] = ⊤
AreSaid said (one ∷ told) = (list_any begins told ≡ false → IsSaid said one) × AreSaid said told

either_none : (a b : Bool) → (a || b) ≡ false → (a ≡ false) × (b ≡ false)
either_none true b none = absurd (true≢false none)
either_none false b none = (refl, none)

-- if no session began with what is told, none had before
pub none_before : (told more : List Told) → list_any begins (told ++ more) ≡ false → list_any begins told ≡ false
none_before [] more none = refl
none_before (one ∷ told) more none =
    let both = either_none (begins one) (list_any begins (told ++ more)) none in
    ap (λ b. b || list_any begins told) both.0 ∙ none_before told more both.1

pub begins_last : (told : List Told) → list_any begins (told ++ Begins ∷ []) ≡ true
begins_last [] = refl
begins_last (one ∷ told) = by (begins one) (begins_last told)
  where
    by : (b : Bool) → list_any begins (told ++ Begins ∷ []) ≡ true → (b || list_any begins (told ++ Begins ∷ [])) ≡ true
    by true last = refl
    by false last = last

output_said : (said : List Output) (output : Output) → Among output said → IsSaid said (Says output)
output_said said (Answer ticket (Replied zxid result)) among = among
output_said said _ among = tt

said_on : (said more : List Output) → ((output : Output) → Among output said → Among output more) → (one : Told) → IsSaid said one
    → IsSaid more one
said_on said more among (Says (Answer ticket (Replied zxid result))) is = among (Answer ticket (Replied zxid result)) is
said_on said more among _ is = tt

all_said_on : (said more : List Output) → ((output : Output) → Among output said → Among output more) → (told : List Told)
    → AreSaid said told → AreSaid more told
all_said_on said more among [] are = tt
all_said_on said more among (one ∷ told) are =
    ((λ none. said_on said more among one (are.0 none)), all_said_on said more among told are.1)

each_said : (said : List Output) (told : List Told) → AllByRecursion (IsSaid said) told → AreSaid said told
each_said said [] all = tt
each_said said (one ∷ told) all = ((λ none. all.0), each_said said told all.1)

pub said_more : (said : List Output) (told more : List Told) → AreSaid said told → AllByRecursion (IsSaid said) more
    → AreSaid said (told ++ more)
said_more said [] more are all = each_said said more all
said_more said (one ∷ told) more are all = ((λ none. are.0 (none_before told more none)), said_more said told more are.1 all)

-- Nothing counts of the session before.
pub said_anew : (said : List Output) (told : List Told) → AreSaid said (told ++ Begins ∷ [])
said_anew said [] = ((λ none. tt), tt)
said_anew said (one ∷ told) = ((λ none. absurd (true≢false (sym (begins_last told) ∙ none))), said_anew said told)

-- what is told that is no reply
pub no_reply : {X : Type 0} (said : List Output) (f : X → Told) → ((x : X) → IsSaid said (f x)) → (xs : List X)
    → AllByRecursion (IsSaid said) (map f xs)
no_reply said f none [] = tt
no_reply said f none (x ∷ xs) = (none x, no_reply said f none xs)

ended_said : (said : List Output) (how : Ending) (one : Ended) → IsSaid said (ended_told how one)
ended_said said (ending.Late now) one = tt
ended_said said ending.Expired one = tt
ended_said said ending.Lost one = tt
ended_said said (ending.LostOf ticket) one = tt

pub endings_said : {A : Type 0} (said : List Output) (how : Ending) (entries : List (Entry A))
    → AllByRecursion (IsSaid said) (endings how entries)
endings_said said how entries = no_reply said (ended_told how) (ended_said said how) (map ended_of (ended how entries))

pub closings_said : {A : Type 0} (said : List Output) (entries : List (Entry A)) → AllByRecursion (IsSaid said) (closings entries)
closings_said said entries = no_reply said closed_told (λ one. tt) (map ended_of entries)

pub due_said : (said : List Output) (due : Option DialDue) → AllByRecursion (IsSaid said) (due_told due)
due_said said None = tt
due_said said (Some (Dial place within)) = (tt, tt)
due_said said (Some GiveUp) = (tt, tt)

answer_said : {A : Type 0} (said : List Output) (entries : List (Entry A)) (ticket : ℕ) (outcome : Outcome)
    → IsSaid said (Says (Answer ticket outcome)) → AllByRecursion (IsSaid said) (tells entries (Answer ticket outcome))
answer_said said entries ticket outcome is =
    each_both (IsSaid said) (answers ticket outcome entries) (endings (ending.LostOf ticket) (answered ticket outcome entries))
    (by (settles ticket outcome entries)) (endings_said said (ending.LostOf ticket) (answered ticket outcome entries))
  where
    by : (b : Bool) → AllByRecursion (IsSaid said) (cond b (Says (Answer ticket outcome) ∷ []) [])
    by true = (is, tt)
    by false = tt

tells_said : {A : Type 0} (said : List Output) (entries : List (Entry A)) (output : Output) → Among output said
    → AllByRecursion (IsSaid said) (tells entries output)
tells_said said entries (Answer ticket outcome) among =
    answer_said said entries ticket outcome (output_said said (Answer ticket outcome) among)
tells_said said entries (Enters state) among =
    each_both (IsSaid said) (endings ending.Lost entries) (Says (Enters state) ∷ []) (endings_said said ending.Lost entries) (tt, tt)
tells_said said entries (Send bytes) among = (tt, tt)
tells_said said entries (Report path side event) among = (tt, tt)
tells_said said entries (Drop fault) among = (tt, tt)

all_tells_said : {A : Type 0} (said : List Output) (entries : List (Entry A)) (given : List Output)
    → ((output : Output) → Among output given → Among output said) → AllByRecursion (IsSaid said) (tells_all entries given)
all_tells_said said entries [] among = tt
all_tells_said said entries (output ∷ given) among =
    each_both (IsSaid said) (tells entries output) (tells_all (hears entries output) given)
    (tells_said said entries output (among output (inl refl)))
    (all_tells_said said (hears entries output) given (λ other is. among other (inr is)))

-- and that an answer is too long, which is no reply, ahead of that
ahead_said : {A : Type 0} (said : List Output) (entries : List (Entry A)) (given : List Output)
    → ((output : Output) → Among output given → Among output said)
    → AllByRecursion (IsSaid said) (tells_all entries (with_too_long entries given))
ahead_said said entries given among =
    ahead (λ first. AllByRecursion (IsSaid said) (tells_all entries (first ++ given))) (all_tells_said said entries given among)
    (λ ticket. each_both (IsSaid said) (tells entries (Answer ticket TooLarge)) (tells_all (hears entries (Answer ticket TooLarge)) given)
    (answer_said said entries ticket TooLarge tt) (all_tells_said said (hears entries (Answer ticket TooLarge)) given among))
    entries (too_long_in given)

-- ---- subjects

abbrev pub IsLow : {A : Type 0} → Subject A → Type 0
IsLow subject = subject.ticket < first_own

pub mapped_low : {A : Type 0} (f : Subject A → Subject A) → ((subject : Subject A) → (f subject).ticket ≡ subject.ticket)
    → (subjects : List (Subject A)) → AllByRecursion IsLow subjects → AllByRecursion IsLow (map f subjects)
mapped_low f same [] low = tt
mapped_low f same (subject ∷ subjects) low =
    (subst (λ t. t < first_own) (sym (same subject)) low.0, mapped_low f same subjects low.1)

pub refused_low : {A : Type 0} (now : ℕ) (found : Option ℕ) (subjects : List (Subject A)) → AllByRecursion IsLow subjects
    → AllByRecursion IsLow (refused_by now found subjects)
refused_low now None subjects low = low
refused_low {A} now (Some ticket) subjects low =
    mapped_low (too_long_for now ticket)
    (refused_same (λ (subject : Subject A). subject.ticket) (λ subject progress. refl) now ticket) subjects low

pub unfollowed_low : {A : Type 0} (ticket : ℕ) (subjects : List (Subject A)) → AllByRecursion IsLow subjects
    → AllByRecursion IsLow (unfollowed ticket subjects)
unfollowed_low ticket [] low = tt
unfollowed_low ticket (subject ∷ subjects) low = by (not (subject.ticket == ticket)) (unfollowed_low ticket subjects low.1)
  where
    by : (b : Bool) → AllByRecursion IsLow (unfollowed ticket subjects)
        → AllByRecursion IsLow (cond b (subject ∷ unfollowed ticket subjects) (unfollowed ticket subjects))
    by true rest = (low.0, rest)
    by false rest = rest

visited_low : {A : Type 0} (now : ℕ) (outputs : List Output) (old new : List (Subject A)) → length new ≡ length old
    → AreVisited now outputs old new → AllByRecursion IsLow old → AllByRecursion IsLow new
visited_low {A} now outputs old new size visited low =
    recursion_from_All IsLow new (λ k d within.
    let fits : k < length old = omega (arith, within, size) in
    let subject : Subject A = slice_index_or old k d in
    let kept = visit_keeps now (taken now outputs subject) (slice_index_or new k d) (visited k d fits) in
    subst (λ t. t < first_own) (sym (kept.0 ∙ all_same_ticket now outputs subject)) (All-from_recursion IsLow old low k d fits))

-- ---- calls

module _ {A : Type 0} (IsAsked : ℕ → Question → Type 0) where
  abbrev pub EntryAsks : Entry A → Type 0
  EntryAsks entry = IsAsked entry.ticket (question_of (call_view entry.call))

  abbrev AllAsk : List (Entry A) → Type 0
  AllAsk entries = AllByRecursion EntryAsks entries

  filter_asks : (test : Entry A → Bool) (entries : List (Entry A)) → AllAsk entries → AllAsk (filter test entries)
  filter_asks test [] all = tt
  filter_asks test (entry ∷ entries) all = by (test entry) (filter_asks test entries all.1)
    where
      by : (b : Bool) → AllAsk (filter test entries) → AllAsk (cond b (entry ∷ filter test entries) (filter test entries))
      by true rest = (all.0, rest)
      by false rest = rest

  pub left_asks : (how : Ending) (entries : List (Entry A)) → AllAsk entries → AllAsk (left how entries)
  left_asks how entries all = filter_asks (λ entry. not (is_ended how entry)) entries all

  first_asks : (test : Entry A → Bool) (change : Entry A → List (Entry A))
      → ((entry : Entry A) → EntryAsks entry → AllAsk (change entry)) → (entries : List (Entry A)) → AllAsk entries
      → AllAsk (with_first test change entries)
  first_asks test change asks [] all = tt
  first_asks test change asks (entry ∷ entries) all = by (test entry) (first_asks test change asks entries all.1)
    where
      by : (b : Bool) → AllAsk (with_first test change entries)
          → AllAsk (cond b (change entry ++ entries) (entry ∷ with_first test change entries))
      by true rest = each_both EntryAsks (change entry) entries (asks entry all.0) all.1
      by false rest = (all.0, rest)

  back_asks : (outcome : Outcome) (entry : Entry A) → EntryAsks entry → AllAsk (after_answer outcome entry)
  back_asks outcome entry asks = by (goes_back (call_view entry.call) outcome)
    where
      by : (b : Bool) → AllAsk (cond b (record entry { is_sent = false } ∷ []) [])
      by true = (asks, tt)
      by false = tt

  hears_asks : (entries : List (Entry A)) (output : Output) → AllAsk entries → AllAsk (hears entries output)
  hears_asks entries (Answer ticket outcome) all =
      left_asks (ending.LostOf ticket) (answered ticket outcome entries)
      (first_asks (is_ended (ending.LostOf ticket)) (after_answer outcome) (back_asks outcome) entries all)
  hears_asks entries (Enters state) all = left_asks ending.Lost entries all
  hears_asks entries (Send bytes) all = all
  hears_asks entries (Report path side event) all = all
  hears_asks entries (Drop fault) all = all

  all_hear : (outputs : List Output) (entries : List (Entry A)) → AllAsk entries → AllAsk (hears_all entries outputs)
  all_hear [] entries all = all
  all_hear (output ∷ outputs) entries all = all_hear outputs (hears entries output) (hears_asks entries output all)

  handed_asks : (input : Input) (entries : List (Entry A)) → AllAsk entries → AllAsk (handed input entries)
  handed_asks (Call ticket call) entries all =
      first_asks waits_turn (λ entry. record entry { is_sent = true } ∷ []) (λ entry asks. (asks, tt)) entries all
  handed_asks turns.Opened entries all = all
  handed_asks turns.Cut entries all = all
  handed_asks (turns.Bytes bytes) entries all = all
  handed_asks (turns.Now moment) entries all = all

  -- the call that is handed over is that of an entry
  abbrev call_of : Entry A → ℕ × Asked_call
  call_of entry = (entry.ticket, call_view entry.call)

  abbrev next_by : Bool → Entry A → List (Entry A) → Option (ℕ × Asked_call)
  next_by waits entry entries = option_map call_of (cond waits (Some entry) (first_where waits_turn entries))

  pub next_asks : (ticket : ℕ) (call : Asked_call) (entries : List (Entry A)) → next_call entries ≡ Some (ticket, call) → AllAsk entries
      → IsAsked ticket (question_of call)
  next_asks ticket call [] is all = absurd (let e : None ≡ Some (ticket, call) = is in cc)
  next_asks ticket call (entry ∷ entries) is all = by (λ e. next_asks ticket call entries e all.1) (waits_turn entry) refl
    where
      the_one : (pair : ℕ × Asked_call) → Some pair ≡ Some (ticket, call) → pair ≡ (ticket, call)
      the_one pair e = ap (λ (o : Option (ℕ × Asked_call)). elim o [ None ↦ pair | Some it ↦ it ]) e

      by : (next_call entries ≡ Some (ticket, call) → IsAsked ticket (question_of call)) → (waits : Bool) → waits_turn entry ≡ waits
          → IsAsked ticket (question_of call)
      by rest true w =
          let one : call_of entry ≡ (ticket, call) = the_one (call_of entry) (sym (ap (λ b. next_by b entry entries) w) ∙ is) in
          subst (λ (pair : ℕ × Asked_call). IsAsked pair.0 (question_of pair.1)) one all.0
      by rest false w = rest (sym (ap (λ b. next_by b entry entries) w) ∙ is)

-- ---- an agent

-- An agent that sits in a chapter: each call of its turns and of its line was asked so, each reply that is told of its session was said,
-- and if no other session was told to have begun, something lasts.
pub record Keeps {A : Type 0} (IsAsked : ℕ → Question → Type 0) (Lasts : Chapter → Type 0) (trail : Trail A) (chapter : Chapter)
    : Type 0 where
  pub turns : AllByRecursion (ItemAsks IsAsked) chapter.items
  pub line : AllByRecursion (EntryAsks IsAsked) trail.line
  pub subjects : AllByRecursion IsLow trail.subjects
  pub told : AreSaid (outputs_of chapter.items) trail.told
  pub lasts : list_any begins trail.told ≡ false → Lasts chapter

-- What an agent's reads ask is asked so, and what lasts does over more turns.
pub record IsKept (IsAsked : ℕ → Question → Type 0) (Lasts : Chapter → Type 0) : Type 0 where
  pub reads : (ticket : ℕ) → ticket < first_own → (side : Side) (is_missing : Bool) (path : Text)
      → IsAsked ticket (read_of side is_missing path)
  pub lasts : (made : List Turn) (chapter : Chapter) → Lasts chapter → Lasts (with_more made chapter)

module _ (IsAsked : ℕ → Question → Type 0) where
  abbrev TurnAsks : Turn → Type 0
  TurnAsks turn = AsksSo IsAsked turn.input

  add_asks : (made : List Turn) (items : List Item) → AllByRecursion TurnAsks made → AllByRecursion (ItemAsks IsAsked) items
      → AllByRecursion (ItemAsks IsAsked) (with_turns made items)
  add_asks [] items all was = was
  add_asks (turn ∷ made) items all was = add_asks made (Turned turn ∷ items) all.1 (all.0, was)

module _ {A : Type 0} (IsAsked : ℕ → Question → Type 0) (Lasts : Chapter → Type 0) (kept : IsKept IsAsked Lasts) where
  reads_ask : (subjects : List (Subject A)) (reads : List Turn) → AllByRecursion IsLow subjects
      → AreReads subjects reads → AllByRecursion (TurnAsks IsAsked) reads
  reads_ask subjects [] low are = tt
  reads_ask subjects (turn ∷ reads) low are =
      let subject : Subject A = slice_index_or subjects are.0.0 are.0.1 in (
        subst (AsksSo IsAsked) (sym are.0.4.1)
            (subst (IsAsked subject.ticket) (sym are.0.4.2) (kept.reads subject.ticket
            (All-from_recursion IsLow subjects low are.0.0 are.0.1 are.0.3) subject.side are.0.2 subject.path)),
        reads_ask subjects reads low are.1,
      )

  let_go_said : (is_there : Bool) (timeout now : ℕ) (old new : Dialler A) (before after : List Told) (said : List Output)
      → LetsGoWhere is_there timeout now old new before after → AreSaid said before → AreSaid said after
  let_go_said true timeout now old new before after said goes are =
      subst (AreSaid said) (sym goes.1) (said_more said before (HangsUp ∷ []) are (tt, tt))
  let_go_said false timeout now old new before after said goes are = subst (AreSaid said) (sym goes.1) are

  let_go_none : (is_there : Bool) (timeout now : ℕ) (old new : Dialler A) (before after : List Told)
      → LetsGoWhere is_there timeout now old new before after → list_any begins after ≡ false → list_any begins before ≡ false
  let_go_none true timeout now old new before after goes none =
      none_before before (HangsUp ∷ []) (sym (ap (list_any begins) goes.1) ∙ none)
  let_go_none false timeout now old new before after goes none = sym (ap (list_any begins) goes.1) ∙ none

  pub hears_kept : (now : ℕ) (input : Input) (old new : Trail A) (does : HearsSo now input old new) (chapter : Chapter)
      → AsksSo IsAsked input → Keeps IsAsked Lasts old chapter
      → Keeps IsAsked Lasts new (with_more (heard_turns now input old new does) chapter)
  hears_kept now input old new does chapter asks was = record {
    turns = add_asks IsAsked made chapter.items
        (tt, (asks, reads_ask old.subjects does.takes.steps.calls was.subjects does.takes.steps.reads)) was.turns;
    line = subst (AllByRecursion (EntryAsks IsAsked)) (sym does.takes.line)
        (all_hear IsAsked (with_too_long line given) (handed input old.line) (handed_asks IsAsked input old.line was.line));
    subjects = subst (AllByRecursion IsLow) (sym does.takes.subjects)
        (refused_low now (too_long_in given) (map (told_of new.view) does.takes.stepped)
        (mapped_low (told_of new.view) (λ subject. refl) does.takes.stepped
        (visited_low now (does.takes.steps.first ++ does.takes.steps.second) old.subjects does.takes.stepped does.takes.steps.count
        does.takes.steps.visited was.subjects)));
    told = let_go_said _ _ now _ new.dialler does.told new.told said does.lets_go
        (subst (AreSaid said) (sym does.takes.told) (said_more said (old.told ++ tells_all line (with_too_long line given)) news
        (said_more said old.told (tells_all line (with_too_long line given))
        (all_said_on (outputs_of chapter.items) said (said_before made chapter.items) old.told was.told)
        (ahead_said said line given among)) (no_reply said news_told (λ one. tt) stepped)));
    lasts = λ none. kept.lasts made chapter (was.lasts (none_before old.told (tells_all line (with_too_long line given))
        (none_before (old.told ++ tells_all line (with_too_long line given)) news
        (sym (ap (list_any begins) does.takes.told) ∙ let_go_none _ _ now _ new.dialler does.told new.told does.lets_go none))));
  }
    where
      given : List Output
      given = does.takes.given

      line : List (Entry A)
      line = handed input old.line

      made : List Turn
      made = heard_turns now input old new does

      said : List Output
      said = outputs_of (with_turns made chapter.items)

      stepped : List (ℕ × News)
      stepped = flat_map (news_in new.view given) does.takes.stepped

      news : List Told
      news = map news_told stepped

      among : (output : Output) → Among output given → Among output said
      among output is = said_then made chapter.items output (subst (Among output) (sym (heard_said now input old new does)) is)

  -- A move that makes no turn: the line stays, or each of it was asked so, and no reply is told.
  pub stays_kept : (old new : Trail A) (more : List Told) (chapter : Chapter) → AllByRecursion (EntryAsks IsAsked) new.line
      → AllByRecursion IsLow new.subjects → new.told ≡ old.told ++ more → AllByRecursion (IsSaid (outputs_of chapter.items)) more
      → Keeps IsAsked Lasts old chapter → Keeps IsAsked Lasts new chapter
  stays_kept old new more chapter line low told none was = record {
    turns = was.turns;
    line = line;
    subjects = low;
    told = subst (AreSaid (outputs_of chapter.items)) (sym told) (said_more (outputs_of chapter.items) old.told more was.told none);
    lasts = λ no. was.lasts (none_before old.told more (sym (ap (list_any begins) told) ∙ no));
  }

  pub renewed_kept : (new : Trail A) (told : List Told) (chapter : Chapter) → chapter.items ≡ [] → new.line ≡ []
      → AllByRecursion IsLow new.subjects → new.told ≡ told ++ Begins ∷ [] → Keeps IsAsked Lasts new chapter
  renewed_kept new told chapter none empty low is = record {
    subjects = low;
    turns = subst (AllByRecursion (ItemAsks IsAsked)) (sym none) tt;
    line = subst (AllByRecursion (EntryAsks IsAsked)) (sym empty) tt;
    told = subst (AreSaid (outputs_of chapter.items)) (sym is) (said_anew (outputs_of chapter.items) told);
    lasts = λ no. absurd (true≢false (sym (ap (list_any begins) is ∙ begins_last told) ∙ no));
  }
