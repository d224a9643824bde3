-- A step of a device, in the chapter that its client has come to: its agent takes what was handed in, the contenders hear what was said and
-- ask what is due of them, and what they have listed was answered.
use Rattle.std.proofs.Common.{◌++◌, ◌≡◌, ◌≤◌, ◌<◌, ℕ, ℤ, Bool, true, false, cond, not, List, [], ◌∷◌, Option, Some, None, is_some, map}
use Rattle.std.proofs.Common.{inl, inr, nat_eq, string_bytes, refl, sym, ap, subst, ◌∙◌, true≢false, arith}
use Rattle.std.proofs.lemmas.Bool.{eqb-true}
use Rattle.std.proofs.lemmas.List.{map-append}
use Rattle.std.specs.Prelude.{◌||◌, ◌&&◌, fold}
use Rattle.std.specs.List.{flat_map, list_any, AllByRecursion, FoldsTo}
use Rattle.std.specs.declared.alloc.Global.{Global}
use Rattle.zk_nodes.specs.Path.{Text}
use Rattle.zk_nodes.specs.declared.side.Side.{Side}
use Rattle.zk_nodes.specs.declared.stat.Stat.{Stat}
use Rattle.zk_session.specs.declared.states.State.TheVariants.{Idle, Connecting, Connected, Expired, Closed}
use Rattle.zk_conversation.specs.Calls.{Call as Asked_call}
use Rattle.zk_conversation.specs.Questions.{Question, GetChildren, question_of}
use Rattle.zk_conversation.specs.Results.{Listing}
use Rattle.zk_conversation.specs.Views.{call_view}
use Rattle.zk_turns.specs.Meaning.{Among}
use Rattle.zk_turns.specs.Past.{Happening as Happened, Past, Replies, Took}
use Rattle.zk_turns.specs.Reported.{reports_in}
use Rattle.zk_turns.specs.Rule.{AllSaid, Stands}
use Rattle.zk_turns.specs.Sent.{outputs_of}
use Rattle.zk_turns.specs.Taken.{happenings, joined, past_after, past_of}
use Rattle.zk_turns.specs.Turns.{Answer, Call, Forgets, Input, Item, Outcome, Output, Replied, Signal, Start, Turn, Turned, signals}
use Rattle.zk_turns.specs.View.{View, view_at}
use Rattle.zk_client.specs.Views.{outcome_view}
use Rattle.zk_calls.specs.declared.entry.Entry.{Entry}
use Rattle.zk_agent.specs.declared.action.Action.{Action}
use Rattle.zk_agent.specs.declared.action.Action.TheVariants as action
use Rattle.zk_agent.specs.declared.agent.Agent.{Agent}
use Rattle.zk_agent.specs.declared.input.AgentInput.{AgentInput}
use Rattle.zk_agent.specs.declared.input.AgentInput.TheVariants as happens
use Rattle.zk_agent.specs.Agents.{trail_of}
use Rattle.zk_agent.specs.Telling.{Told, Says, action_view, told_by}
use Rattle.zk_contend.specs.Collections.{asker_of, hall_of, one_of, unless_left, Hall, IsChanged, Joins, KeepsCalls, TellsAt, TellsIf}
use Rattle.zk_contend.specs.Contenders.{closed, given_up, noted, renewed}
use Rattle.zk_contend.specs.Standings.{is_left, news_of, told_after, HasHeard}
use Rattle.zk_contend.specs.declared.collection.Contenders.{Contenders}
use Rattle.zk_contend.specs.declared.listed.Listed.{Listed}
use Rattle.zk_contend.specs.declared.place.Place.{Place}
use Rattle.zk_contend.specs.declared.place.Place.TheVariants.{At}
use Rattle.zk_contend.specs.declared.status.LockStatus.{LockStatus}
use Rattle.ffi_device.specs.Chains.{first_own, IsOwnAnswer, Part, TellsAllBut, TookAll}
use Rattle.ffi_device.specs.Contending.{is_own_answer, view_in, AskedAll, Contended, GoesOnWhere, HearsAll, HearsWhere, IsQuiet, JoinsBy}
use Rattle.ffi_device.specs.Happenings.{Happening, given_of, happening, is_contend}
use Rattle.ffi_device.specs.Happenings as whats
use Rattle.ffi_device.specs.Steps.{Stepped}
use Rattle.ffi_device.specs.declared.device.Device.{Device}
use Rattle.ffi_device.proofs.OwnCalls.{own_answer}
use Rattle.ffi_c.specs.Pasts.{AsksBelow, Chapter, TakesAll, TellsBelow, reported, with_turns}
use Rattle.ffi_c.proofs.Contended.{asks_on_next, asks_where, bare_changed, changed_like, forgets, hears_on, lists_like, noted_like}
use Rattle.ffi_c.proofs.Contended.{reads_list}
use Rattle.ffi_c.proofs.Contended.{same_like, Answers, AskingOf, BecomesLike, Contender, HasListed, IsLike, IsListedIn, ListedOf}
use Rattle.ffi_c.proofs.Contended.{Lists, ListsBy, ListsPath, MayList}
use Rattle.ffi_c.proofs.Heard.{listed_so, AsksSo, ItemAsks}
use Rattle.zk_contend.proofs.Listings.{begins_has, leaves_has, renewed_has, HasListing}
use Rattle.ffi_c.proofs.Moved.{part_goes, GivenAsks, Sits}
use Rattle.ffi_c.proofs.Tickets.{begins, AreSaid, EntryAsks, IsKept, IsLow, IsSaid, Keeps}
use Rattle.ffi_c.proofs.Turned.{fold_more, with_more}

-- ---- what was answered stays so

among_joined : (happening : Happened) (more : List Happened) (past : Past) → Among happening past → Among happening (joined past more)
among_joined happening [] past among = among
among_joined happening (one ∷ more) past among = among_joined happening more (one ∷ past) (inr among)

among_after : (start : Start) (happening : Happened) (more : List Signal) (past : Past) → Among happening past
    → Among happening (past_after start past more)
among_after start happening [] past among = among
among_after start happening (signal ∷ more) past among =
    among_after start happening more (joined past (happenings (view_at start past) signal))
    (among_joined happening (happenings (view_at start past) signal) past among)

pub heard_on : (start : Start) (item : Item) (items : List Item) (directory : Text) (listed : Listed Global)
    → HasHeard start items directory listed → HasHeard start (item ∷ items) directory listed
heard_on start item items directory listed heard =
    let reply : Happened = Took (Replies heard.0 (GetChildren directory heard.1) listed.zxid (Listing listed.names heard.2)) in
    (heard.0, heard.1, heard.2, among_after start reply (signals item) (past_of start items) heard.3)

turns_on : (start : Start) (made : List Turn) (items : List Item) (directory : Text) (listed : Listed Global)
    → HasHeard start items directory listed → HasHeard start (with_turns made items) directory listed
turns_on start [] items directory listed heard = heard
turns_on start (turn ∷ made) items directory listed heard =
    turns_on start made (Turned turn ∷ items) directory listed (heard_on start (Turned turn) items directory listed heard)

not_both : (first ticket : ℕ) → ticket < first → first ≤ ticket → ⊥
not_both first ticket below own = omega (arith, below, own)

-- What contenders have listed stays so over turns.
grows : (one : Option Contender) (old new : Chapter)
    → ((directory : Text) (listed : Listed Global) → IsListedIn old directory listed → IsListedIn new directory listed)
    → HasListed (IsListedIn old) one → HasListed (IsListedIn new) one
grows None old new on has = tt
grows (Some contender) old new on has = λ listed is. on contender.directory listed (has listed is)

kept_by : (contenders : Contenders Global) → IsKept (AskingOf contenders) (ListedOf contenders)
kept_by contenders = record {
  reads = λ ticket low. reads_list (MayList (one_of contenders) (asker_of contenders) contenders.calls.next) ticket
      (λ path own. absurd (not_both first_own ticket low own));
  lasts = λ made chapter lists ticket. grows (one_of contenders ticket) chapter (with_more made chapter)
      (λ directory listed heard. turns_on chapter.start made chapter.items directory listed heard) (lists ticket);
}

-- ---- an answer that is heard

module _ (contenders : Contenders Global) (chapter : Chapter) (ticket : ℕ) (own : first_own ≤ ticket) where
  heard_by : (contender : Contender) (listed : Listed Global) (stat : Stat) (path : Text) (watch : Bool) → path ≡ contender.directory
      → Among (Took (Replies ticket (GetChildren path watch) listed.zxid (Listing listed.names stat))) (past_of chapter.start chapter.items)
      → HasHeard chapter.start chapter.items contender.directory listed
  heard_by contender listed stat path watch is among = (
    ticket,
    watch,
    stat,
    subst (λ (p : Text). Among (Took (Replies ticket (GetChildren p watch) listed.zxid (Listing listed.names stat)))
        (past_of chapter.start chapter.items)) is among,
  )

  one_answers : (outcome : Outcome) → AllByRecursion (ItemAsks (AskingOf contenders)) chapter.items
      → AllSaid chapter.start chapter.items → IsSaid (outputs_of chapter.items) (Says (Answer ticket outcome)) → (one : Option Contender)
      → ((path : Text) → MayList (one_of contenders) (asker_of contenders) contenders.calls.next ticket path → ListsPath path one)
      → Answers (IsListedIn chapter) outcome one
  one_answers outcome asks all_said said None lists = tt
  one_answers outcome asks all_said said (Some contender) lists = λ again listed answer.
      let among : Among (Answer ticket (Replied listed.zxid (Listing listed.names answer.0))) (outputs_of chapter.items)
      = subst (λ (o : Outcome). IsSaid (outputs_of chapter.items) (Says (Answer ticket o))) answer.1 said in
      let was = listed_so (AskingOf contenders) chapter.start chapter.items asks all_said ticket listed.zxid listed.names answer.0 among in
      heard_by contender listed answer.0 was.0 was.1 (lists was.0 was.2 again) was.3

-- ---- what is said

-- what is heard that begins no session
passes : (contenders : Contenders Global) (chapter : Chapter) (line : List (Entry Global)) (one : Told) (rest : List Told)
    → begins one ≡ false → Lists contenders chapter line (one ∷ rest) → Lists contenders chapter line rest
passes contenders chapter line one rest none was = record {
  awaited = was.awaited;
  turns = was.turns;
  waits = was.waits;
  listed = λ no. was.listed (ap (λ b. b || list_any begins rest) none ∙ no);
}

module _ (view : View) (now : ℕ) (chapter : Chapter) (line : List (Entry Global)) (said : AllSaid chapter.start chapter.items) where
  likes : (told : Told) (rest : List Told) (from to : Contenders Global) → begins told ≡ false
      → ((ticket : ℕ) → BecomesLike (one_of from ticket) (one_of to ticket)) → KeepsCalls from to
      → Lists from chapter line (told ∷ rest) → Lists to chapter line rest
  likes told rest from to none like keeps was =
      lists_like (one_of from) (one_of to) (asker_of from) (asker_of to) from.calls.next to.calls.next chapter line rest rest like
      keeps.calls keeps.next (λ no. no) (passes from chapter line told rest none was)

  hear_one : (one : Action Global) (rest : List Told) (from to : Contenders Global) → HearsWhere (is_own_answer one) view now one from to
      → (list_any begins rest ≡ false → IsSaid (outputs_of chapter.items) (action_view one))
      → Lists from chapter line (action_view one ∷ rest) → Lists to chapter line rest
  hear_one (action.Answer ticket outcome) rest from to hears is was = by (is_own_answer answer) refl hears
    where
      answer : Action Global
      answer = action.Answer ticket outcome

      by : (is_own : Bool) → is_own_answer answer ≡ is_own → HearsWhere is_own view now answer from to → Lists to chapter line rest
      by true own hears =
          hears_on view now ticket (outcome_view outcome) from to chapter line (action_view answer ∷ rest) rest hears (λ none. none)
          (λ none its asked. one_answers from chapter ticket (own_answer answer own) (outcome_view outcome) was.turns said (is none)
          (one_of from its) (λ path may. (may (own_answer answer own)).1 its asked)) was
      by false own same =
          subst (λ (c : Contenders Global). Lists c chapter line rest) (sym same)
          (passes from chapter line (action_view answer) rest refl was)
  hear_one (action.Report path side event) rest from to notes is was =
      likes (action_view (action.Report path side event)) rest from to refl
      (λ ticket. changed_like (noted (string_bytes path) event) (noted_like (string_bytes path) event) (one_of from ticket)
      (one_of to ticket) (notes.0 ticket)) notes.2 was
  hear_one (action.State Closed) rest from to notes is was =
      forgets from to chapter line (action_view {A = Global} (action.State Closed) ∷ rest) rest notes.2
      (λ ticket. bare_changed closed (λ contender listed has. has) (one_of from ticket) (one_of to ticket) (notes.0 ticket)) was
  hear_one (action.State Idle) rest from to notes is was =
      likes (action_view {A = Global} (action.State Idle)) rest from to refl
      (λ ticket. same_like (one_of from ticket) (one_of to ticket) (notes.0 ticket)) notes.2 was
  hear_one (action.State Connecting) rest from to notes is was =
      likes (action_view {A = Global} (action.State Connecting)) rest from to refl
      (λ ticket. same_like (one_of from ticket) (one_of to ticket) (notes.0 ticket)) notes.2 was
  hear_one (action.State Connected) rest from to notes is was =
      likes (action_view {A = Global} (action.State Connected)) rest from to refl
      (λ ticket. same_like (one_of from ticket) (one_of to ticket) (notes.0 ticket)) notes.2 was
  hear_one (action.State Expired) rest from to notes is was =
      likes (action_view {A = Global} (action.State Expired)) rest from to refl
      (λ ticket. same_like (one_of from ticket) (one_of to ticket) (notes.0 ticket)) notes.2 was
  hear_one action.Renewed rest from to notes is was =
      forgets from to chapter line (action_view {A = Global} action.Renewed ∷ rest) rest notes.2
      (λ ticket. bare_changed renewed (λ contender listed has. renewed_has contender.is_given_up listed has) (one_of from ticket)
      (one_of to ticket) (notes.0 ticket)) was
  hear_one other rest from to same is was =
      subst (λ (c : Contenders Global). Lists c chapter line rest) (sym same)
      (passes from chapter line (action_view other) rest refl was)

  hear_all : (all : List (Action Global)) (from to : Contenders Global) → HearsAll view now from all to
      → AreSaid (outputs_of chapter.items) (told_by all) → Lists from chapter line (told_by all) → Lists to chapter line []
  hear_all [] from to same are was = subst (λ (c : Contenders Global). Lists c chapter line []) same was
  hear_all (one ∷ all) from to hears are was =
      hear_all all hears.0 to hears.2 are.1 (hear_one one (told_by all) from hears.0 hears.1 are.0 was)

-- ---- who joins, and who is told of

joined_like : (ticket : ℕ) (contender : Contender) (old joined : Contenders Global) → contender.asked ≡ None
    → ((listed : Listed Global) → HasListing contender.place listed → ⊥) → (one : Option Contender) → one_of old ticket ≡ one
    → Joins ticket contender (not (is_some one)) old joined → (other : ℕ) → BecomesLike (one_of old other) (one_of joined other)
joined_like ticket contender old joined asked bare (Some was) is same other =
    same_like (one_of old other) (one_of joined other) (same other)
joined_like ticket contender old joined asked bare None is joins other = by (nat_eq ticket other) refl (joins other)
  where
    by : (is_it : Bool) → nat_eq ticket other ≡ is_it → one_of joined other ≡ cond is_it (Some contender) (one_of old other)
        → BecomesLike (one_of old other) (one_of joined other)
    by true e becomes =
        let none : one_of old other ≡ None = subst (λ t. one_of old t ≡ None) (eqb-true ticket other e) is in
        subst (BecomesLike (one_of old other)) (sym becomes)
        (subst (λ (o : Option Contender). BecomesLike o (Some contender)) (sym none) (asked, bare))
    by false e becomes = same_like (one_of old other) (one_of joined other) becomes

given_up_like : (contender : Contender) → IsLike contender (given_up contender)
given_up_like contender = record {
  asked = refl;
  directory = refl;
  listing = λ listed has. leaves_has contender.asked contender.place listed has;
}

left_like : (is_it : Bool) (old new : Option Contender) → IsChanged is_it (λ was is. is ≡ given_up was) old new → BecomesLike old new
left_like false old new same = same_like old new same
left_like true None new same = subst (BecomesLike None) (sym same) tt
left_like true (Some was) new changed =
    subst (BecomesLike (Some was)) (sym (changed.1 ∙ ap Some changed.2)) (given_up_like was)

joins_like : (what : Happening) (old joined : Contenders Global) → JoinsBy what old joined
    → ((ticket : ℕ) → BecomesLike (one_of old ticket) (one_of joined ticket)) × KeepsCalls old joined
joins_like (whats.Contends ticket directory naming guid bytes acl may_be_there) old joined joins = (
  joined_like ticket joins.contender old joined joins.is.fresh.asked
      (λ listed has. begins_has may_be_there listed (subst (λ (p : Place Global). HasListing p listed) joins.is.fresh.place has))
      (one_of old ticket) refl joins.joins,
  joins.calls,
)
joins_like (whats.GivesUp ticket) old joined leaves = (
  (λ other. left_like (nat_eq ticket other) (one_of old other) (one_of joined other) (leaves.gives other)),
  leaves.calls,
)
joins_like _ old joined same = (
  (λ ticket. same_like (one_of old ticket) (one_of joined ticket) (ap (λ (c : Contenders Global). one_of c ticket) same)),
  record {
    calls = λ call. ap (λ (c : Contenders Global). asker_of c call) same;
    next = ap (λ (c : Contenders Global). c.calls.next) same;
  },
)

told_like : (was : Contender) (told : LockStatus) → BecomesLike (Some was) (unless_left (record was { told = told }))
told_like was told = by (is_left was.place) (is_some was.asked) refl
  where
    like : IsLike was (record was { told = told })
    like = record { asked = refl; directory = refl; listing = λ listed has. has }

    by : (left asks : Bool) → is_some was.asked ≡ asks
        → BecomesLike (Some was) (cond (left && not asks) None (Some (record was { told = told })))
    by true true e = like
    by true false e = e
    by false asks e = like

tell_one : (view : View) (ticket : ℕ) (old new : Hall Global) (one : Option Contender) → old.one ticket ≡ one
    → TellsIf view ticket one old new → (other : ℕ) → BecomesLike (old.one other) (new.one other)
tell_one view ticket old new None is tells other = same_like (old.one other) (new.one other) (tells.0 other)
tell_one view ticket old new (Some was) is tells other = by (nat_eq ticket other) refl (tells.told other)
  where
    left : Option Contender
    left = unless_left (record was { told = told_after was.told (news_of was.told tells.stands) })

    by : (is_it : Bool) → nat_eq ticket other ≡ is_it → new.one other ≡ cond is_it left (old.one other)
        → BecomesLike (old.one other) (new.one other)
    by true e becomes =
        let there : old.one other ≡ Some was = subst (λ t. old.one t ≡ Some was) (eqb-true ticket other e) is in
        subst (BecomesLike (old.one other)) (sym becomes)
        (subst (λ (o : Option Contender). BecomesLike o left) (sym there)
        (told_like was (told_after was.told (news_of was.told tells.stands))))
    by false e becomes = same_like (old.one other) (new.one other) becomes

tell_all : (view : View) (tickets : List ℕ) (old new : Hall Global) (asker : ℕ → Option ℕ) (next : ℕ) (chapter : Chapter)
    (line : List (Entry Global)) → FoldsTo (TellsAt view) old tickets new → ListsBy old.one asker next chapter line []
    → ListsBy new.one asker next chapter line []
tell_all view [] old new asker next chapter line same was =
    subst (λ (hall : Hall Global). ListsBy hall.one asker next chapter line []) same was
tell_all view (ticket ∷ tickets) old new asker next chapter line tells was =
    tell_all view tickets tells.0 new asker next chapter line tells.2
    (lists_like old.one tells.0.one asker asker next next chapter line [] []
    (tell_one view ticket old tells.0 (old.one ticket) refl tells.1) (λ call. refl) refl (λ none. none) was)

-- ---- what an agent takes

abbrev line_of : Agent Global → List (Entry Global)
line_of agent = agent.asker.line.entries.items

abbrev AreLow : Agent Global → Type 0
AreLow agent = AllByRecursion IsLow agent.asker.follower.subjects.items

abbrev AreToldBelow : List (Action Global) → Type 0
AreToldBelow said = AllByRecursion TellsBelow (told_by said)

both_below : (first second : List (Action Global)) → AreToldBelow (first ++ second) → AreToldBelow first × AreToldBelow second
both_below [] second all = (tt, all)
both_below (one ∷ first) second all =
    let rest = both_below first second all.1 in
    ((all.0, rest.0), rest.1)

own_below : (one : Action Global) → IsOwnAnswer one → TellsBelow (action_view one)
own_below (action.Answer ticket outcome) own = tt
own_below _ own = absurd own

-- What is left out of what is told are answers.
but_below : (said told : List (Action Global)) → TellsAllBut said told → AreToldBelow told → AreToldBelow said
but_below [] told same all = tt
but_below (one ∷ said) told (inl but) all = (own_below one but.0, but_below said told but.1 all)
but_below (one ∷ said) told (inr tells) all =
    let here = subst AreToldBelow tells.1 all in
    (here.0, but_below said tells.0 tells.2 here.1)

low_asks : (contenders : Contenders Global) (ticket : ℕ) (question : Question) → ticket < first_own → AskingOf contenders ticket question
low_asks contenders ticket question below =
    asks_where (MayList (one_of contenders) (asker_of contenders) contenders.calls.next) ticket question
    (λ path watch is own. absurd (not_both first_own ticket below own))

call_below : (what : Happening) (ticket : ℕ) (asked : Asked_call) (until : Option ℕ)
    → whats.Calls ticket asked until ≡ given_of what → AsksBelow what → ticket < first_own
call_below (whats.Calls its call limit) ticket asked until e below =
    let same : its ≡ ticket = cc in subst (λ t. t < first_own) same below
call_below _ ticket asked until e below = absurd cc

follow_below : (what : Happening) (ticket : ℕ) (side : Side) (path : Text) → whats.Follows ticket side path ≡ given_of what
    → AsksBelow what → ticket < first_own
follow_below (whats.Follows its on at) ticket side path e below =
    let same : its ≡ ticket = cc in subst (λ t. t < first_own) same below
follow_below _ ticket side path e below = absurd cc

given_asks : (contenders : Contenders Global) (what : Happening) (given : AgentInput Global)
    → happening given ≡ given_of what → AsksBelow what → GivenAsks (AskingOf contenders) given
given_asks contenders what (happens.Call ticket call until) is below =
    low_asks contenders ticket (question_of (call_view call)) (call_below what ticket (call_view call) until is below)
given_asks contenders what (happens.Follow ticket side path) is below = follow_below what ticket side path is below
given_asks contenders what _ is below = tt

own_given : (IsAsked : ℕ → Question → Type 0) (given : AgentInput Global) (ticket : ℕ) (call : Asked_call)
    → happening given ≡ whats.Calls ticket call None → IsAsked ticket (question_of call) → GivenAsks IsAsked given
own_given IsAsked (happens.Call its asked until) ticket call is asks =
    let same : its ≡ ticket = cc in
    let calls : call_view asked ≡ call = cc in
    subst (λ t. IsAsked t (question_of (call_view asked))) (sym same)
    (subst (λ (c : Asked_call). IsAsked ticket (question_of c)) (sym calls) asks)
own_given IsAsked (happens.Follow its side path) ticket call is asks = absurd cc
own_given IsAsked _ ticket call is asks = tt

-- where an agent sits before it takes something, and what its contenders hear then
sits_down : (contenders : Contenders Global) (Below : Type 0) (base : List Output) (agent : Agent Global) (chapter : Chapter)
    → Stands chapter.start chapter.items (view_in agent) → base ≡ reports_in (outputs_of chapter.items)
    → (Below → Lists contenders chapter (line_of agent) []) → (Below → AreLow agent)
    → Sits agent.timeout_ms base (AskingOf contenders) (ListedOf contenders) Below (trail_of agent []) chapter
sits_down contenders Below base agent chapter stands told lists low = record {
  stands = stands;
  asks = refl;
  told = told;
  keeps = λ below. record {
    turns = (lists below).turns;
    line = (lists below).waits;
    subjects = low below;
    told = tt;
    lasts = λ none. (lists below).listed refl;
  };
}

to_hear : (contenders : Contenders Global) (chapter : Chapter) (line : List (Entry Global)) (agent : Agent Global)
    (said : List (Action Global)) (next : Chapter) → Lists contenders chapter line []
    → Keeps (AskingOf contenders) (ListedOf contenders) (trail_of agent said) next → Lists contenders next (line_of agent) (told_by said)
to_hear contenders chapter line agent said next was keeps = record {
  awaited = was.awaited;
  turns = keeps.turns;
  waits = keeps.line;
  listed = keeps.lasts;
}

-- An agent takes these, in its chapters, and is so then.
abbrev GoesTo : (moment : ℕ) (base : List Output) (from : Agent Global) (chapter : Chapter) (parts : List Part) (to : Agent Global)
    (Below : Type 0) (Then : Chapter → Type 0) → Type 0
GoesTo moment base from chapter parts to Below Then =
    (next : Chapter) × TakesAll moment (from, chapter) (map (λ part. part.given) parts) (to, next)
    × Stands next.start next.items (view_in to)
    × (fold reported base (told_by (flat_map (λ part. part.said) parts)) ≡ reports_in (outputs_of next.items)) × (Below → Then next)

told_both : (base : List Output) (part : Part) (parts : List Part) (reports : List Output)
    → fold reported (fold reported base (told_by part.said)) (told_by (flat_map (λ part. part.said) parts)) ≡ reports
    → fold reported base (told_by (flat_map (λ part. part.said) (part ∷ parts))) ≡ reports
told_both base part parts reports is =
    ap (fold reported base) (map-append action_view part.said (flat_map (λ part. part.said) parts))
    ∙ fold_more reported base (told_by part.said) (told_by (flat_map (λ part. part.said) parts)) ∙ is

own_go : (now : ℕ) (Below : Type 0) (own : List Part) (from to : Agent Global × Contenders Global) → AskedAll now from own to
    → (base : List Output) (chapter : Chapter) → Stands chapter.start chapter.items (view_in from.0)
    → base ≡ reports_in (outputs_of chapter.items) → (Below → Lists from.1 chapter (line_of from.0) [] × AreLow from.0)
    → (Below → AreToldBelow (flat_map (λ part. part.said) own))
    → GoesTo now base from.0 chapter own to.0 Below (λ next. Lists to.1 next (line_of to.0) [] × AreLow to.0)
own_go now Below [] from to same base chapter stands told lists low = (
  chapter,
  ap (λ (pair : Agent Global × Contenders Global). (pair.0, chapter)) same,
  subst (λ (pair : Agent Global × Contenders Global). Stands chapter.start chapter.items (view_in pair.0)) same stands,
  told,
  (λ below. subst (λ (pair : Agent Global × Contenders Global). Lists pair.1 chapter (line_of pair.0) [] × AreLow pair.0) same
      (lists below)),
)
own_go now Below (part ∷ own) from to asked base chapter stands told lists low =
    let mid = asked.0 in
    let one = asked.1 in
    let asks = λ (below : Below). asks_on_next (view_in from.0) now one.ticket one.call from.1 one.between chapter (line_of from.0) one.asks
    (lists below).0 in
    let gone = part_goes (AskingOf one.between) (ListedOf one.between) Below (kept_by one.between) now part.given from.0 mid.0 part.said
    one.took base chapter (λ below. own_given (AskingOf one.between) part.given one.ticket one.call one.is (asks below).1)
    (λ below. (both_below part.said (flat_map (λ part. part.said) own) (low below)).0)
    (sits_down one.between Below base from.0 chapter stands told (λ below. (asks below).0) (λ below. (lists below).1)) in
    let next : Chapter = gone.0 in
    let rest = own_go now Below own mid to asked.2 (fold reported base (told_by part.said)) next gone.2.stands gone.2.told
    (λ below. (
      hear_all (view_in mid.0) now next (line_of mid.0) gone.2.stands.said part.said one.between mid.1 one.hears
          (gone.2.keeps below).told
          (to_hear one.between chapter (line_of from.0) mid.0 part.said next (asks below).0 (gone.2.keeps below)),
      (gone.2.keeps below).subjects,
    )) (λ below. (both_below part.said (flat_map (λ part. part.said) own) (low below)).1) in (
      rest.0,
      ((mid.0, next), gone.1, rest.1),
      rest.2,
      told_both base part own _ rest.3,
      rest.4,
    )

-- ---- a step

-- What is so of the contenders of a session, in its chapter.
pub record InSession (chapter : Chapter) (session : Device) : Type 0 where
  pub lists : Lists session.contenders chapter (line_of session.agent) []
  pub subjects : AreLow session.agent
  pub nobody : session.is_contending ≡ false → (ticket : ℕ) → one_of session.contenders ticket ≡ None

none_there : (is_it : Bool) (old new : Option Contender) → old ≡ None → IsChanged is_it (λ was is. is ≡ given_up was) old new → new ≡ None
none_there false old new none same = same ∙ none
none_there true None new none same = same
none_there true (Some was) new none changed = absurd (let e : Some was ≡ None = none in cc)

nobody_joins : (what : Happening) (old joined : Contenders Global) → is_contend what ≡ false → JoinsBy what old joined
    → ((ticket : ℕ) → one_of old ticket ≡ None) → (ticket : ℕ) → one_of joined ticket ≡ None
nobody_joins (whats.Contends its directory naming guid bytes acl may_be_there) old new apart joins none ticket = absurd (true≢false apart)
nobody_joins (whats.GivesUp its) old new apart leaves none ticket =
    none_there (nat_eq its ticket) (one_of old ticket) (one_of new ticket) (none ticket) (leaves.gives ticket)
nobody_joins _ old new apart same none ticket = ap (λ (c : Contenders Global). one_of c ticket) same ∙ none ticket

either_false : (a b : Bool) → (a || b) ≡ false → (a ≡ false) × (b ≡ false)
either_false true b none = absurd (true≢false none)
either_false false b none = (refl, none)

module _ (moment : ℕ) (what : Happening) (old now : Device) (does : Stepped moment what old now) (chapter next : Chapter)
    (Below : Type 0) (base : List Output) (stands : Stands next.start next.items (view_in does.took.took.0))
    (told : base ≡ reports_in (outputs_of next.items)) (was : Below → InSession chapter old)
    (joined : Below → Lists does.joined chapter (line_of old.agent) [])
    (keeps : Below
    → Keeps (AskingOf does.joined) (ListedOf does.joined) (trail_of does.took.took.0 does.took.said) next)
    (low : Below → AreToldBelow (flat_map (λ part. part.said) does.took.own)) where
  abbrev agent : Agent Global
  agent = does.took.took.0

  abbrev GoesOn : List Part → Type 0
  GoesOn own = GoesTo moment base agent next own now.agent Below (λ last. InSession last now)

  contended : (own : List Part) → (Below → AreToldBelow (flat_map (λ part. part.said) own)) → now.is_contending ≡ true
      → Contended moment does.joined agent does.took.said own now → GoesOn own
  contended own below_told contends goes =
      let gone = own_go moment Below own (agent, goes.heard) (now.agent, goes.looked) goes.asked base next stands told
      (λ below. (
        hear_all (view_in agent) moment next (line_of agent) stands.said does.took.said does.joined goes.heard goes.hears
            (keeps below).told (to_hear does.joined chapter (line_of old.agent) agent does.took.said next (joined below) (keeps below)),
        (keeps below).subjects,
      )) below_told in (
        gone.0,
        gone.1,
        gone.2,
        gone.3,
        (λ below. record {
          lists = rested gone.0 (gone.4 below).0;
          subjects = (gone.4 below).1;
          nobody = λ none. absurd (true≢false (sym contends ∙ none));
        }),
      )
    where
      rested : (last : Chapter) → Lists goes.looked last (line_of now.agent) [] → Lists now.contenders last (line_of now.agent) []
      rested last lists =
          let line : List (Entry Global) = line_of now.agent in
          let rests = lists_like (one_of goes.looked) (one_of goes.rested) (asker_of goes.looked) (asker_of goes.rested)
          goes.looked.calls.next goes.rested.calls.next last line [] []
          (λ ticket. same_like (one_of goes.looked ticket) (one_of goes.rested ticket) (goes.rests.same ticket))
          goes.rests.calls.calls goes.rests.calls.next (λ none. none) lists in
          lists_like (one_of now.contenders) (one_of now.contenders) (asker_of goes.rested) (asker_of now.contenders)
          goes.rested.calls.next now.contenders.calls.next last line [] []
          (λ ticket. same_like (one_of now.contenders ticket) (one_of now.contenders ticket) refl) goes.calls.calls goes.calls.next
          (λ none. none)
          (tell_all (view_in now.agent) goes.rested.stirred.untold.items (hall_of goes.rested [])
          (hall_of now.contenders now.news.items) (asker_of goes.rested) goes.rested.calls.next last line goes.tells rests)

  quiet : (own : List Part) → own ≡ [] → now.is_contending ≡ false → IsQuiet does.joined now → TookAll moment agent own now.agent
      → GoesOn own
  quiet (part ∷ own) alone contends goes took = absurd (let e : part ∷ own ≡ [] = alone in cc)
  quiet [] alone contends goes same = (
    next,
    ap (λ (a : Agent Global). (a, next)) same,
    subst (λ (a : Agent Global). Stands next.start next.items (view_in a)) same stands,
    told,
    (λ below. record {
      lists = subst (λ (a : Agent Global). Lists now.contenders next (line_of a) []) same
          (subst (λ (c : Contenders Global). Lists c next (line_of agent) []) (sym goes.nobody) (lists below));
      subjects = subst AreLow same (keeps below).subjects;
      nobody = λ none ticket. ap (λ (c : Contenders Global). one_of c ticket) goes.nobody ∙ nobody below ticket;
    }),
  )
    where
      nobody : Below → (ticket : ℕ) → one_of does.joined ticket ≡ None
      nobody below =
          let both = either_false (is_contend what) old.is_contending (sym does.contends ∙ contends) in
          nobody_joins what old.contenders does.joined both.0 does.joins ((was below).nobody both.1)

      lists : Below → Lists does.joined next (line_of agent) []
      lists below = record {
        awaited = (joined below).awaited;
        turns = (keeps below).turns;
        waits = (keeps below).line;
        listed = λ none ticket. subst (HasListed (IsListedIn next)) (sym (nobody below ticket)) tt;
      }

  goes_on : (is_contending : Bool) → now.is_contending ≡ is_contending
      → GoesOnWhere is_contending moment does.joined agent does.took.said does.took.own now → GoesOn does.took.own
  goes_on true contends goes = contended does.took.own low contends goes
  goes_on false contends goes = quiet does.took.own (does.took.alone contends).0 contends goes does.took.took.2

pub step_goes : (moment : ℕ) (what : Happening) (old now : Device) (does : Stepped moment what old now) (Below : Type 0)
    (base : List Output) (chapter : Chapter) → Stands chapter.start chapter.items (view_in old.agent)
    → base ≡ reports_in (outputs_of chapter.items) → (Below → AsksBelow what × AreToldBelow now.said.items)
    → (Below → InSession chapter old)
    → GoesTo moment base old.agent chapter (record { given = does.given; said = does.took.said } ∷ does.took.own) now.agent Below
    (λ next. InSession next now)
step_goes moment what old now does Below base chapter stands told calls was =
    let part : Part = record { given = does.given; said = does.took.said } in
    let agent = does.took.took.0 in
    let gone = part_goes (AskingOf does.joined) (ListedOf does.joined) Below (kept_by does.joined) moment does.given old.agent agent
    does.took.said does.took.took.1 base chapter
    (λ below. given_asks does.joined what does.given does.is (calls below).0) (λ below. (low below).0)
    (sits_down does.joined Below base old.agent chapter stands told joined (λ below. (was below).subjects)) in
    let rest = goes_on moment what old now does chapter gone.0 Below (fold reported base (told_by does.took.said)) gone.2.stands gone.2.told
    was joined gone.2.keeps (λ below. (low below).1) now.is_contending refl does.goes in (
      rest.0,
      ((agent, gone.0), gone.1, rest.1),
      rest.2,
      told_both base part does.took.own _ rest.3,
      rest.4,
    )
  where
    low : Below → AreToldBelow does.took.said × AreToldBelow (flat_map (λ part. part.said) does.took.own)
    low below =
        both_below does.took.said (flat_map (λ part. part.said) does.took.own)
        (but_below (does.took.said ++ flat_map (λ part. part.said) does.took.own) now.said.items does.took.told (calls below).1)

    joined : Below → Lists does.joined chapter (line_of old.agent) []
    joined below =
        let like = joins_like what old.contenders does.joined does.joins in
        lists_like (one_of old.contenders) (one_of does.joined) (asker_of old.contenders) (asker_of does.joined)
        old.contenders.calls.next does.joined.calls.next chapter (line_of old.agent) [] [] like.0 like.1.calls like.1.next (λ none. none)
        (was below).lists

-- ---- what else becomes of a session

no_asker : (contenders : Contenders Global) → ((call : ℕ) → asker_of contenders call ≡ None) → (call ticket : ℕ)
    → asker_of contenders call ≡ Some ticket → ⊥
no_asker contenders none call ticket is = let e : None ≡ Some ticket = sym (none call) ∙ is in cc

pub session_begins : (chapter : Chapter) (session : Device) → chapter.items ≡ [] → line_of session.agent ≡ []
    → session.agent.asker.follower.subjects.items ≡ []
    → ((ticket : ℕ) → one_of session.contenders ticket ≡ None) → ((call : ℕ) → asker_of session.contenders call ≡ None)
    → InSession chapter session
session_begins chapter session no_items no_calls no_subjects nobody none = record {
  subjects = subst (AllByRecursion IsLow) (sym no_subjects) tt;
  lists = record {
    awaited = record {
      there = λ call ticket is. absurd (no_asker session.contenders none call ticket is);
      once = λ call other ticket is its. absurd (no_asker session.contenders none call ticket is);
    };
    turns = subst (AllByRecursion (ItemAsks (AskingOf session.contenders))) (sym no_items) tt;
    waits = subst (AllByRecursion (EntryAsks (AskingOf session.contenders))) (sym no_calls) tt;
    listed = λ no ticket. subst (HasListed (IsListedIn chapter)) (sym (nobody ticket)) tt;
  };
  nobody = λ no ticket. nobody ticket;
}

-- nothing else became of it
pub session_stays : (chapter : Chapter) (old session : Device) → line_of session.agent ≡ line_of old.agent
    → session.agent.asker.follower.subjects.items ≡ old.agent.asker.follower.subjects.items
    → session.contenders ≡ old.contenders → session.is_contending ≡ old.is_contending → InSession chapter old → InSession chapter session
session_stays chapter old session line subjects contenders contends was = record {
  subjects = subst (AllByRecursion IsLow) (sym subjects) was.subjects;
  lists = subst (λ (l : List (Entry Global)). Lists session.contenders chapter l []) (sym line)
      (subst (λ (c : Contenders Global). Lists c chapter (line_of old.agent) []) (sym contenders) was.lists);
  nobody = λ none ticket. ap (λ (c : Contenders Global). one_of c ticket) contenders ∙ was.nobody (sym contends ∙ none) ticket;
}

-- the stale answers are gone
pub session_forgets : (chapter : Chapter) (session : Device) → InSession chapter session
    → InSession (record chapter { items = Forgets ∷ chapter.items }) session
session_forgets chapter session was =
    let next : Chapter = record chapter { items = Forgets ∷ chapter.items } in
    record {
      lists = record {
        awaited = was.lists.awaited;
        turns = (tt, was.lists.turns);
        waits = was.lists.waits;
        listed = λ none ticket. grows (one_of session.contenders ticket) chapter next
            (λ directory listed heard. heard_on chapter.start Forgets chapter.items directory listed heard)
            (was.lists.listed none ticket);
      };
      subjects = was.subjects;
      nobody = was.nobody;
    }

-- The listing of each contender is one that the client was answered.
pub its_listing : (chapter : Chapter) (session : Device) → InSession chapter session → (ticket : ℕ)
    (contender : Contender) (own : Text) (listed : Listed Global) → one_of session.contenders ticket ≡ Some contender
    → contender.place ≡ At own (Some listed) → HasHeard chapter.start chapter.items contender.directory listed
its_listing chapter session was ticket contender own listed is at =
    let has : HasListed (IsListedIn chapter) (Some contender)
    = subst (HasListed (IsListedIn chapter)) is (was.lists.listed refl ticket) in
    has listed (subst (λ (p : Place Global). HasListing p listed) (sym at) refl)
