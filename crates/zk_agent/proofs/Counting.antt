-- Ticket by ticket, the calls that wait and the ends that are told are together as many as the calls that waited and those that were asked:
-- each move keeps that sum, and one that asks for a call adds that call.
use Rattle.std.proofs.Common.{zero-add, ◌≡◌, ◌++◌, ◌+◌, ℕ, ℤ, Bool, true, false, cond, ◌&&◌, not, List, [], ◌∷◌, Option, Some, None, map}
use Rattle.std.proofs.Common.{refl}
use Rattle.std.proofs.Common.{sym, ap, ◌∙◌, arith}
use Rattle.std.specs.Prelude.{◌==◌}
use Rattle.std.specs.List.{count_by, filter, flat_map, FoldsTo}
use Rattle.std.proofs.lemmas.Bool.Decides.{Decides-eqb}
use Rattle.std.proofs.lemmas.List.Filters.{sum_by-filter_both}
use Rattle.std.proofs.lemmas.List.Sums.{sum_by-append, sum_by-cons}
use Rattle.zk_conversation.specs.Views.{call_view}
use Rattle.zk_turns.specs.Turns.{Input, Outcome, Output, Answer, Enters, Send, Report, Drop}
use Rattle.zk_turns.specs.Turns as turns
use Rattle.zk_dialler.specs.declared.dialler.Dialler.{Dialler}
use Rattle.zk_dialler.specs.declared.dialler.DialDue.{DialDue}
use Rattle.zk_dialler.specs.declared.dialler.DialDue.TheVariants.{Dial, GiveUp}
use Rattle.zk_follow.specs.declared.news.News.{News}
use Rattle.zk_follow.specs.Following.{doubted, news_in}
use Rattle.zk_calls.specs.declared.entry.Entry.{Entry}
use Rattle.zk_calls.specs.declared.entry.Ending.{Ending}
use Rattle.zk_calls.specs.declared.entry.Ending.TheVariants.{Lost, LostOf, Late, Expired}
use Rattle.zk_calls.specs.Lines.{after_answer, answered, ended, ended_of, first_handed, first_where, goes_back, is_ended, left, settles_one}
use Rattle.zk_calls.specs.Lines.{waits_turn}
use Rattle.zk_dialler.specs.declared.dialler.Phase.{Phase}
use Rattle.zk_dialler.specs.declared.dialler.Phase.TheVariants.{Waiting, Dialling, Open}
use Rattle.zk_dialler.specs.Dialling.{is_open}
use Rattle.zk_follow.proofs.Counting.{count_map}
use Rattle.zk_agent.specs.declared.agent.Agent.{Agent}
use Rattle.zk_agent.specs.declared.input.AgentInput.{AgentInput}
use Rattle.zk_agent.specs.declared.input.AgentInput.TheVariants as happens
use Rattle.zk_agent.specs.Agents.{Comes, Move, Hears, Hands, Renews, Follows, Unfollows, Asks, GivesUp, LeavesLate, Opened, Ended as Over}
use Rattle.zk_agent.specs.Agents.{HungUp, Closes, Addressed, Decides, Tends, Presents, Does, HearsSo, LeavesWhere, LetsGoWhere, Trail}
use Rattle.zk_agent.specs.Agents.{rises, DoubtsWhere}
use Rattle.zk_agent.specs.Agents.{bytes_at}
use Rattle.zk_agent.specs.inner.Agents.{asks_for}
use Rattle.zk_agent.specs.Agents.{given_of, judging_in, leaves_with, left_at, moves_of, papers_in, how_many_asked, how_many_ended}
use Rattle.zk_agent.specs.Agents.{is_given, opened_at}
use Rattle.zk_agent.specs.Credentials.{unwritten}
use Rattle.zk_agent.specs.Calls.{answers, closings, endings, handed, hears, hears_all, how_many, tells, tells_all}
use Rattle.zk_agent.specs.Overlong.{with_too_long}
use Rattle.zk_agent.specs.Telling.{Told, Says, HangsUp, Begins, Introduces, TellsTree, closed_told, due_told, ended_told, is_end_of}
use Rattle.zk_agent.specs.Telling.{judged_told, news_told}

-- ---- counts

count_cons : {X : Type 0} (p : X → Bool) (x : X) (xs : List X) → count_by p (x ∷ xs) ≡ cond (p x) 1 0 + count_by p xs
count_cons p x xs = sum_by-cons (λ y. cond (p y) 1 0) x xs

count_append : {X : Type 0} (p : X → Bool) (xs ys : List X) → count_by p (xs ++ ys) ≡ count_by p xs + count_by p ys
count_append p xs ys = sum_by-append (λ y. cond (p y) 1 0) xs ys

count_none : {X Y : Type 0} (p : Y → Bool) (f : X → Y) → ((x : X) → p (f x) ≡ false) → (xs : List X) → count_by p (map f xs) ≡ 0
count_none p f none [] = refl
count_none p f none (x ∷ xs) =
    count_cons p (f x) (map f xs) ∙ ap (λ b. cond b 1 0 + count_by p (map f xs)) (none x) ∙ zero-add (count_by p (map f xs))
    ∙ count_none p f none xs

same_ticket : (sent : Bool) (mine its : ℕ) → (sent && (mine == its)) ≡ true → mine ≡ its
same_ticket true mine its e = (Decides-eqb mine its).0 e
same_ticket false mine its e = absurd cc

says_no_end : (ticket : ℕ) (told : Told) → is_end_of ticket told ≡ false → how_many_ended ticket (told ∷ []) ≡ 0
says_no_end ticket told none = count_cons (is_end_of ticket) told [] ∙ ap (λ b. cond b 1 0 + 0) none

no_news : (ticket : ℕ) (news : List (ℕ × News)) → how_many_ended ticket (map news_told news) ≡ 0
no_news ticket news = count_none (is_end_of ticket) news_told (λ one. refl) news

no_due : (ticket : ℕ) (due : Option DialDue) → how_many_ended ticket (due_told due) ≡ 0
no_due ticket None = refl
no_due ticket (Some (Dial place within)) = refl
no_due ticket (Some GiveUp) = refl

both_more : {X : Type 0} (p : X → Bool) (x : X) (xs ys : List X) → count_by p xs ≡ count_by p ys → count_by p (x ∷ xs) ≡ count_by p (x ∷ ys)
both_more p x xs ys same = count_cons p x xs ∙ ap (λ n. cond (p x) 1 0 + n) same ∙ sym (count_cons p x ys)

-- what asks comes from outside
asks_alone : (ticket : ℕ) (moves : List Move) → count_by (asks_for ticket) (filter is_given moves) ≡ count_by (asks_for ticket) moves
asks_alone ticket [] = refl
asks_alone ticket (Hands now its asked ∷ moves) = asks_alone ticket moves
asks_alone ticket (Renews ∷ moves) = asks_alone ticket moves
asks_alone ticket (GivesUp now ∷ moves) = asks_alone ticket moves
asks_alone ticket (LeavesLate now ∷ moves) = asks_alone ticket moves
asks_alone ticket (Decides now due ∷ moves) = asks_alone ticket moves
asks_alone ticket (Closes ∷ moves) = asks_alone ticket moves
asks_alone ticket (Tends told ∷ moves) = asks_alone ticket moves
asks_alone ticket (Hears now input ∷ moves) =
    both_more (asks_for ticket) (Hears now input) (filter is_given moves) moves (asks_alone ticket moves)
asks_alone ticket (Follows its side path ∷ moves) =
    both_more (asks_for ticket) (Follows its side path) (filter is_given moves) moves (asks_alone ticket moves)
asks_alone ticket (Unfollows its ∷ moves) =
    both_more (asks_for ticket) (Unfollows its) (filter is_given moves) moves (asks_alone ticket moves)
asks_alone ticket (Asks its asked until ∷ moves) =
    both_more (asks_for ticket) (Asks its asked until) (filter is_given moves) moves (asks_alone ticket moves)
asks_alone ticket (Opened now ∷ moves) = both_more (asks_for ticket) (Opened now) (filter is_given moves) moves (asks_alone ticket moves)
asks_alone ticket (Over now ∷ moves) = both_more (asks_for ticket) (Over now) (filter is_given moves) moves (asks_alone ticket moves)
asks_alone ticket (HungUp ∷ moves) = both_more (asks_for ticket) HungUp (filter is_given moves) moves (asks_alone ticket moves)
asks_alone ticket (Addressed kept added is_listed ∷ moves) =
    both_more (asks_for ticket) (Addressed kept added is_listed) (filter is_given moves) moves (asks_alone ticket moves)
asks_alone ticket (Presents judged frames ∷ moves) =
    both_more (asks_for ticket) (Presents judged frames) (filter is_given moves) moves (asks_alone ticket moves)

-- an input asks its call, and no other
bytes_ask : (ticket : ℕ) (is_there : Bool) (now : ℕ) (bytes : List ℕ) → count_by (asks_for ticket) (bytes_at is_there now bytes) ≡ 0
bytes_ask ticket true now bytes = refl
bytes_ask ticket false now bytes = refl

opened_ask : (ticket : ℕ) (phase : Phase) (now : ℕ) → count_by (asks_for ticket) (opened_at phase now) ≡ 0
opened_ask ticket Waiting now = refl
opened_ask ticket (Dialling began until) now = refl
opened_ask ticket Open now = refl

addressed_ask : (ticket kept added : ℕ) (is_listed leaves : Bool) (now : ℕ)
    → count_by (asks_for ticket) (Addressed kept added is_listed ∷ left_at leaves now) ≡ 0
addressed_ask ticket kept added is_listed true now = refl
addressed_ask ticket kept added is_listed false now = refl

pub asks_its : {A : Type 0} (ticket : ℕ) (dialler : Dialler A) (now : ℕ) (input : AgentInput A)
    → count_by (asks_for ticket) (given_of dialler now input) ≡ how_many_asked ticket input
asks_its ticket dialler now happens.Opened = opened_ask ticket dialler.phase now
asks_its ticket dialler now happens.Failed = refl
asks_its ticket dialler now (happens.Bytes bytes) = bytes_ask ticket (is_open dialler.phase) now bytes.items
asks_its ticket dialler now happens.Cut = refl
asks_its ticket dialler now happens.Moment = refl
asks_its ticket dialler now (happens.Addresses kept added is_listed) =
    addressed_ask ticket kept added is_listed (leaves_with dialler kept added is_listed) now
asks_its ticket dialler now (happens.Call its call until) =
    count_cons (asks_for ticket) (Asks its (call_view call) until) (Hears now (turns.Now now) ∷ [])
    ∙ (let none : count_by (asks_for ticket) (Hears now (turns.Now now) ∷ []) ≡ 0 = refl in omega (arith, none))
asks_its ticket dialler now (happens.Credential credential) = refl
asks_its ticket dialler now (happens.Follow its side path) = refl
asks_its ticket dialler now (happens.Unfollow its) = refl
asks_its ticket dialler now (happens.FollowTree its root most) = refl
asks_its ticket dialler now (happens.UnfollowTree its) = refl

-- and so does a step
none_presented : (ticket : ℕ) (judged : List (ℕ × ℤ)) (frames : List (List ℕ))
    → count_by (asks_for ticket) (Presents judged frames ∷ []) ≡ 0
none_presented ticket judged frames = refl

pub asks_made : {A : Type 0} (ticket : ℕ) (is_there : Bool) (now : ℕ) (input : AgentInput A) (agent : Agent A)
    → count_by (asks_for ticket) (moves_of is_there now input agent) ≡ how_many_asked ticket input
asks_made ticket is_there now input agent =
    let judged = (judging_in input agent).1.judged in
    let frames = unwritten is_there (papers_in input agent) in
    let its = asks_its ticket agent.dialler now input in
    let none = none_presented ticket judged frames in
    let both = count_append (asks_for ticket) (given_of agent.dialler now input) (Presents judged frames ∷ []) in
    omega (arith, its, none, both)

module _ {A : Type 0} (ticket : ℕ) where
  abbrev is_its : Entry A → Bool
  is_its entry = entry.ticket == ticket

  -- ---- those that wait no more

  end_of_ended : (ending : Ending) (entry : Entry A) → is_end_of ticket (ended_told ending (ended_of entry)) ≡ (entry.ticket == ticket)
  end_of_ended (Late now) entry = refl
  end_of_ended Expired entry = refl
  end_of_ended Lost entry = refl
  end_of_ended (LostOf its) entry = refl

  count_endings : (ending : Ending) (entries : List (Entry A))
      → how_many_ended ticket (endings ending entries) ≡ how_many ticket (ended ending entries)
  count_endings ending entries =
      count_map (is_end_of ticket) (λ one. is_end_of ticket (ended_told ending one)) (ended_told ending) (λ one. refl)
      (map ended_of (ended ending entries))
      ∙ count_map (λ one. is_end_of ticket (ended_told ending one)) is_its ended_of (end_of_ended ending) (ended ending entries)

  count_closings : (entries : List (Entry A)) → how_many_ended ticket (closings entries) ≡ how_many ticket entries
  count_closings entries =
      count_map (is_end_of ticket) (λ one. is_end_of ticket (closed_told one)) closed_told (λ one. refl) (map ended_of entries)
      ∙ count_map (λ one. is_end_of ticket (closed_told one)) is_its ended_of (λ entry. refl) entries

  pub ended_or_left : (ending : Ending) (entries : List (Entry A))
      → how_many_ended ticket (endings ending entries) + how_many ticket (left ending entries) ≡ how_many ticket entries
  ended_or_left ending entries =
      ap (λ n. n + how_many ticket (left ending entries)) (count_endings ending entries)
      ∙ sum_by-filter_both (is_ended ending) (λ entry. not (is_ended ending entry)) (λ entry. refl)
      (λ entry. cond (is_its entry) 1 0) entries

  -- ---- an answer

  abbrev Answered : (its : ℕ) → Outcome → (first : Option (Entry A)) → (after before : List (Entry A)) → Type 0
  Answered its outcome first after before =
      how_many_ended ticket (cond (settles_one outcome first) (Says (Answer its outcome) ∷ []) []) + how_many ticket after
      ≡ how_many ticket before

  of_one : (its : ℕ) (outcome : Outcome) (entry : Entry A) (entries : List (Entry A)) → is_ended (LostOf its) entry ≡ true
      → Answered its outcome (Some entry) (after_answer outcome entry ++ entries) (entry ∷ entries)
  of_one its outcome entry entries is = by (goes_back (call_view entry.call) outcome)
    where
      by : (back : Bool)
          → how_many_ended ticket (cond (not back) (Says (Answer its outcome) ∷ []) [])
          + how_many ticket (cond back (record entry { is_sent = false } ∷ []) [] ++ entries) ≡ how_many ticket (entry ∷ entries)
      by true =
          zero-add (how_many ticket (record entry { is_sent = false } ∷ entries))
          ∙ count_cons is_its (record entry { is_sent = false }) entries ∙ sym (count_cons is_its entry entries)
      by false =
          let same = same_ticket entry.is_sent entry.ticket its is in
          let there : how_many ticket (entry ∷ entries) ≡ cond (its == ticket) 1 0 + how_many ticket entries =
          count_cons is_its entry entries ∙ ap (λ n. cond (n == ticket) 1 0 + how_many ticket entries) same in
          let here : how_many_ended ticket (Says (Answer its outcome) ∷ []) ≡ cond (its == ticket) 1 0 + 0 =
          count_cons (is_end_of ticket) (Says (Answer its outcome)) [] in
          omega (arith, there, here)

  of_others : (its : ℕ) (outcome : Outcome) (entry : Entry A) (entries : List (Entry A)) (first : Option (Entry A)) (after : List (Entry A))
      → Answered its outcome first after entries
      → Answered its outcome first (entry ∷ after) (entry ∷ entries)
  of_others its outcome entry entries first after rest =
      let here = count_cons is_its entry after in
      let there = count_cons is_its entry entries in omega (arith, rest, here, there)

  pub answered_or_left : (its : ℕ) (outcome : Outcome) (entries : List (Entry A))
      → how_many_ended ticket (answers its outcome entries) + how_many ticket (answered its outcome entries) ≡ how_many ticket entries
  answered_or_left its outcome [] = refl
  answered_or_left its outcome (entry ∷ entries) = by (answered_or_left its outcome entries) (is_ended (LostOf its) entry) refl
    where
      by : Answered its outcome (first_where (is_ended (LostOf its)) entries) (answered its outcome entries) entries → (found : Bool)
          → is_ended (LostOf its) entry ≡ found
          → Answered its outcome (cond found (Some entry) (first_where (is_ended (LostOf its)) entries))
          (cond found (after_answer outcome entry ++ entries) (entry ∷ answered its outcome entries)) (entry ∷ entries)
      by rest true is = of_one its outcome entry entries is
      by rest false is =
          of_others its outcome entry entries (first_where (is_ended (LostOf its)) entries) (answered its outcome entries) rest

  -- ---- outputs

  pub heard_or_left : (entries : List (Entry A)) (output : Output)
      → how_many_ended ticket (tells entries output) + how_many ticket (hears entries output) ≡ how_many ticket entries
  heard_or_left entries (Answer its outcome) =
      let first = answered_or_left its outcome entries in
      let others = ended_or_left (LostOf its) (answered its outcome entries) in
      let both = count_append (is_end_of ticket) (answers its outcome entries) (endings (LostOf its) (answered its outcome entries)) in
      omega (arith, first, others, both)
  heard_or_left entries (Enters state) =
      let others = ended_or_left Lost entries in
      let none = says_no_end ticket (Says (Enters state)) refl in
      let both = count_append (is_end_of ticket) (endings Lost entries) (Says (Enters state) ∷ []) in omega (arith, others, none, both)
  heard_or_left entries (Send bytes) = zero-add (how_many ticket entries)
  heard_or_left entries (Report path side event) = zero-add (how_many ticket entries)
  heard_or_left entries (Drop fault) = zero-add (how_many ticket entries)

  pub all_heard_or_left : (outputs : List Output) (entries : List (Entry A))
      → how_many_ended ticket (tells_all entries outputs) + how_many ticket (hears_all entries outputs) ≡ how_many ticket entries
  all_heard_or_left [] entries = zero-add (how_many ticket entries)
  all_heard_or_left (output ∷ outputs) entries =
      let first = heard_or_left entries output in
      let rest = all_heard_or_left outputs (hears entries output) in
      let both = count_append (is_end_of ticket) (tells entries output) (tells_all (hears entries output) outputs) in
      omega (arith, first, rest, both)

  -- ---- a call that is handed over

  pub still_there : (entries : List (Entry A)) → how_many ticket (first_handed entries) ≡ how_many ticket entries
  still_there [] = refl
  still_there (entry ∷ entries) = by (still_there entries) (waits_turn entry)
    where
      by : how_many ticket (first_handed entries) ≡ how_many ticket entries → (waits : Bool)
          → how_many ticket (cond waits (record entry { is_sent = true } ∷ entries) (entry ∷ first_handed entries))
          ≡ how_many ticket (entry ∷ entries)
      by rest true = count_cons is_its (record entry { is_sent = true }) entries ∙ sym (count_cons is_its entry entries)
      by rest false = count_cons is_its entry (first_handed entries) ∙ ap (λ n. cond (is_its entry) 1 0 + n) rest
          ∙ sym (count_cons is_its entry entries)

  pub as_many_handed : (input : Input) (entries : List (Entry A)) → how_many ticket (handed input entries) ≡ how_many ticket entries
  as_many_handed (turns.Call its asked) entries = still_there entries
  as_many_handed _ entries = refl

  -- ---- moves

  abbrev total : Trail A → ℕ
  total trail = how_many ticket trail.line + how_many_ended ticket trail.told

  let_go_same : (is_there : Bool) (timeout now : ℕ) (before after : Dialler A) (told new_told : List Told)
      → LetsGoWhere is_there timeout now before after told new_told
      → how_many_ended ticket new_told ≡ how_many_ended ticket told
  let_go_same true timeout now before after told new_told goes =
      let both = count_append (is_end_of ticket) told (HangsUp ∷ []) in
      let all : how_many_ended ticket new_told ≡ how_many_ended ticket (told ++ HangsUp ∷ []) = ap (how_many_ended ticket) goes.1 in
      let none : how_many_ended ticket (HangsUp ∷ []) ≡ 0 = refl in omega (arith, both, all, none)
  let_go_same false timeout now before after told new_told goes = ap (how_many_ended ticket) goes.1

  heard_same : (now : ℕ) (input : Input) (old new : Trail A) → HearsSo now input old new → total new ≡ total old
  heard_same now input old new does =
      let takes = does.takes in
      let line = handed input old.line in
      let said = tells_all line (with_too_long line takes.given) in
      let news = map news_told (flat_map (news_in new.view takes.given) takes.stepped) in
      let left : how_many ticket new.line ≡ how_many ticket (hears_all line (with_too_long line takes.given)) =
      ap (how_many ticket) takes.line in
      let told : how_many_ended ticket does.told ≡ how_many_ended ticket ((old.told ++ said) ++ news) =
      ap (how_many_ended ticket) takes.told in
      let last = let_go_same _ new.view.saved.session.timeout now _ new.dialler does.told new.told does.lets_go in
      let a = count_append (is_end_of ticket) (old.told ++ said) news in
      let b = count_append (is_end_of ticket) old.told said in
      let none = no_news ticket (flat_map (news_in new.view takes.given) takes.stepped) in
      let all = all_heard_or_left (with_too_long line takes.given) line in
      let as_many = as_many_handed input old.line in omega (arith, left, told, last, a, b, none, all, as_many)

  left_same : (is_lost : Bool) (now : ℕ) (old new : Trail A) → LeavesWhere is_lost now old new → total new ≡ total old
  left_same true now old new leaves = heard_same now turns.Cut old new leaves
  left_same false now old new same = ap total same

  doubted_same : (is_risen : Bool) (now : ℕ) (old new : Trail A) → DoubtsWhere is_risen now old new → total new ≡ total old
  doubted_same true now old new doubts =
      heard_same now (turns.Now now) (record old { subjects = map doubted old.subjects }) new doubts
  doubted_same false now old new same = ap total same

  none_left : (entries : List (Entry A)) → how_many ticket (left Expired entries) ≡ 0
  none_left [] = refl
  none_left (entry ∷ entries) = none_left entries

  moved : (move : Move) (old new : Trail A) → Does old move new → total new ≡ total old + cond (asks_for ticket move) 1 0
  moved (Hears now input) old new does =
      let same = heard_same now input old does.between does.hears in
      let after = left_same does.hears.heard.is_lost now does.between does.after does.leaves in
      let last = doubted_same (rises old.view.saved.last does.after.view.saved.last) now does.after new does.doubts in
      omega (arith, same, after, last)
  moved (Hands now its asked) old new does = let same = heard_same now (turns.Call its asked) old new does in omega (arith, same)
  moved Renews old new does =
      let line : how_many ticket new.line ≡ 0 = ap (how_many ticket) does.line in
      let told : how_many_ended ticket new.told ≡ how_many_ended ticket ((old.told ++ endings Expired old.line) ++ Begins ∷ []) =
      ap (how_many_ended ticket) does.told in
      let a = count_append (is_end_of ticket) (old.told ++ endings Expired old.line) (Begins ∷ []) in
      let b = count_append (is_end_of ticket) old.told (endings Expired old.line) in
      let none : how_many_ended ticket (Begins ∷ []) ≡ 0 = refl in
      let nothing = none_left old.line in
      let all = ended_or_left Expired old.line in omega (arith, line, told, a, b, none, nothing, all)
  moved (Follows its side path) old new does = let same : total new ≡ total old = ap total does in omega (arith, same)
  moved (Unfollows its) old new does = let same : total new ≡ total old = ap total does in omega (arith, same)
  moved (Asks its asked until) old new does =
      let same : total new ≡ total (record old { line = old.line ++ does.entry ∷ [] }) = ap total does.last in
      let more = count_append is_its old.line (does.entry ∷ []) in
      let one : how_many ticket (does.entry ∷ []) ≡ cond (its == ticket) 1 0 + 0 =
      count_cons is_its does.entry [] ∙ ap (λ n. cond (n == ticket) 1 0 + 0) does.its_ticket in omega (arith, same, more, one)
  moved (GivesUp now) old new does =
      let same : total new ≡ total (record old { line = left (Late now) old.line; told = old.told ++ endings (Late now) old.line }) =
      ap total does in
      let more = count_append (is_end_of ticket) old.told (endings (Late now) old.line) in
      let all = ended_or_left (Late now) old.line in omega (arith, same, more, all)
  moved (LeavesLate now) old new does =
      let same : total new ≡ total does.after = ap total does.last in
      let heard = heard_same now turns.Cut does.between does.after does.hears in
      let hung : total does.between
      ≡ total (record old { dialler = does.between.dialler; told = old.told ++ HangsUp ∷ [] }) = ap total does.hangs in
      let more = count_append (is_end_of ticket) old.told (HangsUp ∷ []) in
      let none : how_many_ended ticket (HangsUp ∷ []) ≡ 0 = refl in omega (arith, same, heard, hung, more, none)
  moved (Opened now) old new does = let same : total new ≡ total old = ap total does.1 in omega (arith, same)
  moved (Over now) old new does = let same : total new ≡ total old = ap total does.1 in omega (arith, same)
  moved HungUp old new does =
      let same : total new ≡ total (record old { told = old.told ++ HangsUp ∷ [] }) = ap total does in
      let more = count_append (is_end_of ticket) old.told (HangsUp ∷ []) in
      let none : how_many_ended ticket (HangsUp ∷ []) ≡ 0 = refl in omega (arith, same, more, none)
  moved (Addressed kept added is_listed) old new does = let same : total new ≡ total old = ap total does.1 in omega (arith, same)
  moved (Decides now due) old new does =
      let same : total new ≡ total (record old { dialler = new.dialler; told = old.told ++ due_told due }) = ap total does.last in
      let more = count_append (is_end_of ticket) old.told (due_told due) in
      let none = no_due ticket due in omega (arith, same, more, none)
  moved Closes old new does =
      let same : total new ≡ total (record old { line = []; told = old.told ++ closings old.line }) = ap total does.last in
      let more = count_append (is_end_of ticket) old.told (closings old.line) in
      let all = count_closings old.line in
      let none : how_many {A = A} ticket [] ≡ 0 = refl in omega (arith, same, more, all, none)
  moved (Tends told) old new does =
      let same : total new ≡ total (record old { told = old.told ++ TellsTree told ∷ [] }) = ap total does in
      let more = count_append (is_end_of ticket) old.told (TellsTree told ∷ []) in
      let none : how_many_ended ticket (TellsTree told ∷ []) ≡ 0 = refl in omega (arith, same, more, none)
  moved (Presents judged frames) old new does =
      let some = old.told ++ map judged_told judged in
      let same : total new ≡ total (record old { told = some ++ map Introduces frames }) = ap total does in
      let a = count_append (is_end_of ticket) some (map Introduces frames) in
      let b = count_append (is_end_of ticket) old.told (map judged_told judged) in
      let none = count_none (is_end_of ticket) judged_told (λ one. refl) judged in
      let no_frame = count_none (is_end_of ticket) Introduces (λ frame. refl) frames in omega (arith, same, a, b, none, no_frame)

  moved_all : (moves : List Move) (old new : Trail A)
      → FoldsTo Does old moves new → total new ≡ total old + count_by (asks_for ticket) moves
  moved_all [] old new same = let is : total new ≡ total old = ap total (sym same) in omega (arith, is)
  moved_all (move ∷ moves) old new does =
      let first = moved move old does.0 does.1 in
      let rest = moved_all moves does.0 new does.2 in
      let both = count_cons (asks_for ticket) move moves in omega (arith, first, rest, both)

  pub balanced : (asked : List Move) (old new : Trail A) (moves : List Move) → FoldsTo Does old moves new → filter is_given moves ≡ asked
      → total new ≡ total old + count_by (asks_for ticket) asked
  balanced asked old new moves does asks =
      moved_all moves old new does ∙ ap (λ n. total old + n) (sym (asks_alone ticket moves) ∙ ap (count_by (asks_for ticket)) asks)

pub calls_balance : {A : Type 0} (now : ℕ) (asked : List Move) (old new : Trail A) → Comes now asked old new → old.told ≡ [] → (ticket : ℕ)
    → how_many ticket new.line + how_many_ended ticket new.told ≡ how_many ticket old.line + count_by (asks_for ticket) asked
calls_balance now asked old new comes none ticket =
    let all = balanced ticket asked old new comes.moves comes.does comes.comes in
    let nothing : how_many_ended ticket old.told ≡ 0 = ap (how_many_ended ticket) none in omega (arith, all, nothing)
