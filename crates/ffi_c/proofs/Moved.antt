-- What an agent has come through, move by move: each move as turns of its client, by what its steps ensure; and what was told meanwhile.
use Rattle.std.proofs.Common.{◌≡◌, ◌++◌, ℕ, ℤ, Bool, true, false, cond, List, [], ◌∷◌, Option, Some, None, map, max, refl, sym, ap}
use Rattle.std.proofs.lemmas.List.{append-nil}
use Rattle.std.proofs.Common.{append_assoc, subst, ◌∙◌, true≢false}
use Rattle.std.specs.Prelude.{⊤, ◌<◌, fold}
use Rattle.std.specs.List.{filter, flat_map, list_any, AllByRecursion, FoldsTo}
use Rattle.std.specs.declared.alloc.Global.{Global}
use Rattle.zk_conversation.specs.Calls.{Call}
use Rattle.zk_conversation.specs.Questions.{Question, question_of}
use Rattle.zk_conversation.specs.Views.{call_view}
use Rattle.zk_session.specs.SessionView.{Saved}
use Rattle.zk_turns.specs.Turns.{Turned, Turn, Input, Output, Send, Answer, Report, Enters, Drop}
use Rattle.zk_turns.specs.Turns as turns
use Rattle.zk_turns.specs.View.{view_at}
use Rattle.zk_turns.specs.Rule.{Stands}
use Rattle.zk_turns.specs.Reported.{is_report, reports_in}
use Rattle.zk_turns.specs.Sent.{outputs_of}
use Rattle.zk_client.specs.Clients.{renewed_start}
use Rattle.zk_dialler.specs.declared.dialler.Dialler.{Dialler}
use Rattle.zk_dialler.specs.declared.dialler.DialDue.{DialDue}
use Rattle.zk_dialler.specs.declared.dialler.DialDue.TheVariants.{Dial, GiveUp}
use Rattle.zk_dialler.specs.declared.dialler.Phase.{Phase}
use Rattle.zk_dialler.specs.declared.dialler.Phase.TheVariants.{Dialling}
use Rattle.zk_follow.specs.Following.{doubted, due_again, fresh as fresh_subject, news_in, outputs_in}
use Rattle.zk_follow.specs.declared.subject.Subject.{Subject}
use Rattle.zk_calls.specs.declared.entry.Entry.{Entry}
use Rattle.zk_calls.specs.declared.entry.Ended.{Ended}
use Rattle.zk_calls.specs.declared.entry.Ending.{Ending}
use Rattle.zk_calls.specs.declared.entry.Ending.TheVariants as ending
use Rattle.zk_calls.specs.Lines.{answered, ended, ended_of, settles}
use Rattle.zk_agent.specs.declared.action.Action.{Action}
use Rattle.zk_agent.specs.declared.agent.Agent.{Agent}
use Rattle.zk_agent.specs.declared.input.AgentInput.{AgentInput}
use Rattle.zk_agent.specs.declared.input.AgentInput.TheVariants as happens
use Rattle.zk_agent.specs.Agents.{Trail, Move, Hears, Hands, Renews, Follows, Unfollows, Asks, GivesUp, LeavesLate, Opened}
use Rattle.zk_agent.specs.Agents.{Ended as Ends_at, HungUp}
use Rattle.zk_agent.specs.Agents.{Closes, Addressed, Decides, Tends, Presents, Does, HearsSo, LeavesWhere, LetsGoWhere}
use Rattle.zk_agent.specs.Agents.{rises, DoubtsWhere}
use Rattle.zk_agent.specs.Agents.{bytes_at, given_of, is_given, judging_in, leaves_with, left_at, moves_of, opened_at, papers_in, trail_of}
use Rattle.zk_agent.specs.Calls.{endings, tells_all}
use Rattle.zk_agent.specs.Credentials.{unwritten}
use Rattle.zk_agent.specs.Calls as calls
use Rattle.zk_agent.specs.Overlong.{too_long_in, with_too_long}
use Rattle.zk_agent.specs.Replies.{is_lost}
use Rattle.zk_agent.specs.Telling.{Told, Says, HangsUp, Begins, Introduces, TellsTree, closed_told, due_told, ended_told, judged_told}
use Rattle.zk_agent.specs.Telling.{news_told, told_by}
use Rattle.zk_agent.proofs.Oversized.{ahead}
use Rattle.zk_trees.specs.Tending.{shifted, LetsGo, TakesOn, TreeTold}
use Rattle.zk_dialler.specs.Dialling.{is_open}
use Rattle.ffi_device.specs.Chains.{first_own}
use Rattle.ffi_device.specs.Taking.{AgentTook}
use Rattle.ffi_c.specs.Pasts.{AreAnew, AreLeft, Chapter, TellsBelow, last_seen, with_turns, Moves, Takes, reported}
use Rattle.ffi_c.proofs.Heard.{each_both, AsksSo}
use Rattle.ffi_c.proofs.Lives.{fresh}
use Rattle.ffi_c.proofs.Tickets.{begins, closings_said, due_said, endings_said, hears_kept, left_asks, next_asks, no_reply}
use Rattle.ffi_c.proofs.Tickets.{mapped_low, renewed_kept, stays_kept, unfollowed_low, AreSaid, EntryAsks, IsKept, IsLow, IsSaid, Keeps}
use Rattle.ffi_c.proofs.Turned.{add_turns, back, fold_more, heard_are, heard_said, heard_turns, reports_added, with_more}

-- ---- what is told

-- what is told with which no report is
abbrev IsNone : Told → Type 0
IsNone told = (before : List Output) → reported before told ≡ before

none_of : {X : Type 0} (f : X → Told) → ((x : X) → IsNone (f x)) → (all : List X) (before : List Output)
    → fold reported before (map f all) ≡ before
none_of f none [] before = refl
none_of f none (x ∷ all) before = ap (λ t. fold reported t (map f all)) (none x before) ∙ none_of f none all before

none_ended : (how : Ending) (one : Ended) → IsNone (ended_told how one)
none_ended (ending.Late now) one before = refl
none_ended ending.Expired one before = refl
none_ended ending.Lost one before = refl
none_ended (ending.LostOf ticket) one before = refl

none_endings : {A : Type 0} (how : Ending) (entries : List (Entry A)) (before : List Output)
    → fold reported before (endings how entries) ≡ before
none_endings how entries before = none_of (ended_told how) (none_ended how) (map ended_of (ended how entries)) before

none_due : (due : Option DialDue) (before : List Output) → fold reported before (due_told due) ≡ before
none_due None before = refl
none_due (Some (Dial place within)) before = refl
none_due (Some GiveUp) before = refl

told_one : {A : Type 0} (line : List (Entry A)) (output : Output) (before : List Output)
    → fold reported before (calls.tells line output) ≡ cond (is_report output) (output ∷ before) before
told_one line (Answer ticket outcome) before =
    fold_more reported before (calls.answers ticket outcome line) (endings (ending.LostOf ticket) (answered ticket outcome line))
    ∙ none_endings (ending.LostOf ticket) (answered ticket outcome line) (fold reported before (calls.answers ticket outcome line))
    ∙ by (settles ticket outcome line)
  where
    by : (b : Bool) → fold reported before (cond b (Says (Answer ticket outcome) ∷ []) []) ≡ before
    by true = refl
    by false = refl
told_one line (Enters state) before =
    fold_more reported before (endings ending.Lost line) (Says (Enters state) ∷ []) ∙ none_endings ending.Lost line before
told_one line (Send bytes) before = refl
told_one line (Report path side event) before = refl
told_one line (Drop fault) before = refl

told_all : {A : Type 0} (line : List (Entry A)) (given before : List Output)
    → fold reported before (tells_all line given) ≡ back before given
told_all line [] before = refl
told_all line (output ∷ given) before =
    fold_more reported before (calls.tells line output) (tells_all (calls.hears line output) given)
    ∙ ap (λ t. fold reported t (tells_all (calls.hears line output) given)) (told_one line output before)
    ∙ told_all (calls.hears line output) given (cond (is_report output) (output ∷ before) before)

-- no report stands ahead of what the client says
none_ahead : {A : Type 0} (line : List (Entry A)) (given before : List Output) → back before (with_too_long line given) ≡ back before given
none_ahead line given before =
    ahead (λ first. back before (first ++ given) ≡ back before given) refl (λ ticket. refl) line (too_long_in given)

let_go_told : {A : Type 0} (is_there : Bool) (timeout now : ℕ) (old new : Dialler A) (before after : List Told) (base : List Output)
    → LetsGoWhere is_there timeout now old new before after → fold reported base after ≡ fold reported base before
let_go_told true timeout now old new before after base goes =
    ap (fold reported base) goes.1 ∙ fold_more reported base before (HangsUp ∷ [])
let_go_told false timeout now old new before after base goes = ap (fold reported base) goes.1

told_more : (base : List Output) (old more : List Told) → ((before : List Output) → fold reported before more ≡ before)
    → fold reported base (old ++ more) ≡ fold reported base old
told_more base old more none = fold_more reported base old more ∙ none (fold reported base old)

-- ---- moves

shifted_low : {A : Type 0} (one : TreeTold) (subjects : List (Subject A)) → TellsBelow (TellsTree one) → AllByRecursion IsLow subjects
    → AllByRecursion IsLow (shifted one subjects)
shifted_low (TakesOn tree ticket side path) subjects low all =
    each_both IsLow subjects (fresh_subject ticket side path ∷ []) all (low, tt)
shifted_low (LetsGo tree ticket) subjects low all = unfollowed_low ticket subjects all
shifted_low _ subjects low all = all

-- What a move from outside asks, it asks so.
abbrev MoveAsks : (IsAsked : ℕ → Question → Type 0) → Move → Type 0
MoveAsks IsAsked (Hears now input) = AsksSo IsAsked input
MoveAsks IsAsked (Asks ticket asked until) = IsAsked ticket (question_of asked)
MoveAsks IsAsked (Follows ticket side path) = ticket < first_own
MoveAsks IsAsked (Tends one) = TellsBelow (TellsTree one)
MoveAsks IsAsked move = ⊤

-- An agent sits in a chapter: its client stands where the chapter has led, later sessions ask for this timeout, the reports that were told
-- since the base are those of the chapter, and it keeps to its tickets.
pub record Sits {A : Type 0} (timeout : ℤ) (base : List Output) (IsAsked : ℕ → Question → Type 0) (Lasts : Chapter → Type 0)
    (Below : Type 0) (trail : Trail A) (chapter : Chapter) : Type 0 where
  pub stands : Stands chapter.start chapter.items trail.view
  pub asks : trail.timeout ≡ timeout
  pub told : fold reported base trail.told ≡ reports_in (outputs_of chapter.items)
  pub keeps : Below → Keeps IsAsked Lasts trail chapter

module _ {A : Type 0} (timeout : ℤ) (base : List Output) (IsAsked : ℕ → Question → Type 0) (Lasts : Chapter → Type 0) (Below : Type 0)
    (kept : IsKept IsAsked Lasts) where
  abbrev SitsIn : Trail A → Chapter → Type 0
  SitsIn trail chapter = Sits timeout base IsAsked Lasts Below trail chapter

  abbrev KeepsIn : Trail A → Chapter → Type 0
  KeepsIn trail chapter = Below → Keeps IsAsked Lasts trail chapter

  hears : (now : ℕ) (input : Input) (old new : Trail A) (does : HearsSo now input old new) (chapter : Chapter)
      → (Below → AsksSo IsAsked input) → SitsIn old chapter → SitsIn new (with_more (heard_turns now input old new does) chapter)
  hears now input old new does chapter input_asks sits = record {
    stands = add_turns (heard_turns now input old new does) chapter.start chapter.items old.view new.view does.takes.steps.chain
        sits.stands;
    asks = does.timeout ∙ sits.asks;
    told = let_go_told _ _ now _ new.dialler does.told new.told base does.lets_go ∙ ap (fold reported base) does.takes.told
        ∙ fold_more reported base (old.told ++ tells_all line (with_too_long line given)) _ ∙ none_of news_told (λ news before. refl)
        (flat_map (news_in new.view given) does.takes.stepped) (fold reported base (old.told ++ tells_all line (with_too_long line given)))
        ∙ fold_more reported base old.told (tells_all line (with_too_long line given))
        ∙ told_all line (with_too_long line given) (fold reported base old.told) ∙ none_ahead line given (fold reported base old.told)
        ∙ ap (λ t. back t given) sits.told
        ∙ ap (back (reports_in (outputs_of chapter.items))) (sym (heard_said now input old new does))
        ∙ sym (reports_added (heard_turns now input old new does) chapter.items);
    keeps = λ below. hears_kept IsAsked Lasts kept now input old new does chapter (input_asks below) (sits.keeps below);
  }
    where
      given : List Output
      given = does.takes.given

      line : List (Entry A)
      line = calls.handed input old.line

  -- a move that makes no turn: client and timeout are as they were, and no report was told
  stays : (old new like : Trail A) → new ≡ like → like.view ≡ old.view → like.timeout ≡ old.timeout
      → fold reported base like.told ≡ fold reported base old.told
      → (chapter : Chapter) → KeepsIn like chapter → SitsIn old chapter → SitsIn new (with_more [] chapter)
  stays old new like is view same told chapter keeps sits = record {
    stands = subst (Stands chapter.start chapter.items) (sym (ap (λ (t : Trail A). t.view) is ∙ view)) sits.stands;
    asks = ap (λ (t : Trail A). t.timeout) is ∙ same ∙ sits.asks;
    told = ap (λ (t : Trail A). fold reported base t.told) is ∙ told ∙ sits.told;
    keeps = λ below. subst (λ (t : Trail A). Keeps IsAsked Lasts t chapter) (sym is) (keeps below);
  }

  -- with the line and what was told as they were, and with something more that is told
  still : (old like : Trail A) → like.line ≡ old.line → like.subjects ≡ old.subjects → like.told ≡ old.told → (chapter : Chapter)
      → SitsIn old chapter → KeepsIn like chapter
  still old like line subjects told chapter sits below = record {
    subjects = subst (AllByRecursion IsLow) (sym subjects) (sits.keeps below).subjects;
    turns = (sits.keeps below).turns;
    line = subst (AllByRecursion (EntryAsks IsAsked)) (sym line) (sits.keeps below).line;
    told = subst (AreSaid (outputs_of chapter.items)) (sym told) (sits.keeps below).told;
    lasts = λ none. (sits.keeps below).lasts (sym (ap (list_any begins) told) ∙ none);
  }

  tells : (old like : Trail A) (more : List Told) → like.line ≡ old.line → like.subjects ≡ old.subjects → like.told ≡ old.told ++ more
      → (chapter : Chapter) → AllByRecursion (IsSaid (outputs_of chapter.items)) more → SitsIn old chapter → KeepsIn like chapter
  tells old like more line subjects told chapter none sits below =
      stays_kept IsAsked Lasts kept old like more chapter (subst (AllByRecursion (EntryAsks IsAsked)) (sym line) (sits.keeps below).line)
      (subst (AllByRecursion IsLow) (sym subjects) (sits.keeps below).subjects) told none (sits.keeps below)

  -- with other subjects, whose tickets are low too
  follows : (old like : Trail A) (more : List Told) → like.line ≡ old.line → (Below → AllByRecursion IsLow like.subjects)
      → like.told ≡ old.told ++ more → (chapter : Chapter) → AllByRecursion (IsSaid (outputs_of chapter.items)) more → SitsIn old chapter
      → KeepsIn like chapter
  follows old like more line low told chapter none sits below =
      stays_kept IsAsked Lasts kept old like more chapter (subst (AllByRecursion (EntryAsks IsAsked)) (sym line) (sits.keeps below).line)
      (low below) told none (sits.keeps below)

  leaves : (is_lost : Bool) (now : ℕ) (old new : Trail A) → LeavesWhere is_lost now old new → (chapter : Chapter)
      → SitsIn old chapter → (made : List Turn) × AreLeft is_lost now made × SitsIn new (with_more made chapter)
  leaves true now old new does chapter sits = (
    heard_turns now turns.Cut old new does,
    heard_are now turns.Cut old new does,
    hears now turns.Cut old new does chapter (λ below. tt) sits,
  )
  leaves false now old new same chapter sits = ([], refl, subst (λ (t : Trail A). SitsIn t chapter) (sym same) sits)

  anew : (is_risen : Bool) (now : ℕ) (old new : Trail A) → DoubtsWhere is_risen now old new → (chapter : Chapter)
      → SitsIn old chapter → (made : List Turn) × AreAnew is_risen now made × SitsIn new (with_more made chapter)
  anew true now old new does chapter sits =
      let again : Trail A = record old { subjects = map doubted old.subjects } in
      let low : KeepsIn again chapter = follows old again [] refl
      (λ below. mapped_low doubted (λ subject. refl) old.subjects (sits.keeps below).subjects) (sym (append-nil old.told)) chapter tt
      sits in (
        heard_turns now (turns.Now now) again new does,
        heard_are now (turns.Now now) again new does,
        hears now (turns.Now now) again new does chapter (λ below. tt) (stays old again again refl refl refl refl chapter low sits),
      )
  anew false now old new same chapter sits = ([], refl, subst (λ (t : Trail A). SitsIn t chapter) (sym same) sits)

  -- the zxid that the client has seen last is that of its chapter
  last_sits : (trail : Trail A) (chapter : Chapter) → SitsIn trail chapter
      → trail.view.saved.last ≡ last_seen chapter.start chapter.items
  last_sits trail chapter sits = ap (λ (s : Saved). s.last) sits.stands.saved

  abbrev Goes_so : Trail A → Move → Chapter → Type 0
  Goes_so new move chapter = (next : Chapter) × Moves timeout chapter move next × SitsIn new next

  by_hears : (now : ℕ) (input : Input) (old new : Trail A) → Does old (Hears now input) new → (chapter : Chapter)
      → (Below → AsksSo IsAsked input) → SitsIn old chapter → Goes_so new (Hears now input) chapter
  by_hears now input old new does chapter input_asks sits =
      let heard : List Turn = heard_turns now input old does.between does.hears in
      let after = leaves does.hears.heard.is_lost now does.between does.after does.leaves (with_more heard chapter)
      (hears now input old does.between does.hears chapter input_asks sits) in
      let more = with_more after.0 (with_more heard chapter) in
      let last = anew (rises old.view.saved.last does.after.view.saved.last) now does.after new does.doubts more after.2 in
      let lost : does.hears.heard.is_lost ≡ list_any is_lost (outputs_in heard) =
      ap (λ h. h.is_lost) does.hears.takes.heard ∙ ap (list_any is_lost) (sym (heard_said now input old does.between does.hears)) in
      let both : with_turns (heard ++ after.0) chapter.items ≡ with_turns after.0 (with_turns heard chapter.items) =
      fold_more (λ all turn. Turned turn ∷ all) chapter.items heard after.0 in
      let risen : rises old.view.saved.last does.after.view.saved.last
      ≡ rises (last_seen chapter.start chapter.items) (last_seen chapter.start (with_turns (heard ++ after.0) chapter.items)) =
      ap (λ was. rises was does.after.view.saved.last) (last_sits old chapter sits)
      ∙ ap (rises (last_seen chapter.start chapter.items))
      (last_sits does.after more after.2 ∙ ap (last_seen chapter.start) (sym both)) in (
        with_more ((heard ++ after.0) ++ last.0) chapter,
        (
          (heard ++ after.0) ++ last.0,
          (
            heard,
            after.0,
            last.0,
            heard_are now input old does.between does.hears,
            subst (λ b. AreLeft b now after.0) lost after.1,
            subst (λ b. AreAnew b now last.0) risen last.1,
            refl,
          ),
          refl,
        ),
        subst (λ items. SitsIn new (record chapter { items = items }))
            (sym (fold_more (λ all turn. Turned turn ∷ all) chapter.items (heard ++ after.0) last.0
            ∙ ap (with_turns last.0) both)) last.2,
      )

  by_hands : (now ticket : ℕ) (asked : Call) (old new : Trail A) → Does old (Hands now ticket asked) new → (chapter : Chapter)
      → SitsIn old chapter → Goes_so new (Hands now ticket asked) chapter
  by_hands now ticket asked old new does chapter sits =
      let made : List Turn = heard_turns now (turns.Call ticket asked) old new does in (
        with_more made chapter,
        (made, heard_are now (turns.Call ticket asked) old new does, refl),
        hears now (turns.Call ticket asked) old new does chapter
            (λ below. next_asks IsAsked ticket asked old.line does.may.1 (sits.keeps below).line) sits,
      )

  by_renewal : (old new : Trail A) → Does old Renews new → (chapter : Chapter) → SitsIn old chapter → Goes_so new Renews chapter
  by_renewal old new does chapter sits =
      let start : renewed_start old.timeout old.view ≡ renewed_start timeout old.view = ap (λ t. renewed_start t old.view) sits.asks in
      let next : Chapter = record { start = renewed_start timeout old.view; items = [] } in (
        next,
        (old.view, sits.stands, does.expired, refl),
        record {
          stands = subst (Stands (renewed_start timeout old.view) []) (ap (λ s. view_at s []) (sym start) ∙ sym does.view)
              (fresh (renewed_start timeout old.view));
          asks = does.timeout ∙ sits.asks;
          told = ap (fold reported base) does.told ∙ fold_more reported base (old.told ++ endings ending.Expired old.line) (Begins ∷ []);
          keeps = λ below. renewed_kept IsAsked Lasts kept new (old.told ++ endings ending.Expired old.line) next refl does.line
              (subst (AllByRecursion IsLow) (sym does.subjects) (mapped_low due_again (λ subject. refl) old.subjects
              (sits.keeps below).subjects)) does.told;
        },
      )

  by_tires : (now : ℕ) (old new : Trail A) → Does old (LeavesLate now) new → (chapter : Chapter) → SitsIn old chapter
      → Goes_so new (LeavesLate now) chapter
  by_tires now old new does chapter sits =
      let made : List Turn = heard_turns now turns.Cut does.between does.after does.hears in
      let hung = stays old does.between _ does.hangs refl refl (told_more base old.told (HangsUp ∷ []) (λ before. refl)) chapter
      (tells old _ (HangsUp ∷ []) refl refl refl chapter (tt, tt) sits) sits in
      let heard = hears now turns.Cut does.between does.after does.hears (with_more [] chapter) (λ below. tt) hung in (
        with_more made chapter,
        (made, heard_are now turns.Cut does.between does.after does.hears, refl),
        record {
          stands = subst (λ (t : Trail A). Stands chapter.start (with_turns made chapter.items) t.view) (sym does.last) heard.stands;
          asks = ap (λ (t : Trail A). t.timeout) does.last ∙ heard.asks;
          told = ap (λ (t : Trail A). fold reported base t.told) does.last ∙ heard.told;
          keeps = λ below. subst (λ (t : Trail A). Keeps IsAsked Lasts t (with_more made chapter)) (sym does.last)
              (still does.after _ refl refl refl (with_more made chapter) heard below);
        },
      )

  by_presents : (judged : List (ℕ × ℤ)) (frames : List (List ℕ)) (old new : Trail A) → Does old (Presents judged frames) new
      → (chapter : Chapter) → SitsIn old chapter → Goes_so new (Presents judged frames) chapter
  by_presents judged frames old new does chapter sits =
      let introduced = told_more base (old.told ++ map judged_told judged) (map Introduces frames)
      (none_of Introduces (λ frame before. refl) frames) in
      let judged_too = told_more base old.told (map judged_told judged) (none_of judged_told (λ one before. refl) judged) in
      let said : List Output = outputs_of chapter.items in
      let both = each_both (IsSaid said) (map judged_told judged) (map Introduces frames) (no_reply said judged_told (λ one. tt) judged)
      (no_reply said Introduces (λ frame. tt) frames) in (
        with_more [] chapter,
        ([], refl, refl),
        stays old new _ does refl refl (introduced ∙ judged_too) chapter
            (tells old _ (map judged_told judged ++ map Introduces frames) refl refl
            (append_assoc old.told (map judged_told judged) (map Introduces frames)) chapter both sits) sits,
      )

  by_asks : (ticket : ℕ) (asked : Call) (until : Option ℕ) (old new : Trail A) → Does old (Asks ticket asked until) new
      → (chapter : Chapter) → (Below → IsAsked ticket (question_of asked)) → SitsIn old chapter
      → Goes_so new (Asks ticket asked until) chapter
  by_asks ticket asked until old new does chapter call_asks sits = (
    with_more [] chapter,
    ([], refl, refl),
    stays old new _ does.last refl refl refl chapter keeps sits,
  )
    where
      asks : Below → EntryAsks IsAsked does.entry
      asks below =
          subst (λ its. IsAsked its (question_of (call_view does.entry.call))) (sym does.its_ticket)
          (subst (λ (call : Call). IsAsked ticket (question_of call)) (sym does.its_call) (call_asks below))

      keeps : KeepsIn (record old { line = old.line ++ does.entry ∷ [] }) chapter
      keeps below = record {
        turns = (sits.keeps below).turns;
        subjects = (sits.keeps below).subjects;
        line = each_both (EntryAsks IsAsked) old.line (does.entry ∷ []) (sits.keeps below).line (asks below, tt);
        told = (sits.keeps below).told;
        lasts = (sits.keeps below).lasts;
      }

  by_gives_up : (now : ℕ) (old new : Trail A) → Does old (GivesUp now) new → (chapter : Chapter) → SitsIn old chapter
      → Goes_so new (GivesUp now) chapter
  by_gives_up now old new does chapter sits = (
    with_more [] chapter,
    ([], refl, refl),
    stays old new _ does refl refl (told_more base old.told _ (none_endings (ending.Late now) old.line)) chapter
        (λ below. stays_kept IsAsked Lasts kept old _ (endings (ending.Late now) old.line) chapter
        (left_asks IsAsked (ending.Late now) old.line (sits.keeps below).line) (sits.keeps below).subjects refl
        (endings_said (outputs_of chapter.items) (ending.Late now) old.line) (sits.keeps below)) sits,
  )

  by_closes : (old new : Trail A) → Does old Closes new → (chapter : Chapter) → SitsIn old chapter → Goes_so new Closes chapter
  by_closes old new does chapter sits = (
    with_more [] chapter,
    ([], refl, refl),
    stays old new _ does.last refl refl
        (told_more base old.told _ (none_of closed_told (λ one before. refl) (map ended_of old.line))) chapter
        (λ below. stays_kept IsAsked Lasts kept old _ (calls.closings old.line) chapter tt (sits.keeps below).subjects refl
        (closings_said (outputs_of chapter.items) old.line) (sits.keeps below)) sits,
  )

  by_move : (move : Move) (old new : Trail A) → Does old move new → (chapter : Chapter) → (Below → MoveAsks IsAsked move)
      → SitsIn old chapter → Goes_so new move chapter
  by_move (Hears now input) old new does chapter asks sits = by_hears now input old new does chapter asks sits
  by_move (Hands now ticket asked) old new does chapter asks sits = by_hands now ticket asked old new does chapter sits
  by_move Renews old new does chapter asks sits = by_renewal old new does chapter sits
  by_move (LeavesLate now) old new does chapter asks sits = by_tires now old new does chapter sits
  by_move (Presents judged frames) old new does chapter asks sits = by_presents judged frames old new does chapter sits
  by_move (Asks ticket asked until) old new does chapter asks sits = by_asks ticket asked until old new does chapter asks sits
  by_move (GivesUp now) old new does chapter asks sits = by_gives_up now old new does chapter sits
  by_move Closes old new does chapter asks sits = by_closes old new does chapter sits
  by_move (Follows ticket side path) old new does chapter asks sits = (
    with_more [] chapter,
    ([], refl, refl),
    stays old new _ does refl refl refl chapter
        (follows old _ [] refl (λ below. each_both IsLow old.subjects (fresh_subject ticket side path ∷ []) (sits.keeps below).subjects
        (asks below, tt)) (sym (append-nil old.told)) chapter tt sits) sits,
  )
  by_move (Unfollows ticket) old new does chapter asks sits = (
    with_more [] chapter,
    ([], refl, refl),
    stays old new _ does refl refl refl chapter
        (follows old _ [] refl (λ below. unfollowed_low ticket old.subjects (sits.keeps below).subjects) (sym (append-nil old.told))
        chapter tt sits) sits,
  )
  by_move (Opened now) old new does chapter asks sits = (
    with_more [] chapter,
    ([], refl, refl),
    stays old new _ does.1 refl refl refl chapter (still old _ refl refl refl chapter sits) sits,
  )
  by_move (Ends_at now) old new does chapter asks sits = (
    with_more [] chapter,
    ([], refl, refl),
    stays old new _ does.1 refl refl refl chapter (still old _ refl refl refl chapter sits) sits,
  )
  by_move HungUp old new does chapter asks sits = (
    with_more [] chapter,
    ([], refl, refl),
    stays old new _ does refl refl (told_more base old.told (HangsUp ∷ []) (λ before. refl)) chapter
        (tells old _ (HangsUp ∷ []) refl refl refl chapter (tt, tt) sits) sits,
  )
  by_move (Addressed kept_first added is_listed) old new does chapter asks sits = (
    with_more [] chapter,
    ([], refl, refl),
    stays old new _ does.1 refl refl refl chapter (still old _ refl refl refl chapter sits) sits,
  )
  by_move (Decides now due) old new does chapter asks sits = (
    with_more [] chapter,
    ([], refl, refl),
    stays old new _ does.last refl refl (told_more base old.told (due_told due) (none_due due)) chapter
        (tells old _ (due_told due) refl refl refl chapter (due_said (outputs_of chapter.items) due) sits) sits,
  )
  by_move (Tends one) old new does chapter asks sits = (
    with_more [] chapter,
    ([], refl, refl),
    stays old new _ does refl refl (told_more base old.told (TellsTree one ∷ []) (λ before. refl)) chapter
        (follows old _ (TellsTree one ∷ []) refl (λ below. shifted_low one old.subjects (asks below) (sits.keeps below).subjects) refl
        chapter (tt, tt) sits) sits,
  )

  through : (moves : List Move) (old new : Trail A) → FoldsTo Does old moves new → (chapter : Chapter)
      → (Below → AllByRecursion (MoveAsks IsAsked) moves) → SitsIn old chapter
      → (next : Chapter) × FoldsTo (Moves timeout) chapter moves next × SitsIn new next
  through [] old new same chapter asks sits = (chapter, refl, subst (λ (t : Trail A). SitsIn t chapter) same sits)
  through (move ∷ moves) old new does chapter asks sits =
      let one = by_move move old does.0 does.1 chapter (λ below. (asks below).0) sits in
      let rest = through moves does.0 new does.2 one.0 (λ below. (asks below).1) one.2 in
      (rest.0, (one.0, one.1, rest.1), rest.2)

-- ---- trees

abbrev TendsBelow : Move → Type 0
TendsBelow (Tends one) = TellsBelow (TellsTree one)
TendsBelow move = ⊤

abbrev AreToldBelow : List Told → Type 0
AreToldBelow told = AllByRecursion TellsBelow told

each_first : (told more : List Told) → AreToldBelow (told ++ more) → AreToldBelow told
each_first [] more all = tt
each_first (one ∷ told) more all = (all.0, each_first told more all.1)

each_last : (told : List Told) (one : Told) → AreToldBelow (told ++ one ∷ []) → TellsBelow one
each_last [] one all = all.0
each_last (other ∷ told) one all = each_last told one all.1

module _ {A : Type 0} where
  let_go_first : (is_there : Bool) (timeout now : ℕ) (old new : Dialler A) (before after : List Told)
      → LetsGoWhere is_there timeout now old new before after → AreToldBelow after → AreToldBelow before
  let_go_first true timeout now old new before after goes all = each_first before (HangsUp ∷ []) (subst AreToldBelow goes.1 all)
  let_go_first false timeout now old new before after goes all = subst AreToldBelow goes.1 all

  hears_first : (now : ℕ) (input : Input) (old new : Trail A) → HearsSo now input old new → AreToldBelow new.told → AreToldBelow old.told
  hears_first now input old new does all =
      each_first old.told (tells_all (calls.handed input old.line) (with_too_long (calls.handed input old.line) does.takes.given))
      (each_first (old.told ++ tells_all (calls.handed input old.line) (with_too_long (calls.handed input old.line) does.takes.given)) _
      (subst AreToldBelow does.takes.told (let_go_first _ _ now _ new.dialler does.told new.told does.lets_go all)))

  leaves_first : (is_lost : Bool) (now : ℕ) (old new : Trail A) → LeavesWhere is_lost now old new → AreToldBelow new.told
      → AreToldBelow old.told
  leaves_first true now old new does all = hears_first now turns.Cut old new does all
  leaves_first false now old new same all = subst (λ (t : Trail A). AreToldBelow t.told) same all

  doubts_first : (is_risen : Bool) (now : ℕ) (old new : Trail A) → DoubtsWhere is_risen now old new → AreToldBelow new.told
      → AreToldBelow old.told
  doubts_first true now old new does all =
      hears_first now (turns.Now now) (record old { subjects = map doubted old.subjects }) new does all
  doubts_first false now old new same all = subst (λ (t : Trail A). AreToldBelow t.told) same all

  -- what is told of a trail that is like this one
  told_like : (new like : Trail A) → new ≡ like → AreToldBelow new.told → AreToldBelow like.told
  told_like new like is all = subst (λ (t : Trail A). AreToldBelow t.told) is all

  told_first : (move : Move) (old new : Trail A) → Does old move new → AreToldBelow new.told → AreToldBelow old.told
  told_first (Hears now input) old new does all =
      hears_first now input old does.between does.hears (leaves_first does.hears.heard.is_lost now does.between does.after does.leaves
      (doubts_first (rises old.view.saved.last does.after.view.saved.last) now does.after new does.doubts all))
  told_first (Hands now ticket asked) old new does all = hears_first now (turns.Call ticket asked) old new does all
  told_first Renews old new does all =
      each_first old.told (endings ending.Expired old.line)
      (each_first (old.told ++ endings ending.Expired old.line) (Begins ∷ []) (subst AreToldBelow does.told all))
  told_first (LeavesLate now) old new does all =
      each_first old.told (HangsUp ∷ []) (told_like does.between _ does.hangs
      (hears_first now turns.Cut does.between does.after does.hears (told_like new _ does.last all)))
  told_first (Presents judged frames) old new does all =
      each_first old.told (map judged_told judged)
      (each_first (old.told ++ map judged_told judged) (map Introduces frames) (told_like new _ does all))
  told_first (Asks ticket asked until) old new does all = told_like new _ does.last all
  told_first (GivesUp now) old new does all = each_first old.told (endings (ending.Late now) old.line) (told_like new _ does all)
  told_first Closes old new does all = each_first old.told (calls.closings old.line) (told_like new _ does.last all)
  told_first (Follows ticket side path) old new does all = told_like new _ does all
  told_first (Unfollows ticket) old new does all = told_like new _ does all
  told_first (Opened now) old new does all = told_like new _ does.1 all
  told_first (Ends_at now) old new does all = told_like new _ does.1 all
  told_first HungUp old new does all = each_first old.told (HangsUp ∷ []) (told_like new _ does all)
  told_first (Addressed kept added is_listed) old new does all = told_like new _ does.1 all
  told_first (Decides now due) old new does all = each_first old.told (due_told due) (told_like new _ does.last all)
  told_first (Tends one) old new does all = each_first old.told (TellsTree one ∷ []) (told_like new _ does all)

  one_tends : (move : Move) (old new : Trail A) → Does old move new → AreToldBelow new.told → TendsBelow move
  one_tends (Tends one) old new does all = each_last old.told (TellsTree one) (told_like new _ does all)
  one_tends (Hears now input) old new does all = tt
  one_tends _ old new does all = tt

  all_tend : (moves : List Move) (old new : Trail A) → FoldsTo Does old moves new → AreToldBelow new.told
      → AllByRecursion TendsBelow moves × AreToldBelow old.told
  all_tend [] old new same all = (tt, told_like new old (sym same) all)
  all_tend (move ∷ moves) old new does all =
      let rest = all_tend moves does.0 new does.2 all in
      ((one_tends move old does.0 does.1 rest.1, rest.0), told_first move old does.0 does.1 rest.1)

-- ---- what comes from outside

module _ (IsAsked : ℕ → Question → Type 0) where
  -- what an input asks, it asks so
  abbrev pub GivenAsks : {A : Type 0} → AgentInput A → Type 0
  GivenAsks (happens.Call ticket call until) = IsAsked ticket (question_of (call_view call))
  GivenAsks (happens.Follow ticket side path) = ticket < first_own
  GivenAsks _ = ⊤

  abbrev AllAsk : List Move → Type 0
  AllAsk moves = AllByRecursion (MoveAsks IsAsked) moves

  own_asks : (move : Move) → is_given move ≡ false → TendsBelow move → MoveAsks IsAsked move
  own_asks (Hears now input) own tends = absurd (true≢false own)
  own_asks (Asks ticket asked until) own tends = absurd (true≢false own)
  own_asks (Follows ticket side path) own tends = absurd (true≢false own)
  own_asks (Tends one) own tends = tends
  own_asks _ own tends = tt

  -- who asks so by what comes from outside, and by trees, asks so by all
  all_ask : (moves : List Move) → AllByRecursion TendsBelow moves → AllAsk (filter is_given moves) → AllAsk moves
  all_ask [] tends all = tt
  all_ask (move ∷ moves) tends all = by (λ rest. all_ask moves tends.1 rest) (is_given move) refl all
    where
      by : (AllAsk (filter is_given moves) → AllAsk moves) → (b : Bool) → is_given move ≡ b
          → AllAsk (cond b (move ∷ filter is_given moves) (filter is_given moves)) → AllAsk (move ∷ moves)
      by on true given some = (some.0, on some.1)
      by on false own some = (own_asks move own tends.0, on some)

  opened_ask : (phase : Phase) (now : ℕ) → AllAsk (opened_at phase now)
  opened_ask (Dialling began until) now = (tt, (tt, tt))
  opened_ask _ now = (tt, (tt, (tt, tt)))

  bytes_ask : (is_open : Bool) (now : ℕ) (bytes : List ℕ) → AllAsk (bytes_at is_open now bytes)
  bytes_ask true now bytes = (tt, tt)
  bytes_ask false now bytes = (tt, tt)

  left_ask : (leaves : Bool) (now : ℕ) → AllAsk (left_at leaves now)
  left_ask true now = (tt, (tt, (tt, tt)))
  left_ask false now = (tt, tt)

  given_ask : {A : Type 0} (dialler : Dialler A) (now : ℕ) (input : AgentInput A) → GivenAsks input → AllAsk (given_of dialler now input)
  given_ask dialler now happens.Opened asks = opened_ask dialler.phase now
  given_ask dialler now happens.Failed asks = (tt, (tt, tt))
  given_ask dialler now happens.Cut asks = (tt, (tt, tt))
  given_ask dialler now (happens.Bytes bytes) asks = bytes_ask (is_open dialler.phase) now bytes.items
  given_ask dialler now happens.Moment asks = (tt, tt)
  given_ask dialler now (happens.Addresses kept added is_listed) asks = (tt, left_ask (leaves_with dialler kept added is_listed) now)
  given_ask dialler now (happens.Call ticket call until) asks = (asks, (tt, tt))
  given_ask dialler now (happens.Credential credential) asks = (tt, tt)
  given_ask dialler now (happens.Follow ticket side path) asks = (asks, (tt, tt))
  given_ask dialler now (happens.Unfollow ticket) asks = (tt, (tt, tt))
  given_ask dialler now (happens.FollowTree ticket root most) asks = (tt, tt)
  given_ask dialler now (happens.UnfollowTree ticket) asks = (tt, tt)

  moves_ask : {A : Type 0} (is_open : Bool) (now : ℕ) (input : AgentInput A) (agent : Agent A) → GivenAsks input
      → AllAsk (moves_of is_open now input agent)
  moves_ask is_open now input agent asks =
      each_both (MoveAsks IsAsked) (given_of agent.dialler now input)
      (Presents (judging_in input agent).1.judged (unwritten is_open (papers_in input agent)) ∷ [])
      (given_ask agent.dialler now input asks) (tt, tt)

-- what an agent takes
pub part_goes : (IsAsked : ℕ → Question → Type 0) (Lasts : Chapter → Type 0) (Below : Type 0) → IsKept IsAsked Lasts → (moment : ℕ)
    (given : AgentInput Global) (from to : Agent Global) (said : List (Action Global)) → AgentTook moment given from to said
    → (base : List Output) (chapter : Chapter) → (Below → GivenAsks IsAsked given) → (Below → AllByRecursion TellsBelow (told_by said))
    → Sits from.timeout_ms base IsAsked Lasts Below (trail_of from []) chapter
    → (next : Chapter) × Takes moment given from to chapter next
    × Sits from.timeout_ms base IsAsked Lasts Below (trail_of to said) next
part_goes IsAsked Lasts Below kept moment given from to said took base chapter asks low sits =
    let comes = took.comes in
    let led = through from.timeout_ms base IsAsked Lasts Below kept comes.moves (trail_of from []) (trail_of to said) comes.does chapter
    (λ below. all_ask IsAsked comes.moves (all_tend comes.moves (trail_of from []) (trail_of to said) comes.does (low below)).0
    (subst (AllByRecursion (MoveAsks IsAsked)) (sym comes.comes)
    (moves_ask IsAsked (is_open to.dialler.phase) (max from.latest moment) given from (asks below)))) sits in (
      led.0,
      record { moves = comes.moves; outside = comes.comes; at = comes.at; leads = led.1; latest = took.latest },
      led.2,
    )
