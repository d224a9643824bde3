-- What the reply to a close ends: the client is Closed then, and stays so, since all that may still happen to it is quiet.
use Rattle.std.proofs.Common.{◌≡◌, ℕ, ℤ, pos, Bool, true, false, cond, ◌||◌, List, [], ◌∷◌, ◌++◌, Option, Some, None, Ok, refl, sym, ap}
use Rattle.std.proofs.Common.{subst, ◌∙◌, inl, inr}
use Rattle.std.specs.Prelude.{negsuc}
use Rattle.std.specs.Ordering.{int_eq}
use Rattle.zk_session.specs.declared.states.State.{State}
use Rattle.zk_session.specs.declared.states.State.TheVariants.{Idle, Connecting, Connected, Expired, Closed}
use Rattle.zk_conversation.specs.Calls.{Call}
use Rattle.zk_conversation.specs.Questions.{Close}
use Rattle.zk_conversation.specs.Results.{Result, NoNode, Refused, Done, record_of}
use Rattle.zk_turns.specs.Turns.{Start, Item, Outcome, Signal, Opens, Comes, Cuts, Ticks, Calls, Forget, Halt, signals}
use Rattle.zk_turns.specs.Past.{Past, Happening, Came, Took, Lost, Denied, Ticked, Forgot, Halted, Replies, state_of, has_halted, held_of}
use Rattle.zk_turns.specs.Past.{is_final}
use Rattle.zk_turns.specs.View.{View, view_at}
use Rattle.zk_turns.specs.Taken.{longest, happenings, caused, opens, if_open, comes, of_cutting, cut, Cutting, Unfinished, Bad, Payload}
use Rattle.zk_turns.specs.Taken.{due}
use Rattle.zk_turns.specs.Taken.{refusal_when_connected, joined, past_after, past_of}
use Rattle.zk_turns.specs.Meaning.{Among}
use Rattle.zk_turns.proofs.Words.{calls, refusal_in}
use Rattle.zk_turns.proofs.Cases.{by_cond, by_due}
use Rattle.zk_turns.proofs.Over.{IsQuiet, nothing_kept}
use Rattle.theory_rules.specs.Closing.{CloseSays, CodeIsNoMatter, CloseStays}

pub close_says : CloseSays
close_says ticket zxid result view = refl

-- a client that is closed is only told moments, denies calls, forgets or halts
abbrev AllTame : List Happening → Past → Type 0
AllTame [] past = Unit {0}
AllTame (happening ∷ more) past = (state_of past ≡ Closed → IsQuiet happening) × AllTame more (happening ∷ past)

tame_stays : (happening : Happening) (past : Past) → IsQuiet happening → state_of past ≡ Closed → state_of (happening ∷ past) ≡ Closed
tame_stays (Ticked moment) past t e = e
tame_stays (Denied ticket why) past t e = e
tame_stays Forgot past t e = e
tame_stays Halted past t e = e
tame_stays _ past t e = absurd t

abbrev TameBehind : Past → List Happening → Type 0
TameBehind past more = AllTame more past

module _ (start : Start) (ticket : ℕ) (zxid : ℤ) (result : Result) where
  abbrev IsClosing : Past → Type 0
  IsClosing past = Among (Took (Replies ticket Close zxid result)) past → state_of past ≡ Closed

  closing_next : (happening : Happening) (past : Past) → (state_of past ≡ Closed → IsQuiet happening)
      → IsClosing past → IsClosing (happening ∷ past)
  closing_next happening past t c (inl e) = subst (λ h. state_of (h ∷ past) ≡ Closed) e refl
  closing_next happening past t c (inr a) = tame_stays happening past (t (c a)) (c a)

  closing_all : (more : List Happening) (past : Past) → AllTame more past → IsClosing past → IsClosing (joined past more)
  closing_all [] past t c = c
  closing_all (happening ∷ more) past t c = closing_all more (happening ∷ past) t.1 (closing_next happening past t.0 c)

  cutting_tame : (cutting : Cutting) (byte : ℕ) (past : Past) → (state_of past ≡ Closed → ⊥)
      → AllTame (of_cutting (view_at start past) cutting) (Came byte ∷ past)
  cutting_tame Unfinished byte past n = tt
  cutting_tame (Bad fault) byte past n = (λ f. absurd (n f), tt)
  cutting_tame (Payload payload) byte past n = (λ f. absurd (n f), tt)

  byte_tame : (state : State) (byte : ℕ) (past : Past)
      → state_of past ≡ state → AllTame (if_open state (comes (view_at start past) byte)) past
  byte_tame Connecting byte past e =
      let cutting = cut (longest start.limits (state_of past)) (held_of past ++ byte ∷ []) in
      (λ f. absurd (let g = sym e ∙ f in cc), cutting_tame cutting byte past (λ f. let g = sym e ∙ f in cc))
  byte_tame Connected byte past e =
      let cutting = cut (longest start.limits (state_of past)) (held_of past ++ byte ∷ []) in
      (λ f. absurd (let g = sym e ∙ f in cc), cutting_tame cutting byte past (λ f. let g = sym e ∙ f in cc))
  byte_tame _ byte past e = tt

  opens_tame : (state : State) (past : Past) → state_of past ≡ state → AllTame (opens state) past
  opens_tame Idle past e = (λ f. absurd (let g = sym e ∙ f in cc), tt)
  opens_tame Connecting past e = (λ f. absurd (let g = sym e ∙ f in cc), (λ f. absurd cc, tt))
  opens_tame Connected past e = (λ f. absurd (let g = sym e ∙ f in cc), (λ f. absurd cc, tt))
  opens_tame _ past e = tt

  lost_tame : (state : State) (past : Past) → state_of past ≡ state → AllTame (if_open state (Lost ∷ [])) past
  lost_tame Connecting past e = (λ f. absurd (let g = sym e ∙ f in cc), tt)
  lost_tame Connected past e = (λ f. absurd (let g = sym e ∙ f in cc), tt)
  lost_tame _ past e = tt

  due_tame : (view : View) (now : ℕ) (past : Past) → (state_of past ≡ Closed → ⊥) → AllTame (due view now) past
  due_tame view now past n = by_due (TameBehind past) view now (λ f. absurd (n f), tt) (λ f. absurd (n f), tt) tt

  due_open_tame : (state : State) (view : View) (now moment : ℕ) (past : Past)
      → state_of past ≡ state → AllTame (if_open state (due view now)) (Ticked moment ∷ past)
  due_open_tame Connecting view now moment past e = due_tame view now (Ticked moment ∷ past) (λ f. let g = sym e ∙ f in cc)
  due_open_tame Connected view now moment past e = due_tame view now (Ticked moment ∷ past) (λ f. let g = sym e ∙ f in cc)
  due_open_tame _ view now moment past e = tt

  connected_tame : (other : ℕ) (call : Call) (why : Option Outcome) (past : Past) → (state_of past ≡ Closed → ⊥)
      → AllTame (calls other call why) past
  connected_tame other call None past n = (λ f. absurd (n f), tt)
  connected_tame other call (Some why) past n = (λ f. tt, tt)

  calls_tame : (state : State) (other : ℕ) (call : Call) (past : Past)
      → state_of past ≡ state → AllTame (calls other call (refusal_in state (view_at start past) call)) past
  calls_tame Connected other call past e =
      connected_tame other call (refusal_when_connected (view_at start past) call) past (λ f. let g = sym e ∙ f in cc)
  calls_tame Idle other call past e = (λ f. tt, tt)
  calls_tame Connecting other call past e = (λ f. tt, tt)
  calls_tame Expired other call past e = (λ f. tt, tt)
  calls_tame Closed other call past e = (λ f. tt, tt)

  caused_tame : (signal : Signal) (past : Past) → AllTame (caused (view_at start past) signal) past
  caused_tame Opens past = opens_tame (state_of past) past refl
  caused_tame (Comes byte) past = byte_tame (state_of past) byte past refl
  caused_tame Cuts past = lost_tame (state_of past) past refl
  caused_tame (Ticks moment) past = (λ f. tt, due_open_tame (state_of past) (view_at start past) _ moment past refl)
  caused_tame (Calls other call) past = calls_tame (state_of past) other call past refl
  caused_tame Forget past = (λ f. tt, tt)
  caused_tame Halt past = (λ f. tt, tt)

  signal_tame : (signal : Signal) (past : Past) → AllTame (happenings (view_at start past) signal) past
  signal_tame Forget past = (λ f. tt, tt)
  signal_tame Halt past = (λ f. tt, tt)
  signal_tame signal past = by_cond (TameBehind past) (has_halted past) [] (caused (view_at start past) signal) tt (caused_tame signal past)

  closing_signals : (more : List Signal) (past : Past) → IsClosing past → IsClosing (past_after start past more)
  closing_signals [] past c = c
  closing_signals (signal ∷ more) past c =
      closing_signals more (joined past (happenings (view_at start past) signal))
      (closing_all (happenings (view_at start past) signal) past (signal_tame signal past) c)

  closing : (items : List Item) → IsClosing (past_of start items)
  closing [] a = absurd a
  closing (item ∷ items) a = closing_signals (signals item) (past_of start items) (closing items) a

or_final : (b : Bool) (state : State) → state ≡ Closed → (b || is_final state) ≡ true
or_final true state e = refl
or_final false state e = ap is_final e

pub close_stays : CloseStays
close_stays start items view ticket zxid result s a =
    let e = closing start ticket zxid result items a in
    let k = nothing_kept start items (or_final (has_halted (past_of start items)) (state_of (past_of start items)) e) in
    record {
      state = ap (λ t. t.state) s.standing ∙ e;
      lists = s.lists ∙ k.lists;
      nodes = λ path. ap (λ t. t.nodes path) s.cache ∙ k.nodes path;
      children = λ path. ap (λ t. t.children path) s.cache ∙ k.children path;
    }

pub any_code : CodeIsNoMatter
unfolding record_of
any_code err end bytes = by (int_eq err (pos 0)) (int_eq err (negsuc 100))
  where
    by : (a b : Bool) → (r : Result) × (cond a (record_of Close end bytes) (cond b (Ok NoNode) (Ok (Refused err))) ≡ Ok r)
    by true b = (Done, refl)
    by false true = (NoNode, refl)
    by false false = (Refused err, refl)
