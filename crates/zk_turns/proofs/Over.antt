-- After an expiry, a close or a halt nothing is kept, since all that happens then is quiet. The last seen zxid never falls: each happening
-- leaves it or raises it.
use Rattle.zk_conversation.specs.Calls.{Call}
use Rattle.std.proofs.Common.{◌≡◌, ℕ, ℤ, Bool, true, false, cond, ◌||◌, List, [], ◌∷◌, ◌++◌, Option, Some, None, refl, sym, ap, arith}
use Rattle.std.specs.Prelude.{if◌then◌else◌, ◌≤ℤ◌}
use Rattle.std.proofs.lemmas.Int.{ints}
use Rattle.zk_turns.specs.Turns.{Start, Outcome, Signal, Opens, Comes, Cuts, Ticks, Calls, Forget, Halt, Item, signals}
use Rattle.zk_conversation.specs.Questions.{Close}
use Rattle.zk_session.specs.declared.states.State.{State}
use Rattle.zk_session.specs.declared.states.State.TheVariants.{Idle, Connecting, Connected, Expired, Closed}
use Rattle.zk_turns.specs.Past.{Past, Happening, Began, Came, Took, Dropped, Lost, Denied, Ticked, Forgot, Halted, Accepted, Expiry}
use Rattle.zk_turns.specs.Past.{Replies, Watches_set, is_final, is_over, has_halted, state_of, KeepsNothing, last_of, held_of}
use Rattle.std.specs.Int.{int_max}
use Rattle.zk_cache.specs.Kept.{without_stale}
use Rattle.zk_turns.specs.View.{View, view_at}
use Rattle.zk_turns.specs.Taken.{happenings, caused, opens, if_open, of_cutting, cut, longest, Cutting, Unfinished, Bad, Payload, due}
use Rattle.zk_turns.specs.Taken.{refusal_when_connected, joined, past_after, past_of}
use Rattle.zk_turns.proofs.Cases.{by_due}
use Rattle.zk_turns.proofs.Registered.{empty_lists}
use Rattle.zk_turns.proofs.Words.{calls, refusal_in}

abbrev pub IsQuiet : Happening → Type 0
IsQuiet (Ticked moment) = Unit {0}
IsQuiet (Denied ticket why) = Unit {0}
IsQuiet Forgot = Unit {0}
IsQuiet Halted = Unit {0}
IsQuiet _ = ⊥

quiet_keeps : (happening : Happening) (past : Past) → IsQuiet happening → KeepsNothing past → KeepsNothing (happening ∷ past)
quiet_keeps (Ticked moment) past q k = record { nodes = k.nodes; children = k.children; lists = k.lists }
quiet_keeps (Denied ticket why) past q k = record { nodes = k.nodes; children = k.children; lists = k.lists }
quiet_keeps Forgot past q k =
    record { nodes = λ p. ap without_stale (k.nodes p); children = λ p. ap without_stale (k.children p); lists = k.lists }
quiet_keeps Halted past q k =
    record { nodes = λ p. refl; children = λ p. refl; lists = sym (empty_lists Halted past (λ p. refl) (λ p. refl)) }
quiet_keeps _ past q k = elim q [ ]

-- what was not over is over by an end
not_yet : (a b : Bool) (X : Type 0) → (a || b) ≡ false → (a || false) ≡ true → X
not_yet true b X e f = absurd cc
not_yet false b X e f = absurd cc

ends_here : (happening : Happening) (past : Past)
    → is_over past ≡ false → is_over (happening ∷ past) ≡ true → KeepsNothing (happening ∷ past)
ends_here Halted past e f =
    record { nodes = λ p. refl; children = λ p. refl; lists = sym (empty_lists Halted past (λ p. refl) (λ p. refl)) }
ends_here (Took Expiry) past e f =
    record { nodes = λ p. refl; children = λ p. refl; lists = sym (empty_lists (Took Expiry) past (λ p. refl) (λ p. refl)) }
ends_here (Took (Replies ticket Close zxid result)) past e f =
    record {
      nodes = λ p. refl;
      children = λ p. refl;
      lists = sym (empty_lists (Took (Replies ticket Close zxid result)) past (λ p. refl) (λ p. refl));
    }
ends_here Began past e f = not_yet (has_halted past) (is_final (state_of past)) _ e f
ends_here (Dropped fault) past e f = not_yet (has_halted past) (is_final (state_of past)) _ e f
ends_here Lost past e f = not_yet (has_halted past) (is_final (state_of past)) _ e f
ends_here (Took (Accepted welcome)) past e f = not_yet (has_halted past) (is_final (state_of past)) _ e f
ends_here _ past e f = absurd cc

abbrev KeepsIfOver : Past → Type 0
KeepsIfOver past = is_over past ≡ true → KeepsNothing past

over_step : (happening : Happening) (past : Past) → (is_over past ≡ true → IsQuiet happening)
    → KeepsIfOver past → KeepsIfOver (happening ∷ past)
over_step happening past quiet keeps f = by (is_over past) refl
  where
    by : (b : Bool) → is_over past ≡ b → KeepsNothing (happening ∷ past)
    by true e = quiet_keeps happening past (quiet e) (keeps e)
    by false e = ends_here happening past e f

abbrev AllQuiet : List Happening → Past → Type 0
AllQuiet [] past = Unit {0}
AllQuiet (happening ∷ more) past = (is_over past ≡ true → IsQuiet happening) × AllQuiet more (happening ∷ past)

over_all : (more : List Happening) (past : Past) → AllQuiet more past → KeepsIfOver past → KeepsIfOver (joined past more)
over_all [] past q k = k
over_all (happening ∷ more) past q k = over_all more (happening ∷ past) q.1 (over_step happening past q.0 k)

abbrev QuietBehind : Past → List Happening → Type 0
QuietBehind past more = AllQuiet more past

not_over : (past : Past) (X : Type 0) → has_halted past ≡ false → is_final (state_of past) ≡ false → is_over past ≡ true → X
not_over past X h e f = by (has_halted past) (is_final (state_of past)) h e f
  where
    by : (a b : Bool) → a ≡ false → b ≡ false → (a || b) ≡ true → X
    by true b h e f = absurd cc
    by false b h e f = absurd cc

module _ (start : Start) where
  open_quiet : (state : State) (first : Happening) (rest : List Happening) (past : Past)
      → (is_final state ≡ false → AllQuiet (first ∷ rest) past) → AllQuiet (if_open state (first ∷ rest)) past
  open_quiet Connecting first rest past q = q refl
  open_quiet Connected first rest past q = q refl
  open_quiet _ first rest past q = tt

  cutting_quiet : (cutting : Cutting) (byte : ℕ) (past : Past) → (is_over past ≡ true → ⊥)
      → AllQuiet (of_cutting (view_at start past) cutting) (Came byte ∷ past)
  cutting_quiet Unfinished byte past n = tt
  cutting_quiet (Bad fault) byte past n = (λ f. absurd (n f), tt)
  cutting_quiet (Payload payload) byte past n = (λ f. absurd (n f), tt)

  due_quiet : (view : View) (now moment : ℕ) (past : Past) → (is_over past ≡ true → ⊥) → AllQuiet (due view now) (Ticked moment ∷ past)
  due_quiet view now moment past n = by_due (QuietBehind (Ticked moment ∷ past)) view now (λ f. absurd (n f), tt) (λ f. absurd (n f), tt) tt

  due_open_quiet : (state : State) (view : View) (now moment : ℕ) (past : Past) → (is_final state ≡ false → is_over past ≡ true → ⊥)
      → AllQuiet (if_open state (due view now)) (Ticked moment ∷ past)
  due_open_quiet Connecting view now moment past n = due_quiet view now moment past (n refl)
  due_open_quiet Connected view now moment past n = due_quiet view now moment past (n refl)
  due_open_quiet _ view now moment past n = tt

  opens_quiet : (state : State) (past : Past) → has_halted past ≡ false → state_of past ≡ state → AllQuiet (opens state) past
  opens_quiet Idle past h e = (not_over past _ h (ap is_final e), tt)
  opens_quiet Connecting past h e = (
    not_over past _ h (ap is_final e),
    (λ f. not_over past _ h (ap is_final e) (absurd (not_yet (has_halted past) false _ (ap (λ b. b || false) h) f)), tt),
  )
  opens_quiet Connected past h e =
      (not_over past _ h (ap is_final e), (λ f. absurd (not_yet (has_halted past) false _ (ap (λ b. b || false) h) f), tt))
  opens_quiet _ past h e = tt

  calls_quiet : (state : State) (ticket : ℕ) (question : Call) (past : Past) → (is_final state ≡ false → is_over past ≡ true → ⊥)
      → AllQuiet (calls ticket question (refusal_in state (view_at start past) question)) past
  calls_quiet Idle ticket question past n = (λ f. tt, tt)
  calls_quiet Connecting ticket question past n = (λ f. tt, tt)
  calls_quiet Connected ticket question past n = by (refusal_when_connected (view_at start past) question)
    where
      by : (why : Option Outcome) → AllQuiet (calls ticket question why) past
      by None = (λ f. absurd (n refl f), tt)
      by (Some why) = (λ f. tt, tt)
  calls_quiet Expired ticket question past n = (λ f. tt, tt)
  calls_quiet Closed ticket question past n = (λ f. tt, tt)

  caused_quiet : (signal : Signal) (past : Past) → has_halted past ≡ false → AllQuiet (caused (view_at start past) signal) past
  caused_quiet Opens past h = opens_quiet (state_of past) past h refl
  caused_quiet (Comes byte) past h =
      open_quiet (state_of past) (Came byte)
      (of_cutting (view_at start past) (cut (longest start.limits (state_of past)) (held_of past ++ byte ∷ []))) past
      (λ e. (
        not_over past _ h e,
        cutting_quiet (cut (longest start.limits (state_of past)) (held_of past ++ byte ∷ [])) byte past
            (not_over past ⊥ h e),
      ))
  caused_quiet Cuts past h = open_quiet (state_of past) Lost [] past (λ e. (not_over past _ h e, tt))
  caused_quiet (Ticks moment) past h =
      (λ f. tt, due_open_quiet (state_of past) (view_at start past) _ moment past (λ e. not_over past ⊥ h e))
  caused_quiet (Calls ticket question) past h = calls_quiet (state_of past) ticket question past (λ e. not_over past ⊥ h e)
  caused_quiet Forget past h = (λ f. tt, tt)
  caused_quiet Halt past h = (λ f. tt, tt)

  unless_halted : (signal : Signal) (past : Past) → AllQuiet (if has_halted past then [] else caused (view_at start past) signal) past
  unless_halted signal past = by (has_halted past) refl
    where
      by : (b : Bool) → has_halted past ≡ b → AllQuiet (cond b [] (caused (view_at start past) signal)) past
      by true e = tt
      by false e = caused_quiet signal past e

  all_quiet : (signal : Signal) (past : Past) → AllQuiet (happenings (view_at start past) signal) past
  all_quiet Forget past = (λ f. tt, tt)
  all_quiet Halt past = (λ f. tt, tt)
  all_quiet signal past = unless_halted signal past

  over_signals : (more : List Signal) (past : Past) → KeepsIfOver past → KeepsIfOver (past_after start past more)
  over_signals [] past k = k
  over_signals (signal ∷ more) past k =
      over_signals more (joined past (happenings (view_at start past) signal))
      (over_all (happenings (view_at start past) signal) past (all_quiet signal past) k)

  pub nothing_kept : (items : List Item) → is_over (past_of start items) ≡ true → KeepsNothing (past_of start items)
  nothing_kept [] f = absurd cc
  nothing_kept (item ∷ items) f = over_signals (signals item) (past_of start items) (nothing_kept items) f

-- ---- the last seen zxid

pub later_le : (a b : ℤ) → b ≤ℤ int_max a b
later_le a b = grind (arith, ints)

pub le_itself : (a : ℤ) → a ≤ℤ a
le_itself a = grind (arith, ints)

pub le_through : (a b c : ℤ) → a ≤ℤ b → b ≤ℤ c → a ≤ℤ c
le_through a b c p q = grind (arith, ints)

module _ (start : Start) where
  last_step : (happening : Happening) (past : Past) → last_of start past ≤ℤ last_of start (happening ∷ past)
  last_step (Took (Replies ticket question zxid result)) past = later_le zxid (last_of start past)
  last_step (Took (Watches_set true zxid)) past = later_le zxid (last_of start past)
  last_step _ past = le_itself (last_of start past)

  last_all : (more : List Happening) (past : Past) → last_of start past ≤ℤ last_of start (joined past more)
  last_all [] past = le_itself (last_of start past)
  last_all (happening ∷ more) past = le_through _ _ _ (last_step happening past) (last_all more (happening ∷ past))

  last_signals : (more : List Signal) (past : Past) → last_of start past ≤ℤ last_of start (past_after start past more)
  last_signals [] past = le_itself (last_of start past)
  last_signals (signal ∷ more) past = le_through _ _ _ (last_all (happenings (view_at start past) signal) past)
      (last_signals more (joined past (happenings (view_at start past) signal)))

  pub last_rises : (item : Item) (items : List Item) → last_of start (past_of start items) ≤ℤ last_of start (past_of start (item ∷ items))
  last_rises item items = last_signals (signals item) (past_of start items)
