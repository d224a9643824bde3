-- Turns one after the other, in one call: a moment is told first, and then the input, so where neither halts the client stands after both.
use Rattle.std.proofs.Common.{◌≡◌, ℕ, ◌*◌, ◌-◌, Bool, true, false, List, [], ◌∷◌, ◌++◌, refl, sym, ap, subst, ◌∙◌, max, inr}
use Rattle.std.specs.Prelude.{nat_le, ◌&&◌, if◌then◌else◌, Result, Ok, Err, OnOk}
use Rattle.zk_turns.specs.Turns.{Start, Item, Turned, Input, Now, Output, Silent, Ticks}
use Rattle.zk_turns.specs.Past.{Dropped, Pinged, Ticked, is_open, is_talking}
use Rattle.zk_turns.specs.Taken.{due, if_open, timeout_of}
use Rattle.zk_turns.specs.View.{View}
use Rattle.zk_turns.specs.Rule.{Rule, RuleAt, Stands, StandsAt, HaltsAs, HaltsAt, next, after_all, after_signals}
use Rattle.zk_turns.proofs.Stepped.{one_turn}
use Rattle.zk_client.specs.inner.Steps.{Adds}
use Rattle.zk_client.specs.Steps.{IsQuiet, IsQuietAt}

-- where there is a result, what follows from what is known of it
pub on_ok : {T E : Type 0} (r : Result T E) (P Q : Type 0) → OnOk r P → (P → Q) → OnOk r Q
on_ok (Ok x) P Q is follows = follows is
on_ok (Err e) P Q is follows = tt

-- What was added to nothing is what the turn gave.
pub alone : (view after : View) (input : Input) (before now : List Output)
    → before ≡ [] → Adds view input before now after → Rule view (record { input = input; outputs = now }) after
alone view after input before now none adds =
    subst (λ l. Rule view (record { input = input; outputs = l }) after) (sym (adds.added ∙ ap (λ l. l ++ adds.outputs) none)) adds.rule

module _ (moment : ℕ) (input : Input) (view between after : View) (before first now : List Output) (none : before ≡ [])
    (tells : Adds view (Now moment) before first between) (takes : Adds between input first now after) where
  joined : now ≡ tells.outputs ++ takes.outputs
  joined = takes.added ∙ ap (λ l. l ++ takes.outputs) (tells.added ∙ ap (λ l. l ++ tells.outputs) none)

  pub both : RuleAt moment view (record { input = input; outputs = now }) after
  both =
      record { first = tells.outputs; second = takes.outputs; between = between; outputs = joined; tells = tells.rule; takes = takes.rule }

  pub stands_behind : (start : Start) (items : List Item)
      → Stands start items view → StandsAt start items moment (record { input = input; outputs = now }) after
  stands_behind start items s = record {
    first = tells.outputs;
    second = takes.outputs;
    outputs = joined;
    stands = one_turn start (Turned (record { input = Now moment; outputs = tells.outputs }) ∷ items) between after
        (record { input = input; outputs = takes.outputs })
        (one_turn start items view between (record { input = Now moment; outputs = tells.outputs }) s tells.rule) takes.rule;
  }

pub halts_behind : (moment : ℕ) (view between after : View) (before first : List Output)
    → Adds view (Now moment) before first between → HaltsAs between after → HaltsAt moment view after
halts_behind moment view between after before first tells halts = inr (tells.outputs, between, tells.rule, halts)

-- ---- a moment alone does not halt

still : (view : View) (up silent ping : Bool)
    → (after_all view (if up then (if silent then Dropped Silent ∷ [] else (if ping then Pinged ∷ [] else [])) else [])).standing.halted
    ≡ view.standing.halted
still view false silent ping = refl
still view true true ping = refl
still view true false true = refl
still view true false false = refl

goes_on : (view : View) (moment : ℕ) → view.standing.halted ≡ false → (after_signals view (Ticks moment ∷ [])).standing.halted ≡ false
goes_on view moment e =
    let now = max moment view.moments.now in
    let caused = if_open view.standing.state (due view now) in
    ap (λ (h : Bool). (after_all view (if h then [] else Ticked moment ∷ caused)).standing.halted) e
    ∙ still (next view (Ticked moment)) (is_open view.standing.state) (nat_le (2 * timeout_of view) (3 * (now - view.moments.heard)))
    (is_talking view.standing.state && nat_le (timeout_of view) (3 * (now - view.moments.sent)))
    ∙ e

-- where nothing comes of both, nothing comes of the input after the moment
pub quiet_behind : (moment : ℕ) (input : Input) (view between : View) (before first : List Output)
    → IsQuietAt view moment input → Adds view (Now moment) before first between → IsQuiet between input
quiet_behind moment input view between before first quiet tells =
    subst (λ v. IsQuiet v input) (sym tells.rule.next) (goes_on view moment quiet.0, quiet.2)
