-- When something is due, by a session's deadline: the first moment at which the session's test says so is the first at which a tick makes a
-- client do something.
use Rattle.std.proofs.Common.{◌≡◌, ℕ, ◌^◌, ◌<◌, Bool, true, false, List, [], refl, sym, ◌∙◌}
use Rattle.std.specs.Prelude.{Option, Some, None, IfSome}
use Rattle.zk_session.specs.declared.states.Due.{Due}
use Rattle.zk_session.specs.declared.states.Due.TheVariants.{Nothing, Ping, Silent as Is_silent}
use Rattle.zk_session.specs.SessionView.{SessionView}
use Rattle.zk_session.specs.Table as session
use Rattle.zk_conversation.specs.Pending.{Talk}
use Rattle.zk_watches.specs.Lists.{Lists}
use Rattle.zk_cache.specs.Cache.{Answers}
use Rattle.zk_frames.specs.declared.limits.FrameLimits.{FrameLimits}
use Rattle.zk_client.specs.inner.Seen.{shown}
use Rattle.zk_turns.specs.Taken.{NothingIsDue}
use Rattle.zk_client.proofs.Turning.{happens, due-in}

nothing-happens : (due : Due) → session.is_due due ≡ false → happens due ≡ []
nothing-happens Nothing quiet = refl
nothing-happens Ping quiet = absurd cc
nothing-happens Is_silent quiet = absurd cc

something-happens : (due : Due) → session.is_due due ≡ true → happens due ≡ [] → ⊥
something-happens Nothing due none = cc
something-happens Ping due none = cc
something-happens Is_silent due none = cc

module _ (limits : FrameLimits) (held : List ℕ) (kept : SessionView) (talk : Talk) (lists : Lists) (answers : Answers) where
  abbrev due_then : (moment : ℕ) → Due
  due_then moment = session.due (session.next (session.Ticks moment) kept)

  quiet_at : (halted : Bool) (moment : ℕ)
      → halted ≡ false → session.is_due_at kept moment ≡ false → NothingIsDue (shown limits held halted kept talk lists answers) moment
  quiet_at true moment goes_on quiet = absurd cc
  quiet_at false moment goes_on quiet =
      due-in limits held false kept.state kept.saved kept.moments talk lists answers moment ∙ nothing-happens (due_then moment) quiet

  due_at : (halted : Bool) (moment : ℕ)
      → halted ≡ false → session.is_due_at kept moment ≡ true → NothingIsDue (shown limits held halted kept talk lists answers) moment → ⊥
  due_at true moment goes_on due none = absurd cc
  due_at false moment goes_on due none =
      something-happens (due_then moment) due
      (sym (due-in limits held false kept.state kept.saved kept.moments talk lists answers moment) ∙ none)

  pub none_before : (halted : Bool) (first : Option ℕ) → halted ≡ false → session.IsFirst (session.is_due_at kept) first
      → IfSome first (λ first. (moment : ℕ) → moment < first → NothingIsDue (shown limits held halted kept talk lists answers) moment)
  none_before halted (Some first) goes_on is = λ moment before. quiet_at halted moment goes_on (is.0 moment before)
  none_before halted None goes_on is = tt

  pub due_at_first : (halted : Bool) (first : Option ℕ) → halted ≡ false → session.IsFirst (session.is_due_at kept) first
      → IfSome first (λ first. ¬ (NothingIsDue (shown limits held halted kept talk lists answers) first))
  due_at_first halted (Some first) goes_on is = due_at halted first goes_on is.1
  due_at_first halted None goes_on is = tt

  pub never_due : (halted : Bool) (first : Option ℕ) → halted ≡ false → session.IsFirst (session.is_due_at kept) first → first ≡ None
      → (moment : ℕ) → moment < 2 ^ 64 → NothingIsDue (shown limits held halted kept talk lists answers) moment
  never_due halted (Some first) goes_on is none = absurd cc
  never_due halted None goes_on is none = λ moment told. quiet_at halted moment goes_on (is moment told)

  -- to a client that has halted nothing is due
  pub never_halted : (halted : Bool) (moment : ℕ) → halted ≡ true → NothingIsDue (shown limits held halted kept talk lists answers) moment
  never_halted true moment over = refl
  never_halted false moment over = absurd cc
