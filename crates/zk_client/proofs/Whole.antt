-- A whole client: where it begins, and what a halt leaves, put together from its parts.
use Rattle.std.proofs.Common.{◌≡◌, ℕ, ◌≤◌, Bool, true, false, List, [], length, refl, ap, ◌∙◌, arith}
use Rattle.zk_frames.specs.Held.{Held, reading}
use Rattle.zk_session.specs.SessionView.{SessionView, Saved, start as kept_start}
use Rattle.zk_conversation.specs.Pending.{Talk, new_talk}
use Rattle.zk_watches.specs.Lists.{Lists, no_lists}
use Rattle.zk_cache.specs.Cache.{Answers, no_answers}
use Rattle.zk_turns.specs.Turns.{Start}
use Rattle.zk_turns.specs.View.{Standing, view_at}
use Rattle.zk_turns.specs.Rule.{HaltsAs}
use Rattle.zk_turns.proofs.Happened.{view_ext}
use Rattle.zk_frames.specs.declared.limits.FrameLimits.{FrameLimits}
use Rattle.zk_client.specs.inner.Seen.{shown, origin_of}
use Rattle.zk_client.specs.Sound.{IsSound, IsReading}
use Rattle.zk_client.proofs.CacheLemmas.{nothing-kept}
use Rattle.zk_client.proofs.Heard.{nothing-held}
use Rattle.zk_limits.specs.declared.limits.TheConstants.{LONGEST_PASSWORD}

abbrev pub beginning : Start → SessionView
beginning start = kept_start start.timeout start.session start.password start.last

pub begins-view : (start : Start) {limits : FrameLimits} (kept : SessionView) (talk : Talk) (lists : Lists) (answers : Answers)
    (held : Held)
    → kept ≡ beginning start → talk ≡ new_talk → lists ≡ no_lists → answers ≡ no_answers → held ≡ reading [] → limits ≡ start.limits
    → shown limits held.bytes false kept talk lists answers ≡ view_at start []
begins-view start {limits} kept talk lists answers held e f g h i l =
    view_ext (shown limits held.bytes false kept talk lists answers) (view_at start [])
    (ap (λ (k : SessionView). let s : Standing = record { halted = false; state = k.state } in s) e) (ap (λ (k : SessionView). k.saved) e)
    (ap (λ (k : SessionView). k.moments) e)
    (ap (λ (t : Talk). t.pending) f) (ap (λ (r : Held). r.bytes) i) (ap (λ (t : Talk). t.xid) f) g (nothing-kept answers h) l

begins-sound : (start : Start) (kept : SessionView) (talk : Talk) (lists : Lists)
    → length start.password ≤ LONGEST_PASSWORD → kept ≡ beginning start → talk ≡ new_talk → lists ≡ no_lists → IsSound kept talk lists
begins-sound start kept talk lists short e f g = rw (e, f, g) (record {
  phase = refl;
  quiet = λ n. refl;
  short = short;
  room = record { on_data = omega arith; on_child = omega arith };
})

begins-reading : (most : ℕ) (held : Held) → held ≡ reading [] → IsReading most held
begins-reading most held e = rw e (record { clean = refl; less = nothing-held most })

-- both
pub begins : (start : Start) (most : ℕ) (kept : SessionView) (talk : Talk) (lists : Lists) (held : Held)
    → length start.password ≤ LONGEST_PASSWORD → kept ≡ beginning start → talk ≡ new_talk → lists ≡ no_lists → held ≡ reading []
    → IsSound kept talk lists × IsReading most held
begins start most kept talk lists held short e f g h = (begins-sound start kept talk lists short e f g, begins-reading most held h)

saved-ext : (a b : Saved) → origin_of a ≡ origin_of b → a.last ≡ b.last → a ≡ b
saved-ext a b e f = λ i. record { asked = (e i).asked; session = (e i).session; last = f i }

pub halts : {limits then_limits : FrameLimits} (held then_held : List ℕ) (halted then_halted : Bool) (kept new : SessionView)
    (talk then_talk : Talk) (lists gone : Lists)
    (answers nothing : Answers)
    → then_halted ≡ true → new.state ≡ kept.state → new.saved.last ≡ kept.saved.last → origin_of new.saved ≡ origin_of kept.saved
    → gone ≡ no_lists → nothing ≡ no_answers
    → HaltsAs (shown limits held halted kept talk lists answers) (shown then_limits then_held then_halted new then_talk gone nothing)
halts held then_held halted then_halted kept new talk then_talk lists gone answers nothing h state last origin e f = record {
  standing = ap (λ (b : Bool). let s : Standing = record { halted = b; state = new.state } in s) h
      ∙ ap (λ s. let t : Standing = record { halted = true; state = s } in t) state;
  saved = saved-ext new.saved kept.saved origin last;
  lists = e;
  cache = nothing-kept nothing f;
}
