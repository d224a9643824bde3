-- What a call that is sent leaves: one question more is pending, and a read with a watch takes one place more.
use Rattle.std.proofs.Common.{◌≡◌, ℕ, ◌+◌, ◌≤◌, ◌<◌, Bool, List, [], ◌∷◌, ◌++◌, length, Option, Some, None, refl, ap, ◌∙◌, cond, filter}
use Rattle.std.proofs.Common.{arith, length-append}
use Rattle.std.proofs.lemmas.List.Elements.{filter-append}
use Rattle.zk_nodes.specs.declared.side.Side.{Side}
use Rattle.zk_nodes.specs.declared.side.Side.TheVariants.{Data, Child}
use Rattle.zk_session.specs.SessionView.{SessionView}
use Rattle.zk_session.specs.Table as session
use Rattle.zk_conversation.specs.Calls.{Call}
use Rattle.zk_conversation.specs.Questions.{question_of, watched_side}
use Rattle.zk_conversation.specs.Pending.{Talk, Pending, call_waits, is_on, watches_pending, waits_to_watch, talk_asked}
use Rattle.zk_session.specs.declared.states.State.TheVariants.{Connected}
use Rattle.zk_watches.specs.Lists.{Lists, count_of}
use Rattle.zk_turns.specs.Turns.{Outcome}
use Rattle.zk_turns.specs.View.{View}
use Rattle.zk_turns.specs.Taken.{phase_of, longest_of}
use Rattle.zk_turns.specs.Rule.{after_all}
use Rattle.zk_client.specs.inner.Steps.{calls}
use Rattle.zk_client.specs.Sound.{HasRoom, IsSound}
use Rattle.zk_client.proofs.Rooms.{tied-talking, sound-with}
use Rattle.zk_limits.specs.declared.limits.TheConstants.{MOST_PATHS}

pushed : (p : Pending → Bool) (xs : List Pending) (y : Pending)
    → length (filter p (xs ++ y ∷ [])) ≡ length (filter p xs) + length (filter p (y ∷ []))
pushed p xs y = ap length (filter-append p xs (y ∷ [])) ∙ length-append (filter p xs) (filter p (y ∷ []))

one-on-data : (side : Option Side) (y : Pending) (n w : ℕ) → n + w ≤ MOST_PATHS → (side ≡ Some Data → n + w < MOST_PATHS)
    → n + (w + length (cond (is_on Data side) (y ∷ []) [])) ≤ MOST_PATHS
one-on-data None y n w le less = omega arith
one-on-data (Some Data) y n w le less = let h = less refl in omega arith
one-on-data (Some Child) y n w le less = omega arith

one-on-child : (side : Option Side) (y : Pending) (n w : ℕ) → n + w ≤ MOST_PATHS → (side ≡ Some Child → n + w < MOST_PATHS)
    → n + (w + length (cond (is_on Child side) (y ∷ []) [])) ≤ MOST_PATHS
one-on-child None y n w le less = omega arith
one-on-child (Some Child) y n w le less = let h = less refl in omega arith
one-on-child (Some Data) y n w le less = omega arith

asked-room : (lists : Lists) (pending : List Pending) (xid ticket : ℕ) (call : Call) → HasRoom lists pending
    → ((side : Side) → watched_side (question_of call) ≡ Some side → count_of lists side + watches_pending side pending < MOST_PATHS)
    → HasRoom lists (pending ++ call_waits xid ticket call ∷ [])
asked-room lists pending xid ticket call room less = record {
  on_data = rw (pushed (waits_to_watch Data) pending (call_waits xid ticket call)) (one-on-data (watched_side (question_of call))
      (call_waits xid ticket call) (count_of lists Data) (watches_pending Data pending) room.on_data (less Data));
  on_child = rw (pushed (waits_to_watch Child) pending (call_waits xid ticket call)) (one-on-child (watched_side (question_of call))
      (call_waits xid ticket call) (count_of lists Child) (watches_pending Child pending) room.on_child (less Child));
}

pub asked-sound : (kept new_kept : SessionView) (talk new_talk : Talk) (lists : Lists) (ticket : ℕ) (call : Call)
    → IsSound kept talk lists → kept.state ≡ Connected
    → ((side : Side) → watched_side (question_of call) ≡ Some side → count_of lists side + watches_pending side talk.pending < MOST_PATHS)
    → new_kept ≡ session.next session.Sends kept → new_talk ≡ talk_asked ticket call talk → IsSound new_kept new_talk lists
asked-sound kept new_kept talk new_talk lists ticket call sound at less e f = rw (e, f) (sound-with
    (tied-talking (session.next session.Sends kept) (talk_asked ticket call talk) (sound.phase ∙ ap phase_of at) at sound.short)
    (asked-room lists talk.pending talk.xid ticket call sound.room less))

-- a call, sent or refused, changes neither the state nor how long a payload may be
pub asked-longest : (view : View) (ticket : ℕ) (call : Call) (why : Option Outcome)
    → longest_of (after_all view (calls ticket call why)) ≡ longest_of view
asked-longest view ticket call None = refl
asked-longest view ticket call (Some why) = refl
