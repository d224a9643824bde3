-- What a reply leaves: field by field of what a client shows, by what its question and its result leave on either side.
use Rattle.std.proofs.Common.{◌≡◌, ℕ, ℤ, Bool, true, false, List, [], ◌∷◌, Option, drop, refl, ap, sym, ◌∙◌}
use Rattle.std.specs.Int.{int_max}
use Rattle.zk_nodes.specs.Path.{Text}
use Rattle.zk_session.specs.declared.states.State.{State}
use Rattle.zk_session.specs.declared.states.State.TheVariants.{Idle, Connecting, Connected, Expired, Closed}
use Rattle.zk_session.specs.SessionView.{SessionView, Saved, Moments}
use Rattle.zk_session.specs.Table as session
use Rattle.zk_conversation.specs.Pending.{Talk, Pending, Call_waits, closes}
use Rattle.zk_conversation.specs.Questions.{Question, Exists, GetData, GetChildren, SetData, Create, Delete, Close, Raw}
use Rattle.zk_conversation.specs.Results.{Result}
use Rattle.zk_watches.specs.Lists.{Lists, no_lists}
use Rattle.zk_cache.specs.Cache.{Answers, data_kept, names_kept, no_answers}
use Rattle.zk_turns.specs.Past.{Left, Took, Replies, leaves_data, leaves_child}
use Rattle.zk_turns.specs.View.{View}
use Rattle.zk_turns.specs.Rule.{next, next_reply, after_reply, with_node, with_children, kept_after, keep_node, keep_children}
use Rattle.zk_cache.specs.Kept.{Answer, Names}
use Rattle.zk_turns.proofs.Happened.{view_ext}
use Rattle.zk_frames.specs.declared.limits.FrameLimits.{FrameLimits}
use Rattle.zk_client.specs.inner.Seen.{shown, cache_of, while_pending}
use Rattle.zk_client.proofs.CacheLemmas.{cache-ext, nothing-kept}
use Rattle.zk_client.specs.inner.Steps.{closing}

pub is-close : (question : Question) → closes question ≡ true → question ≡ Close
is-close Close e = refl
is-close (Exists path watch) e = absurd cc
is-close (GetData path watch) e = absurd cc
is-close (GetChildren path watch) e = absurd cc
is-close (SetData path) e = absurd cc
is-close (Create path) e = absurd cc
is-close (Delete path) e = absurd cc
is-close Raw e = absurd cc

pub not-closing : (question : Question) → closes question ≡ false → closing question ≡ []
not-closing Close e = absurd cc
not-closing (Exists path watch) e = refl
not-closing (GetData path watch) e = refl
not-closing (GetChildren path watch) e = refl
not-closing (SetData path) e = refl
not-closing (Create path) e = refl
not-closing (Delete path) e = refl
not-closing Raw e = refl

-- the view after a reply to another question: that after a write, but for what the reply leaves
abbrev other_reply : View → Question → ℤ → Result → View
other_reply view question zxid result = record (next_reply view (SetData []) zxid result)
    { lists = after_reply question result view.lists; cache = kept_after question result view.cache }

reply-next : (view : View) (question : Question) (zxid : ℤ) (result : Result)
    → closes question ≡ false → next_reply view question zxid result ≡ other_reply view question zxid result
reply-next view Close zxid result e = absurd cc
reply-next view (Exists path watch) zxid result e = refl
reply-next view (GetData path watch) zxid result e = refl
reply-next view (GetChildren path watch) zxid result e = refl
reply-next view (SetData path) zxid result e = refl
reply-next view (Create path) zxid result e = refl
reply-next view (Delete path) zxid result e = refl
reply-next view Raw zxid result e = refl

-- the lists, by what the reply leaves
pub left-lists : (known : Option (Left Answer)) (children : Option (Left Names)) (question : Question) (result : Result) (lists : Lists)
    → known ≡ leaves_data question result → children ≡ leaves_child question result
    → with_children children (with_node known lists) ≡ after_reply question result lists
left-lists known children question result lists d e = λ i. with_children (e i) (with_node (d i) lists)

answered-view : {limits : FrameLimits} (held : List ℕ) (halted : Bool) (kept : SessionView) (talk : Talk) (lists : Lists)
    (answers : Answers)
    (pending : List Pending) (xid : ℤ) (ticket : ℕ) (question : Question) (zxid : ℤ) (result : Result)
    (new : SessionView) (after : Lists) (then_kept : Answers) → closes question ≡ false
    → pending ≡ record { xid = xid; waiting = Call_waits ticket question } ∷ talk.pending
    → new ≡ session.next (session.Sees zxid) kept → after ≡ after_reply question result lists
    → ((text : Text) → data_kept then_kept text ≡ keep_node (leaves_data question result) text (data_kept answers text))
    → ((text : Text) → names_kept then_kept text ≡ keep_children (leaves_child question result) text (names_kept answers text))
    → shown limits [] halted new talk after then_kept
    ≡ next (while_pending pending (shown limits held halted kept talk lists answers)) (Took (Replies ticket question zxid result))
answered-view {limits} held halted kept talk lists answers pending xid ticket question zxid result new after then_kept other
    left e f nodes children =
    let before = while_pending pending (shown limits held halted kept talk lists answers) in
    view_ext (shown limits [] halted new talk after then_kept) (other_reply before question zxid result)
    (ap (λ (k : SessionView). record { halted = halted; state = k.state }) e) (ap (λ (k : SessionView). k.saved) e)
    (ap (λ (k : SessionView). k.moments) e)
    (ap (λ (p : List Pending). drop 1 p) (sym left)) refl refl f
    (cache-ext (cache_of then_kept) (kept_after question result (cache_of answers)) nodes children) refl
    ∙ sym (reply-next before question zxid result other)

-- the same, by what the reply leaves on either side
pub left-view : {limits : FrameLimits} (held : List ℕ) (halted : Bool) (kept : SessionView) (talk : Talk) (lists : Lists)
    (answers : Answers)
    (pending : List Pending) (xid : ℤ) (ticket : ℕ) (question : Question) (zxid : ℤ) (result : Result)
    (new : SessionView) (after : Lists) (then_kept : Answers) (known : Option (Left Answer)) (children : Option (Left Names))
    → closes question ≡ false → pending ≡ record { xid = xid; waiting = Call_waits ticket question } ∷ talk.pending
    → new ≡ session.next (session.Sees zxid) kept → known ≡ leaves_data question result → children ≡ leaves_child question result
    → after ≡ with_children children (with_node known lists)
    → ((text : Text) → data_kept then_kept text ≡ keep_node known text (data_kept answers text))
    → ((text : Text) → names_kept then_kept text ≡ keep_children children text (names_kept answers text))
    → shown limits [] halted new talk after then_kept
    ≡ next (while_pending pending (shown limits held halted kept talk lists answers)) (Took (Replies ticket question zxid result))
left-view held halted kept talk lists answers pending xid ticket question zxid result new after then_kept known children other left e
    on_data on_child f nodes names =
    answered-view held halted kept talk lists answers pending xid ticket question zxid result new after then_kept other left e
    (f ∙ left-lists known children question result lists on_data on_child)
    (λ text. nodes text ∙ ap (λ (l : Option (Left Answer)). keep_node l text (data_kept answers text)) on_data)
    (λ text. names text ∙ ap (λ (l : Option (Left Names)). keep_children l text (names_kept answers text)) on_child)

closed-state : (state : State) (saved : Saved) (moments : Moments) (zxid : ℤ) → state ≡ Connected
    → session.next session.Closes (session.next (session.Sees zxid) (record { state = state; saved = saved; moments = moments }))
    ≡ record {
      state = Closed;
      saved = record { asked = saved.asked; session = saved.session; last = int_max zxid saved.last };
      moments = moments;
    }
closed-state Connected saved moments zxid e = refl
closed-state Idle saved moments zxid e = absurd cc
closed-state Connecting saved moments zxid e = absurd cc
closed-state Expired saved moments zxid e = absurd cc
closed-state Closed saved moments zxid e = refl

pub closed-view : {limits then_limits : FrameLimits} (held : List ℕ) (halted : Bool) (kept : SessionView) (talk : Talk) (lists : Lists)
    (answers : Answers)
    (pending : List Pending) (ticket : ℕ) (question : Question) (zxid : ℤ) (result : Result)
    (still : Bool) (saw new : SessionView) (after : Talk) (gone : Lists) (nothing : Answers) → still ≡ halted → then_limits ≡ limits
    → closes question ≡ true
    → kept.state ≡ Connected
    → saw ≡ session.next (session.Sees zxid) kept → new ≡ session.next session.Closes saw → after.pending ≡ [] → after.xid ≡ talk.xid
    → gone ≡ no_lists → nothing ≡ no_answers
    → shown then_limits [] still new after gone nothing
    ≡ next (while_pending pending (shown limits held halted kept talk lists answers)) (Took (Replies ticket question zxid result))
closed-view {limits} {then_limits} held halted kept talk lists answers pending ticket question zxid result still saw new after gone nothing
    same
    within close at e f quiet xid g h =
    let before = while_pending pending (shown limits held halted kept talk lists answers) in
    let is = f ∙ ap (λ (k : SessionView). session.next session.Closes k) e ∙ closed-state kept.state kept.saved kept.moments zxid at in
    view_ext (shown then_limits [] still new after gone nothing) (next_reply before Close zxid result)
    (ap (λ (h : Bool). record { halted = h; state = new.state }) same
    ∙ ap (λ (k : SessionView). record { halted = halted; state = k.state }) is) (ap (λ (k : SessionView). k.saved) is)
    (ap (λ (k : SessionView). k.moments) is)
    quiet refl xid g (nothing-kept nothing h) within
    ∙ ap (λ (q : Question). next_reply before q zxid result) (sym (is-close question close))
