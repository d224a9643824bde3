-- What a rehearsal is made of when its client is made, and when another one takes the session up.
use Rattle.std.proofs.Common.{◌≡◌, ℤ, pos, false, [], refl, ap, ap₂, subst, ◌∙◌}
use Rattle.std.proofs.lemmas.Bool.{true≢false}
use Rattle.std.specs.Prelude.{◌<ℤ◌, unsigned_abs, Option, Some, None}
use Rattle.zk_bench.specs.Served.{Served, disconnected}
use Rattle.zk_client.specs.Clients.{saved_start, Tells}
use Rattle.zk_history.specs.HistoryView.{HistoryView}
use Rattle.script_story.specs.Stories as story
use Rattle.zk_session.specs.declared.fields.Saved.{Saved}
use Rattle.zk_turns.specs.Ranges.{IsResumable}
use Rattle.zk_turns.specs.Turns.{new_start}
use Rattle.zk_turns.specs.View.{View, view_at}
use Rattle.script_rehearse.specs.Rehearsed.{Staged, Begins, is_begun}
use Rattle.script_rehearse.specs.inner.Rehearsed.{position_by}
use Rattle.script_rehearse.specs.Scenes.{Scene, first_scene, rejoined, taken_up}

-- the scene that is made, in other words for the timeout and the history
pub made_so : (scene : Scene) (first timeout : ℤ) (told history : HistoryView)
    → scene ≡ first_scene first told → first ≡ timeout → told ≡ history → scene ≡ first_scene timeout history
made_so scene first timeout told history made asked same = made ∙ (ap (λ n. first_scene n told) asked ∙ ap (first_scene timeout) same)

-- where no client was made, one is made over the history so far
pub begins : (timeout : ℤ) (told : story.Position) (old : Option Scene) (new : Scene)
    → is_begun (position_by told old) ≡ false → pos 0 <ℤ timeout → IsResumable (new_start (unsigned_abs timeout))
    → new ≡ first_scene timeout told.history → Begins timeout (position_by told old) (Staged new)
begins timeout told None new first above resumable made = (ap Staged made, above, resumable)
begins timeout told (Some scene) new first above resumable made = absurd (true≢false first)

-- what is told of a saved session is what the next client begins with
begins_so : (timeout : ℤ) (view : View) (saved : Saved) → Tells view.saved saved → saved_start timeout saved ≡ taken_up timeout view
begins_so timeout view saved tells = rw (tells.session, tells.password, tells.last) refl

-- another client with that session, and no server connected
pub rejoins : (old : Scene) (view : View) (bench : Served) (saved : Saved)
    → Tells old.view.saved saved → view ≡ view_at (saved_start old.timeout saved) [] → bench ≡ disconnected old.bench
    → record old { view = view; bench = bench } ≡ rejoined old
rejoins old view bench saved tells made gone =
    ap₂ (λ (v : View) (b : Served). record old { view = v; bench = b })
    (made ∙ ap (λ start. view_at start []) (begins_so old.timeout old.view saved tells)) gone

-- it is in range
pub resumes : (timeout : ℤ) (view : View) (saved : Saved) → Tells view.saved saved → IsResumable (saved_start timeout saved)
    → IsResumable (taken_up timeout view)
resumes timeout view saved tells resumable = subst IsResumable (begins_so timeout view saved tells) resumable
