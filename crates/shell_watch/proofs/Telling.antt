-- What is printed of one turn: by whether something waits to be told. Where it does nothing is shown, and else each subject is.
use Rattle.std.proofs.Common.{◌≡◌, ◌≢◌, ◌++◌, ◌∙◌, ℕ, List, [], ◌∷◌, length, take, refl, sym, subst, ap, append_assoc, append-nil}
use Rattle.std.proofs.Math.Seq.{take-append_seam}
use Rattle.zk_turns.specs.View.{View}
use Rattle.zk_agent.specs.declared.action.Action.{Action}
use Rattle.zk_agent.specs.Telling.{Told, told_by}
use Rattle.zk_driver.specs.declared.turn.Turn.{Turn}
use Rattle.shell_watch.specs.declared.plan.Style.{Style}
use Rattle.shell_watch.specs.declared.growth.Growth.{Growth}
use Rattle.shell_watch.specs.declared.shown.Watched.{Watched}
use Rattle.shell_watch.specs.Trees.{bound_text, grown_after, has_bounded, staying, watched_after}
use Rattle.shell_watch.specs.Lines.{turn_line}
use Rattle.shell_watch.specs.inner.Watching.{LinesOf, ShowsThen}
use Rattle.shell_watch.specs.Watching.{ShowsAll, TellsTurn}

-- where nothing is told, nothing waits
pub none_told : {A : Type 0} (actions : List (Action A)) → told_by actions ≡ [] → actions ≡ []
none_told [] none = refl
none_told (action ∷ actions) none = absurd cc

-- something waits, and nothing is shown
pub shows_nothing : {A : Type 0} (style : Style) (ms : ℕ) (view : View) (waits : List (Action A)) (watched : List (Watched A))
    (text : List ℕ) → waits ≢ []
    → ShowsThen style ms view (told_by waits) watched watched text text
shows_nothing style ms view waits watched text some = record {
  here = watched;
  shown = [];
  shows = λ none. absurd (some (none_told waits none));
  rests = λ _. (refl, refl);
  added = sym (append-nil text);
}

-- nothing waits, and each is shown; what was let go is watched no more
pub shows_each : {A : Type 0} (style : Style) (ms : ℕ) (view : View) (waits : List (Action A)) (old here new : List (Watched A))
    (before after : List ℕ) → waits ≡ []
    → (told : List ℕ) × ShowsAll style ms view old here told × (after ≡ before ++ told) → new ≡ staying here
    → ShowsThen style ms view (told_by waits) old new before after
shows_each style ms view waits old here new before after none shows stay = record {
  here = here;
  shown = shows.0;
  shows = λ _. (shows.1, stay);
  rests = λ some. absurd (some (ap told_by none));
  added = shows.2;
}

-- a slice that was written, in its place
pub whole_written : {X : Type 0} (count : ℕ) (xs rest : List X) → count ≡ length xs → take count (xs ++ rest) ≡ xs
whole_written count xs rest size = ap (λ n. take n (xs ++ rest)) size ∙ take-append_seam xs rest

-- the line of a turn, that of the bound, and what is shown after them
pub tells : {A : Type 0} (style : Style) (ms : ℕ) (turn : Turn A) (view : View) (waits : List Told) (growth : Growth)
    (old moved new : List (Watched A)) (line amid text : List ℕ)
    → LinesOf style ms turn view old line → moved ≡ watched_after turn growth old
    → amid ≡ line ++ bound_text (has_bounded growth) (has_bounded (grown_after turn growth)) style ms growth.most
    → ShowsThen style ms view waits moved new amid text → TellsTurn style turn view waits growth old new text
tells {A} style ms turn view waits growth old moved new line amid text lines is adds shows =
    let bound = bound_text (has_bounded growth) (has_bounded (grown_after turn growth)) style ms growth.most in
    record {
      ms = ms;
      at = lines.0;
      here = shows.here;
      shown = shows.shown;
      shows = λ none. subst (λ (ws : List (Watched A)). ShowsAll style ms view ws shows.here shows.shown × (new ≡ staying shows.here)) is
          (shows.shows none);
      rests = λ some. ((shows.rests some).0 ∙ is, (shows.rests some).1);
      are = shows.added ∙ ap (λ l. l ++ shows.shown) (adds ∙ ap (λ l. l ++ bound) lines.1)
          ∙ append_assoc (turn_line style ms old lines.0 view turn) bound shows.shown;
    }
