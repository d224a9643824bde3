-- A moment at which nothing is due: a client that is told it says nothing, and only its moment is another one (`ticked`); told once
-- more, it stays so. Subjects that are quiet are as they were after such a step, and there is nothing to tell of them.
use Rattle.std.proofs.Common.{◌≡◌, ◌<◌, ◌++◌, ◌∷◌, ◌∙◌, ℕ, suc, true, false, cond, inl, List, [], length, get_or, map, refl, sym, ap}
use Rattle.std.proofs.Common.{subst, arith}
use Rattle.std.specs.Prelude.{max}
use Rattle.std.specs.List.{flat_map}
use Rattle.zk_turns.specs.Turns.{Now, Output, Ticks}
use Rattle.zk_turns.specs.Past.{Happening, Ticked}
use Rattle.zk_turns.specs.View.{View}
use Rattle.zk_turns.specs.Taken.{due, happenings, if_open, NothingIsDue}
use Rattle.zk_turns.specs.Rule.{after_all, says_all, Rule}
use Rattle.zk_follow.specs.declared.subject.Subject.{Subject}
use Rattle.zk_follow.specs.Following.{is_among, is_quiet, news_in, reads_of, ticked, told_of, AreFollowed, AreQuiet, AreQuietBut, IsVisited}
use Rattle.zk_follow.specs.Following.{Steps}
use Rattle.zk_follow.proofs.Resting.{not_visited, nothing_told, quiet_parts, rest_followed, told_same, unmoved}

-- ---- the client

latest_twice : (now was : ℕ) → max now (max now was) ≡ max now was
latest_twice now was = omega arith

happened : (now : ℕ) (view : View) → view.standing.halted ≡ false → NothingIsDue view now → happenings view (Ticks now) ≡ Ticked now ∷ []
happened now view goes_on nothing =
    let more : List Happening = if_open view.standing.state (due view (max now view.moments.now)) in
    let none : more ≡ [] = sym (ap (λ b. cond b [] more) goes_on) ∙ nothing in
    ap (λ b. cond b [] (Ticked now ∷ more)) goes_on ∙ ap (λ l. Ticked now ∷ l) none

pub says_nothing : (now : ℕ) (view : View) (outputs : List Output) (after : View) → NothingIsDue view now
    → Rule view (record { input = Now now; outputs = outputs }) after → outputs ≡ []
says_nothing now view outputs after nothing rule =
    rule.outputs ∙ ap (λ hs. says_all view hs ++ []) (happened now view rule.goes_on nothing)

pub is_ticked : (now : ℕ) (view : View) (outputs : List Output) (after : View) → NothingIsDue view now
    → Rule view (record { input = Now now; outputs = outputs }) after → after ≡ ticked now view
is_ticked now view outputs after nothing rule = rule.next ∙ ap (after_all view) (happened now view rule.goes_on nothing)

-- it is told the moment once more
nothing_still : (now : ℕ) (view : View) → NothingIsDue view now → NothingIsDue (ticked now view) now
nothing_still now view nothing =
    ap (λ n. cond view.standing.halted [] (if_open view.standing.state (due view n))) (latest_twice now view.moments.now) ∙ nothing

ticked_twice : (now : ℕ) (view : View) → ticked now (ticked now view) ≡ ticked now view
ticked_twice now view =
    ap (λ n. record view { moments = record { now = n; heard = view.moments.heard; sent = view.moments.sent } })
    (latest_twice now view.moments.now)

again : (now : ℕ) (view : View) → view.standing.halted ≡ false → NothingIsDue view now
    → Rule (ticked now view) (record { input = Now now; outputs = [] }) (ticked now view)
again now view goes_on nothing =
    let here = ticked now view in
    let once = happened now here goes_on (nothing_still now view nothing) in
    record {
      asked = tt;
      goes_on = goes_on;
      outputs = sym (ap (λ hs. says_all here hs ++ []) once);
      next = sym (ap (after_all here) once ∙ ticked_twice now view);
    }

-- ---- subjects that are quiet

pub none_among : (k : ℕ) (places : List ℕ) → length places ≡ 0 → is_among k places ≡ false
none_among k [] none = refl
none_among k (place ∷ places) none = absurd (omega (arith, none))

-- where the index is of all subjects, and none may be awake
pub all_quiet : {A : Type 0} (view : View) (count : ℕ) (subjects : List (Subject A)) (awake : List ℕ)
    → length awake ≡ 0 → count ≡ length subjects → AreQuietBut view count subjects awake → AreQuiet view subjects
all_quiet view count subjects awake none whole rest k d below = rest k d (omega (arith, whole, below)) (none_among k awake none)

first_quiet : {A : Type 0} (view : View) (subject : Subject A) (subjects : List (Subject A))
    → AreQuiet view (subject ∷ subjects) → is_quiet view subject ≡ true
first_quiet view subject subjects quiet = quiet 0 subject (let l : 0 < length (subject ∷ subjects) = omega arith in l)

others_quiet : {A : Type 0} (view : View) (subject : Subject A) (subjects : List (Subject A))
    → AreQuiet view (subject ∷ subjects) → AreQuiet view subjects
others_quiet view subject subjects quiet k d below =
    quiet (suc k) d (let l : suc k < length (subject ∷ subjects) = omega (arith, below) in l)

pub quiet_told : {A : Type 0} (view : View) (subjects : List (Subject A)) → AreQuiet view subjects → map (told_of view) subjects ≡ subjects
quiet_told view [] quiet = refl
quiet_told view (subject ∷ subjects) quiet =
    let parts = quiet_parts view subject (first_quiet view subject subjects quiet) in
    ap (λ one. one ∷ map (told_of view) subjects) (told_same view subject parts.0 parts.1)
    ∙ ap (λ all. subject ∷ all) (quiet_told view subjects (others_quiet view subject subjects quiet))

pub quiet_news : {A : Type 0} (view : View) (subjects : List (Subject A))
    → AreQuiet view subjects → flat_map (news_in view []) subjects ≡ []
quiet_news view [] quiet = refl
quiet_news view (subject ∷ subjects) quiet =
    let parts = quiet_parts view subject (first_quiet view subject subjects quiet) in
    ap (λ news. news ++ flat_map (news_in view []) subjects) (nothing_told view subject parts.0 parts.1 [] refl)
    ∙ quiet_news view subjects (others_quiet view subject subjects quiet)

pub quiet_followed : {A : Type 0} (now : ℕ) (view : View) (subjects : List (Subject A))
    → AreQuiet view subjects → AreFollowed now view subjects
quiet_followed now view subjects quiet k d below =
    rest_followed now view (get_or subjects k d) (quiet_parts view (get_or subjects k d) (quiet k d below)).0 (reads_of view subjects)

-- ---- both

pub quiet_steps : {A : Type 0} (now : ℕ) (view : View) (outputs : List Output) (after : View) (subjects : List (Subject A))
    → NothingIsDue view now → AreQuiet view subjects → Rule view (record { input = Now now; outputs = outputs }) after
    → Steps now view (Now now) subjects after [] subjects
quiet_steps {A} now view outputs after subjects nothing quiet rule =
    let here = ticked now view in
    let is = is_ticked now view outputs after nothing rule in
    let told : Rule view (record { input = Now now; outputs = [] }) here =
    subst (λ v. Rule view (record { input = Now now; outputs = [] }) v) is
    (subst (λ os. Rule view (record { input = Now now; outputs = os }) after) (says_nothing now view outputs after nothing rule) rule) in
    subst (λ v. Steps now view (Now now) subjects v [] subjects) (sym is) (record {
      first = [];
      second = [];
      calls = [];
      chain = (here, told, (here, again now view rule.goes_on nothing, refl));
      reads = tt;
      said = refl;
      room = inl refl;
      count = refl;
      visited = λ k d below.
          let one : Subject A = get_or subjects k d in
          let same = (unmoved now view one (quiet_parts view one (quiet k d below)).0 [] refl).1 in
          subst (λ (s : Subject A). IsVisited now s one) (sym same) (not_visited now view one);
    })
