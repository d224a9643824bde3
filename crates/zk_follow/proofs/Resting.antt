-- A subject that rests stays as it is by a visit, where outputs say nothing of it, and there is nothing more to tell of it.
use Rattle.std.proofs.Common.{◌≡◌, ℕ, Bool, true, false, not, cond, ◌&&◌, ◌||◌, List, [], ◌∷◌, Option}
use Rattle.std.proofs.Common.{Some, None}
use Rattle.std.proofs.Common.{inl, refl, sym, ap, ◌∙◌}
use Rattle.std.specs.Prelude.{◌==◌}
use Rattle.std.specs.List.{list_any}
use Rattle.zk_nodes.specs.Path.{Text}
use Rattle.zk_nodes.specs.declared.side.Side.{Side}
use Rattle.zk_nodes.specs.declared.side.Side.TheVariants.{Data, Child}
use Rattle.zk_watches.specs.Lists.{side_has}
use Rattle.zk_turns.specs.Turns.{Output, Answer, Enters, Report, Turn}
use Rattle.zk_turns.specs.View.{View, Cache}
use Rattle.zk_turns.specs.Rule.{RuleAt}
use Rattle.zk_follow.specs.declared.news.News.{News}
use Rattle.zk_follow.specs.declared.news.News.TheVariants.{Shown, Refused as Denied}
use Rattle.zk_follow.specs.declared.progress.Progress.{Progress}
use Rattle.zk_follow.specs.declared.progress.Progress.TheVariants.{Due, Reading, Refused}
use Rattle.zk_follow.specs.declared.subject.Subject.{Subject}
use Rattle.zk_follow.specs.Following.{answered, heard, heard_all, is_kept, is_reported, is_shown, news_about, news_in}
use Rattle.zk_follow.specs.Following.{says_none}
use Rattle.zk_follow.specs.Following.{is_quiet, is_sure, told_after, told_of, was_shown, woken, woken_progress, IsCounted, IsFollowed}
use Rattle.zk_follow.specs.inner.Following.{Asks}
use Rattle.zk_follow.specs.inner.Places.{is_heard_by}
use Rattle.zk_follow.specs.Owning.{AreOwn}
use Rattle.zk_follow.specs.inner.Owning.{is_of}
use Rattle.zk_follow.specs.Following.{holds, is_due, is_resting, IsVisited}
use Rattle.zk_follow.specs.inner.Resting.{is_about, is_report, tells_fields}
use Rattle.zk_follow.proofs.Forgetting.{after_forgetting, holds_still}
use Rattle.zk_follow.proofs.Owning.{IsOwnInput}
use Rattle.zk_follow.proofs.Staying.{and_parts, or_false, Stays, stays_at}

-- ---- what rests

pub not_parts : (a : Bool) → not a ≡ true → a ≡ false
not_parts true e = absurd cc
not_parts false e = refl

pub and_false : (a b : Bool) → b ≡ false → (a && b) ≡ false
and_false true b e = e
and_false false b e = refl

pub record Rested {A : Type 0} (view : View) (subject : Subject A) : Type 0 where
  pub due : is_due subject.progress ≡ true
  pub missing : subject.is_missing ≡ false
  pub there : subject.is_there ≡ false
  pub undoubted : subject.is_doubted ≡ false
  pub stays : Stays subject.side subject.path view

pub parts_of : {A : Type 0} (view : View) (subject : Subject A) → is_resting view subject ≡ true → Rested view subject
parts_of view subject e =
    let watched = side_has view.lists subject.side subject.path in
    let good = holds view.cache subject.side subject.path in
    let last = not subject.is_doubted && (watched && good) in
    let one = and_parts (is_due subject.progress) (not subject.is_missing && (not subject.is_there && last)) e in
    let two = and_parts (not subject.is_missing) (not subject.is_there && last) one.1 in
    let three = and_parts (not subject.is_there) last two.1 in
    let four = and_parts (not subject.is_doubted) (watched && good) three.1 in
    record {
      due = one.0;
      missing = not_parts subject.is_missing two.0;
      there = not_parts subject.is_there three.0;
      undoubted = not_parts subject.is_doubted four.0;
      stays = and_parts watched good four.1;
    }

pub rests_by : {A : Type 0} (view : View) (subject : Subject A) → Rested view subject → is_resting view subject ≡ true
rests_by view subject parts =
    let last = side_has view.lists subject.side subject.path && holds view.cache subject.side subject.path in
    ap (λ b. b && (not subject.is_missing && (not subject.is_there && (not subject.is_doubted && last)))) parts.due
    ∙ ap (λ b. not b && (not subject.is_there && (not subject.is_doubted && last))) parts.missing
    ∙ ap (λ b. not b && (not subject.is_doubted && last)) parts.there
    ∙ ap (λ b. not b && last) parts.undoubted
    ∙ ap (λ b. b && holds view.cache subject.side subject.path) parts.stays.0
    ∙ parts.stays.1

pub due_is : (progress : Progress) → is_due progress ≡ true → progress ≡ Due
due_is Due e = refl
due_is Reading e = absurd cc
due_is (Refused why until) e = absurd cc

shown_by : (cache : Cache) (side : Side) (path : Text) → holds cache side path ≡ true → is_shown cache side path ≡ true
shown_by cache Data path e = e
shown_by cache Child path e = ap (λ b. b || is_kept says_none (cache.nodes path)) e

-- what says nothing of a subject leaves it as it is
module _ {A : Type 0} (now : ℕ) (subject : Subject A) where
  heard_same : (output : Output) → is_heard_by subject.ticket subject.path output ≡ false → heard now subject output ≡ subject
  heard_same (Answer ticket outcome) e = ap (λ b. cond b (answered now outcome subject) subject) e
  heard_same (Report at side event) e = ap (λ b. cond b (record subject { is_there = false }) subject) e
  heard_same (Enters state) e = absurd cc
  heard_same _ e = refl

  pub all_heard_same : (outputs : List Output) → list_any (is_heard_by subject.ticket subject.path) outputs ≡ false
      → heard_all now subject outputs ≡ subject
  all_heard_same [] e = refl
  all_heard_same (output ∷ outputs) e =
      let parts = or_false (is_heard_by subject.ticket subject.path output)
      (list_any (is_heard_by subject.ticket subject.path) outputs) e in
      ap (λ (s : Subject A). heard_all now s outputs) (heard_same output parts.0) ∙ all_heard_same outputs parts.1

-- who is told of nothing that is about it hears nothing
pub unheard_about : {A : Type 0} (foreign : Bool) (all : List (Subject A)) (ticket : ℕ) (path : Text) (outputs : List Output)
    → list_any (is_about foreign all ticket path) outputs ≡ false → list_any (is_heard_by ticket path) outputs ≡ false
unheard_about foreign all ticket path [] e = refl
unheard_about foreign all ticket path (output ∷ outputs) e =
    let parts = or_false (is_about foreign all ticket path output) (list_any (is_about foreign all ticket path) outputs) e in
    ap (λ b. b || list_any (is_heard_by ticket path) outputs) (by output parts.0)
    ∙ unheard_about foreign all ticket path outputs parts.1
  where
    by : (output : Output) → is_about foreign all ticket path output ≡ false → is_heard_by ticket path output ≡ false
    by (Answer its outcome) e = (or_false (ticket == its) (tells_fields outcome && (foreign || is_of all its path)) e).0
    by (Report at side event) e = e
    by (Enters state) e = absurd cc
    by _ e = refl

module _ {A : Type 0} (now : ℕ) (view : View) (subject : Subject A) (rest : is_resting view subject ≡ true) where
  pub rest_sure : is_sure view subject ≡ true
  rest_sure =
      let parts = parts_of view subject rest in
      ap (λ b. not b && is_shown view.cache subject.side subject.path) parts.undoubted
      ∙ shown_by view.cache subject.side subject.path parts.stays.1

  pub rest_followed : (reads : ℕ) → IsFollowed now view reads subject
  rest_followed reads = inl rest_sure

  pub rest_counted_as : IsCounted view subject
  rest_counted_as going reads =
      absurd (let e : Due ≡ Reading = sym (due_is subject.progress (parts_of view subject rest).due) ∙ reads in cc)

  woken_same : woken now subject ≡ subject
  woken_same =
      let due = due_is subject.progress (parts_of view subject rest).due in
      ap (λ (p : Progress). record subject { progress = woken_progress now p }) due
      ∙ ap (λ (p : Progress). record subject { progress = p }) (sym due)

  pub unmoved : (outputs : List Output) → list_any (is_heard_by subject.ticket subject.path) outputs ≡ false
      → (heard_all now subject outputs ≡ subject) × (woken now subject ≡ subject)
  unmoved outputs silent = (all_heard_same now subject outputs silent, woken_same)

-- A visit that asks nothing may leave a subject as it is.
pub not_visited : {A : Type 0} (now : ℕ) (view : View) (subject : Subject A) → IsVisited now subject subject
not_visited now view subject = (view, [], view, inl (refl, refl, inl refl))

-- ---- from view to view

rested_at : {A : Type 0} (view after : View) (subject : Subject A)
    → Rested view subject → Stays subject.side subject.path after → Rested after subject
rested_at view after subject parts stays =
    record { due = parts.due; missing = parts.missing; there = parts.there; undoubted = parts.undoubted; stays = stays }

pub rests_at : {A : Type 0} (foreign : Bool) (all : List (Subject A)) (moment : ℕ) (view : View) (turn : Turn) (after : View)
    → RuleAt moment view turn after → (foreign ≡ false → IsOwnInput all turn.input) → (foreign ≡ false → AreOwn all view.pending)
    → (subject : Subject A) → list_any (is_about foreign all subject.ticket subject.path) turn.outputs ≡ false
    → is_resting view subject ≡ true → is_resting after subject ≡ true
rests_at foreign all moment view turn after rule asks own subject silent e =
    let parts = parts_of view subject e in
    rests_by after subject (rested_at view after subject parts
    (stays_at foreign all subject.ticket subject.path subject.side moment view turn after rule asks own silent parts.stays))

pub rests_on : {A : Type 0} (view after : View) → Asks view after → (subject : Subject A)
    → is_resting view subject ≡ true → is_resting after subject ≡ true
rests_on view after asks subject e =
    let parts = parts_of view subject e in
    rests_by after subject (rested_at view after subject parts (
      ap (λ lists. side_has lists subject.side subject.path) asks.lists ∙ parts.stays.0,
      ap (λ cache. holds cache subject.side subject.path) asks.cache ∙ parts.stays.1,
    ))

pub rests_still : {A : Type 0} (view : View) (subject : Subject A)
    → is_resting view subject ≡ true → is_resting (after_forgetting view) subject ≡ true
rests_still view subject rest =
    let parts = parts_of view subject rest in
    rests_by (after_forgetting view) subject (rested_at view (after_forgetting view) subject parts
    (parts.stays.0, holds_still view.cache subject.side subject.path ∙ parts.stays.1))

-- ---- what there is to tell

shown_is : (told : Option News) → was_shown told ≡ true → told ≡ Some Shown
shown_is None e = absurd cc
shown_is (Some Shown) e = refl
shown_is (Some (Denied why)) e = absurd cc

-- where there is no report, no path is reported
pub unreported_where : (path : Text) (outputs : List Output) → list_any is_report outputs ≡ false → is_reported path outputs ≡ false
unreported_where path [] e = refl
unreported_where path (output ∷ outputs) e =
    let parts = or_false (is_report output) (list_any is_report outputs) e in
    by output parts.0 (unreported_where path outputs parts.1)
  where
    by : (output : Output) → is_report output ≡ false → is_reported path outputs ≡ false → is_reported path (output ∷ outputs) ≡ false
    by (Report at side event) is rest = absurd cc
    by _ is rest = rest

module _ {A : Type 0} (view : View) (subject : Subject A) (rest : is_resting view subject ≡ true)
    (was : was_shown subject.told ≡ true) where
  pub nothing_told : (outputs : List Output) → is_reported subject.path outputs ≡ false → news_in view outputs subject ≡ []
  nothing_told outputs unreported =
      ap (λ told. news_about_list told) (all_about outputs unreported)
    where
      news_about_list : Option News → List (ℕ × News)
      news_about_list None = []
      news_about_list (Some what) = (subject.ticket, what) ∷ []

      all_about : (outputs : List Output) → is_reported subject.path outputs ≡ false
          → news_about (is_sure view subject) (is_reported subject.path outputs) subject.progress subject.told ≡ None
      all_about outputs unreported =
          ap (λ is. news_about is (is_reported subject.path outputs) subject.progress subject.told) (rest_sure 0 view subject rest)
          ∙ ap (λ is. cond (was_shown subject.told && not is) None (Some Shown)) unreported
          ∙ ap (λ was. cond (was && true) None (Some Shown)) was

  pub told_same : told_of view subject ≡ subject
  told_same =
      ap (λ is. record subject { told = told_after is subject.progress subject.told }) (rest_sure 0 view subject rest)
      ∙ ap (λ (told : Option News). record subject { told = told }) (sym (shown_is subject.told was))

pub quiet_parts : {A : Type 0} (view : View) (subject : Subject A) → is_quiet view subject ≡ true
    → (is_resting view subject ≡ true) × (was_shown subject.told ≡ true)
quiet_parts view subject e = and_parts (is_resting view subject) (was_shown subject.told) e
