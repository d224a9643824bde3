-- Subjects are visited one after the other: those before are followed, and those after it are as they were.
use Rattle.std.proofs.Common.{◌≡◌, ◌≢◌, ◌≤◌, ◌<◌, ◌^◌, ◌+◌, ◌++◌, ◌⊎◌, append_assoc, cond, ℕ, ℤ, Bool, true, false, List, [], ◌∷◌, inl, inr}
use Rattle.std.proofs.Common.{drop, length, get_or, map, set, take, refl, sym, ap, subst, ◌∙◌, arith}
use Rattle.std.proofs.lemmas.List.{append-nil, get_or-map, get_or-set_other, length-map, nil_from_length}
use Rattle.std.proofs.Math.Seq.{take-append_seam}
use Rattle.std.proofs.lemmas.Grind.{flat_map-append}
use Rattle.std.proofs.lemmas.List.Elements.{All-map}
use Rattle.std.specs.Prelude.{◌==◌, All, Result, Ok, Err, OnOk, bytes_eq, slice_index_or}
use Rattle.std.specs.List.{FoldsTo}
use Rattle.zk_conversation.specs.Results.{NoNode, Refused as Refused_by}
use Rattle.zk_turns.specs.Turns.{Outcome, Replied, TooManyWatches, TooLarge, SessionClosed, Output, Answer, Enters, Report, Turn, Input}
use Rattle.zk_turns.specs.Turns.{Call}
use Rattle.zk_session.specs.declared.states.State.TheVariants.{Connected, Idle}
use Rattle.zk_client.specs.Clients.{renewed_start}
use Rattle.zk_turns.specs.View.{View, view_at}
use Rattle.zk_turns.specs.Rule.{Rule, RuleAt}
use Rattle.zk_follow.specs.declared.subject.Subject.{Subject}
use Rattle.zk_follow.specs.declared.progress.Progress.{Progress}
use Rattle.zk_follow.specs.declared.progress.Progress.TheVariants.{Due, Reading, Refused}
use Rattle.zk_follow.specs.declared.progress.Refusal.TheVariants.{Code, TooManyWatches as Many_watches, TooLarge as Long_answer}
use Rattle.zk_follow.specs.declared.progress.Refusal.TheVariants.{SessionClosed as Closing}
use Rattle.zk_follow.specs.declared.reads.TheConstants.{MOST_READS}
use Rattle.zk_follow.specs.Following.{heard_all, how_many_reading, outputs_in, due_again, progress_after, read_of, rested_progress, taken}
use Rattle.zk_follow.specs.Following.{AreFollowed, AreReads, AreVisited, IsAhead, IsCounted, IsReadOf, IsVisited, Steps, Visits}
use Rattle.zk_follow.specs.inner.Following.{AreSeen, Asks, Reads}
use Rattle.zk_follow.specs.inner.Following.{VisitsAnd}
use Rattle.zk_follow.specs.Following.{answered, entered, heard}
use Rattle.zk_follow.proofs.Waiting.{still_going}
use Rattle.zk_follow.proofs.Hearing.{all_same_path, all_same_side, all_same_ticket, counted_at}
use Rattle.zk_follow.proofs.Asking.{woken_ahead}

-- after this and that
pub asks_on : (view between after : View) → Asks view between → Asks between after → Asks view after
asks_on view between after first second = record {
  standing = second.standing ∙ first.standing;
  cache = second.cache ∙ first.cache;
  lists = second.lists ∙ first.lists;
  more = first.more ++ second.more;
  pending = second.pending ∙ ap (λ ps. ps ++ second.more) first.pending ∙ append_assoc view.pending first.more second.more;
}

-- of the first so many
abbrev pub AllBefore : {X : Type 0} → ℕ → (X → Type 0) → List X → Type 0
AllBefore {X} count P xs = (k : ℕ) (d : X) → k < count → P (get_or xs k d)

-- from so many on they are the same
abbrev pub SameFrom : {X : Type 0} → ℕ → List X → List X → Type 0
SameFrom {X} count xs ys = (k : ℕ) (d : X) → count ≤ k → get_or xs k d ≡ get_or ys k d

pub same_after : {X : Type 0} (xs ys : List X) (index : ℕ) (x : X) → SameFrom index xs ys → SameFrom (index + 1) (set xs index x) ys
same_after xs ys index x same k d rest_of =
    let other : k ≢ index = λ e. absurd (omega arith) in
    let later : index ≤ k = omega arith in
    get_or-set_other xs index k x d other ∙ same k d later

-- what holds of each of the first list holds of the one that is visited next
pub holds_next : {X : Type 0} (P : X → Type 0) (subjects first : List X) (index : ℕ) (element : X) → index < length first
    → All P first → element ≡ get_or subjects index element → SameFrom index subjects first → P element
holds_next P subjects first index element within all is same =
    let whole : element ≡ get_or first index element = is ∙ same index element (omega arith) in
    subst P (sym whole) (all index element within)

-- ---- a turn

pub all_counted : {A : Type 0} (now moment : ℕ) (view : View) (turn : Turn) (after : View)
    → RuleAt moment view turn after → (subjects : List (Subject A))
    → All (IsCounted view) subjects → All (λ subject. IsCounted after (heard_all now subject turn.outputs)) subjects
all_counted now moment view turn after rule subjects all =
    λ k d within. counted_at now moment view turn after rule (slice_index_or subjects k d) (all k d within)

pub going_at : (moment : ℕ) (view : View) (turn : Turn) (after : View) → RuleAt moment view turn after → after.standing.halted ≡ false
going_at moment view turn after rule = still_going rule.between _ after rule.takes

-- ---- the list of subjects

-- a slice of all of a list is written back
pub written_back : {X : Type 0} (P : X → Type 0) (count : ℕ) (written rest : List X)
    → count ≡ length written → All P written → All P (take count (written ++ rest))
written_back P count written rest size all =
    subst (All P) (sym (ap (λ n. take n (written ++ rest)) size ∙ take-append_seam written rest)) all

-- a subject that is new is not being read
pub new_counted : {A : Type 0} (view : View) (subject : Subject A) → subject.progress ≡ Due → IsCounted view subject
new_counted view subject due going reads = absurd (let e : Due ≡ Reading = sym due ∙ reads in cc)

pub begun_followed : {A : Type 0} (now : ℕ) (view : View) (subjects : List (Subject A))
    → view.standing.state ≢ Connected → AreFollowed now view subjects
begun_followed now view subjects away k d within = inr (inr (inr (inl away)))

pub begun_counted : {A : Type 0} (view : View) (subjects : List (Subject A)) → All (IsCounted view) (map due_again subjects)
begun_counted view subjects =
    All-map (IsCounted view) due_again subjects (λ k d within. new_counted view (due_again (get_or subjects k d)) refl)

-- a new client is not connected
pub not_connected : (timeout : ℤ) (before : View) → (view_at (renewed_start timeout before) []).standing.state ≢ Connected
not_connected timeout before e = let f : Idle ≡ Connected = e in absurd cc

-- ---- each was visited

-- Those that were visited had taken what was said.
pub taken_visited : {A : Type 0} (now : ℕ) (outputs : List Output) (old middle new : List (Subject A))
    → middle ≡ map (taken now outputs) old → AreSeen now middle new → AreVisited now outputs old new
taken_visited {A} now outputs old middle new is seen k d within =
    let fits : k < length middle = subst (λ (ss : List (Subject A)). k < length ss) (sym is)
    (subst (λ n. k < n) (sym (length-map old (taken now outputs))) within) in
    subst (λ (s : Subject A). IsVisited now s (get_or new k d))
    (ap (λ (ss : List (Subject A)). get_or ss k d) is ∙ get_or-map (taken now outputs) old k d d within) (seen k d fits)

pub whole_written : {X : Type 0} (count : ℕ) (written rest : List X) → count ≡ length written → take count (written ++ rest) ≡ written
whole_written count written rest size = ap (λ n. take n (written ++ rest)) size ∙ take-append_seam written rest

-- and each was changed in the same way
pub mapped_back : {X : Type 0} (f : X → X) (count : ℕ) (slice written items : List X) → count ≡ length written → written ≡ map f slice
    → slice ≡ items → take count (written ++ drop (length written) items) ≡ map f items
mapped_back f count slice written items size changed same =
    whole_written count written (drop (length written) items) size ∙ changed ∙ ap (map f) same

-- ---- where a subject counts as refused, its moment is after this one

answer_ahead : (now : ℕ) → now < 2 ^ 64 → (was_there : Bool) (outcome : Outcome) → IsAhead now (progress_after now was_there outcome)
answer_ahead now fits was_there (Replied zxid (Refused_by code)) = omega arith
answer_ahead now fits true (Replied zxid NoNode) = omega arith
answer_ahead now fits false (Replied zxid NoNode) = tt
answer_ahead now fits was_there (Replied zxid _) = tt
answer_ahead now fits was_there TooManyWatches = omega arith
answer_ahead now fits was_there TooLarge = omega arith
answer_ahead now fits was_there SessionClosed = omega arith
answer_ahead now fits was_there _ = tt

rested_ahead : (now : ℕ) (progress : Progress) → IsAhead now (rested_progress progress)
rested_ahead now Due = tt
rested_ahead now Reading = tt
rested_ahead now (Refused why until) = tt

entered_ahead : (now : ℕ) (progress : Progress) → IsAhead now progress → IsAhead now (entered progress)
entered_ahead now Due ahead = tt
entered_ahead now Reading ahead = tt
entered_ahead now (Refused (Code code) until) ahead = tt
entered_ahead now (Refused Many_watches until) ahead = tt
entered_ahead now (Refused Long_answer until) ahead = ahead
entered_ahead now (Refused Closing until) ahead = tt

module _ {A : Type 0} (now : ℕ) (fits : now < 2 ^ 64) where
  one_ahead : (subject : Subject A) (output : Output) → IsAhead now subject.progress → IsAhead now (heard now subject output).progress
  one_ahead subject (Answer ticket outcome) ahead = by (subject.ticket == ticket)
    where
      by : (b : Bool) → IsAhead now (cond b (answered now outcome subject) subject).progress
      by true = answer_ahead now fits subject.is_there outcome
      by false = ahead
  one_ahead subject (Report at side event) ahead = by (bytes_eq at subject.path)
    where
      by : (b : Bool) → IsAhead now (cond b (record subject { is_there = false }) subject).progress
      by true = ahead
      by false = ahead
  one_ahead subject (Enters state) ahead = entered_ahead now subject.progress ahead
  one_ahead subject _ ahead = ahead

  heard_ahead : (outputs : List Output) (subject : Subject A)
      → IsAhead now subject.progress → IsAhead now (heard_all now subject outputs).progress
  heard_ahead [] subject ahead = ahead
  heard_ahead (output ∷ outputs) subject ahead = heard_ahead outputs (heard now subject output) (one_ahead subject output ahead)

  pub visited_ahead : (subject new : Subject A) → IsAhead now subject.progress → IsVisited now subject new → IsAhead now new.progress
  visited_ahead subject new ahead visited = by visited.3
    where
      by : Visits now visited.0 subject visited.1 visited.2 new → IsAhead now new.progress
      by (inl kept) = elim kept.2 [
        | inl same ↦ subst (λ (s : Subject A). IsAhead now s.progress) (sym same) ahead
        | inr rests ↦ subst (λ (s : Subject A). IsAhead now s.progress) (sym rests) (rested_ahead now subject.progress)
      ]
      by (inr asked) = subst (λ (s : Subject A). IsAhead now s.progress) (sym asked.4)
          (heard_ahead asked.0.outputs (record subject { progress = Reading }) tt)

  pub seen_ahead : (old new : List (Subject A)) → length new ≡ length old → AreSeen now old new
      → All (λ subject. IsAhead now subject.progress) old → All (λ subject. IsAhead now subject.progress) new
  seen_ahead old new size seen ahead k d within =
      let inside : k < length old = omega (arith, within, size) in
      visited_ahead (slice_index_or old k d) (slice_index_or new k d) (ahead k d inside) (seen k d inside)

  pub all_ahead : (outputs : List Output) (old new : List (Subject A))
      → length new ≡ length old → AreVisited now outputs old new → All (λ subject. IsAhead now subject.progress) new
  all_ahead outputs old new size visited k d within =
      visited_ahead (taken now outputs (slice_index_or old k d)) (slice_index_or new k d)
      (woken_ahead now (heard_all now (slice_index_or old k d) outputs).progress)
      (visited k d (omega (arith, within, size)))

-- ---- the turns of the calls

pub no_reads : {A : Type 0} (subjects : List (Subject A)) (view : View) (given : List Output) (reads : ℕ)
    → Reads subjects view given view given reads
no_reads subjects view given reads =
    record { calls = []; chain = refl; reads = tt; said = sym (append-nil given); room = inl refl }

pub chain_on : (calls more : List Turn) (view between after : View)
    → FoldsTo Rule view calls between → FoldsTo Rule between more after → FoldsTo Rule view (calls ++ more) after
chain_on [] more view between after same rest = rw same rest
chain_on (turn ∷ calls) more view between after chain rest = (chain.0, chain.1, chain_on calls more chain.0 between after chain.2 rest)

pub reads_on : {A : Type 0} (subjects : List (Subject A)) (calls more : List Turn)
    → AreReads subjects calls → AreReads subjects more → AreReads subjects (calls ++ more)
reads_on subjects [] more reads rest = rest
reads_on subjects (turn ∷ calls) more reads rest = (reads.0, reads_on subjects calls more reads.1 rest)

pub outputs_on : (calls more : List Turn) → outputs_in (calls ++ more) ≡ outputs_in calls ++ outputs_in more
outputs_on calls more = flat_map-append (λ (turn : Turn). turn.outputs) calls more

room_on : (calls more : List Turn) (reads after : ℕ) → (calls ≡ []) ⊎ (reads ≤ MOST_READS)
    → ((more ≡ []) × (after ≡ reads)) ⊎ (after ≤ MOST_READS) → (calls ++ more ≡ []) ⊎ (after ≤ MOST_READS)
room_on calls more reads after (inl none) (inl kept) = inl (ap (λ cs. cs ++ more) none ∙ kept.0)
room_on calls more reads after (inr room) (inl kept) = inr (subst (λ n. n ≤ MOST_READS) (sym kept.1) room)
room_on calls more reads after room (inr leaves) = inr leaves

-- what is asked by a visit of the subject at this place
visit_calls : {A : Type 0} (now : ℕ) (subjects : List (Subject A)) (index : ℕ) (element : Subject A) (view : View)
    (calls : List Turn) (after : View) (new : Subject A)
    → index < length subjects → element ≡ get_or subjects index element → Visits now view element calls after new
    → FoldsTo Rule view calls after × AreReads subjects calls
visit_calls {A} now subjects index element view calls after new within is (inl kept) =
    (subst (λ cs. FoldsTo Rule view cs after) (sym kept.1) (sym kept.0), subst (AreReads subjects) (sym kept.1) tt)
visit_calls {A} now subjects index element view calls after new within is (inr asked) = (
  subst (λ cs. FoldsTo Rule view cs after) (sym asked.1) (after, asked.3, refl),
  subst (AreReads subjects) (sym asked.1) ((index, element, element.is_missing, within, read), tt),
)
  where
    read : IsReadOf (get_or subjects index element) element.is_missing asked.0
    read = subst (λ (s : Subject A). IsReadOf s element.is_missing asked.0) is asked.2

pub more_reads : {A : Type 0} (now : ℕ) (first subjects : List (Subject A)) (index : ℕ) (element : Subject A)
    (view0 view after : View) (given0 given given_after : List Output) (reads_before reads_after : ℕ)
    (new : Subject A) → index < length first → element ≡ get_or subjects index element → SameFrom index subjects first
    → Reads first view0 given0 view given reads_before
    → VisitsAnd now view given reads_before element after given_after reads_after new
    → Reads first view0 given0 after given_after reads_after
more_reads now first subjects index element view0 view after given0 given given_after reads_before reads_after new within is same reads
    visits =
    let whole : element ≡ get_or first index element = is ∙ same index element (omega arith) in
    let asked = visit_calls now first index element view visits.0 after new within whole visits.1 in
    record {
      calls = reads.calls ++ visits.0;
      chain = chain_on reads.calls visits.0 view0 view after reads.chain asked.0;
      reads = reads_on first reads.calls visits.0 reads.reads asked.1;
      said = visits.2 ∙ ap (λ g. g ++ outputs_in visits.0) reads.said ∙ append_assoc given0 (outputs_in reads.calls) (outputs_in visits.0)
          ∙ ap (λ os. given0 ++ os) (sym (outputs_on reads.calls visits.0));
      room = room_on reads.calls visits.0 reads_before reads_after reads.room visits.3;
    }

-- a visit, of which the turns are not asked about
pub is_visited : {A : Type 0} (now : ℕ) (view : View) (given : List Output) (reads : ℕ) (subject : Subject A) (after : View)
    (given_after : List Output) (reads_after : ℕ) (new : Subject A)
    → VisitsAnd now view given reads subject after given_after reads_after new → IsVisited now subject new
is_visited now view given reads subject after given_after reads_after new visits = (view, visits.0, after, visits.1)

-- What is asked of those that have taken what was said is asked of those subjects.
asked_of_taken : {A : Type 0} (now : ℕ) (outputs : List Output) (old : List (Subject A)) (calls : List Turn)
    → AreReads (map (taken now outputs) old) calls → AreReads old calls
asked_of_taken now outputs old [] reads = tt
asked_of_taken {A} now outputs old (turn ∷ more) reads = (one reads.0, asked_of_taken now outputs old more reads.1)
  where
    one : (k : ℕ) × (d : Subject A) × (is_missing : Bool) × (k < length (map (taken now outputs) old))
        × IsReadOf (get_or (map (taken now outputs) old) k d) is_missing turn
        → (k : ℕ) × (d : Subject A) × (is_missing : Bool) × (k < length old) × IsReadOf (get_or old k d) is_missing turn
    one (k, d, is_missing, within, asked) =
        let fits : k < length old = subst (λ n. k < n) (length-map old (taken now outputs)) within in
        let it : Subject A = get_or old k d in
        let is : get_or (map (taken now outputs) old) k d ≡ taken now outputs it = get_or-map (taken now outputs) old k d d fits in
        let read : IsReadOf (taken now outputs it) is_missing turn = subst (λ (s : Subject A). IsReadOf s is_missing turn) is asked in (
          k,
          d,
          is_missing,
          fits,
          (
            read.0,
            read.1 ∙ ap (λ t. Call t read.0) (all_same_ticket now outputs it),
            read.2 ∙ ap (λ s. read_of s is_missing (taken now outputs it).path) (all_same_side now outputs it)
                ∙ ap (λ p. read_of it.side is_missing p) (all_same_path now outputs it),
          ),
        )

pub reads_of_taken : {A : Type 0} (now : ℕ) (outputs : List Output) (old middle : List (Subject A)) (view : View) (given : List Output)
    (after : View) (given_after : List Output) (reads_after : ℕ) → middle ≡ map (taken now outputs) old
    → Reads middle view given after given_after reads_after → Reads old view given after given_after reads_after
reads_of_taken now outputs old middle view given after given_after reads_after is reads = record {
  calls = reads.calls;
  chain = reads.chain;
  reads = asked_of_taken now outputs old reads.calls (subst (λ ss. AreReads ss reads.calls) is reads.reads);
  said = reads.said;
  room = reads.room;
}

-- The same where memory may have run out.
pub read_all : {A X E : Type 0} (result : Result X E) (now : ℕ) (outputs : List Output) (old middle : List (Subject A)) (view : View)
    (given : List Output) (after : View) (given_after : List Output) (new : List (Subject A)) → middle ≡ map (taken now outputs) old
    → OnOk result (Reads middle view given after given_after (how_many_reading new))
    → OnOk result (Reads old view given after given_after (how_many_reading new))
read_all (Ok x) now outputs old middle view given after given_after new is reads =
    reads_of_taken now outputs old middle view given after given_after (how_many_reading new) is reads
read_all (Err e) now outputs old middle view given after given_after new is reads = tt

pub all_visited : {A X E : Type 0} (result : Result X E) (now : ℕ) (outputs : List Output) (old middle new : List (Subject A))
    → middle ≡ map (taken now outputs) old → OnOk result (AreSeen now middle new) → OnOk result (AreVisited now outputs old new)
all_visited (Ok x) now outputs old middle new is seen = taken_visited now outputs old middle new is seen
all_visited (Err e) now outputs old middle new is seen = tt

-- ---- a whole step

pub steps : {A : Type 0} (now : ℕ) (view : View) (input : Input) (outputs : List Output) (between : View) (old : List (Subject A))
    (after : View) (made given : List Output) (new : List (Subject A))
    → RuleAt now view (record { input = input; outputs = outputs }) between → Reads old between [] after made (how_many_reading new)
    → AreVisited now outputs old new → length new ≡ length old → given ≡ outputs ++ made
    → Steps now view input old after given new
steps now view input outputs between old after made given new rule reads visited count said = record {
  first = rule.first;
  second = rule.second;
  calls = reads.calls;
  chain = (rule.between, rule.tells, (between, rule.takes, reads.chain));
  reads = reads.reads;
  said = said ∙ ap (λ os. os ++ made) rule.outputs ∙ ap (λ os. (rule.first ++ rule.second) ++ os) reads.said;
  room = reads.room;
  visited = subst (λ os. AreVisited now os old new) rule.outputs visited;
  count = count;
}

-- of no subjects
pub steps_alone : {A : Type 0} (now : ℕ) (view : View) (input : Input) (outputs : List Output) (after : View) (none : List (Subject A))
    → length none ≡ 0 → RuleAt now view (record { input = input; outputs = outputs }) after → Steps now view input none after outputs none
steps_alone {A} now view input outputs after none size rule =
    subst (λ (ss : List (Subject A)). Steps now view input ss after outputs ss) (sym (nil_from_length none size))
    (steps now view input outputs after [] after [] outputs [] rule (no_reads [] after [] 0)
    (λ k d within. absurd (omega (arith, within))) refl (sym (append-nil outputs)))
