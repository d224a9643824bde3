-- What is own is own of other subjects that are like these, and after a step.
use Rattle.std.proofs.Common.{◌≡◌, ◌≤◌, ◌<◌, ◌∙◌, ◌++◌, ◌∷◌, ◌&&◌, ℕ, suc, Bool, true, false, cond, not, List, [], map}
use Rattle.std.proofs.Common.{inl, inr, refl, sym, ap, subst, arith, length, get_or}
use Rattle.std.specs.Prelude.{◌==◌, ◌||◌, filter, is_some}
use Rattle.std.proofs.lemmas.List.{get_or-map, get_or_append_left, length-append, length-map}
use Rattle.std.proofs.lemmas.List.Folds.{list_any_at, Any-from_list_any}
use Rattle.zk_conversation.specs.Pending.{Pending, Waiting, Part_waits, Call_waits, calls_pending, is_call}
use Rattle.zk_conversation.specs.Questions.{Question, watched_side}
use Rattle.zk_turns.specs.Turns.{Input, Output}
use Rattle.zk_turns.specs.View.{View}
use Rattle.zk_follow.specs.declared.progress.Progress.{Progress}
use Rattle.zk_follow.specs.declared.subject.Subject.{Subject}
use Rattle.zk_follow.specs.Following.{doubted, reads, taken, told_of, IsVisited, Steps, Visits}
use Rattle.zk_follow.specs.Owning.{is_own, is_read_in, AreOwn}
use Rattle.zk_follow.specs.inner.Owning.{asks_to_watch}
use Rattle.zk_follow.proofs.Finding.{visit_keeps}
use Rattle.zk_follow.proofs.Hearing.{all_same_path, all_same_side, all_same_ticket}
use Rattle.zk_follow.proofs.Owning.{own_input, own_reads, own_turn}

-- ---- other subjects

-- where each read is one of those too
pub own_by : {A : Type 0} (old new : List (Subject A))
    → ((ticket : ℕ) (question : Question) → is_read_in old ticket question ≡ true → is_read_in new ticket question ≡ true)
    → (pending : List Pending) → AreOwn old pending → AreOwn new pending
own_by old new more [] own = tt
own_by {A} old new more (one ∷ rest) own = (by one.waiting own.0, own_by old new more rest own.1)
  where
    at : (b : Bool) (ticket : ℕ) (question : Question) → (b || is_read_in old ticket question) ≡ true
        → (b || is_read_in new ticket question) ≡ true
    at true ticket question e = refl
    at false ticket question e = more ticket question e

    by : (waiting : Waiting) → is_own old waiting ≡ true → is_own new waiting ≡ true
    by (Part_waits last) e = refl
    by (Call_waits ticket question) e = at (not (is_some (watched_side question))) ticket question e

-- of this ticket, this side and this path
abbrev pub IsLike : {A : Type 0} → (subject other : Subject A) → Type 0
IsLike subject other = (subject.ticket ≡ other.ticket) × (subject.side ≡ other.side) × (subject.path ≡ other.path)

pub own_still : {A : Type 0} (old new : List (Subject A)) → length old ≤ length new
    → ((k : ℕ) (d : Subject A) → k < length old → IsLike (get_or new k d) (get_or old k d))
    → (pending : List Pending) → AreOwn old pending → AreOwn new pending
own_still {A} old new size same = own_by old new at
  where
    at : (ticket : ℕ) (question : Question) → is_read_in old ticket question ≡ true → is_read_in new ticket question ≡ true
    at ticket question e =
        let test = λ (s : Subject A). ticket == s.ticket && reads s.side s.path question in
        let any = Any-from_list_any test old e in
        let like = same any.0 any.1 any.2 in
        let s : Subject A = get_or new any.0 any.1 in
        list_any_at test new any.0 any.1 (omega (arith, any.2, size))
        (ap (λ n. ticket == n && reads s.side s.path question) (like.0 ∙ ap (λ (t : Subject A). t.ticket) any.3)
        ∙ ap (λ side. ticket == any.1.ticket && reads side s.path question) (like.1 ∙ ap (λ (t : Subject A). t.side) any.3)
        ∙ ap (λ text. ticket == any.1.ticket && reads any.1.side text question) (like.2 ∙ ap (λ (t : Subject A). t.path) any.3)
        ∙ any.4)

-- one more comes last
pub own_more : {A : Type 0} (subjects : List (Subject A)) (last : Subject A) (pending : List Pending)
    → AreOwn subjects pending → AreOwn (subjects ++ last ∷ []) pending
own_more {A} subjects last =
    let size = length-append subjects (last ∷ []) in
    own_still subjects (subjects ++ last ∷ []) (omega (arith, size))
    (λ k d within.
    let is = get_or_append_left subjects (last ∷ []) d k within in
    (ap (λ (s : Subject A). s.ticket) is, ap (λ (s : Subject A). s.side) is, ap (λ (s : Subject A). s.path) is))

-- it comes there where there is room
pub own_pushed : {A : Type 0} (pushed : Bool) (old new : List (Subject A)) (last : Subject A) (pending : List Pending)
    → new ≡ cond pushed (old ++ last ∷ []) old → AreOwn old pending → AreOwn new pending
own_pushed true old new last pending is own = subst (λ all. AreOwn all pending) (sym is) (own_more old last pending own)
own_pushed false old new last pending is own = subst (λ all. AreOwn all pending) (sym is) own

-- each was told of
pub own_told : {A : Type 0} (view : View) (subjects : List (Subject A)) (pending : List Pending)
    → AreOwn subjects pending → AreOwn (map (told_of view) subjects) pending
own_told {A} view subjects =
    let size = length-map subjects (told_of view) in
    own_still subjects (map (told_of view) subjects) (omega (arith, size))
    (λ k d within.
    let is = get_or-map (told_of view) subjects k d d within in
    (ap (λ (s : Subject A). s.ticket) is, ap (λ (s : Subject A). s.side) is, ap (λ (s : Subject A). s.path) is))

-- each is doubted
pub own_doubted : {A : Type 0} (subjects : List (Subject A)) (pending : List Pending)
    → AreOwn subjects pending → AreOwn (map doubted subjects) pending
own_doubted {A} subjects =
    let size = length-map subjects doubted in
    own_still subjects (map doubted subjects) (omega (arith, size))
    (λ k d within.
    let is = get_or-map doubted subjects k d d within in
    (ap (λ (s : Subject A). s.ticket) is, ap (λ (s : Subject A). s.side) is, ap (λ (s : Subject A). s.path) is))

-- where nothing waits
pub nothing_own : {A : Type 0} (subjects : List (Subject A)) (pending : List Pending) → pending ≡ [] → AreOwn subjects pending
nothing_own subjects pending e = subst (AreOwn subjects) (sym e) tt

-- where no call waits
pub none_own : {A : Type 0} (subjects : List (Subject A)) (pending : List Pending) → calls_pending pending ≡ 0 → AreOwn subjects pending
none_own subjects [] e = tt
none_own {A} subjects (one ∷ more) e = by one.waiting refl (none_own subjects more)
  where
    is_one : (waiting : Waiting) → one.waiting ≡ waiting → is_call one ≡ is_call (record { xid = one.xid; waiting = waiting })
    is_one waiting is = ap (λ w. is_call (record { xid = one.xid; waiting = w })) is

    counted : (b : Bool) → is_call one ≡ b → length (cond b (one ∷ filter is_call more) (filter is_call more)) ≡ 0
    counted b is = sym (ap (λ c. length (cond c (one ∷ filter is_call more) (filter is_call more))) is) ∙ e

    by : (waiting : Waiting) → one.waiting ≡ waiting → (calls_pending more ≡ 0 → AreOwn subjects more) → AreOwn subjects (one ∷ more)
    by (Part_waits last) is rest = (ap (is_own subjects) is, rest (counted false (is_one (Part_waits last) is)))
    by (Call_waits ticket question) is rest =
        absurd (
        let some : suc (length (filter is_call more)) ≡ 0 = counted true (is_one (Call_waits ticket question) is) in omega (arith, some)
        )

-- ---- a step

pub same_side : {A : Type 0} (now : ℕ) (subject new : Subject A) → IsVisited now subject new → new.side ≡ subject.side
same_side {A} now subject new visited = by visited.3
  where
    by : Visits now visited.0 subject visited.1 visited.2 new → new.side ≡ subject.side
    by (inl kept) = elim kept.2 [
      | inl same ↦ ap (λ (s : Subject A). s.side) same
      | inr rests ↦ ap (λ (s : Subject A). s.side) rests
    ]
    by (inr asked) =
        ap (λ (s : Subject A). s.side) asked.4 ∙ all_same_side now asked.0.outputs (record subject { progress = Progress.Reading })

pub own_step : {A : Type 0} (now : ℕ) (view : View) (input : Input) (old : List (Subject A)) (after : View) (given : List Output)
    (new : List (Subject A)) → Steps now view input old after given new → length new ≡ length old → asks_to_watch input ≡ false
    → AreOwn old view.pending → AreOwn new after.pending
own_step {A} now view input old after given new steps size unasked own =
    own_still old new (omega (arith, size)) like after.pending
    (own_reads old steps.calls steps.chain.2.0 after steps.reads steps.chain.2.2
    (own_turn old steps.chain.0 _ steps.chain.2.0 steps.chain.2.1 (own_input old input unasked)
    (own_turn old view _ steps.chain.0 steps.chain.1 tt own)))
  where
    like : (k : ℕ) (d : Subject A) → k < length old → IsLike (get_or new k d) (get_or old k d)
    like k d within =
        let said = steps.first ++ steps.second in
        let s : Subject A = get_or old k d in
        let visited = steps.visited k d within in
        let kept = visit_keeps now (taken now said s) (get_or new k d) visited in (
          kept.0 ∙ all_same_ticket now said s,
          same_side now (taken now said s) (get_or new k d) visited ∙ all_same_side now said s,
          kept.1 ∙ all_same_path now said s,
        )
