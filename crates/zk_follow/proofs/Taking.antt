-- Whom an output says something of is found by the index; and who hears all of them, one after the other, takes what was said.
use Rattle.std.proofs.Common.{◌≡◌, ◌≤◌, ◌<◌, ◌+◌, ◌∙◌, ◌++◌, ◌∷◌, ℕ, suc, Bool, true, false, cond, List, [], length, get_or, map, take}
use Rattle.std.proofs.Common.{refl, sym, ap, arith}
use Rattle.std.specs.Prelude.{nat_lt}
use Rattle.std.proofs.lemmas.List.{get_or-map, get_or_past, length-map, map-append, take_more}
use Rattle.std.proofs.lemmas.Bool.Decides.{nat_tests}
use Rattle.zk_turns.specs.Turns.{Output, Answer, Enters, Report}
use Rattle.zk_client.specs.declared.output.Output.{Output as Made}
use Rattle.zk_client.specs.Views.{output_view, said}
use Rattle.zk_follow.specs.declared.index.Index.{Index}
use Rattle.zk_follow.specs.declared.subject.Subject.{Subject}
use Rattle.zk_follow.specs.Following.{answered, heard, heard_all, is_among, taken, woken}
use Rattle.zk_follow.specs.Places.{AreFound}
use Rattle.zk_follow.specs.inner.Places.{is_heard_by, AreSameBut, HasEach}
use Rattle.zk_follow.specs.inner.Resting.{AreUnmoved}
use Rattle.zk_follow.proofs.Finding.{found_still, unless}
use Rattle.zk_follow.proofs.Hearing.{all_heard, all_same_path, all_same_ticket}
use Rattle.zk_follow.proofs.Placing.{among_none}

-- ---- one output

unheard : {A : Type 0} (now : ℕ) (subject : Subject A) (output : Output)
    → is_heard_by subject.ticket subject.path output ≡ false → heard now subject output ≡ subject
unheard now subject (Answer ticket outcome) e = ap (λ b. cond b (answered now outcome subject) subject) e
unheard now subject (Report at side event) e = ap (λ b. cond b (record subject { is_there = false }) subject) e
unheard now subject (Enters state) e = absurd cc
unheard now subject _ e = refl

-- who is none of those that were found is as it was
pub unfound : {A : Type 0} (now count : ℕ) (subjects : List (Subject A)) (output : Output) (places : List ℕ)
    → count ≡ length subjects → HasEach (λ s. is_heard_by s.ticket s.path output) count subjects places
    → (k : ℕ) (d : Subject A) → k < length subjects → is_among k places ≡ false
    → heard now (get_or subjects k d) output ≡ get_or subjects k d
unfound {A} now count subjects output places size hear k d within none =
    let s : Subject A = get_or subjects k d in
    let fits : k < count = omega (arith, within, size) in
    unheard now s output (unless (is_heard_by s.ticket s.path output) (is_among k places) (hear k d fits) none)

-- they are found still
pub found_heard : {A : Type 0} (now : ℕ) (index : Index A) (old new : List (Subject A)) (output : Output)
    → new ≡ map (λ subject. heard now subject output) old → AreFound index old → AreFound index new
found_heard {A} now index old new output is found =
    found_still index old new (ap length is ∙ length-map old (λ (s : Subject A). heard now s output))
    (λ k d within.
    let s : Subject A = get_or old k d in
    let here : get_or new k d ≡ heard now s output =
    ap (λ all. get_or all k d) is ∙ get_or-map (λ (s : Subject A). heard now s output) old k d d within in (
      ap (λ (t : Subject A). t.ticket) here ∙ all_same_ticket now (output ∷ []) s,
      ap (λ (t : Subject A). t.path) here ∙ all_same_path now (output ∷ []) s,
    ))
    found

-- ---- one output more

-- before the first
pub all_unheard : {A : Type 0} (now : ℕ) (all : List (Subject A)) → all ≡ map (λ subject. heard_all now subject []) all
all_unheard now [] = refl
all_unheard now (s ∷ all) = ap (λ rest. s ∷ rest) (all_unheard now all)

pub heard_more : {A : Type 0} (now : ℕ) (first subjects new : List (Subject A)) (outputs : List (Made A)) (index : ℕ) (item : Made A)
    → index < length outputs → item ≡ get_or outputs index item
    → subjects ≡ map (λ subject. heard_all now subject (said (take index outputs))) first
    → new ≡ map (λ subject. heard now subject (output_view item)) subjects
    → new ≡ map (λ subject. heard_all now subject (said (take (index + 1) outputs))) first
heard_more {A} now first subjects new outputs index item within is before one =
    one ∙ ap (map (λ (s : Subject A). heard now s (output_view item))) before ∙ both first
  where
    more : said (take (index + 1) outputs) ≡ said (take index outputs) ++ output_view item ∷ []
    more =
        ap said (take_more outputs index item within)
        ∙ map-append output_view (take index outputs) (get_or outputs index item ∷ [])
        ∙ ap (λ (o : Made A). said (take index outputs) ++ output_view o ∷ []) (sym is)

    each : (s : Subject A) → heard now (heard_all now s (said (take index outputs))) (output_view item)
        ≡ heard_all now s (said (take (index + 1) outputs))
    each s = sym (all_heard now (said (take index outputs)) (output_view item ∷ []) s) ∙ ap (heard_all now s) (sym more)

    both : (all : List (Subject A))
        → map (λ s. heard now s (output_view item)) (map (λ s. heard_all now s (said (take index outputs))) all)
        ≡ map (λ s. heard_all now s (said (take (index + 1) outputs))) all
    both [] = refl
    both (s ∷ all) =
        ap (λ t. t ∷ map (λ s. heard now s (output_view item)) (map (λ s. heard_all now s (said (take index outputs))) all)) (each s)
        ∙ ap (λ rest. heard_all now s (said (take (index + 1) outputs)) ∷ rest) (both all)

-- ---- all of them

-- who is unmoved has taken all as it is
all_taken : {A : Type 0} (now : ℕ) (outputs : List Output) (subjects : List (Subject A))
    → ((k : ℕ) (d : Subject A) → k < length subjects → taken now outputs (get_or subjects k d) ≡ get_or subjects k d)
    → subjects ≡ map (taken now outputs) subjects
all_taken now outputs [] still = refl
all_taken now outputs (s ∷ all) still =
    ap (λ t. t ∷ all) (sym (still 0 s (omega arith)))
    ∙ ap (λ rest. taken now outputs s ∷ rest)
    (all_taken now outputs all (λ k d within. still (suc k) d (omega (arith, within))))

-- none is at any of no places
pub none_taken : {A : Type 0} (now : ℕ) (outputs : List Output) (subjects : List (Subject A)) (places : List ℕ) → length places ≡ 0
    → AreUnmoved now outputs subjects places → subjects ≡ map (taken now outputs) subjects
none_taken now outputs subjects places none rest = all_taken now outputs subjects
    (λ k d within. let its = rest k d within (among_none k places none) in ap (woken now) its.0 ∙ its.1)

pub taken_by : {A : Type 0} (now : ℕ) (outputs : List Output) (old between new : List (Subject A))
    → between ≡ map (λ subject. heard_all now subject outputs) old → new ≡ map (woken now) between → new ≡ map (taken now outputs) old
taken_by {A} now outputs old between new heard wakes = wakes ∙ ap (map (woken now)) heard ∙ both old
  where
    both : (all : List (Subject A)) → map (woken now) (map (λ s. heard_all now s outputs) all) ≡ map (taken now outputs) all
    both [] = refl
    both (s ∷ all) = ap (λ rest. taken now outputs s ∷ rest) (both all)

pub unwoken : {A : Type 0} (now : ℕ) (outputs : List Output) (old between : List (Subject A)) (places : List ℕ)
    → between ≡ map (λ subject. heard_all now subject outputs) old → AreUnmoved now outputs old places
    → (k : ℕ) (d : Subject A) → k < length between → is_among k places ≡ false → woken now (get_or between k d) ≡ get_or between k d
unwoken {A} now outputs old between places heard rest k d within none =
    let size : length between ≡ length old = ap length heard ∙ length-map old (λ (s : Subject A). heard_all now s outputs) in
    let inside : k < length old = omega (arith, within, size) in
    let its = rest k d inside none in
    let is : get_or between k d ≡ get_or old k d =
    ap (λ all. get_or all k d) heard ∙ get_or-map (λ (s : Subject A). heard_all now s outputs) old k d d inside ∙ its.0 in
    ap (woken now) is ∙ its.1 ∙ sym is

same_but : {X : Type 0} (f : X → X) (old new : List X) (places : List ℕ) → new ≡ map f old
    → ((k : ℕ) (d : X) → k < length old → is_among k places ≡ false → f (get_or old k d) ≡ get_or old k d)
    → AreSameBut places old new
same_but f old new places is still k d none = ap (λ all. get_or all k d) is ∙ by (nat_lt k (length old)) refl
  where
    by : (b : Bool) → nat_lt k (length old) ≡ b → get_or (map f old) k d ≡ get_or old k d
    by true e =
        let within : k < length old = grind (arith, nat_tests) in
        get_or-map f old k d d within ∙ still k d within none
    by false e =
        let past : length old ≤ k = grind (arith, nat_tests) in
        let size = length-map old f in
        get_or_past (map f old) k d (omega (arith, past, size)) ∙ sym (get_or_past old k d past)

pub taken_but : {A : Type 0} (now : ℕ) (outputs : List Output) (old new : List (Subject A)) (places : List ℕ)
    → new ≡ map (taken now outputs) old → AreUnmoved now outputs old places → AreSameBut places old new
taken_but now outputs old new places is rest = same_but (taken now outputs) old new places is
    (λ k d within none. let its = rest k d within none in ap (woken now) its.0 ∙ its.1)
