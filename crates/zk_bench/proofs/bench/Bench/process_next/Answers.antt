-- By what is at the front of the bytes: where a request stands first, that is no part of a frame and no negative length (`not_short`,
-- `not_negative`). A whole frame has its payload, by `whole_payload`, so what `process_frame` ensures holds of the request.
use Rattle.std.proofs.Common.{ap, ◌∙◌, subst, ◌+◌, ℕ, List, drop}
use Rattle.zk_frames.specs.Frame.{IsNegative}
use Rattle.zk_conversation.specs.Calls.{Raw}
use Rattle.zk_laws.specs.Messages.{Ask}
use Rattle.zk_laws.specs.Parsed.{IsReadAs}
use Rattle.theory_serving.specs.Wires.{IsFit}
use Rattle.theory_serving.proofs.Fronts.{front_behind}
use Rattle.zk_bench.specs.Front.{IsShort, IsWhole}
use Rattle.zk_bench.specs.Served.{Served, left_with}
use Rattle.zk_bench.proofs.Stepped.{not_short, whole_count, whole_payload}
use Rattle.zk_bench.proofs.ProcessedFirst.{not_negative}
use Rattle.zk_bench.proofs.bench.Bench.process_next.Goals as goal

pub returns-in-Unfinished-clause-serves : goal.returns-in-Unfinished-clause-serves
returns-in-Unfinished-clause-serves g c = λ asked xid payload rest ready up stands now.
    absurd (not_short payload rest c.args.self.now.connection.requests stands.whole stands.small
    (subst IsShort (c.as_slice.ensures.value ∙ ap (λ (s : Served). s.connection.requests) c.self.view_is) c.in-Unfinished.ensures.front))

pub returns-in-Negative-clause-breaks : goal.returns-in-Negative-clause-breaks
returns-in-Negative-clause-breaks g c = λ asked xid payload rest ready up stands now over.
    absurd (not_negative payload rest c.args.self.now.connection.requests stands.whole stands.small
    (subst IsNegative (c.as_slice.ensures.value ∙ ap (λ (s : Served). s.connection.requests) c.self.view_is) c.in-Negative.ensures.front))

pub returns-in-Whole-clause-serves : goal.returns-in-Whole-clause-serves
returns-in-Whole-clause-serves g c = λ asked xid payload rest ready up stands now.
    let whole : IsWhole c.args.self.now.connection.requests c.in-Whole.length =
    subst (λ bytes. IsWhole bytes c.in-Whole.length)
    (c.as_slice.ensures.value ∙ ap (λ (s : Served). s.connection.requests) c.self.view_is) c.in-Whole.ensures.front in
    let same = whole_payload payload rest c.args.self.now.connection.requests c.in-Whole.length stands.whole stands.small whole in
    c.process_frame.ensures.serves asked xid ready up now (subst (λ (p : List ℕ). IsReadAs asked xid p) same stands.read)
    (subst (λ (p : List ℕ). IsFit asked p) same stands.fit)

pub returns-in-Whole-clause-breaks : goal.returns-in-Whole-clause-breaks
returns-in-Whole-clause-breaks g c = λ asked xid payload rest ready up stands now over.
    let whole : IsWhole c.args.self.now.connection.requests c.in-Whole.length =
    subst (λ bytes. IsWhole bytes c.in-Whole.length)
    (c.as_slice.ensures.value ∙ ap (λ (s : Served). s.connection.requests) c.self.view_is) c.in-Whole.ensures.front in
    let same = whole_payload payload rest c.args.self.now.connection.requests c.in-Whole.length stands.whole stands.small whole in
    c.process_frame.ensures.ends asked xid ready up now (subst (λ (p : List ℕ). IsReadAs asked xid p) same stands.read)
    (subst (λ (p : List ℕ). IsFit asked p) same stands.fit) over

pub returns-in-Negative-clause-stays : goal.returns-in-Negative-clause-stays
returns-in-Negative-clause-stays g c = λ asked xid payload rest ready up stands now answerable over.
    not_negative payload rest c.args.self.now.connection.requests stands.whole stands.small
    (subst IsNegative (c.as_slice.ensures.value ∙ ap (λ (s : Served). s.connection.requests) c.self.view_is) c.in-Negative.ensures.front)

pub returns-in-Whole-clause-stays : goal.returns-in-Whole-clause-stays
returns-in-Whole-clause-stays g c = λ asked xid payload rest ready up stands now answerable.
    let whole : IsWhole c.args.self.now.connection.requests c.in-Whole.length =
    subst (λ bytes. IsWhole bytes c.in-Whole.length)
    (c.as_slice.ensures.value ∙ ap (λ (s : Served). s.connection.requests) c.self.view_is) c.in-Whole.ensures.front in
    let same = whole_payload payload rest c.args.self.now.connection.requests c.in-Whole.length stands.whole stands.small whole in
    c.process_frame.ensures.stays asked xid ready up now (subst (λ (p : List ℕ). IsReadAs asked xid p) same stands.read)
    (subst (λ (p : List ℕ). IsFit asked p) same stands.fit) answerable

pub returns-in-Unfinished-clause-unknown : goal.returns-in-Unfinished-clause-unknown
returns-in-Unfinished-clause-unknown g c = λ operation given xid payload rest accepted stands.
    absurd (not_short payload rest c.args.self.now.connection.requests stands.whole stands.small
    (subst IsShort (c.as_slice.ensures.value ∙ ap (λ (s : Served). s.connection.requests) c.self.view_is) c.in-Unfinished.ensures.front))

pub returns-in-Negative-clause-unknown : goal.returns-in-Negative-clause-unknown
returns-in-Negative-clause-unknown g c = λ operation given xid payload rest accepted stands.
    absurd (not_negative payload rest c.args.self.now.connection.requests stands.whole stands.small
    (subst IsNegative (c.as_slice.ensures.value ∙ ap (λ (s : Served). s.connection.requests) c.self.view_is) c.in-Negative.ensures.front))

pub returns-in-Whole-clause-unknown : goal.returns-in-Whole-clause-unknown
returns-in-Whole-clause-unknown g c = λ operation given xid payload rest accepted stands.
    let old = c.args.self.now in
    let whole : IsWhole old.connection.requests c.in-Whole.length =
    subst (λ bytes. IsWhole bytes c.in-Whole.length)
    (c.as_slice.ensures.value ∙ ap (λ (s : Served). s.connection.requests) c.self.view_is) c.in-Whole.ensures.front in
    let same = whole_payload payload rest old.connection.requests c.in-Whole.length stands.whole stands.small whole in
    let count = whole_count payload rest old.connection.requests c.in-Whole.length stands.whole stands.small whole in
    let done = c.process_frame.ensures.unknown operation given xid accepted
    (subst (λ (p : List ℕ). IsReadAs (Ask (Raw operation given)) xid p) same stands.read) in (
      done.0 ∙ ap (λ (n : ℕ). left_with old (drop (4 + n) old.connection.requests)) count
          ∙ ap (left_with old) (front_behind payload rest old.connection.requests stands.whole),
      done.1,
    )
