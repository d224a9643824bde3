-- What `process_next` ensures holds after `settle` too, whether the connection goes on or has ended: `settled` and `settled_so`.
-- With the frame of the request taken away, the first one is processed, by `first_processed`; one that is answerable is answered, as
-- `process_next` does not end the connection then. A call that its caller has spelled never ends with `Ok` there.
use Rattle.std.proofs.Common.{◌≡◌, true, sym, ap, ◌∙◌, length}
use Rattle.theory_serving.proofs.Fronts.{front_there, front_field}
use Rattle.zk_bench.specs.Served.{Served, is_open, ended, left_with}
use Rattle.zk_bench.specs.Stepping.{IsReady, ProcessesFirst, shown_of, AnswersFirst}
use Rattle.zk_bench.proofs.Stepped.{settled, settled_so, ready_ended, ready_disconnected, ok_so, first_processed, processed_so, answered_so}
use Rattle.zk_bench.proofs.bench.Bench.process.Goals as goal

pub returns-clause-ready : goal.returns-clause-ready
returns-clause-ready g c = λ ready.
    let mid = c.process_next-outcome.new.self in
    let up : is_open c.args.self.now.connection.phase ≡ true =
    ap (λ (s : Served). is_open s.connection.phase) (sym c.self.view_is) ∙ sym c.is_open.ensures ∙ c.if-not-is_open.false in
    let now = c.process_next-outcome.ensures.ready up ready in
    settled IsReady c.process_next-outcome.result mid c.settle.new.self c.settle.ensures.ok c.settle.ensures.ended c.settle.ensures.lost now
    (ready_ended mid now) (ready_disconnected mid now)

pub returns-clause-serves : goal.returns-clause-serves
returns-clause-serves g c = λ request xid payload rest ready up stands now.
    let old = c.args.self.now in
    let mid = c.process_next-outcome.new.self in
    let done = c.process_next-outcome.ensures in
    let gone =
    done.processed (length payload) (record {
      there = front_there payload rest old.connection.requests stands.whole;
      is = front_field payload rest old.connection.requests stands.whole stands.small;
      small = stands.small;
    }) in
    settled_so (λ (new : Served). ProcessesFirst request xid payload (shown_of old) (shown_of new)) c.process_next-outcome.result
    c.settle.result mid c.settle.new.self c.settle.ensures.ok c.settle.ensures.ended c.settle.ensures.gives_up
    (ok_so c.process_next-outcome.result _ _ (done.serves request xid payload rest ready up stands now) (λ a.
    first_processed old mid request xid payload rest stands.whole gone (processed_so request xid (shown_of old) (shown_of mid) a)))
    (λ over. first_processed old (ended mid) request xid payload rest stands.whole gone
    (done.breaks request xid payload rest ready up stands now over))

pub returns-clause-answers : goal.returns-clause-answers
returns-clause-answers g c = λ request xid payload rest ready up stands now answerable.
    let old = c.args.self.now in
    let done = c.process_next-outcome.ensures in
    settled_so (λ (new : Served). AnswersFirst request xid (shown_of old) (shown_of new)) c.process_next-outcome.result c.settle.result
    c.process_next-outcome.new.self c.settle.new.self c.settle.ensures.ok c.settle.ensures.ended c.settle.ensures.gives_up
    (ok_so c.process_next-outcome.result _ _ (done.serves request xid payload rest ready up stands now)
    (answered_so request xid (shown_of old) (shown_of c.process_next-outcome.new.self)))
    (λ over. absurd (done.stays request xid payload rest ready up stands now answerable over))

pub returns-clause-ends_first : goal.returns-clause-ends_first
returns-clause-ends_first g c = λ operation given xid payload rest accepted stands.
    let old = c.args.self.now in
    let mid = c.process_next-outcome.new.self in
    let gone = c.process_next-outcome.ensures.unknown operation given xid payload rest accepted stands in
    settled_so (λ (new : Served). new ≡ ended (left_with old rest)) c.process_next-outcome.result c.settle.result mid c.settle.new.self
    c.settle.ensures.ok c.settle.ensures.ended c.settle.ensures.gives_up
    (ok_so c.process_next-outcome.result ⊥ (mid ≡ ended (left_with old rest)) gone.1 (λ never. absurd never)) (λ over. ap ended gone.0)
