-- The subject is not read: there is no room for its read, no server has accepted the connection, or it is not due.
use Rattle.std.proofs.Common.{◌≡◌, ◌+◌, ◌∙◌, ap, cond, false, refl, [], inl, inr, sym, subst}
use Rattle.zk_client.specs.Clients.{view_of}
use Rattle.zk_client.specs.Views.{said}
use Rattle.zk_conversation.specs.Views.{call_view}
use Rattle.zk_follow.specs.Following.{is_reading, IsCounted}
use Rattle.zk_follow.proofs.Asking.{not_due, nothing_more, rest_counted, asked_visits}
use Rattle.zk_follow.proofs.Breaking.{beside}
use Rattle.zk_follow.proofs.Counting.{count_due, no_fewer, one_more, rested_reading}
use Rattle.zk_follow.proofs.subject.Subject.visit.Goals as goal

pub returns-then-not-has_room-clause-followed : goal.returns-then-not-has_room-clause-followed
returns-then-not-has_room-clause-followed g c = inr (inr (inl (c.has_room.ensures.no c.if-not-has_room.true)))

pub returns-then-not-has_room-clause-visits : goal.returns-then-not-has_room-clause-visits
returns-then-not-has_room-clause-visits g c = ([], inl (refl, refl, inl refl), nothing_more (said c.args.made.now.items), inl (refl, refl))

pub returns-then-is_sure-clause-counted : goal.returns-then-is_sure-clause-counted
returns-then-is_sure-clause-counted g c =
    let view = view_of c.args.client.now in
    subst (IsCounted view) (sym c.rest.ensures) (rest_counted view c.args.self.now c.requires.counted)

pub returns-then-is_sure-clause-count : goal.returns-then-is_sure-clause-count
returns-then-is_sure-clause-count g c =
    let same : is_reading c.rest.new.self.progress ≡ is_reading c.args.self.now.progress =
    ap (λ s. is_reading s.progress) c.rest.ensures ∙ rested_reading c.args.self.now.progress in
    ap (λ b. c.args.reads + cond b 1 0) (sym same)

pub returns-then-is_sure-clause-visits : goal.returns-then-is_sure-clause-visits
returns-then-is_sure-clause-visits g c =
    ([], inl (refl, refl, inr c.rest.ensures), nothing_more (said c.args.made.now.items), inl (refl, refl))

pub returns-then-not-is_connected-clause-followed : goal.returns-then-not-is_connected-clause-followed
returns-then-not-is_connected-clause-followed g c = inr (inr (inr (inl (c.is_connected.ensures.no c.if-not-is_connected.true))))

pub returns-then-not-is_connected-clause-visits : goal.returns-then-not-is_connected-clause-visits
returns-then-not-is_connected-clause-visits g c =
    ([], inl (refl, refl, inl refl), nothing_more (said c.args.made.now.items), inl (refl, refl))

pub returns-then-not-is_unread-clause-followed : goal.returns-then-not-is_unread-clause-followed
returns-then-not-is_unread-clause-followed g c =
    not_due c.args.now (view_of c.args.client.now) c.args.reads c.args.self.now c.requires.ahead
    (c.is_unread.ensures.no c.if-not-is_unread.true) c.requires.goes_on c.requires.counted

pub returns-then-not-is_unread-clause-visits : goal.returns-then-not-is_unread-clause-visits
returns-then-not-is_unread-clause-visits g c =
    ([], inl (refl, refl, inl refl), nothing_more (said c.args.made.now.items), inl (refl, refl))

pub ask-requires-clause-connected : goal.ask-requires-clause-connected
ask-requires-clause-connected g c = c.is_connected.ensures.yes c.if-not-is_connected.false

pub ask-requires-clause-room : goal.ask-requires-clause-room
ask-requires-clause-room g c = c.has_room.ensures.yes c.if-not-has_room.false

pub returns-in_ok-ask-in-Ok-clause-visits : goal.returns-in_ok-ask-in-Ok-clause-visits
returns-in_ok-ask-in-Ok-clause-visits g c =
    let after = c.in_ok-ask-in-Ok.field-0 in
    asked_visits c.args.now (view_of c.args.client.now) (said c.args.made.now.items) c.args.reads c.args.self.now
    (view_of c.ask.new.client) (said c.ask.new.made.items) after c.ask.new.self (call_view c.in-Ok.call) c.in-Ok.ensures
    c.in_ok-ask-in-Ok.ensures.asked
    (one_more (is_reading c.ask.new.self.progress) c.args.reads after (c.has_room.ensures.yes c.if-not-has_room.false)
    c.in_ok-ask-in-Ok.ensures.count)

pub returns-in_ok-ask-in-Ok-clause-followed : goal.returns-in_ok-ask-in-Ok-clause-followed
returns-in_ok-ask-in-Ok-clause-followed g c = c.in_ok-ask-in-Ok.ensures.followed c.in_ok-ask-in-Ok.field-0

pub returns-in_ok-ask-in-Ok-clause-more : goal.returns-in_ok-ask-in-Ok-clause-more
returns-in_ok-ask-in-Ok-clause-more g c =
    no_fewer (is_reading c.ask.new.self.progress) c.args.reads c.in_ok-ask-in-Ok.field-0 c.in_ok-ask-in-Ok.ensures.count

pub returns-in_ok-ask-in-Ok-clause-count : goal.returns-in_ok-ask-in-Ok-clause-count
returns-in_ok-ask-in-Ok-clause-count g c =
    let due : is_reading c.args.self.now.progress ≡ false = ap is_reading (c.is_unread.ensures.yes c.if-not-is_unread.false) in
    count_due (is_reading c.args.self.now.progress) (is_reading c.ask.new.self.progress) c.args.reads c.in_ok-ask-in-Ok.field-0 due
    c.in_ok-ask-in-Ok.ensures.count

pub returns-in-Err-clause-broke : goal.returns-in-Err-clause-broke
returns-in-Err-clause-broke g c = beside (view_of c.args.client.now)
