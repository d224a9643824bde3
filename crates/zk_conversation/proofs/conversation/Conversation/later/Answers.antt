-- By the xid of the header: `notice-answers`, `pong-answers`, `skip-answers`, else `reply-answers`; a header that doesn't read is answered
-- by `while-talking`. Memory runs out only where names come: `names-come`.
use Rattle.std.proofs.Common.{refl, ◌∙◌, arith}
use Rattle.std.proofs.lemmas.Int.{ints}
use Rattle.std.proofs.lemmas.Result.{err_from_is_err_and}
use Rattle.zk_jute.specs.Cursor.{bytes_left}
use Rattle.zk_conversation.proofs.Arrivals.{while-talking, IsFree, notice-answers, pong-answers, skip-answers, reply-answers, names-come}
use Rattle.zk_conversation.proofs.conversation.Conversation.later.Goals as goal

pub returns-in_err-header-clause-answers : goal.returns-in_err-header-clause-answers
returns-in_err-header-clause-answers g c =
    let p = err_from_is_err_and c.from_residual.result c.from_residual.ensures.1 in
    let talk = c.args.self.now in
    let bad = rw (c.new-at.ensures.len, c.new-at.ensures.left) at (c.in_err-header.ensures.1 talk.pending) in
    rw (p.1, p.2, c.in_err-header.ensures.0) (λ h. while-talking talk.phase talk.pending c.args.payload.now c.requires ∙ bad, refl)

pub returns-in-minus1-clause-answers : goal.returns-in-minus1-clause-answers
returns-in-minus1-clause-answers g c =
    let read = rw (c.new-at.ensures.len, c.new-at.ensures.left) at c.in_ok-header.ensures.0 in
    let gives = rw (c.in_ok-header.ensures.1 ∙ c.new-at.ensures.len) at c.read_notice.ensures.gives in
    notice-answers c.args.self.now c.args.payload.now c.in_ok-header.header
    (bytes_left c.read_header.new.at) c.read_notice.result c.requires read (omega (arith, ints)) gives

pub returns-in-minus2-clause-answers : goal.returns-in-minus2-clause-answers
returns-in-minus2-clause-answers g c =
    pong-answers c.args.self.now c.args.payload.now c.in_ok-header.header _ c.requires
    (rw (c.new-at.ensures.len, c.new-at.ensures.left) at c.in_ok-header.ensures.0) (omega (arith, ints))

pub returns-in-minus4-clause-answers : goal.returns-in-minus4-clause-answers
returns-in-minus4-clause-answers g c =
    skip-answers c.args.self.now c.args.payload.now c.in_ok-header.header _ c.requires
    (rw (c.new-at.ensures.len, c.new-at.ensures.left) at c.in_ok-header.ensures.0) (omega (arith, ints))

pub returns-in_default-clause-answers : goal.returns-in_default-clause-answers
returns-in_default-clause-answers g c =
    let read = rw (c.new-at.ensures.len, c.new-at.ensures.left) at c.in_ok-header.ensures.0 in
    let free : IsFree c.in_ok-header.header.xid =
    record { notice = λ e. omega (arith, ints); pong = λ e. omega (arith, ints); skipped = λ e. omega (arith, ints) } in
    let replies = rw (c.in_ok-header.ensures.1 ∙ c.new-at.ensures.len) at c.reply.ensures.replies in
    reply-answers c.args.self.now c.reply.new.self c.args.payload.now c.in_ok-header.header
    (bytes_left c.read_header.new.at) c.reply.result c.requires read free replies

pub returns-in_default-clause-memory : goal.returns-in_default-clause-memory
returns-in_default-clause-memory g c = λ h.
    let talk = c.args.self.now in
    let read = rw (c.new-at.ensures.len, c.new-at.ensures.left) at c.in_ok-header.ensures.0 in
    let free : IsFree c.in_ok-header.header.xid =
    record { notice = λ e. omega (arith, ints); pong = λ e. omega (arith, ints); skipped = λ e. omega (arith, ints) } in
    names-come talk.phase talk.pending c.args.payload.now c.in_ok-header.header (bytes_left c.read_header.new.at) c.requires free read
    (c.reply.ensures.memory h)
