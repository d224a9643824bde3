-- By the piece: one that comes is handed on (`piece`, `prints_piece`), else the connection ends (`one`, `prints_quiet`). Halts come by
-- `halts_piece` and `halts_cut`.
use Rattle.std.proofs.Common.{rules, ℕ, Option, Vec, subst}
use Rattle.std.specs.Prelude.{string_bytes}
use Rattle.zk_turns.specs.Turns.{Cut}
use Rattle.zk_client.specs.Clients.{view_of}
use Rattle.script_live.specs.Flowing.{flow_of, holding, Carries, Reads}
use Rattle.script_live.specs.inner.Flowing.{piece_bytes}
use Rattle.script_live.specs.Heard.{tape}
use Rattle.script_live.proofs.HeardLemmas.{halts_cut, halts_piece, one, piece}
use Rattle.script_live.proofs.Printing.{prints_piece, prints_quiet}
use Rattle.script_live.proofs.link.Link.bring.Goals as goal

pub returns-in_ok-outputs-in-Some-clause-ok : goal.returns-in_ok-outputs-in-Some-clause-ok
returns-in_ok-outputs-in-Some-clause-ok g c =
    let new = c.step.new in
    rw (← c.next_piece.ensures.view)
    (piece (tape (view_of c.next_piece.new.self.joint.client) (string_bytes c.args.text.now))
    (tape (view_of new.self.joint.client) (string_bytes new.text))
    c.in-Some.bytes.items c.in_ok-outputs-in-Some.ensures.ok)

pub returns-in_ok-cut-in-None-clause-ok : goal.returns-in_ok-cut-in-None-clause-ok
returns-in_ok-cut-in-None-clause-ok g c =
    let new = c.cut.new in
    rw (← c.next_piece.ensures.view)
    (one (tape (view_of c.next_piece.new.self.joint.client) (string_bytes c.args.text.now))
    (tape (view_of new.self.joint.client) (string_bytes new.text))
    Cut tt c.in_ok-cut-in-None.ensures.ok)

pub returns-in_err-outputs-in-Some-clause-halt : goal.returns-in_err-outputs-in-Some-clause-halt
returns-in_err-outputs-in-Some-clause-halt g c =
    let new = c.step.new in
    let halted = halts_piece (tape (view_of c.next_piece.new.self.joint.client) (string_bytes c.args.text.now))
    (tape (view_of new.self.joint.client) (string_bytes new.text))
    c.in-Some.bytes.items c.in_err-outputs-in-Some.field-0.0 c.in_err-outputs-in-Some.ensures.halt in
    search rules

pub returns-in_err-cut-in-None-clause-halt : goal.returns-in_err-cut-in-None-clause-halt
returns-in_err-cut-in-None-clause-halt g c =
    let new = c.cut.new in
    let halted = halts_cut (tape (view_of c.next_piece.new.self.joint.client) (string_bytes c.args.text.now))
    (tape (view_of new.self.joint.client) (string_bytes new.text))
    c.in_err-cut-in-None.field-0.0 c.in_err-cut-in-None.ensures.halt in
    search rules

pub returns-in_ok-outputs-in-Some-clause-flows : goal.returns-in_ok-outputs-in-Some-clause-flows
returns-in_ok-outputs-in-Some-clause-flows g c =
    let know = flow_of g.S.Read.remaining g.S.Write.contents in
    let read = subst (λ (p : Option (Vec ℕ g.row.A.Denot)). Carries (know c.args.self.now.joint) Reads
    (holding (piece_bytes p) (know c.next_piece.new.self.joint))) c.in-Some.is c.in_ok-bytes.ensures.flows in
    prints_piece c.in-Some.bytes.items (know c.args.self.now.joint) (know c.next_piece.new.self.joint) (know c.step.new.self.joint)
    (string_bytes c.args.text.now) (string_bytes c.step.new.text)
    read c.in_ok-outputs-in-Some.ensures.flows

pub returns-in_ok-cut-in-None-clause-flows : goal.returns-in_ok-cut-in-None-clause-flows
returns-in_ok-cut-in-None-clause-flows g c =
    let know = flow_of g.S.Read.remaining g.S.Write.contents in
    let read = subst (λ (p : Option (Vec ℕ g.row.A.Denot)). Carries (know c.args.self.now.joint) Reads
    (holding (piece_bytes p) (know c.next_piece.new.self.joint))) c.in-None.is c.in_ok-bytes.ensures.flows in
    prints_quiet (know c.args.self.now.joint) (know c.next_piece.new.self.joint) (know c.cut.new.self.joint) (string_bytes c.args.text.now)
    (string_bytes c.cut.new.text)
    read c.in_ok-cut-in-None.ensures.flows
