-- The next piece is what a read of the joint brings, with the same view: `ok_read`, from what `read` and `piece_of` ensure.
use Rattle.std.proofs.Common.{ap, refl}
use Rattle.script_live.specs.Flowing.{flow_of}
use Rattle.script_live.specs.Trails.{Trail}
use Rattle.script_live.proofs.Flowed.{ok_read}
use Rattle.script_live.proofs.link.Link.next_piece.Goals as goal

pub returns-clause-view : goal.returns-clause-view
returns-clause-view g c = ap (λ (t : Trail). t.view) c.read-brought.ensures.trail

pub returns-clause-flows : goal.returns-clause-flows
returns-clause-flows g c =
    let know = flow_of g.S.Read.remaining g.S.Write.contents in
    ok_read c.piece_of.result c.read-brought.result (know c.args.self.now.joint) (know c.read-brought.new.self) refl
    (ap (λ (t : Trail). t.view) c.read-brought.ensures.trail)
    (ap (λ (t : Trail). t.is_open) c.read-brought.ensures.trail) c.piece_of.ensures c.read-brought.ensures.whole
    c.read-brought.ensures.apart
