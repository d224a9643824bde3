-- One exchange after those that brought nothing makes one with them (`exchanges_on`); what is unsent after it is a rest (`left_of`).
use Rattle.std.proofs.Common.{◌∙◌, [], ap, subst}
use Rattle.script_live.specs.Exchanged.{known_of, Exchanges}
use Rattle.script_live.specs.Flowing.{piece_in}
use Rattle.script_live.specs.Trails.{Trail}
use Rattle.zk_link.proofs.Streaming.{left_of}
use Rattle.script_live.proofs.Exchanging.{exchanges_on, ok_exchanges_on}
use Rattle.script_live.proofs.joint.Joint.read.Goals as goal

pub returns-in_default : goal.returns-in_default
returns-in_default g c =
    let know = known_of g.S.Read.remaining g.S.Write.contents in
    let old = c.args.self.now in
    let here = c.loop.self in
    let new = c.exchange.new.self in
    let whole = exchanges_on old.unsent.items here.unsent.items new.unsent.items (know old.stream) (know here.stream) (know new.stream)
    (piece_in c.in_ok-brought.brought)
    c.loop.invariant.whole c.in_ok-brought.ensures.whole in
    record {
      trail = c.exchange.ensures.trail ∙ c.loop.invariant.trail;
      unsent = left_of old.unsent.items new.unsent.items (know old.stream).took (know new.stream).took whole.sends;
      whole = whole;
      apart = λ shut. c.in_ok-brought.ensures.apart (ap (λ (t : Trail). t.is_open) c.loop.invariant.trail ∙ shut);
    }

pub loop-preserved : goal.loop-preserved
loop-preserved g c =
    let know = known_of g.S.Read.remaining g.S.Write.contents in
    let old = c.args.self.now in
    let here = c.loop.self in
    let new = c.exchange.new.self in
    let nothing = subst (λ b. Exchanges here.unsent.items new.unsent.items (know here.stream) (know new.stream) (piece_in b))
    c.in-Nothing.is c.in_ok-brought.ensures.whole in
    let whole = exchanges_on old.unsent.items here.unsent.items new.unsent.items (know old.stream) (know here.stream)
    (know new.stream) [] c.loop.invariant.whole nothing in
    record {
      trail = c.exchange.ensures.trail ∙ c.loop.invariant.trail;
      unsent = left_of old.unsent.items new.unsent.items (know old.stream).took (know new.stream).took whole.sends;
      whole = whole;
    }

pub returns-clause-whole : goal.returns-clause-whole
returns-clause-whole g c =
    let know = known_of g.S.Read.remaining g.S.Write.contents in
    let old = c.args.self.now in
    let here = c.loop.self in
    let new = c.exchange-2.new.self in
    ok_exchanges_on c.exchange-2.result piece_in old.unsent.items here.unsent.items new.unsent.items (know old.stream) (know here.stream)
    (know new.stream) c.loop.invariant.whole c.exchange-2.ensures.whole
