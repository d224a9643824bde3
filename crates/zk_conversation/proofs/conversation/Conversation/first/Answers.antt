-- A fault of the first payload is the answer (`before-talking`), and so is what it reads as, with the phase `Talking` (`first-answers`).
use Rattle.std.proofs.Common.{length, refl, ap, ◌∙◌}
use Rattle.std.proofs.lemmas.Result.{err_from_is_err_and}
use Rattle.zk_records.specs.Response.{response_at}
use Rattle.zk_conversation.specs.declared.phase.Phase.TheVariants.{Talking}
use Rattle.zk_conversation.specs.Pending.{Talk}
use Rattle.zk_conversation.proofs.Arrivals.{before-talking, first-answers}
use Rattle.zk_conversation.proofs.conversation.Conversation.first.Goals as goal

pub returns-in_err-arrival-clause-answers : goal.returns-in_err-arrival-clause-answers
returns-in_err-arrival-clause-answers g c =
    let p = err_from_is_err_and c.from_residual.result c.from_residual.ensures.1 in
    rw (p.1, p.2) (
      λ h. before-talking c.args.self.now.phase c.args.self.now.pending c.args.payload.now c.requires
          ∙ c.in_err-arrival.ensures.gives h,
      refl,
    )

pub returns-clause-answers : goal.returns-clause-answers
returns-clause-answers g c =
    let payload = c.args.payload.now in
    let is = before-talking c.args.self.now.phase c.args.self.now.pending payload c.requires in
    let here = first-answers c.args.self.now payload c.in_ok-arrival.arrival
    (response_at (length payload) payload) is c.in_ok-arrival.ensures.gives in
    (here.0, ap (λ (t : Talk). record { phase = Talking; pending = t.pending; xid = t.xid }) c.self.view_is ∙ here.1)
