-- What came of the call, and what the subject heard of it.
use Rattle.std.proofs.lemmas.List.{map-append}
use Rattle.std.proofs.Common.{◌≡◌, refl, ap, sym, subst, ◌∙◌}
use Rattle.zk_conversation.specs.Views.{call_view}
use Rattle.zk_client.specs.Clients.{view_of}
use Rattle.zk_client.specs.Views.{output_view, said}
use Rattle.zk_follow.specs.declared.progress.Progress.TheVariants.{Reading}
use Rattle.zk_follow.specs.Following.{heard_all, IsCounted, IsFollowed}
use Rattle.zk_follow.proofs.Asking.{read_asked}
use Rattle.zk_follow.proofs.Breaking.{after_turn, within}
use Rattle.zk_follow.proofs.subject.Subject.ask.Goals as goal

pub returns-in-Ok-append-clause-followed : goal.returns-in-Ok-append-clause-followed
returns-in-Ok-append-clause-followed g c =
    let reading = record c.args.self.now { progress = Reading } in
    let settled = read_asked c.args.now c.ranges.now.fits reading refl (call_view c.args.call) c.requires.read.0 c.requires.read.1
    (view_of c.args.client.now) (view_of c.step.new.self) (said c.in-Ok.outputs.items) c.in-Ok.ensures.rule
    c.requires.connected in
    let heard : c.note_outputs.new.self ≡ heard_all c.args.now reading (said c.in-Ok.outputs.items) =
    c.note_outputs.ensures ∙ ap (λ outputs. heard_all c.args.now reading (said outputs)) c.as_slice.ensures.value in
    λ reads. subst (IsFollowed c.args.now (view_of c.step.new.self) reads) (sym heard) (settled.0 reads)

pub returns-in-Ok-append-clause-counted : goal.returns-in-Ok-append-clause-counted
returns-in-Ok-append-clause-counted g c =
    let reading = record c.args.self.now { progress = Reading } in
    let settled = read_asked c.args.now c.ranges.now.fits reading refl (call_view c.args.call) c.requires.read.0 c.requires.read.1
    (view_of c.args.client.now) (view_of c.step.new.self) (said c.in-Ok.outputs.items) c.in-Ok.ensures.rule
    c.requires.connected in
    let heard : c.note_outputs.new.self ≡ heard_all c.args.now reading (said c.in-Ok.outputs.items) =
    c.note_outputs.ensures ∙ ap (λ outputs. heard_all c.args.now reading (said outputs)) c.as_slice.ensures.value in
    subst (IsCounted (view_of c.step.new.self)) (sym heard) settled.1

pub returns-in-Ok-append-clause-asks : goal.returns-in-Ok-append-clause-asks
returns-in-Ok-append-clause-asks g c =
    let reading = record c.args.self.now { progress = Reading } in
    let settled = read_asked c.args.now c.ranges.now.fits reading refl (call_view c.args.call) c.requires.read.0 c.requires.read.1
    (view_of c.args.client.now) (view_of c.step.new.self) (said c.in-Ok.outputs.items) c.in-Ok.ensures.rule
    c.requires.connected in
    settled.2

pub returns-in-Ok-append-clause-asked : goal.returns-in-Ok-append-clause-asked
returns-in-Ok-append-clause-asked g c =
    let reading = record c.args.self.now { progress = Reading } in
    let heard : c.note_outputs.new.self ≡ heard_all c.args.now reading (said c.in-Ok.outputs.items) =
    c.note_outputs.ensures ∙ ap (λ outputs. heard_all c.args.now reading (said outputs)) c.as_slice.ensures.value in (
      said c.in-Ok.outputs.items,
      c.in-Ok.ensures.rule,
      heard,
      ap said c.in-Ok-append.ensures.items ∙ map-append output_view c.args.made.now.items c.in-Ok.outputs.items,
    )

pub returns-in_default-clause-broke : goal.returns-in_default-clause-broke
returns-in_default-clause-broke g c = within (view_of c.args.client.now) (view_of c.step.new.self) c.in_default.ensures.halt

pub returns-clause-broke : goal.returns-clause-broke
returns-clause-broke g c = after_turn _ (view_of c.args.client.now) (view_of c.step.new.self) c.in-Ok.ensures.rule
