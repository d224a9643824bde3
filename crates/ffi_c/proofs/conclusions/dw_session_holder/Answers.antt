-- Where it answers none, the held session shows no token: what `holder` ensures of the taken session's client, whose view is the same.
use Rattle.std.proofs.Common.{◌≡◌, ◌∙◌, ℤ, Option, ap, refl, rules, subst, sym}
use Rattle.std.specs.Prelude.{IfOk, None, unwrap_or}
use Rattle.zk_turns.specs.View.{View}
use Rattle.zk_client.specs.Clients.{view_of}
use Rattle.ffi_device.specs.declared.device.Device.{Device}
use Rattle.zk_conclusions.specs.Holders.{ShowsHolder}
use Rattle.ffi_device.specs.Holders.{ArePlace, TellsHolder}
use Rattle.ffi_c.proofs.conclusions.dw_session_holder.Goals as goal

pub returns-in-Ok-None-clause-finds : goal.returns-in-Ok-None-clause-finds
returns-in-Ok-None-clause-finds c d held =
    let directory = c.args.directory.now in
    let prefix = c.args.prefix.now in
    let path = c.args.path.now in
    let Tells = λ (token : Option ℤ). TellsHolder (view_of c.client.result.now) directory prefix path token in
    let none : c.in-Ok-None.field-0 ≡ None = search rules in
    let told : Tells None = subst Tells none (subst (λ found. IfOk found Tells) c.in-Ok-None.is c.holder-found.ensures.tells) in
    let place : ArePlace directory prefix path = search rules in
    let same : view_of c.client.result.now ≡ view_of d.agent.asker.follower.client =
    c.client.ensures ∙ ap (λ (s : Device). view_of s.agent.asker.follower.client)
    (c.deref.ensures ∙ ap (λ held. unwrap_or held d) (sym c.in-Some.ensures.some ∙ held)) in
    (subst (λ (v : View). (other : ℤ) → ShowsHolder v directory prefix path other → ⊥) same told, place, refl)
