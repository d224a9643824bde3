-- The session begins as the client of `resumed` with its limits: `begins_with`, as the timeout is read back from its word unchanged. Of
-- bytes that do not read as a saved session no client comes, so that case is absurd.
use Rattle.std.proofs.Common.{◌≡◌, ◌∙◌, ap, of_z, rules, subst, sym, to_z, true≢false, w32}
use Rattle.std.specs.Prelude.{◌<ℤ◌, ℤ, [], is_ok, pos}
use Rattle.zk_client.specs.Clients.{view_of}
use Rattle.zk_turns.specs.View.{View, view_at}
use Rattle.ffi_device.specs.Sessions.{put_start}
use Rattle.ffi_device.specs.Steps.{within}
use Rattle.ffi_device.proofs.Beginning.{begins_with}
use Rattle.ffi_device.proofs.device.Device.resume.Goals as goal

pub returns-clause-begins : goal.returns-clause-begins
returns-clause-begins c put reads =
    let asked : to_z w32 (of_z w32 c.args.timeout_ms) ≡ c.args.timeout_ms = search rules in
    let start : ℤ → View = λ ms. view_at (within c.args.limits (put_start ms put)) [] in
    begins_with c.of.result (view_of c.with_limits.result) (start c.args.timeout_ms) c.args.timeout_ms
    (c.with_limits.ensures.view ∙ ap (λ (v : View). record v { limits = c.args.limits }) (c.in_ok-client.ensures.begins put reads)
    ∙ ap start asked)
    (subst (λ ms. pos 0 <ℤ ms) asked c.in_ok-client.ensures.accepted)
    c.of.ensures.begins c.of.ensures.refused

pub returns-clause-unread : goal.returns-clause-unread
returns-clause-unread c fault is apart above =
    let asked : to_z w32 (of_z w32 c.args.timeout_ms) ≡ c.args.timeout_ms = search rules in
    absurd (true≢false (ap is_ok (c.in_ok-client.ensures.unread fault is apart (subst (λ ms. pos 0 <ℤ ms) (sym asked) above))))
