-- The client is the one that `resume` makes of no session and the last seen zxid, with the limits of this one.
use Rattle.std.proofs.Common.{◌≡◌, [], ap, ◌∙◌, w32, w64, arith}
use mir.Val.{to_z, of_z}
use Rattle.std.proofs.lemmas.Int.{ints}
use Rattle.zk_frames.specs.declared.limits.FrameLimits.{FrameLimits}
use Rattle.zk_turns.specs.View.{View, view_at}
use Rattle.zk_client.specs.Clients.{view_of, renewed_start}
use Rattle.zk_client.proofs.client.Client.renewed.Goals as goal

pub returns-clause-view : goal.returns-clause-view
returns-clause-view g c =
    let last : to_z w64 (of_z w64 c.saved.result.last_zxid) ≡ c.saved.result.last_zxid = omega (arith, ints) in
    let timeout : to_z w32 (of_z w32 c.args.timeout_ms) ≡ c.args.timeout_ms = omega (arith, ints) in
    let resumed = rw (timeout, last, c.saved.ensures.tells.last) at c.in_ok-client.ensures.view in
    c.with_limits.ensures.view
    ∙ (λ i. let v : View = record (resumed i) { limits = c.limits.result } in v)
    ∙ ap (λ (l : FrameLimits). view_at (record (renewed_start c.args.timeout_ms (view_of c.args.self.now)) { limits = l }) [])
    c.limits.ensures
