-- The header's numbers fit, so what they are in memory they are; after it come the entries, by `log_is`.
use Rattle.std.proofs.Common.{sym, ap, ◌∙◌}
use Rattle.std.specs.Int.{w32, w64}
use Rattle.std.proofs.Common.{to_z}
use Rattle.std.proofs.lemmas.Int.{to_z-of_z}
use Rattle.zk_log.specs.Views.{log_of}
use Rattle.zk_log.proofs.HeaderLaws.{header_fits, log_is}
use Rattle.zk_log.proofs.log.log_at.Goals as goal

pub returns : goal.returns
returns g c =
    let fits = header_fits _ _ _ c.new-at.result.bytes c.in-Ok.ensures.gives in
    log_is log_of _ _ _ _ _ _ _ _ _ c.read_log.result c.new-at.ensures.len c.new-at.ensures.left c.in-Ok.ensures.gives c.rest.ensures
    (sym (to_z-of_z w32 c.in-Ok.header.magic fits.0) ∙ ap (to_z w32) c.if-header-ne-MAGIC.false)
    (sym (to_z-of_z w32 c.in-Ok.header.version fits.1.0) ∙ ap (to_z w32) c.if-header-ne-VERSION.false)
    (to_z-of_z w64 c.in-Ok.header.dbid fits.1.1) c.read_log.ensures
