-- `retain` keeps the subjects for which its closure answers true, and that is `stays`: `filter_same`.
use Rattle.std.proofs.Common.{rules}
use Rattle.std.proofs.lemmas.Fn.{filter_same}
use Rattle.shell_watch.proofs.joining.drop_leaving.Goals as goal

pub returns : goal.returns
returns g c = filter_same _ _ _ (λ x b f' k. search rules) _ _ c.retain.ensures.filtered
