-- From the first byte on there are all texts, of which each fits: `spelled_all` and `fit_all`.
use Rattle.std.proofs.Common.{◌∙◌, ap, subst}
use Rattle.std.specs.List.{flat_map, AllByRecursion}
use Rattle.zk_cache.proofs.SpelledLemmas.{FitText, fit_all, spelled, spelled_all}
use Rattle.zk_cache.proofs.joined_texts.JoinedTexts.spelled.Goals as goal

pub returns-clause-is : goal.returns-clause-is
returns-clause-is g c =
    c.as_slice.ensures.value
    ∙ spelled_all c.self.inside.spelled.items 0 c.self.inside.ends.items c.self.invariant
    ∙ ap (flat_map spelled) c.self.view_is

pub returns-clause-fits : goal.returns-clause-fits
returns-clause-fits g c =
    subst (AllByRecursion FitText) c.self.view_is (fit_all c.self.inside.spelled.items 0 c.self.inside.ends.items c.self.invariant)
