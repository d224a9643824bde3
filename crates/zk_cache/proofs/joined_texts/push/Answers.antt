-- `spelled-push` and `texts-push`: the end of the bytes is the last end.
use Rattle.std.proofs.Common.{◌≡◌, ◌++◌, ◌∷◌, ◌+◌, [], ap, sym, subst, ◌∙◌, length, length-append}
use Rattle.zk_cache.specs.Spelled.{texts_from, AreSpelledFrom}
use Rattle.zk_cache.proofs.SpelledLemmas.{spelled, spelled-push, texts-push}
use Rattle.zk_cache.proofs.joined_texts.push.Given.{Over}
use Rattle.zk_cache.proofs.joined_texts.push.Goals.{In_ok-push}
use Rattle.zk_cache.proofs.joined_texts.push.Goals as goal

ends_are : (g : Over) (c : In_ok-push g) → c.push.new.self.items
    ≡ c.args.ends.now.items ++ (length c.args.spelled.now.items + length (spelled c.args.segment.now)) ∷ []
ends_are g c =
    c.in_ok-push.ensures.items
    ∙ ap (λ end. c.args.ends.now.items ++ end ∷ [])
    (ap length (c.as_slice.ensures.value ∙ c.in-Ok.ensures.ok)
    ∙ length-append c.args.spelled.now.items (spelled c.args.segment.now))

pub returns-clause-spelled : goal.returns-clause-spelled
returns-clause-spelled g c =
    subst (λ bytes. AreSpelledFrom bytes 0 c.push.new.self.items) (sym c.in-Ok.ensures.ok)
    (subst (AreSpelledFrom (c.args.spelled.now.items ++ spelled c.args.segment.now) 0) (sym (ends_are g c))
    (spelled-push c.args.spelled.now.items c.args.segment.now 0 c.args.ends.now.items c.in-Ok.ensures.fits c.requires))

pub returns-clause-texts : goal.returns-clause-texts
returns-clause-texts g c =
    (λ i. texts_from (c.in-Ok.ensures.ok i) 0 (ends_are g c i))
    ∙ texts-push c.args.spelled.now.items c.args.segment.now 0 c.args.ends.now.items c.requires
