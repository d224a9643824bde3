-- As many texts as ends.
use Rattle.std.proofs.Common.{sym, ap, ◌∙◌, length}
use Rattle.zk_cache.proofs.SpelledLemmas.{length-texts_from}
use Rattle.zk_cache.proofs.joined_texts.JoinedTexts.len.Goals as goal

pub returns : goal.returns
returns g c =
    ap length c.as_slice.ensures.value
    ∙ sym (length-texts_from c.self.inside.spelled.items 0 c.self.inside.ends.items)
    ∙ ap length c.self.view_is
