-- Names and texts in one order are the same one by one exactly where each is in the other: `names_are`, from what `are_texts` ensures.
use Rattle.script_rehearse.proofs.GoodLemmas.{names_are}
use Rattle.script_rehearse.proofs.agreement.same_names.Goals as goal

pub returns : goal.returns
returns g c =
    let are = c.are_texts.ensures in
    names_are c.args.kept.now c.args.told.now c.are_texts.result are.sorted are.ordered are.same
