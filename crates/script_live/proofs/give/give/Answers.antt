-- `retain` keeps the outputs for the caller (`filter_same`), and `append` adds them (`gives`) or fails and adds none (`keeps`).
use Rattle.std.proofs.Common.{rules}
use Rattle.std.proofs.lemmas.Fn.{filter_same}
use Rattle.script_live.proofs.GiveLemmas.{gives, keeps}
use Rattle.script_live.proofs.give.give.Goals as goal

pub returns-clause-ok : goal.returns-clause-ok
returns-clause-ok g c =
    gives c.append.result c.args.outputs.now.items c.args.made.items c.retain.new.self.items c.append.new.self.items
    (filter_same _ _ _ (λ x b f' k. search rules) _ _ c.retain.ensures.filtered) c.append.ensures.items

pub returns-clause-err : goal.returns-clause-err
returns-clause-err g c =
    keeps c.append.result c.args.outputs.now.items c.retain.new.self.items c.append.new.self.items c.append.ensures.items
