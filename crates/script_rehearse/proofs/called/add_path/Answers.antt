-- The called paths get the one that the call names: `names_of-insert`, and rewriting by what `from_str` and `named_path` ensure.
use Rattle.std.proofs.Common.{rules, ap, sym, ◌∙◌, ◌≡◌, Some}
use Rattle.std.specs.FinSet as set
use Rattle.zk_conversation.specs.Views.{call_view}
use Rattle.zk_nodes.specs.inner.Names.{names_of}
use Rattle.zk_nodes.proofs.NamesLemmas.{names_of-insert}
use Rattle.script_rehearse.specs.Scenes.{named_path, with_path}
use Rattle.script_rehearse.proofs.called.add_path.Goals as goal

pub returns-in_ok-insert : goal.returns-in_ok-insert
returns-in_ok-insert g c =
    let named : named_path (call_view c.args.call.now) ≡ Some c.in-Some.path.now = search rules in
    record {
      added = names_of-insert c.args.called.now c.insert.new.self c.in_ok-from_str.field-0 c.in_ok-insert.ensures.updates
          ∙ ap (set.insert (names_of c.args.called.now)) c.in_ok-from_str.ensures.ok
          ∙ ap (λ path. with_path path (names_of c.args.called.now)) (sym named);
    }
