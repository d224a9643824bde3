-- The called paths ascend (`sorted_map`) and are the set's members (`same_members`); `push_paths` tells their lines, rewritten.
use Rattle.std.proofs.Common.{map, sym, ap, ◌++◌, ◌∙◌, subst}
use Rattle.std.specs.Prelude.{string_bytes}
use Rattle.std.specs.Cmp.Lexicographic.{slice_cmp}
use Rattle.std.specs.Ordering.{nat_cmp}
use Rattle.zk_client.specs.Clients.{view_of}
use Rattle.zk_nodes.specs.History.{IsHistory}
use Rattle.zk_history.specs.HistoryView.{history_of}
use Rattle.script_rehearse.specs.Good.{TellsPaths}
use Rattle.script_words.proofs.NamesLemmas.{sorted_map}
use Rattle.script_replay.proofs.SetLemmas.{same_members}
use Rattle.script_rehearse.proofs.rig.Rig.good.Goals as goal

pub returns : goal.returns
returns g c =
    let rig = c.args.self.now in
    let told = c.in_ok-push_paths.ensures.told in
    record {
      each = map string_bytes rig.called.keys;
      are = record {
        ascending = sorted_map string_bytes (slice_cmp nat_cmp) rig.called.keys c.in_ok-push_paths.ensures.ordered;
        same = same_members rig.called;
      };
      told =
          subst (λ text. TellsPaths (view_of rig.client) rig.bench.history (map string_bytes rig.called.keys) text)
          (sym (told.2 ∙ ap (λ text. text ++ told.0) c.new-text.ensures.bytes))
          (subst (λ history. TellsPaths (view_of rig.client) history (map string_bytes rig.called.keys) told.0)
          c.history-history.ensures told.1);
      history = subst (λ history. IsHistory (history_of history)) c.history-history.ensures c.last_zxid-last.ensures.history;
    }
