-- By what `stat` finds at the path: a Stat is what there is to see, by `stat_read`, and spelled in the reply, by `stat_payload`; where
-- there is none, no node is there, by `none_told`. The watch is left either way, by `exists_left` and `absence_left`. A Stat fits a
-- frame, by `stat_fits`, so sending it ends no connection.
use Rattle.std.proofs.Common.{rules, sym, refl, ap, subst, ◌∙◌, ◌≡◌, ◌++◌, Some, None, pos, cond, to_z, of_z, w32, w64}
use Rattle.std.specs.FinSet as set
use Rattle.zk_jute.specs.Lenient.{or_empty}
use Rattle.zk_jute.specs.Layout.{Value}
use Rattle.zk_jute.specs.Spelling.{spelling, Fits}
use Rattle.zk_nodes.specs.Path.{path_of}
use Rattle.zk_nodes.specs.History.{tree_at}
use Rattle.zk_history.specs.HistoryView.{history_of, natural}
use Rattle.zk_nodes.specs.inner.Names.{names_of}
use Rattle.zk_nodes.specs.PathFault.{IsPath}
use Rattle.zk_history.specs.Shown.{IsStat}
use Rattle.zk_nodes.specs.StatLayout.{stat}
use Rattle.zk_nodes.proofs.PathLemmas.{IsPath-absolute}
use Rattle.zk_records.specs.Layouts.{reply_header}
use Rattle.zk_conversation.specs.Results.{Found}
use Rattle.zk_bench.specs.Serving.{watches_of}
use Rattle.zk_bench.proofs.Answered.{sends_for, numbers_of, absence_left, exists_left, none_told, stat_read, stat_payload}
use Rattle.zk_bench.proofs.Staying.{handed_on, stat_fits}
use Rattle.zk_bench.proofs.reads.exists.Goals as goal

pub returns-in_default-clause-refuses : goal.returns-in_default-clause-refuses
returns-in_default-clause-refuses g c = λ text zxid is path at code.
    let h = history_of c.args.tree.now.history.now in
    let tree = tree_at h zxid in
    let same : c.text_of-text.result.now ≡ text = c.text_of-text.ensures ∙ ap or_empty path in
    let found : IsPath c.text_of-text.result.now = subst IsPath (sym same) is in
    let counted : IsStat tree (path_of text) None =
    subst (λ t. IsStat tree (path_of t) None) same
    (subst (λ z. IsStat (tree_at h (natural z)) (path_of c.text_of-text.result.now) None) at
    (subst (λ o. IsStat (tree_at h (natural c.args.tree.now.zxid)) (path_of c.text_of-text.result.now) o) c.in_default.is
    (c.in_ok-stat.ensures found))) in (
      refl,
      record {
        reads = none_told tree (path_of text) counted;
        output = refl;
        left = ap (λ nodes. watches_of nodes (names_of c.args.connection.now.watches.child))
            (c.in_ok-add_where.ensures ∙ ap (λ t. cond c.args.request.now.watch
            (set.insert (names_of c.args.connection.now.watches.«data») t) (names_of c.args.connection.now.watches.«data»)) same)
            ∙ absence_left (names_of c.args.connection.now.watches.«data»)
            (names_of c.args.connection.now.watches.child) text c.args.request.now.watch (IsPath-absolute text is);
        rest = refl;
      },
    )

pub returns-clause-answers : goal.returns-clause-answers
returns-clause-answers g c = λ text zxid is path at.
    let h = history_of c.args.tree.now.history.now in
    let tree = tree_at h zxid in
    let told = c.in-Some.stat in
    let same : c.text_of-text.result.now ≡ text = c.text_of-text.ensures ∙ ap or_empty path in
    let found : IsPath c.text_of-text.result.now = subst IsPath (sym same) is in
    let counted : IsStat tree (path_of text) (Some told) =
    subst (λ t. IsStat tree (path_of t) (Some told)) same
    (subst (λ z. IsStat (tree_at h (natural z)) (path_of c.text_of-text.result.now) (Some told)) at
    (subst (λ o. IsStat (tree_at h (natural c.args.tree.now.zxid)) (path_of c.text_of-text.result.now) o) c.in-Some.is
    (c.in_ok-stat.ensures found))) in
    let value : Value stat = numbers_of told in
    let xid : to_z w32 (of_z w32 c.args.xid) ≡ c.args.xid = search rules in
    let ranged : to_z w64 (of_z w64 c.args.tree.now.zxid) ≡ c.args.tree.now.zxid = search rules in
    let sends = sends_for stat _ c.args.xid _ zxid _ value _ _ xid (ranged ∙ at) refl c.in_ok-send_result.ensures.sends in
    record {
      result = Found told;
      read = tt;
      told = tt;
      reads = stat_read tree (path_of text) told counted;
      payload = spelling reply_header (c.args.xid, (pos zxid, pos 0)) ++ spelling stat value;
      small = sends.small;
      spelled = stat_payload c.args.xid zxid text c.args.request.now.watch told value _ _ sends refl;
      output = sends.output;
      left = ap (λ nodes. watches_of nodes (names_of c.args.connection.now.watches.child))
          (c.in_ok-add_where.ensures ∙ ap (λ t. cond c.args.request.now.watch (set.insert (names_of c.args.connection.now.watches.«data») t)
          (names_of c.args.connection.now.watches.«data»)) same)
          ∙ exists_left (names_of c.args.connection.now.watches.«data»)
          (names_of c.args.connection.now.watches.child) text c.args.request.now.watch told (IsPath-absolute text is);
      rest = refl;
    }

pub returns-in_err-send_result-clause-stays : goal.returns-in_err-send_result-clause-stays
returns-in_err-send_result-clause-stays g c =
    let fits : Fits stat (numbers_of c.in-Some.stat) = search rules in
    handed_on c.from_residual-in_err-send_result.result _ _ c.from_residual-in_err-send_result.ensures.1
    (λ over. c.in_err-send_result.ensures.stays (stat_fits (numbers_of c.in-Some.stat) fits) (cc))
