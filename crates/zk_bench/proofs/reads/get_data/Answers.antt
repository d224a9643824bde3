-- The data and the Stat are what there is to see of the node, by `data_read`, and spelled in the reply, by `data_payload`; the watch is
-- left, by `left_by`. Where no Stat is found, no node is there, by `finds_none`, and where one is, the data are found too, by `both_told`.
-- Data that fit a reply end no connection, by `data_fits`.
use Rattle.std.proofs.Common.{rules, sym, refl, ap, subst, ◌∙◌, ◌≡◌, ◌++◌, Some, Option, ℕ, pos, cond, List, to_z, of_z, w32, w64}
use Rattle.std.specs.Option.{option_map}
use Rattle.std.specs.FinSet as set
use Rattle.zk_jute.specs.Lenient.{or_empty}
use Rattle.zk_jute.specs.Layout.{Value}
use Rattle.zk_jute.specs.Spelling.{spelling, Fits}
use Rattle.zk_nodes.specs.Path.{path_of}
use Rattle.zk_nodes.specs.History.{tree_at, view, Contents, Absence}
use Rattle.zk_history.specs.HistoryView.{history_of, natural}
use Rattle.zk_nodes.specs.inner.Names.{names_of}
use Rattle.zk_nodes.specs.PathFault.{IsPath}
use Rattle.zk_history.specs.Shown.{data_told, IsStat}
use Rattle.zk_nodes.specs.StatLayout.{stat}
use Rattle.zk_nodes.specs.declared.side.Side.TheVariants as sides
use Rattle.zk_nodes.proofs.PathLemmas.{IsPath-absolute}
use Rattle.zk_records.specs.Layouts.{reply_header, get_data_response}
use Rattle.zk_conversation.specs.Calls.{GetData}
use Rattle.zk_conversation.specs.Results.{Read}
use Rattle.zk_bench.specs.inner.Refusals.{IsCode}
use Rattle.zk_bench.specs.Serving.{watches_of}
use Rattle.zk_bench.specs.inner.Serving.{CanBeSent}
use Rattle.zk_bench.proofs.Answered.{errs_so, finds_none, sends_for, numbers_of, left_by, none_left, data_read, data_none, both_told}
use Rattle.zk_bench.proofs.Answered.{none_told, data_payload}
use Rattle.zk_bench.proofs.Staying.{handed_on, data_fits}
use Rattle.zk_bench.proofs.reads.get_data.Goals as goal

pub returns-in_err-stat-clause-refuses : goal.returns-in_err-stat-clause-refuses
returns-in_err-stat-clause-refuses g c =
    λ text zxid is path at. errs_so c.from_residual.result _ _ c.from_residual.ensures.1 (λ refusal same code.
    let h = history_of c.args.tree.now.history.now in
    let missed = c.in_err-stat.ensures.misses text is path (subst IsCode same code) in
    finds_none h zxid c.args.tree.now.zxid (path_of text) (GetData text c.args.request.now.watch) c.args.connection.now _
    (same ∙ missed.0) at missed.1 (none_told (tree_at h zxid) (path_of text)) refl
    (ap (λ nodes. watches_of nodes (names_of c.args.connection.now.watches.child)) missed.2 ∙ none_left (watches_of
    (names_of c.args.connection.now.watches.«data») (names_of c.args.connection.now.watches.child)) text c.args.request.now.watch) refl)

-- the node at which a Stat was found has data
pub returns-in_default-clause-refuses : goal.returns-in_default-clause-refuses
returns-in_default-clause-refuses g c = λ text zxid is path at code.
    let h = history_of c.args.tree.now.history.now in
    let tree = tree_at h (natural c.args.tree.now.zxid) in
    let same : c.text_of.result.now ≡ text = c.text_of.ensures ∙ ap or_empty path in
    let found : IsPath c.text_of.result.now = subst IsPath (sym same) is in
    let none : Absence ≡ view sides.Data tree (path_of text) =
    ap data_told (sym c.in_default.is) ∙ c.in_ok-data.ensures found ∙ ap (λ t. view sides.Data tree (path_of t)) same in
    absurd (both_told tree (path_of text) c.in_ok-stat.stat (c.in_ok-stat.ensures.found text is path) (data_none tree (path_of text) none))

pub returns-clause-answers : goal.returns-clause-answers
returns-clause-answers g c = λ text zxid is path at.
    let h = history_of c.args.tree.now.history.now in
    let tree = tree_at h zxid in
    let bytes : Option (List ℕ) = option_map (λ v. v.items) c.in-Some.«data».bytes in
    let told = c.in_ok-stat.stat in
    let same : c.text_of.result.now ≡ text = c.text_of.ensures ∙ ap or_empty path in
    let found : IsPath c.text_of.result.now = subst IsPath (sym same) is in
    let seen : Contents bytes c.in-Some.«data».stat ≡ view sides.Data tree (path_of text) =
    ap data_told (sym c.in-Some.is) ∙ c.in_ok-data.ensures found
    ∙ ap (λ z. view sides.Data (tree_at h (natural z)) (path_of c.text_of.result.now)) at
    ∙ ap (λ t. view sides.Data tree (path_of t)) same in
    let counted : IsStat tree (path_of text) (Some told) =
    subst (λ z. IsStat (tree_at h (natural z)) (path_of text) (Some told)) at (c.in_ok-stat.ensures.found text is path) in
    let value : Value stat = numbers_of told in
    let xid : to_z w32 (of_z w32 c.args.xid) ≡ c.args.xid = search rules in
    let ranged : to_z w64 (of_z w64 c.args.tree.now.zxid) ≡ c.args.tree.now.zxid = search rules in
    let sends = sends_for get_data_response _ c.args.xid _ zxid _ (bytes, value) _ _ xid (ranged ∙ at)
    (ap {B = Value get_data_response} (λ (b : Option (List ℕ)). (b, value)) c.new-bytes.ensures) c.in_ok-send_result.ensures.sends in
    record {
      result = Read bytes told;
      read = tt;
      told = tt;
      reads = data_read tree (path_of text) bytes c.in-Some.«data».stat told seen counted;
      payload = spelling reply_header (c.args.xid, (pos zxid, pos 0)) ++ spelling get_data_response (bytes, value);
      small = sends.small;
      spelled = data_payload c.args.xid zxid text c.args.request.now.watch bytes told value _ _ sends refl;
      output = sends.output;
      left = ap (λ nodes. watches_of nodes (names_of c.args.connection.now.watches.child))
          (c.in_ok-stat.ensures.left ∙ ap (λ t. cond c.args.request.now.watch (set.insert (names_of c.args.connection.now.watches.«data»)
          (or_empty t)) (names_of c.args.connection.now.watches.«data»)) path)
          ∙ left_by (names_of c.args.connection.now.watches.«data»)
          (names_of c.args.connection.now.watches.child) text c.args.request.now.watch bytes told (IsPath-absolute text is);
      rest = refl;
    }

pub returns-in_err-send_result-clause-stays : goal.returns-in_err-send_result-clause-stays
returns-in_err-send_result-clause-stays g c = λ text is path fit.
    let tree = tree_at (history_of c.args.tree.now.history.now) (natural c.args.tree.now.zxid) in
    let bytes : Option (List ℕ) = option_map (λ v. v.items) c.in-Some.«data».bytes in
    let told = c.in_ok-stat.stat in
    let same : c.text_of.result.now ≡ text = c.text_of.ensures ∙ ap or_empty path in
    let found : IsPath c.text_of.result.now = subst IsPath (sym same) is in
    let seen : Contents bytes c.in-Some.«data».stat ≡ view sides.Data tree (path_of text) =
    ap data_told (sym c.in-Some.is) ∙ c.in_ok-data.ensures found ∙ ap (λ t. view sides.Data tree (path_of t)) same in
    let fits : Fits stat (numbers_of told) = search rules in
    let sent = data_fits (tree (path_of text)) bytes c.in-Some.«data».stat (numbers_of told) seen fit fits in
    handed_on c.from_residual-in_err-send_result.result _ _ c.from_residual-in_err-send_result.ensures.1
    (λ over. c.in_err-send_result.ensures.stays
    (subst (λ (b : Option (List ℕ)). CanBeSent get_data_response (b, numbers_of told)) (sym c.new-bytes.ensures) sent) (cc))
