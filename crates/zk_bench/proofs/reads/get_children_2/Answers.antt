-- The names and the Stat are what there is to see of the node, by `children_read` and `stat_read`, and spelled in the reply, by
-- `names_payload`; the watch is left, by `children_left`. Where no Stat is found, no node is there, by `finds_none`, and where one is,
-- the children are found too, by `both_told`. Names that fit a reply end no connection, by `names_fit`.
use Rattle.std.proofs.Common.{rules, sym, refl, ap, subst, ◌∙◌, ◌≡◌, ◌++◌, Some, None, Option, ℕ, pos, cond, List, to_z, of_z, w32, w64}
use Rattle.std.specs.Option.{option_map}
use Rattle.std.specs.FinSet as set
use Rattle.zk_jute.specs.Lenient.{or_empty}
use Rattle.zk_jute.specs.Layout.{Value}
use Rattle.zk_jute.specs.Spelling.{spelling, Fits}
use Rattle.zk_nodes.specs.Path.{path_of}
use Rattle.zk_nodes.specs.History.{tree_at}
use Rattle.zk_history.specs.HistoryView.{history_of, natural, HasChildren}
use Rattle.zk_nodes.specs.inner.Names.{names_of}
use Rattle.zk_nodes.specs.PathFault.{IsPath}
use Rattle.zk_history.specs.Shown.{IsStat}
use Rattle.zk_nodes.specs.StatLayout.{stat}
use Rattle.zk_nodes.proofs.PathLemmas.{IsPath-absolute}
use Rattle.zk_records.specs.Layouts.{reply_header, get_children2_response}
use Rattle.zk_conversation.specs.Calls.{GetChildren}
use Rattle.zk_conversation.specs.Results.{Listing, texts_of}
use Rattle.zk_bench.specs.inner.Refusals.{IsCode}
use Rattle.zk_bench.specs.Serving.{watches_of}
use Rattle.zk_bench.specs.inner.Serving.{CanBeSent}
use Rattle.zk_bench.specs.inner.Answering.{ListsChildren}
use Rattle.zk_bench.proofs.Answered.{errs_so, finds_none, sends_for, numbers_of, children_left, no_children_left, none_to_list_told}
use Rattle.zk_bench.proofs.Answered.{both_told, children_read, stat_read, names_payload, no_copy}
use Rattle.zk_bench.proofs.Staying.{handed_on}
use Rattle.zk_bench.proofs.Sized.{names_there, names_fit}
use Rattle.zk_bench.proofs.reads.get_children_2.Goals as goal

pub returns-in_err-stat-clause-refuses : goal.returns-in_err-stat-clause-refuses
returns-in_err-stat-clause-refuses g c =
    λ text zxid is path at. errs_so c.from_residual.result _ _ c.from_residual.ensures.1 (λ refusal same code.
    let h = history_of c.args.tree.now.history.now in
    let missed = c.in_err-stat.ensures.misses text is path (subst IsCode same code) in
    finds_none h zxid c.args.tree.now.zxid (path_of text) (GetChildren text c.args.request.now.watch) c.args.connection.now _
    (same ∙ missed.0) at missed.1 (none_to_list_told (tree_at h zxid) (path_of text)) refl
    (ap (λ parents. watches_of (names_of c.args.connection.now.watches.«data») parents) missed.2 ∙ no_children_left (watches_of
    (names_of c.args.connection.now.watches.«data») (names_of c.args.connection.now.watches.child)) text c.args.request.now.watch) refl)

-- the node at which a Stat was found has a list of children
pub returns-in_err-children-clause-refuses : goal.returns-in_err-children-clause-refuses
returns-in_err-children-clause-refuses g c = λ text zxid is path at.
    errs_so c.from_residual-in_err-children.result _ _ c.from_residual-in_err-children.ensures.1 (λ refusal same-one code.
    let h = history_of c.args.tree.now.history.now in
    let tree = tree_at h (natural c.args.tree.now.zxid) in
    let same : c.text_of.result.now ≡ text = c.text_of.ensures ∙ ap or_empty path in
    let found : IsPath c.text_of.result.now = subst IsPath (sym same) is in
    let none = (c.in_err-children.ensures.misses found (subst IsCode same-one code)).1 in
    absurd (both_told tree (path_of text) c.in_ok-stat.stat (c.in_ok-stat.ensures.found text is path)
    (subst (λ t. tree (path_of t) ≡ None) same none)))

pub returns-clause-answers : goal.returns-clause-answers
returns-clause-answers g c = λ text zxid is path at.
    let h = history_of c.args.tree.now.history.now in
    let tree = tree_at h zxid in
    let texts : Option (List (Option (List ℕ))) = option_map (λ v. v.items) c.in_ok-children.children.elements in
    let told = c.in_ok-stat.stat in
    let same : c.text_of.result.now ≡ text = c.text_of.ensures ∙ ap or_empty path in
    let found : IsPath c.text_of.result.now = subst IsPath (sym same) is in
    let listed : ListsChildren tree (path_of text) texts =
    subst (λ t. ListsChildren tree (path_of t) texts) same (subst
    (λ z. ListsChildren (tree_at h (natural z)) (path_of c.text_of.result.now) texts) at (c.in_ok-children.ensures.found found)) in
    let counted : IsStat tree (path_of text) (Some told) =
    subst (λ z. IsStat (tree_at h (natural z)) (path_of text) (Some told)) at (c.in_ok-stat.ensures.found text is path) in
    let value : Value stat = numbers_of told in
    let xid : to_z w32 (of_z w32 c.args.xid) ≡ c.args.xid = search rules in
    let ranged : to_z w64 (of_z w64 c.args.tree.now.zxid) ≡ c.args.tree.now.zxid = search rules in
    let sends = sends_for get_children2_response _ c.args.xid _ zxid _ (texts, value) _ _ xid (ranged ∙ at)
    (ap {B = Value get_children2_response} (λ (ts : Option (List (Option (List ℕ)))). (ts, value))
    (no_copy c.in_ok-children.children.elements)) c.in_ok-send_result.ensures.sends in
    record {
      result = Listing (texts_of texts) told;
      read = tt;
      told = tt;
      reads = (children_read tree (path_of text) (texts_of texts) told counted listed, stat_read tree (path_of text) told counted);
      payload = spelling reply_header (c.args.xid, (pos zxid, pos 0)) ++ spelling get_children2_response (texts, value);
      small = sends.small;
      spelled = names_payload c.args.xid zxid text c.args.request.now.watch texts told value _ _ sends refl;
      output = sends.output;
      left = ap (λ parents. watches_of (names_of c.args.connection.now.watches.«data») parents)
          (c.in_ok-stat.ensures.left ∙ ap (λ t. cond c.args.request.now.watch
          (set.insert (names_of c.args.connection.now.watches.child) (or_empty t)) (names_of c.args.connection.now.watches.child)) path)
          ∙ children_left (names_of c.args.connection.now.watches.«data»)
          (names_of c.args.connection.now.watches.child) text c.args.request.now.watch (texts_of texts) told (IsPath-absolute text is);
      rest = refl;
    }

pub returns-in_err-send_result-clause-stays : goal.returns-in_err-send_result-clause-stays
returns-in_err-send_result-clause-stays g c = λ text is path fit.
    let tree = tree_at (history_of c.args.tree.now.history.now) (natural c.args.tree.now.zxid) in
    let texts : Option (List (Option (List ℕ))) = option_map (λ v. v.items) c.in_ok-children.children.elements in
    let told = c.in_ok-stat.stat in
    let same : c.text_of.result.now ≡ text = c.text_of.ensures ∙ ap or_empty path in
    let found : IsPath c.text_of.result.now = subst IsPath (sym same) is in
    let there = names_there tree (path_of text) told (c.in_ok-stat.ensures.found text is path) fit in
    let list = c.in_ok-children.ensures.fits there.0 found (subst (λ t. HasChildren tree (path_of t) there.0) (sym same) there.1) there.2 in
    let fits : Fits stat (numbers_of told) = search rules in
    let sent = names_fit texts (numbers_of told) list fits in
    handed_on c.from_residual-in_err-send_result.result _ _ c.from_residual-in_err-send_result.ensures.1
    (λ over. c.in_err-send_result.ensures.stays (subst (λ (ts : Option (List (Option (List ℕ)))).
    CanBeSent get_children2_response (ts, numbers_of told)) (sym (no_copy c.in_ok-children.children.elements)) sent) (cc))
