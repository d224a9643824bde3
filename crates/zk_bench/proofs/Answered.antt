-- What is answered to a read, and the watches that it leaves: read by read, where the node is there and where it is not.
use Rattle.std.proofs.Common.{ℕ, ℤ, pos, ◌≡◌, Bool, true, false, ◌&&◌, ◌||◌, List, [], ◌∷◌, ◌++◌, refl, ap, sym, ◌∙◌, subst, map, Option}
use Rattle.std.proofs.Common.{Some, None, cond}
use Rattle.std.proofs.lemmas.List.{append-nil}
use Rattle.std.proofs.lemmas.Cmp.{nat_list_cmp_total}
use mathlib.Core.Path.{fun_ext}
use Rattle.std.specs.Prelude.{bytes_eq, option_map, is_some, String, string_bytes, Vec, Ok, Err, IfErr}
use Rattle.std.specs.Prelude.{Result as Outcome}
use Rattle.std.specs.Result.{IsErrAnd}
use Rattle.std.specs.BTreeSet.{BTreeSet, contains_text}
use Rattle.std.specs.FinSet as set
use Rattle.zk_jute.specs.Layout.{Layout, Value}
use Rattle.zk_jute.specs.Spelling.{spelling}
use Rattle.zk_nodes.specs.Path.{Text, NodePath, path_eq, text_of, path_of, IsPathText, Name}
use Rattle.zk_nodes.specs.History.{History, Node, Tree, View, Contents, Absence, Children, view, contents_of, children_of, tree_at}
use Rattle.zk_history.specs.HistoryView.{natural}
use Rattle.zk_nodes.specs.Names.{Names}
use Rattle.zk_nodes.specs.inner.Names.{names_of as names_in}
use Rattle.zk_history.specs.Shown.{IsStat, stat_of as stat_told}
use Rattle.zk_nodes.specs.declared.side.Side.{Side}
use Rattle.zk_nodes.specs.declared.side.Side.TheVariants.{Data, Child}
use Rattle.zk_nodes.specs.declared.stat.Stat.{Stat}
use Rattle.zk_nodes.specs.DataStats.{data_stat_of}
use Rattle.zk_nodes.specs.declared.data_stat.DataStat.{DataStat}
use Rattle.zk_cache.specs.Kept.{Full, Absent, Known}
use Rattle.zk_turns.specs.Past.{names_of as listed}
use Rattle.zk_nodes.specs.StatLayout.{stat}
use Rattle.zk_nodes.proofs.NamesLemmas.{tested, contains-names_of}
use Rattle.zk_records.specs.Layouts.{reply_header, get_data_response, get_children2_response}
use Rattle.zk_conversation.specs.Questions.{Question, Exists, GetData, GetChildren, question_of}
use Rattle.zk_conversation.specs.Results.{Result, Read, Found, Listing, NoNode, stat_of, texts_of}
use Rattle.zk_laws.specs.Server.{Watches, both, sets, Reads, Fits, FitsNames}
use Rattle.zk_laws.specs.Messages.{Replies}
use Rattle.zk_laws.specs.Served.{IsPayload}
use Rattle.zk_laws.proofs.Basics.{path_eq-true, text_eq_from, text_path}
use Rattle.zk_bench.specs.Serving.{is_named, watches_of}
use Rattle.zk_bench.specs.inner.Serving.{watched, Sends}
use Rattle.zk_bench.specs.Answering.{name_set}
use Rattle.zk_bench.specs.inner.Answering.{FindsNone, ListsChildren, IsReadOf}
use Rattle.zk_conversation.specs.Calls.{Call}
use Rattle.zk_bench.specs.declared.connection.Connection.{Connection}
use Rattle.zk_conversation.specs.Calls as call
use Rattle.zk_nodes.specs.PathFault.{IsPath}
use Rattle.zk_records.specs.declared.read_request.ReadRequest.{ReadRequest}
use Rattle.zk_records.specs.declared.request.Request.TheVariants as requests
use Rattle.zk_bench.proofs.Watched.{named, other_text}

-- texts that are not null are those texts
texts_told : (texts : List Text) → texts_of (Some (map Some texts)) ≡ texts
texts_told [] = refl
texts_told (t ∷ ts) = ap (λ (us : List Text). t ∷ us) (texts_told ts)

-- A watch more

seen : (b c : Bool) → b ≡ false → (b || c) ≡ c
seen b c e = rw e refl

pub or-true : (b : Bool) → (b || true) ≡ true
or-true true = refl
or-true false = refl

pub or-false : (b : Bool) → (b || false) ≡ b
or-false true = refl
or-false false = refl

pub added : (texts : Names) (text : Text) (path : NodePath) → IsPathText text
    → (is_named path && set.contains (set.insert texts text) (text_of path))
    ≡ ((is_named path && set.contains texts (text_of path)) || path_eq path (path_of text))
added texts text path h = ap (λ (b : Bool). is_named path && b) left ∙ go (path_eq path (path_of text)) refl (is_named path) refl
  where
    left : set.contains (set.insert texts text) (text_of path) ≡ (bytes_eq (text_of path) text || set.contains texts (text_of path))
    left = set.contains-insert nat_list_cmp_total texts text (text_of path)
        ∙ ap (λ (b : Bool). b || set.contains texts (text_of path)) (tested (text_of path) text)

    go : (b : Bool) → path_eq path (path_of text) ≡ b → (n : Bool) → is_named path ≡ n
        → (n && (bytes_eq (text_of path) text || set.contains texts (text_of path))) ≡ ((n && set.contains texts (text_of path)) || b)
    go true e true f =
        let same : text_of path ≡ text = ap text_of (path_eq-true path (path_of text) e) ∙ text_path text h in
        ap (λ (b : Bool). b || set.contains texts (text_of path)) (text_eq_from (text_of path) text same)
        ∙ sym (or-true (set.contains texts (text_of path)))
    go true e false f =
        let at : path ≡ path_of text = path_eq-true path (path_of text) e in
        let yes : is_named path ≡ true = subst (λ (p : NodePath). is_named p ≡ true) (sym at) (named text h) in
        absurd cc
    go false e true f = seen (bytes_eq (text_of path) text) (set.contains texts (text_of path)) (other_text path text e f)
        ∙ sym (or-false (set.contains texts (text_of path)))
    go false e false f = refl

-- What is told

-- The data and the Stat of a node are what there is to see.
pub data_read : (tree : Tree) (path : NodePath) (bytes : Option (List ℕ)) (fields : DataStat) (told : Stat)
    → Contents bytes fields ≡ view Data tree path → IsStat tree path (Some told)
    → Fits (Full bytes (data_stat_of told)) (view Data tree path)
data_read tree path bytes fields told seen is = go (tree path) refl
  where
    content_of : View → Option (List ℕ)
    content_of (Contents content f) = content
    content_of v = None

    go : (o : Option Node) → tree path ≡ o → Fits (Full bytes (data_stat_of told)) (contents_of o)
    go None e = let f : Contents bytes fields ≡ contents_of None =
        subst (λ (x : Option Node). Contents bytes fields ≡ contents_of x) e seen in absurd cc
    go (Some node) e =
        let f : Contents bytes fields ≡ contents_of (Some node) =
        subst (λ (x : Option Node). Contents bytes fields ≡ contents_of x) e seen in
        let t : Some told ≡ Some (stat_told (set.len is.0) node) = is.2 ∙ ap (option_map (stat_told (set.len is.0))) e in
        let same : told ≡ stat_told (set.len is.0) node = ap (λ (x : Option Stat). elim x [ None ↦ told | Some y ↦ y ]) t in
        (ap content_of f, ap data_stat_of same)

-- where none is found there is none
pub none_read : (tree : Tree) (path : NodePath) → Absence ≡ view Data tree path → Fits Absent (view Data tree path)
none_read tree path e = subst (λ (v : View). Fits Absent v) e tt

pub none_told : (tree : Tree) (path : NodePath) → IsStat tree path None → Fits Absent (view Data tree path)
none_told tree path is = go (tree path) refl
  where
    go : (o : Option Node) → tree path ≡ o → Fits Absent (contents_of o)
    go None e = tt
    go (Some node) e = let t : None ≡ Some (stat_told (set.len is.0) node) =
        is.2 ∙ ap (option_map (stat_told (set.len is.0))) e in absurd cc

-- The payload of an answer to getData.
pub data_payload : (xid : ℤ) (zxid : ℕ) (text : Text) (watch : Bool) (bytes : Option (List ℕ)) (told : Stat) (value : Value stat)
    (old new : List ℕ) → Sends (xid, (pos zxid, pos 0)) get_data_response (bytes, value) old new
    → stat_of value ≡ told
    → IsPayload xid (Replies (GetData text watch) zxid (Read bytes told))
    (spelling reply_header (xid, (pos zxid, pos 0)) ++ spelling get_data_response (bytes, value))
data_payload xid zxid text watch bytes told value old new s same = (
  spelling get_data_response (bytes, value),
  record { fits = s.header_fits; whole = refl },
  (
    (bytes, value),
    record { ignored = []; fits = s.value_fits; whole = sym (append-nil (spelling get_data_response (bytes, value))) },
    ap (Read bytes) same,
  ),
)

-- the Stat at a path is that at its text
pub stat_found : (tree : Tree) (path text : Text) (told : Option Stat)
    → Some path ≡ Some text → IsStat tree (path_of path) told → IsStat tree (path_of text) told
stat_found tree path text told e is =
    subst (λ (t : Text). IsStat tree (path_of t) told) (ap (λ (o : Option Text). elim o [ None ↦ path | Some t ↦ t ]) e) is

-- What is watched

-- a data watch more
data_watch_left : (nodes parents : Names) (text : Text) (question : Question) (result : Result) → IsPathText text
    → ((path : NodePath) → sets question result Data path ≡ path_eq path (path_of text))
    → ((path : NodePath) → sets question result Child path ≡ false)
    → watches_of (set.insert nodes text) parents ≡ both (watches_of nodes parents) (sets question result)
data_watch_left nodes parents text question result h d c = fun_ext each
  where
    each : (side : Side) → watches_of (set.insert nodes text) parents side ≡ both (watches_of nodes parents) (sets question result) side
    each Data = fun_ext
        (λ path. added nodes text path h ∙ ap (λ (b : Bool). (is_named path && set.contains nodes (text_of path)) || b) (sym (d path)))
    each Child = fun_ext (λ path. sym (or-false (is_named path && set.contains parents (text_of path)))
        ∙ ap (λ (b : Bool). (is_named path && set.contains parents (text_of path)) || b) (sym (c path)))

-- a child watch more
child_watch_left : (nodes parents : Names) (text : Text) (question : Question) (result : Result) → IsPathText text
    → ((path : NodePath) → sets question result Data path ≡ false)
    → ((path : NodePath) → sets question result Child path ≡ path_eq path (path_of text))
    → watches_of nodes (set.insert parents text) ≡ both (watches_of nodes parents) (sets question result)
child_watch_left nodes parents text question result h d c = fun_ext each
  where
    each : (side : Side) → watches_of nodes (set.insert parents text) side ≡ both (watches_of nodes parents) (sets question result) side
    each Data = fun_ext (λ path. sym (or-false (is_named path && set.contains nodes (text_of path)))
        ∙ ap (λ (b : Bool). (is_named path && set.contains nodes (text_of path)) || b) (sym (d path)))
    each Child = fun_ext
        (λ path. added parents text path h ∙ ap (λ (b : Bool). (is_named path && set.contains parents (text_of path)) || b) (sym (c path)))

-- no watch more
unwatched : (w : Watches) (question : Question) (result : Result) → ((path : NodePath) → sets question result Data path ≡ false)
    → ((path : NodePath) → sets question result Child path ≡ false) → w ≡ both w (sets question result)
unwatched w question result d c =
    fun_ext (λ side. fun_ext (λ path. sym (ap (λ (b : Bool). w side path || b) (at side path) ∙ or-false (w side path))))
  where
    at : (side : Side) (path : NodePath) → sets question result side path ≡ false
    at Data path = d path
    at Child path = c path

-- the watch of a getData that is answered with the data
pub left_by : (nodes parents : Names) (text : Text) (watch : Bool) (bytes : Option (List ℕ)) (told : Stat) → IsPathText text
    → watches_of (cond watch (set.insert nodes text) nodes) parents
    ≡ both (watches_of nodes parents) (sets (GetData text watch) (Read bytes told))
left_by nodes parents text true bytes told h =
    data_watch_left nodes parents text (GetData text true) (Read bytes told) h (λ path. refl) (λ path. refl)
left_by nodes parents text false bytes told h =
    unwatched (watches_of nodes parents) (GetData text false) (Read bytes told) (λ path. refl) (λ path. refl)

-- and of one that finds no node
pub none_left : (w : Watches) (text : Text) (watch : Bool) → w ≡ both w (sets (GetData text watch) NoNode)
none_left w text true = unwatched w (GetData text true) NoNode (λ path. refl) (λ path. refl)
none_left w text false = unwatched w (GetData text false) NoNode (λ path. refl) (λ path. refl)

-- the watch of an exists that finds a node
pub exists_left : (nodes parents : Names) (text : Text) (watch : Bool) (told : Stat) → IsPathText text
    → watches_of (cond watch (set.insert nodes text) nodes) parents
    ≡ both (watches_of nodes parents) (sets (Exists text watch) (Found told))
exists_left nodes parents text true told h =
    data_watch_left nodes parents text (Exists text true) (Found told) h (λ path. refl) (λ path. refl)
exists_left nodes parents text false told h =
    unwatched (watches_of nodes parents) (Exists text false) (Found told) (λ path. refl) (λ path. refl)

-- and of one that finds none
pub absence_left : (nodes parents : Names) (text : Text) (watch : Bool) → IsPathText text
    → watches_of (cond watch (set.insert nodes text) nodes) parents ≡ both (watches_of nodes parents) (sets (Exists text watch) NoNode)
absence_left nodes parents text true h = data_watch_left nodes parents text (Exists text true) NoNode h (λ path. refl) (λ path. refl)
absence_left nodes parents text false h = unwatched (watches_of nodes parents) (Exists text false) NoNode (λ path. refl) (λ path. refl)

-- the watch of a getChildren that finds the node
pub children_left : (nodes parents : Names) (text : Text) (watch : Bool) (names : List Text) (told : Stat) → IsPathText text
    → watches_of nodes (cond watch (set.insert parents text) parents)
    ≡ both (watches_of nodes parents) (sets (GetChildren text watch) (Listing names told))
children_left nodes parents text true names told h =
    child_watch_left nodes parents text (GetChildren text true) (Listing names told) h (λ path. refl) (λ path. refl)
children_left nodes parents text false names told h =
    unwatched (watches_of nodes parents) (GetChildren text false) (Listing names told) (λ path. refl) (λ path. refl)

-- and of one that finds none
pub no_children_left : (w : Watches) (text : Text) (watch : Bool) → w ≡ both w (sets (GetChildren text watch) NoNode)
no_children_left w text true = unwatched w (GetChildren text true) NoNode (λ path. refl) (λ path. refl)
no_children_left w text false = unwatched w (GetChildren text false) NoNode (λ path. refl) (λ path. refl)

-- the node that a Stat was told of
told_node : (tree : Tree) (path : NodePath) (told : Stat) (P : Option Node → Type 0) → IsStat tree path (Some told)
    → ((children : ℕ) (node : Node) → told ≡ stat_told children node → P (Some node)) → P (tree path)
told_node tree path told P is then_so = go (tree path) refl
  where
    go : (o : Option Node) → tree path ≡ o → P o
    go None e = let f : Some told ≡ None = is.2 ∙ ap (option_map (stat_told (set.len is.0))) e in absurd cc
    go (Some node) e =
        let t : Some told ≡ Some (stat_told (set.len is.0) node) = is.2 ∙ ap (option_map (stat_told (set.len is.0))) e in
        then_so (set.len is.0) node (ap (λ (x : Option Stat). elim x [ None ↦ told | Some y ↦ y ]) t)

-- the Stat of a node is what there is to see
pub stat_read : (tree : Tree) (path : NodePath) (told : Stat) → IsStat tree path (Some told)
    → Fits (Known (data_stat_of told)) (view Data tree path)
stat_read tree path told is =
    told_node tree path told (λ o. Fits (Known (data_stat_of told)) (contents_of o)) is (λ children node e. ap data_stat_of e)

-- its children are
pub children_read : (tree : Tree) (path : NodePath) (names : List Text) (told : Stat) → IsStat tree path (Some told)
    → ((name : Name) → set.contains (name_set names) name ≡ is_some (tree (name ∷ path)))
    → FitsNames (listed names told) (view Child tree path)
children_read tree path names told is same =
    told_node tree path told (λ o. FitsNames (listed names told) (children_of (λ name. is_some (tree (name ∷ path))) o)) is
    (λ children node e. (ap (λ (s : Stat). s.pzxid) e, same))

no_node_told : (tree : Tree) (path : NodePath) → IsStat tree path None → tree path ≡ None
no_node_told tree path is = go (tree path) refl
  where
    go : (o : Option Node) → tree path ≡ o → o ≡ None
    go None e = refl
    go (Some node) e = let t : None ≡ Some (stat_told (set.len is.0) node) =
        is.2 ∙ ap (option_map (stat_told (set.len is.0))) e in absurd cc

-- no node, no children
pub none_to_list : (tree : Tree) (path : NodePath) → tree path ≡ None → Fits Absent (view Child tree path)
none_to_list tree path e = subst (λ (o : Option Node). Fits Absent (children_of (λ name. is_some (tree (name ∷ path))) o)) (sym e) tt

pub none_to_list_told : (tree : Tree) (path : NodePath) → IsStat tree path None → Fits Absent (view Child tree path)
none_to_list_told tree path is = none_to_list tree path (no_node_told tree path is)

-- a node that is there and is not there
pub both_told : (tree : Tree) (path : NodePath) (told : Stat) → IsStat tree path (Some told) → tree path ≡ None → ⊥
both_told tree path told is none = told_node tree path told (λ o. o ≡ None → ⊥) is (λ children node e f. absurd cc) none

pub data_none : (tree : Tree) (path : NodePath) → Absence ≡ view Data tree path → tree path ≡ None
data_none tree path e = go (tree path) refl
  where
    go : (o : Option Node) → tree path ≡ o → o ≡ None
    go None f = refl
    go (Some node) f = let g : Absence ≡ contents_of (Some node) = subst (λ (x : Option Node). Absence ≡ contents_of x) f e in absurd cc

pub names_none : (tree : Tree) (path : NodePath) → Absence ≡ view Child tree path → tree path ≡ None
names_none tree path e = go (tree path) refl
  where
    go : (o : Option Node) → tree path ≡ o → o ≡ None
    go None f = refl
    go (Some node) f = let g : Absence ≡ children_of (λ name. is_some (tree (name ∷ path))) (Some node) =
        subst (λ (x : Option Node). Absence ≡ children_of (λ name. is_some (tree (name ∷ path))) x) f e in absurd cc

-- the names that are found
pub names_found : {A : Type 0} (tree : Tree) (path : NodePath) (names : BTreeSet (String A)) (pzxid : ℤ)
    → Children (contains_text names) pzxid ≡ view Child tree path
    → (name : Name) → set.contains (names_in names) name ≡ is_some (tree (name ∷ path))
names_found tree path names pzxid e name = contains-names_of names name ∙ go (tree path) refl
  where
    present : View → (Name → Bool)
    present (Children p z) = p
    present v = λ n. false

    go : (o : Option Node) → tree path ≡ o → contains_text names name ≡ is_some (tree (name ∷ path))
    go None f = let g : Children (contains_text names) pzxid ≡ Absence =
        e ∙ ap (children_of (λ n. is_some (tree (n ∷ path)))) f in absurd cc
    go (Some node) f = ap (λ v. present v name) (e ∙ ap (children_of (λ n. is_some (tree (n ∷ path)))) f)

-- a Stat as eleven numbers in wire order
abbrev pub numbers_of : Stat → Value stat
numbers_of told = (
  told.czxid,
  (
    told.mzxid,
    (
      told.ctime,
      (
        told.mtime,
        (told.version, (told.cversion, (told.aversion, (told.ephemeral_owner, (told.data_length, (told.num_children, told.pzxid)))))),
      ),
    ),
  ),
)

-- what is sent under the xid and the zxid as they are read
pub sends_for : (layout : Layout) (read xid at : ℤ) (zxid : ℕ) (given value : Value layout) (old new : List ℕ)
    → read ≡ xid → at ≡ pos zxid → given ≡ value
    → Sends (read, (at, pos 0)) layout given old new → Sends (xid, (pos zxid, pos 0)) layout value old new
sends_for layout read xid at zxid given value old new x z v sends =
    subst (λ (k : ℤ). Sends (k, (pos zxid, pos 0)) layout value old new) x
    (subst (λ (k : ℤ). Sends (read, (k, pos 0)) layout value old new) z
    (subst (λ (w : Value layout). Sends (read, (at, pos 0)) layout w old new) v sends))

-- the payload of an answer to exists
pub stat_payload : (xid : ℤ) (zxid : ℕ) (text : Text) (watch : Bool) (told : Stat) (value : Value stat) (old new : List ℕ)
    → Sends (xid, (pos zxid, pos 0)) stat value old new
    → stat_of value ≡ told
    → IsPayload xid (Replies (Exists text watch) zxid (Found told)) (spelling reply_header (xid, (pos zxid, pos 0)) ++ spelling stat value)
stat_payload xid zxid text watch told value old new s same = (
  spelling stat value,
  record { fits = s.header_fits; whole = refl },
  (value, record { ignored = []; fits = s.value_fits; whole = sym (append-nil (spelling stat value)) }, ap Found same),
)

-- and to getChildren
pub names_payload : (xid : ℤ) (zxid : ℕ) (text : Text) (watch : Bool) (texts : Option (List (Option (List ℕ)))) (told : Stat)
    (value : Value stat) (old new : List ℕ)
    → Sends (xid, (pos zxid, pos 0)) get_children2_response (texts, value) old new → stat_of value ≡ told
    → IsPayload xid (Replies (GetChildren text watch) zxid (Listing (texts_of texts) told))
    (spelling reply_header (xid, (pos zxid, pos 0)) ++ spelling get_children2_response (texts, value))
names_payload xid zxid text watch texts told value old new s same = (
  spelling get_children2_response (texts, value),
  record { fits = s.header_fits; whole = refl },
  (
    (texts, value),
    record { ignored = []; fits = s.value_fits; whole = sym (append-nil (spelling get_children2_response (texts, value))) },
    ap (Listing (texts_of texts)) same,
  ),
)

-- the texts of names that are found
pub lists : {A : Type 0} (tree : Tree) (path : NodePath) (names : BTreeSet (String A)) (pzxid : ℤ) (texts : Option (List (Option (List ℕ))))
    → Children (contains_text names) pzxid ≡ view Child tree path
    → texts ≡ Some (map Some (map string_bytes names.keys)) → ListsChildren tree path texts
lists tree path names pzxid texts e is name =
    ap (λ (ts : Option (List (Option (List ℕ)))). set.contains (name_set (texts_of ts)) name) is
    ∙ ap (λ (ns : List Text). set.contains (name_set ns) name) (texts_told (map string_bytes names.keys))
    ∙ names_found tree path names pzxid e name

same_items : (ts : List (Option (List ℕ))) → map (λ t. t) ts ≡ ts
same_items [] = refl
same_items (t ∷ ts) = ap (λ us. t ∷ us) (same_items ts)

-- texts that are taken as they are
pub no_copy : {A : Type 0} (elements : Option (Vec (Option (List ℕ)) A))
    → option_map (λ v. map (λ t. t) v.items) elements ≡ option_map (λ v. v.items) elements
no_copy None = refl
no_copy (Some v) = ap Some (same_items v.items)

-- what is said of a refusal that is handed on
pub errs_so : {T E : Type 0} (r : Outcome T E) (Q P : E → Type 0) → IsErrAnd r Q → ((e : E) → Q e → P e) → IfErr r P
errs_so (Ok x) Q P h f = tt
errs_so (Err e) Q P h f = f e h

-- what a read finds where no node is there, beside how it is refused
pub finds_none : {A Refused : Type 0} (h : History) (zxid : ℕ) (held : ℤ) (path : NodePath) (asked : Call) (old new : Connection A)
    → Refused → held ≡ pos zxid → IsStat (tree_at h (natural held)) path None
    → (IsStat (tree_at h zxid) path None → Reads (tree_at h zxid) (question_of asked) NoNode) → new.output.items ≡ old.output.items
    → watched new.watches ≡ both (watched old.watches) (sets (question_of asked) NoNode)
    → new ≡ record old { watches = new.watches; output = new.output } → Refused × FindsNone (tree_at h zxid) asked old new
finds_none h zxid held path asked old new refused at none reads output left rest = (
  refused,
  record { reads = reads (subst (λ z. IsStat (tree_at h (natural z)) path None) at none); output = output; left = left; rest = rest },
)

-- Which read a request is

pub read_exists : {A : Type 0} (P : Call → Type 0) (r : ReadRequest A) (asked : Call)
    → IsReadOf (requests.Exists r) asked → ((text : Text) → IsPath text → r.path ≡ Some text → P (call.Exists text r.watch)) → P asked
read_exists P r (call.Exists text watch) is f = subst (λ (w : Bool). P (call.Exists text w)) is.2 (f text is.0 is.1)
read_exists P r one is f = absurd is

pub read_data : {A : Type 0} (P : Call → Type 0) (r : ReadRequest A) (asked : Call)
    → IsReadOf (requests.GetData r) asked → ((text : Text) → IsPath text → r.path ≡ Some text → P (call.GetData text r.watch)) → P asked
read_data P r (call.GetData text watch) is f = subst (λ (w : Bool). P (call.GetData text w)) is.2 (f text is.0 is.1)
read_data P r one is f = absurd is

pub read_children : {A : Type 0} (P : Call → Type 0) (r : ReadRequest A) (asked : Call) → IsReadOf (requests.GetChildren2 r) asked
    → ((text : Text) → IsPath text → r.path ≡ Some text → P (call.GetChildren text r.watch)) → P asked
read_children P r (call.GetChildren text watch) is f = subst (λ (w : Bool). P (call.GetChildren text w)) is.2 (f text is.0 is.1)
read_children P r one is f = absurd is
