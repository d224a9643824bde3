-- Lengths of what a server sends: a notice, a Stat, and the answers to a create and to a ConnectRequest fit a frame, since each of their
-- fields is short; the data of a node with its Stat do where they fit a reply. And when an error is not the one that ends a connection.
use Rattle.std.proofs.Common.{ℕ, ℤ, pos, ◌≡◌, ◌+◌, ◌≤◌, ap, ◌∙◌, arith, true, List, [], ◌++◌, length, length-append, Option, Some, None}
use Rattle.std.specs.Prelude.{FitsSigned, Ok, Err, IsErrOf}
use Rattle.std.specs.Prelude.{Result as Outcome}
use Rattle.std.specs.Result.{IsErrAnd}
use Rattle.std.specs.Int.{w32, w64}
use Rattle.std.specs.Str.{is_utf8}
use Rattle.zk_jute.specs.Layout.{Value, buffer, ustring}
use Rattle.zk_jute.specs.Spelling.{spelling, Fits}
use Rattle.zk_nodes.specs.History.{Change, Node, View, Contents, contents_of, size_of}
use Rattle.zk_nodes.specs.declared.data_stat.DataStat.{DataStat}
use Rattle.zk_nodes.specs.StatLayout.{stat}
use Rattle.zk_nodes.specs.PathFault.{IsPath}
use Rattle.zk_nodes.proofs.PathLemmas.{IsPath-parts}
use Rattle.zk_records.specs.Layouts.{reply_header, watcher_event, create_response, get_data_response}
use Rattle.zk_records.specs.Response.{response_spelling}
use Rattle.zk_conversation.proofs.Lengths.{length-int, length-long, length-counted, length-text}
use Rattle.zk_history.specs.HistoryView.{HistoryView, IsAccepted, newest_tree}
use Rattle.zk_bench.specs.declared.stop.Stop.TheVariants as stops
use Rattle.zk_bench.specs.declared.stop.Refusal.{Refusal}
use Rattle.zk_bench.specs.declared.stop.Refusal.TheVariants as refusals
use Rattle.zk_bench.specs.inner.Writing.{WriteRefused}
use Rattle.zk_bench.specs.inner.Serving.{CanBeSent, CanBeTold}
use Rattle.zk_bench.specs.Answerable.{DataFit}

-- what was written after nothing, and is lent
pub lent-length : (lent payload begun written : List ℕ)
    → lent ≡ payload → payload ≡ begun ++ written → begun ≡ [] → length lent ≡ length written
lent-length lent payload begun written a b none = ap length (a ∙ b ∙ ap (λ (bs : List ℕ). bs ++ written) none)

pub length-header : (header : Value reply_header) → length (spelling reply_header header) ≡ 16
length-header header = simp (length-append, length-int, length-long)

pub length-reply : (header : Value reply_header) (written : List ℕ) → length (spelling reply_header header ++ written) ≡ 16 + length written
length-reply header written =
    length-append (spelling reply_header header) written ∙ ap (λ (n : ℕ). n + length written) (length-header header)

pub length-stat : (value : Value stat) → length (spelling stat value) ≡ 68
length-stat value = simp (length-append, length-int, length-long)

-- a path is short
short_path : (path : List ℕ) → IsPath path → length path ≤ 4096
short_path path is = let parts = IsPath-parts path is in omega (arith, parts.1)

text_fits : (path : List ℕ) → IsPath path → is_utf8 path ≡ true → Fits ustring (Some path)
text_fits path is utf8 = let low = short_path path is in (omega (arith, low), utf8)

-- a notice of it
pub notice_fits : (kind : ℤ) (path : List ℕ)
    → FitsSigned w32 kind → IsPath path → is_utf8 path ≡ true → CanBeSent watcher_event (kind, (pos 3, Some path))
notice_fits kind path k is utf8 =
    let low = short_path path is in
    let long : length (spelling watcher_event (kind, (pos 3, Some path))) ≡ 12 + length path =
    simp (length-append, length-int, length-text) (omega arith) in
    record { fits = (k, (record { sfits = omega arith }, text_fits path is utf8)); small = omega (arith, low, long) }

-- and the answer to the create that makes it
pub made_fits : (path : List ℕ) → IsPath path → is_utf8 path ≡ true → CanBeSent create_response (Some path)
made_fits path is utf8 =
    let low = short_path path is in
    let long = length-text path in
    record { fits = text_fits path is utf8; small = omega (arith, low, long) }

-- an answer to a ConnectRequest with sixteen bytes of password
pub response_fits : (timeout session : ℤ) (password : Option (List ℕ)) (bytes : List ℕ)
    → FitsSigned w32 timeout → FitsSigned w64 session → password ≡ Some bytes → length bytes ≡ 16
    → CanBeTold (record { front = (pos 0, (timeout, (session, password))); read_only = None })
response_fits timeout session (Some password) bytes t s is sixteen =
    let count : length password ≡ 16 = ap (λ (o : Option (List ℕ)). length {A = ℕ} (elim o [ None ↦ bytes | Some p ↦ p ])) is ∙ sixteen in
    let long : length (response_spelling (record { front = (pos 0, (timeout, (session, Some password))); read_only = None }))
    ≡ 20 + length password =
    simp (length-append, length-int, length-long, length-counted) (omega arith) in
    record { fits = (record { sfits = omega arith }, (t, (s, omega (arith, count)))); small = omega (arith, count, long) }
response_fits timeout session None bytes t s is sixteen = absurd cc

-- an error that is handed on is not another one
pub handed_on : {T E : Type 0} (r : Outcome T E) (why end : E) → IsErrAnd r (λ e. e ≡ why) → (why ≡ end → ⊥) → IsErrOf r end → ⊥
handed_on (Ok x) why end is never over = cc
handed_on (Err e) why end is never over = never (cc)

-- data that were read are not too long
pub data_small : (bytes : Option (List ℕ)) → Fits buffer bytes → size_of bytes ≤ 2147483647
data_small None fits = omega arith
data_small (Some bytes) fits = omega (arith, fits)

-- a write that the tree admits is not made for want of memory alone
pub taken_write : (kept : HistoryView) (time : ℕ) (change : Change) (refusal : Refusal)
    → WriteRefused kept time change refusal → IsAccepted change (newest_tree kept) → refusal ≡ refusals.Stop stops.End → ⊥
taken_write kept time change (refusals.Code code) told accepted over = cc
taken_write kept time change (refusals.Stop stop) told accepted over = let memory = told.1 accepted in cc

-- a Stat is short
pub stat_fits : (value : Value stat) → Fits stat value → CanBeSent stat value
stat_fits value fits = let long = length-stat value in record { fits = fits; small = omega (arith, long) }

-- the data of a node that fit, with its Stat
pub data_fits : (node : Option Node) (bytes : Option (List ℕ)) (fields : DataStat) (value : Value stat)
    → Contents bytes fields ≡ contents_of node → DataFit node → Fits stat value → CanBeSent get_data_response (bytes, value)
data_fits None bytes fields value seen fit fits = absurd cc
data_fits (Some node) bytes fields value seen fit fits = go bytes (ap content_of seen)
  where
    content_of : View → Option (List ℕ)
    content_of (Contents content f) = content
    content_of v = None

    go : (content : Option (List ℕ)) → content ≡ node.content → CanBeSent get_data_response (content, value)
    go None same =
        let long : length (spelling get_data_response (None, value)) ≡ 4 + 68 = length-append (spelling buffer None) (spelling stat value)
        ∙ ap (λ (n : ℕ). length (spelling buffer None) + n) (length-stat value) ∙ ap (λ (n : ℕ). n + 68) (length-counted None) in
        record { fits = (tt, fits); small = omega (arith, long, fit) }
    go (Some content) same =
        let count : length content ≡ size_of node.content = ap size_of same in
        let long : length (spelling get_data_response (Some content, value)) ≡ (4 + length content) + 68 =
        length-append (spelling buffer (Some content)) (spelling stat value)
        ∙ ap (λ (n : ℕ). length (spelling buffer (Some content)) + n) (length-stat value)
        ∙ ap (λ (n : ℕ). n + 68) (length-counted (Some content)) in
        record { fits = (omega (arith, count, fit), fits); small = omega (arith, long, count, fit) }
