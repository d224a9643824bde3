-- What writes make, and which are refused: write by write, a refusal by its code, and the name of a sequential node by its number and
-- digits.
use Rattle.std.proofs.Common.{◌-◌, nat_lt, nat_le, ◌||◌, map, take, get_or, length, List, ◌<◌, ◌^◌, ◌≡◌, ◌+◌, ◌≤◌, ℕ, ℤ, zero, suc, pos}
use Rattle.std.proofs.Common.{Bool, false, cond, [], ◌∷◌, ◌++◌, Option, Some, None, refl, sym, ap, ◌∙◌, subst, arith}
use Rattle.std.specs.Prelude.{unwrap_or, bytes_eq, slice_get, count_by, min, replicate, Ok, Err, IfErr, OnOk}
use Rattle.std.specs.Prelude.{Result as Outcome}
use Rattle.std.specs.Result.{IsErrAnd}
use Rattle.std.proofs.lemmas.List.Sums.{sum_by-cons, sum_by_more}
use Rattle.std.proofs.lemmas.List.{take_all, append-nil}
use Rattle.std.proofs.lemmas.Option.{none-some}
use Rattle.std.specs.Fmt.{styled_decimal, padded_integral, char_count, format_spec, decimal}
use borrow.Author.Tests.{le-ltb, lt-leb}
use Rattle.std.specs.FinSet as set
use Rattle.std.specs.Option.{option_map}
use Rattle.zk_nodes.specs.Path.{Text, NodePath, path_of, parent_of}
use Rattle.zk_nodes.specs.History.{Node, Tree, Change, Transaction, AreRising, newest}
use Rattle.zk_history.specs.HistoryView.{HistoryView, IsAccepted, made_transaction, with_transaction, first_tree, newest_tree, HasChildren}
use Rattle.zk_history.specs.Refused.{ChangeRefused}
use Rattle.zk_history.specs.declared.history_fault.HistoryFault.{HistoryFault}
use Rattle.zk_history.specs.declared.history_fault.HistoryFault.TheVariants.{Place, Order, Illegal, Memory}
use Rattle.zk_nodes.specs.PathFault.{fault_of, fault_told, IsPath}
use Rattle.zk_nodes.specs.declared.path_fault.PathFault.{PathFault}
use Rattle.zk_nodes.specs.declared.path_fault.PathFault.TheVariants as path_faults
use Rattle.zk_nodes.specs.declared.stat.Stat.{Stat}
use Rattle.zk_nodes.specs.Names.{Names}
use Rattle.zk_history.specs.Shown.{IsStat, stat_of}
use Rattle.zk_history.proofs.ViewLemmas.{same_count}
use Rattle.zk_records.specs.declared.code.Code.{Code}
use Rattle.zk_records.specs.declared.code.Code.TheVariants as codes
use Rattle.zk_laws.specs.Server.{is_sequential}
use Rattle.zk_laws.proofs.Stamps.{after-append}
use Rattle.zk_bench.specs.declared.stop.Refusal.{Refusal}
use Rattle.zk_bench.specs.declared.stop.Refusal.TheVariants as refusals
use Rattle.zk_bench.specs.inner.Refusals.{IsCode, refusal_of_path}
use Rattle.zk_bench.specs.Writing.{appended}
use Rattle.zk_bench.specs.inner.Writing.{mode_of, IsAnswer, IsStatAt, text_unless, path_told, node_of, node_at, data_refusal}
use Rattle.zk_bench.specs.inner.Writing.{set_refusal, removal_refusal, absence_refusal, deletion_refusal, AreBeside, makes_below}
use Rattle.zk_bench.specs.inner.Writing.{creates_below}
use Rattle.zk_bench.specs.inner.Writing.{ten_digits, numbered_text, is_over, AppendRefused}
use Rattle.zk_bench.proofs.Continuing.{last_with-append}
use Rattle.zk_bench.proofs.Placed.{is_room}

-- A change that is appended is the last transaction.
pub appended-transactions : (kept : HistoryView) (time : ℕ) (change : Change) → (appended kept time change).transactions
    ≡ kept.transactions ++ made_transaction (newest 0 kept.transactions + 1) (pos time) (change ∷ []) ∷ []
appended-transactions kept time change =
    last_with-append kept.transactions (made_transaction (newest 0 kept.transactions + 1) (pos time) []) change

-- The flags 0 to 3 have a mode, and tell whether it is sequential.
pub mode_of-low : (n : ℕ) → n ≤ 3 → option_map (λ (mode : Bool × Bool). mode.1) (mode_of (pos n)) ≡ Some (is_sequential n)
mode_of-low zero low = refl
mode_of-low (suc zero) low = refl
mode_of-low (suc (suc zero)) low = refl
mode_of-low (suc (suc (suc zero))) low = refl
mode_of-low (suc (suc (suc (suc n)))) low = absurd (omega (arith, low))

-- A write that is refused with a code is refused with one that has a name.
pub answer-bad_arguments : (refusal : Refusal) → (IsCode refusal → refusal ≡ refusals.Code codes.BadArguments) → IsAnswer refusal
answer-bad_arguments (refusals.Code code) is = subst IsAnswer (sym (is tt)) tt
answer-bad_arguments (refusals.Stop stop) is = tt

-- The node at the text of a path is that at the path.
pub path_told-some : (tree : Tree) (text at : Text) → path_told text ≡ Some at → (at ≡ text) × (node_at tree text ≡ tree (path_of text))
path_told-some tree text at told = go (fault_of text) told
  where
    go : (fault : Option PathFault)
        → text_unless fault text ≡ Some at → (at ≡ text) × (node_of tree (text_unless fault text) ≡ tree (path_of text))
    go None e = (ap (λ (o : Option Text). unwrap_or o text) (sym e), refl)
    go (Some fault) e = absurd cc

-- the Stat at a path is that at its text
pub stat-at : (tree : Tree) (text at : Text) (told : Option Stat)
    → path_told text ≡ Some at → IsStat tree (path_of at) told → IsStatAt tree text told
stat-at tree text at told is seen =
    let h = path_told-some tree text at is in
    let here : IsStat tree (path_of text) told = subst (λ (t : Text). IsStat tree (path_of t) told) h.0 seen in
    (here.0, here.1, here.2 ∙ ap (option_map (stat_of (set.len here.0))) (sym h.1))

-- Data are refused at a node as at its Stat.
data_at_stat : (node : Option Node) (count : ℕ) (told : Stat) (asked : ℤ)
    → Some told ≡ option_map (stat_of count) node → set_refusal node asked ≡ data_refusal asked told.version
data_at_stat None count told asked is = absurd cc
data_at_stat (Some node) count told asked is = ap (λ (o : Option Stat). data_refusal asked (unwrap_or o told).version) (sym is)

pub set-at : (tree : Tree) (text : Text) (told : Stat) (asked given held : ℤ) (refused : Option Code) → IsStatAt tree text (Some told)
    → given ≡ asked → held ≡ told.version
    → refused ≡ data_refusal given held → set_refusal (node_at tree text) asked ≡ refused
set-at tree text told asked given held refused is same version by =
    data_at_stat (node_at tree text) (set.len is.0) told asked is.2
    ∙ sym (by ∙ ap (λ (z : ℤ). data_refusal z held) same ∙ ap (data_refusal asked) version)

-- A node is kept as its Stat says.
kept_at_stat : (node : Option Node) (count : ℕ) (told : Stat) (asked : ℤ)
    → Some told ≡ option_map (stat_of count) node → absence_refusal node count asked ≡ removal_refusal asked told.version told.num_children
kept_at_stat None count told asked is = absurd cc
kept_at_stat (Some node) count told asked is =
    ap (λ (o : Option Stat). removal_refusal asked (unwrap_or o told).version (unwrap_or o told).num_children) (sym is)

kept_below : (tree : Tree) (text : Text) (told : Stat) (names : Names) (asked : ℤ) → IsStatAt tree text (Some told)
    → HasChildren tree (path_of text) names
    → bytes_eq text (47 ∷ []) ≡ false
    → deletion_refusal tree text (set.len names) asked ≡ removal_refusal asked told.version told.num_children
kept_below tree text told names asked is children below =
    let same : set.len is.0 ≡ set.len names = same_count tree (path_of text) is.0 names is.1 children in
    ap (λ (root : Bool). cond root (Some codes.BadArguments) (absence_refusal (node_at tree text) (set.len names) asked)) below
    ∙ kept_at_stat (node_at tree text) (set.len names) told asked (is.2 ∙ ap (λ (n : ℕ). option_map (stat_of n) (node_at tree text)) same)

pub kept-at : (tree : Tree) (text read : Text) (told : Stat) (names : Names) (asked given : ℤ) (refused : Option Code)
    → HasChildren tree (path_of text) names → read ≡ text → IsStatAt tree read (Some told)
    → bytes_eq read (47 ∷ []) ≡ false → given ≡ asked → refused ≡ removal_refusal given told.version told.num_children
    → deletion_refusal tree text (set.len names) asked ≡ refused
kept-at tree text read told names asked given refused children same is below version by =
    kept_below tree text told names asked (subst (λ (t : Text). IsStatAt tree t (Some told)) same is) children
    (ap (λ (t : Text). bytes_eq t (47 ∷ [])) (sym same) ∙ below)
    ∙ sym (by ∙ ap (λ (z : ℤ). removal_refusal z told.version told.num_children) version)

-- How many children the parent has

count_told : (node : Option Node) (count : ℕ) (told : Stat) → Some told ≡ option_map (stat_of count) node → told.num_children ≡ pos count
count_told None count told is = absurd cc
count_told (Some node) count told is = ap (λ (o : Option Stat). (unwrap_or o told).num_children) is

-- the names below the parent of a path are beside it
pub beside_there : (tree : Tree) (path parent : NodePath) (names : Names)
    → Some parent ≡ parent_of path → HasChildren tree parent names → (others : Names) × AreBeside tree path others
beside_there tree [] parent names above children = absurd cc
beside_there tree (name ∷ path) parent names above children =
    let same : parent ≡ path = ap (λ (o : Option NodePath). unwrap_or o parent) above in
    (names, subst (λ (p : NodePath). HasChildren tree p names) same children)

-- the Stat of the parent of a path tells how many names are beside that of the path
pub beside_counted : (tree : Tree) (path parent : NodePath) (told : Stat) (names : Names)
    → Some parent ≡ parent_of path → IsStat tree parent (Some told) → AreBeside tree path names
    → told.num_children ≡ pos (set.len names)
beside_counted tree [] parent told names above seen beside = absurd cc
beside_counted tree (name ∷ path) parent told names above seen beside =
    let same : parent ≡ path = ap (λ (o : Option NodePath). unwrap_or o parent) above in
    let here : IsStat tree path (Some told) = subst (λ (p : NodePath). IsStat tree p (Some told)) same seen in
    count_told (tree path) (set.len here.0) told here.2 ∙ ap pos (same_count tree path here.0 names here.1 beside)

-- Numbers of sequential nodes

counted_mapped : {X : Type 0} (test : Change → Bool) (f : X → Change) (xs : List X)
    → count_by test (map f xs) ≡ count_by (λ x. test (f x)) xs
counted_mapped test f [] = refl
counted_mapped test f (x ∷ xs) =
    sum_by-cons (λ c. cond (test c) 1 0) (f x) (map f xs) ∙ ap (λ (n : ℕ). cond (test (f x)) 1 0 + n) (counted_mapped test f xs)
    ∙ sym (sum_by-cons (λ y. cond (test (f y)) 1 0) x xs)

is_there : (ts : List Transaction) (n : ℕ) (one : Transaction) → slice_get ts n ≡ Some one → get_or ts n one ≡ one
is_there [] n one is = absurd (none-some one is)
is_there (t ∷ ts) zero one is = ap (λ (o : Option Transaction). unwrap_or o one) is
is_there (t ∷ ts) (suc n) one is = is_there ts n one is

-- one transaction more
pub counted_more : {X : Type 0} (parent : NodePath) (ts : List Transaction) (n zxid : ℕ) (time : ℤ) (f : X → Change) (xs : List X)
    → slice_get ts n ≡ Some (made_transaction zxid time (map f xs))
    → creates_below parent (take (n + 1) ts) ≡ creates_below parent (take n ts) + count_by (λ x. makes_below parent (f x)) xs
counted_more parent ts n zxid time f xs is =
    let one = made_transaction zxid time (map f xs) in
    sum_by_more (λ (t : Transaction). count_by (makes_below parent) t.changes) ts n one (is_room ts n one is)
    ∙ ap (λ (t : Transaction). creates_below parent (take n ts) + count_by (makes_below parent) t.changes) (is_there ts n one is)
    ∙ ap (λ (k : ℕ). creates_below parent (take n ts) + k) (counted_mapped (makes_below parent) f xs)

-- a sum that stops at a bound
pub saturated : (total more count bound sum all : ℕ)
    → count ≡ min total bound → sum ≡ min (count + more) bound → all ≡ total + more → sum ≡ min all bound
saturated total more count bound sum all counted summed added = omega arith

-- all transactions
pub counted_all : (parent : NodePath) (ts : List Transaction) (n count : ℕ)
    → length ts ≤ n → count ≡ min (creates_below parent (take n ts)) 18446744073709551615
    → count ≡ min (creates_below parent ts) 18446744073709551615
counted_all parent ts n count whole counted =
    counted ∙ ap (λ (xs : List Transaction). min (creates_below parent xs) 18446744073709551615) (take_all n ts whole)

-- Rising transactions are fewer than zxids.
pub short : (low : ℕ) (ts : List Transaction) → low < 2 ^ 63 → AreRising low ts → low + length ts < 2 ^ 63
short low [] small rising = omega (arith, small)
short low (one ∷ more) small rising = let rest = short one.zxid more rising.1 rising.2 in omega (arith, rising.0, rest)

-- the digits as they are written
ten_written : (number : ℕ) → styled_decimal (format_spec 32 0 4 10 (2 ^ 64 - 1)) number ≡ ten_digits number
unfolding padded_integral char_count
ten_written number =
    let width : 10 - length (decimal number) - 0 - 0 ≡ 10 - length (decimal number) = omega arith in
    ap (λ (n : ℕ). replicate n 48 ++ (decimal number ++ [])) width
    ∙ ap (λ (t : Text). replicate (10 - length (decimal number)) 48 ++ t) (append-nil (decimal number))

-- the text of a sequential node, as it is written
pub numbered_as : (asked : Text) (total number : ℕ) (text : Text) → number ≡ min total 18446744073709551615 → number ≤ 9999999999
    → text ≡ asked ++ styled_decimal (format_spec 32 0 4 10 (2 ^ 64 - 1)) number → numbered_text asked total ≡ path_told text
numbered_as asked total number text counted low written =
    let same : number ≡ total = omega arith in
    let test : nat_lt 9999999999 total ≡ false = le-ltb 9999999999 total (omega (arith, same, low)) in
    let digits : styled_decimal (format_spec 32 0 4 10 (2 ^ 64 - 1)) number ≡ ten_digits total = ten_written number ∙ ap ten_digits same in
    ap (λ (b : Bool). cond b None (path_told (asked ++ ten_digits total))) test ∙ ap (λ (t : Text). path_told (asked ++ t)) (sym digits)
    ∙ ap path_told (sym written)

-- a text that is that of a path
pub path_told-path : (text path : Text) → IsPath text → path ≡ text → path_told text ≡ Some path
path_told-path text path is same = ap (λ (fault : Option PathFault). text_unless fault text) is ∙ ap Some (sym same)

-- A text that is refused with a code is that of no path.
refused_text : (text : Text) (fault : PathFault) → IsCode (refusal_of_path fault) → fault_of text ≡ fault_told fault → path_told text ≡ None
refused_text text path_faults.Empty code is = ap (λ (f : Option PathFault). text_unless f text) is
refused_text text path_faults.TooLong code is = ap (λ (f : Option PathFault). text_unless f text) is
refused_text text path_faults.NoSlashFirst code is = ap (λ (f : Option PathFault). text_unless f text) is
refused_text text path_faults.BadCharacter code is = ap (λ (f : Option PathFault). text_unless f text) is
refused_text text path_faults.EmptyName code is = ap (λ (f : Option PathFault). text_unless f text) is
refused_text text path_faults.DotName code is = ap (λ (f : Option PathFault). text_unless f text) is
refused_text text path_faults.SlashInName code is = ap (λ (f : Option PathFault). text_unless f text) is
refused_text text path_faults.Memory code is = absurd code

pub no_path : {X : Type 0} (result : Outcome X Refusal) (text : Text) (fault : PathFault) (outcome : Option Text)
    → outcome ≡ path_told text → IsErrAnd result (λ refusal. refusal ≡ refusal_of_path fault)
    → fault_of text ≡ fault_told fault → IfErr result (λ refusal. IsCode refusal → outcome ≡ None)
no_path (Ok x) text fault outcome same gives is = tt
no_path (Err refusal) text fault outcome same gives is = λ code. same ∙ refused_text text fault (subst IsCode gives code) is

-- Where a change is appended

-- A transaction with no change leaves the tree.
pub tree_begun : (old mid : HistoryView) (zxid : ℕ) (time : ℤ) → mid ≡ with_transaction old zxid time → newest_tree mid ≡ newest_tree old
tree_begun old mid zxid time is = ap newest_tree is ∙ after-append old.transactions (made_transaction zxid time [] ∷ []) (first_tree old)

not_empty : {X : Type 0} (xs : List X) (x : X) → xs ++ x ∷ [] ≡ [] → ⊥
not_empty [] x e = cc
not_empty (y ∷ ys) x e = cc

pub some_begun : (old mid : HistoryView) (zxid : ℕ) (time : ℤ) → mid ≡ with_transaction old zxid time → mid.transactions ≡ [] → ⊥
some_begun old mid zxid time is none =
    not_empty old.transactions (made_transaction zxid time []) (sym (ap (λ (k : HistoryView). k.transactions) is) ∙ none)

pub append_told : {X : Type 0} (result : Outcome X HistoryFault) (old mid : HistoryView) (zxid time : ℕ) (at : ℤ) (change : Change)
    → mid ≡ with_transaction old zxid at → is_over old time ≡ false
    → IfErr result (ChangeRefused mid change) → IfErr result (AppendRefused old time change)
append_told (Ok x) old mid zxid time at change begun over refused = tt
append_told (Err Place) old mid zxid time at change begun over refused = some_begun old mid zxid at begun refused
append_told (Err Order) old mid zxid time at change begun over refused = absurd refused
append_told (Err Illegal) old mid zxid time at change begun over refused =
    (over, λ accepted. refused.1 (subst (λ (tree : Tree). IsAccepted change tree) (sym (tree_begun old mid zxid at begun)) accepted))
append_told (Err Memory) old mid zxid time at change begun over refused = over

pub append_accepted : {X : Type 0} (result : Outcome X HistoryFault) (old mid : HistoryView) (zxid : ℕ) (at : ℤ) (change : Change)
    → mid ≡ with_transaction old zxid at
    → OnOk result (IsAccepted change (newest_tree mid)) → OnOk result (IsAccepted change (newest_tree old))
append_accepted (Ok x) old mid zxid at change begun accepted =
    subst (λ (tree : Tree). IsAccepted change tree) (tree_begun old mid zxid at begun) accepted
append_accepted (Err fault) old mid zxid at change begun accepted = tt

pub room_left : (newest_zxid time : ℕ) → newest_zxid < 9223372036854775807 → time ≤ 9223372036854775807
    → (nat_le 9223372036854775807 newest_zxid || nat_lt 9223372036854775807 time) ≡ false
room_left newest_zxid time low early = ap (λ (b : Bool). b || nat_lt 9223372036854775807 time) (lt-leb 9223372036854775807 newest_zxid low)
    ∙ le-ltb 9223372036854775807 time early
