-- What entries do with a tree, by what their operations do.
use Rattle.std.proofs.Common.{◌≡◌, ℕ, ◌+◌, ◌<◌, ℤ, true, false, List, map, length, drop, get_or, Option, Some, None, Result, Ok, Err}
use Rattle.std.proofs.Common.{OnOk, is_ok, refl, sym, ap, ◌∙◌, String, w64, FitsSigned, to_z, of_z}
use Rattle.std.specs.Prelude.{string_bytes}
use Rattle.std.proofs.lemmas.List.{at_drop_more, map-id}
use Rattle.std.proofs.lemmas.Int.{to_z-of_z}
use Rattle.std.specs.Option.{option_map}
use Rattle.zk_jute.specs.Layout.{Value}
use Rattle.zk_jute.specs.Lenient.{or_empty}
use Rattle.zk_jute.specs.declared.then.Then.{Then}
use Rattle.zk_jute.specs.declared.list.List.{List as Listed}
use Rattle.zk_log.specs.declared.digest_node.Stamp.{Stamp}
use Rattle.zk_log.specs.declared.kind.TxnKind.TheVariants as kind
use Rattle.zk_log.specs.declared.txn.Txn.{Txn}
use Rattle.zk_log.specs.declared.txn.Txn.TheVariants as txn
use Rattle.zk_log.specs.Kinds.{part}
use Rattle.zk_log.specs.Parts.{operation_of, part_at}
use Rattle.zk_log.specs.Views.{kind_of, body_of, part_of}
use Rattle.zk_log.specs.Trees.{Tree, deleted}
use Rattle.zk_log.specs.Following.{operation_done, read_part_done, part_done, parts_done, all_parts_done, whole_done}
use Rattle.zk_log.specs.Following.{on_path, all_deleted, node_made}

-- what an outcome says is said of it with another error too
pub through : {X E F : Type 0} {P Q : Type 0} (r : Result X E) (s : Result X F) → is_ok s ≡ is_ok r → (P → Q) → OnOk r P → OnOk s Q
through (Ok x) (Ok y) same gives holds = gives holds
through (Err e) (Ok y) same gives holds = absurd (let bad : true ≡ false = same in cc)
through r (Err e) same gives holds = tt

-- the operation that is found is the one that is asked for
pub done_as : {A : Type 0} (stamp : Stamp) (one found : Txn A) (tree after : Tree) → one ≡ found
    → after ≡ operation_done stamp (kind_of found) (body_of found) tree → after ≡ operation_done stamp (kind_of one) (body_of one) tree
done_as stamp one found tree after is done = done ∙ ap (λ t. operation_done stamp (kind_of t) (body_of t) tree) (sym is)

-- a part of a multi does what its operation does
pub part_as : {A : Type 0} (stamp : Stamp) (one : Value part) (number : ℤ) (bytes : List ℕ) (found : Txn A) (tree after : Tree)
    → number ≡ one.0 → bytes ≡ or_empty one.1 → part_at number bytes ≡ Ok (operation_of found)
    → after ≡ operation_done stamp (kind_of found) (body_of found) tree → after ≡ part_done stamp one tree
part_as stamp one number bytes found tree after same is gives done =
    done ∙ ap (λ r. read_part_done stamp r tree) (sym gives) ∙ ap (λ (n : ℤ). read_part_done stamp (part_at n bytes) tree) same
    ∙ ap (λ (b : List ℕ). read_part_done stamp (part_at one.0 b) tree) is

-- an operation that is neither a multi nor a close without paths
pub whole_as : {A : Type 0} (stamp : Stamp) (paths : List (List ℕ)) (one : Txn A) (tree : Tree)
    → ((parts : Listed (Then ℤ (Option (List ℕ))) A) → one ≡ txn.Multi parts → ⊥) → (one ≡ txn.CloseSessionAlone → ⊥)
    → operation_done stamp (kind_of one) (body_of one) tree ≡ whole_done stamp paths (kind_of one) (body_of one) tree
whole_as stamp paths (txn.Multi parts) tree multi alone = absurd (multi parts refl)
whole_as stamp paths txn.CloseSessionAlone tree multi alone = absurd (alone refl)
whole_as stamp paths _ tree multi alone = refl

-- a list that is there or not, seen element by element
pub listed_as : {V X Y : Type 0} (items : V → List X) (view : X → Y) (listed : Option V)
    → map view (or_empty (option_map items listed)) ≡ or_empty (option_map (λ v. map view (items v)) listed)
listed_as items view None = refl
listed_as items view (Some v) = refl

-- one path more is deleted, one part more is done
pub deleted_more : (stamp : Stamp) (paths : List (Option (List ℕ))) (i : ℕ) (path seen : Option (List ℕ)) (tree after whole : Tree)
    → i < length paths → seen ≡ path → path ≡ get_or paths i path → after ≡ on_path seen (deleted stamp) tree
    → all_deleted stamp (drop i paths) tree ≡ whole → all_deleted stamp (drop (i + 1) paths) after ≡ whole
deleted_more stamp paths i path seen tree after whole within same is then so_far =
    ap (all_deleted stamp (drop (i + 1) paths)) (then ∙ ap (λ p. on_path p (deleted stamp) tree) (same ∙ is))
    ∙ sym (at_drop_more (λ left. all_deleted stamp left tree) paths i path within) ∙ so_far

pub paths_more : {Y : Type 0} (stamp : Stamp) (paths : List (String Y)) (i : ℕ) (path : String Y) (seen : List ℕ) (tree after whole : Tree)
    → i < length paths → seen ≡ string_bytes path → path ≡ get_or paths i path → after ≡ deleted stamp seen tree
    → all_deleted stamp (map Some (map string_bytes (drop i paths))) tree ≡ whole
    → all_deleted stamp (map Some (map string_bytes (drop (i + 1) paths))) after ≡ whole
paths_more stamp paths i path seen tree after whole within same is then so_far =
    ap (all_deleted stamp (map Some (map string_bytes (drop (i + 1) paths))))
    (then ∙ ap (λ text. deleted stamp text tree) (same ∙ ap string_bytes is))
    ∙ sym (at_drop_more (λ left. all_deleted stamp (map Some (map string_bytes left)) tree) paths i path within) ∙ so_far

pub parts_more : {X : Type 0} (view : X → Value part) (stamp : Stamp) (parts : List X) (i : ℕ) (one : X) (tree after whole : Tree)
    → i < length parts → one ≡ get_or parts i one → after ≡ part_done stamp (view one) tree
    → all_parts_done stamp (map view (drop i parts)) tree ≡ whole → all_parts_done stamp (map view (drop (i + 1) parts)) after ≡ whole
parts_more view stamp parts i one tree after whole within is then so_far =
    ap (all_parts_done stamp (map view (drop (i + 1) parts))) (then ∙ ap (λ p. part_done stamp (view p) tree) is)
    ∙ sym (at_drop_more (λ left. all_parts_done stamp (map view left) tree) parts i one within) ∙ so_far

-- a close deletes the paths that it tells
pub closed_as : {A : Type 0} (stamp : Stamp) (paths : Listed (Option (List ℕ)) A) (items : List (Option (List ℕ))) (tree after : Tree)
    → items ≡ or_empty (option_map (λ v. v.items) paths.elements) → after ≡ all_deleted stamp items tree
    → after ≡ operation_done stamp kind.CloseSession (option_map (λ v. map (λ t. t) v.items) paths.elements) tree
closed_as stamp paths items tree after listed done =
    done ∙ ap (λ ps. all_deleted stamp ps tree) (listed ∙ sym (map-id _) ∙ listed_as (λ v. v.items) (λ t. t) paths.elements)

-- a node is made of what is found
pub made_as : (stamp : Stamp) (path text content bytes : Option (List ℕ)) (owner session cversion number : ℤ) (tree after : Tree)
    → path ≡ text → content ≡ bytes → owner ≡ session → cversion ≡ number → after ≡ node_made stamp path content owner cversion tree
    → after ≡ node_made stamp text bytes session number tree
made_as stamp path text content bytes owner session cversion number tree after named filled owned raised made =
    made ∙ ap (λ p. node_made stamp p content owner cversion tree) named ∙ ap (λ b. node_made stamp text b owner cversion tree) filled
    ∙ ap (λ o. node_made stamp text bytes o cversion tree) owned ∙ ap (λ n. node_made stamp text bytes session n tree) raised

abbrev pub stamped : (zxid time session : ℤ) → Stamp
stamped zxid time session = record { zxid = zxid; time = time; session = session }

-- the stamp of numbers that fit is made of them
pub same_stamp : (zxid time session : ℤ) → FitsSigned w64 zxid → FitsSigned w64 time → FitsSigned w64 session
    → stamped (to_z w64 (of_z w64 zxid)) (to_z w64 (of_z w64 time)) (to_z w64 (of_z w64 session)) ≡ stamped zxid time session
same_stamp zxid time session fits then too =
    λ i. stamped (to_z-of_z w64 zxid fits i) (to_z-of_z w64 time then i) (to_z-of_z w64 session too i)

-- a multi does what its parts do
pub multi_as : {A : Type 0} (stamp found : Stamp) (paths : List (List ℕ)) (one : Txn A) (parts : Listed (Then ℤ (Option (List ℕ))) A)
    (items : List (Then ℤ (Option (List ℕ)))) (tree after : Tree) → found ≡ stamp → one ≡ txn.Multi parts
    → items ≡ or_empty (option_map (λ v. v.items) parts.elements) → after ≡ parts_done found (map part_of items) tree
    → after ≡ whole_done stamp paths (kind_of one) (body_of one) tree
multi_as stamp found paths one parts items tree after same is listed done =
    done ∙ ap (λ s. parts_done s (map part_of items) tree) same
    ∙ ap (λ ps. parts_done stamp ps tree) (ap (map part_of) listed ∙ listed_as (λ v. v.items) part_of parts.elements)
    ∙ ap (λ t. whole_done stamp paths (kind_of t) (body_of t) tree) (sym is)

pub rest_as : {A : Type 0} (stamp found : Stamp) (paths : List (List ℕ)) (one : Txn A) (tree after : Tree) → found ≡ stamp
    → ((parts : Listed (Then ℤ (Option (List ℕ))) A) → one ≡ txn.Multi parts → ⊥) → (one ≡ txn.CloseSessionAlone → ⊥)
    → after ≡ operation_done found (kind_of one) (body_of one) tree → after ≡ whole_done stamp paths (kind_of one) (body_of one) tree
rest_as stamp found paths one tree after same multi alone done =
    done ∙ ap (λ s. operation_done s (kind_of one) (body_of one) tree) same ∙ whole_as stamp paths one tree multi alone
