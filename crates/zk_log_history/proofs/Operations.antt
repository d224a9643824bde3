-- The change of an operation that is found.
use Rattle.std.proofs.Common.{◌≡◌, ℕ, ℤ, List, Option, Ok, Err, Some, sym, ap, ◌∙◌}
use Rattle.zk_jute.specs.Layout.{Value}
use Rattle.zk_jute.specs.Lenient.{or_empty}
use Rattle.zk_nodes.specs.History.{Change}
use Rattle.zk_log.specs.declared.txn.Txn.{Txn}
use Rattle.zk_log.specs.Kinds.{part}
use Rattle.zk_log.specs.Parts.{operation_of, part_at}
use Rattle.zk_log.specs.Views.{kind_of, body_of}
use Rattle.zk_log.specs.declared.entry_fault.EntryFault.{EntryFault}
use Rattle.zk_log_history.specs.Changes.{created, operation_change, listed, read_changes, part_changes}
use Rattle.zk_log_history.specs.Refused.{operation_fault, part_fault, read_fault}
use Rattle.zk_log_history.specs.declared.untold.Untold.{Untold}
use Rattle.zk_log_history.specs.declared.untold.Untold.TheVariants as untold

pub change_as : {A : Type 0} (s : ℤ) (one found : Txn A) (change : Option Change)
    → one ≡ found → change ≡ operation_change s (kind_of found) (body_of found) → change ≡ operation_change s (kind_of one) (body_of one)
change_as s one found change is made = made ∙ ap (λ t. operation_change s (kind_of t) (body_of t)) (sym is)

pub created_as : (change : Option Change) (owner session : ℤ) (path text bytes content : Option (List ℕ))
    → owner ≡ session → path ≡ text → bytes ≡ content → change ≡ created owner path bytes → change ≡ created session text content
created_as change owner session path text bytes content owned named filled made =
    made ∙ ap (λ o. created o path bytes) owned ∙ ap (λ p. created session p bytes) named ∙ ap (λ b. created session text b) filled

-- a part of a multi changes what its operation changes
pub part_as : {A : Type 0} (s session : ℤ) (one : Value part) (number : ℤ) (bytes : List ℕ) (found : Txn A) (change : Option Change)
    → session ≡ s → number ≡ one.0 → bytes ≡ or_empty one.1 → part_at number bytes ≡ Ok (operation_of found)
    → change ≡ operation_change session (kind_of found) (body_of found) → listed change ≡ part_changes s one
part_as s session one number bytes found change fits same is gives made =
    ap listed made ∙ ap (λ (n : ℤ). listed (operation_change n (kind_of found) (body_of found))) fits
    ∙ ap (read_changes s) (sym gives) ∙ ap (λ (n : ℤ). read_changes s (part_at n bytes)) same
    ∙ ap (λ (b : List ℕ). read_changes s (part_at one.0 b)) is

-- the fault of the operation that is found
pub fault_as : {A : Type 0} (one found : Txn A) (fault : Option Untold) → one ≡ found
    → fault ≡ operation_fault (kind_of found) (body_of found) → fault ≡ operation_fault (kind_of one) (body_of one)
fault_as one found fault is same = same ∙ ap (λ t. operation_fault (kind_of t) (body_of t)) (sym is)

-- a part that is read has the fault of its operation
pub part_fault_as : {A : Type 0} (one : Value part) (number : ℤ) (bytes : List ℕ) (found : Txn A)
    → number ≡ one.0 → bytes ≡ or_empty one.1 → part_at number bytes ≡ Ok (operation_of found)
    → operation_fault (kind_of found) (body_of found) ≡ part_fault one
part_fault_as one number bytes found same is gives =
    ap read_fault (sym gives) ∙ ap (λ (n : ℤ). read_fault (part_at n bytes)) same
    ∙ ap (λ (b : List ℕ). read_fault (part_at one.0 b)) is

-- and one that is not, the fault of reading it
pub part_unread_as : (one : Value part) (number : ℤ) (bytes : List ℕ) (why : EntryFault)
    → number ≡ one.0 → bytes ≡ or_empty one.1 → part_at number bytes ≡ Err why → part_fault one ≡ Some (untold.Part why)
part_unread_as one number bytes why same is gives =
    sym (ap (λ (n : ℤ). read_fault (part_at n bytes)) same ∙ ap (λ (b : List ℕ). read_fault (part_at one.0 b)) is)
    ∙ ap read_fault gives
