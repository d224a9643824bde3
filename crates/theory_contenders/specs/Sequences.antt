-- Names that sequential creates make, and what follows of their order.
use Rattle.std.specs.Prelude.{ℕ, zero, suc, ◌≡◌, ◌<◌, ◌≤◌, ◌+◌, ◌/◌, ◌%◌, true, if◌then◌else◌, List, [], ◌∷◌, ◌++◌, length, is_some, ⊤}
use Rattle.zk_nodes.specs.Path.{Name, NodePath, path_eq}
use Rattle.zk_nodes.specs.History.{Change, Creates, Transaction, History, IsHistory, tree_at}
use Rattle.zk_conclusions.specs.Holders.{HasPrefix, NamesRise}
use Rattle.zk_conclusions.specs.Numbers.{Kind, is_numbered, is_one}
use Rattle.zk_conclusions.specs.Standings.{NumbersRise}

-- this many digits at the end of a number, with zeros before it where it has fewer
abbrev pub digits : (count number : ℕ) → Name
digits zero number = []
digits (suc count) number = digits count (number / 10) ++ (48 + number % 10) ∷ []

-- The name that a sequential create makes: the one that was asked for, and the number in ten digits. Past this number servers write a
-- sign, and the eleven characters are no number of this form.
pub record HasNumber (number : ℕ) (name : Name) : Type 0 where
  pub small : number ≤ 2147483647
  pub asked : Name
  pub made : name ≡ asked ++ digits 10 number

-- What a server counts of a directory for the names of sequential creates, after a change: the nodes that were made right below it, with
-- any name. A directory that is made begins at 0, and a deletion takes nothing away.
abbrev pub counter_after : NodePath → Change → ℕ → ℕ
counter_after dir (Creates (name ∷ above) content owner) counter =
    if path_eq above dir then counter + 1 else (if path_eq (name ∷ above) dir then 0 else counter)
counter_after dir _ counter = counter

-- the same after these changes, in order
abbrev pub counter_after_all : NodePath → List Change → ℕ → ℕ
counter_after_all dir [] counter = counter
counter_after_all dir (change ∷ changes) counter = counter_after_all dir changes (counter_after dir change counter)

-- Where a change makes a node right below dir with a name of the kind, this is a name that a sequential create makes there.
abbrev pub IsInSequence : NodePath → Kind → (counter : ℕ) → Change → Type 0
IsInSequence dir kind counter (Creates (name ∷ above) content owner) =
    path_eq above dir ≡ true → is_one kind name ≡ true → HasNumber counter name
IsInSequence dir kind counter _ = ⊤

-- each change is so after those before it
abbrev pub AreInSequence : NodePath → Kind → (counter : ℕ) → List Change → Type 0
AreInSequence dir kind counter [] = ⊤
AreInSequence dir kind counter (change ∷ changes) =
    IsInSequence dir kind counter change × AreInSequence dir kind (counter_after dir change counter) changes

-- so are those of each transaction
abbrev pub AllInSequence : NodePath → Kind → (counter : ℕ) → List Transaction → Type 0
AllInSequence dir kind counter [] = ⊤
AllInSequence dir kind counter (one ∷ more) =
    AreInSequence dir kind counter one.changes × AllInSequence dir kind (counter_after_all dir one.changes counter) more

-- Each name of the kind below dir was made by a sequential create, as ZooKeeper makes them; also those that were there at first, when the
-- counter stood at this number.
pub record MadeInSequence (h : History) (dir : NodePath) (kind : Kind) : Type 0 where
  pub counter : ℕ
  pub first : (name : Name) → is_some (h.first (name ∷ dir)) ≡ true → is_one kind name ≡ true
      → (number : ℕ) × (number < counter) × HasNumber number name
  pub made : AllInSequence dir kind counter h.transactions

-- Then numbers rise with creation.
abbrev pub SequencesRise : Type 0
SequencesRise = (h : History) (dir : NodePath) (kind : Kind) → IsHistory h → MadeInSequence h dir kind → NumbersRise h dir kind

-- ---- by prefix

-- the kind of the names with one marker, without rivals
abbrev pub alone : Name → Kind
alone marker = record { own = marker; against = [] }

-- Each name below dir that begins with the prefix is the prefix and a number.
abbrev pub AreNumberedOnly : History → NodePath → (prefix : Name) → Type 0
AreNumberedOnly h dir prefix = (zxid : ℕ) (name : Name) → is_some (tree_at h zxid (name ∷ dir)) ≡ true → HasPrefix prefix name
    → (length name ≡ length prefix + 10) × (is_numbered prefix name ≡ true)

-- Then names rise with creation too, in the order of bytes.
abbrev pub NamesInSequenceRise : Type 0
NamesInSequenceRise = (h : History) (dir : NodePath) (prefix : Name) → IsHistory h → MadeInSequence h dir (alone prefix)
    → AreNumberedOnly h dir prefix → NamesRise h dir prefix
