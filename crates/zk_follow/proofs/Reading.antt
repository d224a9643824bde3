-- A read that is on its way is a call that waits: its question tells side and path, so it is found by them.
use Rattle.std.proofs.Common.{◌≡◌, ℕ, ℤ, Bool, true, false, ◌&&◌, ◌||◌, List, [], ◌∷◌, refl, sym, ap, ◌∙◌, eq-eqb}
use Rattle.std.specs.Prelude.{◌==◌, bytes_eq}
use Rattle.std.specs.List.{list_any}
use Rattle.std.proofs.lemmas.List.Folds.{list_any-append}
use Rattle.std.proofs.lemmas.Slice.Eq.{bytes_eq-Decides}
use Rattle.std.proofs.lemmas.Bool.Decides.{Decides-eqb}
use Rattle.zk_nodes.specs.Path.{Text}
use Rattle.zk_nodes.specs.declared.side.Side.{Side}
use Rattle.zk_nodes.specs.declared.side.Side.TheVariants.{Data, Child}
use Rattle.zk_conversation.specs.Pending.{Pending, Waiting, Part_waits, Call_waits}
use Rattle.zk_conversation.specs.Questions.{Question, Exists, GetData, GetChildren}
use Rattle.zk_follow.specs.Following.{is_read_by, read_of, reads}
use Rattle.zk_follow.proofs.Waiting.{Waits}

same_text : (path : Text) → bytes_eq path path ≡ true
same_text path = (bytes_eq-Decides path path).1 refl

pub reads_it : (side : Side) (is_missing : Bool) (path : Text) → reads side path (read_of side is_missing path) ≡ true
reads_it Data false path = same_text path
reads_it Child false path = same_text path
reads_it Data true path = same_text path
reads_it Child true path = same_text path

-- a question that reads a subject is one of the two
pub is_one_of : (side : Side) (path : Text) (question : Question)
    → reads side path question ≡ true → (is_missing : Bool) × (question ≡ read_of side is_missing path)
is_one_of Data path (GetData at true) e = (false, ap (λ p. GetData p true) ((bytes_eq-Decides at path).0 e))
is_one_of Child path (GetChildren at true) e = (false, ap (λ p. GetChildren p true) ((bytes_eq-Decides at path).0 e))
is_one_of Data path (Exists at true) e = (true, ap (λ p. Exists p true) ((bytes_eq-Decides at path).0 e))
is_one_of Child path (Exists at true) e = (true, ap (λ p. Exists p true) ((bytes_eq-Decides at path).0 e))
is_one_of side path _ e = absurd cc

either : (a b : Bool) → b ≡ true → (a || b) ≡ true
either true b e = refl
either false b e = e

both : (a b : Bool) → a ≡ true → b ≡ true → (a && b) ≡ true
both true b d e = e
both false b d e = absurd cc

first_of : (a b : Bool) → (a && b) ≡ true → a ≡ true
first_of true b e = refl
first_of false b e = absurd cc

second_of : (a b : Bool) → (a && b) ≡ true → b ≡ true
second_of true b e = e
second_of false b e = absurd cc

module _ (ticket : ℕ) (side : Side) (path : Text) where
  pub reads_one : (xid : ℤ) (is_missing : Bool)
      → is_read_by ticket side path (record { xid = xid; waiting = Call_waits ticket (read_of side is_missing path) }) ≡ true
  reads_one xid is_missing =
      both (ticket == ticket) (reads side path (read_of side is_missing path)) (eq-eqb ticket ticket refl) (reads_it side is_missing path)

  -- a call that waits is found
  pub is_found : (is_missing : Bool) (pending : List Pending)
      → Waits ticket (read_of side is_missing path) pending → list_any (is_read_by ticket side path) pending ≡ true
  is_found is_missing pending w =
      let call : Pending = record { xid = w.0; waiting = Call_waits ticket (read_of side is_missing path) } in
      ap (list_any (is_read_by ticket side path)) w.3 ∙ list_any-append (is_read_by ticket side path) w.1 (call ∷ w.2)
      ∙ either (list_any (is_read_by ticket side path) w.1) (list_any (is_read_by ticket side path) (call ∷ w.2))
      (ap (λ b. b || list_any (is_read_by ticket side path) w.2) (reads_one w.0 is_missing))

  one_waits : (xid : ℤ) (waiting : Waiting) (after : List Pending)
      → is_read_by ticket side path (record { xid = xid; waiting = waiting }) ≡ true
      → (is_missing : Bool) × Waits ticket (read_of side is_missing path) (record { xid = xid; waiting = waiting } ∷ after)
  one_waits xid (Part_waits last) after e = absurd cc
  one_waits xid (Call_waits its question) after e =
      let same : ticket ≡ its = (Decides-eqb ticket its).0 (first_of (ticket == its) (reads side path question) e) in
      let is = is_one_of side path question (second_of (ticket == its) (reads side path question) e) in (
        is.0,
        (
          xid,
          [],
          after,
          ap (λ t. record { xid = xid; waiting = Call_waits t question } ∷ after) (sym same)
              ∙ ap (λ q. record { xid = xid; waiting = Call_waits ticket q } ∷ after) is.1,
        ),
      )

  -- and one that is found waits
  pub is_there : (pending : List Pending)
      → list_any (is_read_by ticket side path) pending ≡ true → (is_missing : Bool) × Waits ticket (read_of side is_missing path) pending
  is_there [] e = absurd cc
  is_there (first ∷ after) e = by (is_there after) (is_read_by ticket side path first) refl e
    where
      by : (list_any (is_read_by ticket side path) after ≡ true → (is_missing : Bool) × Waits ticket (read_of side is_missing path) after)
          → (b : Bool) → is_read_by ticket side path first ≡ b → (b || list_any (is_read_by ticket side path) after) ≡ true
          → (is_missing : Bool) × Waits ticket (read_of side is_missing path) (first ∷ after)
      by further true here all = one_waits first.xid first.waiting after here
      by further false here all =
          let rest = further all in
          (rest.0, (rest.1.0, first ∷ rest.1.1, rest.1.2, ap (λ more. first ∷ more) rest.1.3))
