-- What is pending, as it is taken: by induction on it, since what a taking skips has no ticket, and is answered nothing.
use Rattle.std.proofs.Common.{◌≡◌, ℕ, ℤ, suc, ◌<◌, ◌≤◌, List, [], ◌∷◌, ◌++◌, length, Option, Some, None, refl, ap, sym, ◌∙◌, arith}
use Rattle.std.specs.Prelude.{is_some, if◌then◌else◌}
use Rattle.std.specs.List.{flat_map}
use Rattle.zk_conversation.specs.Pending.{Talk, Pending, Waiting, Part_waits, Call_waits, ticket_of, or_else, first_ticket, after_ticket}
use Rattle.zk_conversation.specs.Pending.{taken_ticket, talk_taken}
use Rattle.zk_conversation.specs.declared.phase.Phase.{Phase}
use Rattle.zk_conversation.specs.declared.phase.Phase.TheVariants.{Closed, Opening, Talking}
use Rattle.zk_turns.specs.Turns.{Output, Answer, ConnectionLoss}
use Rattle.zk_turns.specs.Rule.{loss}

-- what is answered to the oldest call
abbrev pub loss_of : Option ℕ → List Output
loss_of None = []
loss_of (Some ticket) = Answer ticket ConnectionLoss ∷ []

losses-first : (xid : ℤ) (waiting : Waiting) (more : List Pending)
    → flat_map loss more ≡ loss_of (first_ticket more) ++ flat_map loss (after_ticket more)
    → flat_map loss (record { xid = xid; waiting = waiting } ∷ more) ≡ loss_of (or_else (ticket_of waiting) (first_ticket more))
    ++ flat_map loss (if is_some (ticket_of waiting) then more else after_ticket more)
losses-first xid (Part_waits last) more ih = ih
losses-first xid (Call_waits ticket question) more ih = refl

pub losses-taken : (pending : List Pending) → flat_map loss pending ≡ loss_of (first_ticket pending) ++ flat_map loss (after_ticket pending)
losses-taken [] = refl
losses-taken (oldest ∷ more) = losses-first oldest.xid oldest.waiting more (losses-taken more)

shorter-first : (waiting : Waiting) (more : List Pending) (ticket : ℕ)
    → (first_ticket more ≡ Some ticket → length (after_ticket more) < length more)
    → or_else (ticket_of waiting) (first_ticket more) ≡ Some ticket
    → length (if is_some (ticket_of waiting) then more else after_ticket more) < suc (length more)
shorter-first (Part_waits last) more ticket ih e = let h = ih e in omega arith
shorter-first (Call_waits other question) more ticket ih e = omega arith

pub taken-shorter : (pending : List Pending) (ticket : ℕ)
    → first_ticket pending ≡ Some ticket → length (after_ticket pending) < length pending
taken-shorter [] ticket e = absurd cc
taken-shorter (oldest ∷ more) ticket e = shorter-first oldest.waiting more ticket (taken-shorter more ticket) e

none-first : (waiting : Waiting) (more : List Pending) → (first_ticket more ≡ None → after_ticket more ≡ [])
    → or_else (ticket_of waiting) (first_ticket more) ≡ None → (if is_some (ticket_of waiting) then more else after_ticket more) ≡ []
none-first (Part_waits last) more ih e = ih e
none-first (Call_waits other question) more ih e = absurd cc

pub none-taken : (pending : List Pending) → first_ticket pending ≡ None → after_ticket pending ≡ []
none-taken [] e = refl
none-taken (oldest ∷ more) e = none-first oldest.waiting more (none-taken more) e

-- once the connection is over
pub record IsTaken (talk : Talk) : Type 0 where
  pub ticket : taken_ticket talk ≡ first_ticket talk.pending
  pub rest : talk_taken talk ≡ record { phase = Closed; pending = after_ticket talk.pending; xid = talk.xid }

taken-over : (phase : Phase) (pending : List Pending) (xid : ℕ)
    → phase ≡ Closed → IsTaken (record { phase = phase; pending = pending; xid = xid })
taken-over Closed pending xid e = record { ticket = refl; rest = refl }
taken-over Opening pending xid e = absurd cc
taken-over Talking pending xid e = absurd cc

pub taken-is : (talk : Talk) → talk.phase ≡ Closed → IsTaken talk
taken-is talk e = taken-over talk.phase talk.pending talk.xid e

-- A ticket was taken: what is answered to it and to the calls after it.
pub record TakesOne (old new : Talk) (ticket : ℕ) : Type 0 where
  pub phase : new.phase ≡ Closed
  pub xid : new.xid ≡ old.xid
  pub shorter : suc (length new.pending) ≤ length old.pending
  pub told : flat_map loss old.pending ≡ Answer ticket ConnectionLoss ∷ flat_map loss new.pending

pub takes-one : (old new : Talk) (ticket : ℕ)
    → old.phase ≡ Closed → Some ticket ≡ taken_ticket old → new ≡ talk_taken old → TakesOne old new ticket
takes-one old new ticket over is rest =
    let t = taken-is old over in
    let here : first_ticket old.pending ≡ Some ticket = sym t.ticket ∙ sym is in
    let after : new ≡ record { phase = Closed; pending = after_ticket old.pending; xid = old.xid } = rest ∙ t.rest in
    let left : new.pending ≡ after_ticket old.pending = ap (λ (t : Talk). t.pending) after in
    record {
      phase = ap (λ (t : Talk). t.phase) after;
      xid = ap (λ (t : Talk). t.xid) after;
      shorter = rw left (taken-shorter old.pending ticket here);
      told = losses-taken old.pending ∙ ap (λ o. loss_of o ++ flat_map loss (after_ticket old.pending)) here
          ∙ ap (λ p. Answer ticket ConnectionLoss ∷ flat_map loss p) (sym left);
    }

-- None was there, and nothing is left.
pub record TakesNone (old new : Talk) : Type 0 where
  pub phase : new.phase ≡ Closed
  pub xid : new.xid ≡ old.xid
  pub pending : new.pending ≡ []
  pub told : flat_map loss old.pending ≡ []

pub takes-none : (old new : Talk) → old.phase ≡ Closed → None ≡ taken_ticket old → new ≡ talk_taken old → TakesNone old new
takes-none old new over is rest =
    let t = taken-is old over in
    let here : first_ticket old.pending ≡ None = sym t.ticket ∙ sym is in
    let after : new ≡ record { phase = Closed; pending = after_ticket old.pending; xid = old.xid } = rest ∙ t.rest in
    let none = none-taken old.pending here in
    record {
      phase = ap (λ (t : Talk). t.phase) after;
      xid = ap (λ (t : Talk). t.xid) after;
      pending = ap (λ (t : Talk). t.pending) after ∙ none;
      told = losses-taken old.pending ∙ ap (λ o. loss_of o ++ flat_map loss (after_ticket old.pending)) here ∙ ap (flat_map loss) none;
    }
