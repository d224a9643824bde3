-- When something is due while a session is Connected.
use Rattle.std.proofs.Common.{◌≡◌, ℕ, ◌*◌, max, Bool, true, false, ◌||◌, refl, sym, ap, subst, ◌∙◌}
use Rattle.std.specs.Prelude.{Option, Some, None, if◌then◌else◌}
use Rattle.zk_session.specs.declared.states.Due.TheVariants.{Nothing, Ping, Silent}
use Rattle.zk_session.specs.declared.states.State.{State}
use Rattle.zk_session.specs.declared.states.State.TheVariants.{Connected}
use Rattle.zk_session.specs.SessionView.{SessionView}
use Rattle.zk_session.specs.Table.{IsFirst, has_passed, is_due, is_due_at}

-- a condition that is so of the same moments has the same first one
first_alike : (is_so as_well : ℕ → Bool) (first : Option ℕ) → ((moment : ℕ) → as_well moment ≡ is_so moment)
    → IsFirst is_so first → IsFirst as_well first
first_alike is_so as_well (Some first) same is = (λ moment before. same moment ∙ is.0 moment before, same first ∙ is.1)
first_alike is_so as_well None same is = λ moment told. same moment ∙ is moment told

due_if : (silent ping : Bool) → is_due (if silent then Silent else (if ping then Ping else Nothing)) ≡ (silent || ping)
due_if true ping = refl
due_if false true = refl
due_if false false = refl

-- silence, or a ping
due_connected : (kept : SessionView) (moment : ℕ) → kept.state ≡ Connected
    → is_due_at kept moment ≡ (has_passed (2 * kept.saved.session.timeout) kept.moments.heard (max moment kept.moments.now)
    || has_passed kept.saved.session.timeout kept.moments.sent (max moment kept.moments.now))
due_connected kept moment e =
    ap (λ (s : State). is_due_at (record { state = s; saved = kept.saved; moments = kept.moments }) moment) e
    ∙ due_if (has_passed (2 * kept.saved.session.timeout) kept.moments.heard (max moment kept.moments.now))
    (has_passed kept.saved.session.timeout kept.moments.sent (max moment kept.moments.now))

-- the earlier of the two
pub due_first : (now inside : SessionView) (timeout as_well : ℕ) (silence ping first : Option ℕ) → now ≡ inside → inside.state ≡ Connected
    → timeout ≡ inside.saved.session.timeout → as_well ≡ inside.saved.session.timeout
    → IsFirst (λ moment. has_passed (2 * timeout) inside.moments.heard (max moment inside.moments.now)) silence
    → IsFirst (λ moment. has_passed as_well inside.moments.sent (max moment inside.moments.now)) ping
    → ((is_so is_other : ℕ → Bool) → IsFirst is_so silence → IsFirst is_other ping
    → IsFirst (λ moment. is_so moment || is_other moment) first)
    → IsFirst (is_due_at now) first
due_first now inside timeout as_well silence ping first same connected t u silent pings both =
    subst (λ (k : SessionView). IsFirst (is_due_at k) first) (sym same)
    (first_alike _ (is_due_at inside) first (λ moment. due_connected inside moment connected)
    (both (λ moment. has_passed (2 * inside.saved.session.timeout) inside.moments.heard (max moment inside.moments.now))
    (λ moment. has_passed inside.saved.session.timeout inside.moments.sent (max moment inside.moments.now))
    (subst (λ n. IsFirst (λ moment. has_passed (2 * n) inside.moments.heard (max moment inside.moments.now)) silence) t silent)
    (subst (λ n. IsFirst (λ moment. has_passed n inside.moments.sent (max moment inside.moments.now)) ping) u pings)))
