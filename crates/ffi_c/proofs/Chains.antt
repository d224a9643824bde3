-- What a device leaves out of what it tells are answers to calls of its own: no report, no other state, and no end of a call of its
-- program. And what it takes beside its program's inputs are such calls: no bytes, and no call of the program.
use Rattle.std.proofs.Common.{◌≡◌, ◌++◌, ◌+◌, ◌≤◌, ◌<◌, inl, inr, ℕ, false, ◌||◌, cond, List, [], ◌∷◌, map, refl, sym, ap}
use Rattle.std.proofs.Common.{◌∙◌, arith, subst, Some, None}
use Rattle.std.proofs.lemmas.Bool.{ne_eqb}
use Rattle.std.proofs.lemmas.List.{map-append}
use Rattle.std.proofs.lemmas.List.Sums.{sum_by-append}
use Rattle.std.specs.Prelude.{◌⊎◌, ◌==◌, fold}
use Rattle.std.specs.List.{flat_map, list_any, AllByRecursion}
use Rattle.std.specs.declared.alloc.Global.{Global}
use Rattle.zk_turns.specs.Turns.{Output}
use Rattle.zk_agent.specs.declared.action.Action.{Action}
use Rattle.zk_agent.specs.declared.action.Action.TheVariants as action
use Rattle.zk_agent.specs.declared.agent.Agent.{Agent}
use Rattle.zk_agent.specs.declared.input.AgentInput.{AgentInput}
use Rattle.zk_agent.specs.declared.input.AgentInput.TheVariants as happens
use Rattle.zk_agent.specs.Agents.{how_many_asked, how_many_ended}
use Rattle.zk_agent.specs.Calls.{how_many}
use Rattle.zk_agent.specs.Telling.{action_view, is_end_of, told_by}
use Rattle.ffi_device.specs.Chains.{first_own, IsOwn, IsOwnAnswer, Part, TellsAllBut, TookAll}
use Rattle.ffi_device.specs.Happenings.{Happening, Calls, happening, is_bytes}
use Rattle.ffi_device.specs.Revisions.{is_another}
use Rattle.ffi_device.specs.Steps.{Took}
use Rattle.ffi_device.specs.declared.device.Device.{Device}
use Rattle.ffi_c.specs.Pasts.{reported}

-- ---- what is left out

answer_reports : {A : Type 0} (one : Action A) → IsOwnAnswer one → (before : List Output) → reported before (action_view one) ≡ before
answer_reports (action.Answer ticket outcome) own before = refl
answer_reports _ own before = absurd own

answer_begins : {A : Type 0} (one : Action A) → IsOwnAnswer one → is_another (action_view one) ≡ false
answer_begins (action.Answer ticket outcome) own = refl
answer_begins _ own = absurd own

apart : (first ticket its : ℕ) → ticket < first → first ≤ its → (its == ticket) ≡ false
apart first ticket its below from = ne_eqb its ticket (λ e. omega (arith, below, from, e))

answer_ends : {A : Type 0} (ticket : ℕ) (one : Action A) → ticket < first_own → IsOwnAnswer one → is_end_of ticket (action_view one) ≡ false
answer_ends ticket (action.Answer its outcome) below own = apart first_own ticket its below own
answer_ends ticket _ below own = absurd own

pub reported_but : {A : Type 0} (said told : List (Action A)) → TellsAllBut said told → (base : List Output)
    → fold reported base (told_by told) ≡ fold reported base (told_by said)
reported_but [] told same base = ap (λ t. fold reported base (told_by t)) same
reported_but (one ∷ said) told (inl but) base =
    reported_but said told but.1 base ∙ ap (λ t. fold reported t (told_by said)) (sym (answer_reports one but.0 base))
reported_but (one ∷ said) told (inr tells) base =
    ap (λ t. fold reported base (told_by t)) tells.1 ∙ reported_but said tells.0 tells.2 (reported base (action_view one))

pub another_but : {A : Type 0} (said told : List (Action A)) → TellsAllBut said told
    → list_any is_another (told_by told) ≡ list_any is_another (told_by said)
another_but [] told same = ap (λ t. list_any is_another (told_by t)) same
another_but (one ∷ said) told (inl but) =
    another_but said told but.1 ∙ ap (λ b. b || list_any is_another (told_by said)) (sym (answer_begins one but.0))
another_but (one ∷ said) told (inr tells) =
    ap (λ t. list_any is_another (told_by t)) tells.1
    ∙ ap (λ b. is_another (action_view one) || b) (another_but said tells.0 tells.2)

ends_first : {A : Type 0} (ticket : ℕ) (one : Action A) (said : List (Action A)) → how_many_ended ticket (told_by (one ∷ said))
    ≡ how_many_ended ticket (told_by (one ∷ [])) + how_many_ended ticket (told_by said)
ends_first ticket one said = sum_by-append (λ told. cond (is_end_of ticket told) 1 0) (action_view one ∷ []) (told_by said)

left_out : (told first rest all : ℕ) → all ≡ first + rest → first ≡ 0 → told ≡ rest → told ≡ all
left_out told first rest all sums none same = omega (arith, sums, none, same)

both_told : (told first rest left all : ℕ) → told ≡ first + left → left ≡ rest → all ≡ first + rest → told ≡ all
both_told told first rest left all sums same all_sums = omega (arith, sums, same, all_sums)

ended_but : {A : Type 0} (ticket : ℕ) (said told : List (Action A)) → ticket < first_own → TellsAllBut said told
    → how_many_ended ticket (told_by told) ≡ how_many_ended ticket (told_by said)
ended_but ticket [] told below same = ap (λ t. how_many_ended ticket (told_by t)) same
ended_but ticket (one ∷ said) told below (inl but) =
    left_out (how_many_ended ticket (told_by told)) (how_many_ended ticket (told_by (one ∷ []))) (how_many_ended ticket (told_by said))
    (how_many_ended ticket (told_by (one ∷ said))) (ends_first ticket one said)
    (ap (λ b. 0 + cond b 1 0) (answer_ends ticket one below but.0)) (ended_but ticket said told below but.1)
ended_but ticket (one ∷ said) told below (inr tells) =
    both_told (how_many_ended ticket (told_by told)) (how_many_ended ticket (told_by (one ∷ []))) (how_many_ended ticket (told_by said))
    (how_many_ended ticket (told_by tells.0)) (how_many_ended ticket (told_by (one ∷ said)))
    (ap (λ t. how_many_ended ticket (told_by t)) tells.1 ∙ ends_first ticket one tells.0)
    (ended_but ticket said tells.0 below tells.2) (ends_first ticket one said)

-- ---- what is taken

no_bytes : (what : Happening) → IsOwn what → is_bytes what ≡ false
no_bytes (Calls ticket asked None) own = refl
no_bytes (Calls ticket asked (Some until)) own = absurd own
no_bytes _ own = absurd own

pub all_no_bytes : (own : List Part) → AllByRecursion (λ part. IsOwn (happening part.given)) own
    → AllByRecursion (λ part. is_bytes (happening part.given) ≡ false) own
all_no_bytes [] are = tt
all_no_bytes (part ∷ own) are = (no_bytes (happening part.given) are.0, all_no_bytes own are.1)

pub inputs_own : (own : List Part) → AllByRecursion (λ part. IsOwn (happening part.given)) own
    → AllByRecursion (λ its. IsOwn (happening its)) (map (λ part. part.given) own)
inputs_own [] are = tt
inputs_own (part ∷ own) are = (are.0, inputs_own own are.1)

not_asked : (ticket : ℕ) (given : AgentInput Global) → ticket < first_own → IsOwn (happening given) → how_many_asked ticket given ≡ 0
not_asked ticket (happens.Call its call None) below own = ap (λ b. cond b 1 0) (apart first_own ticket its below own)
not_asked ticket (happens.Call its call (Some until)) below own = absurd own
not_asked ticket _ below own = absurd own

-- ---- the calls of a program

abbrev pub waits : (ticket : ℕ) → Agent Global → ℕ
waits ticket agent = how_many ticket agent.asker.line.entries.items

abbrev pub ends : (ticket : ℕ) → List (Action Global) → ℕ
ends ticket said = how_many_ended ticket (told_by said)

abbrev pub said_of : List Part → List (Action Global)
said_of parts = flat_map (λ part. part.said) parts

ends_both : (ticket : ℕ) (first second : List (Action Global)) → ends ticket (first ++ second) ≡ ends ticket first + ends ticket second
ends_both ticket first second =
    ap (how_many_ended ticket) (map-append action_view first second)
    ∙ sum_by-append (λ told. cond (is_end_of ticket told) 1 0) (told_by first) (told_by second)

one_more : (to rest here said from asked both : ℕ) → here + said ≡ from + asked → asked ≡ 0 → to + rest ≡ here → both ≡ said + rest
    → to + both ≡ from
one_more to rest here said from asked both first none second sums = omega (arith, first, none, second, sums)

calls_on : (now ticket : ℕ) (own : List Part) (from to : Agent Global) → ticket < first_own
    → AllByRecursion (λ part. IsOwn (happening part.given)) own → TookAll now from own to
    → waits ticket to + ends ticket (said_of own) ≡ waits ticket from
calls_on now ticket [] from to below are same = let e : waits ticket from ≡ waits ticket to = ap (waits ticket) same in omega (arith, e)
calls_on now ticket (part ∷ own) from to below are took =
    one_more (waits ticket to) (ends ticket (said_of own)) (waits ticket took.0) (ends ticket part.said) (waits ticket from)
    (how_many_asked ticket part.given) (ends ticket (part.said ++ said_of own))
    (took.1.calls ticket) (not_asked ticket part.given below are.0) (calls_on now ticket own took.0 to below are.1 took.2)
    (ends_both ticket part.said (said_of own))

at_first : (to rest here said from asked both told : ℕ) → here + said ≡ from + asked → to + rest ≡ here → both ≡ said + rest → told ≡ both
    → to + told ≡ from + asked
at_first to rest here said from asked both told first second sums same = omega (arith, first, second, sums, same)

-- A ticket that only the program has: it is below those of the device's own calls, or there are none.
abbrev pub IsPrograms : (ticket : ℕ) {now : ℕ} {given : AgentInput Global} {old session : Device} → Took now given old session → Type 0
IsPrograms ticket {session} took = (ticket < first_own) ⊎ ((took.own ≡ []) × (session.said.items ≡ took.said))

pub calls_told : (now ticket : ℕ) (given : AgentInput Global) (old session : Device) (took : Took now given old session)
    → IsPrograms ticket took
    → waits ticket session.agent + ends ticket session.said.items ≡ waits ticket old.agent + how_many_asked ticket given
calls_told now ticket given old session took (inl below) =
    at_first (waits ticket session.agent) (ends ticket (said_of took.own)) (waits ticket took.took.0) (ends ticket took.said)
    (waits ticket old.agent) (how_many_asked ticket given) (ends ticket (took.said ++ said_of took.own)) (ends ticket session.said.items)
    (took.took.1.calls ticket) (calls_on now ticket took.own took.took.0 session.agent below took.are_own took.took.2)
    (ends_both ticket took.said (said_of took.own))
    (ended_but ticket (took.said ++ said_of took.own) session.said.items below took.told)
calls_told now ticket given old session took (inr alone) =
    let last : took.took.0 ≡ session.agent = subst (λ own. TookAll now took.took.0 own session.agent) alone.0 took.took.2 in
    let here : waits ticket took.took.0 ≡ waits ticket session.agent = ap (waits ticket) last in
    let told : ends ticket session.said.items ≡ ends ticket took.said = ap (ends ticket) alone.1 in
    let first : waits ticket took.took.0 + ends ticket took.said ≡ waits ticket old.agent + how_many_asked ticket given
    = took.took.1.calls ticket in
    omega (arith, here, told, first)
