-- What a connection brings, one piece after another: pieces join, as what comes after begins where the one before has led; and where memory
-- runs out, at which of them.
use Rattle.std.proofs.Common.{◌≡◌, inl, inr, ℕ, Bool, false, List, [], ◌∷◌, ◌++◌, refl, subst, ap, ◌∙◌}
use Rattle.std.specs.List.{filter, FoldsTo}
use Rattle.zk_turns.specs.Turns.{Input, Opened, Bytes, Cut, Cuts, Output, Send, Answer, Report, Enters, Drop}
use Rattle.zk_turns.specs.View.{View}
use Rattle.zk_turns.specs.Rule.{after_signals}
use Rattle.zk_session.specs.declared.states.State.{State}
use Rattle.zk_session.specs.declared.states.State.TheVariants.{Idle, Connecting, Connected, Expired, Closed}
use Rattle.std.specs.Prelude.{codes, if◌then◌else◌}
use Rattle.script_live.specs.Trails.{is_given, Fails, Hears as JointHears, IsLoud, Trail}
use Rattle.script_words.specs.declared.stop.LineStop.{LineStop}
use Rattle.script_words.specs.declared.stop.LineStop.TheVariants as stops
use Rattle.script_words.specs.Stops.{IfHalted, IsWant}
use Rattle.script_live.specs.Heard.{is_waiting, tape, AllBrought, Awaits, Brings, Connects, Halts, HaltsAmong, HaltsAwaiting}
use Rattle.script_live.specs.inner.Heard.{HaltsBrought}
use Rattle.script_live.specs.Heard.{HaltsConnecting, Hears, IsBrought, MayEnd, Takes, Tape, TellsEach}

-- one output, given or sent, and what is printed of it
told_first : (output : Output) (given outputs : List Output) (text : List ℕ)
    → ((rest : List ℕ) → TellsEach given rest → TellsEach outputs rest)
    → TellsEach (if is_given output then output ∷ given else given) text → TellsEach (output ∷ outputs) text
told_first (Send bytes) given outputs text all tells = ([], text, refl, all text tells, refl)
told_first (Answer ticket transcript) given outputs text all tells = (tells.0, tells.1, tells.2, all tells.1 tells.3, tells.4)
told_first (Report path side event) given outputs text all tells = (tells.0, tells.1, tells.2, all tells.1 tells.3, tells.4)
told_first (Enters state) given outputs text all tells = (tells.0, tells.1, tells.2, all tells.1 tells.3, tells.4)
told_first (Drop fault) given outputs text all tells = (tells.0, tells.1, tells.2, all tells.1 tells.3, tells.4)

-- What is printed of the outputs that are given is what is printed of all.
pub told_all : (outputs : List Output) (text : List ℕ) → TellsEach (filter is_given outputs) text → TellsEach outputs text
told_all [] text none = none
told_all (output ∷ outputs) text tells = told_first output (filter is_given outputs) outputs text (told_all outputs) tells

-- one input, of which what is given is printed
pub heard : (old new : Trail) (input : Input) (before told after : List ℕ)
    → old.given ≡ [] → JointHears old input new → TellsEach new.given told
    → after ≡ before ++ told → Hears (tape old.view before) input (tape new.view after)
heard old new input before told after none hears tells printed =
    let given : new.given ≡ filter is_given hears.outputs = hears.given ∙ ap (λ g. g ++ filter is_given hears.outputs) none in
    record {
      outputs = hears.outputs;
      told = told;
      rule = hears.rule;
      tells = told_all hears.outputs told (subst (λ (g : List Output). TellsEach g told) given tells);
      printed = printed;
    }

-- want of memory at one input
pub halted : (stop : LineStop) (old new : Trail) (input : Input) (text : List ℕ) → Fails stop old new → IsLoud stop old.view input
    → IfHalted (Halts (tape old.view text) input (tape new.view text)) stop
halted (stops.Refused fault) old new input text fails loud = tt
halted stops.Halted old new input text fails loud = record { halts = record { loud = loud; halts = fails.0 }; printed = refl }
halted stops.Memory old new input text fails loud = tt

pub wants : (stop : LineStop) (old new : Trail) → Fails stop old new → IsWant stop
wants (stops.Refused fault) old new fails = fails
wants stops.Halted old new fails = tt
wants stops.Memory old new fails = tt

-- nothing came
pub nothing : (here : Tape) → Brings here here
nothing here = record { inputs = []; brought = tt; heard = refl }

both_brought : (first second : List Input) → AllBrought first → AllBrought second → AllBrought (first ++ second)
both_brought [] second none all = all
both_brought (input ∷ first) second each all = (each.0, both_brought first second each.1 all)

both_heard : (first second : List Input) (old between new : Tape) → FoldsTo Hears old first between → FoldsTo Hears between second new
    → FoldsTo Hears old (first ++ second) new
both_heard [] second old between new same rest = rw same rest
both_heard (input ∷ first) second old between new heard rest = (heard.0, heard.1, both_heard first second heard.0 between new heard.2 rest)

-- what comes first, and what comes after it
pub behind : (old between new : Tape) → Brings old between → Brings between new → Brings old new
behind old between new first second = record {
  inputs = first.inputs ++ second.inputs;
  brought = both_brought first.inputs second.inputs first.brought second.brought;
  heard = both_heard first.inputs second.inputs old between new first.heard second.heard;
}

-- one input
pub one : (old new : Tape) (input : Input) → IsBrought input → Hears old input new → Brings old new
one old new input is hears = record { inputs = input ∷ []; brought = (is, tt); heard = (new, hears, refl) }

-- the end, if it came
pub may_end : (old new : Tape) → MayEnd old new → Brings old new
may_end old new (inl same) = rw same (nothing old)
may_end old new (inr hears) = one old new Cut tt hears

-- a piece, and then perhaps the end
pub piece : (old new : Tape) (bytes : List ℕ) → Takes old (Bytes bytes) new → Brings old new
piece old new bytes takes =
    behind old takes.between new (one old takes.between (Bytes bytes) tt takes.hears) (may_end takes.between new takes.ends)

-- a call, and what is awaited
pub asks : (old between new : Tape) (input : Input) → Takes old input between → Brings between new → Awaits old input new
asks old between new input takes brings = record {
  between = takes.between;
  hears = takes.hears;
  brings = behind takes.between between new (may_end takes.between between takes.ends) brings;
}

-- a connection that begins
pub connects : (old ended between new : Tape) → MayEnd old ended → Takes ended Opened between → Brings between new
    → is_waiting new.view.standing.state ≡ false → Connects old new
connects old ended between new ends takes brings settled = record {
  between = ended;
  ends = ends;
  begins = inl (record { awaits = asks ended between new Opened takes brings; settled = settled });
}

-- none does
pub fails : (old : Tape) (view : View) (before after : List ℕ) → MayEnd old (tape view before) → after ≡ before ++ codes "down\n"
    → Connects old (tape view after)
fails old view before after ends are = record { between = tape view before; ends = ends; begins = inr (ap (tape view) are) }

-- the end, after what came
pub ended : (old between new : Tape) → Brings old between → Hears between Cut new → Brings old new
ended old between new brings hears = behind old between new brings (one between new Cut tt hears)

-- a client that goes on, in this state
abbrev going : State → View → View
going state view = record view { standing = record { halted = false; state = state } }

-- it does not wait where the connection has ended
going_cut : (state : State) (view : View) → is_waiting (after_signals (going state view) (Cuts ∷ [])).standing.state ≡ false
going_cut Idle view = refl
going_cut Connecting view = refl
going_cut Connected view = refl
going_cut Expired view = refl
going_cut Closed view = refl

is_going : (view : View) (halted : Bool)
    → halted ≡ false → record view { standing = record { halted = halted; state = view.standing.state } } ≡ going view.standing.state view
is_going view halted goes_on = rw goes_on refl

-- where the connection has ended, the client does not wait
pub cut_settles : (old new : Tape) → Hears old Cut new → is_waiting new.view.standing.state ≡ false
cut_settles old new hears =
    let same : old.view ≡ going old.view.standing.state old.view = is_going old.view old.view.standing.halted hears.rule.goes_on in
    ap (λ v. is_waiting v.standing.state) hears.rule.next
    ∙ (ap (λ v. is_waiting (after_signals v (Cuts ∷ [])).standing.state) same ∙ going_cut old.view.standing.state old.view)

-- what follows from a halt follows where there may be one
pub if_halted : (a b : Type 0) (stop : LineStop) → (a → b) → IfHalted a stop → IfHalted b stop
if_halted a b (stops.Refused fault) to h = tt
if_halted a b stops.Halted to h = to h
if_halted a b stops.Memory to h = tt

-- a halt at a piece, or where the connection ends after it
pub halts_piece : (old new : Tape) (bytes : List ℕ) (stop : LineStop)
    → IfHalted (HaltsAmong old (Bytes bytes ∷ Cut ∷ []) new) stop → IfHalted (HaltsBrought old new) stop
halts_piece old new bytes stop =
    if_halted (HaltsAmong old (Bytes bytes ∷ Cut ∷ []) new) (HaltsBrought old new) stop
    (λ halts. record { inputs = Bytes bytes ∷ Cut ∷ []; brought = (tt, (tt, tt)); halts = halts })

-- a halt at the end
pub halts_cut : (old new : Tape) (stop : LineStop) → IfHalted (Halts old Cut new) stop → IfHalted (HaltsBrought old new) stop
halts_cut old new stop =
    if_halted (Halts old Cut new) (HaltsBrought old new) stop (λ halts. record { inputs = Cut ∷ []; brought = (tt, tt); halts = inl halts })

among_behind : (first second : List Input) (old between new : Tape) → FoldsTo Hears old first between → HaltsAmong between second new
    → HaltsAmong old (first ++ second) new
among_behind [] second old between new same halts = rw same halts
among_behind (input ∷ first) second old between new heard halts =
    inr (heard.0, heard.1, among_behind first second heard.0 between new heard.2 halts)

brought_behind : (old between new : Tape) → Brings old between → HaltsBrought between new → HaltsBrought old new
brought_behind old between new brings halts = record {
  inputs = brings.inputs ++ halts.inputs;
  brought = both_brought brings.inputs halts.inputs brings.brought halts.brought;
  halts = among_behind brings.inputs halts.inputs old between new brings.heard halts.halts;
}

-- a halt after what came
pub halts_behind : (old between new : Tape) (stop : LineStop)
    → Brings old between → IfHalted (HaltsBrought between new) stop → IfHalted (HaltsBrought old new) stop
halts_behind old between new stop brings =
    if_halted (HaltsBrought between new) (HaltsBrought old new) stop (brought_behind old between new brings)

-- a halt at the end, after what came
pub halts_ended : (old between new : Tape) (stop : LineStop)
    → Brings old between → IfHalted (Halts between Cut new) stop → IfHalted (HaltsBrought old new) stop
halts_ended old between new stop brings halts = halts_behind old between new stop brings (halts_cut between new stop halts)

-- a halt at the end, after an input
pub halts_second : (old between new : Tape) (input : Input) (stop : LineStop) → Hears old input between
    → IfHalted (Halts between Cut new) stop → IfHalted (HaltsAmong old (input ∷ Cut ∷ []) new) stop
halts_second old between new input stop hears =
    if_halted (Halts between Cut new) (HaltsAmong old (input ∷ Cut ∷ []) new) stop (λ halts. inr (between, hears, inl halts))

awaiting_first : (old new : Tape) (input : Input) → HaltsAmong old (input ∷ Cut ∷ []) new → HaltsAwaiting old input new
awaiting_first old new input halts = record { inputs = Cut ∷ []; brought = (tt, tt); halts = halts }

awaiting_behind : (old between new : Tape) (input : Input)
    → Takes old input between → HaltsBrought between new → HaltsAwaiting old input new
awaiting_behind old between new input takes halts =
    let rest : HaltsBrought takes.between new = brought_behind takes.between between new (may_end takes.between between takes.ends) halts in
    record { inputs = rest.inputs; brought = rest.brought; halts = inr (takes.between, takes.hears, rest.halts) }

-- a halt at a call
pub halts_asked : (old new : Tape) (input : Input) (stop : LineStop) → IfHalted (HaltsAmong old (input ∷ Cut ∷ []) new) stop
    → IfHalted (HaltsAwaiting old input new) stop
halts_asked old new input stop =
    if_halted (HaltsAmong old (input ∷ Cut ∷ []) new) (HaltsAwaiting old input new) stop (awaiting_first old new input)

-- a halt at what is awaited
pub halts_awaiting : (old between new : Tape) (input : Input) (stop : LineStop)
    → Takes old input between → IfHalted (HaltsBrought between new) stop
    → IfHalted (HaltsAwaiting old input new) stop
halts_awaiting old between new input stop takes =
    if_halted (HaltsBrought between new) (HaltsAwaiting old input new) stop (awaiting_behind old between new input takes)

-- a halt where a connection begins
pub halts_opened : (old ended new : Tape) (stop : LineStop) → MayEnd old ended → IfHalted (HaltsAmong ended (Opened ∷ Cut ∷ []) new) stop
    → IfHalted (HaltsConnecting old new) stop
halts_opened old ended new stop ends =
    if_halted (HaltsAmong ended (Opened ∷ Cut ∷ []) new) (HaltsConnecting old new) stop
    (λ halts. inr (ended, ends, awaiting_first ended new Opened halts))

-- a halt before the server has answered
pub halts_settling : (old ended between new : Tape) (stop : LineStop)
    → MayEnd old ended → Takes ended Opened between → IfHalted (HaltsBrought between new) stop
    → IfHalted (HaltsConnecting old new) stop
halts_settling old ended between new stop ends takes =
    if_halted (HaltsBrought between new) (HaltsConnecting old new) stop
    (λ halts. inr (ended, ends, awaiting_behind ended between new Opened takes halts))
