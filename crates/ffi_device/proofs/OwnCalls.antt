-- What is told of what an agent says while contenders hear it, and what it takes for them, one call after the other.
use Rattle.std.proofs.Common.{◌≡◌, ◌++◌, ◌≤◌, ◌∙◌, inl, inr, ℕ, Bool, true, false, not, nat_lt, List, [], ◌∷◌, refl, sym, ap, subst}
use Rattle.std.proofs.Common.{append_assoc, true≢false}
use Rattle.std.proofs.lemmas.Bool.{ltb-false}
use Rattle.std.proofs.lemmas.List.{append-nil}
use Rattle.std.proofs.lemmas.Fn.{FoldsTo-push}
use Rattle.std.proofs.lemmas.Grind.{flat_map-append}
use Rattle.std.specs.Prelude.{Result, Ok, Err, OnOk}
use Rattle.std.specs.List.{flat_map, AllByRecursion, FoldsTo}
use Rattle.std.specs.declared.alloc.Global.{Global}
use Rattle.zk_turns.specs.View.{View}
use Rattle.zk_conclusions.specs.declared.revision.Revision.{Revision}
use Rattle.zk_contend.specs.Collections.{hall_of, KeepsCalls, TellsAt}
use Rattle.zk_contend.specs.declared.collection.Contenders.{Contenders}
use Rattle.zk_agent.specs.Agents.{trail_of, BreaksOff, IsBroken}
use Rattle.zk_agent.specs.declared.action.Action.{Action}
use Rattle.zk_agent.specs.declared.action.Action.TheVariants as action
use Rattle.zk_agent.specs.declared.agent.Agent.{Agent}
use Rattle.zk_agent.proofs.Breaking.{after_comes, beside}
use Rattle.ffi_device.specs.Chains.{first_own, IsOwn, IsOwnAnswer, Part, TellsAllBut, TookAll}
use Rattle.ffi_device.specs.inner.Chains.{IsHeardOf, TellsMore}
use Rattle.ffi_device.specs.Contending.{is_own_answer, view_in, AskedAll, AskedOne, GoesOnWhere, HearsAll}
use Rattle.ffi_device.specs.Happenings.{happening}
use Rattle.ffi_device.specs.Taking.{AgentTook}
use Rattle.ffi_device.specs.declared.device.Device.{Device}
use Rattle.ffi_device.specs.inner.Contending.{AsksAll, AsksMore, WentOn}

pub but_both : {A : Type 0} (said more told rest : List (Action A)) → TellsAllBut said told → TellsAllBut more rest
    → TellsAllBut (said ++ more) (told ++ rest)
but_both [] more told rest none but = subst (λ t. TellsAllBut more (t ++ rest)) (sym none) but
but_both (one ∷ said) more told rest (inl first) but = inl (first.0, but_both said more told rest first.1 but)
but_both (one ∷ said) more told rest (inr first) but =
    inr (first.0 ++ rest, ap (λ t. t ++ rest) first.1, but_both said more first.0 rest first.2 but)

pub none_told : {A : Type 0} (was : List (Action A)) → TellsMore [] was was
none_told was = record { told = []; but = refl; is = sym (append-nil was) }

pub more_told : {A : Type 0} (said : List (Action A)) (one : Action A) (was here is : List (Action A))
    → TellsMore said was here → IsHeardOf one here is → TellsMore (said ++ one ∷ []) was is
more_told said one was here is more (inl heard) = record {
  told = more.told;
  but = subst (TellsAllBut (said ++ one ∷ [])) (append-nil more.told)
      (but_both said (one ∷ []) more.told [] more.but (inl (heard.0, refl)));
  is = heard.1 ∙ more.is;
}
more_told said one was here is more (inr heard) = record {
  told = more.told ++ one ∷ [];
  but = but_both said (one ∷ []) more.told (one ∷ []) more.but (inr ([], refl, refl));
  is = heard ∙ ap (λ t. t ++ one ∷ []) more.is ∙ append_assoc was more.told (one ∷ []);
}

pub told_on : {A : Type 0} (said more was here is : List (Action A)) → TellsMore said was here → TellsMore more here is
    → TellsMore (said ++ more) was is
told_on said more was here is first second = record {
  told = first.told ++ second.told;
  but = but_both said more first.told second.told first.but second.but;
  is = second.is ∙ ap (λ t. t ++ second.told) first.is ∙ append_assoc was first.told second.told;
}

-- ---- what they ask

abbrev Pair : Type 0
Pair = Agent Global × Contenders Global

pub none_asked : (now : ℕ) (before : Pair) (was : List (Action Global)) → AsksMore now before before was was
none_asked now before was = record { own = []; asked = refl; tells = none_told was }

said_both : (own : List Part) (part : Part)
    → flat_map (λ (part : Part). part.said) own ++ part.said ≡ flat_map (λ (part : Part). part.said) (own ++ part ∷ [])
said_both own part =
    ap (λ t. flat_map (λ (part : Part). part.said) own ++ t) (sym (append-nil part.said))
    ∙ sym (flat_map-append (λ (part : Part). part.said) own (part ∷ []))

pub one_asked : (now : ℕ) (before from to : Pair) (part : Part) (was here is : List (Action Global))
    → AsksMore now before from was here → AskedOne now from part to → TellsMore part.said here is → AsksMore now before to was is
one_asked now before from to part was here is more one tells = record {
  own = more.own ++ part ∷ [];
  asked = FoldsTo-push (λ (from : Pair) (part : Part) to. AskedOne now from part to) before more.own from part to more.asked one;
  tells = subst (λ said. TellsMore said was is) (said_both more.own part)
      (told_on (flat_map (λ (part : Part). part.said) more.own) part.said was here is more.tells tells);
}

pub took_all : (now : ℕ) (own : List Part) (before after : Pair) → AskedAll now before own after → TookAll now before.0 own after.0
took_all now [] before after same = ap (λ (pair : Pair). pair.0) same
took_all now (part ∷ own) before after asked = (asked.0.0, asked.1.took, took_all now own asked.0 after asked.2)

all_own : (now : ℕ) (own : List Part) (before after : Pair) → AskedAll now before own after
    → AllByRecursion (λ part. IsOwn (happening part.given)) own
all_own now [] before after same = tt
all_own now (part ∷ own) before after asked =
    (subst IsOwn (sym asked.1.is) asked.1.own, all_own now own asked.0 after asked.2)

-- ---- where memory runs out

-- What broke off after an agent took these broke off after it took the first of them.
pub after_all : (now : ℕ) (parts : List Part) (from to : Agent Global) (new : View) → TookAll now from parts to
    → BreaksOff to.timeout_ms (view_in to) new → BreaksOff from.timeout_ms (view_in from) new
after_all now [] from to new same broke =
    subst (λ (agent : Agent Global). BreaksOff agent.timeout_ms (view_in agent) new) (sym same) broke
after_all now (part ∷ parts) from to new took broke =
    after_comes _ _ (trail_of from []) (trail_of took.0 part.said) new took.1.comes (after_all now parts took.0 to new took.2 broke)

-- An agent that took these, and then took no more.
pub broke_after : (now : ℕ) (own : List Part) (before after : Pair) → AskedAll now before own after → IsBroken before.0 after.0
broke_after now own before after asked =
    after_all now own before.0 after.0 (view_in after.0) (took_all now own before after asked)
    (beside after.0.timeout_ms (view_in after.0) (view_in after.0) refl)

pub broke_on : (now : ℕ) (own : List Part) (before here : Pair) (after : Agent Global) → AskedAll now before own here
    → IsBroken here.0 after → IsBroken before.0 after
broke_on now own before here after asked broke =
    after_all now own before.0 here.0 (view_in after) (took_all now own before here asked) broke

pub broke_first : (now : ℕ) (part : Part) (from here : Agent Global) (after : Agent Global) → AgentTook now part.given from here part.said
    → IsBroken here after → IsBroken from after
broke_first now part from here after took broke =
    after_all now (part ∷ []) from here (view_in after) (here, took, refl) broke

-- ---- a step

pub went_on : (now : ℕ) (joined heard rested : Contenders Global) (agent : Agent Global) (said here : List (Action Global)) (after : Device)
    → HearsAll (view_in agent) now joined said heard → TellsMore said [] here
    → AsksAll now (agent, heard) after.agent rested here after.said.items
    → FoldsTo (TellsAt (view_in after.agent)) (hall_of rested []) rested.stirred.untold.items (hall_of after.contenders after.news.items)
    → KeepsCalls rested after.contenders → WentOn true now joined agent said after
went_on now joined heard rested agent said here after hears told asks tells calls =
    let own : List Part = asks.more.own in
    let all = told_on said (flat_map (λ (part : Part). part.said) own) [] here after.said.items told asks.more.tells in
    record {
      own = own;
      goes = record {
        heard = heard;
        hears = hears;
        looked = asks.looked;
        asked = asks.more.asked;
        rested = rested;
        rests = asks.rests;
        tells = tells;
        calls = calls;
      };
      took = took_all now own (agent, heard) (after.agent, asks.looked) asks.more.asked;
      are_own = all_own now own (agent, heard) (after.agent, asks.looked) asks.more.asked;
      told = subst (TellsAllBut (said ++ flat_map (λ (part : Part). part.said) own)) (sym all.is) all.but;
      alone = λ e. absurd (true≢false e);
    }

pub but_none : {A : Type 0} (said : List (Action A)) → TellsAllBut said said
but_none [] = refl
but_none (one ∷ said) = inr (said, refl, but_none said)

pub stays_quiet : (now : ℕ) (after : Device) → after.news.items ≡ []
    → WentOn false now after.contenders after.agent after.said.items after
stays_quiet now after silent = record {
  own = [];
  goes = record { nobody = refl; silent = silent };
  took = refl;
  are_own = tt;
  told = subst (λ said. TellsAllBut said after.said.items) (sym (append-nil after.said.items)) (but_none after.said.items);
  alone = λ e. (refl, refl);
}

-- The revision is of no matter.
goes_with : (b : Bool) (now : ℕ) (joined : Contenders Global) (agent : Agent Global) (said : List (Action Global)) (own : List Part)
    (device : Device) (revision : Revision) → GoesOnWhere b now joined agent said own device
    → GoesOnWhere b now joined agent said own (record device { revision = revision })
goes_with true now joined agent said own device revision goes = record {
  heard = goes.heard;
  hears = goes.hears;
  looked = goes.looked;
  asked = goes.asked;
  rested = goes.rested;
  rests = goes.rests;
  tells = goes.tells;
  calls = goes.calls;
}
goes_with false now joined agent said own device revision goes = record { nobody = goes.nobody; silent = goes.silent }

pub went_with : (b : Bool) (now : ℕ) (joined : Contenders Global) (agent : Agent Global) (said : List (Action Global))
    (device : Device) (revision : Revision) → WentOn b now joined agent said device
    → WentOn b now joined agent said (record device { revision = revision })
went_with b now joined agent said device revision went = record {
  own = went.own;
  goes = goes_with b now joined agent said went.own device revision went.goes;
  took = went.took;
  are_own = went.are_own;
  told = went.told;
  alone = went.alone;
}

-- ---- answers

from_test : (first ticket : ℕ) (b : Bool) → nat_lt ticket first ≡ b → not b ≡ true → first ≤ ticket
from_test first ticket true e is = absurd (true≢false (sym is))
from_test first ticket false e is = ltb-false ticket first e

pub own_answer : {A : Type 0} (one : Action A) → is_own_answer one ≡ true → IsOwnAnswer one
own_answer (action.Answer ticket outcome) own = from_test first_own ticket (nat_lt ticket first_own) refl own
own_answer _ own = absurd (true≢false (sym own))

-- ---- results

pub on_ok : {T E : Type 0} {P Q : Type 0} (r : Result T E) → (P → Q) → OnOk r P → OnOk r Q
on_ok (Ok x) then_so is = then_so is
on_ok (Err e) then_so is = tt
