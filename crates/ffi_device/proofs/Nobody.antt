-- Where no contender is there, none hears, asks or tells anything.
use Rattle.std.proofs.Common.{◌≡◌, ◌++◌, ◌∙◌, inl, ℕ, Bool, true, false, ◌||◌, List, [], ◌∷◌, Option, None, IfSome, is_some}
use Rattle.std.proofs.Common.{option_map, string_bytes, refl, sym, ap, subst, true≢false}
use Rattle.std.proofs.lemmas.List.{append-nil}
use Rattle.std.specs.List.{list_any, FoldsTo}
use Rattle.std.specs.declared.alloc.Global.{Global}
use Rattle.zk_turns.specs.View.{View}
use Rattle.zk_session.specs.declared.states.State.TheVariants.{Idle, Connecting, Connected, Expired, Closed}
use Rattle.zk_contend.specs.Collections.{asker_of, hall_of, one_of, ForgetsCalls, KeepsCalls, StirsAbout, StirsAll, TellsAt, TellsIf}
use Rattle.zk_contend.specs.Contenders.{closed, noted, renewed}
use Rattle.zk_contend.specs.Dues.{IsAtRest}
use Rattle.zk_contend.specs.declared.collection.Contenders.{Contenders}
use Rattle.zk_contend.specs.declared.contender.LockContender.{LockContender}
use Rattle.zk_agent.specs.declared.action.Action.{Action}
use Rattle.zk_agent.specs.declared.action.Action.TheVariants as action
use Rattle.ffi_device.specs.Chains.{TellsAllBut}
use Rattle.ffi_device.specs.Contending.{is_own_answer, view_in, HearsAll, HearsWhere, Notes}
use Rattle.ffi_device.specs.declared.device.Device.{Device}
use Rattle.ffi_device.specs.inner.Contending.{HasNobody, WentOn}
use Rattle.ffi_device.proofs.OwnCalls.{but_none}

or_false : (a b : Bool) → (a || b) ≡ false → (a ≡ false) × (b ≡ false)
or_false false false e = (refl, refl)
or_false false true e = absurd (true≢false e)
or_false true b e = absurd (true≢false e)

module _ (contenders : Contenders Global) (nobody : (ticket : ℕ) → one_of contenders ticket ≡ None) where
  changes_none : (change : LockContender Global → LockContender Global) (ticket : ℕ)
      → one_of contenders ticket ≡ option_map change (one_of contenders ticket)
  changes_none change ticket = nobody ticket ∙ sym (ap (option_map change) (nobody ticket))

  is_none : (P : LockContender Global → Type 0) (ticket : ℕ) → IfSome (one_of contenders ticket) P
  is_none P ticket = subst (λ (one : Option (LockContender Global)). IfSome one P) (sym (nobody ticket)) tt

  never_there : (ticket : ℕ) → is_some (one_of contenders ticket) ≡ true → ⊥
  never_there ticket e = true≢false (sym e ∙ ap is_some (nobody ticket))

  stirs_all : StirsAll contenders
  stirs_all = record {
    awake = λ ticket there. absurd (never_there ticket there);
    untold = λ ticket there. absurd (never_there ticket there);
  }

  keeps : KeepsCalls contenders contenders
  keeps = record { calls = λ call. refl; next = refl }

  module _ (nothing : (call : ℕ) → asker_of contenders call ≡ None) where
    forgets : ForgetsCalls contenders contenders
    forgets = record { calls = nothing; next = refl }

    notes_nothing : (one : Action Global) → Notes one contenders contenders
    notes_nothing (action.Report path side event) = (
      changes_none (noted (string_bytes path) event),
      record {
        awake = λ ticket e. e;
        untold = λ ticket e. e;
        awake_now = λ ticket. is_none _ ticket;
        untold_now = λ ticket. is_none _ ticket;
      },
      keeps,
    )
    notes_nothing (action.State Idle) = ((λ ticket. refl), stirs_all, keeps)
    notes_nothing (action.State Connecting) = ((λ ticket. refl), stirs_all, keeps)
    notes_nothing (action.State Connected) = ((λ ticket. refl), stirs_all, keeps)
    notes_nothing (action.State Expired) = ((λ ticket. refl), stirs_all, keeps)
    notes_nothing (action.State Closed) = (changes_none closed, stirs_all, forgets)
    notes_nothing action.Renewed = (changes_none renewed, stirs_all, forgets)
    notes_nothing (action.Dial place within) = refl
    notes_nothing action.HangUp = refl
    notes_nothing (action.Send bytes) = refl
    notes_nothing (action.Introduce credential) = refl
    notes_nothing (action.Credential place code) = refl
    notes_nothing (action.Answer ticket outcome) = refl
    notes_nothing (action.TimedOut ticket was_sent) = refl
    notes_nothing (action.GivenUp fault) = refl
    notes_nothing (action.Shown ticket) = refl
    notes_nothing (action.Refused ticket why) = refl
    notes_nothing (action.Tree news) = refl

    hears_nothing : (view : View) (now : ℕ) (said : List (Action Global)) → list_any is_own_answer said ≡ false
        → HearsAll view now contenders said contenders
    hears_nothing view now [] programs = refl
    hears_nothing view now (one ∷ said) programs =
        let none = or_false (is_own_answer one) (list_any is_own_answer said) programs in (
          contenders,
          subst (λ b. HearsWhere b view now one contenders contenders) (sym none.0) (notes_nothing one),
          hears_nothing view now said none.1,
        )

  tells_nothing : (view : View) (tickets : List ℕ) → FoldsTo (TellsAt view) (hall_of contenders []) tickets (hall_of contenders [])
  tells_nothing view [] = refl
  tells_nothing view (ticket ∷ tickets) = (
    hall_of contenders [],
    subst (λ (one : Option (LockContender Global)). TellsIf view ticket one (hall_of contenders []) (hall_of contenders []))
        (sym (nobody ticket)) ((λ other. refl), refl),
    tells_nothing view tickets,
  )

pub nobody_went : (now : ℕ) (after : Device) → after.news.items ≡ [] → HasNobody after.contenders after.said.items
    → WentOn true now after.contenders after.agent after.said.items after
nobody_went now after silent none = record {
  own = [];
  goes = record {
    heard = after.contenders;
    hears = hears_nothing after.contenders none.nobody none.nothing (view_in after.agent) now after.said.items none.programs;
    looked = after.contenders;
    asked = refl;
    rested = after.contenders;
    rests = record {
      at_rest = λ ticket awake. is_none after.contenders none.nobody (IsAtRest (view_in after.agent) now) ticket;
      same = λ ticket. refl;
      calls = keeps after.contenders none.nobody;
      stays = λ ticket awake. inl awake;
    };
    tells = subst (λ news. FoldsTo (TellsAt (view_in after.agent)) (hall_of after.contenders []) after.contenders.stirred.untold.items
        (hall_of after.contenders news)) (sym silent)
        (tells_nothing after.contenders none.nobody (view_in after.agent) after.contenders.stirred.untold.items);
    calls = keeps after.contenders none.nobody;
  };
  took = refl;
  are_own = tt;
  told = subst (λ said. TellsAllBut said after.said.items) (sym (append-nil after.said.items)) (but_none after.said.items);
  alone = λ e. absurd (true≢false e);
}
