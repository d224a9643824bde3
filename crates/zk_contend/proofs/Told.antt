-- What is told of the contender of a ticket, and whether it is there still.
use Rattle.std.proofs.Common.{ℕ, ◌≡◌, ◌∙◌, ◌++◌, Bool, true, false, cond, List, Option, Some, None, nat_eq, refl, sym, ap, true≢false}
use Rattle.std.proofs.lemmas.Bool.Decides.{Decides-eqb}
use Rattle.std.proofs.lemmas.List.{append-nil}
use Rattle.std.specs.Map.{update}
use Rattle.std.specs.Option.{option_map_or}
use Rattle.zk_turns.specs.View.{View}
use Rattle.zk_contend.specs.declared.contender.LockContender.{LockContender}
use Rattle.zk_contend.specs.declared.status.LockStatus.{LockStatus}
use Rattle.zk_contend.specs.Collections.{news_at, unless_left, TellsIf}
use Rattle.zk_contend.specs.Contenders.{has_left}
use Rattle.zk_contend.specs.inner.Rolls.{hall, still, with_told, TellsOne}
use Rattle.zk_contend.specs.Standings.{news_of, told_after}

-- ---- at a ticket

module _ {X : Type 0} (old : ℕ → Option X) (ticket other : ℕ) where
  itself_by : (o : Option X) → old ticket ≡ o → (is_it : Bool) → nat_eq ticket other ≡ is_it → old other ≡ cond is_it o (old other)
  itself_by o at true e = ap old (sym ((Decides-eqb ticket other).0 e)) ∙ at
  itself_by o at false e = refl

  -- what is put where it is changes nothing
  pub same_there : (o : Option X) → old ticket ≡ o → old other ≡ update nat_eq old ticket o other
  same_there o at = itself_by o at (nat_eq ticket other) refl

here : (ticket : ℕ) → nat_eq ticket ticket ≡ true
here ticket = (Decides-eqb ticket ticket).1 refl

-- ---- whether it has left

left_by : {A : Type 0} (contender : LockContender A) (b : Bool) → b ≡ true → cond b None (Some contender) ≡ None
left_by contender true e = refl
left_by contender false e = absurd (true≢false (sym e))

stays_by : {A : Type 0} (contender : LockContender A) (b : Bool) → b ≡ false → cond b None (Some contender) ≡ Some contender
stays_by contender false e = refl
stays_by contender true e = absurd (true≢false e)

pub gone : {A : Type 0} (one : Option (LockContender A)) → option_map_or has_left one false ≡ true → still one ≡ None
gone None e = refl
gone (Some contender) e = left_by contender (has_left contender) e

pub stays : {A : Type 0} (one : Option (LockContender A)) → option_map_or has_left one false ≡ false → still one ≡ one
stays None e = refl
stays (Some contender) e = stays_by contender (has_left contender) e

-- ---- both

module _ {A : Type 0} (view : View) (ticket : ℕ) (old mid new : ℕ → Option (LockContender A)) (before after : List (ℕ × LockStatus)) where
  put_by : (o p : Option (LockContender A)) (other : ℕ) → mid ticket ≡ o → still o ≡ p → (is_it : Bool)
      → new other ≡ cond is_it (still (mid ticket)) (mid other) → mid other ≡ cond is_it o (old other)
      → new other ≡ cond is_it p (old other)
  put_by o p other at goes true is so = is ∙ ap still at ∙ goes
  put_by o p other at goes false is so = is ∙ so

  -- who was told of is there, unless it has left
  put_there : (o p : Option (LockContender A)) → ((other : ℕ) → mid other ≡ update nat_eq old ticket o other) → still o ≡ p
      → ((other : ℕ) → new other ≡ update nat_eq mid ticket (still (mid ticket)) other)
      → (other : ℕ) → new other ≡ update nat_eq old ticket p other
  put_there o p so goes is other =
      let at : mid ticket ≡ o = so ticket ∙ ap (λ b. cond b o (old ticket)) (here ticket) in
      put_by o p other at goes (nat_eq ticket other) (is other) (so other)

  pub told_of : (one : Option (LockContender A)) (told : Option LockStatus) → old ticket ≡ one
      → TellsOne view ticket one told old mid
      → ((other : ℕ) → new other ≡ update nat_eq mid ticket (still (mid ticket)) other)
      → after ≡ before ++ news_at ticket told
      → TellsIf view ticket one (hall old before) (hall new after)
  told_of None told at (none, same) is news = (
    λ other. put_there None None (λ o. same o ∙ same_there old ticket o None at) refl is other ∙ sym (same_there old ticket other None at),
    news ∙ ap (λ r. before ++ news_at ticket r) none ∙ append-nil before,
  )
  told_of (Some was) told at (stands, held, otherwise, is_news, so) is news = record {
    stands = stands;
    held = held;
    otherwise = otherwise;
    news = news ∙ ap (λ r. before ++ news_at ticket r) is_news;
    told = put_there (Some (with_told was (told_after was.told (news_of was.told stands))))
        (unless_left (with_told was (told_after was.told (news_of was.told stands)))) so refl is;
  }
